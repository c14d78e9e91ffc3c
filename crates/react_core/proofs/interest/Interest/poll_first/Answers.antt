use Rattle.std.proofs.Common.{◌∙◌, ap, refl, inl, inr}
use Rattle.slab.specs.Slab.{entries}
use Rattle.react_core.specs.declared.interest.Waiting.{Waiting}
use Rattle.react_core.specs.Places.{Direction}
use Rattle.react_core.specs.Ticks.{place_of}
use Rattle.react_core.proofs.Holding.{counts-come, counts-roomy, tied-come, tied-roomy, tied-new, entries-come, at_key-futures_in}
use Rattle.react_core.proofs.interest.Interest.poll_first.Goals as goal

pub invariant_of-self-3 : goal.invariant_of-self-3
invariant_of-self-3 g c =
    let more = ap entries c.reserve.ensures.rest_kept in
    let came = c.insert_reserved.ensures in
    record {
      polled = c.self.invariant.polled;
      futures = tied-come c.self.inside.tick c.reserve.new.self c.insert_reserved.new.self c.insert_reserved.result _
          (tied-roomy c.self.inside.futures c.reserve.new.self more c.self.inside.tick c.self.invariant.futures) came.was_vacant came.updates
          (rw c.begun-waiting.ensures (record { order = tied-new c.self.inside.tick c.args.ticker _ (ap (λ (d : Direction). d.reported) c.self.view_is) c.requires; tick = inr (inl refl) }));
      taken = counts-come c.reserve.new.self c.insert_reserved.new.self c.insert_reserved.result c.self.inside.taken c.args.task _
          (counts-roomy c.self.inside.futures c.reserve.new.self more c.self.inside.taken c.self.invariant.taken) came.was_vacant came.updates (ap (λ (w : Waiting). w.task) c.begun-waiting.ensures);
    }

pub returns-clause-free : goal.returns-clause-free
returns-clause-free g c =
    rw (← c.self.view_is, ← ap entries c.reserve.ensures.rest_kept)
    (at_key-futures_in c.reserve.new.self c.insert_reserved.result ∙ ap place_of c.insert_reserved.ensures.was_vacant)

pub returns-clause-direction : goal.returns-clause-direction
returns-clause-direction g c =
    let free = at_key-futures_in c.reserve.new.self c.insert_reserved.result ∙ ap place_of c.insert_reserved.ensures.was_vacant in
    rw (
      ← c.self.view_is,
      ← ap entries c.reserve.ensures.rest_kept,
      free,
      entries-come c.reserve.new.self c.insert_reserved.new.self c.insert_reserved.result _ c.insert_reserved.ensures.was_vacant
          c.insert_reserved.ensures.updates,
      c.begun-waiting.ensures,
    ) refl
