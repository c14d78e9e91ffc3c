use Rattle.std.proofs.Common.{◌∙◌, sym, ap, refl}
use Rattle.std.specs.Option.{option_copied}
use Rattle.react_core.specs.Places.{last_round}
use Rattle.react_core.specs.Readiness.{fresh_at}
use Rattle.react_core.proofs.Holding.{tied-at, held-entry, at_key-futures_in}
use Rattle.react_core.proofs.interest.Interest.is_future_fresh.Goals as goal

pub is_fresh-requires : goal.is_fresh-requires
is_fresh-requires c =
    tied-at c.self.inside.tick c.self.inside.futures c.args.place c.in-Some.waiting.now c.self.invariant.futures (sym c.get.ensures ∙ ap option_copied c.in-Some.is)

pub returns-in-Some : goal.returns-in-Some
returns-in-Some c =
    rw (← c.self.view_is)
    (c.is_fresh.ensures
    ∙ ap (fresh_at (last_round c.self.inside.tick)) (sym (held-entry c.self.inside.futures c.args.place c.in-Some.waiting.now (sym c.get.ensures ∙ ap option_copied c.in-Some.is))))

pub returns-in-None : goal.returns-in-None
returns-in-None c = rw (← c.self.view_is, at_key-futures_in, ← c.get.ensures, c.in-None.is) refl
