use Rattle.std.proofs.Common.{◌≡◌, ◌≤◌, ◌+◌, ◌-◌, ◌^◌, ℕ, Bool, Option, List, [], ◌∷◌, ◌++◌, length, vec_capacity}
use Rattle.std.proofs.Common.{Some, slice_get, refl, sym, ◌∙◌, ap, subst, arith}
use Rattle.std.specs.List.{list_all}
use Rattle.std.proofs.lemmas.List.{length-append}
use Rattle.std.proofs.lemmas.Option.{slice_get-get_or}
use Rattle.react_core.specs.declared.outside.Event.{Event}
use Rattle.react_core.specs.Core.{Core}
use Rattle.bus_session.specs.declared.session.Session.{Session}
use Rattle.bus_visit.specs.declared.visiting.Slot.{Slot}
use Rattle.bus_peers.specs.inside.Closing.{counting}
use Rattle.bus_visit.specs.Shown.{tags}
use Rattle.bus_peers.specs.inside.Slots.{Owned, CallStandsAfter, Refuses, is_open_slot}
use Rattle.bus_visit.specs.First.{FirstVisits}
use Rattle.react_core.specs.Outer.{keeps-same, keeps-then, visit-in-all}
use Rattle.react_core.specs.Outer as part
use Rattle.bus_peers.specs.inside.SlotFaults.{AllCounted}
use Rattle.bus_peers.proofs.FrameLemmas.{fell-all, first-made, made-none, made-then, all-none, all-more}
use Rattle.bus_peers.proofs.VisitTells.{made-first}
use Rattle.bus_peers.proofs.AlarmLemmas.{alarmed-none, alarmed-first}
use Rattle.bus_peers.specs.inside.Alarms.{Alarmed}
use Rattle.bus_peers.proofs.SlotLemmas.{test-more, no_wire-above, owned-none, owned-first, first-open, refuses-more}
use Rattle.bus_peers.proofs.CallVisits.{going-start, going-first, went-told}
use Rattle.bus_visit.specs.Failing.{FirstVisitFails, FirstVisitRunsOut}
use Rattle.bus_peers.specs.inside.Failures.{CallFails, CallRunsOut}
use Rattle.bus_peers.proofs.FailingVisits.{going-first-fails, going-first-runs-out}
use Rattle.bus_peers.proofs.MadeLemmas.{on-poller, from-visit, visit-refuses, visit-counts, visit-exhausts}
use Rattle.bus_peers.proofs.open.open_first.Goals as goal

-- the last number was the last one before the visit
runs-out-last : (s : Session) (w : ℕ) (ample : Bool) (r0 r1 : Option (List Event)) (core : Core) →
    FirstVisitRunsOut s w ample r0 r1 core → core.made ≡ 2 ^ 64 - 1
runs-out-last s w ample r0 r1 core f = sym (ap (λ (k : Core). k.made) f.comes.core) ∙ f.comes.comes.last

pub loop-session-init : goal.loop-session-init
loop-session-init g c =
    let all : length c.deref-session-items.result.now ≡ length c.deref-session-items.result.now - 0 = omega arith in
    let W : ℕ → ℕ → Type 0 =
    λ rounds n. CallStandsAfter c.deref-session-items.result.now rounds (counting n 0) 0 c.args.reactor.now.core
    ((g.O.Tells.outer c.args.outside.now).events) ((g.O.Tells.outer c.args.outside.now).events)
    c.args.reactor.now.core c.args.slots.now.items in
    let R : List Session → Type 0 = λ x. length x ≤ vec_capacity c.args.slots.now in
    record {
      same = c.deref-session-items.ensures.value;
      wire = refl;
      len = ap length c.requires.unused;
      room = subst R (sym c.deref-session-items.ensures.value) c.requires.room;
      went = λ rounds. subst (W rounds)
          all (going-start c.deref-session-items.result.now rounds ((g.O.Tells.outer c.args.outside.now).events)
          c.args.reactor.now.core c.args.slots.now.items c.requires.rests c.requires.empty c.requires.unused);
      stands = ap (list_all is_open_slot) c.requires.unused;
      owned = owned-none c.args.slots.now.items (tags c.args.reactor.now.core.sources) c.requires.unused (ap tags c.requires.empty);
      poller = refl;
      timers = made-none _ c.args.reactor.now.core;
      alarmed = alarmed-none _ c.args.reactor.now.core c.args.slots.now.items c.requires.timeless c.requires.unused;
      few = omega arith;
      keeps = λ room. keeps-same (part.All room) _;
      counted = all-none c.args.slots.now.items _ _ c.requires.unused;
      reports = refl;
    }

pub first_visit-requires-clause-rests : goal.first_visit-requires-clause-rests
first_visit-requires-clause-rests g c = (c.loop-session.invariant.went 0).2.rests

pub first_visit-requires-clause-new : goal.first_visit-requires-clause-new
first_visit-requires-clause-new g c =
    no_wire-above (length c.loop-session.slots.items) c.loop-session.wire (tags c.loop-session.reactor.core.sources) c.loop-session.invariant.owned.below
    (omega (arith, c.loop-session.invariant.len, c.loop-session.invariant.wire))

pub returns-in_err-first_visit-clause-refused : goal.returns-in_err-first_visit-clause-refused
returns-in_err-first_visit-clause-refused g c =
    let here : Refuses c.from_residual.result ((g.O.Tells.outer c.loop-session.outside).events)
    ((g.O.Tells.outer c.first_visit.new.outside).events) c.loop-session.reactor.core c.first_visit.new.reactor.core =
    visit-refuses c.from_residual.result c.in_err-first_visit.field-0.0 _ _ _ _ _ _ _ c.from_residual.ensures.1
    c.in_err-first_visit.ensures.cause c.in_err-first_visit.ensures.refused in
    refuses-more c.from_residual.result ((g.O.Tells.outer c.args.outside.now).events)
    ((g.O.Tells.outer c.loop-session.outside).events) ((g.O.Tells.outer c.first_visit.new.outside).events)
    c.args.reactor.now.core c.loop-session.reactor.core c.first_visit.new.reactor.core
    (went-told c.deref-session-items.result.now 0 0
    (counting (length c.deref-session-items.result.now - c.loop-session.session-index) c.loop-session.session-index)
    c.args.reactor.now.core ((g.O.Tells.outer c.args.outside.now).events)
    ((g.O.Tells.outer c.loop-session.outside).events)
    c.loop-session.reactor.core c.loop-session.slots.items (c.loop-session.invariant.went 0)) here

pub loop-session-preserved : goal.loop-session-preserved
loop-session-preserved g c =
    let here : c.loop-session.session-index ≡ length c.loop-session.slots.items = sym c.loop-session.invariant.len in
    let at : slice_get c.deref-session-items.result.now c.loop-session.session-index ≡ Some c.session-item.result =
    slice_get-get_or c.deref-session-items.result.now c.loop-session.session-index c.session-item.result c.loop-session-test.true ∙ ap Some (sym c.session-item.is) in
    let V : ℕ → Type 0 =
    λ w. FirstVisits c.session-item.result w ((g.O.Tells.outer c.loop-session.outside).events)
    ((g.O.Tells.outer c.first_visit.new.outside).events)
    c.loop-session.reactor.core c.first_visit.new.reactor.core c.in_ok-first_visit.field-0 in
    let W : ℕ → List Slot → Type 0 =
    λ rounds x.
    CallStandsAfter c.deref-session-items.result.now rounds
    (counting (length c.deref-session-items.result.now - (c.loop-session.session-index + 1))
    (c.loop-session.session-index + 1)) 0 c.args.reactor.now.core ((g.O.Tells.outer c.args.outside.now).events)
    ((g.O.Tells.outer c.first_visit.new.outside).events) c.first_visit.new.reactor.core x in
    let O : List Slot → Type 0 = λ x. Owned x (tags c.first_visit.new.reactor.core.sources) in
    let A : List Slot → Type 0 = λ x. AllCounted 0 x (g.O.Tells.outer c.args.outside.now) (g.O.Tells.outer c.first_visit.new.outside) in
    let L : List Slot → Type 0 =
    λ x. Alarmed (g.O.Tells.outer c.first_visit.new.outside).moment c.first_visit.new.reactor.core [] x in
    let one : c.first_visit.new.reactor.core.made ≤ c.loop-session.reactor.core.made + 1 =
    made-first c.session-item.result c.loop-session.wire _ _ c.loop-session.reactor.core c.first_visit.new.reactor.core
    c.in_ok-first_visit.field-0 c.in_ok-first_visit.ensures.visited in
    record {
      same = c.loop-session.invariant.same;
      wire = ap (λ n. n + 1) c.loop-session.invariant.wire;
      len = ap length c.push_reserved.ensures.items ∙ (length-append c.loop-session.slots.items (c.in_ok-first_visit.field-0 ∷ []) ∙ ap (λ n. n + 1) c.loop-session.invariant.len);
      room = omega (arith, c.loop-session.invariant.room, c.push_reserved.ensures.capacity);
      went = λ rounds. subst (W rounds) {x = c.loop-session.slots.items ++ c.in_ok-first_visit.field-0 ∷ []} (sym {A = List Slot} c.push_reserved.ensures.items)
          (going-first c.deref-session-items.result.now rounds c.loop-session.session-index c.args.reactor.now.core
          ((g.O.Tells.outer c.args.outside.now).events) ((g.O.Tells.outer c.loop-session.outside).events)
          ((g.O.Tells.outer c.first_visit.new.outside).events)
          c.loop-session.reactor.core c.first_visit.new.reactor.core c.loop-session.slots.items
          c.session-item.result c.in_ok-first_visit.field-0 here at
          (subst V c.loop-session.invariant.wire c.in_ok-first_visit.ensures.visited)
          (c.loop-session.invariant.went rounds));
      stands = ap (list_all is_open_slot) c.push_reserved.ensures.items ∙ test-more is_open_slot c.loop-session.slots.items c.in_ok-first_visit.field-0 c.loop-session.invariant.stands
          (first-open c.session-item.result c.loop-session.wire ((g.O.Tells.outer c.loop-session.outside).events)
          ((g.O.Tells.outer c.first_visit.new.outside).events)
          c.loop-session.reactor.core c.first_visit.new.reactor.core c.in_ok-first_visit.field-0
          c.in_ok-first_visit.ensures.visited);
      owned = subst O {x = c.loop-session.slots.items ++ c.in_ok-first_visit.field-0 ∷ []}
          (sym {A = List Slot} c.push_reserved.ensures.items)
          (owned-first c.loop-session.wire c.loop-session.slots.items (tags c.loop-session.reactor.core.sources)
          (tags c.first_visit.new.reactor.core.sources) c.in_ok-first_visit.field-0
          (c.loop-session.invariant.wire ∙ here) c.in_ok-first_visit.ensures.tags c.loop-session.invariant.owned);
      poller = c.in_ok-first_visit.ensures.cause ∙ c.loop-session.invariant.poller;
      timers = made-then _ _ _ c.args.reactor.now.core c.loop-session.reactor.core c.first_visit.new.reactor.core
          c.loop-session.invariant.timers
          (first-made c.first_visit.result c.session-item.result c.loop-session.wire _ _ c.loop-session.reactor.core
          c.first_visit.new.reactor.core _
          c.first_visit.ensures.visited c.first_visit.ensures.refused);
      alarmed = subst L {x = c.loop-session.slots.items ++ c.in_ok-first_visit.field-0 ∷ []}
          (sym {A = List Slot} c.push_reserved.ensures.items)
          (alarmed-first c.session-item.result c.loop-session.wire _ _ _ _ c.loop-session.reactor.core
          c.first_visit.new.reactor.core c.loop-session.slots.items c.in_ok-first_visit.field-0
          (c.loop-session.invariant.wire ∙ here) c.in_ok-first_visit.ensures.visited c.in_ok-first_visit.ensures.forward
          c.loop-session.invariant.alarmed);
      few = omega (arith, one, c.loop-session.invariant.few);
      keeps = λ room. keeps-then (part.All room) _ _ _ (c.loop-session.invariant.keeps room) (visit-in-all c.loop-session.wire room _ _ c.first_visit.ensures.keeps);
      counted = subst A {x = c.loop-session.slots.items ++ c.in_ok-first_visit.field-0 ∷ []} (sym {A = List Slot} c.push_reserved.ensures.items)
          (all-more c.loop-session.wire c.loop-session.slots.items c.in_ok-first_visit.field-0 _ _ _
          (c.loop-session.invariant.wire ∙ here) (fell-all 0 _ _ (c.loop-session.invariant.keeps 0))
          c.first_visit.ensures.keeps c.loop-session.invariant.counted c.in_ok-first_visit.ensures.counted);
      reports = c.in_ok-first_visit.ensures.reports ∙ c.loop-session.invariant.reports;
    }

pub returns-clause-went : goal.returns-clause-went
returns-clause-went g c = λ rounds.
    let none : length c.deref-session-items.result.now - c.loop-session.session-index ≡ 0 = omega (arith, c.loop-session-test.false) in
    let W : ℕ → Type 0 =
    λ n. CallStandsAfter c.deref-session-items.result.now rounds (counting n c.loop-session.session-index) 0
    c.args.reactor.now.core ((g.O.Tells.outer c.args.outside.now).events)
    ((g.O.Tells.outer c.loop-session.outside).events) c.loop-session.reactor.core c.loop-session.slots.items in
    let U : List Session → Type 0 =
    λ x. CallStandsAfter x rounds [] 0 c.args.reactor.now.core ((g.O.Tells.outer c.args.outside.now).events)
    ((g.O.Tells.outer c.loop-session.outside).events) c.loop-session.reactor.core c.loop-session.slots.items in
    subst U c.loop-session.invariant.same (subst W none (c.loop-session.invariant.went rounds))

pub returns-clause-rests : goal.returns-clause-rests
returns-clause-rests g c = (c.loop-session.invariant.went 0).2.rests

pub returns-in_err-first_visit-clause-timers : goal.returns-in_err-first_visit-clause-timers
returns-in_err-first_visit-clause-timers g c =
    made-then _ _ _ c.args.reactor.now.core c.loop-session.reactor.core c.first_visit.new.reactor.core
    c.loop-session.invariant.timers
    (first-made c.first_visit.result c.session-item.result c.loop-session.wire _ _ c.loop-session.reactor.core
    c.first_visit.new.reactor.core _ c.first_visit.ensures.visited
    c.first_visit.ensures.refused)

pub returns-in_err-first_visit-clause-keeps : goal.returns-in_err-first_visit-clause-keeps
returns-in_err-first_visit-clause-keeps g c = λ room. keeps-then (part.All room) _ _ _ (c.loop-session.invariant.keeps room) (visit-in-all c.loop-session.wire room _ _ c.first_visit.ensures.keeps)

pub returns-in_err-first_visit-clause-failed : goal.returns-in_err-first_visit-clause-failed
returns-in_err-first_visit-clause-failed g c =
    let here : c.loop-session.session-index ≡ length c.loop-session.slots.items = sym c.loop-session.invariant.len in
    let at : slice_get c.deref-session-items.result.now c.loop-session.session-index ≡ Some c.session-item.result =
    slice_get-get_or c.deref-session-items.result.now c.loop-session.session-index c.session-item.result
    c.loop-session-test.true ∙ ap Some (sym c.session-item.is) in
    let F : ℕ → Type 0 =
    λ w. FirstVisitFails c.session-item.result w (g.O.Tells.outer c.loop-session.outside).ample
    ((g.O.Tells.outer c.loop-session.outside).events) ((g.O.Tells.outer c.first_visit.new.outside).events)
    c.loop-session.reactor.core in
    let C : ℕ → List Session → Type 0 =
    λ rounds x. CallFails x rounds (g.O.Tells.outer c.loop-session.outside).ample c.args.reactor.now.core
    ((g.O.Tells.outer c.args.outside.now).events) ((g.O.Tells.outer c.first_visit.new.outside).events)
    c.first_visit.new.reactor.core in
    on-poller _ c.from_residual.result _ c.from_residual.ensures.1
    (from-visit _ _ c.in_err-first_visit.field-0.0 (λ f rounds.
    rw (c.loop-session.invariant.keeps 0).ample at
    (subst (C rounds) c.loop-session.invariant.same
    (going-first-fails c.deref-session-items.result.now rounds c.loop-session.session-index _ c.args.reactor.now.core _ _ _
    c.loop-session.reactor.core c.first_visit.new.reactor.core c.loop-session.slots.items c.session-item.result
    here c.loop-session-test.true at
    c.loop-session.invariant.owned c.in_err-first_visit.ensures.refused.1.tags
    c.in_err-first_visit.ensures.refused.1.ticker (subst F c.loop-session.invariant.wire f)
    (c.loop-session.invariant.went rounds)))) c.in_err-first_visit.ensures.failed)

pub returns-in_err-first_visit-clause-cause : goal.returns-in_err-first_visit-clause-cause
returns-in_err-first_visit-clause-cause g c =
    visit-counts c.from_residual.result c.in_err-first_visit.field-0.0 _ _ _ c.from_residual.ensures.1
    c.in_err-first_visit.ensures.cause c.loop-session.invariant.poller

pub returns-in_err-first_visit-clause-exhausted : goal.returns-in_err-first_visit-clause-exhausted
returns-in_err-first_visit-clause-exhausted g c =
    let here : c.loop-session.session-index ≡ length c.loop-session.slots.items = sym c.loop-session.invariant.len in
    let at : slice_get c.deref-session-items.result.now c.loop-session.session-index ≡ Some c.session-item.result =
    slice_get-get_or c.deref-session-items.result.now c.loop-session.session-index c.session-item.result
    c.loop-session-test.true ∙ ap Some (sym c.session-item.is) in
    let F : ℕ → Type 0 =
    λ w. FirstVisitRunsOut c.session-item.result w (g.O.Tells.outer c.loop-session.outside).ample
    ((g.O.Tells.outer c.loop-session.outside).events) ((g.O.Tells.outer c.first_visit.new.outside).events)
    c.loop-session.reactor.core in
    let C : ℕ → List Session → Type 0 =
    λ rounds x. CallRunsOut x rounds (g.O.Tells.outer c.loop-session.outside).ample c.args.reactor.now.core
    ((g.O.Tells.outer c.args.outside.now).events) ((g.O.Tells.outer c.first_visit.new.outside).events)
    c.first_visit.new.reactor.core in
    let few : c.loop-session.reactor.core.made ≤ c.args.reactor.now.core.made + c.loop-session.session-index =
    omega (arith, c.loop-session.invariant.few, c.loop-session.invariant.wire) in
    visit-exhausts _ _ c.from_residual.result c.in_err-first_visit.field-0.0 _ _ c.from_residual.ensures.1
    c.in_err-first_visit.ensures.cause (λ f rounds.
    rw (c.loop-session.invariant.keeps 0).ample at
    (subst (C rounds) c.loop-session.invariant.same
    (going-first-runs-out c.deref-session-items.result.now rounds c.loop-session.session-index _ c.args.reactor.now.core
    _ _ _ c.loop-session.reactor.core c.first_visit.new.reactor.core c.loop-session.slots.items c.session-item.result
    here c.loop-session-test.true at c.loop-session.invariant.owned c.in_err-first_visit.ensures.refused.1.tags
    c.in_err-first_visit.ensures.refused.1.ticker few (runs-out-last _ _ _ _ _ _ f)
    (subst F c.loop-session.invariant.wire f)
    (c.loop-session.invariant.went rounds)))) c.in_err-first_visit.ensures.exhausted
