use Rattle.std.proofs.Common.{rules, ◌≡◌, ◌<◌, ◌+◌, ℕ, List, ◌∷◌, length, drop, slice_index_or, refl, ◌∙◌, arith, add-one, drop-cons}
use Rattle.std.proofs.lemmas.List.{drop_all}
use Rattle.bus_visit.specs.Shown.{tags}
use Rattle.bus_peers.specs.inside.Slots.{Refuses}
use Rattle.react_core.specs.Outer.{keeps-same, keeps-then}
use Rattle.react_core.specs.Outer as part
use Rattle.bus_peers.proofs.FailingVisits.{visits-then-fail}
use Rattle.bus_peers.proofs.MadeLemmas.{on-poller, if-poller-by}
use Rattle.bus_peers.proofs.FrameLemmas.{fell-all, counts-none, counts-then, made-none, made-then}
use Rattle.bus_peers.proofs.SlotLemmas.{refuses-more, told-both, rise-next, have-rest, wire-below, goes-next, goes-all}
use Rattle.bus_peers.proofs.rounds.visit_woken.Goals as goal

next : (wires : List ℕ) (i : ℕ) → i < length wires → drop i wires ≡ slice_index_or wires i 0 ∷ drop (i + 1) wires
next wires i less = rw (add-one, drop-cons wires i 0) refl

pub overflow_cast-wire : goal.overflow_cast-wire
overflow_cast-wire g c =
    let less : slice_index_or c.args.woken.now c.loop-wire.wire-index 0 < length c.args.slots.now.items =
    wire-below (slice_index_or c.args.woken.now c.loop-wire.wire-index 0) (length c.args.slots.now.items)
    (drop c.loop-wire.wire-index c.args.woken.now) (drop (c.loop-wire.wire-index + 1) c.args.woken.now)
    c.loop-wire.slots.items (tags c.loop-wire.reactor.core.sources)
    (next c.args.woken.now c.loop-wire.wire-index c.loop-wire-test.true)
    c.loop-wire.invariant.registered c.loop-wire.invariant.owned c.loop-wire.invariant.len in
    omega (arith, less, c.requires.few)

pub returns-in_err-visit_slot-clause-refused : goal.returns-in_err-visit_slot-clause-refused
returns-in_err-visit_slot-clause-refused g c =
    let here : Refuses c.from_residual.result ((g.O.Tells.outer c.loop-wire.outside).events)
    ((g.O.Tells.outer c.visit_slot.new.outside).events) c.loop-wire.reactor.core c.visit_slot.new.reactor.core =
    search rules in
    refuses-more c.from_residual.result ((g.O.Tells.outer c.args.outside.now).events)
    ((g.O.Tells.outer c.loop-wire.outside).events) ((g.O.Tells.outer c.visit_slot.new.outside).events)
    c.args.reactor.now.core c.loop-wire.reactor.core c.visit_slot.new.reactor.core c.loop-wire.invariant.told here

pub loop-wire-preserved : goal.loop-wire-preserved
loop-wire-preserved g c = record {
  went = goes-next (slice_index_or c.args.woken.now c.loop-wire.wire-index 0)
      c.args.woken.now (drop c.loop-wire.wire-index c.args.woken.now)
      (drop (c.loop-wire.wire-index + 1) c.args.woken.now) ((g.O.Tells.outer c.args.outside.now).events)
      ((g.O.Tells.outer c.loop-wire.outside).events) ((g.O.Tells.outer c.visit_slot.new.outside).events)
      c.args.reactor.now.core c.loop-wire.reactor.core c.visit_slot.new.reactor.core
      c.args.slots.now.items c.loop-wire.slots.items c.visit_slot.new.slots.items (next c.args.woken.now
      c.loop-wire.wire-index c.loop-wire-test.true) c.loop-wire.invariant.went c.in_ok-visit_slot.ensures.went;
  rests = c.in_ok-visit_slot.ensures.rests;
  stands = c.in_ok-visit_slot.ensures.stands;
  owned = c.in_ok-visit_slot.ensures.owned;
  len = c.in_ok-visit_slot.ensures.len ∙ c.loop-wire.invariant.len;
  rise = rise-next (slice_index_or c.args.woken.now c.loop-wire.wire-index 0)
      (drop c.loop-wire.wire-index c.args.woken.now) (drop (c.loop-wire.wire-index + 1) c.args.woken.now)
      (next c.args.woken.now c.loop-wire.wire-index c.loop-wire-test.true) c.loop-wire.invariant.rise;
  registered =
      have-rest (slice_index_or c.args.woken.now c.loop-wire.wire-index 0)
      (drop c.loop-wire.wire-index c.args.woken.now) (drop (c.loop-wire.wire-index + 1) c.args.woken.now)
      (tags c.loop-wire.reactor.core.sources) (tags c.visit_slot.new.reactor.core.sources)
      (next c.args.woken.now c.loop-wire.wire-index c.loop-wire-test.true)
      c.loop-wire.invariant.rise c.in_ok-visit_slot.ensures.others c.loop-wire.invariant.registered;
  told = told-both ((g.O.Tells.outer c.args.outside.now).events) ((g.O.Tells.outer c.loop-wire.outside).events)
      ((g.O.Tells.outer c.visit_slot.new.outside).events)
      c.args.reactor.now.core c.loop-wire.reactor.core c.visit_slot.new.reactor.core c.loop-wire.invariant.told
      c.in_ok-visit_slot.ensures.told;
  poller = c.in_ok-visit_slot.ensures.cause ∙ c.loop-wire.invariant.poller;
  timers = made-then _ _ _ c.args.reactor.now.core c.loop-wire.reactor.core c.visit_slot.new.reactor.core c.loop-wire.invariant.timers c.visit_slot.ensures.timers;
  alarmed =
      let w = slice_index_or c.args.woken.now c.loop-wire.wire-index 0 in
      let rest = drop (c.loop-wire.wire-index + 1) c.args.woken.now in
      let split = next c.args.woken.now c.loop-wire.wire-index c.loop-wire-test.true in
      c.in_ok-visit_slot.ensures.alarmed rest (rw split at c.loop-wire.invariant.alarmed);
  keeps = λ room. keeps-then (part.All room) _ _ _ (c.loop-wire.invariant.keeps room) (c.visit_slot.ensures.keeps room);
  counted =
      counts-then c.args.slots.now.items c.loop-wire.slots.items c.visit_slot.new.slots.items _ _ _
      (fell-all 0 _ _ (c.loop-wire.invariant.keeps 0))
      c.loop-wire.invariant.counted c.in_ok-visit_slot.ensures.counted;
  reports = c.in_ok-visit_slot.ensures.reports ∙ c.loop-wire.invariant.reports;
}

pub returns-clause-went : goal.returns-clause-went
returns-clause-went g c =
    goes-all c.args.woken.now (drop c.loop-wire.wire-index c.args.woken.now)
    ((g.O.Tells.outer c.args.outside.now).events) ((g.O.Tells.outer c.loop-wire.outside).events)
    c.args.reactor.now.core c.loop-wire.reactor.core c.args.slots.now.items c.loop-wire.slots.items
    (drop_all c.loop-wire.wire-index c.args.woken.now c.loop-wire-test.false) c.loop-wire.invariant.went

pub returns-in_err-visit_slot-clause-keeps : goal.returns-in_err-visit_slot-clause-keeps
returns-in_err-visit_slot-clause-keeps g c = λ room. keeps-then (part.All room) _ _ _ (c.loop-wire.invariant.keeps room) (c.visit_slot.ensures.keeps room)

pub loop-wire-init : goal.loop-wire-init
loop-wire-init g c = search (rules, keeps-same, counts-none, made-none)

pub returns-in_err-visit_slot-clause-failed : goal.returns-in_err-visit_slot-clause-failed
returns-in_err-visit_slot-clause-failed g c =
    let w = slice_index_or c.args.woken.now c.loop-wire.wire-index 0 in
    let rest = drop (c.loop-wire.wire-index + 1) c.args.woken.now in
    let split = next c.args.woken.now c.loop-wire.wire-index c.loop-wire-test.true in
    on-poller _ c.from_residual.result _ c.from_residual.ensures.1
    (if-poller-by _ _ c.in_err-visit_slot.field-0.0 (λ fails.
    visits-then-fail _ c.args.woken.now (w ∷ rest) _ _ _ c.args.reactor.now.core c.loop-wire.reactor.core
    c.visit_slot.new.reactor.core c.args.slots.now.items c.loop-wire.slots.items
    (rw split at c.loop-wire.invariant.went)
    (rw (c.loop-wire.invariant.keeps 0).ample at (fails rest))) c.in_err-visit_slot.ensures.failed)

pub returns-clause-alarmed : goal.returns-clause-alarmed
returns-clause-alarmed g c =
    rw (drop_all c.loop-wire.wire-index c.args.woken.now c.loop-wire-test.false) at c.loop-wire.invariant.alarmed

pub returns-in_err-visit_slot-clause-timers : goal.returns-in_err-visit_slot-clause-timers
returns-in_err-visit_slot-clause-timers g c =
    made-then _ _ _ c.args.reactor.now.core c.loop-wire.reactor.core c.visit_slot.new.reactor.core c.loop-wire.invariant.timers c.visit_slot.ensures.timers
