use Rattle.std.proofs.Common.{◌≡◌, ℕ, List, [], Option, sym, subst}
use Rattle.std.proofs.lemmas.Result.{on_ok_weaker}
use Rattle.react_core.specs.declared.outside.Event.{Event}
use Rattle.react_core.specs.Core.{Core}
use Rattle.bus_peers.specs.inside.Alarms.{Alarmed}
use Rattle.bus_peers.specs.inside.RoundEvents.{Round}
use Rattle.bus_peers.specs.inside.Rounds.{Rounded}
use Rattle.bus_visit.specs.declared.visiting.Slot.{Slot}
use Rattle.react_core.specs.Outer.{keeps-then, round-in-all}
use Rattle.react_core.specs.Outer as part
use Rattle.bus_peers.proofs.FrameLemmas.{fell-round, counts-same, counts-then, made-then}
use Rattle.bus_peers.proofs.SlotLemmas.{refuses-more, told-both}
use Rattle.bus_peers.proofs.CallRounds.{going-round, round-told, round-wires}
use Rattle.bus_peers.proofs.FailingRounds.{going-round-fails, round-then-fails}
use Rattle.bus_peers.proofs.MadeLemmas.{on-poller, if-poller-by, on-poller-by}
use Rattle.bus_peers.proofs.RoundAlarms.{alarmed-round}
use Rattle.bus_peers.proofs.rounds.go_round.Goals as goal

seen : (r0 r1 : Option (List Event)) (now now' : ℕ) (old new : Core) (wires woken : List ℕ) → wires ≡ woken →
    (r : Round) × Rounded r0 r1 now now' old new woken r → (r : Round) × Rounded r0 r1 now now' old new wires r
seen r0 r1 now now' old new wires woken same x =
    let P : List ℕ → Type 0 = λ w. (r : Round) × Rounded r0 r1 now now' old new w r in subst P (sym same) x

alarmed-seen : (r0 r1 : Option (List Event)) (now now' : ℕ) (old new : Core) (slots : List Slot) (woken : List ℕ) →
    (r : Round) × Rounded r0 r1 now now' old new woken r → Alarmed now old [] slots → Alarmed now' new woken slots
alarmed-seen r0 r1 now now' old new slots woken (r, x) alarmed =
    alarmed-round r0 r1 now now' old new woken r slots x alarmed

pub visit_woken-requires-clause-registered : goal.visit_woken-requires-clause-registered
visit_woken-requires-clause-registered g c =
    round-wires _ _ _ _ c.args.reactor.now.core c.round.new.reactor.core c.args.slots.now.items c.as_slice.result.now
    c.requires.owned c.requires.alarmed
    (seen _ _ _ _ c.args.reactor.now.core c.round.new.reactor.core c.as_slice.result.now c.in_ok-woken.woken.items
    c.as_slice.ensures.value c.in_ok-woken.ensures.rounded) c.in_ok-woken.ensures.tags

pub visit_woken-requires-clause-alarmed : goal.visit_woken-requires-clause-alarmed
visit_woken-requires-clause-alarmed g c =
    alarmed-seen _ _ _ _ c.args.reactor.now.core c.round.new.reactor.core c.args.slots.now.items c.as_slice.result.now
    (seen _ _ _ _ c.args.reactor.now.core c.round.new.reactor.core c.as_slice.result.now c.in_ok-woken.woken.items
    c.as_slice.ensures.value c.in_ok-woken.ensures.rounded) c.requires.alarmed

pub returns-clause-went : goal.returns-clause-went
returns-clause-went g c =
    on_ok_weaker c.visit_woken.result (λ went. going-round _ _ _ _ _
    c.args.reactor.now.core c.round.new.reactor.core c.visit_woken.new.reactor.core c.args.slots.now.items
    c.visit_woken.new.slots.items c.as_slice.result.now c.requires.owned c.requires.alarmed
    (seen _ _ _ _ c.args.reactor.now.core c.round.new.reactor.core c.as_slice.result.now c.in_ok-woken.woken.items
    c.as_slice.ensures.value c.in_ok-woken.ensures.rounded) went) c.visit_woken.ensures.went

pub returns-clause-told : goal.returns-clause-told
returns-clause-told g c =
    on_ok_weaker c.visit_woken.result (λ told. told-both _ _ _
    c.args.reactor.now.core c.round.new.reactor.core c.visit_woken.new.reactor.core
    (round-told _ _ _ _ c.args.reactor.now.core c.round.new.reactor.core c.as_slice.result.now
    (seen _ _ _ _ c.args.reactor.now.core c.round.new.reactor.core c.as_slice.result.now c.in_ok-woken.woken.items
    c.as_slice.ensures.value c.in_ok-woken.ensures.rounded)) told) c.visit_woken.ensures.told

pub returns-clause-refused : goal.returns-clause-refused
returns-clause-refused g c =
    refuses-more c.visit_woken.result _ _ _
    c.args.reactor.now.core c.round.new.reactor.core c.visit_woken.new.reactor.core
    (round-told _ _ _ _ c.args.reactor.now.core c.round.new.reactor.core c.as_slice.result.now
    (seen _ _ _ _ c.args.reactor.now.core c.round.new.reactor.core c.as_slice.result.now c.in_ok-woken.woken.items
    c.as_slice.ensures.value c.in_ok-woken.ensures.rounded)) c.visit_woken.ensures.refused

pub returns-clause-timers : goal.returns-clause-timers
returns-clause-timers g c = made-then _ _ _ c.args.reactor.now.core c.round.new.reactor.core c.visit_woken.new.reactor.core c.round.ensures.timers c.visit_woken.ensures.timers

pub returns-in_err-woken-clause-keeps : goal.returns-in_err-woken-clause-keeps
returns-in_err-woken-clause-keeps g c = round-in-all c.args.reactor.now.events _ _ c.round.ensures.keeps

pub returns-clause-keeps : goal.returns-clause-keeps
returns-clause-keeps g c =
    keeps-then (part.All c.args.reactor.now.events)
    _ _ _ (round-in-all c.args.reactor.now.events _ _ c.round.ensures.keeps)
    (c.visit_woken.ensures.keeps c.args.reactor.now.events)

pub returns-clause-counted : goal.returns-clause-counted
returns-clause-counted g c =
    on_ok_weaker c.visit_woken.result (λ counted. counts-then c.args.slots.now.items c.args.slots.now.items
    c.visit_woken.new.slots.items _ _ _ (fell-round c.args.reactor.now.events _ _ c.round.ensures.keeps)
    (counts-same c.args.slots.now.items _ _ (fell-round c.args.reactor.now.events _ _ c.round.ensures.keeps)) counted) c.visit_woken.ensures.counted

pub returns-in_err-woken-clause-failed : goal.returns-in_err-woken-clause-failed
returns-in_err-woken-clause-failed g c =
    on-poller _ c.from_residual.result _ c.from_residual.ensures.1
    (if-poller-by _ _ c.in_err-woken.field-0.0 (λ failed.
    going-round-fails _ _ _ _ c.args.reactor.now.core c.round.new.reactor.core c.args.slots.now.items c.requires.owned
    c.requires.alarmed c.in_err-woken.ensures.tags failed) c.in_err-woken.ensures.failed)

pub returns-clause-failed : goal.returns-clause-failed
returns-clause-failed g c =
    on-poller-by _ _ c.visit_woken.result (λ fails.
    round-then-fails _ _ _ _ _ _ c.args.reactor.now.core c.round.new.reactor.core c.visit_woken.new.reactor.core
    c.args.slots.now.items c.as_slice.result.now c.requires.owned c.requires.alarmed
    (seen _ _ _ _ c.args.reactor.now.core c.round.new.reactor.core c.as_slice.result.now c.in_ok-woken.woken.items
    c.as_slice.ensures.value c.in_ok-woken.ensures.rounded)
    (rw c.round.ensures.keeps.ample at fails)) c.visit_woken.ensures.failed
