use Rattle.std.proofs.Common.{rules, ◌≡◌, ◌≢◌, ℕ, inl, inr, Bool, true, false, List, [], ap, ◌∙◌, arith}
use Rattle.std.proofs.lemmas.Bool.{both_ways}
use Rattle.react_core.specs.Core.{Core, IsIdle, timers_applied}
use Rattle.bus_visit.specs.Shown.{IsBetweenCalls, tags}
use Rattle.bus_visit.specs.declared.visiting.Slot.{Slot}
use Rattle.bus_peers.specs.inside.Alarms.{Alarmed}
use Rattle.bus_peers.specs.inside.Rounds.{OnExhausted}
use Rattle.bus_peers.specs.inside.Slots.{Owned, Refuses}
use Rattle.react_core.specs.Outer.{keeps-same, keeps-then}
use Rattle.react_core.specs.Outer as part
use Rattle.bus_peers.proofs.FrameLemmas.{fell-all, counts-none, counts-then, made-none, made-then}
use Rattle.bus_peers.proofs.RoundAlarms.{none-live}
use Rattle.bus_peers.proofs.SlotLemmas.{refuses-more, told-both}
use Rattle.bus_peers.proofs.CallRounds.{rounds-more, rounds-end, rounds-stuck}
use Rattle.bus_peers.proofs.FailingRounds.{rounds-then-fail}
use Rattle.bus_peers.proofs.MadeLemmas.{on-poller, if-poller-by}
use Rattle.bus_peers.proofs.rounds.go_rounds.Goals as goal

-- where no source is left no timer is
timeless : (now : ℕ) (core : Core) (slots : List Slot) → Owned slots (tags core.sources) → Alarmed now core [] slots →
    core.sources ≡ [] → timers_applied core ≡ []
timeless now core slots owned alarmed none =
    alarmed.timers ∙ none-live alarmed.mark 0 slots (tags core.sources) (ap tags none) owned.each

asleep : (now : ℕ) (core : Core) (slots : List Slot) (b : Bool) → (IsIdle core → b ≡ true) → IsBetweenCalls core →
    Owned slots (tags core.sources) → Alarmed now core [] slots → b ≡ false → core.sources ≢ []
asleep now core slots b idle rests owned alarmed off =
    λ e. both_ways b off (idle (rests.idle, e, timeless now core slots owned alarmed e))

pub returns-in_err-go_round-clause-refused : goal.returns-in_err-go_round-clause-refused
returns-in_err-go_round-clause-refused g c =
    let here : Refuses c.from_residual.result ((g.O.Tells.outer c.loop-done.outside).events)
    ((g.O.Tells.outer c.go_round.new.outside).events) c.loop-done.reactor.core c.go_round.new.reactor.core =
    search rules in
    refuses-more c.from_residual.result ((g.O.Tells.outer c.args.outside.now).events)
    ((g.O.Tells.outer c.loop-done.outside).events) ((g.O.Tells.outer c.go_round.new.outside).events)
    c.args.reactor.now.core c.loop-done.reactor.core c.go_round.new.reactor.core c.loop-done.invariant.told here

pub returns-in_err-go_round-clause-stuck : goal.returns-in_err-go_round-clause-stuck
returns-in_err-go_round-clause-stuck g c =
    let off : c.is_idle.result ≡ false = search rules in
    let here : OnExhausted c.from_residual.result ((c.go_round.new.reactor ≡ c.loop-done.reactor) ×
    ((g.O.Tells.outer c.go_round.new.outside).events ≡ (g.O.Tells.outer c.loop-done.outside).events) ×
    (c.go_round.new.slots.items ≡ c.loop-done.slots.items)) = search rules in
    rounds-stuck c.from_residual.result c.args.rounds c.loop-done.done ((g.O.Tells.outer c.args.outside.now).events)
    ((g.O.Tells.outer c.loop-done.outside).events) ((g.O.Tells.outer c.go_round.new.outside).events)
    c.args.reactor.now.core c.loop-done.reactor c.go_round.new.reactor c.args.slots.now.items c.loop-done.slots.items
    c.go_round.new.slots.items
    c.loop-done.invariant.len c.loop-done.invariant.owned c.loop-done-test.true (asleep _ c.loop-done.reactor.core
    c.loop-done.slots.items c.is_idle.result c.is_idle.ensures.1 c.loop-done.invariant.rests
    c.loop-done.invariant.owned c.loop-done.invariant.alarmed off) c.loop-done.invariant.went here

pub loop-done-preserved : goal.loop-done-preserved
loop-done-preserved g c =
    let off : c.is_idle.result ≡ false = search rules in
    record {
      few = omega (arith, c.loop-done-test.true);
      went = rounds-more c.args.rounds c.loop-done.done ((g.O.Tells.outer c.args.outside.now).events)
          ((g.O.Tells.outer c.loop-done.outside).events) ((g.O.Tells.outer c.go_round.new.outside).events)
          c.args.reactor.now.core c.loop-done.reactor.core c.go_round.new.reactor.core c.args.slots.now.items
          c.loop-done.slots.items c.go_round.new.slots.items
          c.loop-done.invariant.len c.loop-done-test.true (asleep _ c.loop-done.reactor.core
          c.loop-done.slots.items c.is_idle.result c.is_idle.ensures.1 c.loop-done.invariant.rests
          c.loop-done.invariant.owned c.loop-done.invariant.alarmed off) c.loop-done.invariant.went
          c.in_ok-go_round.ensures.went;
      rests = c.in_ok-go_round.ensures.rests;
      stands = c.in_ok-go_round.ensures.stands;
      owned = c.in_ok-go_round.ensures.owned;
      len = c.in_ok-go_round.ensures.len ∙ c.loop-done.invariant.len;
      told = told-both ((g.O.Tells.outer c.args.outside.now).events) ((g.O.Tells.outer c.loop-done.outside).events)
          ((g.O.Tells.outer c.go_round.new.outside).events)
          c.args.reactor.now.core c.loop-done.reactor.core c.go_round.new.reactor.core c.loop-done.invariant.told
          c.in_ok-go_round.ensures.told;
      poller = c.in_ok-go_round.ensures.cause ∙ c.loop-done.invariant.poller;
      timers = made-then _ _ _ c.args.reactor.now.core c.loop-done.reactor.core c.go_round.new.reactor.core c.loop-done.invariant.timers c.go_round.ensures.timers;
      alarmed = c.in_ok-go_round.ensures.alarmed;
      keeps = keeps-then (part.All c.args.reactor.now.events) _ _ _ c.loop-done.invariant.keeps (rw c.loop-done.invariant.reports at c.go_round.ensures.keeps);
      counted =
          counts-then c.args.slots.now.items c.loop-done.slots.items c.go_round.new.slots.items _ _ _
          (fell-all c.args.reactor.now.events _ _ c.loop-done.invariant.keeps)
          c.loop-done.invariant.counted c.in_ok-go_round.ensures.counted;
      reports = c.in_ok-go_round.ensures.reports ∙ c.loop-done.invariant.reports;
    }

pub returns-else-not-is_idle-clause-went : goal.returns-else-not-is_idle-clause-went
returns-else-not-is_idle-clause-went g c =
    let up : c.is_idle.result ≡ true = search rules in
    rounds-end c.args.rounds c.loop-done.done ((g.O.Tells.outer c.args.outside.now).events)
    ((g.O.Tells.outer c.loop-done.outside).events)
    c.args.reactor.now.core c.loop-done.reactor.core c.args.slots.now.items c.loop-done.slots.items
    c.loop-done.invariant.len
    (inr (c.is_idle.ensures.0 up).1) c.loop-done.invariant.went

pub returns-after-loop-done-clause-went : goal.returns-after-loop-done-clause-went
returns-after-loop-done-clause-went g c =
    let all : c.loop-done.done ≡ c.args.rounds = omega (arith, c.loop-done.invariant.few, c.loop-done-test.false) in
    rounds-end c.args.rounds c.loop-done.done ((g.O.Tells.outer c.args.outside.now).events)
    ((g.O.Tells.outer c.loop-done.outside).events)
    c.args.reactor.now.core c.loop-done.reactor.core c.args.slots.now.items c.loop-done.slots.items
    c.loop-done.invariant.len
    (inl all) c.loop-done.invariant.went

pub returns-in_err-go_round-clause-keeps : goal.returns-in_err-go_round-clause-keeps
returns-in_err-go_round-clause-keeps g c = keeps-then (part.All c.args.reactor.now.events) _ _ _ c.loop-done.invariant.keeps (rw c.loop-done.invariant.reports at c.go_round.ensures.keeps)

pub loop-done-init : goal.loop-done-init
loop-done-init g c = search (rules, keeps-same, counts-none, made-none)

pub returns-in_err-go_round-clause-failed : goal.returns-in_err-go_round-clause-failed
returns-in_err-go_round-clause-failed g c =
    let off : c.is_idle.result ≡ false = search rules in
    on-poller _ c.from_residual.result _ c.from_residual.ensures.1
    (if-poller-by _ _ c.in_err-go_round.field-0.0 (λ fails.
    rounds-then-fail _ c.args.rounds c.loop-done.done _ _ _ c.args.reactor.now.core c.loop-done.reactor.core
    c.go_round.new.reactor.core c.args.slots.now.items c.loop-done.slots.items c.loop-done.invariant.len
    c.loop-done-test.true
    (asleep _ c.loop-done.reactor.core c.loop-done.slots.items c.is_idle.result c.is_idle.ensures.1
    c.loop-done.invariant.rests c.loop-done.invariant.owned c.loop-done.invariant.alarmed off)
    c.loop-done.invariant.went (rw c.loop-done.invariant.keeps.ample at fails)) c.in_err-go_round.ensures.failed)

pub returns-in_err-go_round-clause-timers : goal.returns-in_err-go_round-clause-timers
returns-in_err-go_round-clause-timers g c =
    made-then _ _ _ c.args.reactor.now.core c.loop-done.reactor.core c.go_round.new.reactor.core c.loop-done.invariant.timers c.go_round.ensures.timers
