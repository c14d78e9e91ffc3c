use Rattle.std.proofs.Common.{[]}
use Rattle.std.proofs.lemmas.Result.{on_ok_weaker}
use Rattle.react_core.specs.Outer.{keeps-then}
use Rattle.react_core.specs.Outer as part
use Rattle.bus_peers.proofs.SlotLemmas.{refuses-more}
use Rattle.bus_peers.proofs.CallVisits.{went-told}
use Rattle.bus_peers.proofs.FrameLemmas.{fell-all}
use Rattle.bus_peers.proofs.MadeLemmas.{on-poller, if-poller-by, on-poller-by}
use Rattle.bus_peers.proofs.FrameLemmas.{made-then}
use Rattle.bus_peers.proofs.OpenLemmas.{halts-first, halts-rounds}
use Rattle.bus_peers.proofs.open.open_rounds.Goals as goal

pub returns-clause-refused : goal.returns-clause-refused
returns-clause-refused g c =
    refuses-more c.go_rounds.result ((g.O.Tells.outer c.args.outside.now).events)
    ((g.O.Tells.outer c.open_first.new.outside).events) ((g.O.Tells.outer c.go_rounds.new.outside).events)
    c.args.reactor.now.core c.open_first.new.reactor.core c.go_rounds.new.reactor.core
    (went-told c.args.sessions.now.items 0 0 [] c.args.reactor.now.core ((g.O.Tells.outer c.args.outside.now).events)
    ((g.O.Tells.outer c.open_first.new.outside).events)
    c.open_first.new.reactor.core c.open_first.new.slots.items (c.in_ok-open_first.ensures.went 0))
    c.go_rounds.ensures.refused

pub returns-clause-keeps : goal.returns-clause-keeps
returns-clause-keeps g c =
    keeps-then (part.All c.args.reactor.now.events) _ _ _ (c.open_first.ensures.keeps c.args.reactor.now.events) (rw c.open_first.ensures.reports at c.go_rounds.ensures.keeps)

pub returns-clause-counted : goal.returns-clause-counted
returns-clause-counted g c = on_ok_weaker c.go_rounds.result (λ counts. counts _ (fell-all 0 _ _ (c.open_first.ensures.keeps 0)) c.in_ok-open_first.ensures.counted) c.go_rounds.ensures.counted

pub returns-in_err-open_first-clause-keeps : goal.returns-in_err-open_first-clause-keeps
returns-in_err-open_first-clause-keeps g c = c.open_first.ensures.keeps c.args.reactor.now.events

pub returns-in_err-open_first-clause-failed : goal.returns-in_err-open_first-clause-failed
returns-in_err-open_first-clause-failed g c =
    on-poller _ c.from_residual.result _ c.from_residual.ensures.1
    (if-poller-by _ _ c.in_err-open_first.field-0.0 (λ fails. fails c.args.rounds) c.in_err-open_first.ensures.failed)

pub returns-clause-failed : goal.returns-clause-failed
returns-clause-failed g c =
    on-poller-by _ _ c.go_rounds.result (λ fails.
    (rw (c.open_first.ensures.keeps 0).ample at fails) c.args.sessions.now.items c.args.reactor.now.core _
    c.in_ok-open_first.ensures.len (c.in_ok-open_first.ensures.went c.args.rounds))
    c.go_rounds.ensures.failed

pub returns-clause-timers : goal.returns-clause-timers
returns-clause-timers g c =
    made-then _ _ _ c.args.reactor.now.core c.open_first.new.reactor.core c.go_rounds.new.reactor.core
    c.open_first.ensures.timers c.go_rounds.ensures.timers

pub returns-in_err-open_first-clause-halted : goal.returns-in_err-open_first-clause-halted
returns-in_err-open_first-clause-halted g c =
    halts-first c.from_residual.result c.in_err-open_first.field-0.0 c.args.sessions.now.items c.args.rounds _
    c.args.reactor.now.core _ _ c.open_first.new.reactor.core c.open_first.new.slots.items c.from_residual.ensures.1
    c.in_err-open_first.ensures.exhausted

pub returns-clause-halted : goal.returns-clause-halted
returns-clause-halted g c =
    halts-rounds c.go_rounds.result c.args.sessions.now.items c.args.rounds _ c.args.reactor.now.core _ _ _
    c.open_first.new.reactor.core c.go_rounds.new.reactor.core c.open_first.new.slots.items
    c.go_rounds.new.slots.items c.in_ok-open_first.ensures.len (c.in_ok-open_first.ensures.went c.args.rounds)
    c.go_rounds.ensures.stuck
