use Rattle.bus_peers.proofs.OpenLemmas.{rested-kept, answers-none, answers-refused, answers-unremoved, answers-opened}
use Rattle.react_core.specs.Outer.{keeps-same, keeps-then, poller-in-all}
use Rattle.react_core.specs.Outer as part
use Rattle.std.proofs.lemmas.Result.{IfOk-weaker}
use Rattle.bus_peers.proofs.FrameLemmas.{fell-all, all-later, all-ended}
use Rattle.std.proofs.Common.{length, map, ap}
use Rattle.bus_visit.specs.Shown.{shown}
use Rattle.react_core.specs.Core.{ReactorState}
use Rattle.bus_peers.proofs.FrameLemmas.{made-then}
use Rattle.bus_peers.proofs.LeftSources.{closing-made}
use Rattle.bus_peers.proofs.open.open_over.Goals as goal

pub returns-in_err-slots-clause-opened : goal.returns-in_err-slots-clause-opened
returns-in_err-slots-clause-opened g c =
    answers-none (λ endeds. endeds.items) c.from_residual.result c.args.sessions.now.items c.args.rounds _ _
    c.args.reactor.now.core c.from_residual.ensures.1

pub returns-in_err-opened-clause-opened : goal.returns-in_err-opened-clause-opened
returns-in_err-opened-clause-opened g c =
    answers-refused (λ endeds. endeds.items) c.args.sessions.now.items c.args.rounds _ _ _ _
    c.args.reactor.now.core c.open_rounds-opened.new.reactor c.close-removed.new.reactor
    c.open_rounds-opened.new.slots.items c.close-removed.ensures.reactor
    c.from_residual-in_err-opened.result c.in_err-opened.field-0.0 c.close-removed.result
    c.from_residual-in_err-opened.ensures.1 c.open_rounds-opened.ensures.owned
    c.open_rounds-opened.ensures.within c.in_err-opened.ensures.halted c.in_err-opened.ensures.refused
    c.in_err-opened.ensures.failed
    (rw c.open_rounds-opened.ensures.keeps.ample at c.close-removed.ensures.removals)

pub returns-in_err-removed-clause-opened : goal.returns-in_err-removed-clause-opened
returns-in_err-removed-clause-opened g c =
    answers-unremoved (λ endeds. endeds.items) c.args.sessions.now.items c.args.rounds _ _ _ _
    c.args.reactor.now.core c.open_rounds-opened.new.reactor c.close-removed.new.reactor
    c.open_rounds-opened.new.slots.items c.close-removed.ensures.reactor
    c.from_residual-in_err-removed.result c.in_err-removed.field-0.0
    ((g.O.Tells.outer c.open_rounds-opened.new.outside).poller_faults)
    ((g.O.Tells.outer c.close-removed.new.registrar).poller_faults) c.from_residual-in_err-removed.ensures.1
    c.in_ok-opened.ensures.len c.open_rounds-opened.ensures.owned c.in_ok-opened.ensures.rested
    c.in_err-removed.ensures.cause
    (rw c.open_rounds-opened.ensures.keeps.ample at c.in_err-removed.ensures.removals)

pub endeds_in-requires-clause-kept : goal.endeds_in-requires-clause-kept
endeds_in-requires-clause-kept g c =
    rested-kept c.args.sessions.now.items c.args.rounds c.args.reactor.now.core
    ((g.O.Tells.outer c.args.outside.now).events) ((g.O.Tells.outer c.open_rounds-opened.new.outside).events)
    c.open_rounds-opened.new.reactor.core c.open_rounds-opened.new.slots.items
    c.in_ok-opened.ensures.rested

pub returns-clause-opened : goal.returns-clause-opened
returns-clause-opened g c =
    answers-opened (λ endeds. endeds.items) c.args.sessions.now.items c.args.rounds _ _ _ _
    c.args.reactor.now.core c.open_rounds-opened.new.reactor c.close-removed.new.reactor
    c.open_rounds-opened.new.slots.items c.close-removed.ensures.reactor c.endeds_in.result
    c.in_ok-opened.ensures.len c.open_rounds-opened.ensures.owned c.in_ok-opened.ensures.rested
    c.in_ok-removed.ensures.told c.endeds_in.ensures.ended c.endeds_in.ensures.err

pub returns-in_err-slots-clause-keeps : goal.returns-in_err-slots-clause-keeps
returns-in_err-slots-clause-keeps g c = keeps-same (part.All c.args.reactor.now.events) _

pub returns-in_err-opened-clause-keeps : goal.returns-in_err-opened-clause-keeps
returns-in_err-opened-clause-keeps g c =
    keeps-then (part.All c.args.reactor.now.events)
    _ _ _ c.open_rounds-opened.ensures.keeps (poller-in-all c.args.reactor.now.events _ _
    c.close-removed.ensures.keeps)

pub returns-in_err-removed-clause-keeps : goal.returns-in_err-removed-clause-keeps
returns-in_err-removed-clause-keeps g c =
    keeps-then (part.All c.args.reactor.now.events)
    _ _ _ c.open_rounds-opened.ensures.keeps (poller-in-all c.args.reactor.now.events _ _
    c.close-removed.ensures.keeps)

pub returns-clause-keeps : goal.returns-clause-keeps
returns-clause-keeps g c = keeps-then (part.All c.args.reactor.now.events) _ _ _ c.open_rounds-opened.ensures.keeps (poller-in-all c.args.reactor.now.events _ _ c.close-removed.ensures.keeps)

pub returns-clause-faults : goal.returns-clause-faults
returns-clause-faults g c = IfOk-weaker c.endeds_in.result _ _
    (λ endeds ends. all-ended 0 c.open_rounds-opened.new.slots.items endeds.items _ _ ends
    (all-later 0 c.open_rounds-opened.new.slots.items _ _ _ (fell-all 0 _ _ (poller-in-all 0 _ _ c.close-removed.ensures.keeps)) c.in_ok-opened.ensures.counted)) c.endeds_in.ensures.ended

pub returns-in_err-opened-clause-timers : goal.returns-in_err-opened-clause-timers
returns-in_err-opened-clause-timers g c =
    made-then _ _ _ c.args.reactor.now.core c.open_rounds-opened.new.reactor.core c.close-removed.new.reactor.core
    c.open_rounds-opened.ensures.timers
    (closing-made (g.O.Tells.outer c.open_rounds-opened.new.outside).ample (length c.open_rounds-opened.new.slots.items)
    (map shown c.open_rounds-opened.new.reactor.core.sources) c.close-removed.result _ _
    c.open_rounds-opened.new.reactor.core c.close-removed.new.reactor.core
    (ap (λ (r : ReactorState). r.core.made) c.close-removed.ensures.reactor) c.close-removed.ensures.removals)

pub returns-in_err-removed-clause-timers : goal.returns-in_err-removed-clause-timers
returns-in_err-removed-clause-timers g c =
    made-then _ _ _ c.args.reactor.now.core c.open_rounds-opened.new.reactor.core c.close-removed.new.reactor.core
    c.open_rounds-opened.ensures.timers
    (closing-made (g.O.Tells.outer c.open_rounds-opened.new.outside).ample (length c.open_rounds-opened.new.slots.items)
    (map shown c.open_rounds-opened.new.reactor.core.sources) c.close-removed.result _ _
    c.open_rounds-opened.new.reactor.core c.close-removed.new.reactor.core
    (ap (λ (r : ReactorState). r.core.made) c.close-removed.ensures.reactor) c.close-removed.ensures.removals)

pub returns-clause-timers : goal.returns-clause-timers
returns-clause-timers g c =
    made-then _ _ _ c.args.reactor.now.core c.open_rounds-opened.new.reactor.core c.close-removed.new.reactor.core
    c.open_rounds-opened.ensures.timers
    (closing-made (g.O.Tells.outer c.open_rounds-opened.new.outside).ample (length c.open_rounds-opened.new.slots.items)
    (map shown c.open_rounds-opened.new.reactor.core.sources) c.close-removed.result _ _
    c.open_rounds-opened.new.reactor.core c.close-removed.new.reactor.core
    (ap (λ (r : ReactorState). r.core.made) c.close-removed.ensures.reactor) c.close-removed.ensures.removals)
