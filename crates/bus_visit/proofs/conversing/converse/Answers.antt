use Rattle.react_core.specs.declared.reactor.Dir.TheVariants.{Read, Write}
use Rattle.bus_visit.proofs.PollAlone.{converses-over, converses-paused, converses-interrupted, over-counted}
use Rattle.bus_visit.proofs.conversing.converse.Goals as goal

pub returns-in-Done-clause-conversed : goal.returns-in-Done-clause-conversed
returns-in-Done-clause-conversed g c =
    converses-over c.args.wire _ _ c.args.client.now c.poll.new.self c.in-Done.verdict c.ending_of.result
    c.in-Done.ensures.polls c.in-Done.ensures.leaves c.ending_of.ensures

pub returns-in-Done-clause-cause : goal.returns-in-Done-clause-cause
returns-in-Done-clause-cause g c =
    over-counted c.in-Done.verdict c.ending_of.result _ _ c.ending_of.ensures c.in-Done.ensures.cause

pub returns-in-WantRead-clause-conversed : goal.returns-in-WantRead-clause-conversed
returns-in-WantRead-clause-conversed g c =
    converses-paused c.args.wire _ _ c.args.client.now c.poll.new.self Read c.in-WantRead.ensures.polls
    c.in-WantRead.ensures.leaves c.in-WantRead.ensures.ended

pub returns-in-WantWrite-clause-conversed : goal.returns-in-WantWrite-clause-conversed
returns-in-WantWrite-clause-conversed g c =
    converses-paused c.args.wire _ _ c.args.client.now c.poll.new.self Write c.in-WantWrite.ensures.polls
    c.in-WantWrite.ensures.leaves c.in-WantWrite.ensures.ended

pub returns-in-OutOfMemory-clause-interrupted : goal.returns-in-OutOfMemory-clause-interrupted
returns-in-OutOfMemory-clause-interrupted g c =
    converses-interrupted c.args.wire _ _ c.args.client.now c.poll.new.self c.in-OutOfMemory.ensures.polls
    c.in-OutOfMemory.ensures.ended
