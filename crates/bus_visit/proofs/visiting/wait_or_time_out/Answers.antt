use Rattle.std.proofs.Common.{ap}
use Rattle.bus_visit.specs.declared.timing.Look.{Look}
use Rattle.bus_visit.specs.declared.visiting.Slot.{Slot}
use Rattle.bus_visit.proofs.FailureLemmas.{if-poller-by, on-poller-by}
use Rattle.bus_visit.proofs.FirstVisit.{refused-by}
use Rattle.bus_visit.proofs.StayLemmas.{keeps-removed, kept-source}
use Rattle.bus_visit.proofs.TimedVisits.{kept-holds, late-keeps, late-fails, late-ends, early-ends, notice-fails}
use Rattle.bus_visit.proofs.TimedVisits.{timer-runs-out, on-exhausted-by, if-ok-both}
use Rattle.bus_visit.proofs.visiting.wait_or_time_out.Goals as goal

pub remove_io-requires : goal.remove_io-requires
remove_io-requires g c =
    kept-source c.args.reactor.now.core c.look_at_clock.new.reactor.core c.args.sleeper.key c.args.wire
    c.requires.holds c.in-Err.ensures.refused.1.tags

pub returns-in-Ok-Late-clause-refused : goal.returns-in-Ok-Late-clause-refused
returns-in-Ok-Late-clause-refused g c =
    let looked = rw c.in-Ok-Late.field-0-is at c.in-Ok-Late.ensures.looked in
    refused-by c.time_out.result (λ (own, removal, gained).
    late-keeps _ c.args.wire c.args.sleeper.key own _ _ _ c.in-Ok-Late.moment c.args.reactor.now.core
    c.look_at_clock.new.reactor.core c.time_out.new.reactor.core c.requires.rests looked.gained looked.core removal
    gained (ap (λ x. x.core) c.time_out.ensures.removed)) c.time_out.ensures.refused

pub returns-in-Ok-Late-clause-failed : goal.returns-in-Ok-Late-clause-failed
returns-in-Ok-Late-clause-failed g c =
    let looked = rw c.in-Ok-Late.field-0-is at c.in-Ok-Late.ensures.looked in
    on-poller-by _ _ c.time_out.result (λ gained.
    late-fails _ c.args.wire c.args.limit c.args.sleeper _ _ _ c.in-Ok-Late.moment c.args.reactor.now.core
    looked.reached looked.gained gained) c.time_out.ensures.failed

pub returns-in-Ok-Early-clause-visited : goal.returns-in-Ok-Early-clause-visited
returns-in-Ok-Early-clause-visited g c =
    early-ends c.args.wire c.args.limit c.args.sleeper _ _ c.args.reactor.now.core c.look_at_clock.new.reactor.core
    c.in-Ok-Early.alarm (rw c.in-Ok-Early.field-0-is at c.in-Ok-Early.ensures.looked)

pub returns-in-Err-clause-refused : goal.returns-in-Err-clause-refused
returns-in-Err-clause-refused g c =
    keeps-removed c.args.sleeper.key c.remove_io.result _ _ _ c.args.reactor.now.core
    c.look_at_clock.new.reactor.core c.remove_io.new.self.core c.in-Err.ensures.refused
    (ap (λ x. x.core) c.remove_io.ensures.removed) c.remove_io.ensures.told

pub returns-in-Err-clause-failed : goal.returns-in-Err-clause-failed
returns-in-Err-clause-failed g c =
    if-poller-by _ _ c.in-Err.refusal
    (notice-fails _ c.args.wire c.args.limit c.args.sleeper _ _ _ c.args.reactor.now.core
    c.look_at_clock.new.reactor.core c.remove_io.result
    (kept-holds c.args.reactor.now.core c.look_at_clock.new.reactor.core c.args.sleeper.key c.args.wire
    c.requires.holds c.in-Err.ensures.refused.1.tags)
    (rw c.in-Err.ensures.keeps.ample at c.remove_io.ensures.memory) c.remove_io.ensures.told)
    c.in-Err.ensures.failed

pub returns-in-Err-clause-exhausted : goal.returns-in-Err-clause-exhausted
returns-in-Err-clause-exhausted g c =
    on-exhausted-by Look Slot _ _ c.in-Err.refusal
    (timer-runs-out _ c.args.wire c.args.limit c.args.sleeper _ _ _ c.args.reactor.now.core
    c.look_at_clock.new.reactor.core c.remove_io.result
    (kept-holds c.args.reactor.now.core c.look_at_clock.new.reactor.core c.args.sleeper.key c.args.wire
    c.requires.holds c.in-Err.ensures.refused.1.tags)
    (rw c.in-Err.ensures.keeps.ample at c.remove_io.ensures.memory) c.remove_io.ensures.told)
    c.in-Err.ensures.exhausted

pub returns-in-Ok-Late-clause-visited : goal.returns-in-Ok-Late-clause-visited
returns-in-Ok-Late-clause-visited g c =
    let looked = rw c.in-Ok-Late.field-0-is at c.in-Ok-Late.ensures.looked in
    if-ok-both c.time_out.result c.time_out.ensures.ended c.time_out.ensures.told (λ s is gained.
    late-ends c.args.wire c.args.limit c.args.sleeper _ _ _ c.in-Ok-Late.moment c.args.reactor.now.core
    c.look_at_clock.new.reactor.core c.time_out.new.reactor.core s looked.reached looked.gained looked.core is gained
    (ap (λ x. x.core) c.time_out.ensures.removed))
