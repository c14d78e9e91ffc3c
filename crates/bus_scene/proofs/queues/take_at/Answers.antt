use Rattle.std.proofs.Math.Seq.{map-set_same}
use Rattle.bus_scene.specs.Cursors.{whole_reads, left_reads}
use Rattle.bus_scene.proofs.QueueLemmas.{set_read}
use Rattle.bus_scene.proofs.queues.take_at.Goals as goal

pub returns-then-place-reads-clause-whole : goal.returns-then-place-reads-clause-whole
returns-then-place-reads-clause-whole c =
    map-set_same whole_reads c.args.reads.now c.args.session c.take.new.self c.index-reads-place.result
    c.take.ensures.whole

pub returns-then-place-reads-clause-left : goal.returns-then-place-reads-clause-left
returns-then-place-reads-clause-left c =
    set_read left_reads c.args.reads.now c.args.session c.args.asked c.take.new.self c.index-reads-place.result
    c.if-place-reads.true c.take.ensures.left
