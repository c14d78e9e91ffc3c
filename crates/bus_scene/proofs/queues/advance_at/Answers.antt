use Rattle.std.proofs.Math.Seq.{map-set_same}
use Rattle.bus_scene.specs.Cursors.{whole, left}
use Rattle.bus_scene.proofs.QueueLemmas.{set_next}
use Rattle.bus_scene.proofs.queues.advance_at.Goals as goal

pub returns-then-place-queues-clause-whole : goal.returns-then-place-queues-clause-whole
returns-then-place-queues-clause-whole g c =
    map-set_same whole c.args.queues.now c.args.session c.advance.new.self c.index-queues-place.result
    c.advance.ensures.whole

pub returns-then-place-queues-clause-left : goal.returns-then-place-queues-clause-left
returns-then-place-queues-clause-left g c =
    set_next left c.args.queues.now c.args.session c.advance.new.self c.index-queues-place.result c.if-place-queues.true
    c.advance.ensures.left
