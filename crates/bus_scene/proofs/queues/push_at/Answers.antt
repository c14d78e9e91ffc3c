use Rattle.std.proofs.Math.Seq.{map-set_same}
use Rattle.bus_scene.specs.Cursors.{items_of}
use Rattle.bus_scene.proofs.QueueLemmas.{set_last, on_err}
use Rattle.bus_scene.proofs.queues.push_at.Goals as goal

pub returns-in_err-push-clause-err : goal.returns-in_err-push-clause-err
returns-in_err-push-clause-err g c =
    on_err c.from_residual.result
    (map-set_same items_of c.args.lists.now c.args.session c.push.new.items c.index-lists-place.result
    c.in_err-push.ensures.err)

pub returns-in_ok-push-clause-ok : goal.returns-in_ok-push-clause-ok
returns-in_ok-push-clause-ok g c =
    set_last items_of c.args.lists.now c.args.session c.push.new.items c.index-lists-place.result c.args.answer
    c.if-place-lists.true c.in_ok-push.ensures.ok
