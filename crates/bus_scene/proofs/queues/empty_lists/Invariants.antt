use Rattle.std.proofs.Common.{◌≡◌, [], map, replicate}
use Rattle.bus_scene.specs.Cursors.{items_of}
use Rattle.bus_scene.proofs.queues.empty_lists.Given as goal

abbrev pub invariant-loop-session : goal.invariant-loop-session
invariant-loop-session g l = map items_of l.lists.items ≡ replicate l._session []
