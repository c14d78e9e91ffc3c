use Rattle.std.proofs.Common.{◌≡◌, length}
use Rattle.std.specs.Prelude.{fold}
use Rattle.std.specs.Vec.Iter.{into_iter_items, into_iter_len}
use Rattle.bus_scene.specs.Queues.{enqueue, queues}
use Rattle.bus_scene.proofs.from_script.queued.Given as goal

abbrev pub invariant-loop-answer : goal.invariant-loop-answer
invariant-loop-answer l = record {
  so_far : fold enqueue l.queued (into_iter_items l.answer-iterator) ≡ queues l.fn.sessions l.fn.answers.items;
  counted : into_iter_len l.answer-iterator ≡ length (into_iter_items l.answer-iterator);
}
