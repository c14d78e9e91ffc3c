use Rattle.std.proofs.Common.{◌≡◌, ◌++◌, map, length}
use Rattle.std.specs.Vec.Iter.{into_iter_items, into_iter_len}
use Rattle.bus_scene.specs.Cursors.{whole_reads, left_reads, items_of}
use Rattle.bus_scene.proofs.queues.reads_of.Given as goal

abbrev pub invariant-loop-answers : goal.invariant-loop-answers
invariant-loop-answers l = record {
  whole : map whole_reads l.reads.items ++ map items_of (into_iter_items l.answers-iterator)
      ≡ map items_of l.fn.lists.items;
  left : map left_reads l.reads.items ++ map items_of (into_iter_items l.answers-iterator)
      ≡ map items_of l.fn.lists.items;
  counted : into_iter_len l.answers-iterator ≡ length (into_iter_items l.answers-iterator);
}
