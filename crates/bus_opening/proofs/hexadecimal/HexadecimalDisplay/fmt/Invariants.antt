use Rattle.std.proofs.Common.{◌≡◌, ℕ, List, ◌++◌}
use Rattle.std.specs.Fmt.{HasWritten, IsPlainFormatter}
use Rattle.std.specs.Slice.Iter.{chunks_rest, chunks_size}
use Rattle.hex.specs.Hex.{encode_lower}
use Rattle.bus_opening.proofs.hexadecimal.HexadecimalDisplay.fmt.Given as goal

abbrev pub invariant-loop-run : goal.invariant-loop-run
invariant-loop-run g l = record {
  can_next : (goal.iterator-loop-run g).can_next l.run-iterator;
  is_finite : (goal.iterator-loop-run g).is_finite l.run-iterator;
  size : chunks_size l.run-iterator ≡ 64;
  written : IsPlainFormatter l.initial.f
      → (done : List ℕ) × HasWritten g.W.Write.write_str_gives l.initial.f done l.f
      × (done ++ encode_lower (chunks_rest l.run-iterator) ≡ encode_lower l.fn.self.0.now);
}
