use Rattle.std.proofs.Common.{◌≡◌, ◌≤◌, ◌+◌, ◌-◌, vec_len}
use Rattle.std.specs.Io.KnownBytes.{Consumes}
use Rattle.bus_open.specs.Streams.{Tells}
use Rattle.bus_open.proofs.whole.read_all.Given as goal

abbrev pub invariant-loop-piece : goal.invariant-loop-piece
invariant-loop-piece g l = record {
  tells : Tells (g.S.Source.left l.fn.source) (g.S.Source.left l.source);
  faults : g.S.Source.read_faults l.source ≡ g.S.Source.read_faults l.fn.source;
  came : Consumes (g.S.Source.left l.fn.source) (g.S.Source.left l.source) l.text.items;
  bound : vec_len l.text ≤ l.limit + 4096;
}

abbrev pub decreases-loop-piece : goal.decreases-loop-piece
decreases-loop-piece g l = l.limit + 1 - vec_len l.text
