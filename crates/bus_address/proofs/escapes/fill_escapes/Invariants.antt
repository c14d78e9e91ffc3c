use Rattle.std.proofs.Common.{◌≡◌, ◌≤◌, ◌*◌, length, take}
use Rattle.bus_address.specs.Escapes.{escaped}
use Rattle.bus_address.proofs.escapes.fill_escapes.Given as goal

abbrev pub invariant-loop-index : goal.invariant-loop-index
invariant-loop-index l = record {
  fits : l.index ≤ 16;
  size : length l.buffer ≡ 48;
  text : take (3 * l.index) l.buffer ≡ escaped (take l.index l.bytes);
}
