use Rattle.std.proofs.Common.{◌≡◌, true, take, map}
use Rattle.std.specs.List.{list_all}
use Rattle.bus_address.specs.ReadBack.{has_bytes, AreValues}
use Rattle.bus_address.proofs.octets.all_have_bytes.Given as goal

abbrev pub invariant-loop-bytes : goal.invariant-loop-bytes
invariant-loop-bytes l = record {
  some : list_all has_bytes (map (λ v. v.items) (take l.bytes-index l.all)) ≡ true;
  values : AreValues (map (λ v. v.items) (take l.bytes-index l.all));
}
