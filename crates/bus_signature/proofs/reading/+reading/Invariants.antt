use Rattle.std.proofs.Common.{◌≡◌, ◌+◌, ◌*◌, ◌++◌, ◌≤◌, length}
use Rattle.bus_signature.specs.Texts.{texts}
use Rattle.bus_signature.specs.Grammar.{AreComplete}
use Rattle.bus_signature.proofs.reading.+reading.Given as goal

abbrev pub decreases-read_type : goal.decreases-read_type
decreases-read_type l = 4 * length l.bytes.now

abbrev pub decreases-read_container : goal.decreases-read_container
decreases-read_container l = 4 * length l.bytes.now + 3

abbrev pub decreases-read_array : goal.decreases-read_array
decreases-read_array l = 4 * length l.bytes.now + 1

abbrev pub decreases-read_dict : goal.decreases-read_dict
decreases-read_dict l = 4 * length l.bytes.now + 1

abbrev pub decreases-read_structure : goal.decreases-read_structure
decreases-read_structure l = 4 * length l.bytes.now + 2

abbrev pub decreases-read_types : goal.decreases-read_types
decreases-read_types l = 4 * length l.bytes.now + 1

abbrev pub invariant-read_types-loop-alloc : goal.invariant-read_types-loop-alloc
invariant-read_types-loop-alloc l = AreComplete l.arrays l.structures l.types × (texts l.fn.types ++ l.bytes ≡ texts l.types ++ l.rest) × (length l.rest ≤ length l.bytes)

abbrev pub decreases-read_types-loop-alloc : goal.decreases-read_types-loop-alloc
decreases-read_types-loop-alloc l = length l.rest
