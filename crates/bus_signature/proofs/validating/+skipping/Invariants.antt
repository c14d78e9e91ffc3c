use Rattle.std.proofs.Common.{◌≡◌, ◌+◌, ◌*◌, ◌++◌, length, List}
use Rattle.bus_signature.specs.declared.signature.Signature.{Signature}
use Rattle.bus_signature.specs.Texts.{texts}
use Rattle.bus_signature.specs.Grammar.{AreComplete}
use Rattle.bus_signature.proofs.validating.+skipping.Given as goal

abbrev pub decreases-skip_type : goal.decreases-skip_type
decreases-skip_type l = 4 * length l.bytes.now

abbrev pub decreases-skip_container : goal.decreases-skip_container
decreases-skip_container l = 4 * length l.bytes.now + 3

abbrev pub decreases-skip_array : goal.decreases-skip_array
decreases-skip_array l = 4 * length l.bytes.now + 1

abbrev pub decreases-skip_dict : goal.decreases-skip_dict
decreases-skip_dict l = 4 * length l.bytes.now + 1

abbrev pub decreases-skip_structure : goal.decreases-skip_structure
decreases-skip_structure l = 4 * length l.bytes.now + 2

abbrev pub decreases-skip_types : goal.decreases-skip_types
decreases-skip_types l = 4 * length l.bytes.now + 1

abbrev pub invariant-skip_types-loop-rest : goal.invariant-skip_types-loop-rest
invariant-skip_types-loop-rest l = (types : List Signature) × AreComplete l.arrays l.structures types × (l.bytes ≡ texts types ++ l.rest)

abbrev pub decreases-skip_types-loop-rest : goal.decreases-skip_types-loop-rest
decreases-skip_types-loop-rest l = length l.rest
