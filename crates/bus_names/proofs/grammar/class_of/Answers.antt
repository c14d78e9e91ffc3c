use Rattle.std.proofs.Common.{◌≡◌, ℕ, ◌<◌, map, get_or, refl, ap, ◌∙◌, arith}
use Rattle.std.proofs.lemmas.List.FromFn.{get_or-map-range_with_len}
use Rattle.std.specs.List.{range_with_len}
use Rattle.bus_names.specs.Classes.{class_of}
use Rattle.bus_names.specs.declared.grammar.Class.TheVariants.{Letter}
use Rattle.bus_names.specs.declared.grammar.TheConstants.{CLASSES}
use Rattle.bus_names.proofs.grammar.class_of.Goals as goal

-- the table has the class of each byte
table_is : CLASSES ≡ map class_of (range_with_len 0 256)
table_is = refl

read : (b : ℕ) → b < 256 → get_or CLASSES b Letter ≡ class_of b
read b h =
    ap (λ t. get_or t b Letter) table_is ∙ get_or-map-range_with_len class_of 0 256 b b Letter h (omega arith)

pub returns : goal.returns
returns c = rw c.from.ensures (read c.args.byte (omega arith))
