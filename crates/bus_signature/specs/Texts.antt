-- The text of a signature (D-Bus specification, Type System).
use Rattle.std.specs.Prelude.{◌≡◌, ℕ, List, [], ◌++◌, codes, map}
use Rattle.std.specs.List.{concat}
use Rattle.bus_signature.specs.declared.signature.Signature.{Signature}
use Rattle.bus_signature.specs.declared.signature.Signature.TheOpen.{Signature-F}
use Rattle.bus_signature.specs.declared.signature.Signature.TheViews.{out-Signature, roll-Signature}
use Rattle.bus_signature.specs.declared.signature.Signature.TheVariants.{Array, Dict, Structure}
use Rattle.bus_signature.specs.declared.signature.Signature.TheFolds.{fold-Signature}

-- one signature, with the text of each inner one in its place
abbrev pub text_step : Signature-F (List ℕ) → List ℕ
text_step Signature-F.Unit = []
text_step Signature-F.U8 = codes "y"
text_step Signature-F.Bool = codes "b"
text_step Signature-F.I16 = codes "n"
text_step Signature-F.U16 = codes "q"
text_step Signature-F.I32 = codes "i"
text_step Signature-F.U32 = codes "u"
text_step Signature-F.I64 = codes "x"
text_step Signature-F.U64 = codes "t"
text_step Signature-F.F64 = codes "d"
text_step Signature-F.Str = codes "s"
text_step Signature-F.Signature = codes "g"
text_step Signature-F.ObjectPath = codes "o"
text_step Signature-F.Variant = codes "v"
text_step Signature-F.Fd = codes "h"
text_step (Signature-F.Array child) = codes "a" ++ child
text_step (Signature-F.Dict key value) = codes "a{" ++ key ++ value ++ codes "}"
text_step (Signature-F.Structure fields) = codes "(" ++ concat fields ++ codes ")"

abbrev pub text : Signature → List ℕ
text = fold-Signature (List ℕ) text_step

-- the texts of several, one after another
abbrev pub texts : List Signature → List ℕ
texts types = concat (map text types)

-- by the outermost layer: a structure's fields, or else the text
abbrev pub opened : Signature-F Signature → List ℕ
opened (Signature-F.Structure fields) = texts fields
opened other = text (roll-Signature other)

-- the text without the parentheses around the whole, where it has them
unfoldable pub text_no_parens : Signature → List ℕ
text_no_parens signature = opened (out-Signature signature)

-- a signature without inner ones
pub record IsPlain (signature : Signature) : Type 0 where
  pub no_array : (child : Signature) → signature ≡ Array child → ⊥
  pub no_dict : (key value : Signature) → signature ≡ Dict key value → ⊥
  pub no_structure : (fields : List Signature) → signature ≡ Structure fields → ⊥
