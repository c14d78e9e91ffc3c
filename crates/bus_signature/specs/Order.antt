-- The order of signatures: by kind, then by what is inside.
use Rattle.std.specs.Prelude.{◌≡◌, ◌↔◌, ℕ, ◌<◌, List}
use Rattle.std.specs.Cmp.{IsTotalOrder}
use Rattle.std.specs.declared.cmp.Ordering.{Ordering}
use Rattle.std.specs.declared.cmp.Ordering.TheVariants.{Less, Equal}
use Rattle.std.specs.Ordering.{ordering_then, ordering_reverse}
use Rattle.std.specs.Cmp.Lexicographic.{slice_cmp}
use Rattle.bus_signature.specs.declared.signature.Signature.{Signature}
use Rattle.bus_signature.specs.declared.signature.Signature.TheVariants.{Array, Dict, Structure}
use Rattle.bus_signature.specs.declared.signature.Signature.TheOpen.{Signature-F}
use Rattle.bus_signature.specs.declared.signature.Signature.TheFolds.{fold-Signature}

-- the place of each kind
abbrev pub kind_step : Signature-F ℕ → ℕ
kind_step Signature-F.Unit = 0
kind_step Signature-F.U8 = 1
kind_step Signature-F.Bool = 2
kind_step Signature-F.I16 = 3
kind_step Signature-F.U16 = 4
kind_step Signature-F.I32 = 5
kind_step Signature-F.U32 = 6
kind_step Signature-F.I64 = 7
kind_step Signature-F.U64 = 8
kind_step Signature-F.F64 = 9
kind_step Signature-F.Str = 10
kind_step Signature-F.Signature = 11
kind_step Signature-F.ObjectPath = 12
kind_step Signature-F.Variant = 13
kind_step Signature-F.Fd = 14
kind_step (Signature-F.Array child) = 15
kind_step (Signature-F.Dict key value) = 16
kind_step (Signature-F.Structure fields) = 17

unfoldable pub kind : Signature → ℕ
kind = fold-Signature ℕ kind_step

-- It is said whole: by kind, and at one kind by the child, by the key and then the value, or by the fields
-- lexicographically.
pub record IsSignatureOrder (order : Signature → Signature → Ordering) : Type 0 where
  pub kinds : (s t : Signature) → kind s < kind t → order s t ≡ Less
  pub arrays : (s t : Signature) → order (Array s) (Array t) ≡ order s t
  pub dicts : (k v j w : Signature) → order (Dict k v) (Dict j w) ≡ ordering_then (order k j) (order v w)
  pub structures : (fs gs : List Signature) → order (Structure fs) (Structure gs) ≡ slice_cmp order fs gs
  pub itself : (s : Signature) → order s s ≡ Equal
  pub reversed : (s t : Signature) → order s t ≡ ordering_reverse (order t s)
  pub total : IsTotalOrder order
  pub equal : (s t : Signature) → (order s t ≡ Equal) ↔ (s ≡ t)
