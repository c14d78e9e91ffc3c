-- How long a text is, and where a value may begin.
use Rattle.std.specs.Prelude.{◌≡◌, ℕ, ◌<◌, ◌≤◌, ◌^◌, length, Option, Some, None}
use Rattle.bus_signature.specs.declared.signature.Signature.{Signature}
use Rattle.bus_signature.specs.declared.signature.Signature.TheOpen.{Signature-F}
use Rattle.bus_signature.specs.declared.signature.Signature.TheFolds.{fold-Signature}
use Rattle.bus_signature.specs.Texts.{text}

-- the text's length is a `usize`
abbrev pub Fits : Signature → Type 0
Fits signature = length (text signature) < 2 ^ 64

-- a length that may be too large for a `usize`
abbrev pub Counted : Option ℕ → ℕ → Type 0
Counted (Some found) len = found ≡ len
Counted None len = 2 ^ 64 ≤ len

-- the alignment of a value's first byte, in bytes (D-Bus specification, Marshaling)
abbrev pub alignment_step : Signature-F ℕ → ℕ
alignment_step Signature-F.U8 = 1
alignment_step Signature-F.Variant = 1
alignment_step Signature-F.Signature = 1
alignment_step Signature-F.I16 = 2
alignment_step Signature-F.U16 = 2
alignment_step Signature-F.I32 = 4
alignment_step Signature-F.U32 = 4
alignment_step Signature-F.Bool = 4
alignment_step Signature-F.Str = 4
alignment_step Signature-F.ObjectPath = 4
alignment_step (Signature-F.Array child) = 4
alignment_step (Signature-F.Dict key value) = 4
alignment_step Signature-F.Fd = 4
alignment_step Signature-F.I64 = 8
alignment_step Signature-F.U64 = 8
alignment_step Signature-F.F64 = 8
alignment_step Signature-F.Unit = 8
alignment_step (Signature-F.Structure fields) = 8

abbrev pub alignment : Signature → ℕ
alignment = fold-Signature ℕ alignment_step
