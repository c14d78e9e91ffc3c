-- Single complete types, and what a text spells (D-Bus specification, Type System).
use Rattle.std.specs.Prelude.{◌≡◌, ◌⊎◌, ℕ, zero, suc, Bool, true, false, ◌&&◌}
use Rattle.std.specs.Prelude.{IsTrue, List, [], ◌∷◌, Result, Ok, Err, ⊤}
use Rattle.std.specs.List.{list_all}
use Rattle.bus_signature.specs.declared.signature.Signature.{Signature}
use Rattle.bus_signature.specs.declared.signature.Signature.TheVariants.{Unit, Structure}
use Rattle.bus_signature.specs.declared.signature.Signature.TheOpen.{Signature-F}
use Rattle.bus_signature.specs.declared.signature.Signature.TheFolds.{fold-Signature}
use Rattle.bus_signature.specs.declared.error.Error.{Error}
use Rattle.bus_signature.specs.declared.error.Error.TheVariants as error
use Rattle.bus_signature.specs.declared.error.InvalidSignature.{InvalidSignature}
use Rattle.bus_signature.specs.Texts.{texts}

-- one layer of `complete`: within so many arrays and dictionaries, and so many structures
abbrev pub complete_step : Signature-F (ℕ → ℕ → Bool) → ℕ → ℕ → Bool
complete_step Signature-F.Unit arrays structures = false
complete_step (Signature-F.Array child) zero structures = false
complete_step (Signature-F.Array child) (suc arrays) structures = child arrays structures
complete_step (Signature-F.Dict key value) zero structures = false
complete_step (Signature-F.Dict key value) (suc arrays) structures = key arrays structures && value arrays structures
complete_step (Signature-F.Structure fields) arrays zero = false
complete_step (Signature-F.Structure []) arrays (suc structures) = false
complete_step (Signature-F.Structure (field ∷ fields)) arrays (suc structures) =
    list_all (λ inside. inside arrays structures) (field ∷ fields)
complete_step _ arrays structures = true

-- a single complete type that opens at most so many arrays and dictionaries, and so many structures, one in another
unfoldable pub complete : Signature → ℕ → ℕ → Bool
complete = fold-Signature (ℕ → ℕ → Bool) complete_step

abbrev pub AreComplete : ℕ → ℕ → List Signature → Type 0
AreComplete arrays structures [] = ⊤
AreComplete arrays structures (one ∷ more) =
    IsTrue (complete one arrays structures) × AreComplete arrays structures more

-- what several types at the top are: none is Unit, one is itself, more are a structure
abbrev pub whole : List Signature → Signature
whole [] = Unit
whole (one ∷ []) = one
whole (one ∷ two ∷ more) = Structure (one ∷ two ∷ more)

-- The text is complete types one after another, and the signature is what they are at the top.
pub record Spells (bytes : List ℕ) (signature : Signature) : Type 0 where
  pub types : List Signature
  pub complete : AreComplete 32 32 types
  pub is : signature ≡ whole types
  pub spelled : bytes ≡ texts types

-- no signature has this text
pub record SpellsNone (bytes : List ℕ) : Type 0 where
  pub none : (signature : Signature) → Spells bytes signature → ⊥

abbrev pub Read : List ℕ → Result Signature Error → Type 0
Read bytes (Ok signature) = Spells bytes signature
Read bytes (Err error.InvalidSignature) = SpellsNone bytes
Read bytes (Err error.OutOfMemory) = ⊤

abbrev pub Validated : List ℕ → Result ⊤ InvalidSignature → Type 0
Validated bytes (Ok _) = (signature : Signature) × Spells bytes signature
Validated bytes (Err _) = SpellsNone bytes

-- it is read as this signature, want of memory aside
abbrev pub ReadAs : Signature → Result Signature Error → Type 0
ReadAs it (Ok other) = other ≡ it
ReadAs it (Err error.InvalidSignature) = ⊥
ReadAs it (Err error.OutOfMemory) = ⊤

-- What is read back from its text: Unit, and a single complete type. So nothing inside is Unit, no structure is empty,
-- and both depths are kept.
abbrev pub IsReadable : Signature → Type 0
IsReadable signature = (signature ≡ Unit) ⊎ IsTrue (complete signature 32 32)
