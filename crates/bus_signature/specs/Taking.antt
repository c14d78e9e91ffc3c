-- What a reader takes from the front of a text.
use Rattle.std.specs.Prelude.{◌≡◌, ℕ, ◌==◌, if◌then◌else◌, IsTrue, List, []}
use Rattle.std.specs.Prelude.{◌∷◌, ◌++◌, Option, Some, None, Result, Ok, Err, ⊤}
use Rattle.std.specs.Borrow.{Bor}
use Rattle.bus_signature.specs.declared.signature.Signature.{Signature}
use Rattle.bus_signature.specs.declared.signature.Signature.TheVariants.{U8, Bool as Boolean, I16, U16, I32, U32}
use Rattle.bus_signature.specs.declared.signature.Signature.TheVariants.{I64, U64, F64, Str, Signature as Sig}
use Rattle.bus_signature.specs.declared.signature.Signature.TheVariants.{ObjectPath, Variant, Fd}
use Rattle.bus_signature.specs.declared.error.Error.{Error}
use Rattle.bus_signature.specs.declared.error.Error.TheVariants as error
use Rattle.bus_signature.specs.Texts.{text, texts}
use Rattle.bus_signature.specs.Grammar.{complete, AreComplete}

abbrev pub find_letter : ℕ → List (ℕ × Signature) → Option Signature
find_letter c [] = None
find_letter c (entry ∷ entries) = if c == entry.0 then Some entry.1 else find_letter c entries

abbrev pub letters : List (ℕ × Signature)
letters =
    (121, U8) ∷ (98, Boolean) ∷ (110, I16) ∷ (113, U16) ∷ (105, I32) ∷ (117, U32) ∷ (120, I64) ∷ (116, U64) ∷ (100, F64)
    ∷ (115, Str) ∷ (103, Sig) ∷ (111, ObjectPath) ∷ (118, Variant) ∷ (104, Fd) ∷ []

-- the type of one letter
abbrev pub letter : ℕ → Option Signature
letter c = find_letter c letters

-- The bytes are the text of a complete type and then the rest.
pub record Takes (arrays structures : ℕ) (bytes : List ℕ) (signature : Signature) (rest : List ℕ) : Type 0 where
  pub complete : IsTrue (complete signature arrays structures)
  pub taken : bytes ≡ text signature ++ rest

pub record TakesNone (arrays structures : ℕ) (bytes : List ℕ) : Type 0 where
  pub none : (signature : Signature) (rest : List ℕ) → Takes arrays structures bytes signature rest → ⊥

abbrev pub Took : ℕ → ℕ → List ℕ → Result (Signature × Bor (List ℕ)) Error → Type 0
Took arrays structures bytes (Ok x) = Takes arrays structures bytes x.0 x.1.now
Took arrays structures bytes (Err error.InvalidSignature) = TakesNone arrays structures bytes
Took arrays structures bytes (Err error.OutOfMemory) = ⊤

-- nothing follows, or a closing parenthesis
abbrev pub Stops : List ℕ → Type 0
Stops [] = ⊤
Stops (c ∷ rest) = c ≡ 41

-- The bytes are the texts of complete types, and then the end or a closing parenthesis.
pub record TakesAll (arrays structures : ℕ) (bytes : List ℕ) (types : List Signature) (rest : List ℕ) : Type 0 where
  pub complete : AreComplete arrays structures types
  pub taken : bytes ≡ texts types ++ rest
  pub stops : Stops rest

pub record TakesNoTypes (arrays structures : ℕ) (bytes : List ℕ) : Type 0 where
  pub none : (types : List Signature) (rest : List ℕ) → TakesAll arrays structures bytes types rest → ⊥

abbrev pub TookAll : ℕ → ℕ → List ℕ → Result (List Signature × Bor (List ℕ)) Error → Type 0
TookAll arrays structures bytes (Ok x) = TakesAll arrays structures bytes x.0 x.1.now
TookAll arrays structures bytes (Err error.InvalidSignature) = TakesNoTypes arrays structures bytes
TookAll arrays structures bytes (Err error.OutOfMemory) = ⊤

-- the same, where only what follows is given
abbrev pub Skipped : ℕ → ℕ → List ℕ → Option (Bor (List ℕ)) → Type 0
Skipped arrays structures bytes (Some rest) = (signature : Signature) × Takes arrays structures bytes signature rest.now
Skipped arrays structures bytes None = TakesNone arrays structures bytes

abbrev pub SkippedAll : ℕ → ℕ → List ℕ → Option (Bor (List ℕ)) → Type 0
SkippedAll arrays structures bytes (Some rest) =
    (types : List Signature) × TakesAll arrays structures bytes types rest.now
SkippedAll arrays structures bytes None = TakesNoTypes arrays structures bytes
