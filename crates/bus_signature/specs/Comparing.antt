-- A text beside a signature.
use Rattle.std.specs.Prelude.{◌≡◌, ◌⊎◌, ℕ, List, [], ◌++◌, Option, Some, None}
use Rattle.std.specs.Borrow.{Bor}
use Rattle.bus_signature.specs.declared.signature.Signature.{Signature}
use Rattle.bus_signature.specs.Texts.{text, text_no_parens}

-- one of the two printed forms
abbrev pub IsPrinted : List ℕ → Signature → Type 0
IsPrinted bytes signature = (bytes ≡ text signature) ⊎ (bytes ≡ text_no_parens signature)

-- what is left of the bytes behind a front, where they have it
abbrev pub Stripped : List ℕ → List ℕ → Option (Bor (List ℕ)) → Type 0
Stripped front bytes (Some rest) = bytes ≡ front ++ rest.now
Stripped front bytes None = (rest : List ℕ) → bytes ≡ front ++ rest → ⊥

-- nothing is left
abbrev pub AtEnd : Option (Bor (List ℕ)) → Type 0
AtEnd (Some rest) = rest.now ≡ []
AtEnd None = ⊥
