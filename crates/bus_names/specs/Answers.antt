-- What calls answer that make a name. A name of one kind is seen as its text.
use Rattle.std.specs.Prelude.{◌≡◌, ⊤, ℕ, List, Result, Ok, Err}
use Rattle.bus_names.specs.declared.error.Error.{Error}
use Rattle.bus_names.specs.declared.error.Error.TheVariants.{InvalidName, InvalidNameConversion, OutOfMemory}

-- the text where it is a name of the kind, else the refusal
abbrev pub Reads : (List ℕ → Type 0) → (List ℕ → List ℕ) → List ℕ → Result (List ℕ) Error → Type 0
Reads IsName refusal text (Ok name) = (name ≡ text) × IsName text
Reads IsName refusal text (Err (InvalidName why)) = (why.now ≡ refusal text) × ¬ IsName text
Reads IsName refusal text (Err (InvalidNameConversion from to)) = ⊥
Reads IsName refusal text (Err OutOfMemory) = ⊥

-- the same where the text is copied, which only a name is
abbrev pub ReadsOwned : (List ℕ → Type 0) → (List ℕ → List ℕ) → List ℕ → Result (List ℕ) Error → Type 0
ReadsOwned IsName refusal text (Ok name) = (name ≡ text) × IsName text
ReadsOwned IsName refusal text (Err (InvalidName why)) = (why.now ≡ refusal text) × ¬ IsName text
ReadsOwned IsName refusal text (Err (InvalidNameConversion from to)) = ⊥
ReadsOwned IsName refusal text (Err OutOfMemory) = IsName text

-- an equal name, or want of memory
abbrev pub Copies : {N : Type 0} → N → Result N Error → Type 0
Copies name (Ok copy) = copy ≡ name
Copies name (Err (InvalidName why)) = ⊥
Copies name (Err (InvalidNameConversion from to)) = ⊥
Copies name (Err OutOfMemory) = ⊤
