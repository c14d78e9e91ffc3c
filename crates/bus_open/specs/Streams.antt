-- What a source gives and a sink takes, and how each counts its faults.
use Rattle.std.specs.Prelude.{◌≡◌, ℕ, ◌≤◌, ◌<◌, List, ◌++◌, ◌⊎◌, length, take, Option, is_some, Result, Ok, Err}
use Rattle.std.specs.Prelude.{MatchResult}
use Rattle.std.specs.Io.KnownBytes.{Keeps, Appends, Consumes, IsAtEnd}
use Rattle.react_core.specs.Told.{Rose}
use Rattle.bus_open.specs.declared.stream.Read.{Read}
use Rattle.bus_open.specs.declared.stream.Read.TheVariants as read

-- What is known of a stream stays known, and what is unknown unknown.
abbrev pub Tells : Option (List ℕ) → Option (List ℕ) → Type 0
Tells old new = is_some new ≡ is_some old

-- The bytes that a source had left and has left, what then stands in the slice, and the answer.
abbrev pub Gives : Option (List ℕ) → Option (List ℕ) → List ℕ → Read → Type 0
Gives old new into (read.Got n) = (n ≤ length into) × (0 < length into → 0 < n) × Consumes old new (take n into)
Gives old new into read.End = IsAtEnd old × Keeps old new
Gives old new into read.Failed = Keeps old new

-- The bytes that a sink held and holds, the piece that it was offered, and the answer.
abbrev pub Takes : {E : Type 0} → Option (List ℕ) → Option (List ℕ) → List ℕ → Result ℕ E → Type 0
Takes old new piece answer = MatchResult answer (λ n. (n ≤ length piece) × (0 < length piece → 0 < n) × Appends old
    new (take n piece)) (λ _. Keeps old new)

-- A read failed exactly where the count of faults rose.
abbrev pub CountsRead : ℕ → ℕ → Read → Type 0
CountsRead before now (read.Got n) = now ≡ before
CountsRead before now read.End = now ≡ before
CountsRead before now read.Failed = Rose before now

-- A write failed exactly where the count of faults rose.
abbrev pub CountsWrite : {T E : Type 0} → ℕ → ℕ → Result T E → Type 0
CountsWrite before now (Ok v) = now ≡ before
CountsWrite before now (Err e) = Rose before now

-- A sink gained some first part of the text.
abbrev pub GainsFront : Option (List ℕ) → Option (List ℕ) → List ℕ → Type 0
GainsFront old new text = (front : List ℕ) × (rest : List ℕ) × (text ≡ front ++ rest) × Appends old new front

-- A source lost some first part of its bytes.
abbrev pub LosesFront : Option (List ℕ) → Option (List ℕ) → Type 0
LosesFront old new = (front : List ℕ) × Consumes old new front

-- A sink gained all of the text, or it failed and gained some first part.
abbrev pub GainsOrFails : Option (List ℕ) → Option (List ℕ) → ℕ → ℕ → List ℕ → Type 0
GainsOrFails old new before now text = Appends old new text ⊎ (Rose before now × GainsFront old new text)
