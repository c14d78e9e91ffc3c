-- Rows under keys, in the order of the keys, and where a key stands among them.
use Rattle.std.specs.Prelude.{◌≡◌, ◌<◌, ℕ, suc, nat_lt, if◌then◌else◌, List, [], ◌∷◌, Some, length, remove, slice_set}
use Rattle.std.specs.Prelude.{slice_index_or}
use Rattle.react_core.specs.Keyed.{at_key, with_at, without_at}

module _ {T : Type 0} where
  -- how many rows at the front have a lower key
  abbrev pub place : ℕ → List (ℕ × T) → ℕ
  place key [] = 0
  place key (x ∷ xs) = if nat_lt x.0 key then suc (place key xs) else 0

  -- the row of this key is the one at `at`
  pub record StandsAt (key : ℕ) (rows : List (ℕ × T)) (at : ℕ) : Type 0 where
    pub within : at < length rows
    pub keyed : (d : ℕ × T) → (slice_index_or rows at d).0 ≡ key
    pub value : (d : ℕ × T) → at_key rows key ≡ Some (slice_index_or rows at d).1
    pub written : (new : ℕ × T) → new.0 ≡ key → slice_set rows at new ≡ with_at rows key new.1
    pub left : remove rows at ≡ without_at rows key
