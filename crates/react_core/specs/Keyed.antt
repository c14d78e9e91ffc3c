-- Lists of what stands under keys, in the order of the keys.
use Rattle.std.specs.Prelude.{◌+◌, ◌≤◌, ℕ, nat_lt, ◌==◌, if◌then◌else◌, List, [], ◌∷◌, Option, Some, None}

module _ {T : Type 0} where
  -- what stands under the key
  abbrev pub at_key : List (ℕ × T) → ℕ → Option T
  at_key [] key = None
  at_key (x ∷ xs) key = if x.0 == key then Some x.1 else at_key xs key

  -- under the key stands this in place of what stood there, the others stay
  abbrev pub with_at : List (ℕ × T) → ℕ → T → List (ℕ × T)
  with_at [] key new = []
  with_at (x ∷ xs) key new = if x.0 == key then (key, new) ∷ xs else x ∷ with_at xs key new

  -- this stands before the first with a larger key
  abbrev pub with_new_at : List (ℕ × T) → ℕ → T → List (ℕ × T)
  with_new_at [] key new = (key, new) ∷ []
  with_new_at (x ∷ xs) key new = if nat_lt key x.0 then (key, new) ∷ x ∷ xs else x ∷ with_new_at xs key new

  -- what stood under the key is gone
  abbrev pub without_at : List (ℕ × T) → ℕ → List (ℕ × T)
  without_at [] key = []
  without_at (x ∷ xs) key = if x.0 == key then xs else x ∷ without_at xs key

  -- the keys rise, the first from this number on
  abbrev pub KeysRiseFrom : ℕ → List (ℕ × T) → Type 0
  KeysRiseFrom low [] = Unit {0}
  KeysRiseFrom low (x ∷ xs) = (low ≤ x.0) × KeysRiseFrom (x.0 + 1) xs

  -- this holds of each
  abbrev pub Each : (T → Type 0) → List (ℕ × T) → Type 0
  Each P [] = Unit {0}
  Each P (x ∷ xs) = P x.1 × Each P xs

  -- the sum of these numbers of all
  abbrev pub sum_at : (T → ℕ) → List (ℕ × T) → ℕ
  sum_at count [] = 0
  sum_at count (x ∷ xs) = count x.1 + sum_at count xs
