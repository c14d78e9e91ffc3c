-- The order of a heap in a list: the children of the entry at p stand at 2p + 1 and 2p + 2.
use Rattle.std.specs.Prelude.{◌≡◌, ◌+◌, ◌*◌, ◌<◌, ◌≤◌, ◌≢◌, ℕ, false, List, slice_index_or}
use Rattle.react_timers.specs.declared.entry.Entry.{Entry}
use Rattle.react_timers.specs.Heaped.{is_sooner}

abbrev pub IsChild : ℕ → ℕ → Type 0
IsChild p k = (p * 2 + 1 ≤ k) × (k ≤ p * 2 + 2)

-- the entry at k is not sooner than the one at p
abbrev pub KeepsBelow : List Entry → ℕ → ℕ → Type 0
KeepsBelow xs p k = (d : Entry) → is_sooner (slice_index_or xs k d) (slice_index_or xs p d) ≡ false

-- among the first n, from low on, no child is sooner than its parent
pub record IsOrdered (xs : List Entry) (low n : ℕ) : Type 0 where
  pub pair : (p k : ℕ) → low ≤ p → IsChild p k → k < n → KeepsBelow xs p k

-- the same, but for the entry at j and its parent
pub record IsOrderedAbove (xs : List Entry) (j n : ℕ) : Type 0 where
  pub pair : (p k : ℕ) → IsChild p k → k < n → k ≢ j → KeepsBelow xs p k
  pub across : (p k : ℕ) → IsChild p j → IsChild j k → k < n → KeepsBelow xs p k

-- the same from low on, but for the entry at j and its children
pub record IsOrderedBelow (xs : List Entry) (low j n : ℕ) : Type 0 where
  pub pair : (p k : ℕ) → low ≤ p → IsChild p k → k < n → p ≢ j → KeepsBelow xs p k
  pub across : (p k : ℕ) → low ≤ p → IsChild p j → IsChild j k → k < n → KeepsBelow xs p k
