-- The heap's entries as plain data.
use Rattle.std.specs.Prelude.{◌≡◌, ◌<◌, ◌≤◌, ℕ, Bool, false, ◌&&◌, ◌||◌, nat_lt, ◌==◌, List, ◌∷◌}
use Rattle.std.specs.Prelude.{All, Contains, IsPermutation}
use Rattle.react_timers.specs.declared.entry.Entry.{Entry}

-- what contracts see of a heap: its entries in no particular order, and how many it has memory for
pub record Heaped : Type 0 where
  pub items : List Entry
  pub places : ℕ

-- whether x comes before y: by moment, then by number
abbrev pub is_sooner : Entry → Entry → Bool
is_sooner x y = nat_lt x.when y.when || (x.when == y.when && nat_lt x.number y.number)

-- e is one of the entries, and none is sooner
abbrev pub IsSoonest : Entry → List Entry → Type 0
IsSoonest e items = Contains items e × All (λ x. is_sooner x e ≡ false) items

-- each entry has a later moment
abbrev pub NoneDue : ℕ → List Entry → Type 0
NoneDue now = All (λ x. now < x.when)

-- what a heap gives where the soonest of its entries is e and the others are left
abbrev pub Pops : List Entry → Entry → List Entry → Type 0
Pops old e new = IsPermutation old (e ∷ new) × All (λ x. is_sooner x e ≡ false) old

-- the same, and e has a moment of at most `now`
abbrev pub PopsDue : ℕ → List Entry → List Entry → Entry → Type 0
PopsDue now old new e = (e.when ≤ now) × Pops old e new
