-- There are at least as many entries as live timers.
use Rattle.std.proofs.Common.{◌≡◌, ◌<◌, ◌≤◌, ℕ, Bool, true, not, List, [], ◌∷◌, length, ap, refl, inl, inr, suc}
use Rattle.std.proofs.Common.{arith}
use Rattle.std.specs.Prelude.{◌==◌, Contains, filter}
use Rattle.std.specs.List.{AllByRecursion}
use Rattle.std.proofs.lemmas.Bool.{cases_Bool, eqb-true, eq-eqb}
use Rattle.react_timers.specs.declared.entry.Entry.{Entry}
use Rattle.react_timers.specs.declared.timer.LiveTimer.{LiveTimer}
use Rattle.react_timers.specs.Held.{Held, Covered, entry_of}
use Rattle.react_timers.specs.Live.{Rises}
use Rattle.react_timers.proofs.Covers.{contains_head, contains_later, contains_cases}

abbrev others : ℕ → Entry → Bool
others n x = not (x.number == n)

filter-fewer : (n : ℕ) (items : List Entry) → length (filter (others n) items) ≤ length items
filter-fewer n [] = omega arith
filter-fewer n (x ∷ xs) = elim (cases_Bool (others n x)) [
  | inl yes_ ↦ rw yes_ (omega (arith, filter-fewer n xs))
  | inr no_ ↦ rw no_ (omega (arith, filter-fewer n xs))
]

-- an entry and those of other numbers
one-more : (e : Entry) (items : List Entry) → Contains items e →
    suc (length (filter (others e.number) items)) ≤ length items
one-more e [] c = absurd (omega (arith, c.1))
one-more e (x ∷ xs) c = elim (cases_Bool (others e.number x)) [
  | inl yes_ ↦ rw yes_ (elim (contains_cases x e xs c.0 c.1 c.2) [
    | inl is ↦
        let same : (x.number == e.number) ≡ true = eq-eqb x.number e.number (ap (λ (z : Entry). z.number) is) in
        absurd (let no_ = rw same at yes_ in cc)
    | inr later ↦ omega (arith, one-more e xs later)
  ])
  | inr no_ ↦ rw no_ (omega (arith, filter-fewer e.number xs))
]

kept : (n : ℕ) (e : Entry) (items : List Entry) → others n e ≡ true → Contains items e →
    Contains (filter (others n) items) e
kept n e [] is c = absurd (omega (arith, c.1))
kept n e (x ∷ xs) is c = elim (contains_cases x e xs c.0 c.1 c.2) [
  | inl same ↦ rw (same, is) (contains_head e (filter (others n) xs))
  | inr later ↦ elim (cases_Bool (others n x)) [
    | inl yes_ ↦ rw yes_ (contains_later x e (filter (others n) xs) (kept n e xs is later))
    | inr no_ ↦ rw no_ (kept n e xs is later)
  ]
]

differs : (n m : ℕ) → n < m → not (m == n) ≡ true
differs n m lt = elim (cases_Bool (m == n)) [
  | inl same ↦ absurd (let is = eqb-true m n same in omega (arith, is))
  | inr other ↦ rw other refl
]

covered-others : (t : LiveTimer) (items : List Entry) (live : List LiveTimer) →
    AllByRecursion (λ (y : LiveTimer). t.number < y.number) live → Covered items live →
    Covered (filter (others t.number) items) live
covered-others t items [] above h = tt
covered-others t items (y ∷ ys) above h =
    (kept t.number (entry_of y) items (differs t.number y.number above.0) h.0, covered-others t items ys above.1 h.1)

rising-covered : (items : List Entry) (live : List LiveTimer) → Rises live → Covered items live →
    length live ≤ length items
rising-covered items [] rises h = omega arith
rising-covered items (t ∷ ts) rises h =
    let rest = rising-covered (filter (others t.number) items) ts rises.1 (covered-others t items ts rises.0 h.1) in
    let more = one-more (entry_of t) items h.0 in
    omega (arith, rest, more)

pub live-le-entries : (items : List Entry) (live : List LiveTimer) → Held items live → length live ≤ length items
live-le-entries items live h = rising-covered items live h.rises h.covered
