-- Which timers are due, and in which order.
use Rattle.std.proofs.Common.{◌≡◌, ℕ, ◌<◌, ◌≤◌, Bool, true, false, List, [], ◌∷◌, Some, refl, ap, sym, subst, ◌∙◌, inl}
use Rattle.std.proofs.Common.{inr, arith}
use Rattle.std.specs.Prelude.{nat_lt, nat_le, ◌==◌, ◌++◌, not, filter, IsPermutation}
use Rattle.std.specs.List.{AllByRecursion}
use Rattle.std.proofs.lemmas.Bool.{cases_Bool, cases_eq, and_parts, lt-ltb, le-ltb, le-leb, lt-leb, leb-true, ltb-true}
use Rattle.std.proofs.lemmas.Bool.{ltb-false, eq-eqb, eqb-true, ne_eqb}
use Rattle.std.proofs.lemmas.Bool.Decides.{nat_tests}
use Rattle.std.proofs.lemmas.List.Sorted.{IsPermutation-refl, IsPermutation-sym, IsPermutation-cons}
use Rattle.std.proofs.lemmas.List.Sorted.{IsPermutation-trans, IsPermutation-middle}
use Rattle.std.proofs.lemmas.List.Sorted.{IsPermutation-append_left, IsPermutation-filter_both}
use Rattle.react_timers.specs.declared.timer.LiveTimer.{LiveTimer}
use Rattle.react_timers.specs.declared.timer.TimerOp.{TimerOp}
use Rattle.react_timers.specs.declared.timer.TimerOp.TheVariants.{Insert, Remove}
use Rattle.react_timers.specs.Live.{Rises, added, is_at, without, task_at, is_before, placed, due, later, applied}
use Rattle.react_timers.specs.Live.{IsInOrder}
use Rattle.react_timers.proofs.Lists.{absent}

-- what holds of each timer holds of each that a filter keeps
pub each-filter : (P : LiveTimer → Type 0) (p : LiveTimer → Bool) (xs : List LiveTimer) → AllByRecursion P xs →
    AllByRecursion P (filter p xs)
each-filter P p [] h = tt
each-filter P p (x ∷ xs) h = elim (cases_Bool (p x)) [
  | inl holds ↦ rw holds (h.0, each-filter P p xs h.1)
  | inr fails ↦ rw fails (each-filter P p xs h.1)
]

pub each-added : (P : LiveTimer → Type 0) (t : LiveTimer) (xs : List LiveTimer) → P t → AllByRecursion P xs →
    AllByRecursion P (added t xs)
each-added P t [] one h = (one, tt)
each-added P t (x ∷ xs) one h = elim (cases_Bool (nat_lt x.number t.number)) [
  | inl low ↦ rw low (h.0, each-added P t xs one h.1)
  | inr high ↦ elim (cases_Bool (x.number == t.number)) [
    | inl same ↦ rw (high, same) h
    | inr other ↦ rw (high, other) (one, h)
  ]
]

each-placed : (P : LiveTimer → Type 0) (t : LiveTimer) (xs : List LiveTimer) → P t → AllByRecursion P xs →
    AllByRecursion P (placed t xs)
each-placed P t [] one h = (one, tt)
each-placed P t (x ∷ xs) one h = elim (cases_Bool (is_before x t)) [
  | inl first ↦ rw first (h.0, each-placed P t xs one h.1)
  | inr last ↦ rw last (one, h)
]

each-due : (P : LiveTimer → Type 0) (now : ℕ) (xs : List LiveTimer) → AllByRecursion P xs →
    AllByRecursion P (due now xs)
each-due P now [] h = tt
each-due P now (x ∷ xs) h = elim (cases_Bool (nat_le x.when now)) [
  | inl holds ↦ rw holds (each-placed P x (due now xs) h.0 (each-due P now xs h.1))
  | inr fails ↦ rw fails (each-due P now xs h.1)
]

pub rises-filter : (p : LiveTimer → Bool) (xs : List LiveTimer) → Rises xs → Rises (filter p xs)
rises-filter p [] r = tt
rises-filter p (x ∷ xs) r = elim (cases_Bool (p x)) [
  | inl holds ↦ rw holds (each-filter (λ y. x.number < y.number) p xs r.0, rises-filter p xs r.1)
  | inr fails ↦ rw fails (rises-filter p xs r.1)
]

higher : (n m : ℕ) (xs : List LiveTimer) → n < m → AllByRecursion (λ y. m < y.number) xs →
    AllByRecursion (λ y. n < y.number) xs
higher n m [] lt h = tt
higher n m (x ∷ xs) lt h = (omega arith, higher n m xs lt h.1)

pub rises-added : (t : LiveTimer) (xs : List LiveTimer) → Rises xs → Rises (added t xs)
rises-added t [] r = (tt, tt)
rises-added t (x ∷ xs) r = elim (cases_Bool (nat_lt x.number t.number)) [
  | inl low ↦
      rw low (each-added (λ y. x.number < y.number) t xs (ltb-true x.number t.number low) r.0, rises-added t xs r.1)
  | inr high ↦ elim (cases_eq x.number t.number) [
    | inl same ↦ let s : (x.number == t.number) ≡ true = eq-eqb _ _ same in rw (high, s) r
    | inr other ↦
        let o : (x.number == t.number) ≡ false = ne_eqb _ _ other in
        let le = ltb-false x.number t.number high in
        let lt : t.number < x.number = omega (arith, le, other) in
        rw (high, o) ((lt, higher t.number x.number xs lt r.0), r)
  ]
]

pub rises-applied : (op : TimerOp) (xs : List LiveTimer) → Rises xs → Rises (applied xs op)
rises-applied (Insert when number task) xs r = rises-added _ xs r
rises-applied (Remove when number) xs r = rises-filter _ xs r

placed-first : (t : LiveTimer) (xs : List LiveTimer) → AllByRecursion (λ y. is_before y t ≡ false) xs →
    placed t xs ≡ t ∷ xs
placed-first t [] h = refl
placed-first t (x ∷ xs) h = rw h.0 refl

-- no timer is before t, so any other is after it
after : (x t : LiveTimer) → is_before x t ≡ false → is_at t.when t.number x ≡ false → is_before t x ≡ true
after x t h other = grind (arith, nat_tests)

same_timer : (x t : LiveTimer) → is_at t.when t.number x ≡ true → Some x.task ≡ Some t.task → x ≡ t
same_timer x t same task =
    let parts = and_parts (x.number == t.number) (x.when == t.when) same in
    let number : x.number ≡ t.number = eqb-true x.number t.number parts.0 in
    let when : x.when ≡ t.when = eqb-true x.when t.when parts.1 in
    let task' : x.task ≡ t.task = cc in
    λ i. record { number = number i; when = when i; task = task' i }

-- the first due timer, where no timer is before it
pub due-first : (now : ℕ) (xs : List LiveTimer) (t : LiveTimer) → Rises xs → task_at t.when t.number xs ≡ Some t.task →
    t.when ≤ now → AllByRecursion (λ x. is_before x t ≡ false) xs →
    due now xs ≡ t ∷ due now (without t.when t.number xs)
due-first now [] t r is le h = absurd (cc)
due-first now (x ∷ xs) t r is le h = elim (cases_Bool (is_at t.when t.number x)) [
  | inl same ↦
      let x-is : x ≡ t = same_timer x t same (rw same at is) in
      let holds : nat_le x.when now ≡ true = le-leb x.when now (let w = ap (λ (z : LiveTimer). z.when) x-is in omega (arith, w, le)) in
      let number : x.number ≡ t.number = ap (λ (z : LiveTimer). z.number) x-is in
      let none : without t.when t.number xs ≡ xs = (absent t.when t.number xs (rw number at r.0)).1 in
      let first : AllByRecursion (λ y. is_before y x ≡ false) xs = subst (λ (z : LiveTimer). AllByRecursion (λ y. is_before y z ≡ false) xs) (sym x-is) h.1 in
      let placed : placed x (due now xs) ≡ x ∷ due now xs = placed-first x (due now xs) (each-due (λ y. is_before y x ≡ false) now xs first) in
      rw (holds, same, none) (placed ∙ ap (λ (z : LiveTimer). z ∷ due now xs) x-is)
  | inr other ↦
      let rest = due-first now xs t r.1 (rw other at is) le h.1 in
      elim (cases_Bool (nat_le x.when now)) [
        | inl holds ↦ rw (other, holds) (ap (placed x) rest ∙ rw (after x t h.0 other) refl)
        | inr fails ↦ rw (other, fails) rest
      ]
]

pub later-first : (now w n : ℕ) (xs : List LiveTimer) → w ≤ now → later now (without w n xs) ≡ later now xs
later-first now w n [] le = refl
later-first now w n (x ∷ xs) le = elim (cases_Bool (is_at w n x)) [
  | inl same ↦
      let when : x.when ≡ w = eqb-true x.when w (and_parts (x.number == n) (x.when == w) same).1 in
      let fails : nat_lt now x.when ≡ false = le-ltb now x.when (omega (arith, when, le)) in
      rw (same, fails) (later-first now w n xs le)
  | inr other ↦ elim (cases_Bool (nat_lt now x.when)) [
    | inl holds ↦ rw (other, holds) (ap (λ (l : List LiveTimer). x ∷ l) (later-first now w n xs le))
    | inr fails ↦ rw (other, fails) (later-first now w n xs le)
  ]
]

-- no timer is due
pub due-none : (now : ℕ) (xs : List LiveTimer) → AllByRecursion (λ x. now < x.when) xs →
    (due now xs ≡ []) × (later now xs ≡ xs)
due-none now [] h = (refl, refl)
due-none now (x ∷ xs) h =
    let fails : nat_le x.when now ≡ false = lt-leb x.when now h.0 in
    let holds : nat_lt now x.when ≡ true = lt-ltb now x.when h.0 in
    let rest = due-none now xs h.1 in
    rw (fails, holds) (rest.0, ap (λ (l : List LiveTimer). x ∷ l) rest.1)

-- The law on timers due in one pass: they are taken in the order of moment, then number, and each is due.
before-one_way : (x y : LiveTimer) → is_before x y ≡ true → is_before y x ≡ false
before-one_way x y h = grind (arith, nat_tests)

before-chain : (x y z : LiveTimer) → is_before y x ≡ false → is_before z y ≡ false → is_before z x ≡ false
before-chain x y z p q = grind (arith, nat_tests)

each-chain : (x y : LiveTimer) (zs : List LiveTimer) → is_before y x ≡ false →
    AllByRecursion (λ z. is_before z y ≡ false) zs → AllByRecursion (λ z. is_before z x ≡ false) zs
each-chain x y [] p h = tt
each-chain x y (z ∷ zs) p h = (before-chain x y z p h.0, each-chain x y zs p h.1)

placed-in_order : (t : LiveTimer) (xs : List LiveTimer) → IsInOrder xs → IsInOrder (placed t xs)
placed-in_order t [] h = (tt, tt)
placed-in_order t (x ∷ xs) h = elim (cases_Bool (is_before x t)) [
  | inl first ↦
      rw first (each-placed (λ y. is_before y x ≡ false) t xs (before-one_way x t first) h.0, placed-in_order t xs h.1)
  | inr last ↦ rw last ((last, each-chain t x xs last h.0), h)
]

pub due-in_order : (now : ℕ) (xs : List LiveTimer) → IsInOrder (due now xs)
due-in_order now [] = tt
due-in_order now (x ∷ xs) = elim (cases_Bool (nat_le x.when now)) [
  | inl holds ↦ rw holds (placed-in_order x (due now xs) (due-in_order now xs))
  | inr fails ↦ rw fails (due-in_order now xs)
]

pub due-is_due : (now : ℕ) (xs : List LiveTimer) → AllByRecursion (λ x. x.when ≤ now) (due now xs)
due-is_due now [] = tt
due-is_due now (x ∷ xs) = elim (cases_Bool (nat_le x.when now)) [
  | inl holds ↦
      rw holds (each-placed (λ y. y.when ≤ now) x (due now xs) (leb-true x.when now holds) (due-is_due now xs))
  | inr fails ↦ rw fails (due-is_due now xs)
]

-- The law on which timers are due: those of the list with a moment at most `now`, and the others are later.
placed-moves : (t : LiveTimer) (xs : List LiveTimer) → IsPermutation (t ∷ xs) (placed t xs)
placed-moves t [] = IsPermutation-refl (t ∷ [])
placed-moves t (x ∷ xs) = elim (cases_Bool (is_before x t)) [
  | inl first ↦
      let swapped : IsPermutation (t ∷ x ∷ xs) (x ∷ t ∷ xs) = IsPermutation-sym (x ∷ t ∷ xs) (t ∷ x ∷ xs) (IsPermutation-middle (x ∷ []) t xs) in
      let rest : IsPermutation (x ∷ t ∷ xs) (x ∷ placed t xs) = IsPermutation-cons x (t ∷ xs) (placed t xs) (placed-moves t xs) in
      rw first (IsPermutation-trans (t ∷ x ∷ xs) (x ∷ t ∷ xs) (x ∷ placed t xs) swapped rest)
  | inr last ↦ rw last (IsPermutation-refl (t ∷ x ∷ xs))
]

pub due-moves : (now : ℕ) (xs : List LiveTimer) → IsPermutation (filter (λ x. nat_le x.when now) xs) (due now xs)
due-moves now [] = IsPermutation-refl []
due-moves now (x ∷ xs) = elim (cases_Bool (nat_le x.when now)) [
  | inl holds ↦
      let kept : List LiveTimer = filter (λ y. nat_le y.when now) xs in
      let rest : IsPermutation (x ∷ kept) (x ∷ due now xs) = IsPermutation-cons x kept (due now xs) (due-moves now xs) in
      rw holds (IsPermutation-trans (x ∷ kept) (x ∷ due now xs) (placed x (due now xs)) rest (placed-moves x (due now xs)))
  | inr fails ↦ rw fails (due-moves now xs)
]

later-is : (now w : ℕ) → nat_lt now w ≡ not (nat_le w now)
later-is now w = grind (arith, nat_tests)

pub due-or_later : (now : ℕ) (xs : List LiveTimer) → IsPermutation xs (due now xs ++ later now xs)
due-or_later now xs =
    let passed : List LiveTimer = filter (λ x. nat_le x.when now) xs in
    let parts : IsPermutation xs (passed ++ later now xs) = IsPermutation-filter_both (λ x. nat_le x.when now) (λ x. nat_lt now x.when) (λ x. later-is now x.when) xs in
    let moved : IsPermutation (passed ++ later now xs) (due now xs ++ later now xs) = IsPermutation-append_left (later now xs) passed (due now xs) (due-moves now xs) in
    IsPermutation-trans xs (passed ++ later now xs) (due now xs ++ later now xs) parts moved
