-- The moment of one number through operations, and whether any number has one after them.
use Rattle.std.proofs.Common.{◌≡◌, ℕ, ◌+◌, ◌<◌, ◌≤◌, Bool, true, false, not, List, [], ◌∷◌, Option, None, length}
use Rattle.std.proofs.Common.{get_or, drop, refl, ap, sym, ◌∙◌, inl, inr, arith, add-one, drop-cons}
use Rattle.std.specs.Prelude.{nat_lt, ◌==◌, if◌then◌else◌, is_some}
use Rattle.std.specs.List.{AllByRecursion, list_any}
use Rattle.std.proofs.lemmas.Bool.{cases_Bool, cases_eq, and_parts, eq-eqb, eqb-true, ne_eqb}
use Rattle.std.proofs.lemmas.Bool.{ltb-false, or_parts}
use Rattle.std.proofs.lemmas.List.{drop_all}
use Rattle.std.proofs.lemmas.List.Folds.{list_any_none}
use Rattle.react_timers.specs.declared.timer.LiveTimer.{LiveTimer}
use Rattle.react_timers.specs.declared.timer.TimerOp.{TimerOp}
use Rattle.react_timers.specs.declared.timer.TimerOp.TheVariants.{Insert, Remove}
use Rattle.react_timers.specs.Live.{Rises, added, is_at, without, applied, applied_all}
use Rattle.react_timers.specs.Moments.{moment_of, inserted, removed, moment_after, moment_after_all, stays}
use Rattle.react_timers.specs.Moments.{insertion_passes}
use Rattle.react_timers.proofs.Lists.{above, absent}
use Rattle.react_timers.proofs.Dues.{each-filter, each-added, rises-applied}

pub moment_below : (n : ℕ) (xs : List LiveTimer) → AllByRecursion (λ y. n < y.number) xs → moment_of n xs ≡ None
moment_below n [] h = refl
moment_below n (x ∷ xs) h =
    let other : (x.number == n) ≡ false = ne_eqb x.number n (λ e. omega (arith, e, h.0)) in
    rw other (moment_below n xs h.1)

moment_added : (n : ℕ) (t : LiveTimer) (xs : List LiveTimer) → Rises xs →
    moment_of n (added t xs) ≡ (if t.number == n then inserted t.when (moment_of n xs) else moment_of n xs)
moment_added n t [] r = refl
moment_added n t (x ∷ xs) r = elim (cases_Bool (nat_lt x.number t.number)) [
  | inl low ↦ elim (cases_Bool (x.number == n)) [
    | inl same ↦ elim (cases_Bool (t.number == n)) [
      | inl one ↦ rw (low, same, one) refl
      | inr two ↦ rw (low, same, two) refl
    ]
    | inr other ↦ rw (low, other) (moment_added n t xs r.1)
  ]
  | inr high ↦ elim (cases_eq x.number t.number) [
    | inl same ↦
        let s : (x.number == t.number) ≡ true = eq-eqb _ _ same in
        elim (cases_eq t.number n) [
          | inl one ↦
              let a : (t.number == n) ≡ true = eq-eqb _ _ one in
              let b : (x.number == n) ≡ true = eq-eqb _ _ (same ∙ one) in
              rw (high, s, a, b) refl
          | inr two ↦ let a : (t.number == n) ≡ false = ne_eqb _ _ two in rw (high, s, a) refl
        ]
    | inr other ↦
        let o : (x.number == t.number) ≡ false = ne_eqb _ _ other in
        let le = ltb-false x.number t.number high in
        let lt : t.number < x.number = omega (arith, le, other) in
        elim (cases_eq t.number n) [
          | inl one ↦
              let a : (t.number == n) ≡ true = eq-eqb _ _ one in
              let low : n < x.number = omega (arith, lt, one) in
              let b : (x.number == n) ≡ false = ne_eqb x.number n (λ e. omega (arith, e, low)) in
              let none : moment_of n xs ≡ None = moment_below n xs (above n x.number xs (omega (arith, low)) r.0) in
              rw (high, o, a, b, none) refl
          | inr two ↦ let a : (t.number == n) ≡ false = ne_eqb _ _ two in rw (high, o, a) refl
        ]
  ]
]

moment_without : (n w m : ℕ) (xs : List LiveTimer) → Rises xs →
    moment_of n (without w m xs) ≡ (if m == n then removed w (moment_of n xs) else moment_of n xs)
moment_without n w m [] r = elim (cases_Bool (m == n)) [
  | inl same ↦ rw same refl
  | inr other ↦ rw other refl
]
moment_without n w m (x ∷ xs) r = elim (cases_Bool (is_at w m x)) [
  | inl here ↦
      let parts = and_parts (x.number == m) (x.when == w) here in
      let number : x.number ≡ m = eqb-true x.number m parts.0 in
      let left : without w m xs ≡ xs = (absent w m xs (above m x.number xs (omega (arith, number)) r.0)).1 in
      elim (cases_eq m n) [
        | inl same ↦
            let a : (m == n) ≡ true = eq-eqb _ _ same in
            let b : (x.number == n) ≡ true = eq-eqb _ _ (number ∙ same) in
            let none : moment_of n xs ≡ None = moment_below n xs (above n x.number xs (omega (arith, number, same)) r.0) in
            rw (here, left, a, b, parts.1, none) refl
        | inr other ↦
            let a : (m == n) ≡ false = ne_eqb _ _ other in
            let b : (x.number == n) ≡ false = ne_eqb x.number n (λ e. other (sym number ∙ e)) in
            rw (here, left, a, b) refl
      ]
  | inr there ↦ elim (cases_eq x.number n) [
    | inl number ↦
        let b : (x.number == n) ≡ true = eq-eqb _ _ number in
        elim (cases_eq m n) [
          | inl same ↦
              let a : (m == n) ≡ true = eq-eqb _ _ same in
              let c : (x.number == m) ≡ true = eq-eqb _ _ (number ∙ sym same) in
              let when : (x.when == w) ≡ false = rw c at there in
              rw (there, a, b, when) refl
          | inr other ↦ let a : (m == n) ≡ false = ne_eqb _ _ other in rw (there, a, b) refl
        ]
    | inr number ↦
        let b : (x.number == n) ≡ false = ne_eqb _ _ number in
        rw (there, b) (moment_without n w m xs r.1)
  ]
]

moment_applied : (n : ℕ) (xs : List LiveTimer) (op : TimerOp) → Rises xs →
    moment_of n (applied xs op) ≡ moment_after n (moment_of n xs) op
moment_applied n xs (Insert when number task) r =
    moment_added n (record { number = number; when = when; task = task }) xs r
moment_applied n xs (Remove when number) r = moment_without n when number xs r

moment_applied_all : (n : ℕ) (xs : List LiveTimer) (ops : List TimerOp) → Rises xs →
    moment_of n (applied_all xs ops) ≡ moment_after_all n (moment_of n xs) ops
moment_applied_all n xs [] r = refl
moment_applied_all n xs (op ∷ ops) r =
    moment_applied_all n (applied xs op) ops (rises-applied op xs r) ∙ ap (λ (m : Option ℕ). moment_after_all n m ops) (moment_applied n xs op r)

pub moment-step : (n : ℕ) (m : Option ℕ) (ops : List TimerOp) (i : ℕ) (d : TimerOp) → i < length ops →
    moment_after_all n (moment_after n m (get_or ops i d)) (drop (i + 1) ops) ≡ moment_after_all n m (drop i ops)
moment-step n m ops i d lt = rw (add-one, drop-cons ops i d lt) refl

pub moment-end : (n : ℕ) (m : Option ℕ) (xs : List LiveTimer) (ops : List TimerOp) (i : ℕ) → Rises xs → length ops ≤ i →
    moment_after_all n m (drop i ops) ≡ moment_after_all n (moment_of n xs) ops → is_some m ≡ stays xs ops n
moment-end n m xs ops i r le so_far =
    ap is_some (ap (moment_after_all n m) (sym (drop_all i ops le)) ∙ so_far ∙ sym (moment_applied_all n xs ops r))

-- what holds of the timers' numbers and of those that the operations add holds of the numbers after them
gone-applied : (q : ℕ → Bool) (op : TimerOp) (xs : List LiveTimer) → insertion_passes q op ≡ false →
    AllByRecursion (λ x. q x.number ≡ false) xs → AllByRecursion (λ x. q x.number ≡ false) (applied xs op)
gone-applied q (Insert when number task) xs one h =
    each-added (λ x. q x.number ≡ false) (record { number = number; when = when; task = task }) xs one h
gone-applied q (Remove when number) xs one h =
    each-filter (λ x. q x.number ≡ false) (λ x. not (is_at when number x)) xs h

gone-applied_all : (q : ℕ → Bool) (ops : List TimerOp) (xs : List LiveTimer) →
    list_any (insertion_passes q) ops ≡ false → AllByRecursion (λ x. q x.number ≡ false) xs →
    AllByRecursion (λ x. q x.number ≡ false) (applied_all xs ops)
gone-applied_all q [] xs none h = h
gone-applied_all q (op ∷ ops) xs none h =
    let parts = or_parts (insertion_passes q op) (list_any (insertion_passes q) ops) none in
    gone-applied_all q ops (applied xs op) parts.1 (gone-applied q op xs parts.0 h)

none-passes : (q : ℕ → Bool) (xs : List LiveTimer) → list_any (λ x. q x.number) xs ≡ false →
    AllByRecursion (λ x. q x.number ≡ false) xs
none-passes q [] none = tt
none-passes q (x ∷ xs) none =
    let parts = or_parts (q x.number) (list_any (λ (y : LiveTimer). q y.number) xs) none in (parts.0, none-passes q xs parts.1)

-- a list whose own numbers have no timer in it is empty
nothing-found : (xs : List LiveTimer) → AllByRecursion (λ x. is_some (moment_of x.number xs) ≡ false) xs → xs ≡ []
nothing-found [] h = refl
nothing-found (x ∷ xs) h =
    let same : (x.number == x.number) ≡ true = eq-eqb _ _ refl in absurd (let found = rw same at h.0 in cc)

pub none-left : (live : List LiveTimer) (queue : List TimerOp) →
    list_any (λ t. stays live queue t.number) live ≡ false →
    list_any (insertion_passes (stays live queue)) queue ≡ false → applied_all live queue ≡ []
none-left live queue timers ops =
    nothing-found (applied_all live queue) (gone-applied_all (stays live queue) queue live ops (none-passes (stays live queue) live timers))

none-stays : (live : List LiveTimer) (queue : List TimerOp) (n : ℕ) → applied_all live queue ≡ [] →
    stays live queue n ≡ false
none-stays live queue n none = rw none refl

pub no-timer-stays : (live : List LiveTimer) (queue : List TimerOp) → applied_all live queue ≡ [] →
    list_any (λ t. stays live queue t.number) live ≡ false
no-timer-stays live queue none =
    list_any_none (λ (t : LiveTimer). stays live queue t.number) live (λ k d lt. none-stays live queue _ none)

pub no-insertion-stays : (live : List LiveTimer) (queue : List TimerOp) → applied_all live queue ≡ [] →
    list_any (insertion_passes (stays live queue)) queue ≡ false
no-insertion-stays live queue none =
    list_any_none (insertion_passes (stays live queue)) queue (λ k d lt. none-passes-of (get_or queue k d))
  where
    none-passes-of : (op : TimerOp) → insertion_passes (stays live queue) op ≡ false
    none-passes-of (Insert when number task) = none-stays live queue number none
    none-passes-of (Remove when number) = refl
