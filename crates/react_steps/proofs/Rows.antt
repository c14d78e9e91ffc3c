-- Rows by rising key: where a key has its place, and what stands there.
use Rattle.std.proofs.Common.{◌≡◌, ℕ, zero, suc, ◌+◌, ◌<◌, ◌≤◌, true, false, List, [], ◌∷◌, Option, Some, None, length, get_or, refl}
use Rattle.std.proofs.Common.{ap, sym, ◌∙◌, inl, inr, arith}
use Rattle.std.specs.Prelude.{nat_lt, ◌==◌, insert, remove, slice_set, is_some, if◌then◌else◌, MatchOption}
use Rattle.std.specs.List.Sorted.{IsPartitionPoint, IsNonDecreasingBy}
use Rattle.std.proofs.lemmas.Bool.{cases_lt, cases_eq, lt-ltb, le-ltb, eq-eqb, ne_eqb}
use Rattle.std.proofs.lemmas.List.{get_or_default}
use Rattle.react_core.specs.Keyed.{at_key, with_at, with_new_at, without_at, KeysRiseFrom}
use Rattle.react_core.proofs.Keyed.{at_key-below, at_key-here, at_key-later, KeysRiseFrom-with_at, KeysRiseFrom-with_new_at}
use Rattle.react_core.specs.Futures.{polled_futures}
use Rattle.react_core.specs.Places.{Entry}
use Rattle.react_core.specs.Reports.{without_tasks}
use Rattle.react_steps.specs.Rows.{place, StandsAt}

module _ {T : Type 0} where
  first-bound : (low : ℕ) (xs : List (ℕ × T)) (j : ℕ) (d : ℕ × T) → KeysRiseFrom low xs → j < length xs → low ≤ (get_or xs j d).0
  first-bound low [] j d r lt = absurd (omega arith)
  first-bound low (x ∷ xs) zero d r lt = r.0
  first-bound low (x ∷ xs) (suc j) d r lt = omega (arith, r.0, first-bound (x.0 + 1) xs j d r.1 (omega arith))

  -- the keys do not fall
  pub rises-non_decreasing : (low : ℕ) (xs : List (ℕ × T)) → KeysRiseFrom low xs → IsNonDecreasingBy (λ (x : ℕ × T). x.0) xs
  rises-non_decreasing low [] r i j d le lt = absurd (omega arith)
  rises-non_decreasing low (x ∷ xs) r zero zero d le lt = omega arith
  rises-non_decreasing low (x ∷ xs) r zero (suc j) d le lt = omega (arith, first-bound (x.0 + 1) xs j d r.1 (omega arith))
  rises-non_decreasing low (x ∷ xs) r (suc i) zero d le lt = absurd (omega arith)
  rises-non_decreasing low (x ∷ xs) r (suc i) (suc j) d le lt = rises-non_decreasing (x.0 + 1) xs r.1 i j d (omega arith) (omega arith)

  pub place-is : (key : ℕ) (xs : List (ℕ × T)) (i : ℕ) → i ≤ length xs →
      IsPartitionPoint (λ (x : ℕ × T). nat_lt x.0 key ≡ true) (λ (x : ℕ × T). nat_lt x.0 key ≡ false) xs i → i ≡ place key xs
  place-is key [] i le h = omega arith
  place-is key (x ∷ xs) zero le h = rw (h.1 0 x (omega arith) (omega arith)) refl
  place-is key (x ∷ xs) (suc i) le h =
      rw (h.0 0 x (omega arith) (omega arith)) (ap suc (place-is key xs i (omega arith) (
        λ k d lo hi. h.0 (suc k) d (omega arith) (omega arith),
        λ k d lo hi. h.1 (suc k) d (omega arith) (omega arith),
      )))

  absent_past : (key : ℕ) (xs : List (ℕ × T)) → length xs ≤ place key xs → at_key xs key ≡ None
  absent_past key [] le = refl
  absent_past key (y ∷ ys) le =
      elim (cases_lt y.0 key) [
        | inl low ↦
            let t : nat_lt y.0 key ≡ true = lt-ltb y.0 key low in
            let ne : (y.0 == key) ≡ false = ne_eqb y.0 key (λ e. omega (arith, e, low)) in
            rw ne (absent_past key ys (let l = rw t at le in omega (arith, l)))
        | inr high ↦
            let t : nat_lt y.0 key ≡ false = le-ltb y.0 key high in
            let l = rw t at le in absurd (omega (arith, l))
      ]

  -- the row at the key's place has another key
  absent_other : (key low : ℕ) (xs : List (ℕ × T)) (x : ℕ × T) → KeysRiseFrom low xs → place key xs < length xs →
      x ≡ get_or xs (place key xs) x → (x.0 ≡ key → ⊥) → at_key xs key ≡ None
  absent_other key low [] x r lt e other = refl
  absent_other key low (y ∷ ys) x r lt e other =
      elim (cases_lt y.0 key) [
        | inl below ↦
            let t : nat_lt y.0 key ≡ true = lt-ltb y.0 key below in
            let ne : (y.0 == key) ≡ false = ne_eqb y.0 key (λ q. omega (arith, q, below)) in
            let l = rw t at lt in
            rw ne (absent_other key (y.0 + 1) ys x r.1 (omega (arith, l)) (rw t at e) other)
        | inr high ↦
            let t : nat_lt y.0 key ≡ false = le-ltb y.0 key high in
            let is : x ≡ y = rw t at e in
            let differs : (y.0 ≡ key → ⊥) = λ q. other (ap (λ (z : ℕ × T). z.0) is ∙ q) in
            let ne : (y.0 == key) ≡ false = ne_eqb y.0 key differs in
            rw ne (at_key-below (y.0 + 1) key ys r.1 (omega (arith, high, differs)))
      ]

  -- the row at the key's place has the key
  found : (key low : ℕ) (xs : List (ℕ × T)) (x : ℕ × T) → KeysRiseFrom low xs → place key xs < length xs →
      x ≡ get_or xs (place key xs) x → x.0 ≡ key →
      (at_key xs key ≡ Some x.1) × ((new : ℕ × T) → new.0 ≡ key → slice_set xs (place key xs) new ≡ with_at xs key new.1)
      × (remove xs (place key xs) ≡ without_at xs key)
  found key low [] x r lt e is = absurd (omega arith)
  found key low (y ∷ ys) x r lt e is =
      elim (cases_lt y.0 key) [
        | inl below ↦
            let t : nat_lt y.0 key ≡ true = lt-ltb y.0 key below in
            let ne : (y.0 == key) ≡ false = ne_eqb y.0 key (λ q. omega (arith, q, below)) in
            let l = rw t at lt in
            let rest = found key (y.0 + 1) ys x r.1 (omega (arith, l)) (rw t at e) is in
            rw (t, ne) (rest.0, λ new keyed. ap (λ (l : List (ℕ × T)). y ∷ l) (rest.1 new keyed), ap (λ (l : List (ℕ × T)). y ∷ l) rest.2)
        | inr high ↦
            let t : nat_lt y.0 key ≡ false = le-ltb y.0 key high in
            let same : x ≡ y = rw t at e in
            let keyed : y.0 ≡ key = sym (ap (λ (z : ℕ × T). z.0) same) ∙ is in
            let b : (y.0 == key) ≡ true = eq-eqb y.0 key keyed in
            rw (t, b) (ap (λ (z : ℕ × T). Some z.1) (sym same), λ new new_key. ap (λ k. (k, new.1) ∷ ys) new_key, refl)
      ]

  pub past-absent : (key : ℕ) (xs : List (ℕ × T)) (at : ℕ) → at ≡ place key xs → length xs ≤ at → at_key xs key ≡ None
  past-absent key xs at p le = absent_past key xs (omega (arith, p, le))

  pub other-absent : (key : ℕ) (xs : List (ℕ × T)) (at : ℕ) (d : ℕ × T) → KeysRiseFrom 0 xs → at ≡ place key xs → at < length xs →
      ((get_or xs at d).0 ≡ key → ⊥) → at_key xs key ≡ None
  other-absent key xs at d r p lt other =
      absent_other key 0 xs (get_or xs at d) r (omega (arith, p, lt)) (get_or_default xs at d (get_or xs at d) lt ∙ ap (λ k. get_or xs k (get_or xs at d)) p) other

  pub here-stands : (key : ℕ) (xs : List (ℕ × T)) (at : ℕ) (d : ℕ × T) → KeysRiseFrom 0 xs → at ≡ place key xs → at < length xs →
      (get_or xs at d).0 ≡ key → StandsAt key xs at
  here-stands key xs at d r p lt is =
      let a = found key 0 xs (get_or xs at d) r (omega (arith, p, lt)) (get_or_default xs at d (get_or xs at d) lt ∙ ap (λ k. get_or xs k (get_or xs at d)) p) is in
      record {
        within = lt;
        keyed = λ e. ap (λ (z : ℕ × T). z.0) (get_or_default xs at e d lt) ∙ is;
        value = λ e. a.0 ∙ ap (λ (z : ℕ × T). Some z.1) (get_or_default xs at d e lt);
        written = λ new keyed. ap (λ k. slice_set xs k new) p ∙ a.1 new keyed;
        left = ap (remove xs) p ∙ a.2;
      }

  -- a new row at its key's place
  pub inserted-at : (key : ℕ) (xs : List (ℕ × T)) (v : T) → at_key xs key ≡ None → insert xs (place key xs) (key, v) ≡ with_new_at xs key v
  inserted-at key [] v free = refl
  inserted-at key (y ∷ ys) v free =
      elim (cases_eq y.0 key) [
        | inl same ↦ absurd (let h = at_key-here y ys in cc)
        | inr differs ↦ elim (cases_lt y.0 key) [
          | inl below ↦
              let t : nat_lt y.0 key ≡ true = lt-ltb y.0 key below in
              let u : nat_lt key y.0 ≡ false = le-ltb key y.0 (omega (arith, below)) in
              let rest = inserted-at key ys v (sym (at_key-later y ys key differs) ∙ free) in
              rw (t, u) (ap (λ (l : List (ℕ × T)). y ∷ l) rest)
          | inr high ↦
              let t : nat_lt y.0 key ≡ false = le-ltb y.0 key high in
              let u : nat_lt key y.0 ≡ true = lt-ltb key y.0 (omega (arith, high, differs)) in
              rw (t, u) refl
        ]
      ]

  pub with_at-absent : (xs : List (ℕ × T)) (key : ℕ) (new : T) → at_key xs key ≡ None → with_at xs key new ≡ xs
  with_at-absent [] key new absent = refl
  with_at-absent (x ∷ xs) key new absent =
      elim (cases_eq x.0 key) [
        | inl same ↦ absurd (let here = at_key-here x xs in cc)
        | inr differs ↦
            let rest = with_at-absent xs key new (sym (at_key-later x xs key differs) ∙ absent) in
            rw (ne_eqb x.0 key differs) (ap (λ (l : List (ℕ × T)). x ∷ l) rest)
      ]

  -- what stands under a key stays there where another value takes its place
  pub keys-with_at : (xs : List (ℕ × T)) (key : ℕ) (new : T) (k : ℕ) → is_some (at_key (with_at xs key new) k) ≡ is_some (at_key xs k)
  keys-with_at [] key new k = refl
  keys-with_at (x ∷ xs) key new k =
      elim (cases_eq x.0 key) [
        | inl same ↦ rw (eq-eqb x.0 key same, same)
            (elim (key == k) as (λ b. is_some (if b then Some new else at_key xs k) ≡ is_some (if b then Some x.1 else at_key xs k)) [ true ↦ refl | false ↦ refl ])
        | inr differs ↦
            rw (ne_eqb x.0 key differs)
            (elim (x.0 == k) as (λ b. is_some (if b then Some x.1 else at_key (with_at xs key new) k) ≡ is_some (if b then Some x.1 else at_key xs k))
            [ true ↦ refl | false ↦ keys-with_at xs key new k ])
      ]

  pub rises-written : (key : ℕ) (rows : List (ℕ × T)) (at : ℕ) (new : ℕ × T) → StandsAt key rows at → KeysRiseFrom 0 rows → new.0 ≡ key → KeysRiseFrom 0 (slice_set rows at new)
  rises-written key rows at new stands rises keyed = rw (stands.written new keyed) (KeysRiseFrom-with_at 0 rows key new.1 rises)

-- ---- futures by rising place

pub rises-polled : (ticker task : ℕ) (xs : List (ℕ × Entry)) (place : ℕ) (o : Option Entry) → at_key xs place ≡ o → KeysRiseFrom 0 xs →
    KeysRiseFrom 0 (polled_futures ticker task xs place o)
rises-polled ticker task xs place None is rises = KeysRiseFrom-with_new_at 0 xs place (record { since = ticker; task = Some task }) rises is (omega arith)
rises-polled ticker task xs place (Some e) is rises = KeysRiseFrom-with_at 0 xs place (record e { task = Some task }) rises

pub rises-without_tasks : (low : ℕ) (xs : List (ℕ × Entry)) → KeysRiseFrom low xs → KeysRiseFrom low (without_tasks xs)
rises-without_tasks low [] rises = tt
rises-without_tasks low (x ∷ xs) rises = (rises.0, rises-without_tasks (x.0 + 1) xs rises.1)

-- a future's first poll
pub first-polled : (ticker task : ℕ) (xs rows : List (ℕ × Entry)) (at key : ℕ) → rows ≡ xs → at ≡ place key rows → at_key xs key ≡ None →
    insert xs at (key, record { since = ticker; task = Some task }) ≡ polled_futures ticker task xs key (at_key xs key)
first-polled ticker task xs rows at key same is free =
    ap (λ k. insert xs k (key, record { since = ticker; task = Some task })) (is ∙ ap (place key) same)
    ∙ inserted-at key xs (record { since = ticker; task = Some task }) free ∙ sym (ap (polled_futures ticker task xs key) free)

pub found-some : {T : Type 0} (key : ℕ) (rows : List (ℕ × T)) (o : Option ℕ) → MatchOption o (at_key rows key ≡ None) (λ at. StandsAt key rows at) → is_some o ≡ is_some (at_key rows key)
found-some key rows None h = sym (ap is_some h)
found-some key [] (Some at) h = absurd (let w = h.within in omega (arith, w))
found-some key (x ∷ xs) (Some at) h = sym (ap is_some (h.value x))
