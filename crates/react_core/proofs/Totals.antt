-- What holds of each value of a list by keys, and sums of them.
use Rattle.std.proofs.Common.{◌≡◌, ◌+◌, ℕ, Bool, true, false, List, [], ◌∷◌, Option, Some, None, is_some, length, refl, sym, ap, ◌∙◌, subst, inl, inr, arith}
use Rattle.std.proofs.lemmas.Bool.{cases_eq}
use Rattle.std.proofs.lemmas.Bool.Decides.{nat_tests}
use Rattle.std.specs.Prelude.{◌==◌, nat_lt, if◌then◌else◌}
use Rattle.react_core.specs.Keyed.{at_key, with_at, with_new_at, without_at, Each, sum_at}
use Rattle.react_core.proofs.Keyed.{at_key-here, at_key-later}

module _ {T : Type 0} where
  -- writing what stands under the key changes nothing
  pub with_at-same : (xs : List (ℕ × T)) (key : ℕ) (old : T) → at_key xs key ≡ Some old → with_at xs key old ≡ xs
  with_at-same [] key old found = refl
  with_at-same (x ∷ xs) key old found =
      elim (cases_eq x.0 key) [
        | inl same ↦
            let here = at_key-here x xs in
            let value : x.1 ≡ old = cc in
            grind (arith, nat_tests, same, value)
        | inr differs ↦
            let rest = with_at-same xs key old (sym (at_key-later x xs key differs) ∙ found) in
            grind (arith, nat_tests, differs, rest)
      ]

  -- nor does taking out what doesn't stand there
  pub without_at-absent : (xs : List (ℕ × T)) (key : ℕ) → at_key xs key ≡ None → without_at xs key ≡ xs
  without_at-absent [] key absent = refl
  without_at-absent (x ∷ xs) key absent =
      elim (cases_eq x.0 key) [
        | inl same ↦ absurd (let here = at_key-here x xs in cc)
        | inr differs ↦
            let rest = without_at-absent xs key (sym (at_key-later x xs key differs) ∙ absent) in
            grind (arith, nat_tests, differs, rest)
      ]

  pub length-without_held : (xs : List (ℕ × T)) (key : ℕ) (old : T) → at_key xs key ≡ Some old → length (without_at xs key) + 1 ≡ length xs
  length-without_held [] key old found = absurd (cc)
  length-without_held (x ∷ xs) key old found =
      elim (cases_eq x.0 key) [
        | inl same ↦ grind (arith, nat_tests, same)
        | inr differs ↦
            let rest = length-without_held xs key old (sym (at_key-later x xs key differs) ∙ found) in
            grind (arith, nat_tests, differs, rest)
      ]

  some-value : (o : Option T) → is_some o ≡ true → (x : T) × (o ≡ Some x)
  some-value None some = absurd (cc)
  some-value (Some x) some = (x, refl)

  no-value : (o : Option T) → is_some o ≡ false → o ≡ None
  no-value None none = refl
  no-value (Some x) none = absurd (cc)

  pub length-without_some : (xs : List (ℕ × T)) (key : ℕ) → is_some (at_key xs key) ≡ true → length (without_at xs key) + 1 ≡ length xs
  length-without_some xs key some = let old = some-value (at_key xs key) some in length-without_held xs key old.0 old.1

  pub without_at-none : (xs : List (ℕ × T)) (key : ℕ) → is_some (at_key xs key) ≡ false → without_at xs key ≡ xs
  without_at-none xs key none = without_at-absent xs key (no-value (at_key xs key) none)

-- ---- sums

module _ {T : Type 0} (count : T → ℕ) where
  pub sum_at-with_at : (xs : List (ℕ × T)) (key : ℕ) (old new : T) → at_key xs key ≡ Some old →
      sum_at count (with_at xs key new) + count old ≡ sum_at count xs + count new
  sum_at-with_at [] key old new found = absurd (cc)
  sum_at-with_at (x ∷ xs) key old new found =
      elim (cases_eq x.0 key) [
        | inl same ↦
            let here = at_key-here x xs in
            let value : x.1 ≡ old = cc in
            let counts = ap count value in grind (arith, nat_tests, same, counts)
        | inr differs ↦
            let rest = sum_at-with_at xs key old new (sym (at_key-later x xs key differs) ∙ found) in
            grind (arith, nat_tests, differs, rest)
      ]

  pub sum_at-with_new_at : (xs : List (ℕ × T)) (key : ℕ) (new : T) → sum_at count (with_new_at xs key new) ≡ sum_at count xs + count new
  sum_at-with_new_at [] key new = omega arith
  sum_at-with_new_at (x ∷ xs) key new = let rest = sum_at-with_new_at xs key new in grind (arith, nat_tests, rest)

  pub sum_at-without_at : (xs : List (ℕ × T)) (key : ℕ) (old : T) → at_key xs key ≡ Some old → sum_at count (without_at xs key) + count old ≡ sum_at count xs
  sum_at-without_at [] key old found = absurd (cc)
  sum_at-without_at (x ∷ xs) key old found =
      elim (cases_eq x.0 key) [
        | inl same ↦
            let here = at_key-here x xs in
            let value : x.1 ≡ old = cc in
            let counts = ap count value in grind (arith, nat_tests, same, counts)
        | inr differs ↦
            let rest = sum_at-without_at xs key old (sym (at_key-later x xs key differs) ∙ found) in
            grind (arith, nat_tests, differs, rest)
      ]

-- ---- each

module _ {T : Type 0} (P : T → Type 0) where
  Each-if : (b : Bool) (xs ys : List (ℕ × T)) → Each P xs → Each P ys → Each P (if b then xs else ys)
  Each-if true xs ys p q = p
  Each-if false xs ys p q = q

  pub Each-at_key : (xs : List (ℕ × T)) (key : ℕ) (x : T) → Each P xs → at_key xs key ≡ Some x → P x
  Each-at_key [] key x each found = absurd (cc)
  Each-at_key (first ∷ xs) key x each found =
      elim (cases_eq first.0 key) [
        | inl same ↦ let here = at_key-here first xs in let value : first.1 ≡ x = cc in subst P value each.0
        | inr differs ↦ Each-at_key xs key x each.1 (sym (at_key-later first xs key differs) ∙ found)
      ]

  pub Each-with_at : (xs : List (ℕ × T)) (key : ℕ) (new : T) → Each P xs → P new → Each P (with_at xs key new)
  Each-with_at [] key new each one = tt
  Each-with_at (x ∷ xs) key new each one = Each-if (x.0 == key) _ _ (one, each.1) (each.0, Each-with_at xs key new each.1 one)

  pub Each-with_new_at : (xs : List (ℕ × T)) (key : ℕ) (new : T) → Each P xs → P new → Each P (with_new_at xs key new)
  Each-with_new_at [] key new each one = (one, tt)
  Each-with_new_at (x ∷ xs) key new each one = Each-if (nat_lt key x.0) _ _ (one, each) (each.0, Each-with_new_at xs key new each.1 one)

  pub Each-without_at : (xs : List (ℕ × T)) (key : ℕ) → Each P xs → Each P (without_at xs key)
  Each-without_at [] key each = tt
  Each-without_at (x ∷ xs) key each = Each-if (x.0 == key) _ _ each.1 (each.0, Each-without_at xs key each.1)

  pub Each-weaker : (Q : T → Type 0) (xs : List (ℕ × T)) → ((x : T) → P x → Q x) → Each P xs → Each Q xs
  Each-weaker Q [] weaker each = tt
  Each-weaker Q (x ∷ xs) weaker each = (weaker x.1 each.0, Each-weaker Q xs weaker each.1)
