-- Where the first line feed stands.
use Rattle.std.proofs.Common.{◌≡◌, ℕ, zero, suc, ◌+◌, ◌≤◌, Bool, true, false, cond, ltb, eqb, List, [], ◌∷◌, ◌++◌, length, drop, Some, None, refl, arith}
use Rattle.std.specs.Prelude.{position, unwrap_or}
use Rattle.std.proofs.lemmas.Bool.{ltb-false}
use Rattle.bus_opening.specs.Lines.{feed_at}

within_by : (b : Bool) (c : ℕ) (y : List ℕ) → eqb c 10 ≡ b → feed_at y ≤ length y → feed_at (c ∷ y) ≤ length (c ∷ y)
within_by true c y e le = rw e (omega arith)
within_by false c y e le = rw e (omega (arith, le))

pub feed_within : (y : List ℕ) → feed_at y ≤ length y
feed_within [] = omega arith
feed_within (c ∷ y) = within_by (eqb c 10) c y refl (feed_within y)

after_by : (b : Bool) (c s : ℕ) (y : List ℕ) → eqb c 10 ≡ b → (s ≤ feed_at y → s + feed_at (drop s y) ≡ feed_at y) → suc s ≤ feed_at (c ∷ y) → suc s + feed_at (drop s y) ≡ feed_at (c ∷ y)
after_by true c s y e others le = absurd (omega (arith, (rw e at le)))
after_by false c s y e others le =
    let n : feed_at (c ∷ y) ≡ 1 + feed_at y = rw e refl in
    rw e (omega (arith, others (omega (arith, n, le))))

pub feed_after : (s : ℕ) (y : List ℕ) → s ≤ feed_at y → s + feed_at (drop s y) ≡ feed_at y
feed_after zero y le = omega arith
feed_after (suc s) [] le = absurd (omega (arith, le))
feed_after (suc s) (c ∷ y) le = after_by (eqb c 10) c s y refl (feed_after s y) le

more_by : (b : Bool) (c : ℕ) (y x : List ℕ) → eqb c 10 ≡ b → feed_at y ≤ feed_at (y ++ x) → feed_at (c ∷ y) ≤ feed_at (c ∷ (y ++ x))
more_by true c y x e le = rw e (omega arith)
more_by false c y x e le = rw e (omega (arith, le))

pub feed_more : (y x : List ℕ) → feed_at y ≤ feed_at (y ++ x)
feed_more [] x = omega arith
feed_more (c ∷ y) x = more_by (eqb c 10) c y x refl (feed_more y x)

pub searched_more : (s : ℕ) (y u z x : List ℕ) → s ≤ feed_at y → u ≡ y → z ≡ u ++ x → s ≤ feed_at z
searched_more s y u z x le f e = rw (e, f) (omega (arith, le, feed_more y x))

by_len : (b : Bool) (n m : ℕ) → ltb n m ≡ b → n ≤ m → unwrap_or (cond b (Some n) None) m ≡ n
by_len true n m e le = refl
by_len false n m e le = omega (arith, ltb-false _ _ e)

pub feed_len_is : (y : List ℕ) → unwrap_or (position (λ c. eqb c 10) y) (length y) ≡ feed_at y
feed_len_is y = by_len (ltb (feed_at y) (length y)) (feed_at y) (length y) refl (feed_within y)
