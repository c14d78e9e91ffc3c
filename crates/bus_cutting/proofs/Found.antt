-- The first number that passes a test.
use Rattle.std.proofs.Common.{◌≡◌, ℕ, zero, suc, ◌+◌, ◌<◌, Bool, true, false, Some, refl, sym, ap, ◌∙◌, arith}
use Rattle.std.specs.List.{find, range_with_len}

pub find_first : (p : ℕ → Bool) (n a j : ℕ) → j < n → ((i : ℕ) → i < j → p (a + i) ≡ false) → p (a + j) ≡ true →
    find p (range_with_len a n) ≡ Some (a + j)
find_first p zero a j lt before at = absurd (omega arith)
find_first p (suc n) a zero lt before at =
    let e : a + 0 ≡ a = omega arith in
    let here : p a ≡ true = rw e at at in
    rw (here, e) refl
find_first p (suc n) a (suc j) lt before at =
    let z : a + 0 ≡ a = omega arith in
    let here : p a ≡ false = rw z at (before 0 (omega arith)) in
    let s : a + suc j ≡ (a + 1) + j = omega arith in
    let others = find_first p n (a + 1) j (omega arith)
    (λ i less. let t : a + suc i ≡ (a + 1) + i = omega arith in rw t at (before (suc i) (omega arith)))
    (rw s at at) in
    rw here (others ∙ ap (λ (m : ℕ). Some m) (sym s))
