-- Live timers by rising number: a number below all of them.
use Rattle.std.proofs.Common.{◌≡◌, ℕ, ◌<◌, ◌≤◌, false, List, [], ◌∷◌, None, refl}
use Rattle.std.proofs.Common.{ap, arith}
use Rattle.std.specs.Prelude.{◌==◌}
use Rattle.std.specs.List.{AllByRecursion}
use Rattle.std.proofs.lemmas.Bool.{ne_eqb}
use Rattle.react_timers.specs.declared.timer.LiveTimer.{LiveTimer}
use Rattle.react_timers.specs.Live.{without, task_at}

pub above : (n m : ℕ) (xs : List LiveTimer) → n ≤ m → AllByRecursion (λ y. m < y.number) xs →
    AllByRecursion (λ y. n < y.number) xs
above n m [] le h = tt
above n m (x ∷ xs) le h = (omega arith, above n m xs le h.1)

-- below all numbers of a list no timer of it is found
pub absent : (w n : ℕ) (xs : List LiveTimer) → AllByRecursion (λ y. n < y.number) xs →
    (task_at w n xs ≡ None) × (without w n xs ≡ xs)
absent w n [] h = (refl, refl)
absent w n (x ∷ xs) h =
    let ne : (x.number == n) ≡ false = ne_eqb x.number n (λ e. omega (arith, e, h.0)) in
    let rest = absent w n xs h.1 in
    rw ne (rest.0, ap (λ (l : List LiveTimer). x ∷ l) rest.1)
