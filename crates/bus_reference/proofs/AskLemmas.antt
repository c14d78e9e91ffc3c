-- Where the next question is looked for.
use Rattle.std.proofs.Common.{◌≡◌, ℕ, zero, suc, ◌+◌, ◌-◌, ◌<◌, true, false, List, Option, Some, None, refl, arith}
use Rattle.std.specs.Prelude.{is_some}
use Rattle.std.specs.Option.{option_map}
use Rattle.bus_opening.specs.Talk.{Said, Ask, ask_now, ask_from, looked_from}

pub ask_from-some : (talk : List (List ℕ) → Said) (b : List ℕ) (w k j : ℕ) (a : Ask) → Some a ≡ ask_now talk b w k j → a ≡ ask_from talk b w k j
unfolding ask_from
ask_from-some talk b w zero j a e = rw (← e) refl
ask_from-some talk b w (suc k) j a e = rw (← e) refl

pub ask_from-none : (talk : List (List ℕ) → Said) (b : List ℕ) (w k j : ℕ) → None ≡ ask_now talk b w k j → 0 < k → ask_from talk b w k j ≡ ask_from talk b w (k - 1) (j + 1)
unfolding ask_from
ask_from-none talk b w zero j e lt = absurd (omega arith)
ask_from-none talk b w (suc k) j e lt =
    let m : suc k - 1 ≡ k = omega arith in
    rw (← e, m) refl

pub looked_from-zero : (talk : List (List ℕ) → Said) (b : List ℕ) (w k j : ℕ) → k ≡ 0 → j ≡ looked_from talk b w k j
unfolding looked_from
looked_from-zero talk b w k j e = rw e refl

pub looked_from-some : {X : Type 0} (f : X → Ask) (o : Option X) (talk : List (List ℕ) → Said) (b : List ℕ) (w k j :
    ℕ) → option_map f o ≡ ask_now talk b w k j → is_some o ≡ true → 0 < k → j ≡ looked_from talk b w k j
unfolding looked_from
looked_from-some f o talk b w zero j e s lt = absurd (omega arith)
looked_from-some f None talk b w (suc k) j e s lt = absurd cc
looked_from-some f (Some x) talk b w (suc k) j e s lt = rw (← e) refl

pub looked_from-none : {X : Type 0} (f : X → Ask) (o : Option X) (talk : List (List ℕ) → Said) (b : List ℕ) (w k j :
    ℕ) → option_map f o ≡ ask_now talk b w k j → is_some o ≡ false → 0 < k → looked_from talk b w k j ≡ looked_from
    talk b w (k - 1) (j + 1)
unfolding looked_from
looked_from-none f o talk b w zero j e s lt = absurd (omega arith)
looked_from-none f (Some x) talk b w (suc k) j e s lt = absurd cc
looked_from-none f None talk b w (suc k) j e s lt =
    let m : suc k - 1 ≡ k = omega arith in
    rw (← e, m) refl
