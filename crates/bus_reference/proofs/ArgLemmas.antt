-- Arguments, one after another.
use Rattle.std.proofs.Common.{◌≡◌, ℕ, zero, suc, ◌+◌, ◌<◌, List, [], ◌∷◌, ◌++◌, map, take, length, get_or, Vec, ap, add-one, arith}

args_suc : {A : Type 0} (vs : List (Vec ℕ A)) (i : ℕ) (v : Vec ℕ A) → i < length vs → v ≡ get_or vs i v
    → map (λ v. v.items) (take i vs) ++ (v.items ∷ []) ≡ map (λ v. v.items) (take (suc i) vs)
args_suc [] i v inside at = absurd (omega arith)
args_suc (w ∷ ws) zero v inside at = ap (λ u. u.items ∷ []) at
args_suc (w ∷ ws) (suc i) v inside at = ap (λ vs. w.items ∷ vs) (args_suc ws i v (omega arith) at)

-- an argument more is copied
pub args_more : {A : Type 0} (vs : List (Vec ℕ A)) (i : ℕ) (v : Vec ℕ A) (all more : List (List ℕ)) (bytes : List ℕ)
    → i < length vs → v ≡ get_or vs i v → all ≡ map (λ v. v.items) (take i vs) → bytes ≡ v.items
    → more ≡ all ++ (bytes ∷ []) → more ≡ map (λ v. v.items) (take (i + 1) vs)
args_more vs i v all more bytes inside at sofar b e =
    rw (e, sofar, b, add-one i) (args_suc vs i v inside at)
