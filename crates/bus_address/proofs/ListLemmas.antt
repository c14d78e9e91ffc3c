-- Lists of lists.
use Rattle.std.proofs.Common.{◌≡◌, ℕ, zero, suc, ◌+◌, ◌<◌, Bool, true, false, ◌&&◌, List, [], ◌∷◌, map, take, length, get_or, nat_eq, Vec, refl, sym, ap, ◌∙◌, subst, add-one, arith}
use Rattle.std.specs.Cmp.Lexicographic.{pointwise}
use Rattle.std.specs.List.{list_all}
use Rattle.bus_address.specs.ReadBack.{IsValue, AreValues}
use Rattle.bus_address.proofs.Choices.{both, together, not_second}

-- lists of vectors are compared as lists of lists
pub pointwise_items : {A : Type 0} (xs ys : List (Vec ℕ A)) → pointwise (λ v w. pointwise nat_eq v.items w.items) xs ys ≡ pointwise (pointwise nat_eq) (map (λ v. v.items) xs) (map (λ v. v.items) ys)
pointwise_items [] [] = refl
pointwise_items [] (y ∷ ys) = refl
pointwise_items (x ∷ xs) [] = refl
pointwise_items (x ∷ xs) (y ∷ ys) = ap (λ b. pointwise nat_eq x.items y.items && b) (pointwise_items xs ys)

all_suc : {A : Type 0} (f : List ℕ → Bool) (vs : List (Vec ℕ A)) (i : ℕ) (v : Vec ℕ A) → i < length vs
    → v ≡ get_or vs i v → f v.items ≡ true → list_all f (map (λ v. v.items) (take i vs)) ≡ true
    → list_all f (map (λ v. v.items) (take (suc i) vs)) ≡ true
all_suc f [] i v inside at is sofar = absurd (omega arith)
all_suc f (w ∷ ws) zero v inside at is sofar = together _ _ (ap (λ u. f u.items) (sym at) ∙ is) refl
all_suc f (w ∷ ws) (suc i) v inside at is sofar =
    let parts = both (f w.items) (list_all f (map (λ v. v.items) (take i ws))) sofar in
    together _ _ parts.0 (all_suc f ws i v (omega arith) at is parts.1)

-- one vector more passes the test
pub all_more : {A : Type 0} (f : List ℕ → Bool) (vs : List (Vec ℕ A)) (i : ℕ) (v : Vec ℕ A) → i < length vs
    → v ≡ get_or vs i v → f v.items ≡ true → list_all f (map (λ v. v.items) (take i vs)) ≡ true
    → list_all f (map (λ v. v.items) (take (i + 1) vs)) ≡ true
all_more f vs i v inside at is sofar = ap (λ n. list_all f (map (λ v. v.items) (take n vs))) (add-one i) ∙ all_suc f vs i v inside at is sofar

-- one vector that does not pass the test
pub not_all : {A : Type 0} (f : List ℕ → Bool) (vs : List (Vec ℕ A)) (i : ℕ) (v : Vec ℕ A) → i < length vs → v ≡ get_or vs i v → f v.items ≡ false → list_all f (map (λ v. v.items) vs) ≡ false
not_all f [] i v inside at isnt = absurd (omega arith)
not_all f (w ∷ ws) zero v inside at isnt = ap (λ b. b && list_all f (map (λ v. v.items) ws)) (ap (λ u. f u.items) (sym at) ∙ isnt)
not_all f (w ∷ ws) (suc i) v inside at isnt = not_second (f w.items) _ (not_all f ws i v (omega arith) at isnt)

values_suc : {A : Type 0} (vs : List (Vec ℕ A)) (i : ℕ) (v : Vec ℕ A) → i < length vs → v ≡ get_or vs i v
    → IsValue v.items → AreValues (map (λ v. v.items) (take i vs)) → AreValues (map (λ v. v.items) (take (suc i) vs))
values_suc [] i v inside at is sofar = absurd (omega arith)
values_suc {A} (w ∷ ws) zero v inside at is sofar = (subst (λ (u : Vec ℕ A). IsValue u.items) at is, tt)
values_suc (w ∷ ws) (suc i) v inside at is sofar = (sofar.0, values_suc ws i v (omega arith) at is sofar.1)

-- one vector more is a value
pub values_more : {A : Type 0} (vs : List (Vec ℕ A)) (i : ℕ) (v : Vec ℕ A) → i < length vs → v ≡ get_or vs i v
    → IsValue v.items → AreValues (map (λ v. v.items) (take i vs)) → AreValues (map (λ v. v.items) (take (i + 1) vs))
values_more vs i v inside at is sofar =
    subst (λ (n : ℕ). AreValues (map (λ v. v.items) (take n vs))) (sym (add-one i)) (values_suc vs i v inside at is sofar)
