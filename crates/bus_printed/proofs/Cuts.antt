-- Texts that are cut where they were joined.
use Rattle.std.proofs.Common.{◌≡◌, ℕ, Bool, true, not, List, [], ◌∷◌, ◌++◌, map, ◌∙◌, ap, arith, ◌==◌, if◌then◌else◌}
use Rattle.std.specs.List.{list_all, All, join_with_byte, onto_first}
use Rattle.std.proofs.lemmas.Bool.{and_parts, and_from, not-true}
use Rattle.std.proofs.lemmas.List.Folds.{list_all-append, list_all-map}
use Rattle.std.proofs.lemmas.List.Splits.{slice_split_none, slice_split-cons_no, slice_split-cons_yes}
use Rattle.std.proofs.lemmas.List.Sums.{AllPass-from_list_all, list_all-from_AllPass}
use Rattle.bus_script.specs.Words.{parts_of}

-- none of them is this byte
abbrev pub lacks : ℕ → List ℕ → Bool
lacks c xs = list_all (λ x. not (x == c)) xs

pub weaker : {A : Type 0} (p q : A → Bool) → ((x : A) → p x ≡ true → q x ≡ true) → (xs : List A) →
    list_all p xs ≡ true → list_all q xs ≡ true
weaker p q f xs h = list_all-from_AllPass q xs (λ k d small. f _ (AllPass-from_list_all p xs h k d small))

pub all_both : {A : Type 0} (p : A → Bool) (xs ys : List A) → list_all p xs ≡ true → list_all p ys ≡ true →
    list_all p (xs ++ ys) ≡ true
all_both p xs ys h k = list_all-append p xs ys ∙ and_from (list_all p xs) (list_all p ys) h k

-- each of the values that fit is written with words that pass
pub all_written : {A B : Type 0} (P : A → Type 0) (f : A → B) (q : B → Bool) → ((x : A) → P x → q (f x) ≡ true) →
    (xs : List A) → All P xs → list_all q (map f xs) ≡ true
all_written P f q each xs h =
    list_all-map q f xs ∙ list_all-from_AllPass (λ x. q (f x)) xs (λ k d small. each _ (h k d small))

parts_alone : (c : ℕ) (xs : List ℕ) → lacks c xs ≡ true → parts_of c xs ≡ xs ∷ []
parts_alone c xs h =
    slice_split_none (λ b. b == c) xs (λ k d small. not-true _ (AllPass-from_list_all (λ x. not (x == c)) xs h k d small))

pub itself : (c : ℕ) → (c == c) ≡ true
itself c = grind arith

pub parts_front : (c : ℕ) (xs ys : List ℕ) → lacks c xs ≡ true → parts_of c (xs ++ c ∷ ys) ≡ xs ∷ parts_of c ys
parts_front c [] ys h = slice_split-cons_yes (λ b. b == c) c ys (itself c)
parts_front c (x ∷ xs) ys h =
    let p = and_parts (not (x == c)) (lacks c xs) h in
    slice_split-cons_no (λ b. b == c) x (xs ++ c ∷ ys) (not-true (x == c) p.0)
    ∙ ap (λ v. onto_first x v) (parts_front c xs ys p.1)

-- what was joined by a byte that none of the parts has
pub parts_joined : (c : ℕ) (w : List ℕ) (ws : List (List ℕ)) → lacks c w ≡ true → list_all (lacks c) ws ≡ true →
    parts_of c (join_with_byte c (w ∷ ws)) ≡ w ∷ ws
parts_joined c w [] h k = parts_alone c w h
parts_joined c w (v ∷ ws) h k =
    let p = and_parts (lacks c v) (list_all (lacks c) ws) k in
    parts_front c w (join_with_byte c (v ∷ ws)) h ∙ ap (λ t. w ∷ t) (parts_joined c v ws p.0 p.1)

-- what stands in front of the first that passes, and the rest from there on
abbrev pub until : {A : Type 0} → (A → Bool) → List A → List A
until p [] = []
until p (x ∷ xs) = if p x then [] else x ∷ until p xs

abbrev pub from : {A : Type 0} → (A → Bool) → List A → List A
from p [] = []
from p (x ∷ xs) = if p x then x ∷ xs else from p xs

pub until_at : {A : Type 0} (p : A → Bool) (xs : List A) (y : A) (ys : List A) → list_all (λ x. not (p x)) xs ≡ true →
    p y ≡ true → until p (xs ++ y ∷ ys) ≡ xs
until_at p [] y ys h k = rw k
until_at p (x ∷ xs) y ys h k =
    let parts = and_parts (not (p x)) (list_all (λ x. not (p x)) xs) h in
    rw (not-true (p x) parts.0) (ap (λ v. x ∷ v) (until_at p xs y ys parts.1 k))

pub from_at : {A : Type 0} (p : A → Bool) (xs : List A) (y : A) (ys : List A) → list_all (λ x. not (p x)) xs ≡ true →
    p y ≡ true → from p (xs ++ y ∷ ys) ≡ y ∷ ys
from_at p [] y ys h k = rw k
from_at p (x ∷ xs) y ys h k =
    let parts = and_parts (not (p x)) (list_all (λ x. not (p x)) xs) h in
    rw (not-true (p x) parts.0) (from_at p xs y ys parts.1 k)
