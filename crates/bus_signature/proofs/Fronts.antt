-- What a complete type is, and how its text begins.
use Rattle.std.proofs.Common.{◌≡◌, ℕ, zero, suc, Bool, true, false, List, [], ◌∷◌, ◌++◌, map, refl, sym, ap, ◌∙◌, append_assoc}
use Rattle.std.specs.List.{list_all}
use Rattle.std.proofs.lemmas.Bool.{false≢true, and_parts}
use Rattle.bus_signature.specs.declared.signature.Signature.{Signature}
use Rattle.bus_signature.specs.declared.signature.Signature.TheVariants.{Array, Dict, Structure}
use Rattle.bus_signature.specs.Texts.{text, texts}
use Rattle.bus_signature.specs.Grammar.{complete, AreComplete}
use Rattle.bus_signature.proofs.TextLemmas.{text_array, text_dict, text_structure}
use Rattle.bus_signature.proofs.Cases.{Simple, induct, opens, complete_unit, complete_array_0, complete_array, complete_dict_0, complete_dict, complete_structure_0, complete_structure_empty}
use Rattle.bus_signature.proofs.Cases.{complete_structure}

-- a complete type, by its front
pub data Front (s : Signature) (a p : ℕ) : Type 0 where
  simple : (c : ℕ) → Simple c s → Front s a p
  array : (b : ℕ) (t : Signature) → a ≡ suc b → s ≡ Array t → complete t b p ≡ true → Front s a p
  dict : (b : ℕ) (k v : Signature) → a ≡ suc b → s ≡ Dict k v → complete k b p ≡ true → complete v b p ≡ true → Front s a p
  structure : (q : ℕ) (f : Signature) (fs : List Signature) → p ≡ suc q → s ≡ Structure (f ∷ fs) → AreComplete a q (f ∷ fs) → Front s a p

abbrev HasFront : Signature → Type 0
HasFront s = (a p : ℕ) → complete s a p ≡ true → Front s a p

pub are_complete : (fs : List Signature) (a p : ℕ) → list_all (λ s. complete s a p) fs ≡ true → AreComplete a p fs
are_complete [] a p e = tt
are_complete (f ∷ fs) a p e = let both = and_parts (complete f a p) (list_all (λ s. complete s a p) fs) e in (both.0, are_complete fs a p both.1)

pub all_complete : (fs : List Signature) (a p : ℕ) → AreComplete a p fs → list_all (λ s. complete s a p) fs ≡ true
all_complete [] a p e = refl
all_complete (f ∷ fs) a p e = rw (e.0) (all_complete fs a p e.1)

-- one more behind complete types
pub complete_one_more : (xs : List Signature) (a p : ℕ) (x : Signature) → AreComplete a p xs → complete x a p ≡ true → AreComplete a p (xs ++ x ∷ [])
complete_one_more [] a p x all one = (one, tt)
complete_one_more (y ∷ ys) a p x all one = (all.0, complete_one_more ys a p x all.1 one)

front_array : (t : Signature) → HasFront (Array t)
front_array t zero p e = absurd (false≢true (sym (complete_array_0 t p) ∙ e))
front_array t (suc a) p e = array a t refl refl (sym (complete_array t a p) ∙ e)

front_dict : (k v : Signature) → HasFront (Dict k v)
front_dict k v zero p e = absurd (false≢true (sym (complete_dict_0 k v p) ∙ e))
front_dict k v (suc a) p e = let both = and_parts (complete k a p) (complete v a p) (sym (complete_dict k v a p) ∙ e) in dict a k v refl refl both.0 both.1

front_structure : (fs : List Signature) → HasFront (Structure fs)
front_structure fs a zero e = absurd (false≢true (sym (complete_structure_0 fs a) ∙ e))
front_structure [] a (suc p) e = absurd (false≢true (sym (complete_structure_empty a p) ∙ e))
front_structure (f ∷ fs) a (suc p) e = structure p f fs refl refl (are_complete (f ∷ fs) a p (sym (complete_structure f fs a p) ∙ e))

pub front : (s : Signature) → HasFront s
front =
    induct HasFront (λ a p e. absurd (false≢true (sym (complete_unit a p) ∙ e))) (λ c s is a p e. simple c is) (λ s _. front_array s) (λ k v _ _. front_dict k v)
    (λ es. front_structure (map (λ e. e.0) es))

-- the text of each, in front of what follows
pub simple_text : (c : ℕ) (s : Signature) → Simple c s → (r : List ℕ) → text s ++ r ≡ c ∷ r
simple_text c s is r = ap (λ (x : List ℕ). x ++ r) is.text

pub array_text : (s t : Signature) → s ≡ Array t → (r : List ℕ) → text s ++ r ≡ 97 ∷ text t ++ r
array_text s t is r = ap (λ (x : Signature). text x ++ r) is ∙ ap (λ (x : List ℕ). x ++ r) (text_array t)

pub dict_text : (s k v : Signature) → s ≡ Dict k v → (r : List ℕ) → text s ++ r ≡ 97 ∷ 123 ∷ text k ++ (text v ++ (125 ∷ r))
dict_text s k v is r =
    ap (λ (x : Signature). text x ++ r) is ∙ ap (λ (x : List ℕ). x ++ r) (text_dict k v) ∙ ap (λ (x : List ℕ). 97 ∷ 123 ∷ x)
    (append_assoc (text k ++ text v) (125 ∷ []) r ∙ append_assoc (text k) (text v) (125 ∷ r))

pub structure_text : (s : Signature) (fs : List Signature) → s ≡ Structure fs → (r : List ℕ) → text s ++ r ≡ 40 ∷ texts fs ++ (41 ∷ r)
structure_text s fs is r = ap (λ (x : Signature). text x ++ r) is ∙ ap (λ (x : List ℕ). x ++ r) (text_structure fs) ∙ ap (λ (x : List ℕ). 40 ∷ x) (append_assoc (texts fs) (41 ∷ []) r)

-- the first byte of a text, and what follows it
pub first_of : List ℕ → ℕ
first_of [] = 0
first_of (c ∷ xs) = c

pub after : List ℕ → List ℕ
after [] = []
after (c ∷ xs) = xs

pub heads : {c d : ℕ} {xs ys : List ℕ} → c ∷ xs ≡ d ∷ ys → c ≡ d
unfolding first_of
heads e = ap first_of e

pub tails : {c d : ℕ} {xs ys : List ℕ} → c ∷ xs ≡ d ∷ ys → xs ≡ ys
unfolding after
tails e = ap after e

opens_by : (s : Signature) (a p : ℕ) → Front s a p → (r : List ℕ) → opens (first_of (text s ++ r)) ≡ true
unfolding first_of
opens_by s a p (simple c is) r = ap (λ (x : List ℕ). opens (first_of x)) (simple_text c s is r) ∙ is.opens
opens_by s a p (array b t _ is _) r = ap (λ (x : List ℕ). opens (first_of x)) (array_text s t is r)
opens_by s a p (dict b k v _ is _ _) r = ap (λ (x : List ℕ). opens (first_of x)) (dict_text s k v is r)
opens_by s a p (structure q f fs _ is _) r = ap (λ (x : List ℕ). opens (first_of x)) (structure_text s (f ∷ fs) is r)

-- A complete type's text begins with no brace nor closing parenthesis
pub first_opens : (s : Signature) (a p : ℕ) → complete s a p ≡ true → (r : List ℕ) (c : ℕ) (w : List ℕ) → text s ++ r ≡ c ∷ w → opens c ≡ true
unfolding first_of
first_opens s a p e r c w is = ap (λ (x : List ℕ). opens (first_of x)) (sym is) ∙ opens_by s a p (front s a p e) r

is_cons : List ℕ → Bool
is_cons [] = false
is_cons (c ∷ xs) = true

cons_by : (s : Signature) (a p : ℕ) → Front s a p → (r : List ℕ) → is_cons (text s ++ r) ≡ true
unfolding is_cons
cons_by s a p (simple c is) r = ap is_cons (simple_text c s is r)
cons_by s a p (array b t _ is _) r = ap is_cons (array_text s t is r)
cons_by s a p (dict b k v _ is _ _) r = ap is_cons (dict_text s k v is r)
cons_by s a p (structure q f fs _ is _) r = ap is_cons (structure_text s (f ∷ fs) is r)

-- nor is it empty
pub not_empty : (s : Signature) (a p : ℕ) → complete s a p ≡ true → (r : List ℕ) → text s ++ r ≡ [] → ⊥
unfolding is_cons
not_empty s a p e r is = false≢true (ap is_cons (sym is) ∙ cons_by s a p (front s a p e) r)
