-- Completeness as a test of it goes through a signature.
use Rattle.std.proofs.Common.{◌≡◌, ℕ, ◌+◌, ◌-◌, ◌<◌, zero, suc, Bool, true, false, ◌&&◌, List, [], ◌∷◌, ◌++◌, length, get_or, take, refl, sym, ap, ◌∙◌, subst, arith}
use Rattle.std.proofs.lemmas.List.{take_more}
use Rattle.bus_signature.specs.declared.signature.Signature.{Signature}
use Rattle.bus_signature.specs.declared.signature.Signature.TheVariants.{Unit, Array, Dict, Structure}
use Rattle.bus_signature.specs.Texts.{IsPlain}
use Rattle.bus_signature.specs.Grammar.{complete, AreComplete}
use Rattle.bus_signature.proofs.Cases.{Layer, unit, byte, array, dict, structure, layer_of, complete_array_0, complete_array, complete_dict_0, complete_dict, complete_structure_0}
use Rattle.bus_signature.proofs.Cases.{complete_structure_empty, complete_structure}
use Rattle.bus_signature.proofs.Fronts.{are_complete, all_complete, complete_one_more}

pub no_depth_array : (s : Signature) (a p : ℕ) → a ≡ 0 → complete (Array s) a p ≡ false
no_depth_array s a p is = ap (λ (n : ℕ). complete (Array s) n p) is ∙ complete_array_0 s p

pub array_inside : (s : Signature) (a p : ℕ) → (a ≡ 0 → ⊥) → complete (Array s) a p ≡ complete s (a - 1) p
array_inside s zero p some = absurd (some refl)
array_inside s (suc a) p some = complete_array s a p ∙ ap (λ (n : ℕ). complete s n p) (omega arith)

pub no_depth_dict : (k v : Signature) (a p : ℕ) → a ≡ 0 → complete (Dict k v) a p ≡ false
no_depth_dict k v a p is = ap (λ (n : ℕ). complete (Dict k v) n p) is ∙ complete_dict_0 k v p

pub dict_inside : (k v : Signature) (a p : ℕ) → (a ≡ 0 → ⊥) → complete (Dict k v) a p ≡ (complete k (a - 1) p && complete v (a - 1) p)
dict_inside k v zero p some = absurd (some refl)
dict_inside k v (suc a) p some = complete_dict k v a p ∙ ap (λ (n : ℕ). complete k n p && complete v n p) (omega arith)

pub no_depth_structure : (fs : List Signature) (a p : ℕ) → p ≡ 0 → complete (Structure fs) a p ≡ false
no_depth_structure fs a p is = ap (λ (n : ℕ). complete (Structure fs) a n) is ∙ complete_structure_0 fs a

pub no_fields_structure : (fs : List Signature) (a p : ℕ) → fs ≡ [] → complete (Structure fs) a p ≡ false
no_fields_structure fs a zero is = complete_structure_0 fs a
no_fields_structure fs a (suc p) is = ap (λ (gs : List Signature). complete (Structure gs) a (suc p)) is ∙ complete_structure_empty a p

-- what a test of all fields has told, of the whole
by_test : (x y : Bool) → (x ≡ true → y ≡ true) → (y ≡ true → x ≡ true) → x ≡ y
by_test true y to from = sym (to refl)
by_test false true to from = from refl
by_test false false to from = refl

pub structure_inside : (fs : List Signature) (a p : ℕ) (told : Bool) → (p ≡ 0 → ⊥) → (fs ≡ [] → ⊥) → (told ≡ true → AreComplete a (p - 1) fs) → (AreComplete a (p - 1) fs → told ≡ true)
    → told ≡ complete (Structure fs) a p
structure_inside fs a zero told some fields to from = absurd (some refl)
structure_inside [] a (suc p) told some fields to from = absurd (fields refl)
structure_inside (f ∷ fs) a (suc p) told some fields to from =
    let one : suc p - 1 ≡ p = omega arith in
    by_test told (complete (Structure (f ∷ fs)) a (suc p))
    (λ e. complete_structure f fs a p ∙ all_complete (f ∷ fs) a p (subst (λ (n : ℕ). AreComplete a n (f ∷ fs)) one (to e)))
    (λ e. from (subst (λ (n : ℕ). AreComplete a n (f ∷ fs)) (sym one) (are_complete (f ∷ fs) a p (sym (complete_structure f fs a p) ∙ e))))

pub letter_complete : (s : Signature) (a p : ℕ) → (s ≡ Unit → ⊥) → IsPlain s → complete s a p ≡ true
letter_complete s a p some plain = by (layer_of s) where
  by : Layer s → complete s a p ≡ true
  by (unit is) = absurd (some is)
  by (byte c is) = is.complete a p
  by (array t is) = absurd (plain.no_array t is)
  by (dict k v is) = absurd (plain.no_dict k v is)
  by (structure fs is) = absurd (plain.no_structure fs is)

pub complete_more : (xs : List Signature) (i a p : ℕ) (x : Signature) → i < length xs → x ≡ get_or xs i x → AreComplete a p (take i xs) → complete x a p ≡ true → AreComplete a p (take (i + 1) xs)
complete_more xs i a p x within is all one = subst (AreComplete a p) (ap (λ (y : Signature). take i xs ++ y ∷ []) is ∙ sym (take_more xs i x within)) (complete_one_more (take i xs) a p x all one)

pub complete_at : (xs : List Signature) (i a p : ℕ) (x : Signature) → i < length xs → x ≡ get_or xs i x → AreComplete a p xs → complete x a p ≡ true
complete_at [] i a p x within is all = absurd (omega (arith, within))
complete_at (y ∷ ys) zero a p x within is all = ap (λ (s : Signature). complete s a p) is ∙ all.0
complete_at (y ∷ ys) (suc i) a p x within is all = complete_at ys i a p x (omega (arith, within)) is all.1
