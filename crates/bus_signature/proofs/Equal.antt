-- `==` on signatures is equality of values.
use Rattle.std.proofs.Common.{◌≡◌, true, List, [], ◌∷◌, map, Some, None, refl, sym, ap, ◌∙◌, subst}
use Rattle.std.specs.Cmp.Lexicographic.{pointwise}
use Rattle.std.proofs.lemmas.Bool.{false≢true, and_parts}
use Rattle.std.proofs.lemmas.Option.{none-some, same_Some}
use Rattle.bus_signature.specs.declared.signature.Signature.{Signature}
use Rattle.bus_signature.specs.declared.signature.Signature.TheVariants.{Unit, Array, Dict, Structure}
use Rattle.bus_signature.proofs.Cases.{induct}
use Rattle.bus_signature.proofs.Named.{named, same, same_itself, named_alike, same_array, same_dict, same_structure, array_dict, array_structure, dict_array, dict_structure, structure_array}
use Rattle.bus_signature.proofs.Named.{structure_dict, named_array, named_dict, named_structure, named_Unit}

pub data Kind (t : Signature) : Type 0 where
  bare : named t ≡ Some t → Kind t
  array : (u : Signature) → t ≡ Array u → Kind t
  dict : (k v : Signature) → t ≡ Dict k v → Kind t
  structure : (fs : List Signature) → t ≡ Structure fs → Kind t

pub kind : (t : Signature) → Kind t
kind = induct Kind (bare named_Unit) (λ c s is. bare is.named) (λ s _. array s refl) (λ k v _ _. dict k v refl) (λ es. structure (map (λ e. e.0) es) refl)

abbrev IsSame : Signature → Type 0
IsSame s = (t : Signature) → same s t ≡ true → s ≡ t

no_name : (s t : Signature) → named s ≡ None → named t ≡ Some t → named s ≡ named t → ⊥
no_name s t none some e = none-some t (sym none ∙ e ∙ some)

same_bare : (s : Signature) → named s ≡ Some s → IsSame s
same_bare s is t e = by (kind t) where
  none : named t ≡ None → s ≡ t
  none it = absurd (no_name t s it is (sym (named_alike s t e)))

  by : Kind t → s ≡ t
  by (bare it) = same_Some s t (sym is ∙ named_alike s t e ∙ it)
  by (array u it) = none (ap named it ∙ named_array u)
  by (dict k v it) = none (ap named it ∙ named_dict k v)
  by (structure fs it) = none (ap named it ∙ named_structure fs)

same_by_array : (s : Signature) → IsSame s → IsSame (Array s)
same_by_array s ih t e = by (kind t) where
  at : (u : Signature) → t ≡ u → same (Array s) u ≡ true
  at u it = subst (λ (x : Signature). same (Array s) x ≡ true) it e

  by : Kind t → Array s ≡ t
  by (bare it) = absurd (no_name (Array s) t (named_array s) it (named_alike (Array s) t e))
  by (array u it) = ap Array (ih u (sym (same_array s u) ∙ at (Array u) it)) ∙ sym it
  by (dict k v it) = absurd (false≢true (sym (array_dict s k v) ∙ at (Dict k v) it))
  by (structure fs it) = absurd (false≢true (sym (array_structure s fs) ∙ at (Structure fs) it))

same_by_dict : (k v : Signature) → IsSame k → IsSame v → IsSame (Dict k v)
same_by_dict k v ihk ihv t e = by (kind t) where
  at : (u : Signature) → t ≡ u → same (Dict k v) u ≡ true
  at u it = subst (λ (x : Signature). same (Dict k v) x ≡ true) it e

  by : Kind t → Dict k v ≡ t
  by (bare it) = absurd (no_name (Dict k v) t (named_dict k v) it (named_alike (Dict k v) t e))
  by (array u it) = absurd (false≢true (sym (dict_array k v u) ∙ at (Array u) it))
  by (dict j w it) = let both = and_parts (same k j) (same v w) (sym (same_dict k v j w) ∙ at (Dict j w) it) in ap (λ (x : Signature). Dict x v) (ihk j both.0) ∙ ap (Dict j) (ihv w both.1) ∙ sym it
  by (structure fs it) = absurd (false≢true (sym (dict_structure k v fs) ∙ at (Structure fs) it))

same_lists : (es : List ((s : Signature) × IsSame s)) (gs : List Signature) → pointwise same (map (λ e. e.0) es) gs ≡ true → map (λ e. e.0) es ≡ gs
same_lists [] [] e = refl
same_lists [] (g ∷ gs) e = absurd (false≢true e)
same_lists (s ∷ es) [] e = absurd (false≢true e)
same_lists (s ∷ es) (g ∷ gs) e =
    let both = and_parts (same s.0 g) (pointwise same (map (λ e. e.0) es) gs) e in
    ap (λ (x : Signature). x ∷ map (λ e. e.0) es) (s.1 g both.0) ∙ ap (λ (x : List Signature). g ∷ x) (same_lists es gs both.1)

abbrev fields_of : List ((s : Signature) × IsSame s) → List Signature
fields_of es = map (λ e. e.0) es

same_by_structure : (es : List ((s : Signature) × IsSame s)) → IsSame (Structure (fields_of es))
same_by_structure es t e = by (kind t) where
  at : (u : Signature) → t ≡ u → same (Structure (fields_of es)) u ≡ true
  at u it = subst (λ (x : Signature). same (Structure (fields_of es)) x ≡ true) it e

  by : Kind t → Structure (fields_of es) ≡ t
  by (bare it) = absurd (no_name (Structure (fields_of es)) t (named_structure (fields_of es)) it (named_alike (Structure (fields_of es)) t e))
  by (array u it) = absurd (false≢true (sym (structure_array (fields_of es) u) ∙ at (Array u) it))
  by (dict k v it) = absurd (false≢true (sym (structure_dict (fields_of es) k v) ∙ at (Dict k v) it))
  by (structure fs it) = ap Structure (same_lists es fs (sym (same_structure (fields_of es) fs) ∙ at (Structure fs) it)) ∙ sym it

pub only_same : (s : Signature) → IsSame s
only_same = induct IsSame (same_bare Unit named_Unit) (λ c s is. same_bare s is.named) same_by_array same_by_dict same_by_structure

pub same_from_equal : (s t : Signature) → s ≡ t → same s t ≡ true
same_from_equal s t e = subst (λ (x : Signature). same s x ≡ true) e (same_itself s)
