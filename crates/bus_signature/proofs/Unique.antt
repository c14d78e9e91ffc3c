-- A text is the text of one complete type, and of one list of them.
use Rattle.std.proofs.Common.{◌≡◌, ℕ, ◌==◌, zero, suc, true, List, [], ◌∷◌, ◌++◌, map, Some, None, refl, sym, ap, ◌∙◌, subst, append_assoc}
use Rattle.std.proofs.lemmas.Bool.{false≢true, true≢false, and_parts}
use Rattle.std.proofs.lemmas.Option.{none-some, same_Some}
use Rattle.bus_signature.specs.declared.signature.Signature.{Signature}
use Rattle.bus_signature.specs.declared.signature.Signature.TheVariants.{Array, Dict, Structure}
use Rattle.bus_signature.specs.Texts.{text, texts}
use Rattle.bus_signature.specs.Grammar.{complete, AreComplete}
use Rattle.bus_signature.specs.Taking.{letter, Stops}
use Rattle.bus_signature.proofs.Cases.{Simple, induct, opens, complete_unit, complete_array_0, complete_array, complete_dict_0, complete_dict, complete_structure_0, complete_structure_empty}
use Rattle.bus_signature.proofs.Cases.{complete_structure}
use Rattle.bus_signature.proofs.Fronts.{Front, simple, array, dict, structure, front, simple_text, array_text, dict_text, structure_text, heads, tails, first_opens, not_empty, are_complete}

abbrev IsOnly : Signature → Type 0
IsOnly s = (a p : ℕ) (t : Signature) (b q : ℕ) (r w : List ℕ) → complete s a p ≡ true → complete t b q ≡ true → text s ++ r ≡ text t ++ w → (s ≡ t) × (r ≡ w)

pub no_letter : (c d : ℕ) (s : Signature) → Simple c s → c ≡ d → letter d ≡ None → ⊥
no_letter c d s is e none = none-some s (sym none ∙ subst (λ x. letter x ≡ Some s) e is.letter)

pub same_letter : (c d : ℕ) (s t : Signature) → Simple c s → Simple d t → c ≡ d → s ≡ t
same_letter c d s t is other e = same_Some s t (sym (subst (λ x. letter x ≡ Some s) e is.letter) ∙ other.letter)

only_simple : (c : ℕ) (s : Signature) → Simple c s → IsOnly s
only_simple c s is a p t b q r w _ ct e = by_front (front t b q ct) where
  by_front : Front t b q → (s ≡ t) × (r ≡ w)
  by_front (simple d other) = let lined = sym (simple_text c s is r) ∙ e ∙ simple_text d t other w in (same_letter c d s t is other (heads lined), tails lined)
  by_front (array b' u _ it _) = absurd (no_letter c 97 s is (heads (sym (simple_text c s is r) ∙ e ∙ array_text t u it w)) refl)
  by_front (dict b' k v _ it _ _) = absurd (no_letter c 97 s is (heads (sym (simple_text c s is r) ∙ e ∙ dict_text t k v it w)) refl)
  by_front (structure q' f fs _ it _) = absurd (no_letter c 40 s is (heads (sym (simple_text c s is r) ∙ e ∙ structure_text t (f ∷ fs) it w)) refl)

-- what a complete former says of what it is made of
pub inside_array : (s : Signature) (a p : ℕ) → complete (Array s) a p ≡ true → (b : ℕ) × (a ≡ suc b) × (complete s b p ≡ true)
inside_array s zero p e = absurd (false≢true (sym (complete_array_0 s p) ∙ e))
inside_array s (suc a) p e = (a, refl, sym (complete_array s a p) ∙ e)

pub inside_dict : (k v : Signature) (a p : ℕ) → complete (Dict k v) a p ≡ true → (b : ℕ) × (a ≡ suc b) × (complete k b p ≡ true) × (complete v b p ≡ true)
inside_dict k v zero p e = absurd (false≢true (sym (complete_dict_0 k v p) ∙ e))
inside_dict k v (suc a) p e = let both = and_parts (complete k a p) (complete v a p) (sym (complete_dict k v a p) ∙ e) in (a, refl, both.0, both.1)

pub inside_structure : (fs : List Signature) (a p : ℕ) → complete (Structure fs) a p ≡ true → (q : ℕ) × (p ≡ suc q) × AreComplete a q fs
inside_structure fs a zero e = absurd (false≢true (sym (complete_structure_0 fs a) ∙ e))
inside_structure [] a (suc p) e = absurd (false≢true (sym (complete_structure_empty a p) ∙ e))
inside_structure (f ∷ fs) a (suc p) e = (p, refl, are_complete (f ∷ fs) a p (sym (complete_structure f fs a p) ∙ e))

only_array : (s : Signature) → IsOnly s → IsOnly (Array s)
only_array s ih a p t b q r w cs ct e = by_front (front t b q ct) where
  inside : (b : ℕ) × (a ≡ suc b) × (complete s b p ≡ true)
  inside = inside_array s a p cs

  lined : 97 ∷ text s ++ r ≡ text t ++ w
  lined = sym (array_text (Array s) s refl r) ∙ e

  by_front : Front t b q → (Array s ≡ t) × (r ≡ w)
  by_front (simple d other) = absurd (no_letter d 97 t other (sym (heads (lined ∙ simple_text d t other w))) refl)
  by_front (array b' u _ it cu) = let both = ih inside.0 p u b' q r w inside.2 cu (tails (lined ∙ array_text t u it w)) in (ap Array both.0 ∙ sym it, both.1)
  by_front (dict b' k v _ it _ _) = absurd (false≢true (first_opens s inside.0 p inside.2 r 123 (text k ++ (text v ++ 125 ∷ w)) (tails (lined ∙ dict_text t k v it w))))
  by_front (structure q' f fs _ it _) = absurd (true≢false (ap (λ (n : ℕ). n == 97) (heads (lined ∙ structure_text t (f ∷ fs) it w))))

only_dict : (k v : Signature) → IsOnly k → IsOnly v → IsOnly (Dict k v)
only_dict k v ihk ihv a p t b q r w cs ct e = by_front (front t b q ct) where
  inside : (b : ℕ) × (a ≡ suc b) × (complete k b p ≡ true) × (complete v b p ≡ true)
  inside = inside_dict k v a p cs

  lined : 97 ∷ 123 ∷ text k ++ (text v ++ (125 ∷ r)) ≡ text t ++ w
  lined = sym (dict_text (Dict k v) k v refl r) ∙ e

  by_front : Front t b q → (Dict k v ≡ t) × (r ≡ w)
  by_front (simple d other) = absurd (no_letter d 97 t other (sym (heads (lined ∙ simple_text d t other w))) refl)
  by_front (array b' u _ it cu) = absurd (false≢true (first_opens u b' q cu w 123 (text k ++ (text v ++ 125 ∷ r)) (sym (tails (lined ∙ array_text t u it w)))))
  by_front (dict b' j u _ it cj cu) =
      let keys = ihk inside.0 p j b' q (text v ++ (125 ∷ r)) (text u ++ (125 ∷ w)) inside.2 cj (tails (tails (lined ∙ dict_text t j u it w))) in
      let values = ihv inside.0 p u b' q (125 ∷ r) (125 ∷ w) inside.3 cu keys.1 in
      (ap (λ (x : Signature). Dict x v) keys.0 ∙ ap (Dict j) values.0 ∙ sym it, tails values.1)
  by_front (structure q' f fs _ it _) = absurd (true≢false (ap (λ (n : ℕ). n == 97) (heads (lined ∙ structure_text t (f ∷ fs) it w))))

-- no complete type begins where a list of them stops
pub no_stop : (g : Signature) (a p : ℕ) → complete g a p ≡ true → (x r : List ℕ) → Stops r → text g ++ x ≡ r → ⊥
no_stop g a p cg x [] stops e = not_empty g a p cg x e
no_stop g a p cg x (c ∷ r) stops e = false≢true (sym (ap opens stops) ∙ first_opens g a p cg x c r e)

abbrev AreOnly : List Signature → Type 0
AreOnly fs = (a p b q : ℕ) (gs : List Signature) (r w : List ℕ) → AreComplete a p fs → AreComplete b q gs → Stops r → Stops w → texts fs ++ r ≡ texts gs ++ w → (fs ≡ gs) × (r ≡ w)

only_list : (es : List ((s : Signature) × IsOnly s)) → AreOnly (map (λ e. e.0) es)
only_list [] a p b q [] r w cf cg sr sw e = (refl, e)
only_list [] a p b q (g ∷ gs) r w cf cg sr sw e = absurd (no_stop g b q cg.0 (texts gs ++ w) r sr (sym (append_assoc (text g) (texts gs) w) ∙ sym e))
only_list (f ∷ fs) a p b q [] r w cf cg sr sw e = absurd (no_stop f.0 a p cf.0 (texts (map (λ e. e.0) fs) ++ r) w sw (sym (append_assoc (text f.0) (texts (map (λ e. e.0) fs)) r) ∙ e))
only_list (f ∷ fs) a p b q (g ∷ gs) r w cf cg sr sw e =
    let first = f.1 a p g b q (texts (map (λ e. e.0) fs) ++ r) (texts gs ++ w) cf.0 cg.0 (sym (append_assoc (text f.0) (texts (map (λ e. e.0) fs)) r) ∙ e ∙ append_assoc (text g) (texts gs) w) in
    let others = only_list fs a p b q gs r w cf.1 cg.1 sr sw first.1 in
    (ap (λ (x : Signature). x ∷ map (λ e. e.0) fs) first.0 ∙ ap (λ (x : List Signature). g ∷ x) others.0, others.1)

abbrev fields_of : List ((s : Signature) × IsOnly s) → List Signature
fields_of es = map (λ e. e.0) es

only_structure : (es : List ((s : Signature) × IsOnly s)) → IsOnly (Structure (map (λ e. e.0) es))
only_structure es a p t b q r w cs ct e = by_front (front t b q ct) where
  inside : (q : ℕ) × (p ≡ suc q) × AreComplete a q (fields_of es)
  inside = inside_structure (fields_of es) a p cs

  lined : 40 ∷ texts (fields_of es) ++ (41 ∷ r) ≡ text t ++ w
  lined = sym (structure_text (Structure (fields_of es)) (fields_of es) refl r) ∙ e

  by_front : Front t b q → (Structure (fields_of es) ≡ t) × (r ≡ w)
  by_front (simple d other) = absurd (no_letter d 40 t other (sym (heads (lined ∙ simple_text d t other w))) refl)
  by_front (array b' u _ it cu) = absurd (true≢false (ap (λ (n : ℕ). n == 40) (heads (lined ∙ array_text t u it w))))
  by_front (dict b' j u _ it cj cu) = absurd (true≢false (ap (λ (n : ℕ). n == 40) (heads (lined ∙ dict_text t j u it w))))
  by_front (structure q' f fs _ it cf) =
      let both = only_list es a inside.0 b q' (f ∷ fs) (41 ∷ r) (41 ∷ w) inside.2 cf refl refl (tails (lined ∙ structure_text t (f ∷ fs) it w)) in
      (ap Structure both.0 ∙ sym it, tails both.1)

pub only : (s : Signature) → IsOnly s
only = induct IsOnly (λ a p t b q r w cs. absurd (false≢true (sym (complete_unit a p) ∙ cs))) only_simple only_array only_dict only_structure

with_only : (fs : List Signature) → (es : List ((s : Signature) × IsOnly s)) × (map (λ e. e.0) es ≡ fs)
with_only [] = ([], refl)
with_only (f ∷ fs) = ((f, only f) ∷ (with_only fs).0, ap (λ (x : List Signature). f ∷ x) (with_only fs).1)

pub only_types : (fs : List Signature) → AreOnly fs
only_types fs = subst AreOnly (with_only fs).1 (only_list (with_only fs).0)
