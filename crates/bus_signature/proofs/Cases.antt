-- Signatures by cases: a letter, or a former over inner ones.
use Rattle.std.proofs.Common.{◌≡◌, ℕ, ◌==◌, ◌<◌, arith, not, zero, suc, Bool, true, false, ◌&&◌, List, [], ◌∷◌, map, Some, refl, sym, ap, ◌∙◌, subst}
use Rattle.std.specs.List.{list_all}
use Rattle.bus_signature.specs.declared.signature.Signature.{Signature}
use Rattle.bus_signature.specs.declared.signature.Signature.TheOpen.{Signature-F}
use Rattle.bus_signature.specs.declared.signature.Signature.TheViews.{out-Signature, roll-Signature, outs-Array, outs-Dict, outs-Structure}
use Rattle.bus_signature.specs.declared.signature.Signature.TheFolds.{fold-roll-Signature, ind-Signature, map-Signature}
use Rattle.bus_signature.specs.declared.signature.Signature.TheVariants.{Unit, U8, Bool as Boolean, I16, U16, I32, U32, I64, U64, F64, Str, Signature as Sig, ObjectPath, Variant, Fd, Array, Dict}
use Rattle.bus_signature.specs.declared.signature.Signature.TheVariants.{Structure, rolls-Array, rolls-Dict, rolls-Structure}
use Rattle.bus_signature.specs.Texts.{text, text_step, texts, opened, text_no_parens}
use Rattle.bus_signature.specs.Grammar.{complete, complete_step}
use Rattle.bus_signature.specs.Taking.{letter}
use Rattle.bus_signature.proofs.Named.{named, first}

-- `complete`, one layer at a time
complete_layer : (x : Signature-F Signature) (s : Signature) → roll-Signature x ≡ s → (a p : ℕ) → complete s a p ≡ complete_step (map-Signature Signature (ℕ → ℕ → Bool) complete x) a p
unfolding complete
complete_layer x s is a p = ap (λ (y : Signature). complete y a p) (sym is) ∙ ap (λ (f : ℕ → ℕ → Bool). f a p) (fold-roll-Signature (ℕ → ℕ → Bool) complete_step x)

pub complete_unit : (a p : ℕ) → complete Unit a p ≡ false
unfolding roll-Signature denote.Hole.Carrier.roll
complete_unit a p = complete_layer Signature-F.Unit Unit refl a p

pub complete_array_0 : (s : Signature) (p : ℕ) → complete (Array s) zero p ≡ false
complete_array_0 s p = complete_layer (Signature-F.Array s) (Array s) (rolls-Array s) zero p

pub complete_array : (s : Signature) (a p : ℕ) → complete (Array s) (suc a) p ≡ complete s a p
complete_array s a p = complete_layer (Signature-F.Array s) (Array s) (rolls-Array s) (suc a) p

pub complete_dict_0 : (k v : Signature) (p : ℕ) → complete (Dict k v) zero p ≡ false
complete_dict_0 k v p = complete_layer (Signature-F.Dict k v) (Dict k v) (rolls-Dict k v) zero p

pub complete_dict : (k v : Signature) (a p : ℕ) → complete (Dict k v) (suc a) p ≡ (complete k a p && complete v a p)
complete_dict k v a p = complete_layer (Signature-F.Dict k v) (Dict k v) (rolls-Dict k v) (suc a) p

pub complete_structure_0 : (fs : List Signature) (a : ℕ) → complete (Structure fs) a zero ≡ false
complete_structure_0 fs a = complete_layer (Signature-F.Structure fs) (Structure fs) (rolls-Structure fs) a zero

pub complete_structure_empty : (a p : ℕ) → complete (Structure []) a (suc p) ≡ false
complete_structure_empty a p = complete_layer (Signature-F.Structure []) (Structure []) (rolls-Structure []) a (suc p)

are_all : (fs : List Signature) (a p : ℕ) → list_all (λ inside. inside a p) (map complete fs) ≡ list_all (λ s. complete s a p) fs
are_all [] a p = refl
are_all (f ∷ fs) a p = ap (λ (b : Bool). complete f a p && b) (are_all fs a p)

pub complete_structure : (f : Signature) (fs : List Signature) (a p : ℕ) → complete (Structure (f ∷ fs)) a (suc p) ≡ list_all (λ s. complete s a p) (f ∷ fs)
complete_structure f fs a p = complete_layer (Signature-F.Structure (f ∷ fs)) (Structure (f ∷ fs)) (rolls-Structure (f ∷ fs)) a (suc p) ∙ are_all (f ∷ fs) a p

pub text_unit : text Unit ≡ []
unfolding roll-Signature denote.Hole.Carrier.roll
text_unit = fold-roll-Signature (List ℕ) text_step Signature-F.Unit

pub opened_unit : text_no_parens Unit ≡ text Unit
unfolding text_no_parens roll-Signature out-Signature denote.Hole.Carrier.roll denote.Hole.Carrier.out
opened_unit = refl

pub opened_array : (s : Signature) → text_no_parens (Array s) ≡ text (Array s)
unfolding text_no_parens
opened_array s = ap opened (outs-Array s) ∙ ap text (rolls-Array s)

pub opened_dict : (k v : Signature) → text_no_parens (Dict k v) ≡ text (Dict k v)
unfolding text_no_parens
opened_dict k v = ap opened (outs-Dict k v) ∙ ap text (rolls-Dict k v)

pub opened_structure : (fs : List Signature) → text_no_parens (Structure fs) ≡ texts fs
unfolding text_no_parens
opened_structure fs = ap opened (outs-Structure fs)

-- not a brace nor a closing parenthesis
abbrev pub opens : ℕ → Bool
opens c = not (c == 123) && (not (c == 125) && not (c == 41))

-- a letter's text and its completeness
pub record Simple (c : ℕ) (s : Signature) : Type 0 where
  pub no_parens : text_no_parens s ≡ text s
  pub text : text s ≡ c ∷ []
  pub complete : (a p : ℕ) → complete s a p ≡ true
  pub letter : letter c ≡ Some s
  pub opens : opens c ≡ true
  pub named : named s ≡ Some s
  pub ascii : c < 128

-- by the letter's layer
by_layer : (c : ℕ) (x : Signature-F Signature) (s : Signature) → roll-Signature x ≡ s → text_step (map-Signature Signature (List ℕ) text x) ≡ c ∷ []
    → ((a p : ℕ) → complete_step (map-Signature Signature (ℕ → ℕ → Bool) complete x) a p ≡ true) → text_no_parens s ≡ text s → letter c ≡ Some s
    → opens c ≡ true → named s ≡ Some s → c < 128 → Simple c s
by_layer c x s is printed all no_parens found opens name ascii = record {
  text = ap text (sym is) ∙ fold-roll-Signature (List ℕ) text_step x ∙ printed;
  complete = λ a p. complete_layer x s is a p ∙ all a p;
  no_parens = no_parens;
  letter = found;
  opens = opens;
  named = name;
  ascii = ascii;
}

pub simple_U8 : Simple 121 U8
unfolding text_no_parens named first roll-Signature out-Signature denote.Hole.Carrier.roll denote.Hole.Carrier.out
simple_U8 = by_layer 121 Signature-F.U8 U8 refl refl (λ a p. refl) refl refl refl refl (omega arith)

pub simple_Bool : Simple 98 Boolean
unfolding text_no_parens named first roll-Signature out-Signature denote.Hole.Carrier.roll denote.Hole.Carrier.out
simple_Bool = by_layer 98 Signature-F.Bool Boolean refl refl (λ a p. refl) refl refl refl refl (omega arith)

pub simple_I16 : Simple 110 I16
unfolding text_no_parens named first roll-Signature out-Signature denote.Hole.Carrier.roll denote.Hole.Carrier.out
simple_I16 = by_layer 110 Signature-F.I16 I16 refl refl (λ a p. refl) refl refl refl refl (omega arith)

pub simple_U16 : Simple 113 U16
unfolding text_no_parens named first roll-Signature out-Signature denote.Hole.Carrier.roll denote.Hole.Carrier.out
simple_U16 = by_layer 113 Signature-F.U16 U16 refl refl (λ a p. refl) refl refl refl refl (omega arith)

pub simple_I32 : Simple 105 I32
unfolding text_no_parens named first roll-Signature out-Signature denote.Hole.Carrier.roll denote.Hole.Carrier.out
simple_I32 = by_layer 105 Signature-F.I32 I32 refl refl (λ a p. refl) refl refl refl refl (omega arith)

pub simple_U32 : Simple 117 U32
unfolding text_no_parens named first roll-Signature out-Signature denote.Hole.Carrier.roll denote.Hole.Carrier.out
simple_U32 = by_layer 117 Signature-F.U32 U32 refl refl (λ a p. refl) refl refl refl refl (omega arith)

pub simple_I64 : Simple 120 I64
unfolding text_no_parens named first roll-Signature out-Signature denote.Hole.Carrier.roll denote.Hole.Carrier.out
simple_I64 = by_layer 120 Signature-F.I64 I64 refl refl (λ a p. refl) refl refl refl refl (omega arith)

pub simple_U64 : Simple 116 U64
unfolding text_no_parens named first roll-Signature out-Signature denote.Hole.Carrier.roll denote.Hole.Carrier.out
simple_U64 = by_layer 116 Signature-F.U64 U64 refl refl (λ a p. refl) refl refl refl refl (omega arith)

pub simple_F64 : Simple 100 F64
unfolding text_no_parens named first roll-Signature out-Signature denote.Hole.Carrier.roll denote.Hole.Carrier.out
simple_F64 = by_layer 100 Signature-F.F64 F64 refl refl (λ a p. refl) refl refl refl refl (omega arith)

pub simple_Str : Simple 115 Str
unfolding text_no_parens named first roll-Signature out-Signature denote.Hole.Carrier.roll denote.Hole.Carrier.out
simple_Str = by_layer 115 Signature-F.Str Str refl refl (λ a p. refl) refl refl refl refl (omega arith)

pub simple_Signature : Simple 103 Sig
unfolding text_no_parens named first roll-Signature out-Signature denote.Hole.Carrier.roll denote.Hole.Carrier.out
simple_Signature = by_layer 103 Signature-F.Signature Sig refl refl (λ a p. refl) refl refl refl refl (omega arith)

pub simple_ObjectPath : Simple 111 ObjectPath
unfolding text_no_parens named first roll-Signature out-Signature denote.Hole.Carrier.roll denote.Hole.Carrier.out
simple_ObjectPath = by_layer 111 Signature-F.ObjectPath ObjectPath refl refl (λ a p. refl) refl refl refl refl (omega arith)

pub simple_Variant : Simple 118 Variant
unfolding text_no_parens named first roll-Signature out-Signature denote.Hole.Carrier.roll denote.Hole.Carrier.out
simple_Variant = by_layer 118 Signature-F.Variant Variant refl refl (λ a p. refl) refl refl refl refl (omega arith)

pub simple_Fd : Simple 104 Fd
unfolding text_no_parens named first roll-Signature out-Signature denote.Hole.Carrier.roll denote.Hole.Carrier.out
simple_Fd = by_layer 104 Signature-F.Fd Fd refl refl (λ a p. refl) refl refl refl refl (omega arith)

module _ (P : Signature → Type 0) (unit : P Unit) (simple : (c : ℕ) (s : Signature) → Simple c s → P s) (array : (s : Signature) → P s → P (Array s))
    (dict : (k v : Signature) → P k → P v → P (Dict k v)) (structure : (es : List ((s : Signature) × P s)) → P (Structure (map (λ e. e.0) es))) where
  layer : (y : Signature-F ((s : Signature) × P s)) → P (roll-Signature (map-Signature ((s : Signature) × P s) Signature (λ e. e.0) y))
  unfolding roll-Signature denote.Hole.Carrier.roll
  layer Signature-F.Unit = unit
  layer Signature-F.U8 = simple 121 U8 simple_U8
  layer Signature-F.Bool = simple 98 Boolean simple_Bool
  layer Signature-F.I16 = simple 110 I16 simple_I16
  layer Signature-F.U16 = simple 113 U16 simple_U16
  layer Signature-F.I32 = simple 105 I32 simple_I32
  layer Signature-F.U32 = simple 117 U32 simple_U32
  layer Signature-F.I64 = simple 120 I64 simple_I64
  layer Signature-F.U64 = simple 116 U64 simple_U64
  layer Signature-F.F64 = simple 100 F64 simple_F64
  layer Signature-F.Str = simple 115 Str simple_Str
  layer Signature-F.Signature = simple 103 Sig simple_Signature
  layer Signature-F.ObjectPath = simple 111 ObjectPath simple_ObjectPath
  layer Signature-F.Variant = simple 118 Variant simple_Variant
  layer Signature-F.Fd = simple 104 Fd simple_Fd
  layer (Signature-F.Array e) = subst P (sym (rolls-Array e.0)) (array e.0 e.1)
  layer (Signature-F.Dict k v) = subst P (sym (rolls-Dict k.0 v.0)) (dict k.0 v.0 k.1 v.1)
  layer (Signature-F.Structure es) = subst P (sym (rolls-Structure (map (λ e. e.0) es))) (structure es)

  -- induction, with the letters as one case
  pub induct : (s : Signature) → P s
  induct = ind-Signature P (λ x y is. subst (λ z. P (roll-Signature z)) is (layer y))

-- a signature is Unit, a letter or a former's
pub data Layer (t : Signature) : Type 0 where
  unit : t ≡ Unit → Layer t
  byte : (c : ℕ) → Simple c t → Layer t
  array : (s : Signature) → t ≡ Array s → Layer t
  dict : (k v : Signature) → t ≡ Dict k v → Layer t
  structure : (fs : List Signature) → t ≡ Structure fs → Layer t

pub layer_of : (t : Signature) → Layer t
layer_of = induct Layer (unit refl) (λ c s is. byte c is) (λ s _. array s refl) (λ k v _ _. dict k v refl) (λ es. structure (map (λ e. e.0) es) refl)

pub no_parens_other : (t : Signature) → ((fs : List Signature) → t ≡ Structure fs → ⊥) → text_no_parens t ≡ text t
no_parens_other t other = by (layer_of t) where
  at : (u : Signature) → t ≡ u → text_no_parens u ≡ text u → text_no_parens t ≡ text t
  at u is e = rw is e

  by : Layer t → text_no_parens t ≡ text t
  by (unit is) = at Unit is opened_unit
  by (byte c is) = is.no_parens
  by (array s is) = at (Array s) is (opened_array s)
  by (dict k v is) = at (Dict k v) is (opened_dict k v)
  by (structure fs is) = absurd (other fs is)
