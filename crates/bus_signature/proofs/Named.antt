-- Which signature without inner ones a signature is, as `==` tells it.
use Rattle.std.proofs.Common.{◌≡◌, Bool, true, false, ◌&&◌, List, [], ◌∷◌, Option, Some, None, refl, sym, ◌∙◌, if◌then◌else◌}
use Rattle.std.specs.Cmp.Lexicographic.{pointwise}
use Rattle.bus_signature.specs.declared.signature.Signature.{Signature}
use Rattle.bus_signature.specs.declared.signature.Signature.TheViews.{out-Signature, outs-Structure}
use Rattle.bus_signature.specs.declared.signature.Signature.TheVariants.{Unit, U8, Bool as Boolean, I16, U16, I32, U32, I64, U64, F64, Str, Signature as Sig, ObjectPath, Variant, Fd, Array, Dict}
use Rattle.bus_signature.specs.declared.signature.Signature.TheVariants.{Structure}
use Rattle.bus_signature.specs.contracts.signature.SignaturePartialEq.TheImpl as E
use Rattle.bus_signature.specs.contracts.signature.SignaturePartialEq.TheImpl.Laws as L
use Rattle.bus_signature.specs.contracts.signature.SignatureEq.TheImpl.Laws.{laws-law}

abbrev pub same : Signature → Signature → Bool
same s t = (E.ghosts).eq s t

-- the signature without children that is the same as s
unfoldable pub first : List Signature → Signature → Option Signature
first [] s = None
first (k ∷ ks) s = if L.unfolded s k then Some k else first ks s

-- those without inner ones
abbrev pub bare_ones : List Signature
bare_ones = Unit ∷ U8 ∷ Boolean ∷ I16 ∷ U16 ∷ I32 ∷ U32 ∷ I64 ∷ U64 ∷ F64 ∷ Str ∷ Sig ∷ ObjectPath ∷ Variant ∷ Fd ∷ []

unfoldable pub named : Signature → Option Signature
unfolding first
named s = first bare_ones s

first_alike : (ks : List Signature) (s t : Signature) → ((k : Signature) → same s k ≡ same t k) → first ks s ≡ first ks t
unfolding first
first_alike [] s t alike = refl
first_alike (k ∷ ks) s t alike = rw (first_alike ks s t alike, sym (L.is s k) ∙ alike k ∙ L.is t k) refl

pub named_alike : (s t : Signature) → same s t ≡ true → named s ≡ named t
unfolding named
named_alike s t e = first_alike bare_ones s t (λ k. laws-law.congr s t k e)

pub same_itself : (s : Signature) → same s s ≡ true
same_itself s = laws-law.refl s

pub same_array : (s t : Signature) → same (Array s) (Array t) ≡ same s t
unfolding out-Signature denote.Hole.Carrier.out Rattle.bus_signature.specs.declared.signature.Signature.TheBlock.shown-the_row-Signature-0 denote.Hole.Carrier.shown denote.Hole.Carrier.hidden
same_array s t = L.is (Array s) (Array t)

pub same_dict : (k v j w : Signature) → same (Dict k v) (Dict j w) ≡ (same k j && same v w)
unfolding out-Signature denote.Hole.Carrier.out Rattle.bus_signature.specs.declared.signature.Signature.TheBlock.shown-the_row-Signature-0 denote.Hole.Carrier.shown denote.Hole.Carrier.hidden
same_dict k v j w = L.is (Dict k v) (Dict j w)

pub same_structure : (fs gs : List Signature) → same (Structure fs) (Structure gs) ≡ pointwise (E.ghosts).eq fs gs
same_structure fs gs = L.is (Structure fs) (Structure gs) ∙ (rw (outs-Structure fs, outs-Structure gs) refl)

pub array_dict : (s k v : Signature) → same (Array s) (Dict k v) ≡ false
unfolding out-Signature denote.Hole.Carrier.out
array_dict s k v = L.is (Array s) (Dict k v)

pub array_structure : (s : Signature) (gs : List Signature) → same (Array s) (Structure gs) ≡ false
unfolding out-Signature denote.Hole.Carrier.out
array_structure s gs = L.is (Array s) (Structure gs)

pub dict_structure : (k v : Signature) (gs : List Signature) → same (Dict k v) (Structure gs) ≡ false
unfolding out-Signature denote.Hole.Carrier.out
dict_structure k v gs = L.is (Dict k v) (Structure gs)

pub dict_array : (k v s : Signature) → same (Dict k v) (Array s) ≡ false
unfolding out-Signature denote.Hole.Carrier.out
dict_array k v s = L.is (Dict k v) (Array s)

pub structure_array : (fs : List Signature) (s : Signature) → same (Structure fs) (Array s) ≡ false
unfolding out-Signature denote.Hole.Carrier.out
structure_array fs s = L.is (Structure fs) (Array s)

pub structure_dict : (fs : List Signature) (k v : Signature) → same (Structure fs) (Dict k v) ≡ false
unfolding out-Signature denote.Hole.Carrier.out
structure_dict fs k v = L.is (Structure fs) (Dict k v)

pub named_array : (s : Signature) → named (Array s) ≡ None
unfolding out-Signature denote.Hole.Carrier.out named first
named_array s = refl

pub named_dict : (k v : Signature) → named (Dict k v) ≡ None
unfolding out-Signature denote.Hole.Carrier.out named first
named_dict k v = refl

pub named_structure : (fs : List Signature) → named (Structure fs) ≡ None
unfolding out-Signature denote.Hole.Carrier.out named first
named_structure fs = refl

pub named_Unit : named Unit ≡ Some Unit
unfolding out-Signature denote.Hole.Carrier.out named first
named_Unit = refl
