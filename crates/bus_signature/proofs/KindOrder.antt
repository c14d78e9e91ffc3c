-- The order by kind.
use Rattle.std.proofs.Common.{◌≡◌, ℕ, ◌<◌, zero, suc, Bool, true, false, List, [], ◌∷◌, ◌++◌, length, Some, refl, sym, ap, ◌∙◌, subst, arith, Less, Equal, is_eq, if◌then◌else◌}
use Rattle.std.specs.Prelude.{⊤, ◌↔◌}
use Rattle.std.proofs.lemmas.Option.{none-some, same_Some}
use Rattle.std.proofs.lemmas.Cmp.{tied_itself}
use Rattle.bus_signature.specs.declared.signature.Signature.{Signature}
use Rattle.bus_signature.specs.declared.signature.Signature.TheOpen.{Signature-F}
use Rattle.bus_signature.specs.declared.signature.Signature.TheViews.{out-Signature, roll-Signature}
use Rattle.bus_signature.specs.declared.signature.Signature.TheFolds.{fold-roll-Signature, map-Signature}
use Rattle.bus_signature.specs.declared.signature.Signature.TheVariants.{Unit, U8, Bool as Boolean, I16, U16, I32, U32, I64, U64, F64, Str, Signature as Sig, ObjectPath, Variant, Fd, Array, Dict}
use Rattle.bus_signature.specs.declared.signature.Signature.TheVariants.{Structure, rolls-Array, rolls-Dict, rolls-Structure}
use Rattle.bus_signature.specs.contracts.signature.SignatureOrd.TheImpl as O
use Rattle.bus_signature.specs.contracts.signature.SignatureOrd.TheImpl.Laws as L
use Rattle.bus_signature.specs.contracts.signature.SignatureOrd.TheImpl.Laws.{total-law, matches_eq-law}
use Rattle.bus_signature.specs.contracts.signature.SignaturePartialEq.TheImpl.Laws as LE
use Rattle.bus_signature.specs.Order.{kind, kind_step, IsSignatureOrder}
use Rattle.bus_signature.proofs.Named.{named, first, same, bare_ones}
use Rattle.bus_signature.proofs.Equal.{Kind, bare, array, dict, structure, kind as the_kind, only_same}
use Rattle.bus_signature.proofs.Ordered.{order_array, order_dict, order_structure, fd_array, array_dict}

abbrev Lesser : Signature → Signature → Type 0
Lesser s t = (O.ghosts).cmp s t ≡ Less

fd_dict : (k v : Signature) → Lesser Fd (Dict k v)
unfolding out-Signature denote.Hole.Carrier.out
fd_dict k v = L.is Fd (Dict k v)

fd_structure : (fs : List Signature) → Lesser Fd (Structure fs)
unfolding out-Signature denote.Hole.Carrier.out
fd_structure fs = L.is Fd (Structure fs)

array_structure : (s : Signature) (fs : List Signature) → Lesser (Array s) (Structure fs)
unfolding out-Signature denote.Hole.Carrier.out
array_structure s fs = L.is (Array s) (Structure fs)

dict_structure : (k v : Signature) (fs : List Signature) → Lesser (Dict k v) (Structure fs)
unfolding out-Signature denote.Hole.Carrier.out
dict_structure k v fs = L.is (Dict k v) (Structure fs)

abbrev Below : Signature → List Signature → Type 0
Below k [] = ⊤
Below k (m ∷ ms) = Lesser k m × Below k ms

abbrev Rising : List Signature → Type 0
Rising [] = ⊤
Rising (k ∷ ks) = Below k ks × Rising ks

below_more : (k m : Signature) → Lesser k m → (ks : List Signature) → Below m ks → Below k ks
below_more k m lt [] below = tt
below_more k m lt (j ∷ js) below = (total-law.trans k m j lt below.0, below_more k m lt js below.1)

-- each less than the next
abbrev AreSteps : List Signature → Type 0
AreSteps [] = ⊤
AreSteps (k ∷ []) = ⊤
AreSteps (k ∷ m ∷ ks) = Lesser k m × AreSteps (m ∷ ks)

rises : (ks : List Signature) → AreSteps ks → Rising ks
rises [] steps = tt
rises (k ∷ []) steps = (tt, tt)
rises (k ∷ m ∷ ks) steps = let up = rises (m ∷ ks) steps.1 in ((steps.0, below_more k m steps.0 ks up.0), up)

at : List Signature → ℕ → Signature
at [] n = Fd
at (k ∷ ks) zero = k
at (k ∷ ks) (suc n) = at ks n

below_at : (k : Signature) (ks : List Signature) → Below k ks → (n : ℕ) → n < length ks → Lesser k (at ks n)
unfolding at
below_at k [] below n lt = absurd (omega (arith, lt))
below_at k (m ∷ ms) below zero lt = below.0
below_at k (m ∷ ms) below (suc n) lt = below_at k ms below.1 n (omega (arith, lt))

pairs : (ks : List Signature) → Rising ks → (i j : ℕ) → i < j → j < length ks → Lesser (at ks i) (at ks j)
unfolding at
pairs [] up i j lt within = absurd (omega (arith, within))
pairs (k ∷ ks) up i zero lt within = absurd (omega (arith, lt))
pairs (k ∷ ks) up zero (suc j) lt within = below_at k ks up.0 j (omega (arith, within))
pairs (k ∷ ks) up (suc i) (suc j) lt within = pairs ks up.1 i j (omega (arith, lt)) (omega (arith, within))

-- those without inner ones, and then t
abbrev with_last : Signature → List Signature
with_last t = bare_ones ++ t ∷ []

rising : (t : Signature) → Lesser Fd t → Rising (with_last t)
unfolding out-Signature denote.Hole.Carrier.out
rising t last = rises (with_last t) ((
  L.is Unit U8,
  (
    L.is U8 Boolean,
    (
      L.is Boolean I16,
      (
        L.is I16 U16,
        (
          L.is U16 I32,
          (
            L.is I32 U32,
            (
              L.is U32 I64,
              (
                L.is I64 U64,
                (
                  L.is U64 F64,
                  (
                    L.is F64 Str,
                    (L.is Str Sig, (L.is Sig ObjectPath, (L.is ObjectPath Variant, (L.is Variant Fd, (last, tt))))),
                  ),
                ),
              ),
            ),
          ),
        ),
      ),
    ),
  ),
)
    )

record Bare (s : Signature) : Type 0 where
  stands : (t : Signature) → at (with_last t) (kind s) ≡ s
  within : kind s < 15

by_layer : (n : ℕ) (x : Signature-F Signature) (s : Signature) → roll-Signature x ≡ s → kind_step (map-Signature Signature ℕ kind x) ≡ n
    → ((t : Signature) → at (with_last t) n ≡ s) → n < 15 → Bare s
unfolding kind
by_layer n x s is step stands within = record { stands = λ t. ap (at (with_last t)) numbered ∙ stands t; within = rw numbered within } where
  numbered : kind s ≡ n
  numbered = ap (λ (y : Signature). kind y) (sym is) ∙ fold-roll-Signature ℕ kind_step x ∙ step

kind_array : (s : Signature) → kind (Array s) ≡ 15
unfolding kind
kind_array s = ap (λ (x : Signature). kind x) (sym (rolls-Array s)) ∙ fold-roll-Signature ℕ kind_step (Signature-F.Array s)

kind_dict : (k v : Signature) → kind (Dict k v) ≡ 16
unfolding kind
kind_dict k v = ap (λ (x : Signature). kind x) (sym (rolls-Dict k v)) ∙ fold-roll-Signature ℕ kind_step (Signature-F.Dict k v)

kind_structure : (fs : List Signature) → kind (Structure fs) ≡ 17
unfolding kind
kind_structure fs = ap (λ (x : Signature). kind x) (sym (rolls-Structure fs)) ∙ fold-roll-Signature ℕ kind_step (Signature-F.Structure fs)

abbrev AreBare : List Signature → Type 0
AreBare [] = ⊤
AreBare (k ∷ ks) = Bare k × AreBare ks

among : (ks : List Signature) → AreBare ks → (s k : Signature) → first ks s ≡ Some k → Bare k
unfolding first
among [] all s k e = absurd (none-some k e)
among (m ∷ ms) all s k e = by (LE.unfolded s m) e (among ms all.1 s k) where
  by : (b : Bool) → (if b then Some m else first ms s) ≡ Some k → (first ms s ≡ Some k → Bare k) → Bare k
  by true e more = subst Bare (same_Some m k e) all.0
  by false e more = more e

all_bare : AreBare bare_ones
unfolding roll-Signature denote.Hole.Carrier.roll at
all_bare = ((
  by_layer 0 Signature-F.Unit Unit refl refl (λ t. refl) (omega arith),
  (
    by_layer 1 Signature-F.U8 U8 refl refl (λ t. refl) (omega arith),
    (
      by_layer 2 Signature-F.Bool Boolean refl refl (λ t. refl) (omega arith),
      (
        by_layer 3 Signature-F.I16 I16 refl refl (λ t. refl) (omega arith),
        (
          by_layer 4 Signature-F.U16 U16 refl refl (λ t. refl) (omega arith),
          (
            by_layer 5 Signature-F.I32 I32 refl refl (λ t. refl) (omega arith),
            (
              by_layer 6 Signature-F.U32 U32 refl refl (λ t. refl) (omega arith),
              (
                by_layer 7 Signature-F.I64 I64 refl refl (λ t. refl) (omega arith),
                (
                  by_layer 8 Signature-F.U64 U64 refl refl (λ t. refl) (omega arith),
                  (
                    by_layer 9 Signature-F.F64 F64 refl refl (λ t. refl) (omega arith),
                    (
                      by_layer 10 Signature-F.Str Str refl refl (λ t. refl) (omega arith),
                      (
                        by_layer 11 Signature-F.Signature Sig refl refl (λ t. refl) (omega arith),
                        (
                          by_layer 12 Signature-F.ObjectPath ObjectPath refl refl (λ t. refl) (omega arith),
                          (
                            by_layer 13 Signature-F.Variant Variant refl refl (λ t. refl) (omega arith),
                            (by_layer 14 Signature-F.Fd Fd refl refl (λ t. refl) (omega arith), tt),
                          ),
                        ),
                      ),
                    ),
                  ),
                ),
              ),
            ),
          ),
        ),
      ),
    ),
  ),
)
    )

bare_of : (t : Signature) → named t ≡ Some t → Bare t
unfolding named
bare_of t e = among bare_ones all_bare t t e

bare_first : (s : Signature) → Bare s → (t : Signature) → Lesser Fd t → Lesser s t
unfolding at
bare_first s is t last = subst (λ (x : Signature). Lesser x t) (is.stands t) (pairs (with_last t) (rising t last) (kind s) 15 is.within (omega arith))

bare_pair : (s t : Signature) → Bare s → Bare t → kind s < kind t → Lesser s t
bare_pair s t is it lt = subst (λ (x : Signature). Lesser x t) (is.stands (Array Unit)) (subst (λ (x : Signature). Lesser (at (with_last (Array Unit)) (kind s)) x) (it.stands (Array Unit))
    (pairs (with_last (Array Unit)) (rising (Array Unit) (fd_array Unit)) (kind s) (kind t) lt (omega (arith, it.within))))

by_kinds : (s t : Signature) → Kind s → Kind t → kind s < kind t → Lesser s t
by_kinds s t (bare is) (bare it) lt = bare_pair s t (bare_of s is) (bare_of t it) lt
by_kinds s t (bare is) (array u it) lt = bare_first s (bare_of s is) t (subst (Lesser Fd) (sym it) (fd_array u))
by_kinds s t (bare is) (dict k v it) lt = bare_first s (bare_of s is) t (subst (Lesser Fd) (sym it) (fd_dict k v))
by_kinds s t (bare is) (structure fs it) lt = bare_first s (bare_of s is) t (subst (Lesser Fd) (sym it) (fd_structure fs))
by_kinds s t (array a is) (bare it) lt = absurd (omega (arith, lt, (bare_of t it).within, ap kind is ∙ kind_array a))
by_kinds s t (array a is) (array u it) lt = absurd (omega (arith, lt, ap kind it ∙ kind_array u, ap kind is ∙ kind_array a))
by_kinds s t (array a is) (dict k v it) lt = subst (λ (x : Signature). Lesser x t) (sym is) (subst (Lesser (Array a)) (sym it) (array_dict a k v))
by_kinds s t (array a is) (structure fs it) lt = subst (λ (x : Signature). Lesser x t) (sym is) (subst (Lesser (Array a)) (sym it) (array_structure a fs))
by_kinds s t (dict j w is) (bare it) lt = absurd (omega (arith, lt, (bare_of t it).within, ap kind is ∙ kind_dict j w))
by_kinds s t (dict j w is) (array u it) lt = absurd (omega (arith, lt, ap kind it ∙ kind_array u, ap kind is ∙ kind_dict j w))
by_kinds s t (dict j w is) (dict k v it) lt = absurd (omega (arith, lt, ap kind it ∙ kind_dict k v, ap kind is ∙ kind_dict j w))
by_kinds s t (dict j w is) (structure fs it) lt = subst (λ (x : Signature). Lesser x t) (sym is) (subst (Lesser (Dict j w)) (sym it) (dict_structure j w fs))
by_kinds s t (structure gs is) (bare it) lt = absurd (omega (arith, lt, (bare_of t it).within, ap kind is ∙ kind_structure gs))
by_kinds s t (structure gs is) (array u it) lt = absurd (omega (arith, lt, ap kind it ∙ kind_array u, ap kind is ∙ kind_structure gs))
by_kinds s t (structure gs is) (dict k v it) lt = absurd (omega (arith, lt, ap kind it ∙ kind_dict k v, ap kind is ∙ kind_structure gs))
by_kinds s t (structure gs is) (structure fs it) lt = absurd (omega (arith, lt, ap kind it ∙ kind_structure fs, ap kind is ∙ kind_structure gs))

pub is_signature_order : IsSignatureOrder (O.ghosts).cmp
is_signature_order = record {
  kinds = λ s t lt. by_kinds s t (the_kind s) (the_kind t) lt;
  arrays = order_array;
  dicts = order_dict;
  structures = order_structure;
  itself = λ s. tied_itself total-law s;
  reversed = λ s t. total-law.antisymm s t;
  total = total-law;
  equal = λ s t. (λ e. only_same s t (matches_eq-law s t ∙ ap is_eq e), λ e. subst (λ (x : Signature). (O.ghosts).cmp s x ≡ Equal) e (tied_itself total-law s));
}

-- `Equal` is answered exactly where `==` holds
pub ties_equal : (s t : Signature) → ((O.ghosts).cmp s t ≡ Equal) ↔ (same s t ≡ true)
ties_equal s t = (λ e. matches_eq-law s t ∙ ap is_eq e, λ e. (is_signature_order.equal s t).1 (only_same s t e))
