-- What a signature feeds a hasher, one layer at a time.
use Rattle.std.proofs.Common.{◌≡◌, suc, List, [], ◌∷◌, ◌++◌, map, length, refl, sym, ◌∙◌, ap, subst, pos}
use Rattle.std.specs.Hash.{HashWrites, isize, usize}
use Rattle.std.specs.List.{flat_map}
use Rattle.bus_signature.specs.declared.signature.Signature.{Signature}
use Rattle.bus_signature.specs.declared.signature.Signature.TheOpen.{Signature-F}
use Rattle.bus_signature.specs.declared.signature.Signature.TheViews.{out-Signature, roll-Signature, outs-Structure}
use Rattle.bus_signature.specs.declared.signature.Signature.TheFolds.{fold-roll-Signature, ind-Signature, map-Signature}
use Rattle.bus_signature.specs.declared.signature.Signature.TheVariants.{Unit, U8, Bool as Boolean, I16, U16, I32, U32, I64, U64, F64, Str, Signature as Sig, ObjectPath, Variant, Fd, Array, Dict}
use Rattle.bus_signature.specs.declared.signature.Signature.TheVariants.{Structure, rolls-Array, rolls-Dict, rolls-Structure}
use Rattle.bus_signature.specs.contracts.signature.SignatureHash.TheImpl as H
use Rattle.bus_signature.specs.contracts.signature.SignatureHash.TheImpl.Laws as L
use Rattle.bus_signature.specs.Feeding.{feed, feed_step}

abbrev Feeds : Signature → Type 0
Feeds s = (H.ghosts).hash_input s ≡ feed s

-- `feed`, one layer at a time
feed_layer : (x : Signature-F Signature) (s : Signature) → roll-Signature x ≡ s → feed s ≡ feed_step (map-Signature Signature HashWrites feed x)
unfolding feed
feed_layer x s is = ap feed (sym is) ∙ fold-roll-Signature HashWrites feed_step x

-- the derived writes, one layer at a time
fed_array : (s : Signature) → (H.ghosts).hash_input (Array s) ≡ isize (pos 15) ++ (H.ghosts).hash_input s
unfolding out-Signature denote.Hole.Carrier.out Rattle.bus_signature.specs.declared.signature.Signature.TheBlock.shown-the_row-Signature-0 denote.Hole.Carrier.shown denote.Hole.Carrier.hidden
fed_array s = L.is (Array s) (Array s)

fed_dict : (k v : Signature) → (H.ghosts).hash_input (Dict k v) ≡ isize (pos 16) ++ ((H.ghosts).hash_input k ++ (H.ghosts).hash_input v)
unfolding out-Signature denote.Hole.Carrier.out Rattle.bus_signature.specs.declared.signature.Signature.TheBlock.shown-the_row-Signature-0 denote.Hole.Carrier.shown denote.Hole.Carrier.hidden
fed_dict k v = L.is (Dict k v) (Dict k v)

fed_structure : (fs : List Signature) → (H.ghosts).hash_input (Structure fs) ≡ isize (pos 17) ++ (usize (length fs) ++ flat_map (H.ghosts).hash_input fs)
fed_structure fs = L.is (Structure fs) (Structure fs) ∙ (rw (outs-Structure fs) refl)

flat-all : (es : List ((s : Signature) × Feeds s)) → flat_map (H.ghosts).hash_input (map (λ e. e.0) es) ≡ flat_map (λ inner. inner) (map feed (map (λ e. e.0) es))
flat-all [] = refl
flat-all (e ∷ es) = rw (e.1, flat-all es) refl

fed-array : (s : Signature) → Feeds s → Feeds (Array s)
fed-array s is = fed_array s ∙ (ap (λ x. isize (pos 15) ++ x) is ∙ sym (feed_layer (Signature-F.Array s) (Array s) (rolls-Array s)))

fed-dict : (k v : Signature) → Feeds k → Feeds v → Feeds (Dict k v)
fed-dict k v is same =
    fed_dict k v ∙ ap (λ x. isize (pos 16) ++ (x ++ (H.ghosts).hash_input v)) is ∙ ap (λ x. isize (pos 16) ++ (feed k ++ x)) same
    ∙ sym (feed_layer (Signature-F.Dict k v) (Dict k v) (rolls-Dict k v))

length-fed : (fs : List Signature) → length (map feed fs) ≡ length fs
length-fed [] = refl
length-fed (f ∷ fs) = ap (λ n. suc n) (length-fed fs)

fed-structure : (es : List ((s : Signature) × Feeds s)) → Feeds (Structure (map (λ e. e.0) es))
fed-structure es =
    let fs : List Signature = map (λ e. e.0) es in
    fed_structure fs ∙ ap (λ x. isize (pos 17) ++ (usize (length fs) ++ x)) (flat-all es)
    ∙ ap (λ n. isize (pos 17) ++ (usize n ++ flat_map (λ inner. inner) (map feed fs))) (sym (length-fed fs))
    ∙ sym (feed_layer (Signature-F.Structure fs) (Structure fs) (rolls-Structure fs))

fed-layer : (y : Signature-F ((s : Signature) × Feeds s)) → Feeds (roll-Signature (map-Signature ((s : Signature) × Feeds s) Signature (λ e. e.0) y))
unfolding out-Signature roll-Signature denote.Hole.Carrier.out denote.Hole.Carrier.roll
fed-layer Signature-F.Unit = L.is Unit Unit ∙ sym (feed_layer Signature-F.Unit Unit refl)
fed-layer Signature-F.U8 = L.is U8 U8 ∙ sym (feed_layer Signature-F.U8 U8 refl)
fed-layer Signature-F.Bool = L.is Boolean Boolean ∙ sym (feed_layer Signature-F.Bool Boolean refl)
fed-layer Signature-F.I16 = L.is I16 I16 ∙ sym (feed_layer Signature-F.I16 I16 refl)
fed-layer Signature-F.U16 = L.is U16 U16 ∙ sym (feed_layer Signature-F.U16 U16 refl)
fed-layer Signature-F.I32 = L.is I32 I32 ∙ sym (feed_layer Signature-F.I32 I32 refl)
fed-layer Signature-F.U32 = L.is U32 U32 ∙ sym (feed_layer Signature-F.U32 U32 refl)
fed-layer Signature-F.I64 = L.is I64 I64 ∙ sym (feed_layer Signature-F.I64 I64 refl)
fed-layer Signature-F.U64 = L.is U64 U64 ∙ sym (feed_layer Signature-F.U64 U64 refl)
fed-layer Signature-F.F64 = L.is F64 F64 ∙ sym (feed_layer Signature-F.F64 F64 refl)
fed-layer Signature-F.Str = L.is Str Str ∙ sym (feed_layer Signature-F.Str Str refl)
fed-layer Signature-F.Signature = L.is Sig Sig ∙ sym (feed_layer Signature-F.Signature Sig refl)
fed-layer Signature-F.ObjectPath = L.is ObjectPath ObjectPath ∙ sym (feed_layer Signature-F.ObjectPath ObjectPath refl)
fed-layer Signature-F.Variant = L.is Variant Variant ∙ sym (feed_layer Signature-F.Variant Variant refl)
fed-layer Signature-F.Fd = L.is Fd Fd ∙ sym (feed_layer Signature-F.Fd Fd refl)
fed-layer (Signature-F.Array e) = subst Feeds (sym (rolls-Array e.0)) (fed-array e.0 e.1)
fed-layer (Signature-F.Dict k v) = subst Feeds (sym (rolls-Dict k.0 v.0)) (fed-dict k.0 v.0 k.1 v.1)
fed-layer (Signature-F.Structure es) = subst Feeds (sym (rolls-Structure (map (λ e. e.0) es))) (fed-structure es)

-- the derived hash feeds what the definition says
pub hash_input-feed : (s : Signature) → (H.ghosts).hash_input s ≡ feed s
hash_input-feed = ind-Signature Feeds (λ x y is. subst (λ z. Feeds (roll-Signature z)) is (fed-layer y))
