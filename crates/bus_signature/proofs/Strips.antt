-- Taking a text off the front of bytes, a piece at a time.
use Rattle.std.proofs.Common.{◌≡◌, ℕ, ◌+◌, ◌<◌, true, false, List, [], ◌++◌, length, get_or, take, drop, Option, Some, None, sym, ap, ◌∙◌, subst, ◌⊎◌, inl, inr, append_assoc}
use Rattle.std.specs.Prelude.{MatchOption, nat_eq, codes}
use Rattle.std.specs.Borrow.{Bor}
use Rattle.std.specs.Cmp.Lexicographic.{pointwise, same_text, other_text}
use Rattle.std.proofs.lemmas.List.{append-nil, append_cancel_left, take-append-drop}
use Rattle.std.proofs.Math.Seq.{take-append_seam}
use Rattle.bus_signature.specs.declared.signature.Signature.{Signature}
use Rattle.bus_signature.specs.Texts.{text, texts}
use Rattle.bus_signature.specs.Comparing.{Stripped, AtEnd}
use Rattle.bus_signature.specs.declared.signature.Signature.TheVariants.{Dict, Structure}
use Rattle.bus_signature.proofs.TextLemmas.{texts_at, text_dict, text_structure}

pub strips_front : (a b bytes : List ℕ) → Stripped a bytes None → Stripped (a ++ b) bytes None
strips_front a b bytes none = λ rest is. none (b ++ rest) (is ∙ append_assoc a b rest)

pub strips_on : (a b bytes behind : List ℕ) (o : Option (Bor (List ℕ))) → bytes ≡ a ++ behind → Stripped b behind o → Stripped (a ++ b) bytes o
strips_on a b bytes behind (Some rest) first is = first ∙ ap (λ (r : List ℕ). a ++ r) is ∙ sym (append_assoc a b rest.now)
strips_on a b bytes behind None first none = λ rest is. none rest (append_cancel_left a behind (b ++ rest) (sym first ∙ is ∙ append_assoc a b rest))

pub strips_not_at : (xs : List Signature) (i : ℕ) (x : Signature) (bytes behind : List ℕ) → i < length xs → x ≡ get_or xs i x
    → bytes ≡ texts (take i xs) ++ behind → Stripped (text x) behind None → Stripped (texts xs) bytes None
strips_not_at xs i x bytes behind within is first none = λ rest it.
    let cut = texts_at xs i x within is in
    none (cut.0 ++ rest)
    (append_cancel_left (texts (take i xs)) behind (text x ++ (cut.0 ++ rest))
    (sym first ∙ it ∙ ap (λ (r : List ℕ). r ++ rest) cut.1 ∙ append_assoc (texts (take i xs)) (text x ++ cut.0) rest ∙ ap (λ (r : List ℕ). texts (take i xs) ++ r) (append_assoc (text x) cut.0 rest)))

pub strips_piece : (piece bytes : List ℕ) (o : Option (Bor (List ℕ)))
    → MatchOption o (pointwise nat_eq (take (length piece) bytes) piece ≡ false)
    (λ x. (pointwise nat_eq (take (length piece) bytes) piece ≡ true) × (x.now ≡ drop (length piece) bytes) × (length x.now + length piece ≡ length bytes))
    → Stripped piece bytes o
strips_piece piece bytes (Some rest) found =
    sym (take-append-drop (length piece) bytes) ∙ ap (λ (r : List ℕ). r ++ drop (length piece) bytes) (same_text (take (length piece) bytes) piece (sym found.0)) ∙ ap (λ (r : List ℕ). piece ++ r)
    (sym found.1)
strips_piece piece bytes None other = λ rest is. other_text (take (length piece) bytes) piece (sym other) (ap (take (length piece)) is ∙ take-append_seam piece rest)

pub behind : (a b bytes first second : List ℕ) → bytes ≡ a ++ first → first ≡ b ++ second → bytes ≡ (a ++ b) ++ second
behind a b bytes first second is it = is ∙ ap (λ (r : List ℕ). a ++ r) it ∙ sym (append_assoc a b second)

as_text : (s t : Signature) (written bytes : List ℕ) (o : Option (Bor (List ℕ))) → s ≡ t → text t ≡ written → Stripped written bytes o → Stripped (text s) bytes o
as_text s t written bytes o is printed = subst (λ (r : List ℕ). Stripped r bytes o) (sym (ap text is ∙ printed))

pub strips_no_value : (s k v : Signature) (bytes key value : List ℕ) → s ≡ Dict k v → bytes ≡ codes "a{" ++ key → key ≡ text k ++ value → Stripped (text v) value None → Stripped (text s) bytes None
strips_no_value s k v bytes key value is first keyed none =
    as_text s (Dict k v) (codes "a{" ++ text k ++ text v ++ codes "}") bytes None is (text_dict k v)
    (strips_front (codes "a{" ++ text k ++ text v) (codes "}") bytes (strips_on (codes "a{" ++ text k) (text v) bytes value None (behind (codes "a{") (text k) bytes key value first keyed) none))

pub strips_dict : (s k v : Signature) (bytes key value end : List ℕ) (o : Option (Bor (List ℕ))) → s ≡ Dict k v → bytes ≡ codes "a{" ++ key → key ≡ text k ++ value → value ≡ text v ++ end
    → Stripped (codes "}") end o → Stripped (text s) bytes o
strips_dict s k v bytes key value end o is first keyed valued last =
    as_text s (Dict k v) (codes "a{" ++ text k ++ text v ++ codes "}") bytes o is (text_dict k v)
    (strips_on (codes "a{" ++ text k ++ text v) (codes "}") bytes end o (behind (codes "a{" ++ text k) (text v) bytes value end (behind (codes "a{") (text k) bytes key value first keyed) valued) last)

pub strips_no_fields : (s : Signature) (fs : List Signature) (bytes fields : List ℕ) → s ≡ Structure fs → bytes ≡ codes "(" ++ fields → Stripped (texts fs) fields None → Stripped (text s) bytes None
strips_no_fields s fs bytes fields is first none =
    as_text s (Structure fs) (codes "(" ++ texts fs ++ codes ")") bytes None is (text_structure fs)
    (strips_front (codes "(" ++ texts fs) (codes ")") bytes (strips_on (codes "(") (texts fs) bytes fields None first none))

pub strips_structure : (s : Signature) (fs : List Signature) (bytes fields end : List ℕ) (o : Option (Bor (List ℕ))) → s ≡ Structure fs → bytes ≡ codes "(" ++ fields → fields ≡ texts fs ++ end
    → Stripped (codes ")") end o → Stripped (text s) bytes o
strips_structure s fs bytes fields end o is first all last =
    as_text s (Structure fs) (codes "(" ++ texts fs ++ codes ")") bytes o is (text_structure fs)
    (strips_on (codes "(" ++ texts fs) (codes ")") bytes end o (behind (codes "(") (texts fs) bytes fields end first all) last)

pub end_of_text : (front bytes : List ℕ) (o : Option (Bor (List ℕ))) → Stripped front bytes o → AtEnd o → bytes ≡ front
end_of_text front bytes (Some rest) is end = is ∙ ap (λ (r : List ℕ). front ++ r) end ∙ append-nil front
end_of_text front bytes None none end = absurd end

pub text_to_end : (front bytes : List ℕ) (o : Option (Bor (List ℕ))) → Stripped front bytes o → bytes ≡ front → AtEnd o
text_to_end front bytes (Some rest) is whole = append_cancel_left front rest.now [] (sym is ∙ whole ∙ sym (append-nil front))
text_to_end front bytes None none whole = none [] (whole ∙ sym (append-nil front))

pub second_form : {A B C : Type 0} → (A → ⊥) → (B → C) → A ⊎ B → C
second_form never it (inl a) = absurd (never a)
second_form never it (inr b) = it b
