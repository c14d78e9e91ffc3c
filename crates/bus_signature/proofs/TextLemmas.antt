-- The text of each former, and the texts of a list cut in two.
use Rattle.std.proofs.Common.{◌≡◌, ℕ, ◌+◌, ◌<◌, ◌≤◌, zero, suc, List, [], ◌∷◌, ◌++◌, length, get_or, take, map, sym, ap, ◌∙◌, append_assoc, arith}
use Rattle.std.specs.Prelude.{codes}
use Rattle.std.specs.List.{concat}
use Rattle.std.proofs.lemmas.List.{take_more, take_all, map_push, append-nil, length-append}
use Rattle.bus_signature.specs.declared.signature.Signature.{Signature}
use Rattle.bus_signature.specs.declared.signature.Signature.TheOpen.{Signature-F}
use Rattle.bus_signature.specs.declared.signature.Signature.TheFolds.{fold-roll-Signature}
use Rattle.bus_signature.specs.declared.signature.Signature.TheVariants.{Array, Dict, Structure, rolls-Array, rolls-Dict, rolls-Structure}
use Rattle.bus_signature.specs.Texts.{text, texts, text_step}

pub text_array : (s : Signature) → text (Array s) ≡ codes "a" ++ text s
text_array s = ap text (sym (rolls-Array s)) ∙ fold-roll-Signature (List ℕ) text_step (Signature-F.Array s)

pub text_dict : (k v : Signature) → text (Dict k v) ≡ codes "a{" ++ text k ++ text v ++ codes "}"
text_dict k v = ap text (sym (rolls-Dict k v)) ∙ fold-roll-Signature (List ℕ) text_step (Signature-F.Dict k v)

pub text_structure : (fs : List Signature) → text (Structure fs) ≡ codes "(" ++ texts fs ++ codes ")"
text_structure fs = ap text (sym (rolls-Structure fs)) ∙ fold-roll-Signature (List ℕ) text_step (Signature-F.Structure fs)

pub ruleset texts_rules = (text_array, text_dict, text_structure, append_assoc)

concat_push : (xs : List (List ℕ)) (x : List ℕ) → concat (xs ++ x ∷ []) ≡ concat xs ++ x
concat_push [] x = append-nil x
concat_push (y ∷ xs) x = ap (λ (r : List ℕ). y ++ r) (concat_push xs x) ∙ sym (append_assoc y (concat xs) x)

-- one more of a list's signatures
pub texts_more : (xs : List Signature) (i : ℕ) (x : Signature) → i < length xs → x ≡ get_or xs i x → texts (take i xs) ++ text x ≡ texts (take (i + 1) xs)
texts_more xs i x within is =
    sym (concat_push (map text (take i xs)) (text x)) ∙ ap concat
    (sym (map_push text (take i xs) x) ∙ ap (map text) (ap (λ (y : Signature). take i xs ++ y ∷ []) is ∙ sym (take_more xs i x within)))

pub fields_more : (front : List ℕ) (xs : List Signature) (i : ℕ) (x : Signature) → i < length xs → x ≡ get_or xs i x
    → (front ++ texts (take i xs)) ++ text x ≡ front ++ texts (take (i + 1) xs)
fields_more front xs i x within is = append_assoc front (texts (take i xs)) (text x) ∙ ap (λ (r : List ℕ). front ++ r) (texts_more xs i x within is)

-- all of them
pub texts_all : (xs : List Signature) (i : ℕ) → length xs ≤ i → texts (take i xs) ≡ texts xs
texts_all xs i past = ap texts (take_all i xs past)

-- those before a place, the one there and the others
pub texts_at : (xs : List Signature) (i : ℕ) (x : Signature) → i < length xs → x ≡ get_or xs i x → (more : List ℕ) × (texts xs ≡ texts (take i xs) ++ (text x ++ more))
texts_at [] i x within is = absurd (omega (arith, within))
texts_at (y ∷ ys) zero x within is = (texts ys, ap (λ (s : Signature). text s ++ texts ys) (sym is))
texts_at (y ∷ ys) (suc i) x within is =
    let others = texts_at ys i x (omega (arith, within)) is in
    (others.0, ap (λ (r : List ℕ). text y ++ r) others.1 ∙ sym (append_assoc (text y) (texts (take i ys)) (text x ++ others.0)))

pub part_length : (xs : List Signature) (i : ℕ) (x : Signature) → i < length xs → x ≡ get_or xs i x → length (texts (take i xs)) + length (text x) ≤ length (texts xs)
part_length xs i x within is =
    let cut = texts_at xs i x within is in
    let whole : length (texts xs) ≡ length (texts (take i xs)) + (length (text x) + length cut.0)
    = ap (λ (r : List ℕ). length r) cut.1 ∙ length-append (texts (take i xs)) (text x ++ cut.0) ∙ ap (λ (n : ℕ). length (texts (take i xs)) + n) (length-append (text x) cut.0) in
    omega (arith, whole)
