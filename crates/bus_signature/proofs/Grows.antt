-- A string that grew by ASCII bytes, and the way back.
use Rattle.std.proofs.Common.{◌≡◌, ℕ, List, [], ◌∷◌, ◌++◌, map, Result, Ok, Err, sym, ap, ◌∙◌, append_assoc, arith}
use Rattle.std.proofs.lemmas.List.{append-nil}
use Rattle.std.specs.Prelude.{OnErr, codes}
use Rattle.bus_signature.specs.declared.signature.Signature.{Signature}
use Rattle.bus_signature.specs.declared.signature.Signature.TheVariants.{Unit, Array, Dict, Structure}
use Rattle.bus_signature.specs.Texts.{text, texts}
use Rattle.bus_signature.specs.Appending.{IsAscii, Grew}
use Rattle.bus_signature.proofs.Cases.{induct, text_unit}
use Rattle.bus_signature.proofs.TextLemmas.{text_array, text_dict, text_structure}

pub ascii_append : (a b : List ℕ) → IsAscii a → IsAscii b → IsAscii (a ++ b)
ascii_append [] b p q = q
ascii_append (x ∷ a) b p q = (p.0, ascii_append a b p.1 q)

pub grew_none : (old new : List ℕ) → new ≡ old → Grew old new
grew_none old new is = record { more = []; ascii = tt; is = is ∙ sym (append-nil old) }

pub grew_on : (old piece between new : List ℕ) → IsAscii piece → between ≡ old ++ piece → Grew between new → Grew old new
grew_on old piece between new ascii first it = record {
  more = piece ++ it.more;
  ascii = ascii_append piece it.more ascii it.ascii;
  is = it.is ∙ ap (λ (r : List ℕ). r ++ it.more) first ∙ append_assoc old piece it.more;
}

-- the texts are ASCII
abbrev HasAscii : Signature → Type 0
HasAscii s = IsAscii (text s)

pub a_ascii : IsAscii (codes "a")
a_ascii = (omega arith, tt)

pub dict_ascii : IsAscii (codes "a{")
dict_ascii = (omega arith, (omega arith, tt))

pub brace_ascii : IsAscii (codes "}")
brace_ascii = (omega arith, tt)

pub open_ascii : IsAscii (codes "(")
open_ascii = (omega arith, tt)

pub close_ascii : IsAscii (codes ")")
close_ascii = (omega arith, tt)

by_equal : (a b : List ℕ) → a ≡ b → IsAscii b → IsAscii a
by_equal a b is ascii = rw is ascii

ascii_list : (es : List ((s : Signature) × HasAscii s)) → IsAscii (texts (map (λ e. e.0) es))
ascii_list [] = tt
ascii_list (e ∷ es) = ascii_append (text e.0) (texts (map (λ e. e.0) es)) e.1 (ascii_list es)

pub text_ascii : (s : Signature) → HasAscii s
text_ascii = induct HasAscii
    (by_equal (text Unit) [] text_unit tt)
    (λ c s is. by_equal (text s) (c ∷ []) is.text (is.ascii, tt))
    (λ s ih. by_equal (text (Array s)) (codes "a" ++ text s) (text_array s) (ascii_append (codes "a") (text s) a_ascii ih))
    (λ k v ihk ihv. by_equal (text (Dict k v)) (codes "a{" ++ text k ++ text v ++ codes "}") (text_dict k v)
    (ascii_append (codes "a{" ++ text k ++ text v) (codes "}") (ascii_append (codes "a{" ++ text k) (text v) (ascii_append (codes "a{") (text k) dict_ascii ihk) ihv) brace_ascii))
    (λ es. by_equal (text (Structure (map (λ e. e.0) es))) (codes "(" ++ texts (map (λ e. e.0) es) ++ codes ")") (text_structure (map (λ e. e.0) es))
    (ascii_append (codes "(" ++ texts (map (λ e. e.0) es)) (codes ")") (ascii_append (codes "(") (texts (map (λ e. e.0) es)) open_ascii (ascii_list es)) close_ascii))

pub texts_ascii : (xs : List Signature) → IsAscii (texts xs)
texts_ascii [] = tt
texts_ascii (x ∷ xs) = ascii_append (text x) (texts xs) (text_ascii x) (texts_ascii xs)

pub on_err : {T E P : Type 0} (r : Result T E) → P → OnErr r P
on_err (Ok x) p = tt
on_err (Err e) p = p
