-- Texts that are read escape by escape.
use Rattle.std.proofs.Common.{◌≡◌, ℕ, zero, suc, IsAscii, subst, ◌+◌, ◌*◌, ◌/◌, ◌%◌, ◌<◌, Bool, true}
use Rattle.std.proofs.Common.{false, ◌&&◌, List, [], ◌∷◌, ◌++◌, take, drop, get_or, Option, Some}
use Rattle.std.proofs.Common.{None, refl, sym, ap, ◌∙◌, arith, append_assoc, length, length-set, set}
use Rattle.std.specs.Char.{is_ascii_hexdigit, digit_value, digit_char}
use Rattle.std.specs.List.{list_all, AllByRecursion}
use Rattle.std.specs.Str.{IsUtf8}
use Rattle.std.proofs.lemmas.Str.{IsUtf8-from_ascii}
use Rattle.std.proofs.lemmas.Str.Ascii.{IsAscii-from_all}
use Rattle.std.proofs.lemmas.List.Elements.{All-from_recursion}
use Rattle.std.proofs.lemmas.Bool.Decides.{nat_tests}
use Rattle.std.proofs.lemmas.Grind.{take-set_at, take_at_read, flat_map-append}
use Rattle.std.proofs.lemmas.List.{append-nil, take-append-drop}
use Rattle.std.proofs.lemmas.Str.{digit_value-digit_char}
use Rattle.bus_address.specs.Escapes.{is_plain, escape, escaped, unescaped, with_first, with_front}
use Rattle.bus_address.proofs.Choices.{both, together, chosen, other}

pub with_front-nil : (o : Option (List ℕ)) → with_front [] o ≡ o
with_front-nil None = refl
with_front-nil (Some cs) = refl

pub with_front-push : (bs : List ℕ) (b : ℕ) (o : Option (List ℕ)) → with_front (bs ++ b ∷ []) o ≡ with_front bs (with_first b o)
with_front-push bs b None = refl
with_front-push bs b (Some cs) = ap Some (append_assoc bs (b ∷ []) cs)

pub with_front-end : (bs : List ℕ) → with_front bs (Some []) ≡ Some bs
with_front-end bs = ap Some (append-nil bs)

-- one byte more is read
pub read_more : (text rest others behind bs new : List ℕ) (first b : ℕ)
    → with_front bs (unescaped rest) ≡ unescaped text → rest ≡ first ∷ others
    → unescaped (first ∷ others) ≡ with_first b (unescaped behind) → new ≡ bs ++ b ∷ []
    → with_front new (unescaped behind) ≡ unescaped text
read_more text rest others behind bs new first b sofar at first_is pushed =
    ap (λ v. with_front v (unescaped behind)) pushed ∙ with_front-push bs b (unescaped behind) ∙ ap (with_front bs) (sym first_is) ∙ ap (λ v. with_front bs (unescaped v)) (sym at) ∙ sofar

pub escape_plain : (b : ℕ) → is_plain b ≡ true → escape b ≡ b ∷ []
escape_plain b e = chosen (is_plain b) _ _ e

-- a byte that stands for itself is read as it is
pub unescaped-plain : (c : ℕ) (cs : List ℕ) → is_plain c ≡ true → unescaped (c ∷ cs) ≡ with_first c (unescaped cs)
unescaped-plain c [] e = chosen (is_plain c) _ _ e
unescaped-plain c (h ∷ []) e = chosen (is_plain c) _ _ e
unescaped-plain c (h ∷ l ∷ rest) e = chosen (is_plain c) _ _ e

digit_is_hex : (d : ℕ) → d < 16 → is_ascii_hexdigit (digit_char d) ≡ true
digit_is_hex d below = grind (arith, nat_tests)

digit_reads : (d : ℕ) → d < 16 → digit_value (digit_char d) ≡ d
digit_reads d below = digit_value-digit_char d (omega arith)

-- an escape is read
unescaped-digits : (h l : ℕ) (cs : List ℕ) → h < 16 → l < 16 → unescaped (37 ∷ digit_char h ∷ digit_char l ∷ cs) ≡ with_first (16 * h + l) (unescaped cs)
unescaped-digits h l cs hs ls =
    chosen (is_ascii_hexdigit (digit_char h) && is_ascii_hexdigit (digit_char l)) _ _ (together _ _ (digit_is_hex h hs) (digit_is_hex l ls))
    ∙ ap (λ v. with_first v (unescaped cs)) (rw (digit_reads h hs, digit_reads l ls) refl)

unescaped-escape_by : (p : Bool) (b : ℕ) (cs : List ℕ) → is_plain b ≡ p → b < 256 → unescaped (escape b ++ cs) ≡ with_first b (unescaped cs)
unescaped-escape_by true b cs e small = ap (λ v. unescaped (v ++ cs)) (escape_plain b e) ∙ unescaped-plain b cs e
unescaped-escape_by false b cs e small =
    ap (λ v. unescaped (v ++ cs)) (other (is_plain b) _ _ e)
    ∙ unescaped-digits (b / 16) (b % 16) cs (omega arith) (omega arith)
    ∙ ap (λ v. with_first v (unescaped cs)) (omega arith)

-- what is written of a byte is read as that byte
pub unescaped-escape : (b : ℕ) (cs : List ℕ) → b < 256 → unescaped (escape b ++ cs) ≡ with_first b (unescaped cs)
unescaped-escape b cs small = unescaped-escape_by (is_plain b) b cs refl small

-- what is written of bytes is read back
pub unescaped-escaped : (bytes : List ℕ) → ((i : ℕ) → get_or bytes i 0 < 256) → unescaped (escaped bytes) ≡ Some bytes
unescaped-escaped [] small = refl
unescaped-escaped (b ∷ bs) small =
    unescaped-escape b (escaped bs) (small 0) ∙ ap (with_first b) (unescaped-escaped bs (λ i. small (suc i)))

-- what is written of a byte that does not stand for itself
pub escape_hex : (b : ℕ) → is_plain b ≡ false → escape b ≡ 37 ∷ digit_char (b / 16) ∷ digit_char (b % 16) ∷ []
escape_hex b e = other (is_plain b) _ _ e

with_first-front : (b : ℕ) (bs : List ℕ) (o : Option (List ℕ)) → with_first b (with_front bs o) ≡ with_front (b ∷ bs) o
with_first-front b bs None = refl
with_first-front b bs (Some cs) = refl

-- a run of bytes that stand for themselves is read as it is
pub unescaped-plain_run : (run behind : List ℕ) → list_all is_plain run ≡ true → unescaped (run ++ behind) ≡ with_front run (unescaped behind)
unescaped-plain_run [] behind plain = sym (with_front-nil (unescaped behind))
unescaped-plain_run (b ∷ bs) behind plain =
    let parts = both (is_plain b) (list_all is_plain bs) plain in
    unescaped-plain b (bs ++ behind) parts.0 ∙ ap (with_first b) (unescaped-plain_run bs behind parts.1) ∙ with_first-front b bs (unescaped behind)

with_front-append : (xs ys : List ℕ) (o : Option (List ℕ)) → with_front (xs ++ ys) o ≡ with_front xs (with_front ys o)
with_front-append xs ys None = refl
with_front-append xs ys (Some cs) = ap Some (append_assoc xs ys cs)

-- a run more is read, behind its first byte
pub run_more : (first : ℕ) (rest run behind old one new : List ℕ) (n : ℕ) → is_plain first ≡ true
    → list_all is_plain (take n rest) ≡ true → run ≡ take n rest → behind ≡ drop n rest → one ≡ old ++ first ∷ []
    → new ≡ one ++ run → with_front new (unescaped behind) ≡ with_front old (unescaped (first ∷ rest))
run_more first rest run behind old one new n plain all run_is behind_is pushed added =
    let whole : rest ≡ take n rest ++ drop n rest = sym (take-append-drop n rest) in
    ap (λ v. with_front v (unescaped behind)) (added ∙ (λ i. pushed i ++ run_is i))
    ∙ ap (λ v. with_front ((old ++ first ∷ []) ++ take n rest) (unescaped v)) behind_is
    ∙ with_front-append (old ++ first ∷ []) (take n rest) (unescaped (drop n rest))
    ∙ ap (with_front (old ++ first ∷ [])) (sym (unescaped-plain_run (take n rest) (drop n rest) all) ∙ ap unescaped (sym whole))
    ∙ with_front-push old first (unescaped rest)
    ∙ ap (with_front old) (sym (unescaped-plain first rest plain))

-- an escape more is read
pub escape_more : (text behind old new : List ℕ) (byte : ℕ) → unescaped text ≡ with_first byte (unescaped behind)
    → new ≡ old ++ byte ∷ [] → with_front new (unescaped behind) ≡ with_front old (unescaped text)
escape_more text behind old new byte says pushed =
    ap (λ v. with_front v (unescaped behind)) pushed ∙ with_front-push old byte (unescaped behind) ∙ ap (with_front old) (sym says)

-- a run of bytes that stand for themselves is written as it is
pub escaped-plain : (run : List ℕ) → list_all is_plain run ≡ true → escaped run ≡ run
escaped-plain [] plain = refl
escaped-plain (b ∷ bs) plain =
    let parts = both (is_plain b) (list_all is_plain bs) plain in
    ap (λ v. v ++ escaped bs) (escape_plain b parts.0) ∙ ap (λ v. b ∷ v) (escaped-plain bs parts.1)

-- a piece more is written
pub piece_written : (done text rest behind all : List ℕ) (n : ℕ) → text ≡ escaped (take n rest) → behind ≡ drop n rest → done ++ escaped rest ≡ all → (done ++ text) ++ escaped behind ≡ all
piece_written done text rest behind all n text_is behind_is sofar =
    append_assoc done text (escaped behind)
    ∙ ap (λ v. done ++ v) ((λ i. text_is i ++ escaped (behind_is i)) ∙ sym (flat_map-append escape (take n rest) (drop n rest)) ∙ ap escaped (take-append-drop n rest))
    ∙ sofar

-- three bytes in a row are stored
pub three_stored : (old : List ℕ) (n x y z : ℕ) → n + 2 < length old → take (n + 3) (set (set (set old n x) (n + 1) y) (n + 2) z) ≡ take n old ++ x ∷ y ∷ z ∷ []
three_stored old n x y z inside =
    let one : List ℕ = set old n x in
    let two : List ℕ = set one (n + 1) y in
    let length_one : length one ≡ length old = length-set old n x in
    let length_two : length two ≡ length one = length-set one (n + 1) y in
    take-set_at two (n + 2) (n + 3) z (omega arith) (omega arith)
    ∙ ap (λ v. v ++ z ∷ []) (take-set_at one (n + 1) (n + 2) y (omega arith) (omega arith) ∙ ap (λ v. v ++ y ∷ []) (take-set_at old n (n + 1) x refl (omega arith)))
    ∙ append_assoc (take n old ++ x ∷ []) (y ∷ []) (z ∷ [])
    ∙ append_assoc (take n old) (x ∷ []) (y ∷ z ∷ [])

-- an escape more is stored
pub escape_stored : (bytes old : List ℕ) (i b x y : ℕ) → i < length bytes → b ≡ get_or bytes i 0 → is_plain b ≡ false
    → x ≡ digit_char (b / 16) → y ≡ digit_char (b % 16) → 3 * i + 2 < length old
    → take (3 * i) old ≡ escaped (take i bytes)
    → take (3 * (i + 1)) (set (set (set old (3 * i) 37) (3 * i + 1) x) (3 * i + 2) y) ≡ escaped (take (i + 1) bytes)
escape_stored bytes old i b x y inside at plain high low room sofar =
    let next : 3 * (i + 1) ≡ 3 * i + 3 = omega arith in
    ap (λ n. take n (set (set (set old (3 * i) 37) (3 * i + 1) x) (3 * i + 2) y)) next
    ∙ three_stored old (3 * i) 37 x y room
    ∙ (λ j. sofar j ++ 37 ∷ high j ∷ low j ∷ [])
    ∙ ap (λ v. escaped (take i bytes) ++ v) (sym (escape_hex b plain) ∙ sym (append-nil (escape b)))
    ∙ ap (λ v. escaped (take i bytes) ++ escaped (v ∷ [])) at
    ∙ sym (flat_map-append escape (take i bytes) (get_or bytes i 0 ∷ []))
    ∙ ap escaped (sym (take_at_read bytes i 0 inside).1)

plain_below : (b : ℕ) → is_plain b ≡ true → b < 128
plain_below b plain = grind (arith, nat_tests)

all_below : (bytes : List ℕ) → list_all is_plain bytes ≡ true → AllByRecursion (λ b. b < 128) bytes
all_below [] plain = tt
all_below (b ∷ bs) plain =
    let parts = both (is_plain b) (list_all is_plain bs) plain in
    (plain_below b parts.0, all_below bs parts.1)

-- bytes that stand for themselves are text
pub IsUtf8-plain : (bytes : List ℕ) → list_all is_plain bytes ≡ true → IsUtf8 bytes
IsUtf8-plain bytes plain = IsUtf8-from_ascii bytes (IsAscii-from_all bytes (All-from_recursion (λ b. b < 128) bytes (all_below bytes plain)))

digit_below : (d : ℕ) → d < 16 → digit_char d < 128
digit_below d small = grind (arith, nat_tests)

below_append : (xs ys : List ℕ) → AllByRecursion (λ b. b < 128) xs → AllByRecursion (λ b. b < 128) ys → AllByRecursion (λ b. b < 128) (xs ++ ys)
below_append [] ys hx hy = hy
below_append (x ∷ xs) ys hx hy = (hx.0, below_append xs ys hx.1 hy)

escape_below : (p : Bool) (b : ℕ) → is_plain b ≡ p → b < 256 → AllByRecursion (λ b. b < 128) (escape b)
escape_below true b plain small = subst (AllByRecursion (λ b. b < 128)) (sym (escape_plain b plain)) (plain_below b plain, tt)
escape_below false b plain small =
    subst (AllByRecursion (λ b. b < 128)) (sym (escape_hex b plain)) (omega arith, (digit_below (b / 16) (omega arith), (digit_below (b % 16) (omega arith), tt)))

escaped_below : (n : ℕ) (bytes : List ℕ) → ((i : ℕ) → get_or bytes i 0 < 256) → AllByRecursion (λ b. b < 128) (escaped (take n bytes))
escaped_below zero bytes small = tt
escaped_below (suc n) [] small = tt
escaped_below (suc n) (b ∷ bs) small = below_append (escape b) (escaped (take n bs)) (escape_below (is_plain b) b refl (small 0)) (escaped_below n bs (λ i. small (suc i)))

-- what is written is ASCII
pub IsAscii-escaped : (n : ℕ) (bytes : List ℕ) → ((i : ℕ) → get_or bytes i 0 < 256) → IsAscii (escaped (take n bytes))
IsAscii-escaped n bytes small = IsAscii-from_all (escaped (take n bytes)) (All-from_recursion (λ b. b < 128) (escaped (take n bytes)) (escaped_below n bytes small))
