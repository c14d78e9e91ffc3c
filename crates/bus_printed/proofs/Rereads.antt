-- Each word says what it was written of.
use Rattle.std.proofs.Common.{◌≡◌, ℕ, suc, ◌/◌, ◌%◌, ◌^◌, ◌<◌, ◌≤◌, Bool, true, false, not, List, [], ◌∷◌, map, length}
use Rattle.std.proofs.Common.{Option, Some, None, Result, Ok, refl, sym, ◌∙◌, ap, arith, nat_lt, ◌&&◌, ◌==◌, codes}
use Rattle.std.specs.List.{list_all, All, slice_index}
use Rattle.std.specs.Char.{is_ascii_digit}
use Rattle.std.specs.Str.{all_ascii_digits, bytes_eq}
use Rattle.std.specs.Str.Parse.{digits_value}
use Rattle.std.specs.Fmt.{decimal}
use Rattle.std.proofs.lemmas.Fmt.{decimal_is_IsNumeral, digits_decimal}
use Rattle.std.proofs.lemmas.Str.Parse.{numerals_by_value, tells_all_ascii_digits, IsNumeralModel}
use Rattle.std.proofs.lemmas.List.Elements.{All-head, All-tail}
use Rattle.std.proofs.lemmas.List.Sums.{AllPass-from_list_all}
use Rattle.std.proofs.lemmas.Slice.Eq.{bytes_eq-Decides}
use Rattle.hex.specs.Hex.{IsBytes, encode_lower, encode_with, lower_digits}
use Rattle.hex.proofs.HexLemmas.{decode_of-encode_lower}
use Rattle.bus_address.specs.Guid.{is_lower_hexdigit}
use Rattle.bus_script.specs.Words.{◌is◌, number, flag, optional, bytes}
use Rattle.bus_script.specs.Printed.{bytes_word, flag_word, number_word, optional_word}
use Rattle.bus_script.specs.declared.line.Reason.{Reason}
use Rattle.bus_printed.specs.Fits.{FitsWhereThere, FitsMoment}
use Rattle.bus_printed.proofs.Cuts.{lacks, weaker, itself}
use Rattle.bus_printed.proofs.Readers.{each_of}

-- ---- the bytes of words

-- neither a space nor a line feed
abbrev pub graphic : List ℕ → Bool
graphic word = list_all (λ c. nat_lt 32 c) word

lower_digit : (d : ℕ) → d < 16 → is_lower_hexdigit (slice_index lower_digits d) ≡ true
lower_digit d below = AllPass-from_list_all is_lower_hexdigit lower_digits refl d 0 below

pub hex_digits : (bs : List ℕ) → IsBytes bs → list_all is_lower_hexdigit (encode_lower bs) ≡ true
unfolding encode_with
hex_digits [] h = refl
hex_digits (b ∷ bs) h =
    let fits : b < 256 = h 0 in
    let high = lower_digit (b / 16) (omega arith) in
    let low = lower_digit (b % 16) (omega arith) in
    rw (high, low) (hex_digits bs (λ k. h (suc k)))

own : IsNumeralModel (λ ds. all_ascii_digits ds ≡ true) (digits_value 10)
own = numerals_by_value (λ ds. all_ascii_digits ds ≡ true) tells_all_ascii_digits

as_list_all : (ds : List ℕ) → all_ascii_digits ds ≡ list_all is_ascii_digit ds
as_list_all [] = refl
as_list_all (d ∷ ds) = ap (λ v. is_ascii_digit d && v) (as_list_all ds)

decimal_digits : (n : ℕ) → n < 2 ^ 64 → list_all is_ascii_digit (decimal n) ≡ true
decimal_digits n small = sym (as_list_all (decimal n)) ∙ digits_decimal own n small

-- what holds of each digit of a number, or of each hexadecimal digit, holds of the bytes of its text
pub decimal_passes : (p : ℕ → Bool) → ((c : ℕ) → is_ascii_digit c ≡ true → p c ≡ true) → (n : ℕ) → n < 2 ^ 64 →
    list_all p (decimal n) ≡ true
decimal_passes p each n small = weaker is_ascii_digit p each (decimal n) (decimal_digits n small)

digit_graphic : (c : ℕ) → is_ascii_digit c ≡ true → nat_lt 32 c ≡ true
digit_graphic c h = grind arith

digit_no_dash : (c : ℕ) → is_ascii_digit c ≡ true → not (c == 45) ≡ true
digit_no_dash c h = grind arith

digit_no_equals : (c : ℕ) → is_ascii_digit c ≡ true → not (c == 61) ≡ true
digit_no_equals c h = grind arith

hex_graphic : (c : ℕ) → is_lower_hexdigit c ≡ true → nat_lt 32 c ≡ true
hex_graphic c h = grind arith

hex_no_dash : (c : ℕ) → is_lower_hexdigit c ≡ true → not (c == 45) ≡ true
hex_no_dash c h = grind arith

hex_no_colon : (c : ℕ) → is_lower_hexdigit c ≡ true → not (c == 58) ≡ true
hex_no_colon c h = grind arith

pub graphic_decimal : (n : ℕ) → n < 2 ^ 64 → graphic (decimal n) ≡ true
graphic_decimal n small = decimal_passes (λ c. nat_lt 32 c) digit_graphic n small

pub dashless_decimal : (n : ℕ) → n < 2 ^ 64 → lacks 45 (decimal n) ≡ true
dashless_decimal n small = decimal_passes (λ c. not (c == 45)) digit_no_dash n small

pub lacks_equals : (n : ℕ) → n < 2 ^ 64 → lacks 61 (decimal n) ≡ true
lacks_equals n small = decimal_passes (λ c. not (c == 61)) digit_no_equals n small

pub graphic_hex : (text : List ℕ) → list_all is_lower_hexdigit text ≡ true → graphic text ≡ true
graphic_hex text h = weaker is_lower_hexdigit (λ c. nat_lt 32 c) hex_graphic text h

pub dashless_hex : (text : List ℕ) → list_all is_lower_hexdigit text ≡ true → lacks 45 text ≡ true
dashless_hex text h = weaker is_lower_hexdigit (λ c. not (c == 45)) hex_no_dash text h

pub colonless_hex : (text : List ℕ) → list_all is_lower_hexdigit text ≡ true → lacks 58 text ≡ true
colonless_hex text h = weaker is_lower_hexdigit (λ c. not (c == 58)) hex_no_colon text h

pub graphic_bytes : (bs : List ℕ) → IsBytes bs → graphic (bytes_word bs) ≡ true
graphic_bytes [] h = refl
graphic_bytes (b ∷ bs) h = graphic_hex (encode_lower (b ∷ bs)) (hex_digits (b ∷ bs) h)

pub graphic_number : (o : Option ℕ) → FitsMoment o → graphic (number_word o) ≡ true
graphic_number None h = refl
graphic_number (Some n) h = graphic_decimal n h

pub graphic_optional : (o : Option (List ℕ)) → FitsWhereThere IsBytes o → graphic (optional_word o) ≡ true
graphic_optional None h = refl
graphic_optional (Some bs) h = graphic_bytes bs h

pub graphic_flag : (b : Bool) → graphic (flag_word b) ≡ true
graphic_flag true = refl
graphic_flag false = refl

-- ---- what words say

pub number_read : (limit n : ℕ) → n < limit → limit ≤ 2 ^ 64 → number limit (decimal n) ≡ Ok n
number_read limit n below small =
    let value : digits_value 10 (decimal n) ≡ n = (decimal_is_IsNumeral n (omega arith)).1 in
    let test : nat_lt n limit ≡ true = grind arith in
    let same : bytes_eq (decimal n) (decimal n) ≡ true = (bytes_eq-Decides (decimal n) (decimal n)).1 refl in
    rw (value, test, same) refl

is_not : (word text : List ℕ) → (word ≡ text → ⊥) → (word is text) ≡ false
is_not word text other = decided (word is text) refl
  where
    decided : (b : Bool) → (word is text) ≡ b → b ≡ false
    decided true e = absurd (other ((bytes_eq-Decides word text).0 e))
    decided false e = refl

two_long : (x y c : ℕ) (xs : List ℕ) → ((x ∷ y ∷ xs) is (c ∷ [])) ≡ false
two_long x y c xs = is_not (x ∷ y ∷ xs) (c ∷ []) (λ e. omega (arith, ap length e))

some_digits : (c : ℕ) (cs : List ℕ) →
    (x : ℕ) × (y : ℕ) × (xs : List ℕ) × (encode_lower (c ∷ cs) ≡ x ∷ y ∷ xs)
unfolding encode_with
some_digits c cs = (slice_index lower_digits (c / 16), slice_index lower_digits (c % 16), encode_lower cs, refl)

-- the digits of a byte are two, so they are no word of one byte
pub not_one : (c k : ℕ) (cs : List ℕ) → (encode_lower (c ∷ cs) is (k ∷ [])) ≡ false
not_one c k cs = let shape = some_digits c cs in rw shape.3 (two_long shape.0 shape.1 k shape.2)

not_empty : (c : ℕ) (cs : List ℕ) → (length (encode_lower (c ∷ cs)) == 0) ≡ false
not_empty c cs = let shape = some_digits c cs in rw shape.3 (two_more (length shape.2))
  where
    two_more : (n : ℕ) → (suc (suc n) == 0) ≡ false
    two_more n = grind arith

pub bytes_read : (bs : List ℕ) → IsBytes bs → bytes (bytes_word bs) ≡ Ok bs
bytes_read [] h = refl
bytes_read (b ∷ bs) h = rw (not_one b 46 bs, not_empty b bs, decode_of-encode_lower (b ∷ bs) h) refl

pub flag_read : (b : Bool) → flag (flag_word b) ≡ Ok b
flag_read true = refl
flag_read false = refl

pub not_word_of : (c : ℕ) (word : List ℕ) → lacks c word ≡ true → (word is (c ∷ [])) ≡ false
not_word_of c word h = is_not word (c ∷ []) (λ e. both (rw (e, itself c) at h))
  where
    both : false ≡ true → ⊥
    both e = cc

pub moment_read : (o : Option ℕ) → FitsMoment o → optional (number (2 ^ 64)) (number_word o) ≡ Ok o
moment_read None h = refl
moment_read (Some n) h =
    rw (not_word_of 45 (decimal n) (dashless_decimal n h), number_read (2 ^ 64) n h (omega arith)) refl

not_dash : (bs : List ℕ) → (bytes_word bs is codes "-") ≡ false
not_dash [] = refl
not_dash (b ∷ bs) = not_one b 45 bs

pub optional_read : (o : Option (List ℕ)) → FitsWhereThere IsBytes o → optional bytes (optional_word o) ≡ Ok o
optional_read None h = refl
optional_read (Some bs) h = rw (not_dash bs, bytes_read bs h) refl

pub each_read : {X : Type 0} (P : X → Type 0) (f : X → List ℕ) (read : List ℕ → Result X Reason) →
    ((x : X) → P x → read (f x) ≡ Ok x) → (xs : List X) → All P xs → each_of read (map f xs) ≡ Ok xs
unfolding each_of
each_read P f read each [] h = refl
each_read P f read each (x ∷ xs) h =
    rw (each x (All-head P x xs h), each_read P f read each xs (All-tail P x xs h)) refl
