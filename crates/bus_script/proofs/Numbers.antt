-- What is read as a number is what is written of it.
use Rattle.std.proofs.Common.{◌≡◌, ◌≢◌, ℕ, ◌^◌, ◌<◌, ◌≤◌, zero, suc, Bool, true, false, List, length, get_or, Some}
use Rattle.std.proofs.Common.{None, Result, Ok, Err, nat_lt, cond, ◌&&◌, refl, sym, ap, subst, arith, ◌⊎◌, inl, inr}
use Rattle.std.specs.Result.{result_ok}
use Rattle.std.specs.Str.{bytes_eq}
use Rattle.std.specs.Str.Parse.{digits_value, ParsesUnsigned, AllDigits}
use Rattle.std.specs.Fmt.{decimal}
use Rattle.std.proofs.lemmas.Fmt.{decimal_is_IsNumeral, decimal_nonempty, digits_decimal, first_decimal, decimal-digits_value, decimal_digit}
use Rattle.std.proofs.lemmas.Str.Parse.{numerals_by_value, tells_digits, parse_plain, IsNumeralModel, not_in_digits}
use Rattle.std.proofs.lemmas.Slice.Eq.{bytes_eq-Decides}
use Rattle.bus_script.specs.Words.{number_of}

own : IsNumeralModel (AllDigits 10) (digits_value 10)
own = numerals_by_value (AllDigits 10) tells_digits

both : (a b : Bool) → (a && b) ≡ true → (a ≡ true) × (b ≡ true)
both true true h = (refl, refl)
both true false h = absurd (cc)
both false b h = absurd (cc)

joined : (a b : Bool) → a ≡ true → b ≡ true → (a && b) ≡ true
joined a b h k = rw (h, k) refl

pub number_some : (limit n : ℕ) → n < limit → n < 2 ^ 64 → number_of limit (decimal n) ≡ Some n
number_some limit n below small =
    let value : digits_value 10 (decimal n) ≡ n = (decimal_is_IsNumeral n small).1 in
    let test : nat_lt n limit ≡ true = grind arith in
    let same : bytes_eq (decimal n) (decimal n) ≡ true = (bytes_eq-Decides (decimal n) (decimal n)).1 refl in
    rw (value, test, same) refl

none_from : (limit : ℕ) (text : List ℕ) (b : Bool) → (nat_lt (digits_value 10 text) limit && bytes_eq text
    (decimal (digits_value 10 text))) ≡ b → ((n : ℕ) → n < limit → text ≡ decimal n → ⊥) →
    cond b (Some (digits_value 10 text)) None ≡ None
none_from limit text true e other =
    let parts = both (nat_lt (digits_value 10 text) limit) (bytes_eq text (decimal (digits_value 10 text))) e in
    let below : digits_value 10 text < limit = grind (arith, parts.0) in
    absurd (other (digits_value 10 text) below ((bytes_eq-Decides text (decimal (digits_value 10 text))).0 parts.1))
none_from limit text false e other = refl

pub number_none : (limit : ℕ) (text : List ℕ) → ((n : ℕ) → n < limit → text ≡ decimal n → ⊥) →
    number_of limit text ≡ None
number_none limit text other = none_from limit text _ refl other

-- No number is written with a plus, or with a zero in front of other digits.
pub number_plus : (limit : ℕ) (text : List ℕ) → limit ≤ 2 ^ 64 → get_or text 0 0 ≡ 43 → number_of limit text ≡ None
number_plus limit text fits plus = number_none limit text (λ n below e.
    let small : n < 2 ^ 64 = omega arith in
    not_in_digits own (decimal n) 43 (digits_decimal own n small) (λ r. omega (arith, r.0)) 0 (decimal_nonempty n small)
    (subst (λ (t : List ℕ). get_or t 0 0 ≡ 43) e plus))

pub number_empty : (limit : ℕ) (text : List ℕ) → limit ≤ 2 ^ 64 → length text ≡ 0 → number_of limit text ≡ None
number_empty limit text fits empty = number_none limit text
    (λ n below e. omega (arith, decimal_nonempty n (omega arith), ap length e))

zero_alone : (n : ℕ) → n < 2 ^ 64 → get_or (decimal n) 0 0 ≡ 48 → length (decimal n) ≡ 1
zero_alone n small first = elim (zero_or n) [
  | inl e ↦ subst (λ (m : ℕ). length (decimal m) ≡ 1) (sym e)
      (ap length (decimal_digit 0 (omega arith)))
  | inr h ↦ absurd (omega (arith, first_decimal n h small))
]
  where
    zero_or : (m : ℕ) → (m ≡ 0) ⊎ (0 < m)
    zero_or zero = inl refl
    zero_or (suc m) = inr (omega arith)

pub number_zero : (limit : ℕ) (text : List ℕ) → limit ≤ 2 ^ 64 → get_or text 0 0 ≡ 48 → 1 < length text →
    number_of limit text ≡ None
number_zero limit text fits first long = number_none limit text (λ n below e.
    let small : n < 2 ^ 64 = omega arith in
    let one = zero_alone n small (subst (λ (t : List ℕ). get_or t 0 0 ≡ 48) e first) in
    omega (arith, one, ap length e))

-- What `parse` reads of any other text is the number.
pub number_parsed : {E : Type 0} (k : ℕ) (text : List ℕ) (r : Result ℕ E) → 2 ^ k ≤ 2 ^ 64 →
    ParsesUnsigned k 10 text r → get_or text 0 0 ≢ 43 → (get_or text 0 0 ≡ 48 → length text ≡ 1) →
    result_ok r ≡ number_of (2 ^ k) text
number_parsed {E} k text (Ok x) fits parsed plus first =
    let p = parse_plain own {E = E} k text (Ok x) parsed plus in
    let plain = decimal-digits_value own text p.0.0 p.0.1 first (omega (arith, p.0.2)) in
    let again = number_some (2 ^ k) (digits_value 10 text) p.0.2 (omega (arith, p.0.2)) in
    rw p.1 (sym (rw plain at again))
number_parsed {E} k text (Err e) fits parsed plus first =
    let p = parse_plain own {E = E} k text (Err e) parsed plus in
    sym (number_none (2 ^ k) text (λ n below same.
    let small : n < 2 ^ 64 = omega arith in
    let value = (decimal_is_IsNumeral n small).1 in
    p (rw same (digits_decimal own n small), rw same (decimal_nonempty n small), rw same (rw value below))))

value_of : (big n : ℕ) (text : List ℕ) (b : Bool) → (nat_lt (digits_value 10 text) big && bytes_eq text
    (decimal (digits_value 10 text))) ≡ b → cond b (Some (digits_value 10 text)) None ≡ Some n →
    (digits_value 10 text ≡ n) × (bytes_eq text (decimal (digits_value 10 text)) ≡ true)
value_of big n text true e is =
    let parts = both (nat_lt (digits_value 10 text) big) (bytes_eq text (decimal (digits_value 10 text))) e in (
      cc,
      parts.1,
    )
value_of big n text false e is = absurd (cc)

-- A number of 64 bits that is below the limit, beyond it, or none.
pub narrow_some : (limit n : ℕ) (text : List ℕ) → number_of (2 ^ 64) text ≡ Some n → n < limit →
    number_of limit text ≡ Some n
narrow_some limit n text is below =
    let parts = value_of (2 ^ 64) n text (nat_lt (digits_value 10 text) (2 ^ 64) && bytes_eq text
    (decimal (digits_value 10 text))) refl is in
    let test : nat_lt (digits_value 10 text) limit ≡ true = rw parts.0 (below_test n limit below) in
    rw (test, parts.1) (ap (λ v. Some v) parts.0)
  where
    below_test : (a b : ℕ) → a < b → nat_lt a b ≡ true
    below_test a b h = grind arith

pub narrow_beyond : (limit n : ℕ) (text : List ℕ) → limit ≤ 2 ^ 64 → number_of (2 ^ 64) text ≡ Some n → limit ≤ n →
    number_of limit text ≡ None
narrow_beyond limit n text fits is beyond =
    let parts = value_of (2 ^ 64) n text (nat_lt (digits_value 10 text) (2 ^ 64) && bytes_eq text
    (decimal (digits_value 10 text))) refl is in
    let test : nat_lt (digits_value 10 text) limit ≡ false = rw parts.0 (beyond_test n limit beyond) in
    rw test refl
  where
    beyond_test : (a b : ℕ) → b ≤ a → nat_lt a b ≡ false
    beyond_test a b h = grind arith

pub narrow_none : (limit : ℕ) (text : List ℕ) → limit ≤ 2 ^ 64 → number_of (2 ^ 64) text ≡ None →
    number_of limit text ≡ None
narrow_none limit text fits is = number_none limit text (λ n below e.
    let small : n < 2 ^ 64 = omega arith in
    let again : number_of (2 ^ 64) text ≡ Some n = rw e (number_some (2 ^ 64) n small small) in
    absurd_of n text is again)
  where
    absurd_of : (n : ℕ) (text : List ℕ) → number_of (2 ^ 64) text ≡ None → number_of (2 ^ 64) text ≡ Some n → ⊥
    absurd_of n text none some = cc
