-- A GUID's digits in lower case, and that they are text.
use Rattle.std.proofs.Common.{◌≡◌, ℕ, ◌<◌, Bool, true, false, ◌&&◌, eqb, List, [], ◌∷◌, length, map, Some, Result, Ok, Err, refl, ap, arith}
use Rattle.std.specs.Prelude.{MatchResult, IsOk, if◌then◌else◌, None}
use Rattle.std.specs.List.{list_all, AllByRecursion}
use Rattle.std.specs.Char.{to_ascii_lowercase, is_ascii_hexdigit}
use Rattle.std.specs.Str.{IsUtf8}
use Rattle.std.proofs.lemmas.Bool.Decides.{nat_tests}
use Rattle.std.proofs.lemmas.Str.{IsUtf8-from_ascii}
use Rattle.std.proofs.lemmas.Str.Ascii.{IsAscii-from_all}
use Rattle.std.proofs.lemmas.List.{length-map}
use Rattle.std.proofs.lemmas.List.Elements.{All-from_recursion}
use Rattle.bus_address.specs.Guid.{guid, is_guid, is_lower_hexdigit}
use Rattle.bus_address.proofs.Choices.{both, together}

lower_digit : (c : ℕ) → is_ascii_hexdigit c ≡ true → is_lower_hexdigit (to_ascii_lowercase c) ≡ true
lower_digit c h = grind (arith, nat_tests)

lower_digits : (xs : List ℕ) → list_all is_ascii_hexdigit xs ≡ true → list_all is_lower_hexdigit (map to_ascii_lowercase xs) ≡ true
lower_digits [] h = refl
lower_digits (x ∷ xs) h =
    let h2 = both (is_ascii_hexdigit x) (list_all is_ascii_hexdigit xs) h in
    together _ _ (lower_digit x h2.0) (lower_digits xs h2.1)

pub is_guid-lower : (xs : List ℕ) → (eqb (length xs) 32 && list_all is_ascii_hexdigit xs) ≡ true → is_guid (map to_ascii_lowercase xs) ≡ true
is_guid-lower xs h =
    let h2 = both (eqb (length xs) 32) (list_all is_ascii_hexdigit xs) h in
    together _ _ (rw length-map h2.0) (lower_digits xs h2.1)

lower_below : (c : ℕ) → is_lower_hexdigit c ≡ true → c < 128
lower_below c h = grind (arith, nat_tests)

below : (xs : List ℕ) → list_all is_lower_hexdigit xs ≡ true → AllByRecursion (λ b. b < 128) xs
below [] h = tt
below (x ∷ xs) h =
    let h2 = both (is_lower_hexdigit x) (list_all is_lower_hexdigit xs) h in
    (lower_below x h2.0, below xs h2.1)

pub IsUtf8-is_guid : (xs : List ℕ) → is_guid xs ≡ true → IsUtf8 xs
IsUtf8-is_guid xs h =
    let h2 = both (eqb (length xs) 32) (list_all is_lower_hexdigit xs) h in
    IsUtf8-from_ascii xs (IsAscii-from_all xs (All-from_recursion (λ b. b < 128) xs (below xs h2.1)))

pub is_ok_from_cases : {T E : Type 0} (P : Type 0) (Q : T → Type 0) (R : E → Type 0) (r : Result T E) → MatchResult r Q (λ e. (P → ⊥) × R e) → P → IsOk r
is_ok_from_cases P Q R (Ok x) m p = refl
is_ok_from_cases P Q R (Err e) m p = absurd (m.0 p)

printed_digit : (c : ℕ) → is_lower_hexdigit c ≡ true → is_ascii_hexdigit c ≡ true
printed_digit c h = grind (arith, nat_tests)

lower_stays : (c : ℕ) → is_lower_hexdigit c ≡ true → to_ascii_lowercase c ≡ c
lower_stays c h = grind (arith, nat_tests)

printed_digits : (xs : List ℕ) → list_all is_lower_hexdigit xs ≡ true → (list_all is_ascii_hexdigit xs ≡ true) × (map to_ascii_lowercase xs ≡ xs)
printed_digits [] h = (refl, refl)
printed_digits (x ∷ xs) h =
    let h2 = both (is_lower_hexdigit x) (list_all is_lower_hexdigit xs) h in
    let rest = printed_digits xs h2.1 in
    let same = lower_stays x h2.0 in
    (together _ _ (printed_digit x h2.0) rest.0, rw (same, rest.1) refl)

some_chosen : (b : Bool) (xs ys : List ℕ) → b ≡ true → xs ≡ ys → (if b then Some xs else None) ≡ Some ys
some_chosen true xs ys h e = ap Some e
some_chosen false xs ys h e = absurd cc

-- printed digits are read back
pub guid-is_guid : (xs : List ℕ) → is_guid xs ≡ true → guid xs ≡ Some xs
guid-is_guid xs h =
    let h2 = both (eqb (length xs) 32) (list_all is_lower_hexdigit xs) h in
    let digits = printed_digits xs h2.1 in
    some_chosen _ _ _ (together _ _ h2.0 digits.0) digits.1
