-- Ports and texts that are read.
use Rattle.std.proofs.Common.{◌≡◌, ℕ, ◌<◌, ◌^◌, Bool, true, false, ◌&&◌, List, length, String, Global, Vec, Result, Ok, Err, refl, sym, ap, ◌∙◌, arith}
use Rattle.std.specs.Prelude.{if◌then◌else◌, nat_lt, IsOk, string_bytes}
use Rattle.std.specs.String.{string_vec}
use Rattle.std.specs.Str.{IsUtf8, is_utf8, all_ascii_digits}
use Rattle.std.specs.Str.Parse.{IsNumeral, digits_value, without_leading_plus}
use Rattle.std.proofs.lemmas.Str.{IsUtf8-from_is_utf8, is_utf8-from_IsUtf8, IsUtf8-string_bytes}
use Rattle.std.proofs.lemmas.Str.Parse.{IsNumeralModel, numerals_by_value, tells_all_ascii_digits}
use Rattle.std.proofs.lemmas.Bool.Decides.{nat_tests}
use Rattle.bus_address.specs.declared.error.AddressKind.TheVariants as kinds
use Rattle.bus_address.specs.Values.{port, host_text}
use Rattle.bus_address.proofs.Choices.{chosen}

own : IsNumeralModel (λ ds. all_ascii_digits ds ≡ true) (digits_value 10)
own = numerals_by_value (λ ds. all_ascii_digits ds ≡ true) tells_all_ascii_digits

refused_choice : {X : Type 0} (b : Bool) (x y : X) → (b ≡ true → ⊥) → (if b then x else y) ≡ y
refused_choice true x y e = absurd (e refl)
refused_choice false x y e = refl

all_three : (a b c : Bool) → a ≡ true → b ≡ true → c ≡ true → ((a && b) && c) ≡ true
all_three true true true ea eb ec = refl
all_three true true false ea eb ec = absurd cc
all_three true false c ea eb ec = absurd cc
all_three false b c ea eb ec = absurd cc

each : (a b c : Bool) → ((a && b) && c) ≡ true → (a ≡ true) × (b ≡ true) × (c ≡ true)
each true true true e = (refl, refl, refl)
each true true false e = absurd cc
each true false c e = absurd cc
each false b c e = absurd cc

-- the text is a number within a port's range
abbrev pub IsPort : List ℕ → Type 0
IsPort text = IsNumeral 10 (without_leading_plus text) × (digits_value 10 (without_leading_plus text) < 2 ^ 16)

pub port_ok : (text : List ℕ) (n : ℕ) → IsPort text × (n ≡ digits_value 10 (without_leading_plus text)) → port text ≡ Ok n
port_ok text n h =
    let digits = own.from (without_leading_plus text) h.0.0.1 in
    let some : nat_lt 0 (length (without_leading_plus text)) ≡ true = grind (arith, nat_tests, h.0.0.0) in
    let small : nat_lt (digits_value 10 (without_leading_plus text)) 65536 ≡ true = grind (arith, nat_tests, h.0.1) in
    chosen _ _ _ (all_three _ _ _ some digits small) ∙ ap Ok (sym h.1)

refuted : (a b c : Bool) → (a ≡ true → b ≡ true → c ≡ true → ⊥) → ((a && b) && c) ≡ true → ⊥
refuted a b c never h = let parts = each a b c h in never parts.0 parts.1 parts.2

some_length : (n : ℕ) → nat_lt 0 n ≡ true → 0 < n
some_length n h = grind (arith, nat_tests)

below_limit : (n : ℕ) → nat_lt n 65536 ≡ true → n < 65536
below_limit n h = grind (arith, nat_tests)

pub port_err : (text : List ℕ) → (IsPort text → ⊥) → port text ≡ Err kinds.BadPort
port_err text h =
    refused_choice ((nat_lt 0 (length (without_leading_plus text)) && all_ascii_digits (without_leading_plus text)) && nat_lt (digits_value 10 (without_leading_plus text)) 65536) _ _
    (refuted _ _ _ (λ some digits small. h ((some_length _ some, own.to (without_leading_plus text) digits), below_limit _ small)))

pub host_text_ok : (bytes : List ℕ) → IsUtf8 bytes → host_text bytes ≡ Ok bytes
host_text_ok bytes u = chosen (is_utf8 bytes) _ _ (is_utf8-from_IsUtf8 bytes u)

pub host_text_string : (t : String Global) (bytes : Vec ℕ Global) (v : List ℕ) → string_vec t ≡ bytes → v ≡ string_bytes t → host_text bytes.items ≡ Ok v
host_text_string t bytes v same value =
    ap (λ b. host_text b.items) (sym same) ∙ host_text_ok (string_bytes t) (IsUtf8-string_bytes t) ∙ ap Ok (sym value)

not_ok : {T E : Type 0} (r : Result T E) (e : E) → r ≡ Err e → IsOk r → ⊥
not_ok (Ok x) e is ok = absurd cc
not_ok (Err d) e is ok = cc

pub host_text_refused : {T E : Type 0} (bytes : List ℕ) (r : Result T E) (e : E) → r ≡ Err e → (IsUtf8 bytes → IsOk r) → host_text bytes ≡ Err kinds.HostText
host_text_refused bytes r e is succeeds = refused_choice (is_utf8 bytes) _ _ (λ t. not_ok r e is (succeeds (IsUtf8-from_is_utf8 bytes t)))
