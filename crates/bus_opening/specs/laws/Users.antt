-- The user number that bytes spell.
use Rattle.std.proofs.Common.{◌≡◌, ℕ, ◌<◌, ◌^◌, Bool, true, false, ◌&&◌, cond, eqb, ltb, List, [], ◌∷◌, length}
use Rattle.std.proofs.Common.{Some, None, Result, Ok, Err, refl, sym, ap, ◌∙◌, arith, rules}
use Rattle.std.specs.Result.{result_ok, OkIff}
use Rattle.std.specs.List.{AllByRecursion}
use Rattle.std.specs.Str.{all_ascii_digits, IsUtf8}
use Rattle.std.specs.Str.Parse.{ParsesUnsigned}
use Rattle.std.proofs.lemmas.Bool.{eqb-true, eqb-false, ltb-true, lt-ltb}
use Rattle.std.proofs.lemmas.List.Elements.{All-from_recursion}
use Rattle.std.proofs.lemmas.Str.{IsUtf8-from_ascii}
use Rattle.std.proofs.lemmas.Str.Ascii.{IsAscii-from_all}
use Rattle.std.proofs.lemmas.Str.Parse.{IsNumeralModel, numerals_by_fold, tells_all_ascii_digits}
use Rattle.std.proofs.lemmas.Str.Parse.{parse_plain, parse_plus}
use Rattle.bus_opening.specs.Server.{number, user_of, digits_of}

own : IsNumeralModel (λ ds. all_ascii_digits ds ≡ true) (number 0)
own = numerals_by_fold _ (search rules) number (search rules)

abbrev Fits : {E : Type 0} → Result ℕ E → List ℕ → Type 0
Fits r ds = OkIff r ((all_ascii_digits ds ≡ true) × (0 < length ds) × (number 0 ds < 2 ^ 32)) (number 0 ds)

by_sign : {E : Type 0} (b : Bool) (c : ℕ) (cs : List ℕ) (r : Result ℕ E) → eqb c 43 ≡ b →
    ParsesUnsigned 32 10 (c ∷ cs) r → Fits r (cond b cs (c ∷ cs))
by_sign true c cs r e h = parse_plus own 32 (c ∷ cs) r h (eqb-true c 43 e)
by_sign false c cs r e h = parse_plain own 32 (c ∷ cs) r h (eqb-false c 43 e)

fits : {E : Type 0} (bs : List ℕ) (r : Result ℕ E) → ParsesUnsigned 32 10 bs r → Fits r (digits_of bs)
fits [] r h = parse_plain own 32 [] r h (λ e. absurd cc)
fits (c ∷ cs) r h = by_sign (eqb c 43) c cs r refl h

by_tests : {E : Type 0} (ds : List ℕ) (r : Result ℕ E) → Fits r ds → (a b c : Bool) → ltb 0 (length ds) ≡ a →
    all_ascii_digits ds ≡ b → ltb (number 0 ds) (2 ^ 32) ≡ c → result_ok r ≡ cond (a && b && c) (Some (number 0 ds))
    None
by_tests ds (Ok x) h true true true e f g = ap (λ (n : ℕ). Some n) h.1
by_tests ds (Ok x) h false b c e f g = absurd (let t = sym (lt-ltb 0 (length ds) h.0.1) ∙ e in cc)
by_tests ds (Ok x) h true false c e f g = absurd (let t = sym h.0.0 ∙ f in cc)
by_tests ds (Ok x) h true true false e f g = absurd (let t = sym (lt-ltb (number 0 ds) (2 ^ 32) h.0.2) ∙ g in cc)
by_tests ds (Err x) h true true true e f g = absurd (h (f, ltb-true _ _ e, ltb-true _ _ g))
by_tests ds (Err x) h false b c e f g = refl
by_tests ds (Err x) h true false c e f g = refl
by_tests ds (Err x) h true true false e f g = refl

pub parsed : {E : Type 0} (bs : List ℕ) (r : Result ℕ E) → ParsesUnsigned 32 10 bs r → result_ok r ≡ user_of bs
parsed bs r h =
    by_tests (digits_of bs) r (fits bs r h) (ltb 0 (length (digits_of bs))) (all_ascii_digits (digits_of bs))
    (ltb (number 0 (digits_of bs)) (2 ^ 32)) refl refl refl

-- what spells a number is text
below : (ds : List ℕ) → all_ascii_digits ds ≡ true → AllByRecursion (λ b. b < 128) ds
below [] h = tt
below (c ∷ cs) h =
    let k = tells_all_ascii_digits.parts c cs h in
    (omega (arith, k.0), below cs k.1)

below_signed : (b : Bool) (c : ℕ) (cs : List ℕ) → eqb c 43 ≡ b → all_ascii_digits (cond b cs (c ∷ cs)) ≡ true →
    AllByRecursion (λ b. b < 128) (c ∷ cs)
below_signed true c cs e h = (omega (arith, eqb-true c 43 e), below cs h)
below_signed false c cs e h = below (c ∷ cs) h

ascii : (bs : List ℕ) → all_ascii_digits (digits_of bs) ≡ true → AllByRecursion (λ b. b < 128) bs
ascii [] h = tt
ascii (c ∷ cs) h = below_signed (eqb c 43) c cs refl h

text : (bs : List ℕ) → all_ascii_digits (digits_of bs) ≡ true → IsUtf8 bs
text bs h = IsUtf8-from_ascii bs (IsAscii-from_all bs (All-from_recursion (λ b. b < 128) bs (ascii bs h)))

none_by : (bs : List ℕ) (a b c : Bool) → (IsUtf8 bs → ⊥) → all_ascii_digits (digits_of bs) ≡ b →
    cond (a && b && c) (Some (number 0 (digits_of bs))) None ≡ None
none_by bs false b c h f = refl
none_by bs true false c h f = refl
none_by bs true true c h f = absurd (h (text bs f))

pub no_user : (bs : List ℕ) → (IsUtf8 bs → ⊥) → None ≡ user_of bs
no_user bs h = sym (none_by bs (ltb 0 (length (digits_of bs))) (all_ascii_digits (digits_of bs))
    (ltb (number 0 (digits_of bs)) (2 ^ 32)) h refl)
