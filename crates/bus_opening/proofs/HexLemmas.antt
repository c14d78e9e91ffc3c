-- Digits as a text, and those of runs, one after another.
use Rattle.std.proofs.Common.{◌≡◌, ℕ, ◌/◌, ◌%◌, ◌<◌, ltb, List, [], ◌∷◌, ◌++◌, slice_index, refl, sym, subst, ap, ◌∙◌, append_assoc}
use Rattle.std.specs.Str.{IsAscii, IsUtf8}
use Rattle.std.specs.List.{list_all}
use Rattle.std.proofs.lemmas.Bool.Decides.{Decides-by_and, Decides-ltb}
use Rattle.std.proofs.lemmas.Str.{IsUtf8-from_ascii}
use Rattle.std.proofs.lemmas.Str.Ascii.{IsAscii-from_all}
use Rattle.hex.specs.Hex.{encode_lower, encode_with, lower_digits}
use Rattle.hex.proofs.HexLemmas.{IsAscii-encode_with}

IsAscii-lower_digits : IsAscii lower_digits
IsAscii-lower_digits =
    IsAscii-from_all lower_digits
    ((Decides-by_and (λ b. ltb b 128) (λ b. b < 128) (list_all (λ b. ltb b 128)) (λ b. Decides-ltb b 128) refl (λ _ _. refl) lower_digits).0 refl)

-- the digits of bytes are a text
pub IsUtf8-encode_lower : (bytes digits : List ℕ) → digits ≡ encode_lower bytes → IsUtf8 digits
IsUtf8-encode_lower bytes digits written =
    subst IsUtf8 (sym written) (IsUtf8-from_ascii (encode_lower bytes) (IsAscii-encode_with lower_digits bytes IsAscii-lower_digits))

-- what is written of two runs
encode_lower-append : (xs ys : List ℕ) → encode_lower (xs ++ ys) ≡ encode_lower xs ++ encode_lower ys
unfolding encode_with
encode_lower-append [] ys = refl
encode_lower-append (x ∷ xs) ys = ap (λ v. slice_index lower_digits (x / 16) ∷ slice_index lower_digits (x % 16) ∷ v) (encode_lower-append xs ys)

pub encode_lower-nil : encode_lower [] ≡ []
unfolding encode_with
encode_lower-nil = refl

-- a run more is written
pub run_written : (done run rest left all : List ℕ) → left ≡ run ++ rest → done ++ encode_lower left ≡ all → (done ++ encode_lower run) ++ encode_lower rest ≡ all
run_written done run rest left all parts sofar =
    append_assoc done (encode_lower run) (encode_lower rest)
    ∙ ap (λ v. done ++ v) (sym (encode_lower-append run rest) ∙ ap encode_lower (sym parts))
    ∙ sofar
