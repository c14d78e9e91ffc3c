-- The first word of a text.
use Rattle.std.proofs.Common.{◌≡◌, ℕ, ◌<◌, true, not, List, [], ◌∷◌, length, take, drop, Some, None, refl, arith, inl, inr}
use Rattle.std.specs.Prelude.{unwrap_or, position}
use Rattle.std.specs.List.{position_or_len}
use Rattle.std.specs.Char.{is_ascii_whitespace}
use Rattle.std.specs.Str.{IsTrimAsciiStart, IsCharBoundary, IsUtf8}
use Rattle.std.proofs.lemmas.List.Sums.{passes_at_first, prefix_len-le-length}
use Rattle.std.proofs.lemmas.Bool.{cases_lt, lt-ltb, le-ltb}
use Rattle.std.proofs.lemmas.Bool.Decides.{nat_tests}
use Rattle.std.proofs.lemmas.Str.{IsCharBoundary-before_ascii}
use Rattle.std.proofs.lemmas.Str.Ascii.{trim_ascii_start_is}
use Rattle.bus_opening.specs.Words.{word_at_front, first_word}

nothing_at_front : (r : List ℕ) → length r ≡ 0 → None ≡ word_at_front r
nothing_at_front [] h = refl
nothing_at_front (c ∷ r) h = absurd (omega arith)

word_here : (r : List ℕ) → (length r ≡ 0 → ⊥) → Some (take (position_or_len is_ascii_whitespace r) r, drop (position_or_len is_ascii_whitespace r) r) ≡ word_at_front r
word_here [] h = absurd (h refl)
word_here (c ∷ r) h = refl

pub first_word_none : (s r : List ℕ) → IsTrimAsciiStart s r → length r ≡ 0 → None ≡ first_word s
first_word_none s r t h = rw (← trim_ascii_start_is s r t) (nothing_at_front r h)

pub first_word_some : (s r : List ℕ) → IsTrimAsciiStart s r → (length r ≡ 0 → ⊥) → Some (take (position_or_len is_ascii_whitespace r) r, drop (position_or_len is_ascii_whitespace r) r) ≡ first_word s
first_word_some s r t h = rw (← trim_ascii_start_is s r t) (word_here r h)

space_below : (c : ℕ) → is_ascii_whitespace c ≡ true → c < 128
space_below c h = grind (arith, nat_tests)

pub boundary : (r : List ℕ) → IsUtf8 r → IsCharBoundary r (position_or_len is_ascii_whitespace r)
boundary r u =
    elim (cases_lt (position_or_len is_ascii_whitespace r) (length r)) [
      | inl lt ↦ IsCharBoundary-before_ascii r _ lt (space_below _ (passes_at_first is_ascii_whitespace r 0 lt))
      | inr le ↦ (prefix_len-le-length (λ x. not (is_ascii_whitespace x)) r, λ lt. absurd (omega arith))
    ]

pub word_len_is : (r : List ℕ) → unwrap_or (position is_ascii_whitespace r) (length r) ≡ position_or_len is_ascii_whitespace r
word_len_is r =
    elim (cases_lt (position_or_len is_ascii_whitespace r) (length r)) [
      | inl lt ↦ rw (lt-ltb _ _ lt) refl
      | inr le ↦ rw (le-ltb _ _ le) (omega (arith, prefix_len-le-length (λ x. not (is_ascii_whitespace x)) r))
    ]
