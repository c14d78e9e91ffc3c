-- The tables of bytes and digits, checked entry by entry against the definitions, by computing.
use Rattle.std.proofs.Common.{◌≡◌, ℕ, zero, suc, ◌<◌, Bool, true, false, ◌&&◌, not, nat_eq, get_or, refl, arith, inl, inr}
use Rattle.std.specs.Bool.{beq}
use Rattle.std.specs.Char.{digit_char}
use Rattle.std.proofs.lemmas.Bool.{cases_eq}
use Rattle.std.proofs.lemmas.Bool.Decides.{Decides-below_and, Decides-eqb}
use Rattle.bus_address.specs.declared.escapes.TheConstants.{PLAIN_BYTES, DIGITS}
use Rattle.bus_address.specs.Escapes.{is_plain}

-- the two tests agree below n
agree_below : (ℕ → Bool) → (ℕ → Bool) → ℕ → Bool
agree_below f g zero = true
agree_below f g (suc n) = beq (f n) (g n) && agree_below f g n

both_of : (x y rest : Bool) → (beq x y && rest) ≡ true → (x ≡ y) × (rest ≡ true)
both_of true true rest h = (refl, h)
both_of true false rest h = cc
both_of false true rest h = cc
both_of false false rest h = (refl, h)

agree_at : (f g : ℕ → Bool) (n : ℕ) → agree_below f g n ≡ true → (b : ℕ) → b < n → f b ≡ g b
unfolding agree_below
agree_at f g zero h b lt = absurd (omega arith)
agree_at f g (suc n) h b lt =
    let both = both_of (f n) (g n) (agree_below f g n) h in
    elim (cases_eq b n) [ inl same ↦ rw same both.0 | inr other ↦ agree_at f g n both.1 b (omega arith) ]

-- a byte is at its own place where it stands for itself, and a comma is there otherwise
pub plain_entry : (b : ℕ) → b < 256 → not (nat_eq (get_or PLAIN_BYTES b 0) 44) ≡ is_plain b
unfolding agree_below
plain_entry b small = agree_at (λ k. not (nat_eq (get_or PLAIN_BYTES k 0) 44)) is_plain 256 refl b small

digits_match : ℕ → Bool
digits_match zero = true
digits_match (suc n) = nat_eq (get_or DIGITS n 0) (digit_char n) && digits_match n

-- the digit at its own place
pub digit_entry : (d : ℕ) → d < 16 → get_or DIGITS d 0 ≡ digit_char d
unfolding digits_match
digit_entry =
    (Decides-below_and (λ d. nat_eq (get_or DIGITS d 0) (digit_char d)) (λ d. get_or DIGITS d 0 ≡ digit_char d) digits_match (λ d. Decides-eqb _ _) refl (λ _. refl) 16).0 refl
