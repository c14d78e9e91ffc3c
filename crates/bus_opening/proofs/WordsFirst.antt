-- The words of a text are its first word and the words of what follows, at any test for what parts them.
use Rattle.std.proofs.Common.{◌≡◌, ℕ, suc, ◌+◌, ◌<◌, ◌≤◌, Bool, true, false, not, cond, eqb, List, [], ◌∷◌, length, get_or, drop, Option, Some, None, refl, sym, ap, subst, arith, inl, inr}
use Rattle.std.specs.Prelude.{MatchOption}
use Rattle.std.specs.List.{filter, slice_split, position_or_len, prefix_len, before_first, after_first, All}
use Rattle.std.specs.Char.{is_ascii_whitespace}
use Rattle.std.proofs.lemmas.Bool.{cases_lt, ne_eqb}
use Rattle.std.proofs.lemmas.List.{drop_more, drop_all, take_all, length-take}
use Rattle.std.proofs.lemmas.List.Sums.{passes_at_first, prefix_len-le-length, fails_before_first}
use Rattle.std.proofs.lemmas.List.Splits.{slice_split-cons_yes, slice_split_none, slice_split_first}
use Rattle.bus_opening.specs.Words.{words, first_word}

module _ (p : ℕ → Bool) where
  abbrev parted : List ℕ → List (List ℕ)
  parted text = filter (λ word. not (eqb (length word) 0)) (slice_split p text)

  abbrev front_of : List ℕ → Option (List ℕ × List ℕ)
  front_of [] = None
  front_of (c ∷ text) = Some (before_first p (c ∷ text), drop (position_or_len p (c ∷ text)) (c ∷ text))

  parted-space : (c : ℕ) (t : List ℕ) → p c ≡ true → parted (c ∷ t) ≡ parted t
  parted-space c t h = rw (slice_split-cons_yes p c t h) refl

  kept : (w : List ℕ) (ws : List (List ℕ)) → (length w ≡ 0 → ⊥) → filter (λ word. not (eqb (length word) 0)) (w ∷ ws) ≡ w ∷ filter (λ word. not (eqb (length word) 0)) ws
  kept w ws h = rw (ne_eqb (length w) 0 h) refl

  none_before : (t : List ℕ) → length t ≤ position_or_len p t → All (λ x. p x ≡ false) t
  none_before t le = λ k d h. fails_before_first p t k d (omega arith)

  -- a text that begins with a word
  parted-here : (t : List ℕ) → (0 < position_or_len p t) → parted t ≡ before_first p t ∷ parted (drop (position_or_len p t) t)
  parted-here t h =
      elim (cases_lt (position_or_len p t) (length t)) [
        | inl lt ↦
            let full : length (before_first p t) ≡ 0 → ⊥ = λ e. absurd (omega (arith, length-take (position_or_len p t) t)) in
            rw (slice_split_first p t 0 lt, kept (before_first p t) (slice_split p (after_first p t)) full, drop_more t (position_or_len p t) 0 lt)
            (ap (λ (ws : List (List ℕ)). before_first p t ∷ ws) (sym (parted-space (get_or t (position_or_len p t) 0) (drop (position_or_len p t + 1) t) (passes_at_first p t 0 lt))))
        | inr le ↦
            let full : length t ≡ 0 → ⊥ = λ e. absurd (omega (arith, prefix_len-le-length (λ x. not (p x)) t)) in
            rw (slice_split_none p t (none_before t le), kept t [] full, drop_all (position_or_len p t) t le, take_all (position_or_len p t) t le) refl
      ]

  parted_front : (t : List ℕ) → MatchOption (front_of t) (length t ≡ 0) (λ x. (0 < position_or_len p t) → parted t ≡ x.0 ∷ parted x.1)
  parted_front [] = refl
  parted_front (c ∷ t) = λ h. parted-here (c ∷ t) h

  go : (b : Bool) (c : ℕ) (t : List ℕ) → p c ≡ b → MatchOption (front_of (drop (prefix_len p t) t)) (parted t ≡ []) (λ x. parted t ≡ x.0 ∷ parted x.1)
      → MatchOption (front_of (drop (cond b (1 + prefix_len p t) 0) (c ∷ t))) (parted (c ∷ t) ≡ []) (λ x. parted (c ∷ t) ≡ x.0 ∷ parted x.1)
  go true c t e ih =
      let one : 1 + prefix_len p t ≡ suc (prefix_len p t) = omega arith in
      rw one (subst (λ (ws : List (List ℕ)). MatchOption (front_of (drop (prefix_len p t) t)) (ws ≡ []) (λ x. ws ≡ x.0 ∷ parted x.1)) (sym (parted-space c t e)) ih)
  go false c t e ih = parted-here (c ∷ t) (rw e (omega arith))

  parted_first : (t : List ℕ) → MatchOption (front_of (drop (prefix_len p t) t)) (parted t ≡ []) (λ x. parted t ≡ x.0 ∷ parted x.1)
  parted_first [] = refl
  parted_first (c ∷ t) = go (p c) c t refl (parted_first t)

pub words_first : (t : List ℕ) → MatchOption (first_word t) (words t ≡ []) (λ x. words t ≡ x.0 ∷ words x.1)
words_first t = parted_first is_ascii_whitespace t

pub words_at : (t : List ℕ) (o : Option (List ℕ × List ℕ)) → o ≡ first_word t → MatchOption o (words t ≡ []) (λ x. words t ≡ x.0 ∷ words x.1)
words_at t o e = subst (λ (o : Option (List ℕ × List ℕ)). MatchOption o (words t ≡ []) (λ x. words t ≡ x.0 ∷ words x.1)) (sym e) (words_first t)
