-- Words joined one after another.
use Rattle.std.proofs.Common.{◌≡◌, ℕ, Bool, true, false, not, cond, eqb, List, [], ◌∷◌, ◌++◌, length, refl, ◌∙◌, append_assoc, arith}
use Rattle.std.specs.List.{filter, join_with_byte, AllByRecursion, slice_split}
use Rattle.std.specs.Char.{is_ascii_whitespace}
use Rattle.std.proofs.lemmas.Bool.{ne_eqb, eqb-false}
use Rattle.std.proofs.lemmas.List.{length-append}
use Rattle.bus_opening.specs.Words.{words}

-- what a loop has after these words
abbrev pub joined_on : List ℕ → List (List ℕ) → List ℕ
joined_on front [] = front
joined_on front (w ∷ ws) = joined_on (cond (eqb (length front) 0) w (front ++ (32 ∷ w))) ws

abbrev IsFull : List ℕ → Type 0
IsFull w = length w ≡ 0 → ⊥

grouped : (front w : List ℕ) (ws : List (List ℕ)) → join_with_byte 32 ((front ++ (32 ∷ w)) ∷ ws) ≡ join_with_byte 32 (front ∷ w ∷ ws)
grouped front w [] = refl
grouped front w (y ∷ ws) = append_assoc front (32 ∷ w) (32 ∷ join_with_byte 32 (y ∷ ws))

joined_on-join : (front : List ℕ) (ws : List (List ℕ)) → IsFull front → joined_on front ws ≡ join_with_byte 32 (front ∷ ws)
joined_on-join front [] full = refl
joined_on-join front (w ∷ ws) full =
    rw (ne_eqb (length front) 0 full) (joined_on-join (front ++ (32 ∷ w)) ws (λ e. absurd (omega (arith, length-append front (32 ∷ w)))) ∙ grouped front w ws)

kept_full : (b : Bool) (w : List ℕ) (ws : List (List ℕ)) → eqb (length w) 0 ≡ b → AllByRecursion IsFull ws → AllByRecursion IsFull (cond (not b) (w ∷ ws) ws)
kept_full true w ws e h = h
kept_full false w ws e h = (eqb-false _ _ e, h)

all_full : (ws : List (List ℕ)) → AllByRecursion IsFull (filter (λ word. not (eqb (length word) 0)) ws)
all_full [] = tt
all_full (w ∷ ws) = kept_full (eqb (length w) 0) w (filter (λ word. not (eqb (length word) 0)) ws) refl (all_full ws)

joined_full : (ws : List (List ℕ)) → AllByRecursion IsFull ws → joined_on [] ws ≡ join_with_byte 32 ws
joined_full [] h = refl
joined_full (w ∷ ws) h = joined_on-join w ws h.0

pub joined_words : (t : List ℕ) → joined_on [] (words t) ≡ join_with_byte 32 (words t)
joined_words t = joined_full (words t) (all_full (slice_split is_ascii_whitespace t))
