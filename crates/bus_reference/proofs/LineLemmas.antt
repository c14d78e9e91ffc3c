-- Lines that are cut one after another.
use Rattle.std.proofs.Common.{◌≡◌, ℕ, zero, suc, ◌+◌, ◌-◌, ◌<◌, ◌≤◌, Bool, true, false, cond, Some, None, eqb, ltb, List, [], ◌∷◌, length, take, drop, refl, sym, ap, ◌∙◌, arith}
use Rattle.std.specs.Prelude.{sum_by, position, unwrap_or}
use Rattle.std.proofs.lemmas.Bool.{eqb-true, ltb-false}
use Rattle.std.proofs.lemmas.List.{length-take, drop-drop}
use Rattle.std.proofs.lemmas.List.Sums.{sum_by-cons}
use Rattle.bus_opening.specs.Lines.{lines, onto_line, feed_at, following}

within_by : (b : Bool) (c : ℕ) (y : List ℕ) → eqb c 10 ≡ b → feed_at y ≤ length y → feed_at (c ∷ y) ≤ length (c ∷ y)
within_by true c y e le = rw e (omega arith)
within_by false c y e le = rw e (omega (arith, le))

feed_within : (y : List ℕ) → feed_at y ≤ length y
feed_within [] = omega arith
feed_within (c ∷ y) = within_by (eqb c 10) c y refl (feed_within y)

by_len : (b : Bool) (n m : ℕ) → ltb n m ≡ b → n ≤ m → unwrap_or (cond b (Some n) None) m ≡ n
by_len true n m e le = refl
by_len false n m e le = omega (arith, ltb-false _ _ e)

pub feed_len_is : (y : List ℕ) → unwrap_or (position (λ c. eqb c 10) y) (length y) ≡ feed_at y
feed_len_is y = by_len (ltb (feed_at y) (length y)) (feed_at y) (length y) refl (feed_within y)

-- with a line feed the first line goes up to it
cons_onto : (c : ℕ) (l : List ℕ) (ls : List (List ℕ)) (w : List (List ℕ)) (r : List ℕ) → w ≡ l ∷ ls → (onto_line c w r).whole ≡ (c ∷ l) ∷ ls
cons_onto c l ls w r e = rw e refl

first_of_feed : (b : Bool) (c : ℕ) (bytes : List ℕ) → eqb c 10 ≡ b
    → (feed_at bytes < length bytes → (lines bytes).whole ≡ take (suc (feed_at bytes)) bytes ∷ (lines (drop (suc (feed_at bytes)) bytes)).whole)
    → feed_at (c ∷ bytes) < length (c ∷ bytes) → (lines (c ∷ bytes)).whole ≡ take (suc (feed_at (c ∷ bytes))) (c ∷ bytes) ∷ (lines (drop (suc (feed_at (c ∷ bytes))) (c ∷ bytes))).whole
first_of_feed true c bytes e others h = rw e (ap (λ (d : ℕ). (d ∷ []) ∷ (lines bytes).whole) (sym (eqb-true c 10 e)))
first_of_feed false c bytes e others h =
    let n : feed_at (c ∷ bytes) ≡ suc (feed_at bytes) = rw e (omega arith) in
    let lt : feed_at bytes < length bytes = omega (arith, n, h) in
    rw (n, e) (cons_onto c _ _ (lines bytes).whole (lines bytes).rest (others lt))

first_line : (y : List ℕ) → feed_at y < length y → (lines y).whole ≡ take (suc (feed_at y)) y ∷ (lines (drop (suc (feed_at y)) y)).whole
first_line [] h = absurd (omega (arith, h))
first_line (c ∷ y) h = first_of_feed (eqb c 10) c y refl (first_line y) h

-- without one there is no line
none_onto : (c : ℕ) (w : List (List ℕ)) (r : List ℕ) → w ≡ [] → (onto_line c w r).whole ≡ []
none_onto c w r e = rw e refl

none_of_feed : (b : Bool) (c : ℕ) (bytes : List ℕ) → eqb c 10 ≡ b → (length bytes ≤ feed_at bytes → (lines
    bytes).whole ≡ []) → length (c ∷ bytes) ≤ feed_at (c ∷ bytes) → (lines (c ∷ bytes)).whole ≡ []
none_of_feed true c bytes e others h = absurd (omega (arith, (rw e at h)))
none_of_feed false c bytes e others h =
    let n : feed_at (c ∷ bytes) ≡ suc (feed_at bytes) = rw e (omega arith) in
    rw e (none_onto c (lines bytes).whole (lines bytes).rest (others (omega (arith, n, h))))

no_line : (y : List ℕ) → length y ≤ feed_at y → (lines y).whole ≡ []
no_line [] h = refl
no_line (c ∷ y) h = none_of_feed (eqb c 10) c y refl (no_line y) h

take_none : (n : ℕ) (ls : List (List ℕ)) → ls ≡ [] → take n ls ≡ []
take_none zero ls e = refl
take_none (suc n) ls e = rw e refl

-- the first lines of bytes without a line feed are none
pub first_none : (n : ℕ) (y : List ℕ) → length y ≤ feed_at y → take n (lines y).whole ≡ []
first_none n y h = take_none n (lines y).whole (no_line y h)

-- a line more, and the others behind it
first_more : (n f : ℕ) (y : List ℕ) → 0 < n → f ≡ feed_at y → f < length y → take n (lines y).whole ≡ take (f + 1) y ∷ take (n - 1) (lines (drop (f + 1) y)).whole
first_more zero f y h e lt = absurd (omega arith)
first_more (suc n) f y h e lt =
    let m : n ≡ suc n - 1 = omega arith in
    let s : f + 1 ≡ suc (feed_at y) = omega arith in
    rw (s, ← m) (ap (take (suc n)) (first_line y (omega arith)))

pub first_cut : (n f : ℕ) (y z line : List ℕ) (cut items : List (List ℕ)) → 0 < n → f ≡ feed_at y → f < length y →
    line ≡ take (f + 1) y → z ≡ drop (f + 1) y → cut ≡ take (n - 1) (lines z).whole → items ≡ line ∷ cut → items ≡
    take n (lines y).whole
first_cut n f y z line cut items h e lt front back others all = rw (all, front, others, back) (sym (first_more n f y h e lt))

-- without a line feed everything follows
pub following-none : (n : ℕ) (y : List ℕ) → length y ≤ feed_at y → following n y ≡ y
following-none n y h = ap (λ (ls : List (List ℕ)). drop (sum_by length ls) y) (first_none n y h)

pub following-next : (n f : ℕ) (y : List ℕ) → 0 < n → f ≡ feed_at y → f < length y → following n y ≡ following (n - 1) (drop (f + 1) y)
following-next n f y h e lt =
    let others = take (n - 1) (lines (drop (f + 1) y)).whole in
    let total : sum_by length (take (f + 1) y ∷ others) ≡ (f + 1) + sum_by length others =
    omega (arith, sum_by-cons length (take (f + 1) y) others, length-take (f + 1) y) in
    ap (λ (ls : List (List ℕ)). drop (sum_by length ls) y) (first_more n f y h e lt) ∙ ap (λ (m : ℕ). drop m y) total ∙ sym (drop-drop (sum_by length others) (f + 1) y)
