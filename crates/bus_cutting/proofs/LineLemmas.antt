-- The lines of bytes that grow.
use Rattle.std.proofs.Common.{◌≡◌, ℕ, zero, suc, ◌<◌, ◌≤◌, Bool, true, false, cond, eqb, ltb, List, [], ◌∷◌, ◌++◌}
use Rattle.std.proofs.Common.{length, take, drop, refl, sym, ap, ◌∙◌, arith}
use Rattle.std.specs.Prelude.{sum_by}
use Rattle.std.specs.List.{concat}
use Rattle.std.proofs.lemmas.List.{length-append, drop-append-le, take-take, take_all, get_or_append_left}
use Rattle.std.proofs.lemmas.List.Sums.{sum_by-cons, position_or_len_is, fails_before_first, passes_at_first}
use Rattle.std.proofs.lemmas.Bool.{eqb-true, ltb-true, ltb-false}
use Rattle.std.proofs.Math.Seq.{drop-append_seam}
use Rattle.bus_opening.specs.Lines.{Lines, lines, onto_line, has_feed, feed_at, following}

onto-take : (c : ℕ) (a b : List (List ℕ)) (r s : List ℕ) → take (length a) b ≡ a →
    take (length (onto_line c a r).whole) (onto_line c b s).whole ≡ (onto_line c a r).whole
onto-take c [] b r s e = refl
onto-take c (l ∷ ls) [] r s e = absurd cc
onto-take c (l ∷ ls) (m ∷ ms) r s e =
    let first : m ≡ l = cc in
    let others : take (length ls) ms ≡ ls = cc in
    rw (first, others) refl

lines_by : (b : Bool) (c : ℕ) (l k : Lines) → take (length l.whole) k.whole ≡ l.whole
    → take (length (cond b (record { whole = (10 ∷ []) ∷ l.whole; rest = l.rest }) (onto_line c l.whole l.rest)).whole)
    (cond b (record { whole = (10 ∷ []) ∷ k.whole; rest = k.rest }) (onto_line c k.whole k.rest)).whole
    ≡ (cond b (record { whole = (10 ∷ []) ∷ l.whole; rest = l.rest }) (onto_line c l.whole l.rest)).whole
lines_by true c l k e = ap (λ (ls : List (List ℕ)). (10 ∷ []) ∷ ls) e
lines_by false c l k e = onto-take c l.whole k.whole l.rest k.rest e

-- the lines that were there stay
lines_stay : (b x : List ℕ) → take (length (lines b).whole) (lines (b ++ x)).whole ≡ (lines b).whole
lines_stay [] x = refl
lines_stay (c ∷ b) x = lines_by (eqb c 10) c (lines b) (lines (b ++ x)) (lines_stay b x)

pub more_lines : (b x : List ℕ) → length (lines b).whole ≤ length (lines (b ++ x)).whole
more_lines b x =
    omega (arith, ap length (lines_stay b x), length-take-of (length (lines b).whole) (lines (b ++ x)).whole)
  where
    length-take-of : (n : ℕ) (ls : List (List ℕ)) → length (take n ls) ≤ length ls
    length-take-of zero ls = omega arith
    length-take-of (suc n) [] = omega arith
    length-take-of (suc n) (l ∷ ls) = omega (arith, length-take-of n ls)

onto-joined : (c : ℕ) (a : List (List ℕ)) (r : List ℕ) →
    concat (onto_line c a r).whole ++ (onto_line c a r).rest ≡ c ∷ (concat a ++ r)
onto-joined c [] r = refl
onto-joined c (l ∷ ls) r = refl

joined_by : (b : Bool) (c : ℕ) (l : Lines) → (eqb c 10 ≡ b)
    → concat (cond b (record { whole = (10 ∷ []) ∷ l.whole; rest = l.rest }) (onto_line c l.whole l.rest)).whole
    ++ (cond b (record { whole = (10 ∷ []) ∷ l.whole; rest = l.rest }) (onto_line c l.whole l.rest)).rest
    ≡ c ∷ (concat l.whole ++ l.rest)
joined_by true c l e = ap (λ (d : ℕ). d ∷ (concat l.whole ++ l.rest)) (sym (eqb-true c 10 e))
joined_by false c l e = onto-joined c l.whole l.rest

lines_joined : (b : List ℕ) → concat (lines b).whole ++ (lines b).rest ≡ b
lines_joined [] = refl
lines_joined (c ∷ b) = joined_by (eqb c 10) c (lines b) refl ∙ ap (λ (r : List ℕ). c ∷ r) (lines_joined b)

pub total : (pieces : List (List ℕ)) → sum_by length pieces ≡ length (concat pieces)
total [] = refl
total (p ∷ ps) = rw sum_by-cons (omega (arith, total ps, length-append p (concat ps)))

less_taken : (j : ℕ) (pieces : List (List ℕ)) → sum_by length (take j pieces) ≤ sum_by length pieces
less_taken zero pieces = omega arith
less_taken (suc j) [] = omega arith
less_taken (suc j) (p ∷ ps) =
    omega (arith, less_taken j ps, sum_by-cons length p (take j ps), sum_by-cons length p ps)

looked_within : (j : ℕ) (b : List ℕ) → sum_by length (take j (lines b).whole) ≤ length b
looked_within j b =
    omega (
      arith,
      less_taken j (lines b).whole,
      total (lines b).whole,
      length-append (concat (lines b).whole) (lines b).rest,
      ap length (lines_joined b),
    )

-- the first lines are the same, and what follows them grows
pub lines_first : (j : ℕ) (b x : List ℕ) → j ≤ length (lines b).whole →
    take j (lines (b ++ x)).whole ≡ take j (lines b).whole
lines_first j b x le =
    sym (take-take j (length (lines b).whole) (lines (b ++ x)).whole le) ∙ ap (take j) (lines_stay b x)

pub following-more : (j : ℕ) (b x : List ℕ) → j ≤ length (lines b).whole → following j (b ++ x) ≡ following j b ++ x
following-more j b x le =
    rw (lines_first j b x le) (drop-append-le (sum_by length (take j (lines b).whole)) b x (looked_within j b))

-- a line feed stays where it is
pub feed_stays : (y x : List ℕ) → feed_at y < length y → feed_at (y ++ x) ≡ feed_at y
feed_stays y x h = position_or_len_is (λ c. eqb c 10) (y ++ x) (feed_at y) 0 (omega (arith, length-append y x))
    (λ k lt. rw (get_or_append_left y x 0 k (omega arith)) (fails_before_first (λ c. eqb c 10) y k 0 lt))
    (λ lt. rw (get_or_append_left y x 0 (feed_at y) h) (passes_at_first (λ c. eqb c 10) y 0 h))

-- none comes before it
later_by : (b : Bool) (c : ℕ) (y x : List ℕ) → eqb c 10 ≡ b → feed_at y ≤ feed_at (y ++ x) →
    feed_at (c ∷ y) ≤ feed_at (c ∷ (y ++ x))
later_by true c y x e le = rw e (omega arith)
later_by false c y x e le = rw e (omega (arith, le))

pub feed_later : (y x : List ℕ) → feed_at y ≤ feed_at (y ++ x)
feed_later [] x = omega arith
feed_later (c ∷ y) x = later_by (eqb c 10) c y x refl (feed_later y x)

-- what follows all lines has no line feed
unfed_onto : (c : ℕ) (w : List (List ℕ)) (r : List ℕ) → eqb c 10 ≡ false → length r ≤ feed_at r →
    length (onto_line c w r).rest ≤ feed_at (onto_line c w r).rest
unfed_onto c [] r e h = rw e (omega (arith, h))
unfed_onto c (l ∷ ls) r e h = h

unfed_by : (b : Bool) (c : ℕ) (l : Lines) → eqb c 10 ≡ b → length l.rest ≤ feed_at l.rest →
    length (cond b (record { whole = (10 ∷ []) ∷ l.whole; rest = l.rest }) (onto_line c l.whole l.rest)).rest
    ≤ feed_at (cond b (record { whole = (10 ∷ []) ∷ l.whole; rest = l.rest }) (onto_line c l.whole l.rest)).rest
unfed_by true c l e h = h
unfed_by false c l e h = unfed_onto c l.whole l.rest e h

rest_unfed : (b : List ℕ) → length (lines b).rest ≤ feed_at (lines b).rest
rest_unfed [] = omega arith
rest_unfed (c ∷ b) = unfed_by (eqb c 10) c (lines b) refl (rest_unfed b)

after_all : (w : List (List ℕ)) (r : List ℕ) → drop (sum_by length w) (concat w ++ r) ≡ r
after_all w r = rw (total w) (drop-append_seam (concat w) r)

all_followed : (j : ℕ) (b : List ℕ) → length (lines b).whole ≤ j → following j b ≡ (lines b).rest
all_followed j b le =
    ap (λ (ls : List (List ℕ)). drop (sum_by length ls) b) (take_all j (lines b).whole le)
    ∙ ap (drop (sum_by length (lines b).whole)) (sym (lines_joined b))
    ∙ after_all (lines b).whole (lines b).rest

-- where a line feed follows, so does a line
line_by : (c : Bool) (j : ℕ) (b : List ℕ) → ltb j (length (lines b).whole) ≡ c → has_feed (following j b) ≡ true →
    j < length (lines b).whole
line_by true j b e h = ltb-true _ _ e
line_by false j b e h =
    let rest : following j b ≡ (lines b).rest = all_followed j b (ltb-false _ _ e) in
    let fed : feed_at (lines b).rest < length (lines b).rest = ltb-true _ _ (rw rest at h) in
    absurd (omega (arith, rest_unfed b, fed))

pub line_follows : (j : ℕ) (b : List ℕ) → has_feed (following j b) ≡ true → j < length (lines b).whole
line_follows j b h = line_by (ltb j (length (lines b).whole)) j b refl h
