-- The lines of bytes that grow.
use Rattle.std.proofs.Common.{◌≡◌, ℕ, zero, suc, ◌<◌, ◌≤◌, Bool, true, false, cond, eqb, ltb, List, [], ◌∷◌, ◌++◌, length, take, Option, Some, None, refl, sym, ap, ◌∙◌, arith}
use Rattle.std.specs.Prelude.{sum_by}
use Rattle.std.specs.List.{concat}
use Rattle.std.proofs.lemmas.List.{length-append, drop-append-le, take-take, get_or_append_left}
use Rattle.std.proofs.lemmas.List.Sums.{sum_by-cons, position_or_len_is, fails_before_first, passes_at_first}
use Rattle.std.proofs.lemmas.Bool.{eqb-true, ltb-true, lt-ltb}
use Rattle.bus_opening.specs.Limits.{line_limit}
use Rattle.bus_opening.specs.Lines.{Lines, lines, onto_line, has_feed, feed_at, following}
use Rattle.bus_opening.specs.Talk.{Said, Status, more, done, refused, send, piece_rest, ask_by, ask_now, recv, line_too_long}

onto-take : (c : ℕ) (a b : List (List ℕ)) (r s : List ℕ) → take (length a) b ≡ a → take (length (onto_line c a r).whole) (onto_line c b s).whole ≡ (onto_line c a r).whole
onto-take c [] b r s e = refl
onto-take c (l ∷ ls) [] r s e = absurd cc
onto-take c (l ∷ ls) (m ∷ ms) r s e =
    let first : m ≡ l = cc in
    let others : take (length ls) ms ≡ ls = cc in
    rw (first, others) refl

lines_by : (b : Bool) (c : ℕ) (l k : Lines) → take (length l.whole) k.whole ≡ l.whole
    → take (length (cond b (record { whole = (10 ∷ []) ∷ l.whole; rest = l.rest }) (onto_line c l.whole l.rest)).whole)
    (cond b (record { whole = (10 ∷ []) ∷ k.whole; rest = k.rest }) (onto_line c k.whole k.rest)).whole
    ≡ (cond b (record { whole = (10 ∷ []) ∷ l.whole; rest = l.rest }) (onto_line c l.whole l.rest)).whole
lines_by true c l k e = ap (λ (ls : List (List ℕ)). (10 ∷ []) ∷ ls) e
lines_by false c l k e = onto-take c l.whole k.whole l.rest k.rest e

-- the lines that were there stay
pub lines_stay : (b x : List ℕ) → take (length (lines b).whole) (lines (b ++ x)).whole ≡ (lines b).whole
lines_stay [] x = refl
lines_stay (c ∷ b) x = lines_by (eqb c 10) c (lines b) (lines (b ++ x)) (lines_stay b x)

onto-joined : (c : ℕ) (a : List (List ℕ)) (r : List ℕ) → concat (onto_line c a r).whole ++ (onto_line c a r).rest ≡ c ∷ (concat a ++ r)
onto-joined c [] r = refl
onto-joined c (l ∷ ls) r = refl

joined_by : (b : Bool) (c : ℕ) (l : Lines) → (eqb c 10 ≡ b)
    → concat (cond b (record { whole = (10 ∷ []) ∷ l.whole; rest = l.rest }) (onto_line c l.whole l.rest)).whole
    ++ (cond b (record { whole = (10 ∷ []) ∷ l.whole; rest = l.rest }) (onto_line c l.whole l.rest)).rest
    ≡ c ∷ (concat l.whole ++ l.rest)
joined_by true c l e = ap (λ (d : ℕ). d ∷ (concat l.whole ++ l.rest)) (sym (eqb-true c 10 e))
joined_by false c l e = onto-joined c l.whole l.rest

pub lines_joined : (b : List ℕ) → concat (lines b).whole ++ (lines b).rest ≡ b
lines_joined [] = refl
lines_joined (c ∷ b) = joined_by (eqb c 10) c (lines b) refl ∙ ap (λ (r : List ℕ). c ∷ r) (lines_joined b)

total : (pieces : List (List ℕ)) → sum_by length pieces ≡ length (concat pieces)
total [] = refl
total (p ∷ ps) = rw sum_by-cons (omega (arith, total ps, length-append p (concat ps)))

less_taken : (j : ℕ) (pieces : List (List ℕ)) → sum_by length (take j pieces) ≤ sum_by length pieces
less_taken zero pieces = omega arith
less_taken (suc j) [] = omega arith
less_taken (suc j) (p ∷ ps) = omega (arith, less_taken j ps, sum_by-cons length p (take j ps), sum_by-cons length p ps)

pub looked_within : (j : ℕ) (b : List ℕ) → sum_by length (take j (lines b).whole) ≤ length b
looked_within j b = omega (arith, less_taken j (lines b).whole, total (lines b).whole, length-append (concat (lines b).whole) (lines b).rest, ap length (lines_joined b))

-- the first lines are the same, and what follows them grows
pub lines_first : (j : ℕ) (b x : List ℕ) → j ≤ length (lines b).whole → take j (lines (b ++ x)).whole ≡ take j (lines b).whole
lines_first j b x le = sym (take-take j (length (lines b).whole) (lines (b ++ x)).whole le) ∙ ap (take j) (lines_stay b x)

pub following-more : (j : ℕ) (b x : List ℕ) → j ≤ length (lines b).whole → following j (b ++ x) ≡ following j b ++ x
following-more j b x le = rw (lines_first j b x le) (drop-append-le (sum_by length (take j (lines b).whole)) b x (looked_within j b))

-- a line feed stays where it is
pub feed_stays : (y x : List ℕ) → feed_at y < length y → feed_at (y ++ x) ≡ feed_at y
feed_stays y x h = position_or_len_is (λ c. eqb c 10) (y ++ x) (feed_at y) 0 (omega (arith, length-append y x))
    (λ k lt. rw (get_or_append_left y x 0 k (omega arith)) (fails_before_first (λ c. eqb c 10) y k 0 lt))
    (λ lt. rw (get_or_append_left y x 0 (feed_at y) h) (passes_at_first (λ c. eqb c 10) y 0 h))

none_else : {A : Type 0} (b : Bool) (x : A) (o : Option A) → cond b (Some x) o ≡ None → (b ≡ false) × (o ≡ None)
none_else true x o e = absurd cc
none_else false x o e = (refl, e)

some_unless : {A : Type 0} (b : Bool) (x : A) → cond b None (Some x) ≡ None → b ≡ true
some_unless true x e = refl
some_unless false x e = absurd cc

-- what asked for nothing asks for nothing once more bytes were got
pub ask_by-more : (s : Status) (k : ℕ) (y x : List ℕ) → ask_by s k y ≡ None → ask_by s k (y ++ x) ≡ None
ask_by-more more zero y x e = absurd cc
ask_by-more more (suc k) y x e =
    let p = none_else (ltb line_limit (feed_at y)) line_too_long (cond (has_feed y) None (Some recv)) e in
    let came : feed_at y < length y = ltb-true _ _ (some_unless (has_feed y) recv p.1) in
    let longer : feed_at y < length (y ++ x) = omega (arith, length-append y x) in
    rw (feed_stays y x came, p.0, lt-ltb (feed_at y) (length (y ++ x)) longer) refl
ask_by-more (done guid flag) k y x e = absurd cc
ask_by-more refused k y x e = absurd cc

pub ask_now-more : (talk : List (List ℕ) → Said) (b x : List ℕ) (w k j : ℕ) → j ≤ length (lines b).whole → ask_now talk b w k j ≡ None → ask_now talk (b ++ x) w k j ≡ None
ask_now-more talk b x w k j le e =
    let said = talk (take j (lines b).whole) in
    let p = none_else (ltb w (sum_by length said.pieces)) (send (piece_rest w said.pieces)) (ask_by said.status k (following j b)) e in
    rw (lines_first j b x le, p.0, drop-append-le (sum_by length (take j (lines b).whole)) b x (looked_within j b)) (ask_by-more said.status k (following j b) x p.1)
