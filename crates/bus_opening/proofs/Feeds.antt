-- The next line of what came.
use Rattle.std.proofs.Common.{◌≡◌, ℕ, zero, suc, ◌+◌, ◌<◌, ◌≤◌, Bool, true, false, eqb, ltb, List, [], ◌∷◌, ◌++◌, length, take, drop, refl, sym, ap, ◌∙◌, arith}
use Rattle.std.specs.Prelude.{sum_by}
use Rattle.std.proofs.lemmas.Bool.{eqb-true, ltb-true, ltb-false}
use Rattle.std.proofs.lemmas.List.{length-take, drop-drop}
use Rattle.std.proofs.lemmas.List.Sums.{sum_by-cons, sum_by-append}
use Rattle.bus_opening.specs.Lines.{lines, onto_line, feed_at, following}

-- with a line feed the first line goes up to it
cons_onto : (c : ℕ) (l : List ℕ) (ls : List (List ℕ)) (w : List (List ℕ)) (r : List ℕ) → w ≡ l ∷ ls → (onto_line c w r).whole ≡ (c ∷ l) ∷ ls
cons_onto c l ls w r e = rw e refl

first_of_feed : (b : Bool) (c : ℕ) (bytes : List ℕ) → eqb c 10 ≡ b
    → (feed_at bytes < length bytes → (lines bytes).whole ≡ take (suc (feed_at bytes)) bytes ∷ (lines (drop (suc (feed_at bytes)) bytes)).whole)
    → feed_at (c ∷ bytes) < length (c ∷ bytes) → (lines (c ∷ bytes)).whole ≡ take (suc (feed_at (c ∷ bytes))) (c ∷ bytes) ∷ (lines (drop (suc (feed_at (c ∷ bytes))) (c ∷ bytes))).whole
first_of_feed true c bytes e others h = rw e (ap (λ (d : ℕ). (d ∷ []) ∷ (lines bytes).whole) (sym (eqb-true c 10 e)))
first_of_feed false c bytes e others h =
    let n : feed_at (c ∷ bytes) ≡ suc (feed_at bytes) = rw e (omega arith) in
    let lt : feed_at bytes < length bytes = omega (arith, n, h) in
    rw (n, e) (cons_onto c _ _ (lines bytes).whole (lines bytes).rest (others lt))

pub first_line : (y : List ℕ) → feed_at y < length y → (lines y).whole ≡ take (suc (feed_at y)) y ∷ (lines (drop (suc (feed_at y)) y)).whole
first_line [] h = absurd (omega (arith, h))
first_line (c ∷ y) h = first_of_feed (eqb c 10) c y refl (first_line y) h

-- without one there is no line
none_onto : (c : ℕ) (w : List (List ℕ)) (r : List ℕ) → w ≡ [] → (onto_line c w r).whole ≡ []
none_onto c w r e = rw e refl

none_of_feed : (b : Bool) (c : ℕ) (bytes : List ℕ) → eqb c 10 ≡ b
    → (length bytes ≤ feed_at bytes → (lines bytes).whole ≡ []) → length (c ∷ bytes) ≤ feed_at (c ∷ bytes)
    → (lines (c ∷ bytes)).whole ≡ []
none_of_feed true c bytes e others h = absurd (omega (arith, (rw e at h)))
none_of_feed false c bytes e others h =
    let n : feed_at (c ∷ bytes) ≡ suc (feed_at bytes) = rw e (omega arith) in
    rw e (none_onto c (lines bytes).whole (lines bytes).rest (others (omega (arith, n, h))))

pub no_line : (y : List ℕ) → length y ≤ feed_at y → (lines y).whole ≡ []
no_line [] h = refl
no_line (c ∷ y) h = none_of_feed (eqb c 10) c y refl (no_line y) h

-- a list that is cut at an element
pub record Cut (A : Type 0) (j : ℕ) (xs : List A) (x : A) (ys : List A) : Type 0 where
  pub first : take (suc j) xs ≡ take j xs ++ (x ∷ [])
  pub then_on : drop (suc j) xs ≡ ys
  pub within : j < length xs

pub cut_at : {A : Type 0} (j : ℕ) (xs : List A) (x : A) (ys : List A) → drop j xs ≡ x ∷ ys → Cut A j xs x ys
cut_at {A = A} zero [] x ys e = absurd cc
cut_at {A = A} zero (z ∷ zs) x ys e =
    let same : z ≡ x = cc in
    record { first = ap (λ (u : A). u ∷ []) same; then_on = cc; within = omega arith }
cut_at {A = A} (suc j) [] x ys e = absurd cc
cut_at {A = A} (suc j) (z ∷ zs) x ys e =
    let r = cut_at j zs x ys e in
    record { first = ap (λ (us : List A). z ∷ us) r.first; then_on = r.then_on; within = omega (arith, r.within) }

-- a line more
pub record Next (j : ℕ) (b : List ℕ) (y : List ℕ) : Type 0 where
  pub first : take (suc j) (lines b).whole ≡ take j (lines b).whole ++ (take (suc (feed_at y)) y ∷ [])
  pub then_on : following (suc j) b ≡ drop (suc (feed_at y)) y
  pub others : (lines (following (suc j) b)).whole ≡ drop (suc j) (lines b).whole
  pub within : j < length (lines b).whole

next_by : (j : ℕ) (b : List ℕ) (y : List ℕ) → y ≡ following j b → (lines y).whole ≡ drop j (lines b).whole → feed_at y < length y → Next j b y
next_by j b y e d h =
    let line = take (suc (feed_at y)) y in
    let c = cut_at j (lines b).whole line (lines (drop (suc (feed_at y)) y)).whole (sym d ∙ first_line y h) in
    let n : sum_by length (take (suc j) (lines b).whole) ≡ sum_by length (take j (lines b).whole) + suc (feed_at y) =
    rw c.first (omega (arith, sum_by-append length (take j (lines b).whole) (line ∷ []), sum_by-cons length line [], length-take (suc (feed_at y)) y, h)) in
    let then_on : following (suc j) b ≡ drop (suc (feed_at y)) y =
    ap (λ (m : ℕ). drop m b) n ∙ sym (drop-drop (suc (feed_at y)) (sum_by length (take j (lines b).whole)) b) ∙ ap (drop (suc (feed_at y))) (sym e) in
    record {
      first = c.first;
      then_on = then_on;
      others = ap (λ (z : List ℕ). (lines z).whole) then_on ∙ sym c.then_on;
      within = c.within;
    }

none_left : {A : Type 0} (j : ℕ) (xs : List A) → drop j xs ≡ [] → length xs ≤ j
none_left zero [] e = omega arith
none_left zero (x ∷ xs) e = absurd cc
none_left (suc j) [] e = omega arith
none_left (suc j) (x ∷ xs) e = omega (arith, none_left j xs e)

by_feed : (j : ℕ) (b y : List ℕ) → y ≡ following j b → (lines (following j b)).whole ≡ drop j (lines b).whole → suc j ≤ length (lines b).whole
    → (c : Bool) → ltb (feed_at y) (length y) ≡ c → (lines (following (suc j) b)).whole ≡ drop (suc j) (lines b).whole
by_feed j b y e d le true f = (next_by j b y e (ap (λ (z : List ℕ). (lines z).whole) e ∙ d) (ltb-true _ _ f)).others
by_feed j b y e d le false f =
    let empty : drop j (lines b).whole ≡ [] = sym d ∙ ap (λ (z : List ℕ). (lines z).whole) (sym e) ∙ no_line y (ltb-false _ _ f) in
    absurd (omega (arith, none_left j (lines b).whole empty, le))

lines_follow : (j : ℕ) (b : List ℕ) → j ≤ length (lines b).whole → (lines (following j b)).whole ≡ drop j (lines b).whole
lines_follow zero b le = refl
lines_follow (suc j) b le = by_feed j b (following j b) refl (lines_follow j b (omega arith)) le (ltb (feed_at (following j b)) (length (following j b))) refl

pub next_line : (j : ℕ) (b : List ℕ) (y : List ℕ) → y ≡ following j b → j ≤ length (lines b).whole → feed_at y < length y → Next j b y
next_line j b y e le h = next_by j b y e (ap (λ (z : List ℕ). (lines z).whole) e ∙ lines_follow j b le) h
