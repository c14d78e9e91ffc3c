-- The place at which the next question is asked.
use Rattle.std.proofs.Common.{◌≡◌, ℕ, zero, suc, ◌+◌, ◌-◌, ◌<◌, ◌≤◌, Bool, true, false, cond, ltb, List}
use Rattle.std.proofs.Common.{◌++◌, length, take, Option, Some, None, refl, sym, subst, arith}
use Rattle.std.specs.Prelude.{sum_by}
use Rattle.std.proofs.lemmas.Bool.{ltb-true, ltb-false, lt-ltb}
use Rattle.std.proofs.lemmas.List.{length-append}
use Rattle.bus_opening.specs.Limits.{command_limit}
use Rattle.bus_opening.specs.Lines.{lines, long, has_feed, feed_at, following}
use Rattle.bus_opening.specs.Talk.{Said, Status, more, done, refused, Ask, send, recv, opens, handshake}
use Rattle.bus_opening.specs.Talk.{too_many_commands, line_too_long, piece_rest, ask_more, ask_by, ask_now, ask_from, ask}
use Rattle.bus_cutting.proofs.LineLemmas.{line_follows, lines_first, following-more, feed_stays}

-- ---- why something is asked, or nothing

-- at this place a line is to be looked at
pub record Passes (said : Said) (w k : ℕ) (y : List ℕ) : Type 0 where
  pub sent : sum_by length said.pieces ≤ w
  pub goes : said.status ≡ more
  pub few : 0 < k
  pub short : long y ≡ false
  pub fed : has_feed y ≡ true

-- why this is asked there
abbrev pub Because : Ask → Said → ℕ → ℕ → List ℕ → Type 0
Because (send piece) said w k y = (w < sum_by length said.pieces) × (piece ≡ piece_rest w said.pieces)
Because recv said w k y =
    (sum_by length said.pieces ≤ w) × (said.status ≡ more) × (0 < k) × (long y ≡ false) × (has_feed y ≡ false)
Because (opens guid flag) said w k y = (sum_by length said.pieces ≤ w) × (said.status ≡ done guid flag)
Because handshake said w k y = (sum_by length said.pieces ≤ w) × (said.status ≡ refused)
Because too_many_commands said w k y = (sum_by length said.pieces ≤ w) × (said.status ≡ more) × (k ≡ 0)
Because line_too_long said w k y =
    (sum_by length said.pieces ≤ w) × (said.status ≡ more) × (0 < k) × (long y ≡ true)

abbrev pub Why : Option Ask → Said → ℕ → ℕ → List ℕ → Type 0
Why None said w k y = Passes said w k y
Why (Some a) said w k y = Because a said w k y

by_feed : (f : Bool) (said : Said) (w k : ℕ) (y : List ℕ) → sum_by length said.pieces ≤ w → said.status ≡ more →
    0 < k → long y ≡ false → has_feed y ≡ f → Why (cond f None (Some recv)) said w k y
by_feed true said w k y sent goes few short e =
    record { sent = sent; goes = goes; few = few; short = short; fed = e }
by_feed false said w k y sent goes few short e = (sent, goes, few, short, e)

by_long : (l : Bool) (said : Said) (w k : ℕ) (y : List ℕ) → sum_by length said.pieces ≤ w → said.status ≡ more →
    0 < k → long y ≡ l → Why (cond l (Some line_too_long) (cond (has_feed y) None (Some recv))) said w k y
by_long true said w k y sent goes few e = (sent, goes, few, e)
by_long false said w k y sent goes few e = by_feed (has_feed y) said w k y sent goes few e refl

by_more : (said : Said) (w k : ℕ) (y : List ℕ) → sum_by length said.pieces ≤ w → said.status ≡ more →
    Why (ask_more k y) said w k y
by_more said w zero y sent goes = (sent, goes, refl)
by_more said w (suc k) y sent goes = by_long (long y) said w (suc k) y sent goes (omega arith) refl

by_status : (s : Status) (said : Said) (w k : ℕ) (y : List ℕ) → sum_by length said.pieces ≤ w → said.status ≡ s →
    Why (ask_by s k y) said w k y
by_status more said w k y sent e = by_more said w k y sent e
by_status (done guid flag) said w k y sent e = (sent, e)
by_status refused said w k y sent e = (sent, e)

by_sent : (b : Bool) (said : Said) (w k : ℕ) (y : List ℕ) → ltb w (sum_by length said.pieces) ≡ b →
    Why (cond b (Some (send (piece_rest w said.pieces))) (ask_by said.status k y)) said w k y
by_sent true said w k y e = (ltb-true _ _ e, refl)
by_sent false said w k y e = by_status said.status said w k y (ltb-false _ _ e) refl

pub why : (talk : List (List ℕ) → Said) (b : List ℕ) (w k j : ℕ) →
    Why (ask_now talk b w k j) (talk (take j (lines b).whole)) w k (following j b)
why talk b w k j =
    by_sent (ltb w (sum_by length (talk (take j (lines b).whole)).pieces)) (talk (take j (lines b).whole)) w k
    (following j b) refl

-- ---- where it is asked

-- a line is looked at behind each of the first j
abbrev pub Passed : (List (List ℕ) → Said) → List ℕ → ℕ → ℕ → Type 0
Passed talk b w j =
    (i : ℕ) → i < j → Passes (talk (take i (lines b).whole)) w (command_limit - i) (following i b)

-- this is asked behind so many lines
pub record AskedAt (talk : List (List ℕ) → Said) (b : List ℕ) (w : ℕ) (a : Ask) : Type 0 where
  pub count : ℕ
  pub few : count ≤ command_limit
  pub came : count ≤ length (lines b).whole
  pub passed : Passed talk b w count
  pub because : Because a (talk (take count (lines b).whole)) w (command_limit - count) (following count b)

before_or_at : (i j : ℕ) → i < j + 1 → (b : Bool) → ltb i j ≡ b → (P : ℕ → Type 0) → ((i : ℕ) → i < j → P i) → P j → P i
before_or_at i j lt true e P before at = before i (ltb-true _ _ e)
before_or_at i j lt false e P before at =
    let same : i ≡ j = omega (arith, ltb-false _ _ e) in
    rw same at

module _ (talk : List (List ℕ) → Said) (b : List ℕ) (w : ℕ) where
  found : (a : Ask) (k j : ℕ) → k + j ≡ command_limit → j ≤ length (lines b).whole → Passed talk b w j →
      Because a (talk (take j (lines b).whole)) w k (following j b) → AskedAt talk b w a
  found a k j e came passed because =
      let n : command_limit - j ≡ k = omega arith in
      record {
        count = j;
        few = omega arith;
        came = came;
        passed = passed;
        because = rw n because;
      }

  one_more : (k j : ℕ) → suc k + j ≡ command_limit →
      Passes (talk (take j (lines b).whole)) w (suc k) (following j b) → Passed talk b w j → Passed talk b w (j + 1)
  one_more k j e here passed i lt =
      let n : command_limit - j ≡ suc k = omega arith in
      before_or_at i j lt (ltb i j) refl
      (λ i. Passes (talk (take i (lines b).whole)) w (command_limit - i) (following i b)) passed (rw n here)

  at_end : (o : Option Ask) (j : ℕ) → ask_now talk b w zero j ≡ o → zero + j ≡ command_limit →
      j ≤ length (lines b).whole → Passed talk b w j →
      Why o (talk (take j (lines b).whole)) w zero (following j b) → AskedAt talk b w (ask_from talk b w zero j)
  unfolding ask_from
  at_end None j is e came passed here = absurd (omega (arith, here.few))
  at_end (Some a) j is e came passed here = rw is (found a zero j e came passed here)

  not_end : (o : Option Ask) (k j : ℕ) → ask_now talk b w (suc k) j ≡ o → suc k + j ≡ command_limit →
      j ≤ length (lines b).whole → Passed talk b w j →
      Why o (talk (take j (lines b).whole)) w (suc k) (following j b) →
      (j + 1 ≤ length (lines b).whole → Passed talk b w (j + 1) → AskedAt talk b w (ask_from talk b w k (j + 1))) →
      AskedAt talk b w (ask_from talk b w (suc k) j)
  unfolding ask_from
  not_end None k j is e came passed here others =
      rw is (others (omega (arith, line_follows j b here.fed)) (one_more k j e here passed))
  not_end (Some a) k j is e came passed here others = rw is (found a (suc k) j e came passed here)

  asked_from : (k j : ℕ) → k + j ≡ command_limit → j ≤ length (lines b).whole → Passed talk b w j →
      AskedAt talk b w (ask_from talk b w k j)
  asked_from zero j e came passed = at_end (ask_now talk b w zero j) j refl e came passed (why talk b w zero j)
  asked_from (suc k) j e came passed =
      not_end (ask_now talk b w (suc k) j) k j refl e came passed (why talk b w (suc k) j)
      (λ more all. asked_from k (j + 1) (omega arith) more all)

  -- something is asked at some place
  pub asked_at : AskedAt talk b w (ask talk b w)
  unfolding ask
  asked_at = asked_from command_limit 0 (omega arith) (omega arith) (λ i lt. absurd (omega (arith, lt)))

-- nothing is asked where a line is looked at
but_passed : (a : Ask) (said : Said) (w k : ℕ) (y : List ℕ) → Because a said w k y → Passes said w k y → ⊥
but_passed (send piece) said w k y b p = omega (arith, b.0, p.sent)
but_passed recv said w k y b p = let fed = p.fed in let unfed = b.4 in cc
but_passed (opens guid flag) said w k y b p = let goes = p.goes in let ends = b.1 in cc
but_passed handshake said w k y b p = let goes = p.goes in let ends = b.1 in cc
but_passed too_many_commands said w k y b p = omega (arith, b.2, p.few)
but_passed line_too_long said w k y b p = let short = p.short in let long = b.3 in cc

by_place : (c : Bool) (talk : List (List ℕ) → Said) (b : List ℕ) (w j : ℕ) (a : Ask) (at : AskedAt talk b w a) →
    Passed talk b w j → ltb at.count j ≡ c → j ≤ at.count
by_place true talk b w j a at passed e = absurd (but_passed a (talk (take at.count (lines b).whole)) w
    (command_limit - at.count) (following at.count b) at.because (passed at.count (ltb-true _ _ e)))
by_place false talk b w j a at passed e = ltb-false _ _ e

pub not_earlier : (talk : List (List ℕ) → Said) (b : List ℕ) (w j : ℕ) (a : Ask) (at : AskedAt talk b w a) →
    Passed talk b w j → j ≤ at.count
not_earlier talk b w j a at passed = by_place (ltb at.count j) talk b w j a at passed refl

-- ---- more bytes

-- a line that is looked at is looked at once more bytes are taken
pub passes-later : (said : Said) (w v k : ℕ) (y : List ℕ) → w ≤ v → Passes said w k y → Passes said v k y
passes-later said w v k y le p =
    record { sent = omega (arith, le, p.sent); goes = p.goes; few = p.few; short = p.short; fed = p.fed }

-- and once more bytes came
pub passes-more : (said : Said) (w k : ℕ) (y x : List ℕ) → Passes said w k y → Passes said w k (y ++ x)
passes-more said w k y x p =
    let stays : feed_at (y ++ x) ≡ feed_at y = feed_stays y x (ltb-true _ _ p.fed) in
    record {
      sent = p.sent;
      goes = p.goes;
      few = p.few;
      short = rw stays p.short;
      fed = lt-ltb _ _ (omega (arith, stays, length-append y x, ltb-true _ _ p.fed));
    }

pub passed-later : (talk : List (List ℕ) → Said) (b : List ℕ) (w v j : ℕ) → w ≤ v → Passed talk b w j → Passed talk b v j
passed-later talk b w v j le passed i lt =
    passes-later (talk (take i (lines b).whole)) w v (command_limit - i) (following i b) le (passed i lt)

pub passed-more : (talk : List (List ℕ) → Said) (b x : List ℕ) (w j : ℕ) → j ≤ length (lines b).whole →
    Passed talk b w j → Passed talk (b ++ x) w j
passed-more talk b x w j le passed i lt =
    let first = lines_first i b x (omega (arith, lt, le)) in
    let then_on = following-more i b x (omega (arith, lt, le)) in
    subst (λ (ls : List (List ℕ)). Passes (talk ls) w (command_limit - i) (following i (b ++ x))) (sym first)
    (subst (λ (y : List ℕ). Passes (talk (take i (lines b).whole)) w (command_limit - i) y) (sym then_on)
    (passes-more (talk (take i (lines b).whole)) w (command_limit - i) (following i b) x (passed i lt)))
