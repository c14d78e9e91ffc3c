-- What comes of a conversation, by the place at which the next question is asked.
use Rattle.std.proofs.Common.{◌≡◌, ℕ, ◌+◌, ◌-◌, ◌<◌, ◌≤◌, true, false, eqb, List, []}
use Rattle.std.proofs.Common.{◌∷◌, ◌++◌, length, take, Option, Some, None, refl, ap, ◌∙◌, arith}
use Rattle.std.specs.List.{concat}
use Rattle.std.specs.Option.{option_and_then}
use Rattle.std.proofs.lemmas.Bool.{ltb-true, ltb-false, le-ltb, lt-ltb, ne_eqb}
use Rattle.std.proofs.lemmas.List.{append-nil, length-append}
use Rattle.bus_opening.specs.Limits.{command_limit}
use Rattle.bus_opening.specs.Lines.{lines, long, has_feed, feed_at, following}
use Rattle.bus_opening.specs.Talk.{Said, more}
use Rattle.bus_session.specs.declared.ended.Ending.{Ending}
use Rattle.bus_session.specs.declared.ended.Ending.TheVariants as ending
use Rattle.bus_cutting.specs.Converse.{Final, Place, place, overflows, front, is_more, is_last, ending_by}
use Rattle.bus_cutting.specs.Converse.{ending_at_final, conversed_at, conversed}
use Rattle.bus_cutting.proofs.Found.{find_first}
use Rattle.bus_cutting.proofs.LineLemmas.{total, lines_first, following-more, feed_stays}
use Rattle.bus_cutting.proofs.Growing.{IsFront}
use Rattle.bus_cutting.proofs.Asked.{Passes}

-- ---- a place, however many bytes came

-- a place of what was said and what follows
abbrev pub of_said : ℕ → Said → List ℕ → Place
of_said j said y = record { count = j; sent = concat said.pieces; status = said.status; rest = y }

-- the place when more bytes came
pub place-more : (talk : List (List ℕ) → Said) (b x : List ℕ) (j : ℕ) → j ≤ length (lines b).whole →
    place talk (b ++ x) j ≡ of_said j (talk (take j (lines b).whole)) (following j b ++ x)
place-more talk b x j le =
    ap (λ (ls : List (List ℕ)). of_said j (talk ls) (following j (b ++ x))) (lines_first j b x le)
    ∙ ap (of_said j (talk (take j (lines b).whole))) (following-more j b x le)

-- ---- the room

pub fits-less : (room : Option ℕ) (a b : List ℕ) → length a ≤ length b → overflows room b ≡ false →
    overflows room a ≡ false
fits-less None a b le fits = refl
fits-less (Some n) a b le fits = le-ltb n (length a) (omega (arith, ltb-false _ _ fits))

all_sent : (a rest : List ℕ) → length (a ++ rest) ≤ length a → a ++ rest ≡ a
all_sent a [] le = append-nil a
all_sent a (c ∷ rest) le = absurd (omega (arith, le, length-append a (c ∷ rest)))

-- what is no longer than its front is its front
pub sent_is : (written sent : List ℕ) → IsFront written sent → length sent ≤ length written → sent ≡ written
sent_is written sent f le = f.1 ∙ all_sent written f.0 (rw f.1 at le)

-- ---- which place is the last

looks_on : (room : Option ℕ) (p : Place) → overflows room p.sent ≡ false → p.status ≡ more →
    eqb p.count command_limit ≡ false → long p.rest ≡ false → has_feed p.rest ≡ true → is_last room p ≡ false
looks_on room p fits goes few short fed = rw (fits, goes, few, short, fed) refl

-- a place at which a line is looked at isn't the last
pub passed_by : (room : Option ℕ) (said : Said) (written : List ℕ) (j : ℕ) (y x : List ℕ) → j ≤ command_limit →
    overflows room written ≡ false → Passes said (length written) (command_limit - j) y →
    is_last room (of_said j said (y ++ x)) ≡ false
passed_by room said written j y x few fits p =
    let stays : feed_at (y ++ x) ≡ feed_at y = feed_stays y x (ltb-true _ _ p.fed) in
    let short : long (y ++ x) ≡ false = rw stays p.short in
    looks_on room (of_said j said (y ++ x))
    (fits-less room (concat said.pieces) written (omega (arith, p.sent, total said.pieces)) fits) p.goes
    (ne_eqb j command_limit (λ e. absurd (omega (arith, e, p.few)))) short
    (lt-ltb _ _ (omega (arith, stays, length-append y x, ltb-true _ _ p.fed)))

-- what comes of it at a place that is the first last one
pub at_last : (talk : List (List ℕ) → Said) (inbound : List ℕ) (fin : Final) (room : Option ℕ) (j : ℕ) →
    j ≤ command_limit → ((i : ℕ) → i < j → is_last room (place talk inbound i) ≡ false) →
    is_last room (place talk inbound j) ≡ true →
    conversed talk inbound fin room ≡ conversed_at fin room (place talk inbound j)
unfolding conversed
at_last talk inbound fin room j few before last =
    let z : (i : ℕ) → 0 + i ≡ i = λ i. omega arith in
    ap (option_and_then (λ j. conversed_at fin room (place talk inbound j)))
    (find_first (λ j. is_last room (place talk inbound j)) (command_limit + 1) 0 j (omega (arith, few))
    (λ i lt. rw (z i) (before i lt)) (rw (z j) last)
    ∙ ap (λ (m : ℕ). Some m) (z j))

-- ---- what comes of it at the place that asks

pub over_by : (room : Option ℕ) (p : Place) → overflows room p.sent ≡ true → is_last room p ≡ true
over_by room p over = rw over refl

pub told_by : (room : Option ℕ) (p : Place) → overflows room p.sent ≡ false → is_more p.status ≡ false → is_last room p ≡ true
told_by room p fits told = rw (fits, told) refl

pub many_by : (room : Option ℕ) (p : Place) → overflows room p.sent ≡ false → p.status ≡ more →
    eqb p.count command_limit ≡ true → is_last room p ≡ true
many_by room p fits goes many = rw (fits, goes, many) refl

pub long_by : (room : Option ℕ) (p : Place) → overflows room p.sent ≡ false → p.status ≡ more →
    eqb p.count command_limit ≡ false → long p.rest ≡ true → is_last room p ≡ true
long_by room p fits goes few long = rw (fits, goes, few, long) refl

pub unfed_by : (room : Option ℕ) (p : Place) → overflows room p.sent ≡ false → p.status ≡ more →
    eqb p.count command_limit ≡ false → long p.rest ≡ false → has_feed p.rest ≡ false → is_last room p ≡ true
unfed_by room p fits goes few short unfed = rw (fits, goes, few, short, unfed) refl

pub sent_at : (fin : Final) (room : Option ℕ) (p : Place) (e : Ending) (written : List ℕ) →
    overflows room p.sent ≡ false → p.sent ≡ written → ending_by p.status p fin ≡ Some e →
    conversed_at fin room p ≡ Some (record { ending = e; written = written })
sent_at fin room p e written fits sent ends = rw (fits, ends, sent) refl

pub full_at : (fin : Final) (room : Option ℕ) (p : Place) (written : List ℕ) → overflows room p.sent ≡ true →
    front room p.sent ≡ written → conversed_at fin room p ≡ Some (record { ending = ending.Io; written = written })
full_at fin room p written over taken = rw (over, taken) refl

pub many_ends : (p : Place) (fin : Final) → p.status ≡ more → eqb p.count command_limit ≡ true →
    ending_by p.status p fin ≡ Some ending.TooManyCommands
many_ends p fin goes many = rw (goes, many) refl

pub long_ends : (p : Place) (fin : Final) → p.status ≡ more → eqb p.count command_limit ≡ false → long p.rest ≡ true →
    ending_by p.status p fin ≡ Some ending.LineTooLong
long_ends p fin goes few long = rw (goes, few, long) refl

pub final_ends : (p : Place) (fin : Final) → p.status ≡ more → eqb p.count command_limit ≡ false → long p.rest ≡ false →
    ending_by p.status p fin ≡ ending_at_final fin
final_ends p fin goes few short = rw (goes, few, short) refl
