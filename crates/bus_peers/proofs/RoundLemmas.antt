-- What a round wakes, and what the record shows of it.
use Rattle.std.proofs.Common.{◌≡◌, ◌<◌, ◌≤◌, ◌+◌, ℕ, zero, suc, Bool, true, false, ◌||◌, ◌&&◌, eqb, ◌==◌, List, []}
use Rattle.std.proofs.Common.{◌∷◌, ◌++◌, length, map, Option, Some, None, Result, Ok, Err, IsErrAnd, slice_index}
use Rattle.std.proofs.Common.{slice_index_or, nat_cmp, IsSorted, IsPermutation, Decides, refl, sym, ◌∙◌, ap, subst}
use Rattle.std.proofs.Common.{arith}
use Rattle.std.proofs.lemmas.Bool.{eqb-true, or_parts}
use Rattle.std.proofs.lemmas.Grind.{common_steps}
use Rattle.std.proofs.lemmas.Bool.Decides.{same_from_decides}
use Rattle.std.proofs.lemmas.List.{append_assoc, append-nil, map-append}
use Rattle.std.proofs.lemmas.List.Filters.{dedup_is}
use Rattle.std.proofs.lemmas.List.Folds.{list_any-append}
use Rattle.std.proofs.lemmas.List.Kept.{Contains-dedup_nat, Contains-from_dedup}
use Rattle.std.proofs.lemmas.List.Sorted.{Contains-permutation, IsPermutation-sym}
use Rattle.std.proofs.lemmas.Map.Keys.{IsStrictlyIncreasing-dedup}
use Rattle.std.specs.Option.{option_map}
use Rattle.std.specs.List.{Contains, dedup, list_any}
use Rattle.std.specs.List.Retain.{IsFiltered, DiffersFromLast}
use Rattle.std.specs.List.Sorted.{IsStrictlyIncreasing}
use Rattle.react_core.specs.declared.outside.Event.{Event}
use Rattle.react_core.specs.declared.outside.Report.{Report}
use Rattle.react_core.specs.declared.outside.WaitAnswer.{WaitAnswer}
use Rattle.react_core.specs.declared.outside.WaitAnswer.TheVariants as wait_answer
use Rattle.react_core.specs.Places.{Entry, Direction, Source, round_number}
use Rattle.react_core.specs.declared.reactor.ReactError.{ReactError}
use Rattle.react_core.specs.declared.reactor.ReactError.TheVariants as react_err
use Rattle.react_core.specs.declared.outside.Fault.{Fault}
use Rattle.react_core.specs.declared.outside.Fault.TheVariants as fault
use Rattle.react_core.specs.Told.{told, told-nothing, modify_told}
use Rattle.react_core.specs.Core.{Core, ReactorState, timers_applied}
use Rattle.react_core.specs.Timing.{wait_limit, pass_tasks}
use Rattle.react_core.specs.declared.reactor.Counter.TheVariants as counter
use Rattle.react_core.specs.Sources.{source_of}
use Rattle.react_core.specs.Sources as sources_of
use Rattle.react_core.specs.Reports.{marked, without_task, reported, task_of, tasks_of, future_tasks, taken_of}
use Rattle.react_core.specs.Reports.{taken_by, taken_by_all, after_report, after_report_of, after_reports}
use Rattle.react_core.specs.Reports.{armings_by_of, armings_by, armings_by_all, armed_told, Try, tries_told}
use Rattle.react_core.specs.Round.{reports_of, Ran, Course, CourseSteps, Pause, Unwaited, Waited, Reread, Unreread, Unread, Read, course_told, pause_reports, pause_again, NumberedBy, OnExhausted, UnlessExhausted}
use Rattle.react_core.specs.Step.{WokeAll}
use Rattle.bus_peers.specs.declared.rounds.Woken.{Woken}
use Rattle.bus_peers.specs.declared.open.OpenError.{OpenError}
use Rattle.bus_peers.specs.Headline.{open_error}
use Rattle.bus_peers.specs.inside.RoundEvents.{Round, round_told, reading_told, left_after}
use Rattle.bus_visit.specs.Registry.{Held, Side, Idle, Waits, Reported, held_at, registry, arming, waits, told_of, reported_held, after_wait, after_report_held, after_reports_held, Apart, Distinct}
use Rattle.bus_peers.specs.inside.RoundEvents.{rearming, rearming_of}
use Rattle.bus_peers.specs.inside.Due.{RisesFrom}
use Rattle.bus_session.specs.Parts.{part}
use Rattle.bus_peers.specs.inside.Rounds.{WokenBy, Rounded}
use Rattle.bus_peers.specs.inside.Due.{is_in, is_due, due_at, late_at}
use Rattle.bus_peers.specs.inside.Rounds.{round_events}
use Rattle.bus_session.specs.Counts.{waits_in, notices_in}
use Rattle.bus_record.specs.Failing.{Made}
use Rattle.bus_peers.specs.inside.Failures.{IfPoller, RoundFailed}
use Rattle.bus_peers.specs.inside.Slots.{Told, Refuses, RefusedAt, LastRound}
use Rattle.bus_peers.specs.Headline.{MadeTold}
use Rattle.bus_peers.proofs.FrameLemmas.{made-quiet}
use Rattle.bus_peers.proofs.LateTimers.{late-tasks}
use Rattle.react_timers.specs.Live.{due, later, tasks}
use Rattle.bus_visit.specs.Shown.{shown, side_of, place_side, Sane, SanePlace, SaneTask, SaneSource, AllSane, IsBetweenCalls, tags}
use Rattle.bus_peers.proofs.Courses.{RoundCut, rounds-cut, Rounds, course-core, after_round, round_tasks}
use Rattle.bus_visit.specs.laws.Sources.{shown_at, held_at-shown, reported-shown, arming-shown, lone-marked, after_report-shown, after_reports-shown}
use Rattle.bus_visit.specs.laws.Sanity.{sane-at, sane-with}
use Rattle.bus_visit.specs.laws.Tags.{tags-after_reports}
use Rattle.bus_visit.specs.laws.Armings.{arming-quiet, arming-apart}
use Rattle.bus_visit.specs.laws.Records.{registry-append, part-append, waits_in-append, notices_in-append}

-- ---- each once and in order

is_number : (a : ℕ) → (a == a) ≡ true
is_number a = grind (arith, common_steps)

later_in : (x : ℕ) (xs : List ℕ) (w : ℕ) → Contains xs w → Contains (x ∷ xs) w
later_in x xs w (k, lt, at) = (suc k, omega arith, at)

in_go : (w x : ℕ) (xs : List ℕ) (b : Bool) → (x == w) ≡ b → is_in w (x ∷ xs) ≡ true → (is_in w xs ≡ true → Contains xs w) → Contains (x ∷ xs) w
in_go w x xs true e is ih = (0, omega arith, eqb-true x w e)
in_go w x xs false e is ih = later_in x xs w (ih (rw e at is))

contains_from_in : (w : ℕ) (xs : List ℕ) → is_in w xs ≡ true → Contains xs w
contains_from_in w [] is = cc
contains_from_in w (x ∷ xs) is = in_go w x xs (x == w) refl is (contains_from_in w xs)

in_later : (w x : ℕ) (xs : List ℕ) (b : Bool) → (x == w) ≡ b → is_in w xs ≡ true → is_in w (x ∷ xs) ≡ true
in_later w x xs true e is = rw e refl
in_later w x xs false e is = rw e is

in_at : (w : ℕ) (xs : List ℕ) (k : ℕ) → k < length xs → slice_index_or xs k w ≡ w → is_in w xs ≡ true
in_at w [] k lt at = absurd (omega arith)
in_at w (x ∷ xs) zero lt at = let e : (x == w) ≡ true = subst (λ y. (y == w) ≡ true) (sym at) (is_number w) in rw e refl
in_at w (x ∷ xs) (suc k) lt at = in_later w x xs (x == w) refl (in_at w xs k (omega arith) at)

in-decides : (w : ℕ) (xs : List ℕ) → Decides (is_in w xs) (Contains xs w)
in-decides w xs = (contains_from_in w xs, λ h. in_at w xs h.0 h.1 h.2)

in-same : (w : ℕ) (xs ys : List ℕ) → (Contains xs w → Contains ys w) → (Contains ys w → Contains xs w) → is_in w xs ≡ is_in w ys
in-same w xs ys to from = same_from_decides (is_in w xs) (is_in w ys) (in-decides w xs) (λ e. from (contains_from_in w ys e), λ h. (in-decides w ys).1 (to h))

tail_rises : (x : ℕ) (xs : List ℕ) → IsStrictlyIncreasing (x ∷ xs) → IsStrictlyIncreasing xs
tail_rises x xs inc k lt =
    let e : suc k + 1 ≡ suc (k + 1) = omega arith in
    subst (λ j. slice_index xs k < slice_index (x ∷ xs) j) e (inc (suc k) (omega arith))

rises : (low : ℕ) (xs : List ℕ) → IsStrictlyIncreasing xs → (0 < length xs → low ≤ slice_index xs 0) → RisesFrom low xs
rises low [] inc first = tt
rises low (x ∷ xs) inc first =
    (first (omega arith), rises (x + 1) xs (tail_rises x xs inc) (λ some. let next : x < slice_index xs 0 = inc 0 (omega arith) in omega arith))

-- sorted, with one of each, they rise and are the same numbers
pub in-order : (old sorted new : List ℕ) → IsPermutation old sorted → IsSorted nat_cmp sorted → IsFiltered (DiffersFromLast eqb) [] sorted new →
    RisesFrom 0 new × ((w : ℕ) → is_in w new ≡ is_in w old)
in-order old sorted new same order filtered =
    let is : new ≡ dedup eqb sorted = dedup_is eqb sorted new filtered in
    let to : (w : ℕ) → is_in w (dedup eqb sorted) ≡ is_in w old = λ w. in-same w (dedup eqb sorted) old
    (λ h. Contains-permutation sorted old w (IsPermutation-sym old sorted same) (Contains-from_dedup eqb sorted w h))
    (λ h. Contains-dedup_nat sorted w (Contains-permutation old sorted w same h)) in
    let up : RisesFrom 0 (dedup eqb sorted) = rises 0 (dedup eqb sorted) (IsStrictlyIncreasing-dedup sorted order) (λ some. omega arith) in
    rw is (up, to)

-- ---- the re-arming changes nothing that waits

rearming_of-quiet : (o : Option Held) (r : Report) (held : List Held) → registry held (rearming_of o r) ≡ held
rearming_of-quiet None r held = refl
rearming_of-quiet (Some h) r held = arming-quiet (reported_held h r) held

pub rearming-quiet : (now : List Held) (reports : List Report) (held : List Held) → registry held (rearming now reports) ≡ held
rearming-quiet now [] held = refl
rearming-quiet now (r ∷ reports) held = registry-append held (rearming_of (held_at now r.key) r) (rearming (after_report_held now r) reports)
    ∙ (ap (λ x. registry x (rearming (after_report_held now r) reports)) (rearming_of-quiet (held_at now r.key) r held) ∙ rearming-quiet (after_report_held now r) reports held)

reading-quiet : (o : Option ℕ) (held : List Held) → registry held (reading_told o) ≡ held
reading-quiet None held = refl
reading-quiet (Some t) held = refl

wait-held : (a : WaitAnswer) (held : List Held) → after_wait held a ≡ after_reports_held held (reports_of a)
wait-held (wait_answer.Reported reports) held = refl
wait-held wait_answer.Interrupted held = refl
wait-held wait_answer.Failed held = refl

pub round-held : (r : Round) (held : List Held) → registry held (round_events held r) ≡ after_reports_held held (reports_of r.answer)
round-held r held = registry-append held (round_told r) (rearming held (reports_of r.answer))
    ∙ (rearming-quiet held (reports_of r.answer) (registry held (round_told r))
    ∙ (reading-quiet r.second (after_wait held r.answer) ∙ wait-held r.answer held))

-- ---- the reports keep the sources sane, and the wires apart

sane_marked_place : (last task reported : ℕ) (w : Option Entry) → SanePlace task reported last w → SanePlace task (last + 1) last (without_task w)
sane_marked_place last task reported None sane = tt
sane_marked_place last task reported (Some w) sane = (sane.0, omega (arith, sane.0))

sane-marked : (b : Bool) (last task : ℕ) (d : Direction) → Sane (last + 1) last task d → Sane (last + 1) last task (marked b (last + 1) d)
sane-marked true last task d sane = (omega arith, sane_marked_place last task (round_number d.reported) d.polled sane.1, lone-marked true (last + 1) d sane.2)
sane-marked false last task d sane = sane

sane_report_of : (last : ℕ) (sources : List (ℕ × Source)) (r : Report) (o : Option Source) →
    source_of sources r.key ≡ o → AllSane (last + 1) last sources →
    AllSane (last + 1) last (after_report_of (last + 1) sources r o)
sane_report_of last sources r None e sane = sane
sane_report_of last sources r (Some s) e sane =
    let at : SaneSource (last + 1) last s = sane-at (last + 1) last sources r.key s sane e in
    sane-with (last + 1) last sources r.key (reported (last + 1) r s) sane (sane-marked r.read last s.wire s.read at.0, sane-marked r.write last s.wire s.write at.1)

sane-reports : (last : ℕ) (sources : List (ℕ × Source)) (reports : List Report) → AllSane (last + 1) last sources → AllSane (last + 1) last (after_reports (last + 1) sources reports)
sane-reports last sources [] sane = sane
sane-reports last sources (r ∷ reports) sane = sane-reports last (after_report (last + 1) sources r) reports (sane_report_of last sources r (source_of sources r.key) refl sane)

-- ---- the re-arming is what the record shows

rearmed-shown : (last : ℕ) (r : Report) (o : Option Source) →
    ((s : Source) → o ≡ Some s → SaneSource (last + 1) last s) →
    map armed_told (armings_by_of (last + 1) r o) ≡ rearming_of (option_map (shown_at r.key) o) r
rearmed-shown last r None sane = refl
rearmed-shown last r (Some s) sane =
    let at : SaneSource (last + 1) last s = sane s refl in
    arming-shown r.key (reported (last + 1) r s) (lone-marked r.read (last + 1) s.read at.0.2) (lone-marked r.write (last + 1) s.write at.1.2) ∙ ap arming (reported-shown (last + 1) r r.key s)

-- what the reactor arms after reports is what the record shows
rearming-shown : (last : ℕ) (sources : List (ℕ × Source)) (reports : List Report) → AllSane (last + 1) last sources →
    map armed_told (armings_by_all (last + 1) sources reports) ≡ rearming (map shown sources) reports
rearming-shown last sources [] sane = refl
rearming-shown last sources (r ∷ reports) sane =
    let first : List Event = map armed_told (armings_by (last + 1) sources r) in
    let rest : List Event = map armed_told (armings_by_all (last + 1) (after_report (last + 1) sources r) reports) in
    let split : map armed_told (armings_by (last + 1) sources r ++ armings_by_all (last + 1) (after_report (last + 1) sources r) reports) ≡ first ++ rest =
    map-append armed_told (armings_by (last + 1) sources r) (armings_by_all (last + 1) (after_report (last + 1) sources r) reports) in
    let here : first ≡ rearming_of (held_at (map shown sources) r.key) r =
    rearmed-shown last r (source_of sources r.key) (λ s at. sane-at (last + 1) last sources r.key s sane at) ∙ ap (λ o. rearming_of o r) (sym (held_at-shown sources r.key)) in
    let there : rest ≡ rearming (after_report_held (map shown sources) r) reports =
    rearming-shown last (after_report (last + 1) sources r) reports (sane_report_of last sources r (source_of sources r.key) refl sane)
    ∙ ap (λ held. rearming held reports) (after_report-shown (last + 1) sources r) in
    split ∙ (ap (λ x. x ++ rest) here ∙ ap (λ x. rearming_of (held_at (map shown sources) r.key) r ++ x) there)

weaker_place : (last last' task reported : ℕ) (w : Option Entry) → last ≤ last' → SanePlace task reported last w → SanePlace task reported last' w
weaker_place last last' task reported None le sane = tt
weaker_place last last' task reported (Some w) le sane = (omega (arith, le, sane.0), sane.1)

weaker : (round round' last last' task : ℕ) (d : Direction) → round ≤ round' → last ≤ last' → Sane round last task d → Sane round' last' task d
weaker round round' last last' task d le le' sane = (omega (arith, le, sane.0), weaker_place last last' task (round_number d.reported) d.polled le' sane.1, sane.2)

pub sane-weaker : (round round' last last' : ℕ) (sources : List (ℕ × Source)) → round ≤ round' → last ≤ last' → AllSane round last sources → AllSane round' last' sources
sane-weaker round round' last last' [] le le' sane = tt
sane-weaker round round' last last' (s ∷ sources) le le' sane =
    ((weaker round round' last last' s.1.wire s.1.read le le' sane.0.0, weaker round round' last last' s.1.wire s.1.write le le' sane.0.1), sane-weaker round round' last last' sources le le' sane.1)

apart_report_go : (w : ℕ) (h : Held) (held : List Held) (r : Report) (b : Bool) → (h.key == r.key) ≡ b →
    Apart w (h ∷ held) → Apart w (after_report_held held r) → Apart w (after_report_held (h ∷ held) r)
apart_report_go w h held r true e apart ih = rw e apart
apart_report_go w h held r false e apart ih = rw e (apart.0, ih)

apart-report : (w : ℕ) (held : List Held) (r : Report) → Apart w held → Apart w (after_report_held held r)
apart-report w [] r apart = tt
apart-report w (h ∷ held) r apart = apart_report_go w h held r (h.key == r.key) refl apart (apart-report w held r apart.1)

distinct_report_go : (h : Held) (held : List Held) (r : Report) (b : Bool) → (h.key == r.key) ≡ b →
    Distinct (h ∷ held) → Distinct (after_report_held held r) → Distinct (after_report_held (h ∷ held) r)
distinct_report_go h held r true e distinct ih = rw e distinct
distinct_report_go h held r false e distinct ih = rw e (apart-report h.wire held r distinct.0, ih)

distinct-report : (held : List Held) (r : Report) → Distinct held → Distinct (after_report_held held r)
distinct-report [] r distinct = tt
distinct-report (h ∷ held) r distinct = distinct_report_go h held r (h.key == r.key) refl distinct (distinct-report held r distinct.1)

pub distinct-reports : (held : List Held) (reports : List Report) → Distinct held → Distinct (after_reports_held held reports)
distinct-reports held [] distinct = distinct
distinct-reports held (r ∷ reports) distinct = distinct-reports (after_report_held held r) reports (distinct-report held r distinct)

-- ---- the tasks that the reports take are the wires due

abbrev pub named : Report → Held → Bool
named r h = (r.key == h.key) && ((r.read && waits h.read) || (r.write && waits h.write))

-- the report names a direction of the wire that waits
abbrev pub named_at : List Held → Report → ℕ → Bool
named_at held r w = list_any (λ h. (h.wire == w) && named r h) held

-- the keys rise, the first from this number on
abbrev Rising : ℕ → List Held → Type 0
Rising low [] = Unit {0}
Rising low (h ∷ held) = (low ≤ h.key) × Rising (h.key + 1) held

and_false : (x : Bool) → (x && false) ≡ false
and_false true = refl
and_false false = refl

or_false : (x : Bool) → (x || false) ≡ x
or_false true = refl
or_false false = refl

told-side : (b : Bool) (s : Side) → (b && waits s) ≡ false → waits (told_of b s) ≡ waits s
told-side false s e = refl
told-side true Idle e = refl
told-side true Waits e = cc
told-side true Reported e = refl

-- a report that names no waiting direction leaves what is due by the next ones
due-kept : (h : Held) (r : Report) (reports : List Report) → ((r.read && waits h.read) || (r.write && waits h.write)) ≡ false → is_due reports (reported_held h r) ≡ is_due reports h
due-kept h r reports e =
    let n : ((r.read && waits h.read) ≡ false) × ((r.write && waits h.write) ≡ false) = or_parts (r.read && waits h.read) (r.write && waits h.write) e in
    let W : Bool → Bool → Bool = λ p q. list_any (λ next. (next.key == h.key) && ((next.read && p) || (next.write && q))) reports in
    ap (λ p. W p (waits (told_of r.write h.write))) (told-side r.read h.read n.0) ∙ ap (λ q. W (waits h.read) q) (told-side r.write h.write n.1)

here_bools : (x n d d' t : Bool) → (n ≡ false → d' ≡ d) → ((x && (n || d)) || t) ≡ (((x && n) || false) || ((x && d') || t))
here_bools false n d d' t same = refl
here_bools true true d d' t same = refl
here_bools true false d d' t same = ap (λ y. y || t) (sym (same refl))

later_bools : (x n d a b : Bool) → ((x && (n || d)) || (a || b)) ≡ (((x && n) || a) || ((x && d) || b))
later_bools false n d a b = refl
later_bools true true d a b = refl
later_bools true false true true b = refl
later_bools true false true false b = refl
later_bools true false false a b = refl

other_key : (a b low : ℕ) → a < low → low ≤ b → (a == b) ≡ false
other_key a b low lt le = grind (arith, common_steps)

unnamed_here : (h : Held) (r : Report) (x rest : Bool) → (r.key == h.key) ≡ false → rest ≡ false → ((x && named r h) || rest) ≡ false
unnamed_here h r x rest off e = rw (off, and_false x) e

unnamed : (low w : ℕ) (held : List Held) (r : Report) → Rising low held → r.key < low → named_at held r w ≡ false
unnamed low w [] r up lt = refl
unnamed low w (h ∷ held) r up lt =
    unnamed_here h r (h.wire == w) (named_at held r w) (other_key r.key h.key low lt up.0) (unnamed (h.key + 1) w held r up.1 (omega (arith, lt, up.0)))

undue : (low w : ℕ) (held : List Held) (r : Report) (reports : List Report) → Rising low held → r.key < low → due_at held (r ∷ reports) w ≡ due_at held reports w
undue low w [] r reports up lt = refl
undue low w (h ∷ held) r reports up lt =
    rw (other_key r.key h.key low lt up.0, undue (h.key + 1) w held r reports up.1 (omega (arith, lt, up.0))) refl

flip_true : (a b : ℕ) → (a == b) ≡ true → (b == a) ≡ true
flip_true a b e = grind (arith, common_steps)

flip_false : (a b : ℕ) → (a == b) ≡ false → (b == a) ≡ false
flip_false a b e = grind (arith, common_steps)

named_false : (h : Held) (r : Report) → (r.key == h.key) ≡ true → named r h ≡ false → ((r.read && waits h.read) || (r.write && waits h.write)) ≡ false
named_false h r on e = rw on at e

due_go : (low w : ℕ) (h : Held) (held : List Held) (r : Report) (reports : List Report) (b : Bool) → (h.key == r.key) ≡ b → Rising low (h ∷ held) →
    due_at held (r ∷ reports) w ≡ (named_at held r w || due_at (after_report_held held r) reports w) →
    due_at (h ∷ held) (r ∷ reports) w ≡ (named_at (h ∷ held) r w || due_at (after_report_held (h ∷ held) r) reports w)
due_go low w h held r reports true e up ih =
    let k : h.key ≡ r.key = eqb-true h.key r.key e in
    let lt : r.key < h.key + 1 = omega arith in
    let same : named r h ≡ false → is_due reports (reported_held h r) ≡ is_due reports h = λ off. due-kept h r reports (named_false h r (flip_true h.key r.key e) off) in
    rw (e, undue (h.key + 1) w held r reports up.1 lt, unnamed (h.key + 1) w held r up.1 lt)
    (here_bools (h.wire == w) (named r h) (is_due reports h) (is_due reports (reported_held h r)) (due_at held reports w) same)
due_go low w h held r reports false e up ih =
    rw (e, ih) (later_bools (h.wire == w) (named r h) (is_due reports h) (named_at held r w) (due_at (after_report_held held r) reports w))

-- what is due by reports is what the first names, or what is due by the next ones then
pub due-first : (low w : ℕ) (held : List Held) (r : Report) (reports : List Report) → Rising low held →
    due_at held (r ∷ reports) w ≡ (named_at held r w || due_at (after_report_held held r) reports w)
due-first low w [] r reports up = refl
due-first low w (h ∷ held) r reports up = due_go low w h held r reports (h.key == r.key) refl up (due-first (h.key + 1) w held r reports up.1)

pub due-none : (w : ℕ) (held : List Held) → due_at held [] w ≡ false
due-none w [] = refl
due-none w (h ∷ held) = rw (and_false, due-none w held) refl

rising_go : (low : ℕ) (h : Held) (held : List Held) (r : Report) (b : Bool) → (h.key == r.key) ≡ b →
    Rising low (h ∷ held) → Rising (h.key + 1) (after_report_held held r) →
    Rising low (after_report_held (h ∷ held) r)
rising_go low h held r true e up ih = rw e up
rising_go low h held r false e up ih = rw e (up.0, ih)

rising-report : (low : ℕ) (held : List Held) (r : Report) → Rising low held → Rising low (after_report_held held r)
rising-report low [] r up = tt
rising-report low (h ∷ held) r up = rising_go low h held r (h.key == r.key) refl up (rising-report (h.key + 1) held r up.1)

rising-shown : (low : ℕ) (sources : List (ℕ × Source)) → sources_of.RisesFrom low sources → Rising low (map shown sources)
rising-shown low [] up = tt
rising-shown low (s ∷ sources) up = (up.0, rising-shown (s.0 + 1) sources up.1)

taken_task : (w task reported since : ℕ) (o : Option ℕ) → SaneTask task reported since o →
    is_in w (task_of (Some (record { since = since; task = o }))) ≡
    (waits (place_side (Some (record { since = since; task = o }))) && (task == w))
taken_task w task reported since None sane = refl
taken_task w task reported since (Some stored) sane = or_false (stored == w) ∙ ap (λ x. x == w) sane.0

taken_place : (w task last reported : ℕ) (p : Option Entry) → SanePlace task reported last p → is_in w (task_of p) ≡ (waits (place_side p) && (task == w))
taken_place w task last reported None sane = refl
taken_place w task last reported (Some p) sane = taken_task w task reported p.since p.task sane.1

-- where no future waits, the polled task is the only one
tasks-lone : (d : Direction) → d.futures ≡ [] → tasks_of d ≡ task_of d.polled
tasks-lone d none = ap (λ futures. task_of d.polled ++ future_tasks futures) none ∙ append-nil (task_of d.polled)

taken_side : (w round last task : ℕ) (b : Bool) (d : Direction) → Sane round last task d → is_in w (taken_of b d) ≡ ((b && waits (side_of d)) && (task == w))
taken_side w round last task true d sane = ap (is_in w) (tasks-lone d sane.2) ∙ taken_place w task last (round_number d.reported) d.polled sane.1
taken_side w round last task false d sane = refl

two_sides : (c d x : Bool) → ((c && x) || (d && x)) ≡ (x && (d || c))
two_sides true true true = refl
two_sides true true false = refl
two_sides true false true = refl
two_sides true false false = refl
two_sides false true true = refl
two_sides false true false = refl
two_sides false false true = refl
two_sides false false false = refl

taken_source : (w round last : ℕ) (r : Report) (s : Source) → SaneSource round last s →
    is_in w (taken_of r.write s.write ++ taken_of r.read s.read) ≡ ((s.wire == w) && ((r.read && waits (side_of s.read)) || (r.write && waits (side_of s.write))))
taken_source w round last r s sane =
    let split : is_in w (taken_of r.write s.write ++ taken_of r.read s.read) ≡
    (is_in w (taken_of r.write s.write) || is_in w (taken_of r.read s.read)) =
    list_any-append (λ x. x == w) (taken_of r.write s.write) (taken_of r.read s.read) in
    split ∙ (ap (λ x. x || is_in w (taken_of r.read s.read)) (taken_side w round last s.wire r.write s.write sane.1)
    ∙ (ap (λ x. ((r.write && waits (side_of s.write)) && (s.wire == w)) || x) (taken_side w round last s.wire r.read s.read sane.0)
    ∙ two_sides (r.write && waits (side_of s.write)) (r.read && waits (side_of s.read)) (s.wire == w)))

taken_go : (w round last low : ℕ) (s : ℕ × Source) (sources : List (ℕ × Source)) (r : Report) (b : Bool) → (s.0 == r.key) ≡ b → SaneSource round last s.1 → Rising low (map shown (s ∷ sources)) →
    is_in w (taken_by sources r) ≡ named_at (map shown sources) r w → is_in w (taken_by (s ∷ sources) r) ≡ named_at (map shown (s ∷ sources)) r w
taken_go w round last low s sources r true e sane up ih =
    let k : s.0 ≡ r.key = eqb-true s.0 r.key e in
    let lt : r.key < s.0 + 1 = omega arith in
    rw (e, flip_true s.0 r.key e, unnamed (s.0 + 1) w (map shown sources) r up.1 lt) (taken_source w round last r s.1 sane ∙ sym (or_false _))
taken_go w round last low s sources r false e sane up ih = rw (e, flip_false s.0 r.key e, and_false (s.1.wire == w)) ih

taken-named : (w round last low : ℕ) (sources : List (ℕ × Source)) (r : Report) → AllSane round last sources →
    Rising low (map shown sources) → is_in w (taken_by sources r) ≡ named_at (map shown sources) r w
taken-named w round last low [] r sane up = refl
taken-named w round last low (s ∷ sources) r sane up =
    taken_go w round last low s sources r (s.0 == r.key) refl sane.0 up (taken-named w round last (s.0 + 1) sources r sane.1 up.1)

taken-due : (w last low : ℕ) (sources : List (ℕ × Source)) (reports : List Report) → AllSane (last + 1) last sources → Rising low (map shown sources) →
    is_in w (taken_by_all (last + 1) sources reports) ≡ due_at (map shown sources) reports w
taken-due w last low sources [] sane up = sym (due-none w (map shown sources))
taken-due w last low sources (r ∷ reports) sane up =
    let next : List (ℕ × Source) = after_report (last + 1) sources r in
    let at : map shown next ≡ after_report_held (map shown sources) r = after_report-shown (last + 1) sources r in
    let up' : Rising low (map shown next) = rw at (rising-report low (map shown sources) r up) in
    let rest : is_in w (taken_by_all (last + 1) next reports) ≡ due_at (map shown next) reports w =
    taken-due w last low next reports (sane_report_of last sources r (source_of sources r.key) refl sane) up' in
    list_any-append (λ x. x == w) (taken_by sources r) (taken_by_all (last + 1) next reports)
    ∙ (ap (λ x. x || is_in w (taken_by_all (last + 1) next reports)) (taken-named w (last + 1) last low sources r sane up)
    ∙ (ap (λ x. named_at (map shown sources) r w || x) (rest ∙ ap (λ held. due_at held reports w) at)
    ∙ sym (due-first low w (map shown sources) r reports up)))

-- the tasks stand behind those that were woken before
pub woken-all : (old new : Woken) (tasks : List ℕ) → WokeAll WokenBy old tasks new → new.lost ≡ false → (old.lost ≡ false) × (new.tasks.items ≡ old.tasks.items ++ tasks)
woken-all old new [] same kept = (rw same at kept, ap (λ x. x.tasks.items) same ∙ sym (append-nil old.tasks.items))
woken-all old new (task ∷ tasks) (mid, one, more) kept =
    let rest : (mid.lost ≡ false) × (new.tasks.items ≡ mid.tasks.items ++ tasks) = woken-all mid new tasks more kept in
    let first : (old.lost ≡ false) × (mid.tasks.items ≡ old.tasks.items ++ task ∷ []) = one rest.0 in
    (first.0, rest.1 ∙ (ap (λ x. x ++ tasks) first.1 ∙ append_assoc old.tasks.items (task ∷ []) tasks))

-- ---- a whole round

-- the timers that a round leaves
round-timers : (old : Core) (first : ℕ) (reports : List Report) (again : Option ℕ) →
    timers_applied (after_round old first reports again) ≡ left_after again (later first (timers_applied old))
round-timers old first reports None = refl
round-timers old first reports (Some moment) = refl

or_turn : (a b c : Bool) → ((a || b) || c) ≡ (b || (a || c))
or_turn true true c = refl
or_turn true false c = refl
or_turn false true c = refl
or_turn false false c = refl

-- the tasks that it wakes are the wires due and those of the timers due
round-due : (w low : ℕ) (old : Core) (r : Round) → AllSane (old.ticker + 1) old.ticker old.sources →
    Rising low (map shown old.sources) →
    is_in w (round_tasks old r.first (reports_of r.answer) r.second)
    ≡ (due_at (map shown old.sources) (reports_of r.answer) w || late_at (timers_applied old) r.first r.second w)
round-due w low old r sane up =
    let first : List ℕ = tasks (due r.first (timers_applied old)) in
    let taken : List ℕ = taken_by_all (old.ticker + 1) old.sources (reports_of r.answer) in
    let second : List ℕ = pass_tasks r.second (later r.first (timers_applied old)) [] in
    list_any-append (λ x. x == w) (first ++ taken) second
    ∙ (ap (λ b. b || is_in w second) (list_any-append (λ x. x == w) first taken)
    ∙ (or_turn (is_in w first) (is_in w taken) (is_in w second)
    ∙ (ap (λ b. b || (is_in w first || is_in w second)) (taken-due w old.ticker low old.sources (reports_of r.answer) sane up)
    ∙ ap (λ b. due_at (map shown old.sources) (reports_of r.answer) w || b)
    (late-tasks w r.first r.second (timers_applied old)))))

-- the wires of these woken tasks, each once and in order, are those that the round makes due
pub rounded : (r0 r1 : Option (List Event)) (m0 m1 : ℕ) (old new : Core) (before after : Woken) (woken : List ℕ)
    (r : Round) → Rounds WokenBy r0 r1 m0 m1 old new before after r → IsBetweenCalls old →
    sources_of.RisesFrom 0 old.sources → before.tasks.items ≡ [] →
    (after.lost ≡ false) × RisesFrom 0 woken × ((w : ℕ) → is_in w woken ≡ is_in w after.tasks.items) →
    Rounded r0 r1 m0 m1 old new woken r
rounded r0 r1 m0 m1 old new before after woken r round rests up none ordered =
    let reports : List Report = reports_of r.answer in
    let tasks : List ℕ = round_tasks old r.first reports r.second in
    let sane : AllSane (old.ticker + 1) old.ticker old.sources =
    sane-weaker old.ticker (old.ticker + 1) old.ticker old.ticker old.sources (omega arith) (omega arith) rests.sane in
    let all : (before.lost ≡ false) × (after.tasks.items ≡ before.tasks.items ++ tasks) =
    woken-all before after tasks round.woken ordered.0 in
    let items : after.tasks.items ≡ tasks = all.1 ∙ ap (λ x. x ++ tasks) none in
    record {
      form = round.form;
      waited = round.waited;
      gained = round.gained ∙ ap (λ x. told r0 (round_told r ++ x)) (rearming-shown old.ticker old.sources reports sane);
      clock = round.clock;
      shows = round-held r (map shown old.sources)
          ∙ (sym (after_reports-shown (old.ticker + 1) old.sources reports) ∙ ap (λ c. map shown c.sources) (sym round.core));
      timers = ap timers_applied round.core ∙ round-timers old r.first reports r.second;
      due = record {
        rise = ordered.1;
        each = λ w. ordered.2 w ∙ (ap (is_in w) items ∙ round-due w 0 old r sane (rising-shown 0 old.sources up));
      };
      rests = rw round.core (record {
        sane = sane-weaker (old.ticker + 1) (old.ticker + 1) old.ticker (old.ticker + 1)
            (after_reports (old.ticker + 1) old.sources reports) (omega arith) (omega arith)
            (sane-reports old.ticker old.sources reports sane);
        distinct = rw (after_reports-shown (old.ticker + 1) old.sources reports)
            (distinct-reports (map shown old.sources) reports rests.distinct);
        idle = refl;
        fits = rests.fits;
      });
      ticker = ap (λ c. c.ticker) round.core;
      made = ap (λ c. c.made) round.core;
      begun = ap (λ c. c.begun) round.core;
    }

-- ---- a round that is refused

pub round-tags : {W : Type 0} (woke : W → ℕ → W → Type 0) (r0 r1 : Option (List Event)) (m0 m1 : ℕ)
    (old new : Core) (wakes wakes' : W) (r : Round) → Rounds woke r0 r1 m0 m1 old new wakes wakes' r →
    tags new.sources ≡ tags old.sources
round-tags woke r0 r1 m0 m1 old new wakes wakes' r round =
    ap (λ c. tags c.sources) round.core ∙ tags-after_reports (old.ticker + 1) old.sources (reports_of r.answer)

course_tags : (old new : Core) (timeout : Option ℕ) (course : Course) (tasks : List ℕ) →
    CourseSteps old timeout course tasks new → tags new.sources ≡ tags old.sources
course_tags old new timeout Unread tasks steps = ap (λ c. tags c.sources) steps.core
course_tags old new timeout (Read first pause) tasks steps =
    ap (λ c. tags c.sources) (course-core old new timeout first pause tasks steps)
    ∙ tags-after_reports (old.ticker + 1) old.sources (pause_reports pause)

course_made : (old new : Core) (timeout : Option ℕ) (course : Course) (tasks : List ℕ) →
    CourseSteps old timeout course tasks new → new.made ≡ old.made
course_made old new timeout Unread tasks steps = ap (λ c. c.made) steps.core
course_made old new timeout (Read first pause) tasks steps =
    ap (λ c. c.made) (course-core old new timeout first pause tasks steps)

-- what a refused round came to
abbrev pub RanSo : Bool → Option (List Event) → Option (List Event) → ℕ → ℕ → ReactorState → ReactorState → Woken → Woken → ReactError → Type 0
RanSo ample r0 r1 m0 m1 old new wakes wakes' e = (course : Course) × (tries : List Try) × Ran WokenBy None ample r0 r1 m0 m1 old new wakes wakes' (Err e) course tries

abbrev pub Same : ReactorState → ReactorState → Option (List Event) → Option (List Event) → Woken → Woken → ℕ → ℕ → Type 0
Same old new r0 r1 wakes wakes' m0 m1 = (new ≡ old) × (wakes' ≡ wakes) × (r1 ≡ r0) × (m1 ≡ m0)

ran_tags : {ample : Bool} (r0 r1 : Option (List Event)) (m0 m1 : ℕ) (old new : ReactorState) (wakes wakes' : Woken)
    (e : ReactError) → RanSo ample r0 r1 m0 m1 old new wakes wakes' e → tags new.core.sources ≡ tags old.core.sources
ran_tags r0 r1 m0 m1 old new wakes wakes' e (course, tries, ran) = course_tags old.core new.core None course ran.tasks ran.steps

pub refused-tags : (ample : Bool) (r0 r1 : Option (List Event)) (m0 m1 : ℕ) (old new : ReactorState) (wakes wakes' : Woken)
    (e : ReactError) → UnlessExhausted {T = Unit {0}} (Err e) (RanSo ample r0 r1 m0 m1 old new wakes wakes' e) →
    OnExhausted {T = Unit {0}} (Err e) (Same old new r0 r1 wakes wakes' m0 m1) → tags new.core.sources ≡ tags old.core.sources
refused-tags ample r0 r1 m0 m1 old new wakes wakes' react_err.Poller ran same = ran_tags r0 r1 m0 m1 old new wakes wakes' react_err.Poller ran
refused-tags ample r0 r1 m0 m1 old new wakes wakes' react_err.OutOfMemory ran same = ran_tags r0 r1 m0 m1 old new wakes wakes' react_err.OutOfMemory ran
refused-tags ample r0 r1 m0 m1 old new wakes wakes' (react_err.Exhausted c value) ran same = ap (λ x. tags x.core.sources) same.0

-- an arming is no round
modify_waits : (wire key : ℕ) (read write : Bool) (answer : Result (Unit {0}) Fault) → waits_in (modify_told wire key read write answer) ≡ 0
modify_waits wire key read write (Ok v) = refl
modify_waits wire key read write (Err fault.Failed) = refl
modify_waits wire key read write (Err fault.OutOfMemory) = refl

tries_waits : (tries : List Try) → waits_in (tries_told tries) ≡ 0
tries_waits [] = refl
tries_waits (t ∷ tries) = waits_in-append (modify_told t.0.wire t.0.key t.0.read t.0.write t.1) (tries_told tries)
    ∙ (ap (λ n. n + waits_in (tries_told tries)) (modify_waits t.0.wire t.0.key t.0.read t.0.write t.1) ∙ ap (λ n. 0 + n) (tries_waits tries))

-- nor a notice
modify_notices : (wire key : ℕ) (read write : Bool) (answer : Result (Unit {0}) Fault) →
    notices_in (modify_told wire key read write answer) ≡ 0
modify_notices wire key read write (Ok v) = refl
modify_notices wire key read write (Err fault.Failed) = refl
modify_notices wire key read write (Err fault.OutOfMemory) = refl

tries_notices : (tries : List Try) → notices_in (tries_told tries) ≡ 0
tries_notices [] = refl
tries_notices (t ∷ tries) =
    notices_in-append (modify_told t.0.wire t.0.key t.0.read t.0.write t.1) (tries_told tries)
    ∙ (ap (λ n. n + notices_in (tries_told tries)) (modify_notices t.0.wire t.0.key t.0.read t.0.write t.1)
    ∙ ap (λ n. 0 + n) (tries_notices tries))

course_quiet : (limit : ℕ → Option ℕ) (course : Course) → notices_in (course_told limit course) ≡ 0
course_quiet limit Unread = refl
course_quiet limit (Read first Unwaited) = refl
course_quiet limit (Read first (Waited answer)) = refl
course_quiet limit (Read first (Reread answer moment)) = refl
course_quiet limit (Read first (Unreread answer)) = refl

course_notices : (limit : ℕ → Option ℕ) (course : Course) (tries : List Try) →
    notices_in (course_told limit course ++ tries_told tries) ≡ 0
course_notices limit course tries =
    notices_in-append (course_told limit course) (tries_told tries)
    ∙ (ap (λ n. n + notices_in (tries_told tries)) (course_quiet limit course) ∙ ap (λ n. 0 + n) (tries_notices tries))

-- one Wait was told
paused_waits : (limit : ℕ → Option ℕ) (first : ℕ) (pause : Pause) (tries : List Try) → waits_in (course_told limit (Read first pause)) ≡ 1 →
    waits_in (course_told limit (Read first pause) ++ tries_told tries) ≡ 1
paused_waits limit first pause tries one = waits_in-append (course_told limit (Read first pause)) (tries_told tries)
    ∙ (ap (λ n. n + waits_in (tries_told tries)) one ∙ ap (λ n. 1 + n) (tries_waits tries))

-- how long a round waits that begins there
abbrev limit_of : ReactorState → ℕ → Option ℕ
limit_of old first = wait_limit old.core first None

paused_told : {ample : Bool} (r0 r1 : Option (List Event)) (m0 m1 : ℕ) (old new : ReactorState) (wakes wakes' : Woken) (first : ℕ)
    (pause : Pause) (tries : List Try) → Ran WokenBy None ample r0 r1 m0 m1 old new wakes wakes' (Err react_err.Poller)
    (Read first pause) tries →
    new.core.hands ≡ None → waits_in (course_told (limit_of old) (Read first pause)) ≡ 1 → Told r0 r1 old.core new.core (course_told (limit_of old) (Read first pause) ++ tries_told tries)
paused_told r0 r1 m0 m1 old new wakes wakes' first pause tries ran closed one =
    let core : new.core ≡ after_round old.core first (pause_reports pause) (pause_again pause) =
    course-core old.core new.core None first pause ran.tasks ran.steps in record {
      gained = ran.gained;
      made = omega (arith, ap (λ c. c.made) core, course_notices (limit_of old) (Read first pause) tries);
      closed = closed;
      ticker = ap (λ c. c.ticker) core ∙ ap (λ n. old.core.ticker + n) (sym (paused_waits (limit_of old) first pause tries one));
    }

poller_told : {ample : Bool} (r0 r1 : Option (List Event)) (m0 m1 : ℕ) (old new : ReactorState) (wakes wakes' : Woken)
    (course : Course) (tries : List Try) → Ran WokenBy None ample r0 r1 m0 m1 old new wakes wakes' (Err react_err.Poller)
    course tries → new.core.hands ≡ None →
    Told r0 r1 old.core new.core (course_told (limit_of old) course ++ tries_told tries)
poller_told r0 r1 m0 m1 old new wakes wakes' Unread tries ran closed = let e = ran.answers in absurd cc
poller_told r0 r1 m0 m1 old new wakes wakes' (Read first Unwaited) tries ran closed = let e = ran.answers in absurd cc
poller_told r0 r1 m0 m1 old new wakes wakes' (Read first (Waited answer)) tries ran closed = paused_told r0 r1 m0 m1 old new wakes wakes' first (Waited answer) tries ran closed refl
poller_told r0 r1 m0 m1 old new wakes wakes' (Read first (Reread answer moment)) tries ran closed = paused_told r0 r1 m0 m1 old new wakes wakes' first (Reread answer moment) tries ran closed refl
poller_told r0 r1 m0 m1 old new wakes wakes' (Read first (Unreread answer)) tries ran closed = paused_told r0 r1 m0 m1 old new wakes wakes' first (Unreread answer) tries ran closed refl

poller_refused : {ample : Bool} (r0 r1 : Option (List Event)) (m0 m1 : ℕ) (old new : ReactorState) (wakes wakes' : Woken) →
    RanSo ample r0 r1 m0 m1 old new wakes wakes' react_err.Poller → new.core.hands ≡ None → (more : List Event) ×
    Told r0 r1 old.core new.core more
poller_refused r0 r1 m0 m1 old new wakes wakes' (course, tries, ran) closed =
    (course_told (limit_of old) course ++ tries_told tries, poller_told r0 r1 m0 m1 old new wakes wakes' course tries ran closed)

memory_refused : {ample : Bool} (r0 r1 : Option (List Event)) (m0 m1 : ℕ) (old new : ReactorState) (wakes wakes' : Woken) →
    RanSo ample r0 r1 m0 m1 old new wakes wakes' react_err.OutOfMemory → (more : List Event) × (r1 ≡ told r0 more)
memory_refused r0 r1 m0 m1 old new wakes wakes' (course, tries, ran) = (course_told (limit_of old) course ++ tries_told tries, ran.gained)

same_told : (r0 r1 : Option (List Event)) (old new : ReactorState) → new ≡ old → r1 ≡ r0 → new.core.hands ≡ None → Told r0 r1 old.core new.core []
same_told r0 r1 old new same events closed = record {
  gained = events ∙ told-nothing r0;
  made = omega (arith, ap (λ x. x.core.made) same);
  closed = closed;
  ticker = ap (λ x. x.core.ticker) same ∙ omega arith;
}

refused_by : (ample : Bool) (r0 r1 : Option (List Event)) (m0 m1 : ℕ) (old new : ReactorState) (wakes wakes' : Woken)
    (e : ReactError) → UnlessExhausted {T = Unit {0}} (Err e) (RanSo ample r0 r1 m0 m1 old new wakes wakes' e) →
    OnExhausted {T = Unit {0}} (Err e) (Same old new r0 r1 wakes wakes' m0 m1) →
    NumberedBy {T = Unit {0}} counter.Round (Err e) old.core.ticker → new.core.hands ≡ None →
    RefusedAt (open_error e) r0 r1 old.core new.core
refused_by ample r0 r1 m0 m1 old new wakes wakes' react_err.Poller ran same numbered closed = poller_refused r0 r1 m0 m1 old new wakes wakes' ran closed
refused_by ample r0 r1 m0 m1 old new wakes wakes' react_err.OutOfMemory ran same numbered closed = (closed, memory_refused r0 r1 m0 m1 old new wakes wakes' ran)
refused_by ample r0 r1 m0 m1 old new wakes wakes' (react_err.Exhausted c value) ran same numbered closed = (
  numbered.1,
  subst (λ k. LastRound k new.core) (sym numbered.0) (ap (λ x. x.core.ticker) same.0 ∙ numbered.2),
  ([], same_told r0 r1 old new same.0 same.2 closed),
)

-- an answer of this refusal
pub round-refused : {T : Type 0} (ample : Bool) (result : Result T OpenError) (r0 r1 : Option (List Event)) (m0 m1 : ℕ)
    (old new : ReactorState) (wakes wakes' : Woken) (e : ReactError) → IsErrAnd result (λ x. x ≡ open_error e) →
    UnlessExhausted {T = Unit {0}} (Err e) (RanSo ample r0 r1 m0 m1 old new wakes wakes' e) →
    OnExhausted {T = Unit {0}} (Err e) (Same old new r0 r1 wakes wakes' m0 m1) → NumberedBy {T = Unit {0}} counter.Round (Err e) old.core.ticker → new.core.hands ≡ None → Refuses result r0 r1 old.core new.core
round-refused ample (Ok v) r0 r1 m0 m1 old new wakes wakes' e is ran same numbered closed = tt
round-refused ample (Err x) r0 r1 m0 m1 old new wakes wakes' e is ran same numbered closed =
    subst (λ y. RefusedAt y r0 r1 old.core new.core) (sym is) (refused_by ample r0 r1 m0 m1 old new wakes wakes' e ran same numbered closed)

-- a round makes no timer
pub round-made : (ample : Bool) (r0 r1 : Option (List Event)) (m0 m1 : ℕ) (old new : ReactorState)
    (wakes wakes' : Woken) (answer : Result (Unit {0}) ReactError) (course : Course) (tries : List Try) →
    Ran WokenBy None ample r0 r1 m0 m1 old new wakes wakes' answer course tries → MadeTold old.core new.core r0 r1
round-made ample r0 r1 m0 m1 old new wakes wakes' answer course tries ran =
    made-quiet r0 r1 old.core new.core (course_told (limit_of old) course ++ tries_told tries) ran.gained
    (course_made old.core new.core None course ran.tasks ran.steps) (course_notices (limit_of old) course tries)

ran_made : {ample : Bool} (r0 r1 : Option (List Event)) (m0 m1 : ℕ) (old new : ReactorState) (wakes wakes' : Woken)
    (e : ReactError) → RanSo ample r0 r1 m0 m1 old new wakes wakes' e → MadeTold old.core new.core r0 r1
ran_made {ample} r0 r1 m0 m1 old new wakes wakes' e (course, tries, ran) =
    round-made ample r0 r1 m0 m1 old new wakes wakes' (Err e) course tries ran

pub refused-made : (ample : Bool) (r0 r1 : Option (List Event)) (m0 m1 : ℕ) (old new : ReactorState)
    (wakes wakes' : Woken) (e : ReactError) →
    UnlessExhausted {T = Unit {0}} (Err e) (RanSo ample r0 r1 m0 m1 old new wakes wakes' e) →
    OnExhausted {T = Unit {0}} (Err e) (Same old new r0 r1 wakes wakes' m0 m1) → MadeTold old.core new.core r0 r1
refused-made ample r0 r1 m0 m1 old new wakes wakes' react_err.Poller ran same =
    ran_made r0 r1 m0 m1 old new wakes wakes' react_err.Poller ran
refused-made ample r0 r1 m0 m1 old new wakes wakes' react_err.OutOfMemory ran same =
    ran_made r0 r1 m0 m1 old new wakes wakes' react_err.OutOfMemory ran
refused-made ample r0 r1 m0 m1 old new wakes wakes' (react_err.Exhausted c value) ran same =
    made-quiet r0 r1 old.core new.core [] (same.2 ∙ told-nothing r0) (ap (λ x. x.core.made) same.0) refl

-- ---- a round leaves each session where it stands

rearming_of-apart : (w : ℕ) (o : Option Held) (r : Report) → part w (rearming_of o r) ≡ []
rearming_of-apart w None r = refl
rearming_of-apart w (Some h) r = arming-apart (reported_held h r) w

rearming-apart : (w : ℕ) (held : List Held) (reports : List Report) → part w (rearming held reports) ≡ []
rearming-apart w held [] = refl
rearming-apart w held (r ∷ reports) = part-append w (rearming_of (held_at held r.key) r) (rearming (after_report_held held r) reports)
    ∙ (ap (λ x. x ++ part w (rearming (after_report_held held r) reports)) (rearming_of-apart w (held_at held r.key) r) ∙ rearming-apart w (after_report_held held r) reports)

reading-apart : (w : ℕ) (o : Option ℕ) → part w (reading_told o) ≡ []
reading-apart w None = refl
reading-apart w (Some t) = refl

pub round-apart : (w : ℕ) (held : List Held) (r : Round) → part w (round_events held r) ≡ []
round-apart w held r = part-append w (round_told r) (rearming held (reports_of r.answer))
    ∙ (ap (λ x. x ++ part w (rearming held (reports_of r.answer))) (reading-apart w r.second) ∙ rearming-apart w held (reports_of r.answer))

report_go : (x : Held) (held : List Held) (r : Report) (k : ℕ) (h : Held) (b c : Bool) → (x.key == r.key) ≡ b → (x.key == k) ≡ c → held_at (x ∷ held) k ≡ Some h →
    (held_at held k ≡ Some h → (h' : Held) × (held_at (after_report_held held r) k ≡ Some h') × (h'.wire ≡ h.wire)) →
    (h' : Held) × (held_at (after_report_held (x ∷ held) r) k ≡ Some h') × (h'.wire ≡ h.wire)
report_go x held r k h true true e f is ih =
    let here : Some x ≡ Some h = rw f at is in let g : x ≡ h = cc in (reported_held x r, rw (e, f) refl, ap (λ y. y.wire) g)
report_go x held r k h true false e f is ih = let there : held_at held k ≡ Some h = rw f at is in (h, rw (e, f) there, refl)
report_go x held r k h false true e f is ih = let here : Some x ≡ Some h = rw f at is in (h, rw (e, f) here, refl)
report_go x held r k h false false e f is ih = rw (e, f) (ih (rw f at is))

report-at : (held : List Held) (r : Report) (k : ℕ) (h : Held) → held_at held k ≡ Some h → (h' : Held) × (held_at (after_report_held held r) k ≡ Some h') × (h'.wire ≡ h.wire)
report-at [] r k h is = (h, is, refl)
report-at (x ∷ held) r k h is = report_go x held r k h (x.key == r.key) (x.key == k) refl refl is (report-at held r k h)

reports_from : (held : List Held) (reports : List Report) (k : ℕ) (h : Held) →
    ((h1 : Held) → held_at held k ≡ Some h1 → (h2 : Held) × (held_at (after_reports_held held reports) k ≡ Some h2) ×
    (h2.wire ≡ h1.wire)) →
    (h' : Held) × (held_at held k ≡ Some h') × (h'.wire ≡ h.wire) → (h2 : Held) × (held_at (after_reports_held held reports) k ≡ Some h2) × (h2.wire ≡ h.wire)
reports_from held reports k h next (h', is, same) = (let z = next h' is in (z.0, z.1, z.2 ∙ same))

pub reports-at : (held : List Held) (reports : List Report) (k : ℕ) (h : Held) → held_at held k ≡ Some h → (h' : Held) × (held_at (after_reports_held held reports) k ≡ Some h') × (h'.wire ≡ h.wire)
reports-at held [] k h is = (h, is, refl)
reports-at held (r ∷ reports) k h is = reports_from (after_report_held held r) reports k h (λ h1 at. reports-at (after_report_held held r) reports k h1 at) (report-at held r k h is)

-- ---- a round in which a call of the poller failed

pub round-failed : (ample : Bool) (r0 r1 : Option (List Event)) (m0 m1 : ℕ) (old new : ReactorState)
    (wakes wakes' : Woken) (e : ReactError) → IsBetweenCalls old.core →
    UnlessExhausted {T = Unit {0}} (Err e) (RanSo ample r0 r1 m0 m1 old new wakes wakes' e) →
    IfPoller (open_error e) ((r : Round) × (rearmed : List Event) × RoundFailed ample r0 r1 old.core new.core r rearmed)
round-failed ample r0 r1 m0 m1 old new wakes wakes' react_err.OutOfMemory rests ran = tt
round-failed ample r0 r1 m0 m1 old new wakes wakes' (react_err.Exhausted c value) rests ran = tt
round-failed ample r0 r1 m0 m1 old new wakes wakes' react_err.Poller rests (course, tries, ran) =
    failed_so (rounds-cut WokenBy ample r0 r1 m0 m1 old new wakes wakes' course tries ran)
  where
    ran_ticker : (course : Course) (tries : List Try) →
        Ran WokenBy None ample r0 r1 m0 m1 old new wakes wakes' (Err react_err.Poller) course tries →
        new.core.ticker ≡ old.core.ticker + 1
    ran_ticker Unread tries ran = absurd (let e = ran.answers in cc)
    ran_ticker (Read first pause) tries ran =
        ap (λ c. c.ticker) (course-core old.core new.core None first pause ran.tasks ran.steps)

    failed_so : (r : Round) × (rearmed : List Event) × RoundCut ample r0 r1 old.core r rearmed →
        (r : Round) × (rearmed : List Event) × RoundFailed ample r0 r1 old.core new.core r rearmed
    failed_so (r, rearmed, x) =
        let M : List Event → Type 0 = λ calls. Made ample calls rearmed in
        let sane : AllSane (old.core.ticker + 1) old.core.ticker old.core.sources =
        sane-weaker old.core.ticker (old.core.ticker + 1) old.core.ticker old.core.ticker old.core.sources
        (omega arith) (omega arith) rests.sane in (
          r,
          rearmed,
          record {
            waited = x.waited;
            read = x.read;
            gained = x.gained;
            made = subst M (rearming-shown old.core.ticker old.core.sources (reports_of r.answer) sane) x.made;
            failed = x.failed;
            ticker = ran_ticker course tries ran;
          },
        )
