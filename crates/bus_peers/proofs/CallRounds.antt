-- The call under way: a round, the visits of those that it makes due, and all rounds.
use Rattle.std.proofs.Common.{◌≡◌, ◌≢◌, ◌<◌, ◌⊎◌, inl, inr, ℕ, ◌+◌, Bool, true, false, ◌&&◌, ◌==◌, List, [], ◌∷◌}
use Rattle.std.proofs.Common.{◌++◌, length, take, map, Option, Some, None, Result, Ok, Err, slice_get, refl, sym, ◌∙◌}
use Rattle.std.proofs.Common.{ap, subst, arith}
use Rattle.std.specs.List.{list_all}
use Rattle.std.proofs.lemmas.Bool.{both_ways, eq-eqb, or_left, or_right, or_cases, and_parts, and_from}
use Rattle.react_core.specs.declared.outside.Event.{Event}
use Rattle.react_core.specs.declared.outside.Report.{Report}
use Rattle.react_core.specs.declared.reactor.Dir.{Dir}
use Rattle.react_core.specs.declared.reactor.Dir.TheVariants.{Read, Write}
use Rattle.react_core.specs.Places.{Source}
use Rattle.react_core.specs.Core.{Core, ReactorState, timers_applied}
use Rattle.react_core.specs.Timing.{wait_limit}
use Rattle.bus_session.specs.Alone.{has_reached}
use Rattle.bus_visit.specs.declared.visiting.Sleeper.{Sleeper}
use Rattle.react_core.specs.Round.{reports_of}
use Rattle.react_core.specs.Told.{told, told-told}
use Rattle.bus_session.specs.declared.session.Session.{Session}
use Rattle.bus_session.specs.Parts.{part}
use Rattle.bus_record.specs.Pieces as pieces
use Rattle.bus_record.specs.Pieces.{Pieces, ◌▸◌, round, rounds_in}
use Rattle.bus_record.specs.Places.{waits, reports, sleeps, is_before, is_early}
use Rattle.bus_record.specs.Settled.{rearming, sleepers, due, is_woken, is_late, timeout_at, turned}
use Rattle.bus_peers.specs.declared.open.OpenError.{OpenError}
use Rattle.bus_peers.specs.declared.open.OpenError.TheVariants as open_err
use Rattle.bus_visit.specs.declared.visiting.Slot.{Slot}
use Rattle.bus_visit.specs.declared.visiting.Slot.TheVariants as slot
use Rattle.bus_session.specs.Counts.{waits_in, notices_in}
use Rattle.bus_peers.specs.inside.Due.{is_in, is_due, due_at, late_at, AreDue}
use Rattle.bus_peers.specs.inside.Rounds.{round_events}
use Rattle.bus_visit.specs.Registry.{Held, held_at, reported_held, after_report_held, arming, waits as held_waits}
use Rattle.bus_peers.proofs.MadeLemmas.{is_quiet_call}
use Rattle.std.proofs.lemmas.List.Folds.{list_all-append}
use Rattle.react_core.specs.declared.outside.Event.TheVariants as event
use Rattle.std.proofs.Common.{if◌then◌else◌, ◌||◌}
use Rattle.bus_peers.specs.inside.RoundEvents.{rearming_of}
use Rattle.bus_peers.specs.inside.RoundEvents.{Round, round_told}
use Rattle.bus_peers.specs.inside.Shows.{Shows}
use Rattle.bus_visit.specs.Shown.{shown, Tags, tags, has_wire}
use Rattle.bus_peers.specs.inside.Rounds.{Rounded, HaveWires, OnExhausted}
use Rattle.bus_peers.specs.inside.Slots.{Owned, Stands, AllStand, CallStands, CallStandsAfter, VisitsKeepCall, RoundKeepsCall, RoundsSettleCall, CallSettled, Told, CallHalted, Stuck}
use Rattle.bus_visit.specs.laws.Records.{waits_in-append, notices_in-append, unnumbered-waits, unnumbered-notices}
use Rattle.bus_visit.specs.laws.Armings.{arming-unnumbered}
use Rattle.bus_peers.specs.inside.Alarms.{Alarmed}
use Rattle.bus_peers.proofs.RoundAlarms.{above-at, late-at-slot, late-none-at, late-stands, late-has}
use Rattle.bus_peers.proofs.WaitLimits.{limit-same}
use Rattle.bus_peers.proofs.RoundLemmas.{round-held, round-apart}
use Rattle.bus_peers.proofs.VisitsInRecord.{part-quiet}
use Rattle.bus_peers.proofs.Standing.{Still, WaitsOn, EarlyOn, stands-move, stand-at, stand-move-at, stand-there, none-there}
use Rattle.bus_peers.proofs.Standing.{whole, sleeps-now, all-rest}
use Rattle.bus_peers.proofs.Sleepers.{sleepers-none, sleepers-some}
use Rattle.bus_peers.proofs.SlotLemmas.{asleep-at}
use Rattle.bus_peers.proofs.RoundRearms.{rearming-same}
use Rattle.bus_peers.proofs.WholeRounds.{rounds-show, woken-are-due, due-wires-are-same, rounds-are-rounds}
use Rattle.bus_peers.specs.inside.RoundEvents as round_events

-- ---- a round

none-rearming_of : (o : Option Held) (r : Report) → waits_in (rearming_of o r) ≡ 0
none-rearming_of None r = refl
none-rearming_of (Some h) r = unnumbered-waits (arming (reported_held h r)) (arming-unnumbered (reported_held h r))

none-rearming : (held : List Held) (reports : List Report) → waits_in (round_events.rearming held reports) ≡ 0
none-rearming held [] = refl
none-rearming held (r ∷ reports) =
    waits_in-append (rearming_of (held_at held r.key) r) (round_events.rearming (after_report_held held r) reports)
    ∙ omega (arith, none-rearming_of (held_at held r.key) r, none-rearming (after_report_held held r) reports)

quiet-arming : (h : Held) → list_all is_quiet_call (arming h) ≡ true
quiet-arming h = go (held_waits h.read || held_waits h.write) where
  go : (b : Bool) →
      list_all is_quiet_call
      (if b then event.Modify h.wire h.key (held_waits h.read) (held_waits h.write) true ∷ [] else []) ≡ true
  go true = refl
  go false = refl

quiet-rearming_of : (o : Option Held) (r : Report) → list_all is_quiet_call (rearming_of o r) ≡ true
quiet-rearming_of None r = refl
quiet-rearming_of (Some h) r = quiet-arming (reported_held h r)

pub quiet-rearming : (held : List Held) (reports : List Report) →
    list_all is_quiet_call (round_events.rearming held reports) ≡ true
quiet-rearming held [] = refl
quiet-rearming held (r ∷ reports) =
    list_all-append is_quiet_call (rearming_of (held_at held r.key) r)
    (round_events.rearming (after_report_held held r) reports)
    ∙ and_from _ _ (quiet-rearming_of (held_at held r.key) r) (quiet-rearming (after_report_held held r) reports)

pub one-wait : (r : Round) (second : Option ℕ) → r.second ≡ second → waits_in (round_told r) ≡ 1
one-wait r None e = rw e refl
one-wait r (Some moment) e = rw e refl

pub round-waits : (held : List Held) (r : Round) → waits_in (round_events held r) ≡ 1
round-waits held r = waits_in-append (round_told r) (round_events.rearming held (reports_of r.answer)) ∙ omega (arith, one-wait r r.second refl, none-rearming held (reports_of r.answer))

none-notices_of : (o : Option Held) (r : Report) → notices_in (rearming_of o r) ≡ 0
none-notices_of None r = refl
none-notices_of (Some h) r = unnumbered-notices (arming (reported_held h r)) (arming-unnumbered (reported_held h r))

none-notices : (held : List Held) (reports : List Report) → notices_in (round_events.rearming held reports) ≡ 0
none-notices held [] = refl
none-notices held (r ∷ reports) =
    notices_in-append (rearming_of (held_at held r.key) r) (round_events.rearming (after_report_held held r) reports)
    ∙ omega (arith, none-notices_of (held_at held r.key) r, none-notices (after_report_held held r) reports)

pub no-notice : (r : Round) (second : Option ℕ) → r.second ≡ second → notices_in (round_told r) ≡ 0
no-notice r None e = rw e refl
no-notice r (Some moment) e = rw e refl

pub round-notices : (held : List Held) (r : Round) → notices_in (round_events held r) ≡ 0
round-notices held r =
    notices_in-append (round_told r) (round_events.rearming held (reports_of r.answer))
    ∙ omega (arith, no-notice r r.second refl, none-notices held (reports_of r.answer))

-- ---- the round as a piece

-- the piece that a round is
abbrev pub piece_of : Round → List Event → pieces.Round
piece_of r rearmed = record { first = r.first; timeout = r.timeout; answer = r.answer; second = r.second; rearmed = rearmed }

pub told_by : (r : Round) (rearmed : List Event) (second : Option ℕ) → r.second ≡ second → pieces.events_of (round (piece_of r rearmed)) ≡ round_told r ++ rearmed
told_by r rearmed None is = rw is refl
told_by r rearmed (Some moment) is = rw is refl

round-still : (w : ℕ) (past : Pieces) (r : pieces.Round) → part w (pieces.events_of (round r)) ≡ [] → Still w past (past ▸ round r)
round-still w past r none = record { key = refl; paused = refl; moment = refl; notified = refl; own = part-quiet w (pieces.told past) (pieces.events_of (round r)) none }

-- a direction that waits still does, or the round has reported it
waits-or-reported : (x : Dir) (w : ℕ) (past : Pieces) (r : pieces.Round) (b : Bool) → reports x w past r ≡ b → waits x w past ≡ true → (waits x w (past ▸ round r) ≡ true) ⊎ (b ≡ true)
waits-or-reported x w past r true is up = inr refl
waits-or-reported x w past r false is up = inl (rw (up, is) refl)

woken-by : (x : Dir) (w : ℕ) (past : Pieces) (r : pieces.Round) → waits x w past ≡ true → reports x w past r ≡ true → is_woken past r w ≡ true
woken-by Read w past r up is = or_left (waits Read w past && reports Read w past r) (waits Write w past && reports Write w past r) (and_from (waits Read w past) (reports Read w past r) up is)
woken-by Write w past r up is = or_right (waits Read w past && reports Read w past r) (waits Write w past && reports Write w past r) (and_from (waits Write w past) (reports Write w past r) up is)

shown-some : (sources : List (ℕ × Source)) → sources ≢ [] → (k : ℕ) × (s : Source) × (rest : List (ℕ × Source)) × (sources ≡ (k, s) ∷ rest)
shown-some [] some = absurd (some refl)
shown-some ((k, s) ∷ sources) some = (k, s, sources, refl)

first-wire : (sources : List (ℕ × Source)) → sources ≢ [] → (w : ℕ) × (has_wire w (tags sources) ≡ true)
first-wire [] some = absurd (some refl)
first-wire (s ∷ sources) some = (s.1.wire, or_left (s.1.wire == s.1.wire) (has_wire s.1.wire (tags sources)) (eq-eqb s.1.wire s.1.wire refl))

-- where a source is left, a session sleeps
pub some-sleeper : (sessions : List Session) (slots : List Slot) (past : Pieces) (core : Core) →
    length slots ≡ length sessions → Owned slots (tags core.sources) → Shows past (map shown core.sources) →
    AllStand 0 [] (take (length slots) sessions) slots past → core.sources ≢ [] → sleepers sessions past ≢ []
some-sleeper sessions slots past core len owned shows stands some =
    let w = first-wire core.sources some in
    let a = asleep-at w.0 slots (tags core.sources) owned w.1 in
    let A : List Session → Type 0 = λ x. AllStand 0 [] x slots past in
    sleepers-some 0 w.0 sessions slots past (map shown core.sources) a.0 shows (subst A (whole sessions slots len) stands) a.1

-- where none is left nobody sleeps
no-sleeper : (sessions : List Session) (slots : List Slot) (past : Pieces) (core : Core) → length slots ≡ length sessions → Shows past (map shown core.sources) →
    AllStand 0 [] (take (length slots) sessions) slots past → core.sources ≡ [] → sleepers sessions past ≡ []
no-sleeper sessions slots past core len shows stands none =
    let A : List Session → Type 0 = λ x. AllStand 0 [] x slots past in
    let S : List (ℕ × Source) → Type 0 = λ x. Shows past (map shown x) in
    sleepers-none 0 sessions slots past (subst S none shows) (subst A (whole sessions slots len) stands)

due-has : (sources : List (ℕ × Source)) (reports : List Report) (w : ℕ) → due_at (map shown sources) reports w ≡ true → has_wire w (tags sources) ≡ true
due-has [] reports w due = due
due-has (s ∷ sources) reports w due = has-go (or_cases ((s.1.wire == w) && is_due reports (shown s)) (due_at (map shown sources) reports w) due) (due-has sources reports w) where
  has-go : (((s.1.wire == w) && is_due reports (shown s)) ≡ true) ⊎ (due_at (map shown sources) reports w ≡ true) →
      (due_at (map shown sources) reports w ≡ true → has_wire w (tags sources) ≡ true) →
      has_wire w (tags (s ∷ sources)) ≡ true
  has-go (inl a) ih = or_left (s.1.wire == w) (has_wire w (tags sources)) (and_parts (s.1.wire == w) (is_due reports (shown s)) a).0
  has-go (inr a) ih = or_right (s.1.wire == w) (has_wire w (tags sources)) (ih a)

-- ---- a round

-- each session that a round makes due sleeps
due-sleep : (sessions : List Session) (slots : List Slot) (past : Pieces) (core : Core) (reports : List Report) → length slots ≡ length sessions → Owned slots (tags core.sources) →
    Shows past (map shown core.sources) → AllStand 0 [] (take (length slots) sessions) slots past → (w : ℕ) → due_at (map shown core.sources) reports w ≡ true →
    (s : Session) × (slice_get sessions w ≡ Some s) × (sleeps s w past ≡ true)
due-sleep sessions slots past core reports len owned shows stands w due =
    let a = asleep-at w slots (tags core.sources) owned (due-has core.sources reports w due) in
    let A : List Session → Type 0 = λ x. AllStand 0 [] x slots past in
    let t = stand-at 0 w w [] sessions slots past (slot.Asleep a.0) (omega arith) a.1 (subst A (whole sessions slots len) stands) in
    (t.0, t.1, sleeps-now t.0 w past (map shown core.sources) a.0 shows t.2)

round-moves : (w : ℕ) (past : Pieces) (p : pieces.Round) (woken : List ℕ) → (is_woken past p w ≡ true → is_in w woken ≡ true) → WaitsOn w [] woken past (past ▸ round p)
round-moves w past p woken due dir (inr none) = absurd (both_ways (is_in w []) refl none)
round-moves w past p woken due dir (inl up) = on (reports dir w past p) refl (waits-or-reported dir w past p (reports dir w past p) refl up) where
  on : (b : Bool) → reports dir w past p ≡ b → (waits dir w (past ▸ round p) ≡ true) ⊎ (b ≡ true) → (waits dir w (past ▸ round p) ≡ true) ⊎ (is_in w woken ≡ true)
  on b is (inl stays) = inl stays
  on b is (inr rep) = inr (due (woken-by dir w past p up (is ∙ rep)))

-- a session that no reading of the round has reached stays early
before_go : (d : Option ℕ) (first : ℕ) (second : Option ℕ) (early : Bool) (a b : Bool) →
    has_reached d (Some first) ≡ a → has_reached d second ≡ b → (a || b) ≡ false → early ≡ true →
    (is_before d (Some first) && (is_before d second && early)) ≡ true
before_go d first second early true b is so none up = absurd (both_ways true none refl)
before_go d first second early false true is so none up = absurd (both_ways true none refl)
before_go d first second early false false is so none up = rw (is, so, up) refl

round-early : (d : Option ℕ) (w : ℕ) (past : Pieces) (p : pieces.Round) (woken : List ℕ) →
    (is_late p d ≡ true → is_in w woken ≡ true) → EarlyOn d w [] woken past (past ▸ round p)
round-early d w past p woken due (inr none) = absurd (both_ways (is_in w []) refl none)
round-early d w past p woken due (inl up) = go (is_late p d) refl where
  go : (b : Bool) → is_late p d ≡ b →
      (is_early d w (past ▸ round p) ≡ true) ⊎ (is_in w woken ≡ true)
  go true is = inr (due is)
  go false is = inl (before_go d p.first p.second (is_early d w past) _ _ refl refl is up)

module _ (sessions : List Session) (slots : List Slot) (past : Pieces) (now : ℕ) (core : Core)
    (len : length slots ≡ length sessions) (shows : Shows past (map shown core.sources))
    (stands : AllStand 0 [] (take (length slots) sessions) slots past) (alarmed : Alarmed now core [] slots) where
  all-stand : AllStand 0 [] sessions slots past
  all-stand = let A : List Session → Type 0 = λ x. AllStand 0 [] x slots past in subst A (whole sessions slots len) stands

  -- a round waits up to the nearest deadline
  pub waits-so : (first : ℕ) → wait_limit core first None ≡ timeout_at sessions past first
  waits-so first =
      limit-same core first alarmed.mark sessions slots past (map shown core.sources) shows all-stand alarmed.above
      alarmed.timers

  -- whose timers are late
  pub late-there : (p : pieces.Round) (w : ℕ) (s : Session) (c : Slot) → slice_get slots w ≡ Some c →
      Stands s w [] past c →
      late_at (timers_applied core) p.first p.second w ≡ (sleeps s w past && is_late p s.deadline)
  late-there p w s c at is =
      ap (λ timers. late_at timers p.first p.second w) alarmed.timers
      ∙ (late-at-slot alarmed.mark p.first p.second 0 w w slots c (omega arith) at
      ∙ late-stands s w alarmed.mark past (map shown core.sources) p c shows is
      (above-at alarmed.mark 0 w w [] slots c (omega arith) at alarmed.above))

  late-session : (p : pieces.Round) (w : ℕ) (s : Session) → slice_get sessions w ≡ Some s →
      late_at (timers_applied core) p.first p.second w ≡ (sleeps s w past && is_late p s.deadline)
  late-session p w s at =
      let c = stand-there 0 w w [] sessions slots past s (omega arith) at all-stand in late-there p w s c.0 c.1 c.2

  late-beyond : (p : pieces.Round) (w : ℕ) → slice_get sessions w ≡ None →
      late_at (timers_applied core) p.first p.second w ≡ false
  late-beyond p w none =
      ap (λ timers. late_at timers p.first p.second w) alarmed.timers
      ∙ late-none-at alarmed.mark p.first p.second 0 w w slots (omega arith)
      (none-there 0 w [] sessions slots past none all-stand)

  -- a session that sleeps and is late is due
  late-due : (p : pieces.Round) (woken : List ℕ) (reports : List Report) (w : ℕ) (s : Session) (sl : Sleeper) →
      AreDue (map shown core.sources) reports (timers_applied core) p.first p.second woken →
      slice_get slots w ≡ Some (slot.Asleep sl) → Stands s w [] past (slot.Asleep sl) → is_late p s.deadline ≡ true →
      is_in w woken ≡ true
  late-due p woken reports w s sl due at is late =
      due.each w
      ∙ or_right (due_at (map shown core.sources) reports w) (late_at (timers_applied core) p.first p.second w)
      (late-there p w s (slot.Asleep sl) at is
      ∙ and_from (sleeps s w past) (is_late p s.deadline)
      (sleeps-now s w past (map shown core.sources) sl shows is) late)

round-more : (sessions : List Session) (rounds n now now' : ℕ) (begin : Core) (before r0 r1 : Option (List Event))
    (old new : Core) (slots : List Slot) (woken : List ℕ) (r : Round) (past : Pieces) →
    length slots ≡ length sessions → Owned slots (tags old.sources) → Alarmed now old [] slots → n < rounds →
    old.sources ≢ [] → rounds_in past ≡ n → CallStands sessions rounds [] begin before r0 old slots past →
    Rounded r0 r1 now now' old new woken r →
    CallStandsAfter sessions rounds woken (n + 1) begin before r1 new slots
round-more sessions rounds n now now' begin before r0 r1 old new slots woken r past len owned alarmed left some count g x =
    let held : List Held = map shown old.sources in
    let answered : List Report = reports_of r.answer in
    let p : pieces.Round = piece_of r (rearming past [] answered) in
    let after : Pieces = past ▸ round p in
    let same : pieces.events_of (round p) ≡ round_events held r =
    told_by r (rearming past [] answered) r.second refl ∙ ap (λ y. round_told r ++ y) (rearming-same past held answered g.shows) in
    let quiet : (w : ℕ) → part w (pieces.events_of (round p)) ≡ [] = λ w. ap (part w) same ∙ round-apart w held r in
    let one : waits_in (pieces.events_of (round p)) ≡ 1 = ap waits_in same ∙ round-waits held r in
    let none : notices_in (pieces.events_of (round p)) ≡ 0 = ap notices_in same ∙ round-notices held r in
    let sleep = due-sleep sessions slots past old answered len owned g.shows g.stands in
    let due-so : (w : ℕ) → is_woken past p w ≡ true → is_in w woken ≡ true =
    λ w is. x.due.each w ∙ or_left (due_at held answered w) (late_at (timers_applied old) p.first p.second w)
    (sym (woken-are-due past held p w g.shows) ∙ is) in (
      after,
      ap (λ k. k + 1) count,
      record {
        gained = x.gained ∙ (ap (told r0) (sym same)
            ∙ (ap (λ y. told y (pieces.events_of (round p))) g.gained ∙ told-told before (pieces.told past) (pieces.events_of (round p))));
        run = turned past p woken g.run (all-rest sessions slots past held len g.shows g.stands)
            (some-sleeper sessions slots past old len owned g.shows g.stands some) (omega (arith, count, left))
            (rounds-are-rounds sessions past held p g.shows
            (x.waited ∙ waits-so sessions slots past now old len g.shows g.stands alarmed r.first) x.form.1 x.form.0
            (rearming-same past held answered g.shows))
            (due-wires-are-same sessions past held p (timers_applied old) woken g.shows sleep
            (λ w s at. late-session sessions slots past now old len g.shows g.stands alarmed p w s at)
            (λ w at. late-beyond sessions slots past now old len g.shows g.stands alarmed p w at) x.due);
        shows = subst (Shows after) (sym (round-held r held) ∙ x.shows) (rounds-show past held p g.shows refl);
        rests = x.rests;
        stands = stand-move-at 0 [] woken (take (length slots) sessions) slots past after
            (λ t i w d here at there is.
            let place : i ≡ w = omega (arith, here) in
            let there' : slice_get slots w ≡ Some d = ap (slice_get slots) (sym place) ∙ there in
            stands-move t w [] woken past after d (round-still w past p (quiet w)) (round-moves w past p woken (due-so w))
            (λ sl e. round-early t.deadline w past p woken
            (late-due sessions slots past now old len g.shows g.stands alarmed p woken answered w t sl x.due
            (there' ∙ ap Some e) (subst (Stands t w [] past) e is))) is) g.stands;
        unused = λ w le. record {
          unvisited = (g.unused w le).unvisited;
          unheard = part-quiet w (pieces.told past) (pieces.events_of (round p)) (quiet w) ∙ (g.unused w le).unheard;
        };
        counted = waits_in-append (pieces.told past) (pieces.events_of (round p)) ∙ omega (arith, one, g.counted);
        ticker = omega (arith, x.ticker, g.ticker);
        made = omega (arith, x.made, g.made, none, notices_in-append (pieces.told past) (pieces.events_of (round p)));
        begun = x.begun ∙ g.begun;
      },
    )

pub round-from : (sessions : List Session) (rounds n now now' : ℕ) (begin : Core) (before r0 r1 : Option (List Event))
    (old new : Core) (slots : List Slot) (woken : List ℕ) (r : Round) → length slots ≡ length sessions →
    Owned slots (tags old.sources) → Alarmed now old [] slots → n < rounds → old.sources ≢ [] →
    Rounded r0 r1 now now' old new woken r → CallStandsAfter sessions rounds [] n begin before r0 old slots →
    CallStandsAfter sessions rounds woken (n + 1) begin before r1 new slots
round-from sessions rounds n now now' begin before r0 r1 old new slots woken r len owned alarmed left some x (past, count, g) =
    round-more sessions rounds n now now' begin before r0 r1 old new slots woken r past len owned alarmed left some count g x

-- a round, and then the visits of those that it makes due
pub going-round : (r0 r1 r2 : Option (List Event)) (now now' : ℕ) (old mid new : Core) (slots slots' : List Slot)
    (woken : List ℕ) → Owned slots (tags old.sources) → Alarmed now old [] slots →
    (r : Round) × Rounded r0 r1 now now' old mid woken r →
    VisitsKeepCall woken [] r1 r2 mid new slots slots' → RoundKeepsCall r0 r2 old new slots slots'
going-round r0 r1 r2 now now' old mid new slots slots' woken owned alarmed (r, x) visits =
    λ sessions rounds n begin before len left some w.
    visits sessions rounds (n + 1) begin before
    (round-from sessions rounds n now now' begin before r0 r1 old mid slots woken r len owned alarmed left some x w)

pub round-told : (r0 r1 : Option (List Event)) (now now' : ℕ) (old new : Core) (woken : List ℕ) →
    (r : Round) × Rounded r0 r1 now now' old new woken r → (m : List Event) × Told r0 r1 old new m
round-told r0 r1 now now' old new woken (r, x) = (
  round_events (map shown old.sources) r,
  record {
    gained = x.gained;
    made = omega (arith, x.made, round-notices (map shown old.sources) r);
    closed = x.rests.idle;
    ticker = omega (arith, x.ticker, round-waits (map shown old.sources) r);
  },
)

have-all : (wires : List ℕ) (ts : Tags) → ((w : ℕ) → is_in w wires ≡ true → has_wire w ts ≡ true) → HaveWires wires ts
have-all [] ts has = refl
have-all (v ∷ wires) ts has = and_from (has_wire v ts) (list_all (λ x. has_wire x ts) wires) (has v (or_left (v == v) (is_in v wires) (eq-eqb v v refl)))
    (have-all wires ts (λ w is. has w (or_right (v == w) (is_in w wires) is)))

-- those that a round makes due are registered
pub round-wires : (r0 r1 : Option (List Event)) (now now' : ℕ) (old new : Core) (slots : List Slot) (woken : List ℕ) →
    Owned slots (tags old.sources) → Alarmed now old [] slots → (r : Round) × Rounded r0 r1 now now' old new woken r →
    tags new.sources ≡ tags old.sources → HaveWires woken (tags new.sources)
round-wires r0 r1 now now' old new slots woken owned alarmed (r, x) same =
    have-all woken (tags new.sources) (λ w is. ap (has_wire w) same ∙ has w (or_cases _ _ (sym (x.due.each w) ∙ is)))
  where
    has : (w : ℕ) → (due_at (map shown old.sources) (reports_of r.answer) w ≡ true)
        ⊎ (late_at (timers_applied old) r.first r.second w ≡ true) → has_wire w (tags old.sources) ≡ true
    has w (inl due) = due-has old.sources (reports_of r.answer) w due
    has w (inr late) =
        late-has w alarmed.mark r.first r.second slots (tags old.sources) owned
        (sym (ap (λ timers. late_at timers r.first r.second w) alarmed.timers) ∙ late)

-- ---- all rounds

-- so many rounds came since the first visits
abbrev pub RoundsKeepCall : ℕ → ℕ → Option (List Event) → Option (List Event) → Core → Core → List Slot → List Slot → Type 0
RoundsKeepCall rounds n r0 r1 old new slots slots' = (sessions : List Session) (begin : Core) (before : Option (List Event)) → length slots ≡ length sessions →
    CallStandsAfter sessions rounds [] 0 begin before r0 old slots → CallStandsAfter sessions rounds [] n begin before r1 new slots'

pub rounds-none : (rounds : ℕ) (r : Option (List Event)) (core : Core) (slots : List Slot) → RoundsKeepCall rounds 0 r r core core slots slots
rounds-none rounds r core slots = λ sessions begin before len w. w

pub rounds-more : (rounds n : ℕ) (r0 r1 r2 : Option (List Event)) (old mid new : Core) (slots slots' slots'' : List Slot) → length slots' ≡ length slots → n < rounds → mid.sources ≢ [] →
    RoundsKeepCall rounds n r0 r1 old mid slots slots' → RoundKeepsCall r1 r2 mid new slots' slots'' → RoundsKeepCall rounds (n + 1) r0 r2 old new slots slots''
rounds-more rounds n r0 r1 r2 old mid new slots slots' slots'' same left some went goes = λ sessions begin before len w.
    goes sessions rounds n begin before (same ∙ len) left some (went sessions begin before len w)

rested : (sessions : List Session) (rounds n : ℕ) (begin : Core) (before after : Option (List Event)) (core : Core)
    (slots : List Slot) → length slots ≡ length sessions → (n ≡ rounds) ⊎ (core.sources ≡ []) →
    CallStandsAfter sessions rounds [] n begin before after core slots → (past : Pieces) × CallSettled sessions rounds begin before after core slots past
rested sessions rounds n begin before after core slots len (inl all) (past, count, g) =
    (past, record { going = g; rest = all-rest sessions slots past (map shown core.sources) len g.shows g.stands; spent = inr (count ∙ all) })
rested sessions rounds n begin before after core slots len (inr none) (past, count, g) =
    (past, record { going = g; rest = all-rest sessions slots past (map shown core.sources) len g.shows g.stands; spent = inl (no-sleeper sessions slots past core len g.shows g.stands none) })

pub rounds-end : (rounds n : ℕ) (r0 r1 : Option (List Event)) (old new : Core) (slots slots' : List Slot) → length slots' ≡ length slots → (n ≡ rounds) ⊎ (new.sources ≡ []) →
    RoundsKeepCall rounds n r0 r1 old new slots slots' → RoundsSettleCall rounds r0 r1 old new slots slots'
rounds-end rounds n r0 r1 old new slots slots' same done went = λ sessions begin before len w.
    rested sessions rounds n begin before r1 new slots' (same ∙ len) done (went sessions begin before len w)

halted : (sessions : List Session) (rounds n : ℕ) (begin : Core) (before after : Option (List Event)) (core : Core)
    (slots : List Slot) → length slots ≡ length sessions → Owned slots (tags core.sources) →
    n < rounds → core.sources ≢ [] → CallStandsAfter sessions rounds [] n begin before after core slots → (past : Pieces) × CallHalted sessions rounds begin before after core slots past
halted sessions rounds n begin before after core slots len owned left some (past, count, g) = (
  past,
  record {
    going = g;
    len = len;
    rest = all-rest sessions slots past (map shown core.sources) len g.shows g.stands;
    sleeper = some-sleeper sessions slots past core len owned g.shows g.stands some;
    left = omega (arith, count, left);
  },
)

-- where the round's number ran out, the call stands where it stood
pub rounds-stuck : {T : Type 0} (result : Result T OpenError) (rounds n : ℕ) (r0 r1 r2 : Option (List Event))
    (old : Core) (mid new : ReactorState) (slots slots' slots'' : List Slot) → length slots' ≡ length slots →
    Owned slots' (tags mid.core.sources) → n < rounds → mid.core.sources ≢ [] →
    RoundsKeepCall rounds n r0 r1 old mid.core slots slots' →
    OnExhausted result ((new ≡ mid) × (r2 ≡ r1) × (slots'' ≡ slots')) →
    Stuck result rounds r0 r2 old new.core slots slots''
rounds-stuck (Ok v) rounds n r0 r1 r2 old mid new slots slots' slots'' same owned left some went halts = tt
rounds-stuck (Err open_err.OutOfMemory) rounds n r0 r1 r2 old mid new slots slots' slots'' same owned left some went halts = tt
rounds-stuck (Err open_err.Poller) rounds n r0 r1 r2 old mid new slots slots' slots'' same owned left some went halts = tt
rounds-stuck (Err (open_err.Exhausted counter value)) rounds n r0 r1 r2 old mid new slots slots' slots'' same owned left some went (of, (core, told', still)) = (
  of,
  λ sessions begin before len w.
      let A : ReactorState → Type 0 = λ x. (past : Pieces) × CallHalted sessions rounds begin before r2 x.core slots'' past in
      let B : Option (List Event) → Type 0 = λ x. (past : Pieces) × CallHalted sessions rounds begin before x mid.core slots'' past in
      let C : List Slot → Type 0 = λ x. (past : Pieces) × CallHalted sessions rounds begin before r1 mid.core x past in
      subst A (sym core)
      (subst B (sym told')
      (subst C (sym still) (halted sessions rounds n begin before r1 mid.core slots' (same ∙ len) owned left some
      (went sessions begin before len w)))),
)
