-- A round as the sources have it is one of the record in pieces.
use Rattle.std.proofs.Common.{◌≡◌, ℕ, Bool, true, false, not, ◌&&◌, ◌||◌, ◌⊎◌, inl, inr}
use Rattle.std.proofs.Common.{List, [], Option, Some, None, map, refl, sym, ◌∙◌, ap, arith}
use Rattle.std.proofs.lemmas.Bool.{both_ways, and_from, or_left, or_right}
use Rattle.std.proofs.lemmas.Option.{none-some, same_Some}
use Rattle.std.specs.Prelude.{is_some, slice_get}
use Rattle.std.specs.Option.{option_map}
use Rattle.react_core.specs.declared.outside.Report.{Report}
use Rattle.react_core.specs.declared.reactor.Dir.{Dir}
use Rattle.react_core.specs.declared.reactor.Dir.TheVariants.{Read, Write}
use Rattle.react_core.specs.Round.{reports_of}
use Rattle.bus_session.specs.declared.session.Session.{Session}
use Rattle.bus_record.specs.Pieces.{Round, round, Pieces, ◌▸◌}
use Rattle.bus_record.specs.Places.{key_of, waits, reports, is_early, stays_armed}
use Rattle.bus_record.specs.Places.{deadline_at, sleeps, sleeps_in}
use Rattle.bus_record.specs.Visits.{here}
use Rattle.bus_record.specs.Settled.{Numbered, numbered, is_woken, is_late, due, IsRound}
use Rattle.bus_record.specs.Settled as settled
use Rattle.bus_visit.specs.Registry.{Held, held_at, side_held, after_reports_held}
use Rattle.react_timers.specs.declared.timer.LiveTimer.{LiveTimer}
use Rattle.bus_peers.specs.inside.Due.{due_at, late_at, is_in, AreDue}
use Rattle.bus_peers.specs.inside.Shows.{Shows, ShowsAsleep}
use Rattle.bus_peers.specs.inside.Laws.{RearmingsAreSame, RoundShows, WokenAreDue, DueWiresAreSame}
use Rattle.bus_peers.specs.inside.Laws.{RoundsAreRounds, PausedSleeps, RoundLeavesAsleep}
use Rattle.bus_peers.proofs.ReportSides.{reports_one, reports-at, reports-wire}
use Rattle.bus_peers.proofs.RisingWires.{rising-same, wires_of, wires-rise, wire-in, no-wire-in, filter-both}
use Rattle.bus_peers.proofs.RoundDue.{woken-due}
use Rattle.bus_peers.proofs.RoundRearms.{rearming-same}
use Rattle.bus_peers.proofs.RoundShows.{round-shows}
use Rattle.bus_peers.proofs.Sides.{side-at, side-waits}

pub rearmings-are-same : RearmingsAreSame
rearmings-are-same past sources reports shows = rearming-same past sources reports shows

pub rounds-show : RoundShows
rounds-show past sources r shows rearmed = round-shows past sources r shows rearmed

pub woken-are-due : WokenAreDue
woken-are-due past sources r wire shows = woken-due past sources r wire shows

-- ---- who is due

-- a session sleeps and is made due
abbrev is_due_so : Pieces → Round → Numbered → Bool
is_due_so past r n =
    sleeps n.session n.wire past && (is_woken past r n.wire || is_late r (deadline_at n.session n.wire past))

due-so : (sleeping late is : Bool) → (is ≡ true → sleeping ≡ true) →
    (sleeping && (is || late)) ≡ (is || (sleeping && late))
due-so true late is asleep = refl
due-so false late true asleep = absurd (both_ways false refl (asleep refl))
due-so false late false asleep = refl

module _ (sessions : List Session) (past : Pieces) (sources : List Held) (r : Round) (timers : List LiveTimer)
    (shows : Shows past sources)
    (asleep : (wire : ℕ) → due_at sources (reports_of r.answer) wire ≡ true →
    (s : Session) × (slice_get sessions wire ≡ Some s) × (sleeps s wire past ≡ true))
    (late : (wire : ℕ) (s : Session) → slice_get sessions wire ≡ Some s →
    late_at timers r.first r.second wire ≡ (sleeps s wire past && is_late r s.deadline))
    (beyond : (wire : ℕ) → slice_get sessions wire ≡ None → late_at timers r.first r.second wire ≡ false) where
  wires-due : due sessions past r ≡ wires_of (is_due_so past r) 0 sessions
  wires-due = ap (map (λ n. n.wire))
      (filter-both (λ n. sleeps n.session n.wire past)
      (λ n. is_woken past r n.wire || is_late r (deadline_at n.session n.wire past)) (numbered 0 sessions))

  sleeps-there : (wire : ℕ) (s : Session) → slice_get sessions wire ≡ Some s →
      due_at sources (reports_of r.answer) wire ≡ true → sleeps s wire past ≡ true
  sleeps-there wire s at is =
      let found = asleep wire is in
      ap (λ z. sleeps z wire past) (same_Some s found.0 (sym at ∙ found.1)) ∙ found.2

  not_there : (wire : ℕ) (is : Bool) → due_at sources (reports_of r.answer) wire ≡ is →
      slice_get sessions wire ≡ None → is ≡ false
  not_there wire true so none =
      let found = asleep wire so in absurd (none-some found.0 (sym none ∙ found.1))
  not_there wire false so none = refl

  abbrev due_wire : ℕ → Bool
  due_wire wire = due_at sources (reports_of r.answer) wire || late_at timers r.first r.second wire

  in-due : (wire : ℕ) (o : Option Session) → slice_get sessions wire ≡ o →
      is_in wire (wires_of (is_due_so past r) 0 sessions) ≡ due_wire wire
  in-due wire None none =
      no-wire-in (is_due_so past r) 0 wire wire sessions (omega arith) none
      ∙ sym (ap (λ b. b || late_at timers r.first r.second wire)
      (not_there wire (due_at sources (reports_of r.answer) wire) refl none) ∙ beyond wire none)
  in-due wire (Some s) at =
      wire-in (is_due_so past r) 0 wire wire sessions s (omega arith) at
      ∙ (ap (λ b. sleeps s wire past && (b || is_late r (deadline_at s wire past))) (woken-due past sources r wire shows)
      ∙ (due-so (sleeps s wire past) (is_late r s.deadline) (due_at sources (reports_of r.answer) wire)
      (sleeps-there wire s at)
      ∙ ap (λ b. due_at sources (reports_of r.answer) wire || b) (sym (late wire s at))))

  pub due-same : (wires : List ℕ) → AreDue sources (reports_of r.answer) timers r.first r.second wires →
      wires ≡ due sessions past r
  due-same wires are =
      rising-same 0 wires (wires_of (is_due_so past r) 0 sessions) are.rise (wires-rise (is_due_so past r) 0 sessions)
      (λ wire. are.each wire ∙ sym (in-due wire (slice_get sessions wire) refl))
      ∙ sym wires-due

pub due-wires-are-same : (sessions : List Session) → DueWiresAreSame sessions
due-wires-are-same sessions past sources r timers wires shows asleep late beyond are =
    due-same sessions past sources r timers shows asleep late beyond wires are

pub rounds-are-rounds : (sessions : List Session) → RoundsAreRounds sessions
rounds-are-rounds sessions past sources r shows waited answered read rearmed = record {
  waited = waited;
  answered = answered;
  read = read;
  rearmed = rearmed ∙ sym (rearming-same past sources (reports_of r.answer) shows);
}

-- ---- who sleeps

-- the direction waits in the pieces as in the source
asleep-waits : (past : Pieces) (sources : List Held) (wire key : ℕ) (h : Held) →
    (a : ShowsAsleep past sources wire key h) → waits a.dir wire past ≡ true
asleep-waits past sources wire key h a =
    let was = a.shows.each key h a.held in
    ap (λ w. waits a.dir w past) (sym a.wired)
    ∙ (side-waits (waits a.dir h.wire past) ((here h.wire past).was_reported a.dir) (side_held a.dir h)
    (side-at (here h.wire past) h a.dir was.1.stands) ∙ a.waiting)

pub paused-sleeps : (s : Session) → PausedSleeps s
paused-sleeps s past sources wire key h early a =
    let was = a.shows.each key h a.held in
    let up : waits a.dir wire past ≡ true = asleep-waits past sources wire key h a in
    let armed : stays_armed a.dir wire past ≡ true =
    ap (λ w. stays_armed a.dir w past) (sym a.wired)
    ∙ was.1.armed a.dir (ap (λ w. waits a.dir w past) a.wired ∙ up) in
    let keyed : is_some (key_of wire past) ≡ true =
    ap (λ w. is_some (key_of w past)) (sym a.wired) ∙ ap is_some was.1.keyed in
    let three : Bool = is_some (key_of wire past) && is_early (deadline_at s wire past) wire past in
    ap (sleeps_in s wire past) a.stopped
    ∙ and_from (waits a.dir wire past) (stays_armed a.dir wire past && three) up
    (and_from (stays_armed a.dir wire past) three armed
    (and_from (is_some (key_of wire past)) (is_early (deadline_at s wire past) wire past) keyed early))

-- ---- who sleeps on

woken_by : (x : Dir) (past : Pieces) (r : Round) (wire : ℕ) → (waits x wire past && reports x wire past r) ≡ true →
    is_woken past r wire ≡ true
woken_by Read past r wire is = or_left (waits Read wire past && reports Read wire past r) _ is
woken_by Write past r wire is = or_right (waits Read wire past && reports Read wire past r) _ is

on_or_due : (past : Pieces) (sources : List Held) (r : Round) (wire key : ℕ) (h : Held) (reported : Bool) →
    r.rearmed ≡ settled.rearming past [] (reports_of r.answer) → (a : ShowsAsleep past sources wire key h) →
    reports a.dir wire past r ≡ reported →
    ((g : Held) × ShowsAsleep (past ▸ round r) (after_reports_held sources (reports_of r.answer)) wire key g)
    ⊎ (due_at sources (reports_of r.answer) wire ≡ true)
on_or_due past sources r wire key h true rearmed a is =
    inr (sym (woken-due past sources r wire a.shows) ∙ woken_by a.dir past r wire
    (and_from (waits a.dir wire past) (reports a.dir wire past r) (asleep-waits past sources wire key h a) is))
on_or_due past sources r wire key h false rearmed a is =
    let rs : List Report = reports_of r.answer in
    let g : Held = reports_one rs h in
    let now : Shows (past ▸ round r) (after_reports_held sources rs) = round-shows past sources r a.shows rearmed in
    let at : held_at (after_reports_held sources rs) key ≡ Some g =
    reports-at sources rs key ∙ ap (option_map (reports_one rs)) a.held in
    let wired : g.wire ≡ wire = reports-wire rs h ∙ a.wired in
    let up : waits a.dir wire (past ▸ round r) ≡ true =
    and_from (waits a.dir wire past) (not (reports a.dir wire past r)) (asleep-waits past sources wire key h a)
    (ap not is) in
    inl (
      g,
      record {
        shows = now;
        held = at;
        wired = wired;
        dir = a.dir;
        stopped = a.stopped;
        waiting = sym (side-waits (waits a.dir g.wire (past ▸ round r))
            ((here g.wire (past ▸ round r)).was_reported a.dir) (side_held a.dir g)
            (side-at (here g.wire (past ▸ round r)) g a.dir (now.each key g at).1.stands))
            ∙ (ap (λ w. waits a.dir w (past ▸ round r)) wired ∙ up);
      },
    )

pub round-leaves-asleep : RoundLeavesAsleep
round-leaves-asleep past sources r wire key h rearmed a =
    on_or_due past sources r wire key h (reports a.dir wire past r) rearmed a refl
