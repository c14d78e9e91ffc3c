-- Sources that name no round after the last one.
use Rattle.std.proofs.Common.{◌≡◌, ◌≤◌, ℕ, Bool, true, false, List, [], ◌∷◌, Option, Some, None, refl, arith}
use Rattle.react_core.specs.declared.outside.Report.{Report}
use Rattle.react_core.specs.declared.reactor.Dir.{Dir}
use Rattle.react_core.specs.declared.reactor.Dir.TheVariants.{Read, Write}
use Rattle.react_core.specs.Keyed.{at_key, Each}
use Rattle.react_core.specs.Places.{Entry, Direction, Source}
use Rattle.react_core.specs.Reports.{marked, without_task, without_tasks, reported, after_report_of, after_report, after_reports}
use Rattle.react_core.specs.Sources.{source_of, with_new, new_source, idle, side, with_side, HasBegunBy, IsDated, IsDatedSource, AllDated}
use Rattle.react_core.specs.Asking.{after_direction, after_outcome}
use Rattle.react_core.specs.Futures.{is_fired, polled_futures, with_future, after_future, without_future}
use Rattle.react_core.specs.Readiness.{Outcome, Fires, Stays, Begins, direction_outcome}
use Rattle.std.specs.Prelude.{if◌then◌else◌}
use Rattle.react_core.proofs.Totals.{Each-at_key, Each-with_at, Each-with_new_at, Each-without_at, Each-weaker}

-- ---- reports

dated-place : (ticker : ℕ) (polled : Option Entry) → HasBegunBy ticker polled → HasBegunBy ticker (without_task polled)
dated-place ticker None dated = tt
dated-place ticker (Some w) dated = dated

dated-futures : (ticker : ℕ) (futures : List (ℕ × Entry)) → Each (λ e. e.since ≤ ticker) futures → Each (λ e. e.since ≤ ticker) (without_tasks futures)
dated-futures ticker [] dated = tt
dated-futures ticker (f ∷ futures) dated = (dated.0, dated-futures ticker futures dated.1)

dated-marked : (named : Bool) (ticker : ℕ) (d : Direction) → IsDated ticker d → IsDated ticker (marked named ticker d)
dated-marked false ticker d dated = dated
dated-marked true ticker d dated = record {
  reported = omega arith;
  polled = dated-place ticker d.polled dated.polled;
  futures = dated-futures ticker d.futures dated.futures;
}

dated-report_of : (ticker : ℕ) (sources : List (ℕ × Source)) (r : Report) (o : Option Source) → source_of sources r.key ≡ o → AllDated ticker sources →
    AllDated ticker (after_report_of ticker sources r o)
dated-report_of ticker sources r None is dated = dated
dated-report_of ticker sources r (Some s) is dated =
    let one = Each-at_key (IsDatedSource ticker) sources r.key s dated is in
    Each-with_at (IsDatedSource ticker) sources r.key (reported ticker r s) dated (dated-marked r.read ticker s.read one.0, dated-marked r.write ticker s.write one.1)

pub dated-report : (ticker : ℕ) (sources : List (ℕ × Source)) (r : Report) → AllDated ticker sources → AllDated ticker (after_report ticker sources r)
dated-report ticker sources r dated = dated-report_of ticker sources r (source_of sources r.key) refl dated

-- reports name their own round
pub dated-reports : (ticker : ℕ) (sources : List (ℕ × Source)) (reports : List Report) → AllDated ticker sources → AllDated ticker (after_reports ticker sources reports)
dated-reports ticker sources [] dated = dated
dated-reports ticker sources (r ∷ reports) dated = dated-reports ticker (after_report ticker sources r) reports (dated-report ticker sources r dated)

-- ---- a new source names no round

pub dated-new : (ticker : ℕ) (sources : List (ℕ × Source)) (key wire : ℕ) → AllDated ticker sources → AllDated ticker (with_new sources key (new_source wire))
dated-new ticker sources key wire dated =
    let none : IsDated ticker idle = record { reported = omega arith; polled = tt; futures = tt } in
    Each-with_new_at (IsDatedSource ticker) sources key (new_source wire) dated (none, none)

-- ---- a later round

later-place : (ticker next : ℕ) (polled : Option Entry) → ticker ≤ next → HasBegunBy ticker polled → HasBegunBy next polled
later-place ticker next None le dated = tt
later-place ticker next (Some w) le dated = omega (arith, le, dated)

later-direction : (ticker next : ℕ) (d : Direction) → ticker ≤ next → IsDated ticker d → IsDated next d
later-direction ticker next d le dated = record {
  reported = omega (arith, le, dated.reported);
  polled = later-place ticker next d.polled le dated.polled;
  futures = Each-weaker (λ (e : Entry). e.since ≤ ticker) (λ e. e.since ≤ next) d.futures (λ e since. omega (arith, le, since)) dated.futures;
}

pub dated-later : (ticker next : ℕ) (sources : List (ℕ × Source)) → ticker ≤ next → AllDated ticker sources → AllDated next sources
dated-later ticker next sources le dated =
    Each-weaker (IsDatedSource ticker) (IsDatedSource next) sources (λ s one. (later-direction ticker next s.read le one.0, later-direction ticker next s.write le one.1)) dated

-- ---- one direction

pub dated-side : (ticker : ℕ) (dir : Dir) (s : Source) → IsDatedSource ticker s → IsDated ticker (side dir s)
dated-side ticker Read s dated = dated.0
dated-side ticker Write s dated = dated.1

pub dated-with_side : (ticker : ℕ) (dir : Dir) (s : Source) (d : Direction) → IsDatedSource ticker s → IsDated ticker d → IsDatedSource ticker (with_side dir s d)
dated-with_side ticker Read s d dated one = (one, dated.1)
dated-with_side ticker Write s d dated one = (dated.0, one)

-- ---- polls

pub dated-without_future : (ticker : ℕ) (d : Direction) (place : ℕ) → IsDated ticker d → IsDated ticker (without_future d place)
dated-without_future ticker d place dated = record {
  reported = dated.reported;
  polled = dated.polled;
  futures = Each-without_at (λ (e : Entry). e.since ≤ ticker) d.futures place dated.futures;
}

polled-futures : (ticker task : ℕ) (futures : List (ℕ × Entry)) (place : ℕ) (o : Option Entry) → at_key futures place ≡ o → Each (λ e. e.since ≤ ticker) futures →
    Each (λ e. e.since ≤ ticker) (polled_futures ticker task futures place o)
polled-futures ticker task futures place None is dated = Each-with_new_at (λ (e : Entry). e.since ≤ ticker) futures place _ dated (omega arith)
polled-futures ticker task futures place (Some e) is dated =
    Each-with_at (λ (x : Entry). x.since ≤ ticker) futures place _ dated (Each-at_key (λ (x : Entry). x.since ≤ ticker) futures place e dated is)

pub dated-with_future : (ticker task : ℕ) (d : Direction) (place : ℕ) → IsDated ticker d → IsDated ticker (with_future ticker task d place)
dated-with_future ticker task d place dated = record {
  reported = dated.reported;
  polled = dated.polled;
  futures = polled-futures ticker task d.futures place (at_key d.futures place) refl dated.futures;
}

pub dated-after_future : (ticker task : ℕ) (d : Direction) (place : ℕ) → IsDated ticker d → IsDated ticker (after_future ticker task d place)
dated-after_future ticker task d place dated = either (is_fired d place)
  where
    either : (b : Bool) → IsDated ticker (if b then d else with_future ticker task d place)
    either true = dated
    either false = dated-with_future ticker task d place dated

dated-outcome : (ticker task : ℕ) (d : Direction) (o : Outcome) → IsDated ticker d → IsDated ticker (after_outcome ticker task d o)
dated-outcome ticker task d Fires dated = record { reported = dated.reported; polled = tt; futures = dated.futures }
dated-outcome ticker task d Stays dated = dated
dated-outcome ticker task d (Begins tasks arms) dated = record { reported = dated.reported; polled = omega arith; futures = dated.futures }

pub dated-after_direction : (ticker task : ℕ) (d : Direction) → IsDated ticker d → IsDated ticker (after_direction ticker task d)
dated-after_direction ticker task d dated = dated-outcome ticker task d (direction_outcome task d) dated
