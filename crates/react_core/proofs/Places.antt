-- How many places futures hold at all sources.
use Rattle.std.proofs.Common.{◌≡◌, ◌+◌, ℕ, suc, Bool, true, false, List, [], ◌∷◌, Option, Some, None, length, refl, ap, ◌∙◌, arith}
use Rattle.react_core.specs.declared.outside.Report.{Report}
use Rattle.react_core.specs.declared.reactor.Dir.{Dir}
use Rattle.react_core.specs.declared.reactor.Dir.TheVariants.{Read, Write}
use Rattle.react_core.specs.Places.{Entry, Direction, Source}
use Rattle.react_core.specs.Reports.{marked, without_tasks, reported, after_report_of, after_report, after_reports}
use Rattle.react_core.specs.Sources.{source_of, with_source, with_new, without, new_source, side, with_side, places_of, all_places}
use Rattle.react_core.proofs.Totals.{sum_at-with_at, sum_at-with_new_at, sum_at-without_at}

-- ---- reports

length-without_tasks : (futures : List (ℕ × Entry)) → length (without_tasks futures) ≡ length futures
length-without_tasks [] = refl
length-without_tasks (f ∷ futures) = ap suc (length-without_tasks futures)

places-marked : (named : Bool) (ticker : ℕ) (d : Direction) → length (marked named ticker d).futures ≡ length d.futures
places-marked false ticker d = refl
places-marked true ticker d = length-without_tasks d.futures

places-report_of : (ticker : ℕ) (sources : List (ℕ × Source)) (r : Report) (o : Option Source) → source_of sources r.key ≡ o → all_places (after_report_of ticker sources r o) ≡ all_places sources
places-report_of ticker sources r None is = refl
places-report_of ticker sources r (Some s) is =
    omega (arith, sum_at-with_at places_of sources r.key s (reported ticker r s) is, places-marked r.read ticker s.read, places-marked r.write ticker s.write)

-- reports leave as many places
pub places-reports : (ticker : ℕ) (sources : List (ℕ × Source)) (reports : List Report) → all_places (after_reports ticker sources reports) ≡ all_places sources
places-reports ticker sources [] = refl
places-reports ticker sources (r ∷ reports) =
    places-reports ticker (after_report ticker sources r) reports ∙ places-report_of ticker sources r (source_of sources r.key) refl

-- ---- sources that come and go

pub places-new : (sources : List (ℕ × Source)) (key wire : ℕ) → all_places (with_new sources key (new_source wire)) ≡ all_places sources
places-new sources key wire = omega (arith, sum_at-with_new_at places_of sources key (new_source wire))

pub places-without : (sources : List (ℕ × Source)) (key : ℕ) (s : Source) → source_of sources key ≡ Some s → all_places (without sources key) + places_of s ≡ all_places sources
places-without sources key s found = sum_at-without_at places_of sources key s found

-- ---- one direction

places-with_side : (dir : Dir) (s : Source) (d : Direction) → places_of (with_side dir s d) + length (side dir s).futures ≡ places_of s + length d.futures
places-with_side Read s d = omega arith
places-with_side Write s d = omega arith

-- a direction of the source under the key has more or fewer futures
pub places-side : (sources : List (ℕ × Source)) (key : ℕ) (s : Source) (dir : Dir) (d : Direction) → source_of sources key ≡ Some s →
    all_places (with_source sources key (with_side dir s d)) + length (side dir s).futures ≡ all_places sources + length d.futures
places-side sources key s dir d found = omega (arith, sum_at-with_at places_of sources key s (with_side dir s d) found, places-with_side dir s d)
