-- A source in the table, looked up once and written back.
use Rattle.std.proofs.Common.{◌≡◌, ℕ, List, Option, Some, is_some, sym, ap, ◌∙◌}
use Rattle.slab.specs.Slab.{Slab, entries, get, with_value}
use Rattle.slab.proofs.SlabLemmas.{Updates-with_value}
use Rattle.react_core.specs.declared.outside.Report.{Report}
use Rattle.react_core.specs.Places.{Source}
use Rattle.react_core.specs.Reports.{after_report, after_report_of, taken_by, taken_by_of, armings_by, armings_by_of}
use Rattle.react_core.specs.Sources.{source_of, with_source}
use Rattle.react_core.proofs.Tables.{at_key-entries, entries-written}

module _ (table : Slab Source) (key : ℕ) where
  pub found-in : (o : Option Source) → o ≡ get table key → source_of (entries table) key ≡ o
  found-in o is = at_key-entries table key ∙ sym is

  pub written-in : (s new : Source) → get table key ≡ Some s → entries (with_value table key new) ≡ with_source (entries table) key new
  written-in s new found = entries-written table (with_value table key new) key new (ap is_some found) (Updates-with_value table key new (ap is_some found))

-- ---- one report

module _ (ticker : ℕ) (sources : List (ℕ × Source)) (r : Report) (o : Option Source) (found : source_of sources r.key ≡ o) where
  pub after-found : after_report ticker sources r ≡ after_report_of ticker sources r o
  after-found = ap (after_report_of ticker sources r) found

  pub taken-found : taken_by sources r ≡ taken_by_of r o
  taken-found = ap (taken_by_of r) found

  pub armings-found : armings_by ticker sources r ≡ armings_by_of ticker r o
  armings-found = ap (armings_by_of ticker r) found
