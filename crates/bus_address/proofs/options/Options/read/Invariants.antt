use Rattle.std.proofs.Common.{◌≡◌, ℕ, List, true, take}
use Rattle.std.specs.List.{list_all, filter_map}
use Rattle.bus_address.specs.Entries.{entry, value_of}
use Rattle.bus_address.specs.Lookups.{found}
use Rattle.bus_address.proofs.EntryLemmas.{texts, is_entry}
use Rattle.bus_address.proofs.options.Options.read.Given as goal

abbrev pub invariant-loop-part : goal.invariant-loop-part
invariant-loop-part l = record {
  formed : list_all is_entry (texts (take l.part-index l.part-items)) ≡ true;
  kept : (key : List ℕ) → found l.options.values key ≡ value_of (filter_map entry (texts (take l.part-index l.part-items))) key;
}
