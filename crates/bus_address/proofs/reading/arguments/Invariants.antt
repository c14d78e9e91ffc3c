use Rattle.std.proofs.Common.{◌≡◌, map}
use Rattle.bus_address.specs.Entries.{argument_key}
use Rattle.bus_address.specs.Reading.{arguments}
use Rattle.bus_address.specs.Lookups.{found}
use Rattle.bus_address.proofs.ArgumentLemmas.{with_arguments, left_from}
use Rattle.bus_address.proofs.reading.arguments.Given as goal

abbrev pub invariant-loop-index : goal.invariant-loop-index
invariant-loop-index l =
    with_arguments (map (λ v. v.items) l.arguments.items) (left_from (λ n. found l.options.values (argument_key n)) l.len l.index) ≡ arguments l.len (found l.options.values)
