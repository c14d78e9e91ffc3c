use Rattle.std.proofs.Common.{length, refl}
use Rattle.bus_address.specs.Lookups.{found}
use Rattle.bus_address.proofs.AddressLemmas.{gives_address}
use Rattle.bus_address.proofs.address.Address.from_text.Goals as goal

pub returns-in_ok-options-in-Some : goal.returns-in_ok-options-in-Some
returns-in_ok-options-in-Some c =
    gives_address c.args.text.now c.in-Some.name.now c.in-Some.rest.now (length c.args.text.now) (found c.in_ok-options-in-Some.options.values) c.from_options.result
    c.in-Some.ensures c.in_ok-options-in-Some.ensures.ok refl c.from_options.ensures
