use Rattle.std.proofs.Common.{◌≡◌, arith, rules}
use Rattle.std.specs.String.{string_bytes}
use Rattle.bus_address.specs.Escapes.{escaped}
use Rattle.bus_address.proofs.EscapeLemmas.{unescaped-escaped}
use Rattle.bus_address.proofs.escapes.encode_percents.Goals as goal

pub returns-clause-read_back : goal.returns-clause-read_back
returns-clause-read_back c =
    let written : string_bytes c.write.new.self ≡ escaped c.args.bytes.now = search rules in
    rw written (unescaped-escaped c.args.bytes.now (λ i. omega (arith, c.type_inv.bytes i)))
