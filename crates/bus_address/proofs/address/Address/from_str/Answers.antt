use Rattle.std.proofs.Common.{◌<◌, ◌^◌, length, arith}
use Rattle.bus_address.proofs.ReadBackLemmas.{gives_back}
use Rattle.bus_address.proofs.address.Address.from_str.Goals as goal

pub returns-clause-read_back : goal.returns-clause-read_back
returns-clause-read_back c =
    let fits : length c.args.text.now < 2 ^ 64 = omega arith in
    gives_back c.args.text.now c.from_text.result fits c.from_text.ensures
