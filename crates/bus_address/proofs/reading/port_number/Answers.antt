use Rattle.bus_address.proofs.ValueLemmas.{port_ok, port_err}
use Rattle.bus_address.proofs.reading.port_number.Goals as goal

pub returns-in-Ok : goal.returns-in-Ok
returns-in-Ok c = port_ok c.args.text.now _ c.in-Ok.ensures.value.0

pub returns-in-Err : goal.returns-in-Err
returns-in-Err c = port_err c.args.text.now c.in-Err.ensures.value.0
