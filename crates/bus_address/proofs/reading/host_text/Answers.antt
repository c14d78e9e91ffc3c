use Rattle.bus_address.proofs.ValueLemmas.{host_text_string, host_text_refused}
use Rattle.bus_address.proofs.reading.host_text.Goals as goal

pub returns-in-Ok : goal.returns-in-Ok
returns-in-Ok c = host_text_string c.in-Ok.text c.args.bytes c.from_string.result c.in-Ok.ensures.ok c.from_string.ensures

pub returns : goal.returns
returns c = host_text_refused c.args.bytes.items c.from_utf8.result c.in-Err.field-0 c.in-Err.is c.from_utf8.ensures.succeeds
