use Rattle.std.proofs.lemmas.Str.{is_utf8-from_IsUtf8}
use Rattle.bus_visit.proofs.DialLemmas.{text-refused}
use Rattle.bus_visit.proofs.dialling.text_of.Goals as goal

pub returns-in-Ok : goal.returns-in-Ok
returns-in-Ok c = record { text = (is_utf8-from_IsUtf8 c.args.bytes.now c.in-Ok.ensures.cases.1, c.in-Ok.ensures.cases.0) }

pub returns-in-Err : goal.returns-in-Err
returns-in-Err c = record { text = text-refused c.args.bytes.now c.in-Err.ensures.cases.0 }
