use Rattle.bus_opening.specs.laws.Texts.{text_is, text_not}
use Rattle.bus_reference.proofs.dialling.is_utf8.Goals as goal

pub returns-in-Ok : goal.returns-in-Ok
returns-in-Ok c = record { value = text_is c.args.bytes.now c.in-Ok.ensures.cases.1 }

pub returns-in-Err : goal.returns-in-Err
returns-in-Err c = record { value = text_not c.args.bytes.now c.in-Err.ensures.cases.0 }
