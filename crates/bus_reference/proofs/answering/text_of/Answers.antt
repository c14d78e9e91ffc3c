use Rattle.bus_opening.specs.laws.Texts.{text_some, text_none}
use Rattle.bus_reference.proofs.answering.text_of.Goals as goal

pub returns-in-Ok : goal.returns-in-Ok
returns-in-Ok c =
    record { value = text_some c.args.bytes.now _ c.in-Ok.ensures.cases.0 c.in-Ok.ensures.cases.1 }

pub returns-in-Err : goal.returns-in-Err
returns-in-Err c = record { value = text_none c.args.bytes.now c.in-Err.ensures.cases.0 }
