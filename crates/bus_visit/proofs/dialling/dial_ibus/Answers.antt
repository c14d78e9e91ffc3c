use Rattle.std.proofs.Common.{refl}
use Rattle.react_core.specs.declared.outside.DialAnswer.TheVariants as dial_answer
use Rattle.react_core.specs.declared.outside.Question.TheVariants as question
use Rattle.bus_session.specs.declared.ended.AddressReason.TheVariants as reason
use Rattle.bus_session.specs.declared.ended.Ending.TheVariants as ending
use Rattle.bus_session.specs.Dialling.{the_address, printed}
use Rattle.bus_visit.specs.declared.dialling.Dialled.TheVariants as dialled
use Rattle.bus_visit.proofs.DialLemmas.{one-told, then-told}
use Rattle.bus_visit.proofs.dialling.dial_ibus.Goals as goal

pub returns-in-Ok-clause-told : goal.returns-in-Ok-clause-told
returns-in-Ok-clause-told g c =
    then-told c.args.wire question.Ibus the_address (dial_answer.Output c.in-Ok.output.success c.in-Ok.output.text)
    (printed c.in-Ok.output.success c.in-Ok.output.text) c.dial_printed.result
    ((g.D.Tells.outer c.args.dialer.now).events) ((g.D.Tells.outer c.run_ibus.new.self).events)
    ((g.D.Tells.outer c.dial_printed.new.dialer).events) refl c.in-Ok.ensures.told c.dial_printed.ensures.told

pub returns-in-Err-Failed-clause-told : goal.returns-in-Err-Failed-clause-told
returns-in-Err-Failed-clause-told g c =
    one-told (Unit {0}) c.args.wire question.Ibus the_address dial_answer.Failed
    (dialled.Failed (ending.Address reason.IbusFailed)) ((g.D.Tells.outer c.args.dialer.now).events)
    ((g.D.Tells.outer c.run_ibus.new.self).events) refl (rw c.in-Err-Failed.field-0-is at c.in-Err-Failed.ensures.told)
