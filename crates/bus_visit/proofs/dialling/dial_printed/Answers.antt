use Rattle.std.proofs.Common.{Ok}
use Rattle.bus_session.specs.declared.ended.AddressReason.TheVariants as reason
use Rattle.bus_session.specs.declared.ended.Ending.TheVariants as ending
use Rattle.bus_session.specs.Dialling.{printed, to_given, fails}
use Rattle.bus_visit.specs.declared.dialling.Dialled.TheVariants as dialled
use Rattle.bus_visit.proofs.DialLemmas.{told-at, told-none, given-transport, printed-given, printed-refused}
use Rattle.bus_visit.proofs.dialling.dial_printed.Goals as goal

pub returns-in-Ok-clause-told : goal.returns-in-Ok-clause-told
returns-in-Ok-clause-told g c =
    told-at c.args.wire (printed c.args.output.now.success c.args.output.now.text) (to_given c.transport.result.now)
    c.dial_given.result ((g.D.Tells.outer c.args.dialer.now).events)
    ((g.D.Tells.outer c.dial_given.new.dialer).events)
    (given-transport
    (printed-given c.args.output.now.success c.args.output.now.text c.as_slice.result.now c.in-Some.text.now
    c.trim.result.now c.if-not-output.false c.as_slice.ensures.items c.in-Some.ensures.text.0 c.in-Some.ensures.text.1 c.trim.ensures.trim c.in-Ok.address
    c.in-Ok.ensures.value)
    c.transport.ensures)
    c.dial_given.ensures.told

pub returns-in-Err-Kind-clause-told : goal.returns-in-Err-Kind-clause-told
returns-in-Err-Kind-clause-told g c =
    told-at {E = Unit {0}} c.args.wire (printed c.args.output.now.success c.args.output.now.text)
    (fails (ending.Address reason.IbusFailed)) (Ok (dialled.Failed (ending.Address reason.IbusFailed)))
    ((g.D.Tells.outer c.args.dialer.now).events) ((g.D.Tells.outer c.args.dialer.now).events)
    (printed-refused c.args.output.now.success c.args.output.now.text c.as_slice.result.now c.in-Some.text.now
    c.trim.result.now c.if-not-output.false c.as_slice.ensures.items c.in-Some.ensures.text.0 c.in-Some.ensures.text.1 c.trim.ensures.trim
    c.in-Err-Kind.field-0-0 (rw c.in-Err-Kind.field-0-is at c.in-Err-Kind.ensures.value))
    (told-none (Unit {0}) c.args.wire (dialled.Failed (ending.Address reason.IbusFailed))
    ((g.D.Tells.outer c.args.dialer.now).events))
