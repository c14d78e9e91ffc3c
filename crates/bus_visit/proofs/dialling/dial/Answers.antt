use Rattle.std.proofs.Common.{Ok, ap}
use Rattle.react_core.specs.declared.outside.Question.TheVariants as question
use Rattle.bus_address.specs.Reading.{address}
use Rattle.bus_session.specs.Dialling.{begins, asks, the_wire, to_read, guid_in, expects}
use Rattle.bus_visit.proofs.DialLemmas.{opened-told, told-at, reach-at, client-begins, client-expects, expected-at, opened-ok}
use Rattle.bus_visit.proofs.dialling.dial.Goals as goal

pub returns-in-Client-clause-told : goal.returns-in-Client-clause-told
returns-in-Client-clause-told g c =
    reach-at c.args.wire (begins c.args.party.now) (to_read (address c.as_str.result.now)) c.dial_text.result
    ((g.D.Tells.outer c.args.dialer.now).events) ((g.D.Tells.outer c.dial_text.new.dialer).events)
    (client-begins c.args.party.now c.in-Client.address c.as_str.result.now c.in-Client.config c.in-Client.is
    c.as_str.ensures)
    c.dial_text.ensures.told

pub returns-in-Client-clause-expected : goal.returns-in-Client-clause-expected
returns-in-Client-clause-expected g c =
    expected-at c.dial_text.result (guid_in (address c.as_str.result.now)) (expects c.args.party.now)
    (client-expects c.args.party.now c.in-Client.address c.as_str.result.now c.in-Client.config c.in-Client.is
    c.as_str.ensures)
    c.dial_text.ensures.expected

pub returns-in_ok-plain_wire-in-Server-clause-told : goal.returns-in_ok-plain_wire-in-Server-clause-told
returns-in_ok-plain_wire-in-Server-clause-told g c =
    told-at {E = Unit {0}} c.args.wire (begins c.args.party.now) (asks question.Accept the_wire)
    (Ok c.in_ok-plain_wire-in-Server.field-0) ((g.D.Tells.outer c.args.dialer.now).events)
    ((g.D.Tells.outer c.accept.new.self).events) (ap begins c.in-Server.is)
    (opened-told {E = Unit {0}} c.args.wire question.Accept c.accept.result (Ok c.in_ok-plain_wire-in-Server.field-0)
    ((g.D.Tells.outer c.args.dialer.now).events) ((g.D.Tells.outer c.accept.new.self).events)
    (opened-ok _ (Unit {0}) c.accept.result c.in_ok-plain_wire-in-Server.field-0 c.in_ok-plain_wire-in-Server.ensures.value)
    c.accept.ensures.told)
