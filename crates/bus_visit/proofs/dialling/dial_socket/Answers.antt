use Rattle.react_core.specs.declared.outside.Question.TheVariants as question
use Rattle.bus_session.specs.Dialling.{to_socket, asks, the_wire}
use Rattle.bus_visit.proofs.DialLemmas.{opened-told, told-at, file-asks, name-asks}
use Rattle.bus_visit.proofs.dialling.dial_socket.Goals as goal

pub returns-in-Some-clause-told : goal.returns-in-Some-clause-told
returns-in-Some-clause-told g c =
    told-at c.args.wire (to_socket c.args.socket.now) (asks (question.Unix c.in-Some.path.now) the_wire)
    c.plain_wire.result _ _
    (file-asks c.args.socket.now c.in-File.path c.as_slice.result.now c.in-Some.path.now c.in-File.is c.as_slice.ensures
    c.in-Some.ensures.text.0 c.in-Some.ensures.text.1)
    (opened-told c.args.wire (question.Unix c.in-Some.path.now) c.dial_unix.result c.plain_wire.result _ _
    c.plain_wire.ensures.value c.dial_unix.ensures.told)

pub returns-in-Abstract-clause-told : goal.returns-in-Abstract-clause-told
returns-in-Abstract-clause-told g c =
    told-at c.args.wire (to_socket c.args.socket.now) (asks (question.Abstract c.as_slice-in-Abstract.result.now) the_wire)
    c.plain_wire-in-Abstract.result _ _
    (name-asks c.args.socket.now c.in-Abstract.name c.as_slice-in-Abstract.result.now c.in-Abstract.is
    c.as_slice-in-Abstract.ensures)
    (opened-told c.args.wire (question.Abstract c.as_slice-in-Abstract.result.now) c.dial_abstract.result
    c.plain_wire-in-Abstract.result _ _ c.plain_wire-in-Abstract.ensures.value c.dial_abstract.ensures.told)
