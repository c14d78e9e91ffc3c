use Rattle.std.proofs.Common.{Ok, refl}
use Rattle.react_core.specs.declared.outside.DialAnswer.TheVariants as dial_answer
use Rattle.react_core.specs.declared.outside.Question.TheVariants as question
use Rattle.bus_session.specs.declared.ended.Ending.TheVariants as ending
use Rattle.bus_session.specs.Dialling.{to_host, asks, the_peers}
use Rattle.bus_visit.specs.declared.dialling.Dialled.TheVariants as dialled
use Rattle.bus_visit.proofs.DialLemmas.{one-told, told-at, host-asks, host-dialled}
use Rattle.bus_visit.proofs.dialling.dial_host.Goals as goal

pub returns-in-Ok-clause-told : goal.returns-in-Ok-clause-told
returns-in-Ok-clause-told g c =
    host-dialled c.args.wire c.args.host.now _ _ c.host.result.now c.port.result c.family.result c.in-Ok.peers
    c.as_slice.result.now c.dial_peers.result ((g.D.Tells.outer c.args.dialer.now).events)
    ((g.D.Tells.outer c.lookup.new.self).events) ((g.D.Tells.outer c.dial_peers.new.dialer).events) c.nonce_file.ensures
    c.host.ensures c.port.ensures c.family.ensures c.in-Some.ensures.text.0 c.in-Some.ensures.text.1
    c.as_slice.ensures.items c.in-Ok.ensures.told c.dial_peers.ensures.told

pub returns-in-Err-Failed-clause-told : goal.returns-in-Err-Failed-clause-told
returns-in-Err-Failed-clause-told g c =
    told-at {E = Unit {0}} c.args.wire (to_host c.args.host.now)
    (asks (question.Lookup c.host.result.now c.port.result) (the_peers c.args.host.now.family c.args.host.now.nonce_file))
    (Ok (dialled.Failed ending.Connection)) ((g.D.Tells.outer c.args.dialer.now).events)
    ((g.D.Tells.outer c.lookup.new.self).events)
    (host-asks c.args.host.now _ c.host.result.now c.port.result c.nonce_file.ensures c.host.ensures c.port.ensures
    c.in-Some.ensures.text.0)
    (one-told (Unit {0}) c.args.wire (question.Lookup c.host.result.now c.port.result)
    (the_peers c.args.host.now.family c.args.host.now.nonce_file) dial_answer.Failed (dialled.Failed ending.Connection)
    ((g.D.Tells.outer c.args.dialer.now).events) ((g.D.Tells.outer c.lookup.new.self).events) refl
    (rw c.in-Err-Failed.field-0-is at c.in-Err-Failed.ensures.told))
