use Rattle.std.proofs.Common.{Ok, Some, refl, sym, ap}
use Rattle.std.specs.Option.{option_copied}
use Rattle.react_core.specs.declared.outside.DialAnswer.TheVariants as dial_answer
use Rattle.react_core.specs.declared.outside.Question.TheVariants as question
use Rattle.bus_session.specs.declared.ended.Ending.TheVariants as ending
use Rattle.bus_session.specs.Dialling.{over_tcp, asks, the_nonce, opens}
use Rattle.bus_visit.specs.declared.dialling.Dialled.TheVariants as dialled
use Rattle.bus_visit.specs.Dialled.{as_opened}
use Rattle.bus_visit.proofs.DialLemmas.{one-told, told-at}
use Rattle.bus_visit.proofs.dialling.read_nonce.Goals as goal

pub returns-in-Ok-clause-told : goal.returns-in-Ok-clause-told
returns-in-Ok-clause-told g c =
    told-at {E = Unit {0}} c.args.wire (over_tcp (option_copied c.args.file) c.args.passes)
    (asks (question.Nonce c.in-Some.file.now) (the_nonce c.args.passes)) (Ok (dialled.Opened c.over_tcp-in-Ok.result))
    ((g.D.Tells.outer c.args.dialer.now).events) ((g.D.Tells.outer c.read_nonce.new.self).events)
    (ap (λ f. over_tcp (option_copied f) c.args.passes) c.in-Some.is)
    (one-told (Unit {0}) c.args.wire (question.Nonce c.in-Some.file.now) (the_nonce c.args.passes)
    (dial_answer.Nonce c.in-Ok.nonce) (dialled.Opened c.over_tcp-in-Ok.result)
    ((g.D.Tells.outer c.args.dialer.now).events) ((g.D.Tells.outer c.read_nonce.new.self).events)
    (ap (λ w. Some (opens (as_opened w))) (sym c.over_tcp-in-Ok.ensures.value)) c.in-Ok.ensures.told)

pub returns-in-Err-Failed-clause-told : goal.returns-in-Err-Failed-clause-told
returns-in-Err-Failed-clause-told g c =
    told-at {E = Unit {0}} c.args.wire (over_tcp (option_copied c.args.file) c.args.passes)
    (asks (question.Nonce c.in-Some.file.now) (the_nonce c.args.passes)) (Ok (dialled.Failed ending.Io))
    ((g.D.Tells.outer c.args.dialer.now).events) ((g.D.Tells.outer c.read_nonce.new.self).events)
    (ap (λ f. over_tcp (option_copied f) c.args.passes) c.in-Some.is)
    (one-told (Unit {0}) c.args.wire (question.Nonce c.in-Some.file.now) (the_nonce c.args.passes) dial_answer.Failed
    (dialled.Failed ending.Io) ((g.D.Tells.outer c.args.dialer.now).events)
    ((g.D.Tells.outer c.read_nonce.new.self).events) refl (rw c.in-Err-Failed.field-0-is at c.in-Err-Failed.ensures.told))
