use Rattle.std.proofs.Common.{Ok, sym, ◌∙◌}
use Rattle.std.specs.Option.{option_copied}
use Rattle.react_core.specs.declared.outside.Question.TheVariants as question
use Rattle.bus_session.specs.declared.ended.Ending.TheVariants as ending
use Rattle.bus_session.specs.Dialling.{to_program, fails, asks, the_wire}
use Rattle.bus_visit.specs.declared.dialling.Dialled.TheVariants as dialled
use Rattle.bus_visit.proofs.DialLemmas.{opened-told, told-at, told-none, program-unnamed, program-asks, program-args}
use Rattle.bus_visit.proofs.dialling.dial_program.Goals as goal

pub returns-then-not-all_text-clause-told : goal.returns-then-not-all_text-clause-told
returns-then-not-all_text-clause-told g c =
    told-at {E = Unit {0}} c.args.wire (to_program c.args.program.now) (fails ending.Unsupported)
    (Ok (dialled.Failed ending.Unsupported)) ((g.D.Tells.outer c.args.dialer.now).events)
    ((g.D.Tells.outer c.args.dialer.now).events)
    (program-unnamed (λ v. v.items) c.args.program.now c.path.result.now (option_copied c.arg0.result)
    c.args-2.result.now c.path.ensures c.arg0.ensures c.args-2.ensures
    c.in-Some.ensures.text.0 c.in-Some-optional_text.ensures.text.0
    (sym c.all_text.ensures.value ∙ c.if-not-all_text.true))
    (told-none (Unit {0}) c.args.wire (dialled.Failed ending.Unsupported) ((g.D.Tells.outer c.args.dialer.now).events))

pub returns-clause-told : goal.returns-clause-told
returns-clause-told g c =
    told-at c.args.wire (to_program c.args.program.now)
    (asks (question.Start c.in-Some.path.now (option_copied c.in-Some-optional_text.arg0) c.in_ok-args.args) the_wire)
    c.plain_wire.result ((g.D.Tells.outer c.args.dialer.now).events) ((g.D.Tells.outer c.start.new.self).events)
    (program-asks (λ v. v.items) c.args.program.now c.path.result.now (option_copied c.arg0.result)
    c.args-2.result.now c.path.ensures c.arg0.ensures c.args-2.ensures
    c.in-Some.ensures.text.0 c.in-Some-optional_text.ensures.text.0
    (sym c.all_text.ensures.value ∙ c.if-not-all_text.false)
    ∙ program-args c.in-Some.ensures.text.1 c.in-Some-optional_text.ensures.text.1
    (c.in_ok-args.ensures.value ∙ (c.args-3.ensures ∙ sym c.args-2.ensures)))
    (opened-told c.args.wire
    (question.Start c.in-Some.path.now (option_copied c.in-Some-optional_text.arg0) c.in_ok-args.args) c.start.result
    c.plain_wire.result ((g.D.Tells.outer c.args.dialer.now).events) ((g.D.Tells.outer c.start.new.self).events)
    c.plain_wire.ensures.value c.start.ensures.told)
