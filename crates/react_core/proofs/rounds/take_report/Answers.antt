use Rattle.std.proofs.Common.{◌∙◌, ◌++◌, sym, ap, Some, None, length, arith}
use Rattle.std.proofs.lemmas.List.{append-nil}
use Rattle.std.specs.Option.{option_copied_mut}
use Rattle.slab.specs.Slab.{entries}
use Rattle.react_core.specs.Sources.{IsDatedSource, with_source}
use Rattle.react_core.specs.Told.{told, told-nothing}
use Rattle.react_core.specs.Reports.{tries_told, tries_of, arming_of}
use Rattle.react_core.proofs.Totals.{Each-at_key}
use Rattle.react_core.proofs.Looking.{found-in, written-in, after-found, taken-found, armings-found}
use Rattle.react_core.proofs.rounds.take_report.Goals as goal

pub returns-in_default-clause-sources : goal.returns-in_default-clause-sources
returns-in_default-clause-sources g c =
    sym (after-found c.args.ticker (entries c.args.sources.now) c.args.report None (found-in c.args.sources.now c.args.report.key None (ap option_copied_mut (sym c.in_default.is)
    ∙ c.get_mut.follows)))

pub returns-in_default-clause-hands : goal.returns-in_default-clause-hands
returns-in_default-clause-hands g c =
    let absent = found-in c.args.sources.now c.args.report.key None (ap option_copied_mut (sym c.in_default.is) ∙ c.get_mut.follows) in
    sym (append-nil c.args.hands.now.items) ∙ ap (λ ts. c.args.hands.now.items ++ ts) (sym (taken-found c.args.ticker (entries c.args.sources.now) c.args.report None absent))

pub returns-in_default-clause-len : goal.returns-in_default-clause-len
returns-in_default-clause-len g c =
    let absent = found-in c.args.sources.now c.args.report.key None (ap option_copied_mut (sym c.in_default.is) ∙ c.get_mut.follows) in
    omega (arith, ap length (taken-found c.args.ticker (entries c.args.sources.now) c.args.report None absent))

pub returns-in_default-clause-told : goal.returns-in_default-clause-told
returns-in_default-clause-told g c =
    let absent = found-in c.args.sources.now c.args.report.key None (ap option_copied_mut (sym c.in_default.is) ∙ c.get_mut.follows) in
    rw (armings-found c.args.ticker (entries c.args.sources.now) c.args.report None absent) (told-nothing _)

pub mark-requires-clause-dated : goal.mark-requires-clause-dated
mark-requires-clause-dated g c =
    let found = found-in c.args.sources.now c.args.report.key (Some c.in-Some.source.now) (ap option_copied_mut (sym c.in-Some.is) ∙ c.get_mut.follows) in
    Each-at_key (IsDatedSource c.args.ticker) (entries c.args.sources.now) c.args.report.key c.in-Some.source.now c.requires.dated found

pub mark-requires-clause-room : goal.mark-requires-clause-room
mark-requires-clause-room g c =
    let found = found-in c.args.sources.now c.args.report.key (Some c.in-Some.source.now) (ap option_copied_mut (sym c.in-Some.is) ∙ c.get_mut.follows) in
    omega (arith, ap length (taken-found c.args.ticker (entries c.args.sources.now) c.args.report (Some c.in-Some.source.now) found), c.requires.room)

pub returns-clause-sources : goal.returns-clause-sources
returns-clause-sources g c =
    let at = ap option_copied_mut (sym c.in-Some.is) ∙ c.get_mut.follows in
    let found = found-in c.args.sources.now c.args.report.key (Some c.in-Some.source.now) at in
    written-in c.args.sources.now c.args.report.key c.in-Some.source.now c.mark.new.self (sym at)
    ∙ ap (with_source (entries c.args.sources.now) c.args.report.key) c.mark.ensures.source
    ∙ sym (after-found c.args.ticker (entries c.args.sources.now) c.args.report (Some c.in-Some.source.now) found)

pub returns-clause-hands : goal.returns-clause-hands
returns-clause-hands g c =
    let found = found-in c.args.sources.now c.args.report.key (Some c.in-Some.source.now) (ap option_copied_mut (sym c.in-Some.is) ∙ c.get_mut.follows) in
    c.mark.ensures.hands ∙ ap (λ ts. c.args.hands.now.items ++ ts) (sym (taken-found c.args.ticker (entries c.args.sources.now) c.args.report (Some c.in-Some.source.now) found))

pub returns-clause-len : goal.returns-clause-len
returns-clause-len g c =
    let found = found-in c.args.sources.now c.args.report.key (Some c.in-Some.source.now) (ap option_copied_mut (sym c.in-Some.is) ∙ c.get_mut.follows) in
    omega (arith, c.mark.ensures.len, ap length (taken-found c.args.ticker (entries c.args.sources.now) c.args.report (Some c.in-Some.source.now) found))

pub returns-clause-told : goal.returns-clause-told
returns-clause-told g c =
    let found = found-in c.args.sources.now c.args.report.key (Some c.in-Some.source.now) (ap option_copied_mut (sym c.in-Some.is) ∙ c.get_mut.follows) in
    let same = armings-found c.args.ticker (entries c.args.sources.now) c.args.report (Some c.in-Some.source.now) found ∙ ap (arming_of c.args.report.key) (sym c.mark.ensures.source) in
    c.arm.ensures.told ∙ ap (λ armings. told (g.R.Tells.outer c.args.registrar.now).events (tries_told (tries_of armings c.arm.result))) (sym same)

pub returns-clause-answers : goal.returns-clause-answers
returns-clause-answers g c =
    let found = found-in c.args.sources.now c.args.report.key (Some c.in-Some.source.now) (ap option_copied_mut (sym c.in-Some.is) ∙ c.get_mut.follows) in
    let same = armings-found c.args.ticker (entries c.args.sources.now) c.args.report (Some c.in-Some.source.now) found ∙ ap (arming_of c.args.report.key) (sym c.mark.ensures.source) in
    rw (same) c.arm.ensures.answers
