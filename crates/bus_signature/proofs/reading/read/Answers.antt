use Rattle.std.proofs.Common.{sym, ◌∙◌}
use Rattle.bus_signature.specs.Grammar.{Read}
use Rattle.bus_signature.proofs.Steps.{returns_err, nil_length, nil_by_test, top_one, the_first, others_none, others_taken, others_all, read_more}
use Rattle.bus_signature.proofs.reading.read.Goals as goal

pub returns-then-is_empty-2 : goal.returns-then-is_empty-2
returns-then-is_empty-2 c =
    top_one c.args.bytes.now c.in_ok-first.first c.in_ok-first.others.now c.in_ok-first.ensures (nil_by_test c.in_ok-first.others.now (sym c.is_empty-2.ensures ∙ c.if-is_empty-2.true))

pub returns-in_err-types : goal.returns-in_err-types
returns-in_err-types c =
    let one = the_first c.push.new.self c.new-types.result c.in_ok-first.first c.new-types.ensures c.in_ok-push.ensures.ok in
    returns_err (λ r. Read c.args.bytes.now r) c.in_err-types.field-0.0 _ c.from_residual-in_err-types.result c.from_residual-in_err-types.ensures.1 (λ y q. q)
    (others_none c.args.bytes.now c.in_ok-first.first c.in_ok-first.others.now c.push.new.self one c.in_ok-first.ensures c.in_err-types.field-0.0 c.in_err-types.ensures)

pub returns-then-not-is_empty : goal.returns-then-not-is_empty
returns-then-not-is_empty c =
    let one = the_first c.push.new.self c.new-types.result c.in_ok-first.first c.new-types.ensures c.in_ok-push.ensures.ok in
    let all = others_taken c.args.bytes.now c.in_ok-first.first c.in_ok-first.others.now c.push.new.self one c.in_ok-first.ensures c.in_ok-types.types c.in_ok-types.rest.now c.in_ok-types.ensures in
    read_more c.args.bytes.now c.in_ok-types.types c.in_ok-types.rest.now all (nil_length c.in_ok-types.rest.now (sym c.is_empty-3.ensures ∙ c.if-not-is_empty.true))

pub returns : goal.returns
returns c =
    let one = the_first c.push.new.self c.new-types.result c.in_ok-first.first c.new-types.ensures c.in_ok-push.ensures.ok in
    let all = others_taken c.args.bytes.now c.in_ok-first.first c.in_ok-first.others.now c.push.new.self one c.in_ok-first.ensures c.in_ok-types.types c.in_ok-types.rest.now c.in_ok-types.ensures in
    others_all c.args.bytes.now c.in_ok-first.first c.in_ok-first.others.now c.in_ok-types.types c.in_ok-types.rest.now c.in_ok-first.ensures all
    (nil_by_test c.in_ok-types.rest.now (sym c.is_empty-3.ensures ∙ c.if-not-is_empty.false))
    (nil_length c.in_ok-first.others.now (sym c.is_empty-2.ensures ∙ c.if-is_empty-2.false))
