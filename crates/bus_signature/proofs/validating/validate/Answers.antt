use Rattle.std.proofs.Common.{sym, ◌∙◌}
use Rattle.bus_signature.specs.Grammar.{whole}
use Rattle.bus_signature.specs.declared.error.Error.TheVariants as error
use Rattle.bus_signature.proofs.Steps.{nil_length, nil_by_test, read_none, read_more, read_all}
use Rattle.bus_signature.proofs.validating.validate.Goals as goal

pub returns-in_default : goal.returns-in_default
returns-in_default c = read_none c.args.bytes.now error.InvalidSignature c.in_default.ensures

pub returns-then-not-is_empty : goal.returns-then-not-is_empty
returns-then-not-is_empty c = read_more c.args.bytes.now c.in-Some.ensures.0 c.in-Some.rest.now c.in-Some.ensures.1 (nil_length c.in-Some.rest.now (sym c.is_empty.ensures ∙ c.if-not-is_empty.true))

pub returns : goal.returns
returns c = (
  whole c.in-Some.ensures.0,
  read_all c.args.bytes.now c.in-Some.ensures.0 c.in-Some.rest.now c.in-Some.ensures.1
      (nil_by_test c.in-Some.rest.now (sym c.is_empty.ensures ∙ c.if-not-is_empty.false)),
)
