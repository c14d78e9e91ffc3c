use Rattle.std.proofs.Common.{◌∷◌, ◌++◌, ℕ, [], refl, sym, ap, ◌∙◌, rules}
use Rattle.std.proofs.lemmas.Bool.{false≢true}
use Rattle.bus_signature.specs.declared.signature.Signature.TheVariants.{Dict, Structure}
use Rattle.bus_signature.specs.declared.error.Error.TheVariants as error
use Rattle.bus_signature.proofs.Steps.{nil, none_empty, some_letter, none_letter, none_array_0, none_array_end, skip_child, pass_key, pass_value, none_brace, some_dict, none_structure_0}
use Rattle.bus_signature.proofs.Steps.{none_closed, some_fields, pass_structure, none_unclosed, some_structure, pass_types, one_more, shorter, no_cons, the_found, not_found}
use Rattle.bus_signature.proofs.Fronts.{heads}
use Rattle.bus_signature.proofs.validating.+skipping.Goals as goal

pub skip_array-returns-then-arrays-eq0 : goal.skip_array-returns-then-arrays-eq0
skip_array-returns-then-arrays-eq0 t c = none_array_0 c.args.arrays c.args.structures c.args.bytes.now c.if-arrays-eq0.true

pub skip_array-returns-in_default : goal.skip_array-returns-in_default
skip_array-returns-in_default t c = none_array_end c.args.arrays c.args.structures c.args.bytes.now (nil c.args.bytes.now c.in_default.ensures.cases)

pub skip_array-returns : goal.skip_array-returns
skip_array-returns t c =
    skip_child c.args.arrays c.args.structures c.in-Some.first.now c.args.bytes.now c.in-Some.rest.now c.if-arrays-eq0.false c.in-Some.ensures.cases.0 c.if-first-eq123.false c.skip_type.result
    c.skip_type.ensures

pub skip_dict-returns-in_default : goal.skip_dict-returns-in_default
skip_dict-returns-in_default t c = pass_key c.args.arrays c.args.structures c.args.bytes.now error.InvalidSignature c.in_default.ensures

pub skip_dict-returns-in_default-skip_type : goal.skip_dict-returns-in_default-skip_type
skip_dict-returns-in_default-skip_type t c =
    pass_value c.args.arrays c.args.structures c.args.bytes.now c.in-Some.ensures.0 c.in-Some.behind_key.now c.in-Some.ensures.1 error.InvalidSignature c.in_default-skip_type.ensures

pub skip_dict-returns-in_default-split_first : goal.skip_dict-returns-in_default-split_first
skip_dict-returns-in_default-split_first t c =
    none_brace c.args.arrays c.args.structures c.args.bytes.now c.in-Some.ensures.0 c.in-Some.behind_key.now c.in-Some-skip_type.ensures.0 c.in-Some-skip_type.behind_value.now c.in-Some.ensures.1
    c.in-Some-skip_type.ensures.1
    (λ x e. no_cons (sym (nil c.in-Some-skip_type.behind_value.now c.in_default-split_first.ensures.cases) ∙ e))

pub skip_dict-returns-then-last-ne125 : goal.skip_dict-returns-then-last-ne125
skip_dict-returns-then-last-ne125 t c =
    none_brace c.args.arrays c.args.structures c.args.bytes.now c.in-Some.ensures.0 c.in-Some.behind_key.now c.in-Some-skip_type.ensures.0 c.in-Some-skip_type.behind_value.now c.in-Some.ensures.1
    c.in-Some-skip_type.ensures.1
    (λ x e. c.if-last-ne125.true (heads (sym c.in-Some-split_first.ensures.cases.0 ∙ e)))

pub skip_dict-returns : goal.skip_dict-returns
skip_dict-returns t c = (
  Dict c.in-Some.ensures.0 c.in-Some-skip_type.ensures.0,
  some_dict c.args.arrays c.args.structures c.args.bytes.now c.in-Some.ensures.0 c.in-Some.behind_key.now c.in-Some-skip_type.ensures.0
      c.in-Some-skip_type.behind_value.now c.in-Some-split_first.rest.now c.requires c.in-Some.ensures.1 c.in-Some-skip_type.ensures.1
      (c.in-Some-split_first.ensures.cases.0 ∙ ap (λ (n : ℕ). n ∷ c.in-Some-split_first.rest.now) c.if-last-ne125.false),
)

pub skip_structure-returns-then-structures-eq0 : goal.skip_structure-returns-then-structures-eq0
skip_structure-returns-then-structures-eq0 t c = none_structure_0 c.args.arrays c.args.structures c.args.bytes.now c.if-structures-eq0.true

pub skip_structure-returns-then-stops : goal.skip_structure-returns-then-stops
skip_structure-returns-then-stops t c = none_closed c.args.arrays c.args.structures c.args.bytes.now (c.stops.ensures.0 c.if-stops.true)

pub skip_structure-returns-in_default : goal.skip_structure-returns-in_default
skip_structure-returns-in_default t c = pass_structure c.args.arrays c.args.structures c.args.bytes.now error.InvalidSignature c.in_default.ensures

pub skip_structure-returns-in_default-split_first : goal.skip_structure-returns-in_default-split_first
skip_structure-returns-in_default-split_first t c =
    none_unclosed c.args.arrays c.args.structures c.args.bytes.now c.in-Some.ensures.0 c.in-Some.behind_fields.now c.in-Some.ensures.1
    (nil c.in-Some.behind_fields.now c.in_default-split_first.ensures.cases)

pub skip_structure-returns : goal.skip_structure-returns
skip_structure-returns t c = (
  Structure c.in-Some.ensures.0,
  some_structure c.args.arrays c.args.structures c.args.bytes.now c.in-Some.ensures.0 c.in-Some-split_first.field-0-0.now c.in-Some.behind_fields.now c.in-Some-split_first.rest.now
      c.if-structures-eq0.false c.in-Some.ensures.1 c.in-Some-split_first.ensures.cases.0
      (some_fields _ _ c.args.bytes.now c.in-Some.ensures.0 c.in-Some.behind_fields.now (λ e. false≢true (sym c.if-stops.false ∙ c.stops.ensures.1 e)) c.in-Some.ensures.1),
)

pub skip_type-returns-in_default : goal.skip_type-returns-in_default
skip_type-returns-in_default t c = none_empty c.args.arrays c.args.structures c.args.bytes.now (nil c.args.bytes.now c.in_default.ensures.cases)

pub skip_type-returns-then-is_letter : goal.skip_type-returns-then-is_letter
skip_type-returns-then-is_letter t c =
    let it = the_found c.in-Some.first.now (sym c.is_letter.ensures ∙ c.if-is_letter.true) in
    (it.0, some_letter c.args.arrays c.args.structures c.in-Some.first.now it.0 c.args.bytes.now c.in-Some.rest.now c.in-Some.ensures.cases.0 it.1)

pub skip_container-returns-in_default : goal.skip_container-returns-in_default
skip_container-returns-in_default t c =
    none_letter c.args.arrays c.args.structures c.args.first (c.args.first ∷ c.args.bytes.now) c.args.bytes.now refl (not_found c.args.first c.requires) (search rules) (search rules)

pub skip_types-returns-in_default : goal.skip_types-returns-in_default
skip_types-returns-in_default t c =
    pass_types c.args.arrays c.args.structures c.args.bytes.now c.loop-rest.invariant.0 c.loop-rest.rest.now c.loop-rest.invariant.1 c.loop-rest.invariant.2
    (λ e. false≢true (sym c.loop-rest-test.true ∙ c.stops.ensures.1 e)) error.InvalidSignature c.in_default.ensures

pub skip_types-loop-rest-smaller : goal.skip_types-loop-rest-smaller
skip_types-loop-rest-smaller t c = shorter c.args.arrays c.args.structures c.loop-rest.rest.now c.in-Some.ensures.0 c.in-Some.after.now c.in-Some.ensures.1

pub skip_types-loop-rest-preserved : goal.skip_types-loop-rest-preserved
skip_types-loop-rest-preserved t c =
    let more = one_more c.args.arrays c.args.structures c.args.bytes.now c.loop-rest.invariant.0 c.loop-rest.rest.now c.in-Some.ensures.0 c.in-Some.after.now c.loop-rest.invariant.1
    c.loop-rest.invariant.2 c.in-Some.ensures.1 in (c.loop-rest.invariant.0 ++ c.in-Some.ensures.0 ∷ [], more.0, more.1)
