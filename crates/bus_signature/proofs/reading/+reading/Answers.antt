use Rattle.std.proofs.Common.{◌∷◌, ◌++◌, ◌-◌, ℕ, List, Err, refl, sym, ap, ◌∙◌, arith, rules}
use Rattle.bus_signature.specs.Texts.{texts}
use Rattle.bus_signature.specs.Taking.{Took, TookAll}
use Rattle.bus_signature.proofs.Steps.{returns_err, behind_none, behind_none_taken, nil, none_empty, some_letter, none_letter, none_array_0, none_array_end, some_array, pass_array, pass_key}
use Rattle.bus_signature.proofs.Steps.{pass_value, none_brace, some_dict, none_structure_0, pass_structure, none_unclosed, none_fields, some_structure, pass_types, one_more, shorter, no_cons}
use Rattle.std.proofs.lemmas.Bool.{false≢true}
use Rattle.bus_signature.proofs.Fronts.{heads}
use Rattle.bus_signature.proofs.reading.+reading.Goals as goal

pub read_array-returns-then-arrays-eq0 : goal.read_array-returns-then-arrays-eq0
read_array-returns-then-arrays-eq0 t c = none_array_0 c.args.arrays c.args.structures c.args.bytes.now c.if-arrays-eq0.true

pub read_array-returns-in_default : goal.read_array-returns-in_default
read_array-returns-in_default t c = none_array_end c.args.arrays c.args.structures c.args.bytes.now (nil c.args.bytes.now c.in_default.ensures.cases)

pub read_array-returns-in_err-child : goal.read_array-returns-in_err-child
read_array-returns-in_err-child t c =
    returns_err (λ r. Took c.args.arrays c.args.structures (97 ∷ c.args.bytes.now) r) c.in_err-child.field-0.0 _ c.from_residual.result c.from_residual.ensures.1 (λ y q. q)
    (pass_array c.args.arrays c.args.structures c.in-Some.first.now c.args.bytes.now c.in-Some.rest.now c.in-Some.ensures.cases.0 c.if-first-eq123.false c.in_err-child.field-0.0
    c.in_err-child.ensures)

pub read_array-returns : goal.read_array-returns
read_array-returns t c = rw c.in_ok-new.ensures (some_array c.args.arrays c.args.structures c.args.bytes.now c.in_ok-child.child c.in_ok-child.rest.now c.if-arrays-eq0.false c.in_ok-child.ensures)

pub read_dict-returns-in_err-key : goal.read_dict-returns-in_err-key
read_dict-returns-in_err-key t c =
    returns_err (λ r. Took c.args.arrays c.args.structures (97 ∷ 123 ∷ c.args.bytes.now) r) c.in_err-key.field-0.0 _ c.from_residual.result c.from_residual.ensures.1 (λ y q. q)
    (pass_key c.args.arrays c.args.structures c.args.bytes.now c.in_err-key.field-0.0 c.in_err-key.ensures)

pub read_dict-returns-in_err-value : goal.read_dict-returns-in_err-value
read_dict-returns-in_err-value t c =
    returns_err (λ r. Took c.args.arrays c.args.structures (97 ∷ 123 ∷ c.args.bytes.now) r) c.in_err-value.field-0.0 _ c.from_residual-in_err-value.result c.from_residual-in_err-value.ensures.1
    (λ y q. q)
    (pass_value c.args.arrays c.args.structures c.args.bytes.now c.in_ok-key.key c.in_ok-key.rest.now c.in_ok-key.ensures c.in_err-value.field-0.0 c.in_err-value.ensures)

pub read_dict-returns-in_default : goal.read_dict-returns-in_default
read_dict-returns-in_default t c =
    none_brace c.args.arrays c.args.structures c.args.bytes.now c.in_ok-key.key c.in_ok-key.rest.now c.in_ok-value.value c.in_ok-value.rest.now c.in_ok-key.ensures c.in_ok-value.ensures
    (λ x e. no_cons (sym (nil c.in_ok-value.rest.now c.in_default.ensures.cases) ∙ e))

pub read_dict-returns-then-last-ne125 : goal.read_dict-returns-then-last-ne125
read_dict-returns-then-last-ne125 t c =
    none_brace c.args.arrays c.args.structures c.args.bytes.now c.in_ok-key.key c.in_ok-key.rest.now c.in_ok-value.value c.in_ok-value.rest.now c.in_ok-key.ensures c.in_ok-value.ensures
    (λ x e. c.if-last-ne125.true (heads (sym c.in-Some.ensures.cases.0 ∙ e)))

pub read_dict-returns : goal.read_dict-returns
read_dict-returns t c =
    rw (c.in_ok-key-2.ensures, c.in_ok-value-2.ensures) (some_dict c.args.arrays c.args.structures c.args.bytes.now c.in_ok-key.key c.in_ok-key.rest.now c.in_ok-value.value c.in_ok-value.rest.now
    c.in-Some.rest.now c.requires c.in_ok-key.ensures c.in_ok-value.ensures (c.in-Some.ensures.cases.0 ∙ ap (λ (n : ℕ). n ∷ c.in-Some.rest.now) c.if-last-ne125.false))

pub read_structure-returns-then-structures-eq0 : goal.read_structure-returns-then-structures-eq0
read_structure-returns-then-structures-eq0 t c = none_structure_0 c.args.arrays c.args.structures c.args.bytes.now c.if-structures-eq0.true

pub read_structure-returns-in_err-fields : goal.read_structure-returns-in_err-fields
read_structure-returns-in_err-fields t c =
    returns_err (λ r. Took c.args.arrays c.args.structures (40 ∷ c.args.bytes.now) r) c.in_err-fields.field-0.0 _ c.from_residual.result c.from_residual.ensures.1 (λ y q. q)
    (pass_structure c.args.arrays c.args.structures c.args.bytes.now c.in_err-fields.field-0.0
    (behind_none (λ (x : List ℕ). TookAll c.args.arrays (c.args.structures - 1) x (Err c.in_err-fields.field-0.0)) c.new.result c.args.bytes.now c.new.ensures c.in_err-fields.ensures))

pub read_structure-returns-in_default : goal.read_structure-returns-in_default
read_structure-returns-in_default t c =
    none_unclosed c.args.arrays c.args.structures c.args.bytes.now c.in_ok-fields.fields c.in_ok-fields.rest.now
    (behind_none_taken c.new.ensures c.in_ok-fields.ensures) (nil c.in_ok-fields.rest.now c.in_default.ensures.cases)

pub read_structure-returns-then-is_empty : goal.read_structure-returns-then-is_empty
read_structure-returns-then-is_empty t c =
    none_fields c.args.arrays c.args.structures c.args.bytes.now c.in_ok-fields.fields c.in_ok-fields.rest.now
    (behind_none_taken c.new.ensures c.in_ok-fields.ensures) (c.is_empty.ensures.0 c.if-is_empty.true)

pub read_structure-returns : goal.read_structure-returns
read_structure-returns t c =
    some_structure c.args.arrays c.args.structures c.args.bytes.now c.in_ok-fields.fields c.in-Some.field-0-0.now c.in_ok-fields.rest.now c.in-Some.rest.now c.if-structures-eq0.false
    (behind_none_taken c.new.ensures c.in_ok-fields.ensures) c.in-Some.ensures.cases.0 (λ e. false≢true (sym c.if-is_empty.false ∙ c.is_empty.ensures.1 e))

pub read_type-returns-in_default : goal.read_type-returns-in_default
read_type-returns-in_default t c = none_empty c.args.arrays c.args.structures c.args.bytes.now (nil c.args.bytes.now c.in_default.ensures.cases)

pub read_type-returns-in-Some-simple : goal.read_type-returns-in-Some-simple
read_type-returns-in-Some-simple t c =
    some_letter c.args.arrays c.args.structures c.in-Some.first.now c.in-Some-simple.signature c.args.bytes.now c.in-Some.rest.now c.in-Some.ensures.cases.0
    (sym c.simple.ensures ∙ c.in-Some-simple.is)

pub read_container-returns-in_default : goal.read_container-returns-in_default
read_container-returns-in_default t c = none_letter c.args.arrays c.args.structures c.args.first (c.args.first ∷ c.args.bytes.now) c.args.bytes.now refl c.requires (search rules) (search rules)

pub read_types-returns-in_err-one : goal.read_types-returns-in_err-one
read_types-returns-in_err-one t c =
    returns_err (λ r. TookAll c.args.arrays c.args.structures (texts c.args.types ++ c.args.bytes.now) r) c.in_err-one.field-0.0 _ c.from_residual.result c.from_residual.ensures.1 (λ y q. q)
    (pass_types c.args.arrays c.args.structures (texts c.args.types ++ c.args.bytes.now) c.loop-alloc.types c.loop-alloc.rest.now c.loop-alloc.invariant.0 c.loop-alloc.invariant.1
    (λ e. false≢true (sym c.loop-alloc-test.true ∙ c.stops.ensures.1 e)) c.in_err-one.field-0.0 c.in_err-one.ensures)

pub read_types-loop-alloc-smaller : goal.read_types-loop-alloc-smaller
read_types-loop-alloc-smaller t c = shorter c.args.arrays c.args.structures c.loop-alloc.rest.now c.in_ok-one.one c.in_ok-one.after.now c.in_ok-one.ensures

pub read_types-loop-alloc-preserved : goal.read_types-loop-alloc-preserved
read_types-loop-alloc-preserved t c =
    let more = one_more c.args.arrays c.args.structures (texts c.args.types ++ c.args.bytes.now) c.loop-alloc.types c.loop-alloc.rest.now c.in_ok-one.one c.in_ok-one.after.now
    c.loop-alloc.invariant.0 c.loop-alloc.invariant.1 c.in_ok-one.ensures in
    let less = shorter c.args.arrays c.args.structures c.loop-alloc.rest.now c.in_ok-one.one c.in_ok-one.after.now c.in_ok-one.ensures in
    rw c.in_ok-push.ensures.ok (more.0, more.1, omega (arith, less, c.loop-alloc.invariant.2))
