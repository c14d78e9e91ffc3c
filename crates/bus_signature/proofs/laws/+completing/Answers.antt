use Rattle.std.proofs.Common.{◌∙◌, refl, sym}
use Rattle.std.proofs.lemmas.Bool.{false≢true}
use Rattle.bus_signature.proofs.Cases.{complete_unit}
use Rattle.bus_signature.proofs.Depths.{no_depth_array, array_inside, no_depth_dict, dict_inside, no_depth_structure, no_fields_structure, structure_inside, letter_complete, complete_more}
use Rattle.bus_signature.proofs.Depths.{complete_at}
use Rattle.bus_signature.proofs.laws.+completing.Goals as goal

pub are_complete-returns-then-not-is_complete : goal.are_complete-returns-then-not-is_complete
are_complete-returns-then-not-is_complete t c = (
  λ e. absurd (false≢true e),
  λ all. c.if-not-is_complete.ensures ∙ complete_at c.args.signatures.now c.loop-signature.signature-index c.args.arrays c.args.structures c.signature-item.result c.loop-signature-test.true
      c.signature-item.is all,
)

pub are_complete-loop-signature-preserved : goal.are_complete-loop-signature-preserved
are_complete-loop-signature-preserved t c =
    complete_more c.args.signatures.now c.loop-signature.signature-index c.args.arrays c.args.structures c.signature-item.result c.loop-signature-test.true c.signature-item.is
    c.loop-signature.invariant
    (sym c.is_complete.ensures ∙ c.if-not-is_complete.false)

pub is_complete-returns-then-arrays-eq0 : goal.is_complete-returns-then-arrays-eq0
is_complete-returns-then-arrays-eq0 t c = rw c.in-Array.is (sym (no_depth_array c.in-Array.child c.args.arrays c.args.structures c.if-arrays-eq0.true))

pub is_complete-returns-then-arrays-eq0-2 : goal.is_complete-returns-then-arrays-eq0-2
is_complete-returns-then-arrays-eq0-2 t c = rw c.in-Dict.is (sym (no_depth_dict c.in-Dict.key c.in-Dict.value c.args.arrays c.args.structures c.if-arrays-eq0-2.true))

pub is_complete-returns-then-not-is_complete : goal.is_complete-returns-then-not-is_complete
is_complete-returns-then-not-is_complete t c =
    rw (c.in-Dict.is, dict_inside c.in-Dict.key c.in-Dict.value c.args.arrays c.args.structures c.if-arrays-eq0-2.false, sym c.get-in-Dict.ensures, sym c.if-not-is_complete.ensures) refl

pub is_complete-returns-then-structures-eq0 : goal.is_complete-returns-then-structures-eq0
is_complete-returns-then-structures-eq0 t c = rw c.in-Structure.is (sym (no_depth_structure c.in-Structure.fields c.args.arrays c.args.structures c.if-structures-eq0.true))

pub is_complete-returns-then-is_empty : goal.is_complete-returns-then-is_empty
is_complete-returns-then-is_empty t c = rw c.in-Structure.is (sym (no_fields_structure c.in-Structure.fields c.args.arrays c.args.structures (c.is_empty.ensures.0 c.if-is_empty.true)))

pub is_complete-returns-in-Unit : goal.is_complete-returns-in-Unit
is_complete-returns-in-Unit t c = rw c.in-Unit.is (sym (complete_unit c.args.arrays c.args.structures))

pub is_complete-returns-else-arrays-eq0 : goal.is_complete-returns-else-arrays-eq0
is_complete-returns-else-arrays-eq0 t c = rw (c.in-Array.is, array_inside c.in-Array.child c.args.arrays c.args.structures c.if-arrays-eq0.false, sym c.get.ensures) c.is_complete.ensures

pub is_complete-returns-else-not-is_complete : goal.is_complete-returns-else-not-is_complete
is_complete-returns-else-not-is_complete t c =
    rw (
      c.in-Dict.is,
      dict_inside c.in-Dict.key c.in-Dict.value c.args.arrays c.args.structures c.if-arrays-eq0-2.false,
      sym c.get-in-Dict.ensures,
      sym c.is_complete-in-Dict.ensures,
      c.if-not-is_complete.false,
      sym c.get-in-Dict-2.ensures,
    ) c.is_complete-in-Dict-2.ensures

pub is_complete-returns-else-is_empty : goal.is_complete-returns-else-is_empty
is_complete-returns-else-is_empty t c =
    rw (c.in-Structure.is, sym c.as_slice.ensures)
    (structure_inside c.as_slice.result.now c.args.arrays c.args.structures c.are_complete.result c.if-structures-eq0.false
    (λ e. false≢true (sym c.if-is_empty.false ∙ c.is_empty.ensures.1 (sym c.as_slice.ensures ∙ e))) c.are_complete.ensures.0 c.are_complete.ensures.1)

pub is_complete-returns-in_default : goal.is_complete-returns-in_default
is_complete-returns-in_default t c =
    sym (letter_complete c.args.signature.now c.args.arrays c.args.structures c.in_default.not-Unit
    (record { no_array = c.in_default.not-Array; no_dict = c.in_default.not-Dict; no_structure = c.in_default.not-Structure }))
