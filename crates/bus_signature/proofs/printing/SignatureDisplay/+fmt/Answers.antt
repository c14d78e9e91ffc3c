use Rattle.std.proofs.Common.{refl, append_assoc}
use Rattle.std.proofs.lemmas.Grind.{put_two, put_three}
use Rattle.bus_signature.proofs.TextLemmas.{texts_more, texts_all, text_structure}
use Rattle.bus_signature.proofs.printing.SignatureDisplay.+fmt.Goals as goal

pub loop-field-preserved : goal.loop-field-preserved
loop-field-preserved g t c = λ p.
    let before = c.loop-field.invariant p in
    put_two _ _ _ _ _ _ _ before (c.in_ok-fmt-in-Structure.ensures.writes before.plain refl)
    (texts_more c.as_slice-field-items.result.now c.loop-field.field-index c.field-item.result c.loop-field-test.true c.field-item.is)

pub returns-in_ok-write_str-in-Structure-2-clause-writes : goal.returns-in_ok-write_str-in-Structure-2-clause-writes
returns-in_ok-write_str-in-Structure-2-clause-writes g t c = λ p ok.
    let first = c.in_ok-write_str-in-Structure.ensures.writes p refl in
    let fields = c.loop-field.invariant first.plain in
    let last = c.in_ok-write_str-in-Structure-2.ensures.writes fields.plain refl in
    put_three _ _ _ _ _ _ _ _ _ first fields last
    (rw (
      texts_all c.as_slice-field-items.result.now c.loop-field.field-index c.loop-field-test.false,
      c.in-Structure.is,
      text_structure c.in-Structure.fields,
      c.as_slice-field-items.ensures,
      append_assoc,
    ) refl)
