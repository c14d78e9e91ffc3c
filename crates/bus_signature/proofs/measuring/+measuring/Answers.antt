use Rattle.std.proofs.Common.{◌+◌, ◌∙◌, ℕ, length, arith, ap, sym}
use Rattle.std.proofs.lemmas.List.{length-append}
use Rattle.bus_signature.specs.Texts.{text}
use Rattle.bus_signature.proofs.TextLemmas.{texts_more, part_length}
use Rattle.bus_signature.proofs.measuring.+measuring.Goals as goal

pub texts_len-returns-in_default : goal.texts_len-returns-in_default
texts_len-returns-in_default t c =
    let over = c.in_default.ensures (length (text c.signature-item.result)) c.text_len.ensures in
    let part = part_length c.args.signatures.now c.loop-signature.signature-index c.signature-item.result c.loop-signature-test.true c.signature-item.is in
    let before = c.loop-signature.invariant in
    omega (arith, over, part, before)

pub texts_len-loop-signature-preserved : goal.texts_len-loop-signature-preserved
texts_len-loop-signature-preserved t c =
    c.in-Some.ensures (length (text c.signature-item.result)) c.text_len.ensures
    ∙ ap (λ (n : ℕ). n + length (text c.signature-item.result)) c.loop-signature.invariant
    ∙ sym (length-append _ (text c.signature-item.result))
    ∙ ap length (texts_more c.args.signatures.now c.loop-signature.signature-index c.signature-item.result c.loop-signature-test.true c.signature-item.is)
