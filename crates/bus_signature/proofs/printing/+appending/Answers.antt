use Rattle.std.proofs.Common.{◌∙◌}
use Rattle.std.specs.String.{string_bytes}
use Rattle.bus_signature.proofs.TextLemmas.{fields_more}
use Rattle.bus_signature.proofs.Grows.{grew_none, grew_on, on_err, dict_ascii, open_ascii, text_ascii, texts_ascii}
use Rattle.bus_signature.proofs.printing.+appending.Goals as goal

pub append-returns-in_err-append-in-Dict-2-clause-err : goal.append-returns-in_err-append-in-Dict-2-clause-err
append-returns-in_err-append-in-Dict-2-clause-err t c = on_err _
    (grew_on _ _ _ _ dict_ascii c.in_ok-put-in-Dict.ensures.ok
    (grew_on _ _ _ _ (text_ascii c.get-in-Dict.result.now) c.in_ok-append-in-Dict.ensures.ok c.in_err-append-in-Dict-2.ensures.err))

pub append-returns-in_err-put-in-Dict-2-clause-err : goal.append-returns-in_err-put-in-Dict-2-clause-err
append-returns-in_err-put-in-Dict-2-clause-err t c = on_err _
    (grew_on _ _ _ _ dict_ascii c.in_ok-put-in-Dict.ensures.ok
    (grew_on _ _ _ _ (text_ascii c.get-in-Dict.result.now) c.in_ok-append-in-Dict.ensures.ok
    (grew_on _ _ _ _ (text_ascii c.get-in-Dict-2.result.now) c.in_ok-append-in-Dict-2.ensures.ok (grew_none _ _ c.in_err-put-in-Dict-2.ensures.err))))

pub append-returns-in_err-put-in-Structure-2-clause-err : goal.append-returns-in_err-put-in-Structure-2-clause-err
append-returns-in_err-put-in-Structure-2-clause-err t c = on_err _
    (grew_on _ _ _ _ open_ascii c.in_ok-put-in-Structure.ensures.ok
    (grew_on _ _ _ _ (texts_ascii c.as_slice.result.now) c.in_ok-append_all-in-Structure.ensures.ok (grew_none _ _ c.in_err-put-in-Structure-2.ensures.err)))

pub append_all-returns-in_err-append-clause-err : goal.append_all-returns-in_err-append-clause-err
append_all-returns-in_err-append-clause-err t c = on_err _ (grew_on _ _ _ _ (texts_ascii _) c.loop-signature.invariant c.in_err-append.ensures.err)

pub append_all-loop-signature-preserved : goal.append_all-loop-signature-preserved
append_all-loop-signature-preserved t c =
    c.in_ok-append.ensures.ok ∙ rw c.loop-signature.invariant
    (fields_more (string_bytes c.args.w.now) c.args.signatures.now c.loop-signature.signature-index c.signature-item.result c.loop-signature-test.true c.signature-item.is)
