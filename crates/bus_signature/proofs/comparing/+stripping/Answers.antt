use Rattle.std.proofs.Common.{◌++◌, ◌∙◌, ℕ, List, ap}
use Rattle.bus_signature.specs.Texts.{text, texts}
use Rattle.bus_signature.proofs.TextLemmas.{texts_more}
use Rattle.bus_signature.proofs.Strips.{behind, strips_not_at, strips_no_value, strips_dict, strips_no_fields, strips_structure}
use Rattle.bus_signature.proofs.comparing.+stripping.Goals as goal

pub strip-returns-in_default-strip-2 : goal.strip-returns-in_default-strip-2
strip-returns-in_default-strip-2 t c =
    strips_no_value c.args.signature.now c.get-in-Dict.result.now c.get-in-Dict-2.result.now c.args.bytes.now c.in-Some-strip_piece.rest.now c.in-Some-strip.rest.now
    (rw (c.get-in-Dict.ensures, c.get-in-Dict-2.ensures) c.in-Dict.is) c.in-Some-strip_piece.ensures c.in-Some-strip.ensures c.in_default-strip-2.ensures

pub strip-returns-in_default-strip_all : goal.strip-returns-in_default-strip_all
strip-returns-in_default-strip_all t c =
    strips_no_fields c.args.signature.now c.as_slice.result.now c.args.bytes.now c.in-Some-strip_piece-2.rest.now (rw c.as_slice.ensures c.in-Structure.is) c.in-Some-strip_piece-2.ensures
    c.in_default-strip_all.ensures

pub strip-returns-in-Some-strip-2 : goal.strip-returns-in-Some-strip-2
strip-returns-in-Some-strip-2 t c =
    strips_dict c.args.signature.now c.get-in-Dict.result.now c.get-in-Dict-2.result.now c.args.bytes.now c.in-Some-strip_piece.rest.now c.in-Some-strip.rest.now c.in-Some-strip-2.rest.now
    c.strip_piece-in-Dict-2.result
    (rw (c.get-in-Dict.ensures, c.get-in-Dict-2.ensures) c.in-Dict.is) c.in-Some-strip_piece.ensures c.in-Some-strip.ensures c.in-Some-strip-2.ensures c.strip_piece-in-Dict-2.ensures

pub strip-returns-in-Some-strip_all : goal.strip-returns-in-Some-strip_all
strip-returns-in-Some-strip_all t c =
    strips_structure c.args.signature.now c.as_slice.result.now c.args.bytes.now c.in-Some-strip_piece-2.rest.now c.in-Some-strip_all.rest.now c.strip_piece-in-Structure-2.result
    (rw c.as_slice.ensures c.in-Structure.is) c.in-Some-strip_piece-2.ensures c.in-Some-strip_all.ensures c.strip_piece-in-Structure-2.ensures

pub strip_all-returns-in_default : goal.strip_all-returns-in_default
strip_all-returns-in_default t c =
    strips_not_at c.args.signatures.now c.loop-signature.signature-index c.signature-item.result c.args.bytes.now c.loop-signature.rest.now c.loop-signature-test.true c.signature-item.is
    c.loop-signature.invariant c.in_default.ensures

pub strip_all-loop-signature-preserved : goal.strip_all-loop-signature-preserved
strip_all-loop-signature-preserved t c =
    behind (texts _) (text c.signature-item.result) c.args.bytes.now c.loop-signature.rest.now c.in-Some.behind.now c.loop-signature.invariant c.in-Some.ensures
    ∙ ap (λ (r : List ℕ). r ++ c.in-Some.behind.now) (texts_more c.args.signatures.now c.loop-signature.signature-index c.signature-item.result c.loop-signature-test.true c.signature-item.is)
