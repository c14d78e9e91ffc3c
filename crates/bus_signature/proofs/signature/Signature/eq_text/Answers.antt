use Rattle.std.proofs.Common.{◌≡◌, ◌∙◌, sym, ap, inr}
use Rattle.std.proofs.lemmas.Bool.{false≢true}
use Rattle.bus_signature.specs.Texts.{text, texts, text_no_parens}
use Rattle.bus_signature.proofs.Cases.{opened_structure, no_parens_other}
use Rattle.bus_signature.proofs.Strips.{end_of_text, text_to_end, second_form}
use Rattle.bus_signature.proofs.signature.Signature.eq_text.Goals as goal

pub returns-in-Structure : goal.returns-in-Structure
returns-in-Structure c =
    let first : c.args.text.now ≡ text c.args.self.now → ⊥
    = λ e. false≢true (sym c.if-is_end.false ∙ c.is_end.ensures.1
    (text_to_end (text c.args.self.now) c.as_bytes-bytes.result.now c.strip.result c.strip.ensures (c.as_bytes-bytes.ensures.value ∙ e))) in
    let bare : text_no_parens c.args.self.now ≡ texts c.as_slice.result.now
    = ap text_no_parens c.in-Structure.is ∙ opened_structure c.in-Structure.fields ∙ ap texts (sym c.as_slice.ensures) in (
      λ told. inr (sym c.as_bytes-bytes.ensures.value ∙ end_of_text (texts c.as_slice.result.now) c.as_bytes-bytes.result.now c.strip_all.result c.strip_all.ensures
          (c.is_end-in-Structure.ensures.0 told) ∙ sym bare),
      second_form first (λ e. c.is_end-in-Structure.ensures.1
          (text_to_end (texts c.as_slice.result.now) c.as_bytes-bytes.result.now c.strip_all.result c.strip_all.ensures (c.as_bytes-bytes.ensures.value ∙ e ∙ bare))),
    )

pub returns-in_default : goal.returns-in_default
returns-in_default c =
    let first : c.args.text.now ≡ text c.args.self.now → ⊥
    = λ e. false≢true (sym c.if-is_end.false ∙ c.is_end.ensures.1
    (text_to_end (text c.args.self.now) c.as_bytes-bytes.result.now c.strip.result c.strip.ensures (c.as_bytes-bytes.ensures.value ∙ e))) in
    (λ told. absurd (false≢true told), second_form first (λ e. absurd (first (e ∙ no_parens_other c.args.self.now c.in_default.not-Structure))))
