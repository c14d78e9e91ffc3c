use Rattle.std.proofs.Common.{IsAscii, sym, subst, ◌∙◌, arith}
use Rattle.bus_address.proofs.EscapeLemmas.{escaped-plain, IsAscii-escaped}
use Rattle.bus_address.proofs.escapes.first_piece.Goals as goal

pub returns-then-is_plain-clause-text : goal.returns-then-is_plain-clause-text
returns-then-is_plain-clause-text c = c.plain_text.ensures ∙ sym (escaped-plain _ c.plain_len-len.ensures.plain)

pub escapes_text-requires : goal.escapes_text-requires
escapes_text-requires c =
    subst IsAscii (sym c.fill_escapes-count.ensures.text) (IsAscii-escaped c.fill_escapes-count.result c.args.bytes.now (λ i. omega (arith, c.type_inv.bytes i)))
