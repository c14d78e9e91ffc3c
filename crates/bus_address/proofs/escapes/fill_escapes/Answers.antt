use Rattle.std.proofs.Common.{◌≡◌, ℕ, ◌/◌, ◌%◌, ◌<◌, get_or, refl, sym, ap, ◌∙◌, arith, length-set}
use Rattle.bus_address.specs.declared.escapes.TheConstants.{DIGITS}
use Rattle.bus_address.proofs.EscapeLemmas.{escape_stored}
use Rattle.bus_address.proofs.EscapeTables.{digit_entry}
use Rattle.bus_address.proofs.escapes.fill_escapes.Goals as goal

pub loop-index-preserved : goal.loop-index-preserved
loop-index-preserved c =
    let byte : ℕ = get_or c.args.bytes.now c.loop-index.index 0 in
    let small : byte < 256 = omega (arith, c.type_inv.bytes c.loop-index.index) in
    let high : c.from.result ≡ byte / 16 = c.from.ensures in
    let low : c.from-in-loop-index.result ≡ byte % 16 = c.from-in-loop-index.ensures in
    record {
      fits = omega (arith, c.loop-index.invariant.fits, c.if-index-eq-MOST_ESCAPES.false);
      size = rw (length-set, length-set, length-set) c.loop-index.invariant.size;
      text = escape_stored c.args.bytes.now c.loop-index.buffer c.loop-index.index byte _ _ c.loop-index-test.true refl (sym c.is_plain.ensures ∙ c.if-is_plain.false)
          (ap (λ k. get_or DIGITS k 0) high ∙ digit_entry (byte / 16) (omega arith))
          (ap (λ k. get_or DIGITS k 0) low ∙ digit_entry (byte % 16) (omega arith))
          (omega
          (arith, c.loop-index.invariant.fits, c.loop-index.invariant.size, c.if-index-eq-MOST_ESCAPES.false))
          c.loop-index.invariant.text;
    }
