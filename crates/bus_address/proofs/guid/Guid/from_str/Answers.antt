use Rattle.std.proofs.Common.{sym, ◌∙◌, eq-eqb}
use Rattle.bus_address.proofs.Choices.{together}
use Rattle.bus_address.proofs.GuidLemmas.{is_guid-lower}
use Rattle.bus_address.proofs.guid.Guid.from_str.Goals as goal

pub invariant_of-result : goal.invariant_of-result
invariant_of-result c =
    rw (c.make_ascii_lowercase.ensures.after, c.copy_from_slice.ensures.after)
    (is_guid-lower c.as_bytes-bytes.result.now
    (together _ _ (eq-eqb _ _ c.if-bytes-ne32.false)
    (sym c.is_hexadecimal.ensures ∙ c.if-not-is_hexadecimal.false)))
