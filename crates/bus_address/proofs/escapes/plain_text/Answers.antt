use Rattle.bus_address.proofs.EscapeLemmas.{IsUtf8-plain}
use Rattle.bus_address.proofs.GuidLemmas.{is_ok_from_cases}
use Rattle.bus_address.proofs.escapes.plain_text.Goals as goal

pub unwrap-requires : goal.unwrap-requires
unwrap-requires c = is_ok_from_cases _ _ _ c.from_utf8.result c.from_utf8.ensures.cases (IsUtf8-plain c.args.bytes.now c.requires)
