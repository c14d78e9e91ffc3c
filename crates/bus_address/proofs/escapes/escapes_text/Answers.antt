use Rattle.std.proofs.lemmas.Str.{IsUtf8-from_ascii}
use Rattle.bus_address.proofs.GuidLemmas.{is_ok_from_cases}
use Rattle.bus_address.proofs.escapes.escapes_text.Goals as goal

pub unwrap-requires : goal.unwrap-requires
unwrap-requires c = is_ok_from_cases _ _ _ c.from_utf8.result c.from_utf8.ensures.cases (IsUtf8-from_ascii c.args.escapes.now c.requires)
