use Rattle.std.proofs.Common.{◌≡◌, Some}
use Rattle.bus_address.specs.Guid.{guid}
use Rattle.bus_address.proofs.GuidLemmas.{IsUtf8-is_guid, is_ok_from_cases, guid-is_guid}
use Rattle.bus_address.proofs.guid.Guid.as_str.Goals as goal

pub unwrap-requires : goal.unwrap-requires
unwrap-requires c = is_ok_from_cases _ _ _ c.from_utf8.result c.from_utf8.ensures.cases (IsUtf8-is_guid c.self.inside.digits c.self.invariant)

pub returns-clause-read_back : goal.returns-clause-read_back
returns-clause-read_back c =
    let same : c.unwrap.result.now ≡ c.self.inside.digits = (rw c.unwrap.ensures at c.from_utf8.ensures.cases).0 in
    let told : guid c.self.inside.digits ≡ Some c.self.inside.digits = guid-is_guid c.self.inside.digits c.self.invariant in
    rw (same, ← c.self.view_is) told
