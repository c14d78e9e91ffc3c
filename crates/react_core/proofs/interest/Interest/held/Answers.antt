use Rattle.std.proofs.Common.{refl}
use Rattle.react_core.proofs.Holding.{at_key-futures_in, is_some-place_of, not_held}
use Rattle.react_core.proofs.interest.Interest.held.Goals as goal

pub returns-in-Some : goal.returns-in-Some
returns-in-Some c = rw (c.in-Some.is, ← c.self.view_is, at_key-futures_in, is_some-place_of, c.contains.ensures.0 c.if-contains.true) refl

pub returns-in_default : goal.returns-in_default
returns-in_default c = rw (c.in-Some.is, ← c.self.view_is, at_key-futures_in, is_some-place_of, not_held _ _ c.contains.ensures.1 c.if-contains.false) refl
