use Rattle.std.proofs.Common.{◌≡◌, replicate, None}
use Rattle.bus_scene.proofs.scene.no_keys.Given as goal

abbrev pub invariant-loop-session : goal.invariant-loop-session
invariant-loop-session l = l.keys.items ≡ replicate l._session None
