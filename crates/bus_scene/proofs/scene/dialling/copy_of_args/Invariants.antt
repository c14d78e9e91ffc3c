use Rattle.std.proofs.Common.{◌≡◌, take}
use Rattle.bus_scene.proofs.scene.dialling.copy_of_args.Given as goal

abbrev pub invariant-loop-arg : goal.invariant-loop-arg
invariant-loop-arg l = l.copies.items ≡ take l.arg-index l.args
