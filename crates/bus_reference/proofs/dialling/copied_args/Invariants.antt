use Rattle.std.proofs.Common.{◌≡◌, map, take}
use Rattle.bus_reference.proofs.dialling.copied_args.Given as goal

abbrev pub invariant-loop-arg : goal.invariant-loop-arg
invariant-loop-arg l = l.all.items ≡ map (λ v. v.items) (take l.arg-index l.args)
