use Rattle.std.proofs.Common.{◌≡◌, take, map}
use Rattle.bus_visit.proofs.dialling.args_of.Given as goal

abbrev pub invariant-loop-bytes : goal.invariant-loop-bytes
invariant-loop-bytes l = record { copied : l.args.items ≡ map (λ v. v.items) (take l.bytes-index l.all) }
