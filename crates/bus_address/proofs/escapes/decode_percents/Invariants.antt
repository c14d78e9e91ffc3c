use Rattle.std.proofs.Common.{◌≡◌, length}
use Rattle.bus_address.specs.Escapes.{unescaped, with_front}
use Rattle.bus_address.proofs.escapes.decode_percents.Given as goal

abbrev pub invariant-loop-first : goal.invariant-loop-first
invariant-loop-first l = with_front l.bytes.items (unescaped l.rest) ≡ unescaped l.text

abbrev pub decreases-loop-first : goal.decreases-loop-first
decreases-loop-first l = length l.rest
