use Rattle.std.proofs.Common.{◌≡◌, map, drop}
use Rattle.bus_script.specs.Forms.{readies}
use Rattle.bus_script.proofs.Loops.{with_front}
use Rattle.bus_script.proofs.forms.readies.Given as goal

abbrev pub invariant-loop-word : goal.invariant-loop-word
invariant-loop-word l = with_front l.found.items (readies (map (λ x. x.now) (drop l.word-index l.words)))
    ≡ readies (map (λ x. x.now) l.words)
