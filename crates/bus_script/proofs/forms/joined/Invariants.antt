use Rattle.std.proofs.Common.{◌≡◌, map, take, ◌∷◌}
use Rattle.std.specs.List.{join_with_byte}
use Rattle.std.specs.String.{string_bytes}
use Rattle.bus_script.proofs.forms.joined.Given as goal

abbrev pub invariant-loop-word : goal.invariant-loop-word
invariant-loop-word l = string_bytes l.text ≡ join_with_byte 32
    (l.first ∷ map (λ x. x.now) (take l.word-index l.others))
