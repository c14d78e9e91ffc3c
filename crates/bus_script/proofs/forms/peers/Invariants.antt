use Rattle.std.proofs.Common.{◌≡◌, map, drop}
use Rattle.bus_script.specs.Forms.{peer_words}
use Rattle.bus_script.proofs.Loops.{with_front}
use Rattle.bus_script.proofs.forms.peers.Given as goal

abbrev pub invariant-loop-word : goal.invariant-loop-word
invariant-loop-word l = with_front l.found.items (peer_words (map (λ x. x.now) (drop l.word-index l.words)))
    ≡ peer_words (map (λ x. x.now) l.words)
