-- The fields of an outbox.
use Rattle.std.specs.Prelude.{ℕ, ◌-◌, nat_lt, if◌then◌else◌, List, [], ◌∷◌, take, drop}
use Rattle.bus_opening.specs.Client.{piece}

-- an outbox: the pieces that are still to be sent, none of them empty, and the bytes that were taken
pub record Sending : Type 0 where
  pub waiting : List (List ℕ)
  pub written : List ℕ

-- what is left to be sent of what was said, where the first piece ends at `end`
abbrev pub waiting_of : List ℕ → ℕ → ℕ → List (List ℕ)
waiting_of said taken end =
    if nat_lt taken end then take (end - taken) (drop taken said) ∷ piece (drop end said) else piece (drop taken said)

abbrev pub first_piece : List (List ℕ) → List ℕ
first_piece [] = []
first_piece (piece ∷ pieces) = piece
