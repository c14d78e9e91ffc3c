-- Where an opening stands, for every history that leads to it.
use Rattle.std.specs.Prelude.{◌≡◌, ℕ, ◌-◌, ◌<◌, ◌≤◌, nat_lt, if◌then◌else◌, List, []}
use Rattle.std.specs.Prelude.{◌∷◌, length, take, drop, sum_by, Option, Some, None}
use Rattle.bus_opening.specs.Limits.{command_limit}
use Rattle.bus_opening.specs.Lines.{lines, following}
use Rattle.bus_opening.specs.Talk.{Turn, goes, ends, Side, turn_after, talk, Ask, send, ask_more, ask_by, ask_now}

-- what is left of the pieces once w bytes were taken: the rest of the piece in which byte w lies, and the pieces behind
-- it
abbrev pub rests : ℕ → List (List ℕ) → List (List ℕ)
rests w [] = []
rests w (piece ∷ pieces) = if nat_lt w (length piece) then drop w piece ∷ pieces else rests (w - length piece) pieces

abbrev pub cut : {Phase : Type 0} → ℕ → Turn Phase → Turn Phase
cut w (goes pieces phase) = goes (rests w pieces) phase
cut w (ends pieces status) = ends (rests w pieces) status

abbrev pub pieces_of : {Phase : Type 0} → Turn Phase → List (List ℕ)
pieces_of (goes pieces phase) = pieces
pieces_of (ends pieces status) = pieces

-- an opening in progress: what is still to be sent with the phase or the end, how many lines were looked at, what came
-- behind them, and what was taken
pub record Standing (Phase : Type 0) : Type 0 where
  pub turn : Turn Phase
  pub count : ℕ
  pub rest : List ℕ
  pub written : List ℕ

-- Over the bytes b, of whose answer the written bytes were taken, the opening stands here.
pub record Stands (Phase : Type 0) (side : Side Phase) (b : List ℕ) (o : Standing Phase) : Type 0 where
  pub few : o.count ≤ command_limit
  pub came : o.count ≤ length (lines b).whole
  pub rest : o.rest ≡ following o.count b
  pub turn : o.turn ≡ cut (length o.written) (turn_after side (take o.count (lines b).whole))
  pub said : length o.written ≤ sum_by length (pieces_of (turn_after side (take o.count (lines b).whole)))
  pub passed : (i : ℕ) → i < o.count → ask_now (talk side) b (length o.written) (command_limit - i) i ≡ None

-- what is asked where that is to be sent, k more lines may be looked at, and that was not looked at; none where a line
-- is to be looked at
abbrev pub ask_turn : {Phase : Type 0} → Turn Phase → ℕ → List ℕ → Option Ask
ask_turn (goes [] phase) k rest = ask_more k rest
ask_turn (goes (piece ∷ pieces) phase) k rest = Some (send piece)
ask_turn (ends [] status) k rest = ask_by status k rest
ask_turn (ends (piece ∷ pieces) status) k rest = Some (send piece)

abbrev pub asks : {Phase : Type 0} → Standing Phase → Option Ask
asks o = ask_turn o.turn (command_limit - o.count) o.rest
