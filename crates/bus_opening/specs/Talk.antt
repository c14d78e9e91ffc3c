-- A conversation: what is to be sent after each line, and what is asked next.
use Rattle.std.specs.Prelude.{ℕ, ◌+◌, ◌-◌, zero, suc, Bool, nat_lt, if◌then◌else◌, List, [], ◌∷◌}
use Rattle.std.specs.Prelude.{◌++◌, length, take, drop, sum_by, Option, Some, None, is_some}
use Rattle.bus_opening.specs.Limits.{command_limit}
use Rattle.bus_opening.specs.Lines.{lines, long, has_feed, following}

-- how far a conversation has come; a GUID goes by its text
pub data Status : Type 0 where
  more : Status
  done : List ℕ → Bool → Status
  refused : Status

-- the pieces to be sent, and how far it has come
pub record Said : Type 0 where
  pub pieces : List (List ℕ)
  pub status : Status

-- what a step does with a line: pieces to be sent, and the next step or the end
pub data Turn (Phase : Type 0) : Type 0 where
  goes : List (List ℕ) → Phase → Turn Phase
  ends : List (List ℕ) → Status → Turn Phase

-- more pieces before those of a turn
abbrev pub onto : {Phase : Type 0} → List (List ℕ) → Turn Phase → Turn Phase
onto before (goes pieces phase) = goes (before ++ pieces) phase
onto before (ends pieces status) = ends (before ++ pieces) status

abbrev pub then_turn : {Phase : Type 0} → Turn Phase → (Phase → Turn Phase) → Turn Phase
then_turn (goes pieces phase) next = onto pieces (next phase)
then_turn (ends pieces status) next = ends pieces status

-- where a conversation is after these lines, with all its pieces
abbrev pub turn_from : {Phase : Type 0} → (Phase → List ℕ → Turn Phase) → Phase → List (List ℕ) → Turn Phase
turn_from step phase [] = goes [] phase
turn_from step phase (line ∷ others) = then_turn (step phase line) (λ next. turn_from step next others)

abbrev pub said_of : {Phase : Type 0} → Turn Phase → Said
said_of (goes pieces phase) = record { pieces = pieces; status = more }
said_of (ends pieces status) = record { pieces = pieces; status = status }

-- one side of a conversation: what it says first, where it begins, and what a line does
pub record Side (Phase : Type 0) : Type 0 where
  pub opening : List (List ℕ)
  pub start : Phase
  pub step : Phase → List ℕ → Turn Phase

-- the turn after these lines, with all pieces
abbrev pub turn_after : {Phase : Type 0} → Side Phase → List (List ℕ) → Turn Phase
turn_after side ls = onto side.opening (turn_from side.step side.start ls)

-- what this side says after these lines
unfoldable pub talk : {Phase : Type 0} → Side Phase → List (List ℕ) → Said
talk side ls = said_of (turn_after side ls)

-- what is asked of the wire, or the ending
pub data Ask : Type 0 where
  send : List ℕ → Ask
  recv : Ask
  opens : List ℕ → Bool → Ask
  handshake : Ask
  too_many_commands : Ask
  line_too_long : Ask

-- the rest of the piece in which byte w lies
abbrev pub piece_rest : ℕ → List (List ℕ) → List ℕ
piece_rest w [] = []
piece_rest w (piece ∷ pieces) = if nat_lt w (length piece) then drop w piece else piece_rest (w - length piece) pieces

-- what is asked once all pieces are taken and the conversation goes on: k more commands may come
abbrev pub ask_more : ℕ → List ℕ → Option Ask
ask_more zero after = Some too_many_commands
ask_more (suc k) after = if long after then Some line_too_long else if has_feed after then None else Some recv

abbrev pub ask_by : Status → ℕ → List ℕ → Option Ask
ask_by more k after = ask_more k after
ask_by (done guid flag) k after = Some (opens guid flag)
ask_by refused k after = Some handshake

-- what is asked where j lines were looked at; none where the next line is to be looked at
abbrev pub ask_now : (List (List ℕ) → Said) → List ℕ → ℕ → ℕ → ℕ → Option Ask
ask_now talk b w k j =
    let said = talk (take j (lines b).whole) in
    if nat_lt w (sum_by length said.pieces) then Some (send (piece_rest w said.pieces))
    else ask_by said.status k (following j b)

abbrev pub first_of : {A : Type 0} → Option A → (Unit {0} → A) → A
first_of (Some x) other = x
first_of None other = other tt

-- the next question from j lines on, when the bytes b were got and w bytes were taken
unfoldable pub ask_from : (List (List ℕ) → Said) → List ℕ → ℕ → ℕ → ℕ → Ask
ask_from talk b w zero j = first_of (ask_now talk b w zero j) (λ u. too_many_commands)
ask_from talk b w (suc k) j = first_of (ask_now talk b w (suc k) j) (λ u. ask_from talk b w k (j + 1))

unfoldable pub ask : (List (List ℕ) → Said) → List ℕ → ℕ → Ask
ask talk b w = ask_from talk b w command_limit 0

-- how many lines were looked at when that is asked
unfoldable pub looked_from : (List (List ℕ) → Said) → List ℕ → ℕ → ℕ → ℕ → ℕ
looked_from talk b w zero j = j
looked_from talk b w (suc k) j = if is_some (ask_now talk b w (suc k) j) then j else looked_from talk b w k (j + 1)

-- what was got and not looked at
unfoldable pub left : (List (List ℕ) → Said) → List ℕ → ℕ → List ℕ
left talk b w = following (looked_from talk b w command_limit 0) b
