-- What comes of a conversation by all bytes that come in, at once, however reads and sends cut them (D-Bus
-- specification, Authentication Protocol).
use Rattle.std.specs.Prelude.{ℕ, ◌+◌, Bool, true, false, not, nat_lt, ◌==◌, ◌||◌, if◌then◌else◌, List, length, take}
use Rattle.std.specs.Prelude.{Option, Some, None}
use Rattle.std.specs.Option.{option_map, option_and_then}
use Rattle.std.specs.List.{concat, find, range_with_len}
use Rattle.bus_opening.specs.Limits.{command_limit}
use Rattle.bus_opening.specs.Lines.{lines, long, has_feed, following}
use Rattle.bus_opening.specs.Talk.{Said, Status, more, done, refused}
use Rattle.bus_session.specs.declared.ended.Ending.{Ending}
use Rattle.bus_session.specs.declared.ended.Ending.TheVariants as ending
use Rattle.bus_session.specs.declared.session.Party.{Party}
use Rattle.bus_session.specs.Dialling.{Opened, conversation}

-- what follows the last of the inbound bytes
pub data Final : Type 0 where
  -- the peer's end of the stream
  ended : Final
  -- a failure of the wire
  failed : Final
  -- nothing
  nothing : Final

-- an ending, and the bytes that the wire took
pub record Conversed : Type 0 where
  pub ending : Ending
  pub written : List ℕ

-- ---- a number of lines

-- what stands behind the first lines of the inbound bytes
pub record Place : Type 0 where
  -- so many lines were looked at
  pub count : ℕ
  -- all that is sent by then
  pub sent : List ℕ
  -- how far the conversation has come
  pub status : Status
  -- what follows those lines
  pub rest : List ℕ

-- the place behind the first j lines
abbrev pub place : (List (List ℕ) → Said) → List ℕ → ℕ → Place
place talk inbound j =
    let said = talk (take j (lines inbound).whole) in
    record { count = j; sent = concat said.pieces; status = said.status; rest = following j inbound }

-- the bytes are more than the wire takes before it fails, if it does
abbrev pub overflows : Option ℕ → List ℕ → Bool
overflows None bytes = false
overflows (Some room) bytes = nat_lt room (length bytes)

-- the bytes that the wire takes
abbrev pub front : Option ℕ → List ℕ → List ℕ
front None bytes = bytes
front (Some room) bytes = take room bytes

-- the conversation goes on
abbrev pub is_more : Status → Bool
is_more more = true
is_more (done guid flag) = false
is_more refused = false

-- ---- the last place

-- no line is looked at behind this place: the wire fails before all is sent, the conversation is over, as many lines
-- were looked at as may be, the next line is too long, or it isn't whole
abbrev pub is_last : Option ℕ → Place → Bool
is_last room p =
    overflows room p.sent
    || (not (is_more p.status) || ((p.count == command_limit) || (long p.rest || not (has_feed p.rest))))

-- how a conversation ends that waits for more bytes
abbrev pub ending_at_final : Final → Option Ending
ending_at_final ended = Some ending.Handshake
ending_at_final failed = Some ending.Io
ending_at_final nothing = None

-- how it ends at its last place, where all is sent
abbrev pub ending_by : Status → Place → Final → Option Ending
ending_by (done guid flag) p fin = Some (ending.Open guid flag)
ending_by refused p fin = Some ending.Handshake
ending_by more p fin =
    if p.count == command_limit then Some ending.TooManyCommands
    else if long p.rest then Some ending.LineTooLong
    else ending_at_final fin

-- what comes of it at its last place
abbrev pub conversed_at : Final → Option ℕ → Place → Option Conversed
conversed_at fin room p =
    if overflows room p.sent then Some (record { ending = ending.Io; written = front room p.sent })
    else option_map (λ e. record { ending = e; written = p.sent }) (ending_by p.status p fin)

-- the least number of lines behind which no other is looked at
abbrev pub last_count : (List (List ℕ) → Said) → List ℕ → Option ℕ → Option ℕ
last_count talk inbound room = find (λ j. is_last room (place talk inbound j)) (range_with_len 0 (command_limit + 1))

-- what comes of a conversation by its inbound bytes, what follows them, and the number of bytes that the wire takes
-- before it fails, if it does; none where it waits for more
unfoldable pub conversed : (List (List ℕ) → Said) → List ℕ → Final → Option ℕ → Option Conversed
conversed talk inbound fin room =
    option_and_then (λ j. conversed_at fin room (place talk inbound j)) (last_count talk inbound room)

-- the same of a party's conversation over an open wire
abbrev pub converse : Party → Opened → List ℕ → Final → Option ℕ → Option Conversed
converse p o inbound fin room = conversed (conversation p o) inbound fin room
