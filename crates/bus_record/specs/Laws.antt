-- Laws of settled records.
use Rattle.std.specs.Prelude.{◌≡◌, ◌≤◌, ◌+◌, is_some, ℕ, Bool, true, false, not, ◌&&◌, ◌==◌, if◌then◌else◌, List, []}
use Rattle.std.specs.Prelude.{◌∷◌, Some, slice_get, ◌⊎◌, ◌++◌, ◌↔◌}
use Rattle.std.specs.List.{list_any}
use Rattle.react_core.specs.declared.outside.Event.{Event}
use Rattle.react_core.specs.declared.outside.Event.TheVariants as event
use Rattle.bus_session.specs.declared.session.Session.{Session}
use Rattle.react_core.specs.declared.reactor.Dir.{Dir}
use Rattle.bus_record.specs.Pieces.{Pieces, nothing, ◌▸◌, visit, round, told}
use Rattle.react_core.specs.Round.{reports_of}
use Rattle.bus_session.specs.Parts.{part}
use Rattle.bus_session.specs.Outcomes.{Outcome, is_waiting}
use Rattle.bus_record.specs.Places.{sleeps, key_of, named, stop_of, stops, waits, reports}
use Rattle.bus_record.specs.Visits.{is_call, Visit}
use Rattle.bus_record.specs.Settled.{Run, Settled, comes_to}

-- A record is cut into pieces in one way only, whatever number of rounds it is settled for.
abbrev pub OneCutting : List Session → Type 0
OneCutting sessions =
    (rounds more : ℕ) (one other : Pieces) (events : List Event) → Settled sessions rounds one events →
    Settled sessions more other events → one ≡ other

-- The removals at the end are no part of a session: its part of a settled record is that of the pieces.
abbrev pub PartsInPieces : List Session → Type 0
PartsInPieces sessions =
    (rounds : ℕ) (pieces : Pieces) (events : List Event) (wire : ℕ) → Settled sessions rounds pieces events →
    part wire events ≡ part wire (told pieces)

-- a read or a write stands first
abbrev pub begins_with_call : List Event → Bool
begins_with_call [] = false
begins_with_call (event.Recv wire asked answer ∷ events) = true
begins_with_call (event.Send wire offered answer ∷ events) = true
begins_with_call (e ∷ events) = false

-- the last NotReady of the direction among these events is not followed at once by another call
abbrev pub is_left : Dir → List Event → Bool
is_left x [] = false
is_left x (e ∷ events) =
    if list_any (stops x) events then is_left x events else stops x e && not (begins_with_call events)

-- a removal
abbrev pub is_delete : Event → Bool
is_delete (event.Delete wire key ok) = true
is_delete e = false

-- after a visit's events: the source is gone, or the last NotReady is the last of these, or none stands there
abbrev pub left_after : Dir → Bool → List Event → Bool
left_after x was events =
    if list_any is_delete events then false else if list_any (stops x) events then is_left x events else was

-- The last NotReady of the direction in a visit of the wire was not followed at once by another call, no later Wait has
-- reported the direction, and the source is still there.
abbrev pub was_left : Dir → ℕ → Pieces → Bool
was_left x wire nothing = false
was_left x wire (past ▸ visit w events) =
    if w == wire then left_after x (was_left x wire past) events else was_left x wire past
was_left x wire (past ▸ round r) = was_left x wire past && not (reports x wire past r)

-- A direction waits exactly where its last NotReady was left, and no later Wait has reported it.
abbrev pub WaitsWhereLeft : List Session → Type 0
WaitsWhereLeft sessions =
    (rounds : ℕ) (pieces : Pieces) (wires : List ℕ) (x : Dir) (wire : ℕ) → Run sessions rounds pieces wires →
    waits x wire pieces ≡ was_left x wire pieces

-- a NotReady of the direction, of this wire
abbrev pub stops_on : Dir → ℕ → Event → Bool
stops_on x wire e = is_call wire e && stops x e

-- a call of the wire stands first
abbrev pub call_first : ℕ → List Event → Bool
call_first wire [] = false
call_first wire (e ∷ events) = is_call wire e

-- a Wait that reports the direction of the key
abbrev pub wait_names : Dir → ℕ → Event → Bool
wait_names x key (event.Wait timeout answer) = named x key (reports_of answer)
wait_names x key e = false

-- In this record the last NotReady of the direction of the wire is not followed at once by another call of the wire,
-- and no later Wait reports the direction of the key.
abbrev pub is_left_in : Dir → ℕ → ℕ → List Event → Bool
is_left_in x wire key [] = false
is_left_in x wire key (e ∷ events) =
    if list_any (stops_on x wire) events then is_left_in x wire key events
    else stops_on x wire e && (not (call_first wire events) && not (list_any (wait_names x key) events))

-- The direction of a registered session waits exactly where the record shows it, however it is cut.
abbrev pub WaitsInRecord : List Session → Type 0
WaitsInRecord sessions =
    (rounds : ℕ) (pieces : Pieces) (wires : List ℕ) (x : Dir) (wire key : ℕ) → Run sessions rounds pieces wires →
    key_of wire pieces ≡ Some key → waits x wire pieces ≡ is_left_in x wire key (told pieces)

-- In a settled record each session comes to something by its own part and its last reading: to an ending, or to Waiting
-- while it sleeps.
abbrev pub EachComesToSomething : List Session → Type 0
EachComesToSomething sessions =
    (rounds : ℕ) (pieces : Pieces) (events : List Event) (wire : ℕ) (s : Session) →
    Settled sessions rounds pieces events → slice_get sessions wire ≡ Some s →
    (o : Outcome) × (comes_to s wire pieces ≡ Some o)
    × ((is_waiting o.ending ≡ false) ⊎ ((is_waiting o.ending ≡ true) × (sleeps s wire pieces ≡ true)))

-- The same in places of the record: a NotReady of the direction, behind which no other stands, no call of the wire
-- follows at once, and no Wait reports the direction of the key.
pub record LeftAt (x : Dir) (wire key : ℕ) (record_ : List Event) : Type 0 where
  pub before : List Event
  pub stop : Event
  pub behind : List Event
  pub place : record_ ≡ before ++ (stop ∷ behind)
  pub not_ready : stops_on x wire stop ≡ true
  pub last : list_any (stops_on x wire) behind ≡ false
  pub not_followed : call_first wire behind ≡ false
  pub unreported : list_any (wait_names x key) behind ≡ false

-- The direction of a registered session waits exactly where the record has such a place.
abbrev pub WaitsAtPlaces : List Session → Type 0
WaitsAtPlaces sessions =
    (rounds : ℕ) (pieces : Pieces) (wires : List ℕ) (x : Dir) (wire key : ℕ) → Run sessions rounds pieces wires →
    key_of wire pieces ≡ Some key → (waits x wire pieces ≡ true) ↔ LeftAt x wire key (told pieces)

-- one where it holds
abbrev pub one_if : Bool → ℕ
one_if true = 1
one_if false = 0

-- how many NotReady these events have
abbrev pub pauses_in : List Event → ℕ
pauses_in [] = 0
pauses_in (e ∷ events) = one_if (is_some (stop_of e)) + pauses_in events

-- a visit has at most three NotReady: one for each direction that was reported, and the one that ends it
abbrev pub PausesLittle : Session → Type 0
PausesLittle s = (wire : ℕ) (past : Pieces) (events : List Event) → Visit s wire past events → pauses_in events ≤ 3
