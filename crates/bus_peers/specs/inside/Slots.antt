-- Where the sessions stand between their visits, in the code and in the record.
use Rattle.std.specs.Prelude.{◌≡◌, ◌≢◌, ◌⊎◌, ◌<◌, ◌≤◌, ◌^◌, ◌-◌, ℕ, ◌+◌, Bool, true, false, not, List, [], ◌∷◌, map}
use Rattle.std.specs.Prelude.{take, length, count_by, Option, Some, None, is_some, Result, Ok, Err}
use Rattle.std.specs.List.{list_all}
use Rattle.react_core.specs.declared.outside.Event.{Event}
use Rattle.react_core.specs.declared.reactor.Counter.{Counter}
use Rattle.react_core.specs.declared.reactor.Counter.TheVariants as counter
use Rattle.react_core.specs.declared.reactor.Dir.{Dir}
use Rattle.react_core.specs.Core.{Core}
use Rattle.react_core.specs.Told.{told}
use Rattle.bus_opening.specs.Talk.{Said}
use Rattle.bus_opening.specs.Openings.{Opening, StandsIn}
use Rattle.bus_session.specs.declared.ended.Ending.TheVariants as ending
use Rattle.bus_session.specs.declared.session.Session.{Session}
use Rattle.bus_session.specs.Parts.{part}
use Rattle.bus_session.specs.Alone.{course, has_reached}
use Rattle.bus_record.specs.Pieces as pieces
use Rattle.bus_record.specs.Pieces.{Pieces, ◌▸◌, visit, rounds_in, armings_in, is_modify}
use Rattle.bus_record.specs.Places.{key_of, waits, paused, moment, is_early, notified}
use Rattle.bus_record.specs.Visits.{was_visited, Visit}
use Rattle.bus_record.specs.Settled.{AllRest, Run, sleepers, comes_to}
use Rattle.bus_record.specs.Headline.{IsEnding}
use Rattle.bus_visit.specs.declared.visiting.Slot.{Slot}
use Rattle.bus_visit.specs.declared.visiting.Slot.TheVariants as slot
use Rattle.bus_peers.specs.declared.open.OpenError.{OpenError}
use Rattle.bus_peers.specs.declared.open.OpenError.TheVariants as open_err
use Rattle.bus_session.specs.Counts.{waits_in, notices_in}
use Rattle.bus_visit.specs.declared.timing.Alarm.{Alarm}
use Rattle.bus_visit.specs.Timed.{moment_after}
use Rattle.bus_visit.specs.Counts.{after_begun}
use Rattle.bus_peers.specs.inside.Shows.{Shows}
use Rattle.bus_peers.specs.inside.Due.{is_in}
use Rattle.bus_visit.specs.Shown.{IsBetweenCalls, shown, Tags, tag_at, has_wire, Single, are_below}
use Rattle.bus_visit.specs.Conversed.{is_awake, stands_at}

-- ---- which slot owns which key

abbrev pub Owns : ℕ → Slot → Tags → Type 0
Owns wire (slot.Ended e) ts = has_wire wire ts ≡ false
Owns wire (slot.Asleep s) ts = tag_at ts s.key ≡ Some wire
Owns wire slot.Refused ts = has_wire wire ts ≡ false

-- the first of these slots is that of this wire
abbrev pub AllOwn : ℕ → List Slot → Tags → Type 0
AllOwn wire [] ts = Unit {0}
AllOwn wire (c ∷ slots) ts = Owns wire c ts × AllOwn (wire + 1) slots ts

-- each key of the reactor is that of a session that sleeps
pub record Owned (slots : List Slot) (ts : Tags) : Type 0 where
  pub each : AllOwn 0 slots ts
  pub below : are_below (length slots) ts ≡ true
  pub single : Single ts

-- the conversations of those that sleep have not ended
abbrev pub is_open_slot : Slot → Bool
is_open_slot (slot.Ended e) = true
is_open_slot (slot.Asleep s) = not s.client.ended
is_open_slot slot.Refused = true

abbrev pub AllOpen : List Slot → Type 0
AllOpen slots = list_all is_open_slot slots ≡ true

-- ---- where a session stands in the record

-- its conversation stands there, paused in this direction
pub record Talking (s : Session) (wire : ℕ) (past : Pieces) (c : Opening) : Type 0 where
  pub talk : List (List ℕ) → Said
  pub got : List ℕ
  pub dir : Dir
  pub stands : StandsIn talk got c
  pub through : course s (part wire (pieces.told past)) ≡ Some (stands_at s.party talk got c (Some dir))

-- The direction that its last wire answer paused waits, and no reading since its last visit has reached its deadline,
-- unless the session is still to be visited in this round.
pub record Paused (wire : ℕ) (deadline : Option ℕ) (past : Pieces) (key : ℕ) (pending : List ℕ) : Type 0 where
  pub registered : key_of wire past ≡ Some key
  pub dir : Dir
  pub last : paused wire past ≡ Some dir
  pub waits_or_due : (waits dir wire past ≡ true) ⊎ (is_in wire pending ≡ true)
  pub early_or_due : (is_early deadline wire past ≡ true) ⊎ (is_in wire pending ≡ true)

-- the deadline that its timer has
abbrev pub deadline_after : Option Alarm → Option ℕ
deadline_after None = None
deadline_after (Some alarm) = Some alarm.deadline

-- where a session stands, some of which are still to be visited
abbrev pub Stands : Session → ℕ → List ℕ → Pieces → Slot → Type 0
Stands s wire pending past (slot.Ended e) = record {
  comes : IsEnding s wire past e;
  awake : is_awake e.ending ≡ true;
  gone : key_of wire past ≡ None;
}
Stands s wire pending past (slot.Asleep c) = record {
  open_ : c.client.ended ≡ false;
  read : moment wire past ≡ moment_after c.alarm;
  limited : s.deadline ≡ deadline_after c.alarm;
  early : has_reached s.deadline (moment_after c.alarm) ≡ false;
  notified : notified wire past ≡ is_some c.alarm;
  comes : comes_to s wire past ≡
      Some (record { ending = ending.Waiting; written = c.client.written; leftover = c.client.rest });
  talking : Talking s wire past c.client;
  paused : Paused wire s.deadline past c.key pending;
}
Stands s wire pending past slot.Refused = ⊥

-- the first of these sessions is that of this wire
abbrev pub AllStand : ℕ → List ℕ → List Session → List Slot → Pieces → Type 0
AllStand wire pending [] [] past = Unit {0}
AllStand wire pending (s ∷ sessions) (c ∷ slots) past =
    Stands s wire pending past c × AllStand (wire + 1) pending sessions slots past
AllStand wire pending [] (c ∷ slots) past = ⊥
AllStand wire pending (s ∷ sessions) [] past = ⊥

-- a session that was not visited yet
pub record IsNew (wire : ℕ) (past : Pieces) : Type 0 where
  pub unvisited : was_visited wire past ≡ false
  pub unheard : part wire (pieces.told past) ≡ []

-- ---- the call under way

-- These pieces were told since the start of the call, and these sessions are still to be visited before the next round.
pub record CallStands (sessions : List Session) (rounds : ℕ) (pending : List ℕ) (start : Core)
    (before after : Option (List Event)) (core : Core)
    (slots : List Slot) (past : Pieces) : Type 0 where
  pub gained : after ≡ told before (pieces.told past)
  pub run : Run sessions rounds past pending
  pub shows : Shows past (map shown core.sources)
  pub rests : IsBetweenCalls core
  pub stands : AllStand 0 pending (take (length slots) sessions) slots past
  -- the sessions without a slot were not dialled yet
  pub unused : (w : ℕ) → length slots ≤ w → IsNew w past
  -- the record has as many waits as it has rounds
  pub counted : waits_in (pieces.told past) ≡ rounds_in past
  pub ticker : core.ticker ≡ start.ticker + rounds_in past
  pub made : core.made ≡ start.made + notices_in (pieces.told past)
  pub begun : core.begun ≡ after_begun start.begun (armings_in past)

-- the call stands there after so many rounds
abbrev pub CallStandsAfter : List Session → ℕ → List ℕ → ℕ → Core → Option (List Event) → Option (List Event) →
    Core → List Slot → Type 0
CallStandsAfter sessions rounds pending n start before after core slots =
    (past : Pieces) × (rounds_in past ≡ n) × CallStands sessions rounds pending start before after core slots past

-- one visit after another: from where these sessions are to be visited to where those are, whatever the call began with
abbrev pub VisitsKeepCall : List ℕ → List ℕ → Option (List Event) → Option (List Event) → Core → Core → List Slot →
    List Slot → Type 0
VisitsKeepCall pending pending' r0 r1 old new slots slots' =
    (sessions : List Session) (rounds n : ℕ) (start : Core) (before : Option (List Event)) →
    CallStandsAfter sessions rounds pending n start before r0 old slots →
    CallStandsAfter sessions rounds pending' n start before r1 new slots'

-- a round and its visits, where one is left and a session sleeps
abbrev pub RoundKeepsCall : Option (List Event) → Option (List Event) → Core → Core → List Slot → List Slot → Type 0
RoundKeepsCall r0 r1 old new slots slots' =
    (sessions : List Session) (rounds n : ℕ) (start : Core) (before : Option (List Event)) →
    length slots ≡ length sessions →
    n < rounds → old.sources ≢ [] →
    CallStandsAfter sessions rounds [] n start before r0 old slots →
    CallStandsAfter sessions rounds [] (n + 1) start before r1 new slots'

-- all rounds that were due, from the first visits on
pub record CallSettled (sessions : List Session) (rounds : ℕ) (start : Core) (before after : Option (List Event))
    (core : Core) (slots : List Slot)
    (past : Pieces) : Type 0 where
  pub going : CallStands sessions rounds [] start before after core slots past
  pub rest : AllRest sessions past
  pub spent : (sleepers sessions past ≡ []) ⊎ (rounds_in past ≡ rounds)

abbrev pub RoundsSettleCall : ℕ → Option (List Event) → Option (List Event) → Core → Core → List Slot →
    List Slot → Type 0
RoundsSettleCall rounds r0 r1 old new slots slots' =
    (sessions : List Session) (start : Core) (before : Option (List Event)) →
    length slots ≡ length sessions →
    CallStandsAfter sessions rounds [] 0 start before r0 old slots → (past : Pieces) ×
    CallSettled sessions rounds start before r1 new slots' past

-- what one visit comes to, in the record
pub record VisitInRecord (s : Session) (wire : ℕ) (past : Pieces) (before after : Option (List Event))
    (old new : Core) (c : Slot) (v : List Event) : Type 0 where
  pub gained : after ≡ told before v
  pub visits : Visit s wire past v
  pub shows : Shows (past ▸ visit wire v) (map shown new.sources)
  pub others : (w : ℕ) → w ≢ wire → part w v ≡ []
  pub rests : IsBetweenCalls new
  pub ticker : new.ticker ≡ old.ticker
  pub made : new.made ≡ old.made + notices_in v
  pub begun : new.begun ≡ after_begun old.begun (count_by is_modify v)
  pub waits : waits_in v ≡ 0
  pub stands : (pending : List ℕ) → Stands s wire pending (past ▸ visit wire v) c

-- ---- refusals

-- What was told, whatever came of it: each round was begun, each timer that was made was notified, and no round is open.
pub record Told (before after : Option (List Event)) (old new : Core) (more : List Event) : Type 0 where
  pub gained : after ≡ told before more
  pub made : new.made ≡ old.made + notices_in more
  pub closed : new.hands ≡ None
  pub ticker : new.ticker ≡ old.ticker + waits_in more

-- where a round's number ran out, the last one was used
abbrev pub LastRound : Counter → Core → Type 0
LastRound counter.Round core = core.ticker ≡ 2 ^ 64 - 1
LastRound counter.Timer core = Unit {0}

-- a refusal; want of memory says nothing of the rounds
abbrev pub RefusedAt : OpenError → Option (List Event) → Option (List Event) → Core → Core → Type 0
RefusedAt open_err.OutOfMemory before after old new =
    (new.hands ≡ None) × ((more : List Event) × (after ≡ told before more))
RefusedAt open_err.Poller before after old new = (more : List Event) × Told before after old new more
RefusedAt (open_err.Exhausted c value) before after old new =
    (value ≡ 2 ^ 64 - 1) × LastRound c new × ((more : List Event) × Told before after old new more)

abbrev pub Refuses : {T : Type 0} → Result T OpenError → Option (List Event) → Option (List Event) → Core →
    Core → Type 0
Refuses (Ok v) before after old new = Unit {0}
Refuses (Err e) before after old new = RefusedAt e before after old new

-- Where a round's number ran out, the call stood at the end of its visits, and a session slept.
pub record CallHalted (sessions : List Session) (rounds : ℕ) (start : Core) (before after : Option (List Event))
    (core : Core) (slots : List Slot) (past : Pieces) : Type 0 where
  pub going : CallStands sessions rounds [] start before after core slots past
  pub len : length slots ≡ length sessions
  pub rest : AllRest sessions past
  pub sleeper : sleepers sessions past ≢ []
  pub left : rounds_in past < rounds

abbrev pub Stuck : {T : Type 0} → Result T OpenError → ℕ → Option (List Event) → Option (List Event) → Core → Core →
    List Slot → List Slot → Type 0
Stuck (Ok v) rounds r0 r1 old new slots slots' = Unit {0}
Stuck (Err open_err.OutOfMemory) rounds r0 r1 old new slots slots' = Unit {0}
Stuck (Err open_err.Poller) rounds r0 r1 old new slots slots' = Unit {0}
Stuck (Err (open_err.Exhausted c value)) rounds r0 r1 old new slots slots' =
    (c ≡ counter.Round) × ((sessions : List Session) (start : Core) (before : Option (List Event)) →
    length slots ≡ length sessions →
    CallStandsAfter sessions rounds [] 0 start before r0 old slots → (past : Pieces) ×
    CallHalted sessions rounds start before r1 new slots' past)
