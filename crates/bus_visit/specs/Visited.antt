-- What the parts of a visit do, whatever the record was before them.
use Rattle.std.specs.Prelude.{◌≡◌, ◌≢◌, ◌<◌, ◌≤◌, ℕ, ◌+◌, true, false, List, [], ◌∷◌, ◌++◌, map, length}
use Rattle.std.specs.Prelude.{Option, Some, None, is_some, Result, Ok, Err}
use Rattle.react_core.specs.declared.outside.Event.{Event}
use Rattle.react_core.specs.declared.outside.Event.TheVariants as event
use Rattle.react_core.specs.Core.{Core, timers_applied}
use Rattle.react_core.specs.Told.{told, Rose}
use Rattle.bus_opening.specs.Talk.{Said}
use Rattle.bus_opening.specs.Openings.{Opening, StandsIn}
use Rattle.bus_session.specs.declared.ended.Ending.{Ending}
use Rattle.bus_session.specs.declared.ended.Ended.{Ended}
use Rattle.bus_visit.specs.declared.visiting.Slot.{Slot}
use Rattle.bus_visit.specs.declared.visiting.Slot.TheVariants as slot
use Rattle.react_core.specs.declared.reactor.ReactError.{ReactError}
use Rattle.react_core.specs.declared.reactor.ReactError.TheVariants as react_error
use Rattle.bus_session.specs.Parts.{part}
use Rattle.bus_session.specs.Counts.{waits_in, notices_in}
use Rattle.bus_visit.specs.Counts.{after_begun, numbered_in}
use Rattle.bus_visit.specs.Registry.{Held, Side, Idle, Waits, Reported, held_at, registry}
use Rattle.bus_visit.specs.Asking.{asks, begins}
use Rattle.bus_visit.specs.Calls.{AreCalls}
use Rattle.bus_visit.specs.Shown.{IsBetweenCalls, shown, Tags, tags, without_tag}
use Rattle.bus_visit.specs.Conversed.{is_awake, EndsAs, GoesOn}
use Rattle.bus_visit.specs.Noted.{arms_told}

-- A visit needs no round's number, and its answer is Poller only where the poller's count rose.
abbrev pub VisitCounted : {T : Type 0} → Result T ReactError → ℕ → ℕ → Type 0
VisitCounted (Ok v) before now = now ≡ before
VisitCounted (Err react_error.Poller) before now = Rose before now
VisitCounted (Err react_error.OutOfMemory) before now = before ≤ now
VisitCounted (Err (react_error.Exhausted c value)) before now = ⊥

-- What was told while no round came: the reactor has those wires under those keys, and its other numbers stand.
pub record Kept (expected : Tags) (before after : Option (List Event)) (old new : Core)
    (more : List Event) : Type 0 where
  pub gained : after ≡ told before more
  pub waits : waits_in more ≡ 0
  pub ticker : new.ticker ≡ old.ticker
  -- each timer that was made was notified
  pub made : new.made ≡ old.made + notices_in more
  pub tags : tags new.sources ≡ expected
  pub closed : new.hands ≡ None

-- the same for some events
abbrev pub KeepsCall : Tags → Option (List Event) → Option (List Event) → Core → Core → Type 0
KeepsCall expected before after old new = (more : List Event) × Kept expected before after old new more

-- ---- the calls of a conversation

-- how a turn of a visit ends: the session has ended; the direction was reported, so that the wire is asked again;
-- or it waits
pub data TurnEnd : Type 0 where
  Over : Ending → TurnEnd
  Again : TurnEnd
  Asleep : TurnEnd

-- how a turn ends, what it arms, and how the conversation stands then
abbrev pub TurnEndsAs : Opening → Opening → List Event → Option (List Event) → Held → TurnEnd → Type 0
TurnEndsAs c c' calls o h (Over e) = (o ≡ None) × (is_awake e ≡ true) × EndsAs c e c'.written c'.rest calls
TurnEndsAs c c' calls o h Again = (o ≡ None) × (c'.ended ≡ false) × GoesOn c c' calls
TurnEndsAs c c' calls o h Asleep = (is_some o ≡ true) × (c'.ended ≡ false) × GoesOn c c' calls

-- One or more turns: the calls of the wire, the arming that ends them, and how the directions then stand.
pub record Turned (wire key : ℕ) (before after : Option (List Event)) (old new : Core) (c c' : Opening)
    (t : TurnEnd) (h h' : Held) (calls : List Event) (o : Option (List Event)) : Type 0 where
  pub was : held_at (map shown old.sources) key ≡ Some h
  pub wired : h.wire ≡ wire
  pub now : held_at (map shown new.sources) key ≡ Some h'
  pub wired' : h'.wire ≡ wire
  pub gained : after ≡ told before (calls ++ arms_told o)
  -- of its own wire, over each history at which the opening stood
  pub own : (talk : List (List ℕ) → Said) (b : List ℕ) → StandsIn talk b c → AreCalls wire calls
  pub asked : asks (Some (begins h)) calls ≡ Some (record { held = h'; over = o })
  pub shows : registry (map shown old.sources) calls ≡ map shown new.sources
  -- an arming is no wire's event, and changes no side
  pub quiet : (held : List Held) → registry held (arms_told o) ≡ held
  pub apart : (w : ℕ) → part w (arms_told o) ≡ []
  pub unnumbered : numbered_in (calls ++ arms_told o) ≡ 0
  -- the other wires' sources stand as they stood
  pub keeps : (k : ℕ) (x : Held) → held_at (map shown old.sources) k ≡ Some x → x.wire ≢ wire →
      held_at (map shown new.sources) k ≡ Some x
  pub rests : IsBetweenCalls new
  pub ticker : new.ticker ≡ old.ticker
  pub made : new.made ≡ old.made
  pub timers : timers_applied new ≡ timers_applied old
  pub begun : new.begun ≡ after_begun old.begun (length (arms_told o))
  pub tags : tags new.sources ≡ tags old.sources
  pub turned : TurnEndsAs c c' calls o h' t

abbrev pub Turns : ℕ → ℕ → Option (List Event) → Option (List Event) → Core → Core → Opening → Opening →
    TurnEnd → Type 0
Turns wire key before after old new c c' t =
    (h : Held) × (h' : Held) × (calls : List Event) × (o : Option (List Event)) ×
    Turned wire key before after old new c c' t h h' calls o

abbrev pub reported_side : Side → ℕ
reported_side Idle = 0
reported_side Waits = 0
reported_side Reported = 1

-- how often a visit may ask again
abbrev pub reported_one : Held → ℕ
reported_one h = reported_side h.read + reported_side h.write

abbrev pub may_ask : Option Held → ℕ
may_ask None = 0
may_ask (Some h) = reported_one h

-- a turn after which the wire is asked again leaves less
abbrev pub OnAgain : ℕ → ℕ → TurnEnd → Type 0
OnAgain now before Again = now < before
OnAgain now before Asleep = Unit {0}
OnAgain now before (Over e) = Unit {0}

abbrev pub last_turn : Option Ending → TurnEnd
last_turn None = Asleep
last_turn (Some e) = Over e

-- ---- a stay over a registered wire

-- what the end of a visit tells
abbrev pub tail_of : ℕ → ℕ → Option (List Event) → Slot → List Event
tail_of wire key o (slot.Ended e) = event.Delete wire key true ∷ []
tail_of wire key o (slot.Asleep s) = arms_told o
tail_of wire key o slot.Refused = []

abbrev pub tags_after : ℕ → Slot → Tags → Tags
tags_after key (slot.Ended e) ts = without_tag ts key
tags_after key (slot.Asleep s) ts = ts
tags_after key slot.Refused ts = ts

abbrev pub RegisteredVisitEnds : ℕ → ℕ → Opening → List Event → Option (List Event) → List Held → Held → Slot → Type 0
RegisteredVisitEnds wire key c calls o held h (slot.Ended e) = record {
  over : o ≡ None;
  wired : e.wire ≡ wire;
  unread : e.moment ≡ None;
  awake : is_awake e.ending ≡ true;
  ends : EndsAs c e.ending e.written e.leftover calls;
}
RegisteredVisitEnds wire key c calls o held h (slot.Asleep s) = record {
  over : is_some o ≡ true;
  at : s.key ≡ key;
  open_ : s.client.ended ≡ false;
  untimed : s.alarm ≡ None;
  goes : GoesOn c s.client calls;
  held : held_at held key ≡ Some h;
}
RegisteredVisitEnds wire key c calls o held h slot.Refused = ⊥

pub record RegisteredVisit (wire key : ℕ) (before after : Option (List Event)) (old new : Core) (c : Opening)
    (s : Slot) (h h' : Held) (calls : List Event) (o : Option (List Event)) : Type 0 where
  pub was : held_at (map shown old.sources) key ≡ Some h
  pub wired : h.wire ≡ wire
  pub wired' : h'.wire ≡ wire
  pub gained : after ≡ told before (calls ++ tail_of wire key o s)
  -- of its own wire, over each history at which the opening stood
  pub own : (talk : List (List ℕ) → Said) (b : List ℕ) → StandsIn talk b c → AreCalls wire calls
  pub asked : asks (Some (begins h)) calls ≡ Some (record { held = h'; over = o })
  pub shows : registry (map shown old.sources) (calls ++ tail_of wire key o s) ≡ map shown new.sources
  pub apart : (w : ℕ) → part w (tail_of wire key o s) ≡ []
  pub unnumbered : numbered_in (calls ++ tail_of wire key o s) ≡ 0
  pub keeps : (k : ℕ) (x : Held) → held_at (map shown old.sources) k ≡ Some x → x.wire ≢ wire →
      held_at (map shown new.sources) k ≡ Some x
  pub rests : IsBetweenCalls new
  pub ticker : new.ticker ≡ old.ticker
  pub made : new.made ≡ old.made
  pub timers : timers_applied new ≡ timers_applied old
  pub begun : new.begun ≡ after_begun old.begun (length (arms_told o))
  pub tags : tags new.sources ≡ tags_after key s (tags old.sources)
  pub stays : RegisteredVisitEnds wire key c calls o (map shown new.sources) h' s

abbrev pub MakesRegisteredVisit : ℕ → ℕ → Option (List Event) → Option (List Event) → Core → Core → Opening →
    Slot → Type 0
MakesRegisteredVisit wire key before after old new c s =
    (h : Held) × (h' : Held) × (calls : List Event) × (o : Option (List Event)) ×
    RegisteredVisit wire key before after old new c s h h' calls o
