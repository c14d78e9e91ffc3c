-- A call of the poller fails in a visit: what was told, and what the visit would have been, had the call been answered
-- well.
use Rattle.std.specs.Prelude.{◌≡◌, ◌⊎◌, ◌<◌, ◌≤◌, ◌-◌, ◌^◌, ℕ, Bool, true, false, List, [], ◌∷◌, ◌++◌, map, Option, Some}
use Rattle.std.specs.Prelude.{None, Result, Ok, Err}
use Rattle.react_core.specs.declared.outside.Event.{Event}
use Rattle.react_core.specs.declared.outside.Event.TheVariants as event
use Rattle.react_core.specs.declared.reactor.Dir.{Dir}
use Rattle.react_core.specs.declared.reactor.ReactError.{ReactError}
use Rattle.react_core.specs.declared.reactor.ReactError.TheVariants as react_error
use Rattle.react_core.specs.Core.{Core, inserted}
use Rattle.react_core.specs.Told.{told}
use Rattle.bus_opening.specs.Talk.{Said}
use Rattle.bus_opening.specs.Openings.{Opening, StandsIn}
use Rattle.bus_session.specs.declared.session.Session.{Session}
use Rattle.bus_session.specs.Dialling.{Opened, opens, conversation, begins as begins_dialling}
use Rattle.bus_visit.specs.declared.timing.Limit.{Limit}
use Rattle.bus_visit.specs.declared.visiting.Sleeper.{Sleeper}
use Rattle.bus_visit.specs.declared.visiting.Slot.{Slot}
use Rattle.bus_visit.specs.declared.visiting.Slot.TheVariants as slot
use Rattle.bus_visit.specs.Registry.{Held, Idle, side_held, held_at, with_held}
use Rattle.bus_visit.specs.Asking.{arms_at}
use Rattle.bus_visit.specs.Dialled.{Answered, DialsTo}
use Rattle.bus_visit.specs.Noted.{NotReadyNoted, arms_told}
use Rattle.bus_visit.specs.Shown.{shown}
use Rattle.bus_visit.specs.Visited.{Asleep, Turned, RegisteredVisit, MakesRegisteredVisit, tail_of}
use Rattle.bus_visit.specs.Timed.{limit_of}

-- what holds where a refusal is Poller
abbrev pub IfPoller : ReactError → Type 0 → Type 0
IfPoller react_error.Poller P = P
IfPoller react_error.OutOfMemory P = Unit {0}
IfPoller (react_error.Exhausted c value) P = Unit {0}

-- the same of an answer
abbrev pub OnPoller : {T : Type 0} → Result T ReactError → Type 0 → Type 0
OnPoller (Ok v) P = Unit {0}
OnPoller (Err e) P = IfPoller e P

-- An arming failed. Had it not, a NotReady of this direction would have been noted, and the direction would wait.
pub record NoteFails (wire key : ℕ) (dir : Dir) (before after : Option (List Event)) (old : Core) : Type 0 where
  pub would : Core
  pub held : Held
  pub read : Bool
  pub write : Bool
  pub arms : arms_told (arms_at dir held (side_held dir held)) ≡ event.Modify wire key read write true ∷ []
  pub noted : NotReadyNoted wire key dir before (told before (event.Modify wire key read write true ∷ [])) old would
      false held
  pub gained : after ≡ told before (event.Modify wire key read write false ∷ [])

-- The wire was asked until it wasn't ready, and the arming failed.
pub record TurnsFail (wire key : ℕ) (before after : Option (List Event)) (old : Core) (c : Opening) : Type 0 where
  pub would : Core
  pub client : Opening
  pub held : Held
  pub then_held : Held
  pub calls : List Event
  pub arms : Option (List Event)
  pub read : Bool
  pub write : Bool
  pub armed : arms_told arms ≡ event.Modify wire key read write true ∷ []
  pub turned : Turned wire key before (told before (calls ++ arms_told arms)) old would c client Asleep held then_held
      calls arms
  pub gained : after ≡ told before (calls ++ event.Modify wire key read write false ∷ [])

-- The removal of a source, with an answer of its own. Over an outside that may lack memory it may not have been told.
abbrev pub RemovalTold : Bool → ℕ → ℕ → List Event → Type 0
RemovalTold ample wire key events =
    ((ok : Bool) × (events ≡ event.Delete wire key ok ∷ [])) ⊎ ((ample ≡ false) × (events ≡ []))

-- the call that would have ended the visit, as it failed, and what was told behind it
pub data EndFails (wire key : ℕ) (ample : Bool) : List Event → Event → List Event → Type 0 where
  -- the arming: the source was taken out
  unarmed : (read write : Bool) (own : List Event) → RemovalTold ample wire key own →
      EndFails wire key ample (event.Modify wire key read write true ∷ []) (event.Modify wire key read write false) own
  -- the removal, which takes the source out all the same
  undeleted : EndFails wire key ample (event.Delete wire key true ∷ []) (event.Delete wire key false) []

-- a call of the poller failed in a visit over a registered wire
pub record RegisteredVisitFails (wire key : ℕ) (ample : Bool) (before after : Option (List Event)) (old : Core)
    (c : Opening) : Type 0 where
  pub would : Core
  pub slot : Slot
  pub held : Held
  pub then_held : Held
  pub calls : List Event
  pub arms : Option (List Event)
  pub call : Event
  pub own : List Event
  pub visits : RegisteredVisit wire key before (told before (calls ++ tail_of wire key arms slot)) old would c slot held
      then_held calls arms
  pub fails : EndFails wire key ample (tail_of wire key arms slot) call own
  pub gained : after ≡ told before (calls ++ call ∷ own)

-- a call of the poller failed in a visit over a registered wire, of a session with this deadline and timer
pub data VisitFails (wire key : ℕ) (limit : Option Limit) (ample : Bool) (before after : Option (List Event))
    (old : Core) (c : Opening) : Type 0 where
  -- before its look at the clock
  unlooked : RegisteredVisitFails wire key ample before after old c →
      VisitFails wire key limit ample before after old c
  -- the notice of the timer: the source was taken out
  unnotified : (l : Limit) (s : Sleeper) (mid : Core) (there : Option (List Event)) (moment : ℕ) (own : List Event) →
      limit ≡ Some l → MakesRegisteredVisit wire key before there old mid c (slot.Asleep s) → moment < l.deadline →
      l.number ≡ None → RemovalTold ample wire key own →
      after ≡ told there (event.Now moment ∷ event.Notify false ∷ own) →
      VisitFails wire key limit ample before after old c
  -- the removal of a session whose deadline has come, which takes the source out all the same
  unremoved : (l : Limit) (s : Sleeper) (mid : Core) (there : Option (List Event)) (moment : ℕ) → limit ≡ Some l →
      MakesRegisteredVisit wire key before there old mid c (slot.Asleep s) → l.deadline ≤ moment →
      after ≡ told there (event.Now moment ∷ event.Delete wire key false ∷ []) →
      VisitFails wire key limit ample before after old c

-- A timer was to be made in a visit over a registered wire, and there was no number left: the source was taken out.
pub record VisitRunsOut (wire key : ℕ) (limit : Option Limit) (ample : Bool) (before after : Option (List Event))
    (old : Core) (c : Opening) : Type 0 where
  pub of : Limit
  pub sleeper : Sleeper
  pub mid : Core
  pub there : Option (List Event)
  pub moment : ℕ
  pub own : List Event
  pub limited : limit ≡ Some of
  pub visits : MakesRegisteredVisit wire key before there old mid c (slot.Asleep sleeper)
  pub early : moment < of.deadline
  pub unmade : of.number ≡ None
  pub last : old.made ≡ 2 ^ 64 - 1
  pub removal : RemovalTold ample wire key own
  pub gained : after ≡ told there (event.Now moment ∷ own)

-- a wire was opened and registered, and this comes of the visit of its conversation, by key, core and opening
pub record RegisteredThen (s : Session) (wire : ℕ) (opened : Opened) (old : Core)
    (P : ℕ → Core → Opening → Type 0) : Type 0 where
  pub talk : List (List ℕ) → Said
  pub client : Opening
  pub key : ℕ
  pub mid : Core
  pub begins : conversation s.party opened ≡ talk
  pub stands : StandsIn talk [] client
  pub unwritten : client.written ≡ []
  pub free : held_at (map shown old.sources) key ≡ None
  pub core : mid ≡ inserted old key wire
  pub shows : with_held (map shown old.sources) (record { key = key; wire = wire; read = Idle; write = Idle }) ≡
      map shown mid.sources
  pub comes : P key mid client

-- a call of the poller failed in that visit
abbrev pub RegisteredFails : Session → ℕ → Opened → Bool → Option (List Event) → Option (List Event) → Core → Type 0
RegisteredFails s wire opened ample before after old =
    RegisteredThen s wire opened old (λ key mid client.
    VisitFails wire key (limit_of s.deadline) ample (told before (event.Add wire key true ∷ [])) after mid client)

-- its timer had no number
abbrev pub RegisteredRunsOut : Session → ℕ → Opened → Bool → Option (List Event) → Option (List Event) → Core → Type 0
RegisteredRunsOut s wire opened ample before after old =
    RegisteredThen s wire opened old (λ key mid client.
    VisitRunsOut wire key (limit_of s.deadline) ample (told before (event.Add wire key true ∷ [])) after mid client)

-- a call of the poller failed behind a dialling that opened a wire
pub data OpenedFails (s : Session) (wire : ℕ) (opened : Opened) (ample : Bool) (before after : Option (List Event))
    (old : Core) : Type 0 where
  -- the registration, under a free key
  unregistered : (key : ℕ) → held_at (map shown old.sources) key ≡ None →
      after ≡ told before (event.Add wire key false ∷ []) → OpenedFails s wire opened ample before after old
  registered : RegisteredFails s wire opened ample before after old → OpenedFails s wire opened ample before after old

-- this comes of a first visit behind a dialling that opened a wire, by that wire and the record then
pub record OpensThen (s : Session) (wire : ℕ) (before : Option (List Event))
    (P : Opened → Option (List Event) → Type 0) : Type 0 where
  pub dials : List Answered
  pub opened : Opened
  pub mid : Option (List Event)
  pub dialled : DialsTo wire (begins_dialling s.party) (opens opened) before mid dials
  pub comes : P opened mid

-- a call of the poller failed in a first visit
abbrev pub FirstVisitFails : Session → ℕ → Bool → Option (List Event) → Option (List Event) → Core → Type 0
FirstVisitFails s wire ample before after old =
    OpensThen s wire before (λ opened mid. OpenedFails s wire opened ample mid after old)

-- the timer of a first visit had no number
abbrev pub FirstVisitRunsOut : Session → ℕ → Bool → Option (List Event) → Option (List Event) → Core → Type 0
FirstVisitRunsOut s wire ample before after old =
    OpensThen s wire before (λ opened mid. RegisteredRunsOut s wire opened ample mid after old)

-- where a visit left the session waiting for its wire, a call of the poller failed then
abbrev pub FailsVisit : ℕ → Limit → Sleeper → Bool → Option (List Event) → Option (List Event) → Core → Type 0
FailsVisit wire limit sleeper ample there after mid =
    (before : Option (List Event)) (old : Core) (c : Opening) →
    MakesRegisteredVisit wire sleeper.key before there old mid c (slot.Asleep sleeper) →
    VisitFails wire sleeper.key (Some limit) ample before after old c

-- or its timer had no number
abbrev pub RunsOutOfVisit : ℕ → Limit → Sleeper → Bool → Option (List Event) → Option (List Event) → Core → Type 0
RunsOutOfVisit wire limit sleeper ample there after mid =
    (before : Option (List Event)) (old : Core) (c : Opening) →
    MakesRegisteredVisit wire sleeper.key before there old mid c (slot.Asleep sleeper) →
    VisitRunsOut wire sleeper.key (Some limit) ample before after old c
