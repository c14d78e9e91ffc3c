-- What contracts see of an outside, and what a call of one of its parts keeps.
use Rattle.std.specs.Prelude.{◌≡◌, ◌<◌, ◌≤◌, ◌^◌, ◌==◌, ◌⊎◌, if◌then◌else◌, ℕ, Bool, true, false, List, Option, Some}
use Rattle.std.specs.Prelude.{None}
use Rattle.std.specs.Option.{option_map}
use Rattle.std.proofs.Common.{refl, ◌∙◌, subst, sym, ap, inl, inr, arith}
use Rattle.std.proofs.lemmas.Grind.{common_steps}
use Rattle.std.proofs.lemmas.Bool.{cases_eq}
use Rattle.react_core.specs.declared.outside.Event.{Event}
use Rattle.react_core.specs.declared.outside.Rooms.{Rooms}
use Rattle.react_core.specs.declared.outside.Rooms.TheVariants as rooms
use Rattle.react_core.specs.Doors.{Doors}
use Rattle.react_core.specs.Told.{SameBut}

pub record Outer (Origin : Type 0) : Type 0 where
  -- where the answers come from, as the script of a scene
  pub origin : Origin
  -- the record, where the object tells one
  pub events : Option (List Event)
  -- the clock's last reading
  pub moment : ℕ
  -- the faults of the poller
  pub poller_faults : ℕ
  -- the room for reports that its waits were lent, where the object tells
  pub rooms : Option Rooms
  -- the faults of each wire
  pub wire_faults : ℕ → ℕ
  -- the faults of the dialling for each wire
  pub dial_faults : ℕ → ℕ
  -- the faults of the listening sockets, and what was found at them
  pub doors : Doors
  -- it is known never to lack memory
  pub ample : Bool

-- no count passes the end of its type
pub record CountsFit {Origin : Type 0} (outer : Outer Origin) : Type 0 where
  pub poller : outer.poller_faults < 2 ^ 64
  pub wires : (wire : ℕ) → outer.wire_faults wire < 2 ^ 64
  pub dials : (wire : ℕ) → outer.dial_faults wire < 2 ^ 64
  pub doors : outer.doors.faults < 2 ^ 64

-- the rooms with one more wait's
abbrev pub with_room : Rooms → ℕ → Rooms
with_room rooms.Unwaited room = rooms.Each room
with_room (rooms.Each each) room = if each == room then rooms.Each each else rooms.Differ
with_room rooms.Differ room = rooms.Differ

-- a wait that was lent this room
abbrev pub lent : Option Rooms → ℕ → Option Rooms
lent before room = option_map (λ r. with_room r room) before

-- the parts of an outside that a call asks
pub data Part : Type 0 where
  -- none: only the record grows
  Record : Part
  Clock : Part
  -- the poller, but for its waits
  Poller : Part
  -- a wait that is lent so much room
  Wait : ℕ → Part
  -- the clock and the poller, whose waits are lent so much room
  Round : ℕ → Part
  Wire : ℕ → Part
  Dial : ℕ → Part
  -- the clock, the poller without a wait, and one wire with its dialling
  Visit : ℕ → Part
  -- all but the listening sockets; waits are lent so much room
  All : ℕ → Part

-- only this wire's count may rise, and it doesn't fall
abbrev pub RisesAt : ℕ → (ℕ → ℕ) → (ℕ → ℕ) → Type 0
RisesAt wire before now = SameBut wire before now × (before wire ≤ now wire)

-- no wire's count falls
abbrev pub NoneFalls : (ℕ → ℕ) → (ℕ → ℕ) → Type 0
NoneFalls before now = (wire : ℕ) → before wire ≤ now wire

abbrev pub MomentStays : Part → ℕ → ℕ → Type 0
MomentStays Record before now = now ≡ before
MomentStays Clock before now = Unit {0}
MomentStays Poller before now = now ≡ before
MomentStays (Wait room) before now = now ≡ before
MomentStays (Round room) before now = Unit {0}
MomentStays (Wire wire) before now = now ≡ before
MomentStays (Dial wire) before now = now ≡ before
MomentStays (Visit wire) before now = Unit {0}
MomentStays (All room) before now = Unit {0}

abbrev pub PollerStays : Part → ℕ → ℕ → Type 0
PollerStays Record before now = now ≡ before
PollerStays Clock before now = now ≡ before
PollerStays Poller before now = Unit {0}
PollerStays (Wait room) before now = Unit {0}
PollerStays (Round room) before now = Unit {0}
PollerStays (Wire wire) before now = now ≡ before
PollerStays (Dial wire) before now = now ≡ before
PollerStays (Visit wire) before now = Unit {0}
PollerStays (All room) before now = Unit {0}

abbrev pub WiresStay : Part → (ℕ → ℕ) → (ℕ → ℕ) → Type 0
WiresStay Record before now = now ≡ before
WiresStay Clock before now = now ≡ before
WiresStay Poller before now = now ≡ before
WiresStay (Wait room) before now = now ≡ before
WiresStay (Round room) before now = now ≡ before
WiresStay (Wire wire) before now = SameBut wire before now
WiresStay (Dial wire) before now = now ≡ before
WiresStay (Visit wire) before now = RisesAt wire before now
WiresStay (All room) before now = NoneFalls before now

abbrev pub DialsStay : Part → (ℕ → ℕ) → (ℕ → ℕ) → Type 0
DialsStay Record before now = now ≡ before
DialsStay Clock before now = now ≡ before
DialsStay Poller before now = now ≡ before
DialsStay (Wait room) before now = now ≡ before
DialsStay (Round room) before now = now ≡ before
DialsStay (Wire wire) before now = now ≡ before
DialsStay (Dial wire) before now = SameBut wire before now
DialsStay (Visit wire) before now = RisesAt wire before now
DialsStay (All room) before now = NoneFalls before now

-- one wait or more were lent this room, or there was none
abbrev pub LentRoom : ℕ → Option Rooms → Option Rooms → Type 0
LentRoom room before now = (now ≡ before) ⊎ (now ≡ lent before room)

abbrev pub RoomsStay : Part → Option Rooms → Option Rooms → Type 0
RoomsStay Record before now = now ≡ before
RoomsStay Clock before now = now ≡ before
RoomsStay Poller before now = now ≡ before
RoomsStay (Wait room) before now = LentRoom room before now
RoomsStay (Round room) before now = LentRoom room before now
RoomsStay (Wire wire) before now = now ≡ before
RoomsStay (Dial wire) before now = now ≡ before
RoomsStay (Visit wire) before now = now ≡ before
RoomsStay (All room) before now = LentRoom room before now

-- all stays but the record, and what is counted and read of this part
pub record Keeps {Origin : Type 0} (part : Part) (before after : Outer Origin) : Type 0 where
  pub origin : after.origin ≡ before.origin
  pub moment : MomentStays part before.moment after.moment
  pub poller : PollerStays part before.poller_faults after.poller_faults
  pub rooms : RoomsStay part before.rooms after.rooms
  pub wires : WiresStay part before.wire_faults after.wire_faults
  pub dials : DialsStay part before.dial_faults after.dial_faults
  pub doors : after.doors ≡ before.doors
  pub ample : after.ample ≡ before.ample

-- ---- a call that asks nothing, and one call after another

moment-same : (part : Part) (n : ℕ) → MomentStays part n n
moment-same Record n = refl
moment-same Clock n = tt
moment-same Poller n = refl
moment-same (Wait room) n = refl
moment-same (Round room) n = tt
moment-same (Wire w) n = refl
moment-same (Dial w) n = refl
moment-same (Visit w) n = tt
moment-same (All room) n = tt

poller-same : (part : Part) (n : ℕ) → PollerStays part n n
poller-same Record n = refl
poller-same Clock n = refl
poller-same Poller n = tt
poller-same (Wait room) n = tt
poller-same (Round room) n = tt
poller-same (Wire w) n = refl
poller-same (Dial w) n = refl
poller-same (Visit w) n = tt
poller-same (All room) n = tt

wires-same : (part : Part) (f : ℕ → ℕ) → WiresStay part f f
wires-same Record f = refl
wires-same Clock f = refl
wires-same Poller f = refl
wires-same (Wait room) f = refl
wires-same (Round room) f = refl
wires-same (Wire w) f = λ v h. refl
wires-same (Dial w) f = refl
wires-same (Visit w) f = (λ v h. refl, omega arith)
wires-same (All room) f = λ v. omega arith

dials-same : (part : Part) (f : ℕ → ℕ) → DialsStay part f f
dials-same Record f = refl
dials-same Clock f = refl
dials-same Poller f = refl
dials-same (Wait room) f = refl
dials-same (Round room) f = refl
dials-same (Wire w) f = refl
dials-same (Dial w) f = λ v h. refl
dials-same (Visit w) f = (λ v h. refl, omega arith)
dials-same (All room) f = λ v. omega arith

moment-then : (part : Part) (a b c : ℕ) → MomentStays part a b → MomentStays part b c → MomentStays part a c
moment-then Record a b c p q = q ∙ p
moment-then Clock a b c p q = tt
moment-then Poller a b c p q = q ∙ p
moment-then (Wait room) a b c p q = q ∙ p
moment-then (Round room) a b c p q = tt
moment-then (Wire w) a b c p q = q ∙ p
moment-then (Dial w) a b c p q = q ∙ p
moment-then (Visit w) a b c p q = tt
moment-then (All room) a b c p q = tt

poller-then : (part : Part) (a b c : ℕ) → PollerStays part a b → PollerStays part b c → PollerStays part a c
poller-then Record a b c p q = q ∙ p
poller-then Clock a b c p q = q ∙ p
poller-then Poller a b c p q = tt
poller-then (Wait room) a b c p q = tt
poller-then (Round room) a b c p q = tt
poller-then (Wire w) a b c p q = q ∙ p
poller-then (Dial w) a b c p q = q ∙ p
poller-then (Visit w) a b c p q = tt
poller-then (All room) a b c p q = tt

wires-then : (part : Part) (a b c : ℕ → ℕ) → WiresStay part a b → WiresStay part b c → WiresStay part a c
wires-then Record a b c p q = q ∙ p
wires-then Clock a b c p q = q ∙ p
wires-then Poller a b c p q = q ∙ p
wires-then (Wait room) a b c p q = q ∙ p
wires-then (Round room) a b c p q = q ∙ p
wires-then (Wire w) a b c p q = λ v h. q v h ∙ p v h
wires-then (Dial w) a b c p q = q ∙ p
wires-then (Visit w) a b c p q = (λ v h. q.0 v h ∙ p.0 v h, omega (arith, p.1, q.1))
wires-then (All room) a b c p q = λ v. omega (arith, p v, q v)

dials-then : (part : Part) (a b c : ℕ → ℕ) → DialsStay part a b → DialsStay part b c → DialsStay part a c
dials-then Record a b c p q = q ∙ p
dials-then Clock a b c p q = q ∙ p
dials-then Poller a b c p q = q ∙ p
dials-then (Wait room) a b c p q = q ∙ p
dials-then (Round room) a b c p q = q ∙ p
dials-then (Wire w) a b c p q = q ∙ p
dials-then (Dial w) a b c p q = λ v h. q v h ∙ p v h
dials-then (Visit w) a b c p q = (λ v h. q.0 v h ∙ p.0 v h, omega (arith, p.1, q.1))
dials-then (All room) a b c p q = λ v. omega (arith, p v, q v)

rises-same : (wire : ℕ) (a b : ℕ → ℕ) → b ≡ a → RisesAt wire a b
rises-same wire a b same =
    let P : (ℕ → ℕ) → Type 0 = λ f. RisesAt wire a f in subst P (sym same) (λ v h. refl, omega arith)

none-falls-same : (a b : ℕ → ℕ) → b ≡ a → NoneFalls a b
none-falls-same a b same = let P : (ℕ → ℕ) → Type 0 = λ f. NoneFalls a f in subst P (sym same) (λ v. omega arith)

none-falls-but : (wire : ℕ) (a b : ℕ → ℕ) → RisesAt wire a b → NoneFalls a b
none-falls-but wire a b rises v =
    elim (cases_eq v wire) [
      | inl same ↦ let P : ℕ → Type 0 = λ n. a n ≤ b n in subst P (sym same) rises.1
      | inr differs ↦ omega (arith, rises.0 v differs)
    ]

is-itself : (n : ℕ) → (n == n) ≡ true
is-itself n = grind (arith, common_steps)

-- lending the same room again changes nothing
with-room-again : (room : ℕ) (r : Rooms) → with_room (with_room r room) room ≡ with_room r room
with-room-again room rooms.Unwaited = rw (is-itself room) refl
with-room-again room (rooms.Each each) =
    elim (each == room) as (λ b. (each == room) ≡ b →
    with_room (with_room (rooms.Each each) room) room ≡ with_room (rooms.Each each) room) [
      | true ↦ λ is. rw is (rw is refl)
      | false ↦ λ is. rw is refl
    ] refl
with-room-again room rooms.Differ = refl

lent-again : (before : Option Rooms) (room : ℕ) → lent (lent before room) room ≡ lent before room
lent-again None room = refl
lent-again (Some r) room = ap Some (with-room-again room r)

lent-room-then : (room : ℕ) (a b c : Option Rooms) → LentRoom room a b → LentRoom room b c → LentRoom room a c
lent-room-then room a b c (inl p) (inl q) = inl (q ∙ p)
lent-room-then room a b c (inl p) (inr q) = inr (q ∙ ap (λ r. lent r room) p)
lent-room-then room a b c (inr p) (inl q) = inr (q ∙ p)
lent-room-then room a b c (inr p) (inr q) = inr (q ∙ (ap (λ r. lent r room) p ∙ lent-again a room))

rooms-same : (part : Part) (a : Option Rooms) → RoomsStay part a a
rooms-same Record a = refl
rooms-same Clock a = refl
rooms-same Poller a = refl
rooms-same (Wait room) a = inl refl
rooms-same (Round room) a = inl refl
rooms-same (Wire w) a = refl
rooms-same (Dial w) a = refl
rooms-same (Visit w) a = refl
rooms-same (All room) a = inl refl

rooms-then : (part : Part) (a b c : Option Rooms) → RoomsStay part a b → RoomsStay part b c → RoomsStay part a c
rooms-then Record a b c p q = q ∙ p
rooms-then Clock a b c p q = q ∙ p
rooms-then Poller a b c p q = q ∙ p
rooms-then (Wait room) a b c p q = lent-room-then room a b c p q
rooms-then (Round room) a b c p q = lent-room-then room a b c p q
rooms-then (Wire w) a b c p q = q ∙ p
rooms-then (Dial w) a b c p q = q ∙ p
rooms-then (Visit w) a b c p q = q ∙ p
rooms-then (All room) a b c p q = lent-room-then room a b c p q

module _ {Origin : Type 0} where
  pub keeps-same : (part : Part) (a : Outer Origin) → Keeps part a a
  keeps-same part a = record {
    origin = refl;
    moment = moment-same part a.moment;
    poller = poller-same part a.poller_faults;
    rooms = rooms-same part a.rooms;
    wires = wires-same part a.wire_faults;
    dials = dials-same part a.dial_faults;
    doors = refl;
    ample = refl;
  }

  pub keeps-then : (part : Part) (a b c : Outer Origin) → Keeps part a b → Keeps part b c → Keeps part a c
  keeps-then part a b c k l = record {
    origin = l.origin ∙ k.origin;
    moment = moment-then part a.moment b.moment c.moment k.moment l.moment;
    poller = poller-then part a.poller_faults b.poller_faults c.poller_faults k.poller l.poller;
    rooms = rooms-then part a.rooms b.rooms c.rooms k.rooms l.rooms;
    wires = wires-then part a.wire_faults b.wire_faults c.wire_faults k.wires l.wires;
    dials = dials-then part a.dial_faults b.dial_faults c.dial_faults k.dials l.dials;
    doors = l.doors ∙ k.doors;
    ample = l.ample ∙ k.ample;
  }

  -- ---- a part within a larger one

  pub poller-in-round : (room : ℕ) (a b : Outer Origin) → Keeps Poller a b → Keeps (Round room) a b
  poller-in-round room a b k = record {
    origin = k.origin;
    moment = tt;
    poller = tt;
    rooms = inl k.rooms;
    wires = k.wires;
    dials = k.dials;
    doors = k.doors;
    ample = k.ample;
  }

  pub clock-in-round : (room : ℕ) (a b : Outer Origin) → Keeps Clock a b → Keeps (Round room) a b
  clock-in-round room a b k = record {
    origin = k.origin;
    moment = tt;
    poller = tt;
    rooms = inl k.rooms;
    wires = k.wires;
    dials = k.dials;
    doors = k.doors;
    ample = k.ample;
  }

  pub wait-in-round : (room : ℕ) (a b : Outer Origin) → Keeps (Wait room) a b → Keeps (Round room) a b
  wait-in-round room a b k = record {
    origin = k.origin;
    moment = tt;
    poller = tt;
    rooms = k.rooms;
    wires = k.wires;
    dials = k.dials;
    doors = k.doors;
    ample = k.ample;
  }

  pub clock-in-visit : (wire : ℕ) (a b : Outer Origin) → Keeps Clock a b → Keeps (Visit wire) a b
  clock-in-visit wire a b k = record {
    origin = k.origin;
    moment = tt;
    poller = tt;
    rooms = k.rooms;
    wires = rises-same wire _ _ k.wires;
    dials = rises-same wire _ _ k.dials;
    doors = k.doors;
    ample = k.ample;
  }

  pub poller-in-visit : (wire : ℕ) (a b : Outer Origin) → Keeps Poller a b → Keeps (Visit wire) a b
  poller-in-visit wire a b k = record {
    origin = k.origin;
    moment = tt;
    poller = tt;
    rooms = k.rooms;
    wires = rises-same wire _ _ k.wires;
    dials = rises-same wire _ _ k.dials;
    doors = k.doors;
    ample = k.ample;
  }

  pub wire-in-visit : (wire : ℕ) (a b : Outer Origin) →
      Keeps (Wire wire) a b → a.wire_faults wire ≤ b.wire_faults wire → Keeps (Visit wire) a b
  wire-in-visit wire a b k rises = record {
    origin = k.origin;
    moment = tt;
    poller = tt;
    rooms = k.rooms;
    wires = (k.wires, rises);
    dials = rises-same wire _ _ k.dials;
    doors = k.doors;
    ample = k.ample;
  }

  pub dial-in-visit : (wire : ℕ) (a b : Outer Origin) →
      Keeps (Dial wire) a b → a.dial_faults wire ≤ b.dial_faults wire → Keeps (Visit wire) a b
  dial-in-visit wire a b k rises = record {
    origin = k.origin;
    moment = tt;
    poller = tt;
    rooms = k.rooms;
    wires = rises-same wire _ _ k.wires;
    dials = (k.dials, rises);
    doors = k.doors;
    ample = k.ample;
  }

  pub visit-in-all : (wire room : ℕ) (a b : Outer Origin) → Keeps (Visit wire) a b → Keeps (All room) a b
  visit-in-all wire room a b k = record {
    origin = k.origin;
    moment = tt;
    poller = tt;
    rooms = inl k.rooms;
    wires = none-falls-but wire _ _ k.wires;
    dials = none-falls-but wire _ _ k.dials;
    doors = k.doors;
    ample = k.ample;
  }

  pub round-in-all : (room : ℕ) (a b : Outer Origin) → Keeps (Round room) a b → Keeps (All room) a b
  round-in-all room a b k = record {
    origin = k.origin;
    moment = tt;
    poller = tt;
    rooms = k.rooms;
    wires = none-falls-same _ _ k.wires;
    dials = none-falls-same _ _ k.dials;
    doors = k.doors;
    ample = k.ample;
  }

  pub poller-in-all : (room : ℕ) (a b : Outer Origin) → Keeps Poller a b → Keeps (All room) a b
  poller-in-all room a b k = round-in-all room a b (poller-in-round room a b k)
