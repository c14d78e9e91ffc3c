-- That a list of sources is what the pieces so far show: who is registered under which key, and how each direction
-- stands.
use Rattle.std.specs.Prelude.{◌≡◌, ◌+◌, ◌≤◌, ℕ, Bool, true, false, List, [], ◌∷◌, Some, None}
use Rattle.react_core.specs.declared.reactor.Dir.{Dir}
use Rattle.react_core.specs.declared.reactor.Dir.TheVariants.{Read, Write}
use Rattle.bus_record.specs.Pieces.{Pieces}
use Rattle.bus_record.specs.Places.{key_of, holder, waits, reported, paused, moment, notified, stays_armed}
use Rattle.bus_record.specs.Visits.{Here, here, was_visited}
use Rattle.bus_visit.specs.Registry.{Side, Idle, Waits, Reported, Held, held_at, side_held, waits as waits_side}

-- whether a direction waits and whether it was reported, by how it stands
abbrev pub IsSide : Bool → Bool → Side → Type 0
IsSide waiting reported Idle = (waiting ≡ false) × (reported ≡ false)
IsSide waiting reported Waits = (waiting ≡ true) × (reported ≡ false)
IsSide waiting reported Reported = (waiting ≡ false) × (reported ≡ true)

-- both directions stand as the source has them
pub record StandsAt (h : Here) (held : Held) : Type 0 where
  pub read : IsSide (h.is_waiting Read) (h.was_reported Read) held.read
  pub write : IsSide (h.is_waiting Write) (h.was_reported Write) held.write

-- a source as the pieces show it
pub record ShowsSource (past : Pieces) (held : Held) : Type 0 where
  pub keyed : key_of held.wire past ≡ Some held.key
  pub holds : holder held.key past ≡ Some held.wire
  pub stands : StandsAt (here held.wire past) held
  pub armed : (d : Dir) → waits d held.wire past ≡ true → stays_armed d held.wire past ≡ true

-- the keys rise, the first from this number on
abbrev pub KeysRise : ℕ → List Held → Type 0
KeysRise low [] = Unit {0}
KeysRise low (h ∷ held) = (low ≤ h.key) × KeysRise (h.key + 1) held

-- the sources, by rising key, are those that the pieces show
pub record Shows (past : Pieces) (sources : List Held) : Type 0 where
  pub rise : KeysRise 0 sources
  pub each : (key : ℕ) (h : Held) → held_at sources key ≡ Some h → (h.key ≡ key) × ShowsSource past h
  pub free : (key : ℕ) → held_at sources key ≡ None → holder key past ≡ None
  pub keyed : (wire key : ℕ) → key_of wire past ≡ Some key →
      (h : Held) × (held_at sources key ≡ Some h) × (h.wire ≡ wire)

-- The pieces show these sources, and under this key the one of a wire whose last call paused a direction that waits.
pub record ShowsAsleep (past : Pieces) (sources : List Held) (wire key : ℕ) (h : Held) : Type 0 where
  pub shows : Shows past sources
  pub held : held_at sources key ≡ Some h
  pub wired : h.wire ≡ wire
  pub dir : Dir
  pub stopped : paused wire past ≡ Some dir
  pub waiting : waits_side (side_held dir h) ≡ true

-- the wire stands there as it stood before
pub record StandsStill (wire : ℕ) (before after : Pieces) : Type 0 where
  pub visited : was_visited wire after ≡ was_visited wire before
  pub key : key_of wire after ≡ key_of wire before
  pub waits : (x : Dir) → waits x wire after ≡ waits x wire before
  pub reported : (x : Dir) → reported x wire after ≡ reported x wire before
  pub armed : (x : Dir) → stays_armed x wire after ≡ stays_armed x wire before
  pub paused : paused wire after ≡ paused wire before
  pub moment : moment wire after ≡ moment wire before
  pub notified : notified wire after ≡ notified wire before
