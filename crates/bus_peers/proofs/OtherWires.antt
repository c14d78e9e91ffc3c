-- A visit leaves the other wires as they stood, and a wire without a visit stands nowhere.
use Rattle.std.proofs.Common.{◌≡◌, ℕ, Bool, true, false, not, ◌&&◌, ◌||◌, ◌==◌, if◌then◌else◌, List, Some, None}
use Rattle.std.proofs.Common.{refl, sym, ◌∙◌, ap}
use Rattle.std.proofs.lemmas.Bool.{or_parts, eq-eqb}
use Rattle.std.proofs.lemmas.Option.{none-some}
use Rattle.react_core.specs.declared.outside.Event.{Event}
use Rattle.react_core.specs.declared.reactor.Dir.{Dir}
use Rattle.bus_record.specs.Pieces.{visit, round, Pieces, nothing, ◌▸◌}
use Rattle.bus_record.specs.Places.{key_of, key_through, waits, waits_through, reported, reported_through, reports}
use Rattle.bus_record.specs.Places.{paused}
use Rattle.bus_record.specs.Places.{last_stop, moment, last_reading, notified, notified_through, stays_armed}
use Rattle.bus_record.specs.Places.{armed_through}
use Rattle.bus_record.specs.Visits.{was_visited}
use Rattle.bus_peers.specs.inside.Shows.{StandsStill}

other-else : {A : Type 0} (b : Bool) (x y : A) → b ≡ false → (if b then x else y) ≡ y
other-else true x y e = absurd (cc)
other-else false x y e = refl

-- another wire's visit
pub others-still : (u wire : ℕ) (past : Pieces) (events : List Event) → (u == wire) ≡ false →
    StandsStill wire past (past ▸ visit u events)
others-still u wire past events other = record {
  visited = ap (λ b. b || was_visited wire past) other;
  key = other-else (u == wire) (key_through (key_of wire past) events) (key_of wire past) other;
  waits = λ x. other-else (u == wire) (waits_through x (waits x wire past) events) (waits x wire past) other;
  reported =
      λ x. other-else (u == wire) (reported_through x (reported x wire past) events) (reported x wire past) other;
  armed =
      λ x. other-else (u == wire) (armed_through x (stays_armed x wire past) events) (stays_armed x wire past) other;
  paused = other-else (u == wire) (last_stop (paused wire past) events) (paused wire past) other;
  moment = other-else (u == wire) (last_reading None events) (moment wire past) other;
  notified = other-else (u == wire) (notified_through (notified wire past) events) (notified wire past) other;
}

-- ---- the wire's own visit

own-then : {A : Type 0} (b : Bool) (x y : A) → b ≡ true → (if b then x else y) ≡ x
own-then true x y e = refl
own-then false x y e = absurd (cc)

-- the wire stands behind its visit's events where these lead from where it stood
pub record StandsBehind (wire : ℕ) (before : Pieces) (events : List Event) (after : Pieces) : Type 0 where
  pub key : key_of wire after ≡ key_through (key_of wire before) events
  pub waits : (x : Dir) → waits x wire after ≡ waits_through x (waits x wire before) events
  pub reported : (x : Dir) → reported x wire after ≡ reported_through x (reported x wire before) events
  pub armed : (x : Dir) → stays_armed x wire after ≡ armed_through x (stays_armed x wire before) events
  pub paused : paused wire after ≡ last_stop (paused wire before) events
  pub moment : moment wire after ≡ last_reading None events

pub own-behind : (wire : ℕ) (past : Pieces) (events : List Event) →
    StandsBehind wire past events (past ▸ visit wire events)
own-behind wire past events =
    let own : (wire == wire) ≡ true = eq-eqb wire wire refl in
    record {
      key = own-then (wire == wire) (key_through (key_of wire past) events) (key_of wire past) own;
      waits = λ x. own-then (wire == wire) (waits_through x (waits x wire past) events) (waits x wire past) own;
      reported = λ x. own-then (wire == wire) (reported_through x (reported x wire past) events)
          (reported x wire past) own;
      armed = λ x. own-then (wire == wire) (armed_through x (stays_armed x wire past) events)
          (stays_armed x wire past) own;
      paused = own-then (wire == wire) (last_stop (paused wire past) events) (paused wire past) own;
      moment = own-then (wire == wire) (last_reading None events) (moment wire past) own;
    }

-- ---- a wire without a visit

pub record Unvisited (wire : ℕ) (past : Pieces) : Type 0 where
  pub key : key_of wire past ≡ None
  pub waits : (x : Dir) → waits x wire past ≡ false
  pub reported : (x : Dir) → reported x wire past ≡ false
  pub armed : (x : Dir) → stays_armed x wire past ≡ false
  pub paused : paused wire past ≡ None
  pub moment : moment wire past ≡ None
  pub notified : notified wire past ≡ false

and-left : (a b : Bool) → a ≡ false → (a && b) ≡ false
and-left a b e = ap (λ z. z && b) e

pub unvisited : (wire : ℕ) (past : Pieces) → was_visited wire past ≡ false → Unvisited wire past
unvisited wire nothing none = record {
  key = refl;
  waits = λ x. refl;
  reported = λ x. refl;
  armed = λ x. refl;
  paused = refl;
  moment = refl;
  notified = refl;
}
unvisited wire (past ▸ visit u events) none =
    let both = or_parts (u == wire) (was_visited wire past) none in
    let before = unvisited wire past both.1 in
    let still = others-still u wire past events both.0 in
    record {
      key = still.key ∙ before.key;
      waits = λ x. still.waits x ∙ before.waits x;
      reported = λ x. still.reported x ∙ before.reported x;
      armed = λ x. still.armed x ∙ before.armed x;
      paused = still.paused ∙ before.paused;
      moment = still.moment ∙ before.moment;
      notified = still.notified ∙ before.notified;
    }
unvisited wire (past ▸ round r) none =
    let before = unvisited wire past none in
    record {
      key = before.key;
      waits = λ x. and-left (waits x wire past) (not (reports x wire past r)) (before.waits x);
      reported = λ x. ap (λ b. b || (waits x wire past && reports x wire past r)) (before.reported x)
          ∙ and-left (waits x wire past) (reports x wire past r) (before.waits x);
      armed = λ x. and-left (stays_armed x wire past) _ (before.armed x);
      paused = before.paused;
      moment = before.moment;
      notified = before.notified;
    }

-- who has a key was visited
visited_so : (wire key : ℕ) (past : Pieces) (b : Bool) → was_visited wire past ≡ b → key_of wire past ≡ Some key →
    b ≡ true
visited_so wire key past true is keyed = refl
visited_so wire key past false is keyed = absurd (none-some key (sym (unvisited wire past is).key ∙ keyed))

pub visited-keyed : (wire key : ℕ) (past : Pieces) → key_of wire past ≡ Some key → was_visited wire past ≡ true
visited-keyed wire key past keyed = visited_so wire key past (was_visited wire past) refl keyed
