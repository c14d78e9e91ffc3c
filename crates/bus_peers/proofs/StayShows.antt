-- The sources behind each kind of visit are those that the pieces show.
use Rattle.std.proofs.Common.{◌≡◌, ◌≢◌, ℕ, true, false, ◌==◌, List, [], ◌∷◌, ◌++◌, Option, Some}
use Rattle.std.proofs.Common.{None}
use Rattle.std.proofs.Common.{refl, sym, ◌∙◌, ap, subst, arith}
use Rattle.std.proofs.lemmas.Bool.{both_ways, ne_eqb, eq-eqb}
use Rattle.std.proofs.lemmas.Option.{none-some, same_Some}
use Rattle.std.specs.Option.{option_map}
use Rattle.react_core.specs.declared.outside.Event.{Event}
use Rattle.react_core.specs.declared.outside.Event.TheVariants as event
use Rattle.react_core.specs.declared.reactor.Dir.{Dir}
use Rattle.bus_record.specs.Pieces.{visit, Pieces, ◌▸◌}
use Rattle.bus_record.specs.Places.{key_of, key_by, key_through, holder, holder_by, holder_through, waits, waits_by}
use Rattle.bus_record.specs.Places.{waits_through, reported, reported_by, reported_through, stays_armed, armed_by}
use Rattle.bus_record.specs.Places.{armed_through, paused, last_stop_by, last_stop}
use Rattle.bus_record.specs.Visits.{Here, here, was_visited}
use Rattle.bus_visit.specs.Dialled.{Answered, dials_of, opening}
use Rattle.bus_visit.specs.Registry.{Held, idle, held_at, registry, with_held, without_held}
use Rattle.bus_visit.specs.Registry as registry_of
use Rattle.bus_visit.specs.Calls.{AreCalls}
use Rattle.bus_peers.specs.inside.Shows.{StandsAt, ShowsSource, KeysRise, Shows, ShowsAsleep}
use Rattle.bus_peers.specs.inside.Laws.{FailedDialShows, FirstAsleepShows, FirstOverShows, LaterAsleepShows, LaterOverShows}
use Rattle.bus_peers.specs.inside.Laws.{OthersStandStill}
use Rattle.bus_peers.proofs.CallSources.{held_through, calls-at, calls-rise, through-other, through-own, through-key}
use Rattle.bus_peers.proofs.CallSources.{through-wire, MovesNothing, arm-moves, calls-keys, calls-holders}
use Rattle.bus_visit.specs.laws.Dials.{dials-still, opening-fold, opening-sources}
use Rattle.bus_peers.proofs.HeldLists.{registry-append, if-else, if-then, with-rise, with-at, with-others, without-rise}
use Rattle.bus_peers.proofs.HeldLists.{without-at, without-others}
use Rattle.bus_peers.proofs.OtherWires.{others-still, own-behind, Unvisited, unvisited}
use Rattle.bus_peers.proofs.Sides.{side-same, side-waits, stands-by}
use Rattle.bus_peers.proofs.StayPlaces.{leaves-asleep}
use Rattle.bus_peers.proofs.StaySteps.{Asks}
use Rattle.bus_peers.proofs.VisitShows.{other-wire, Own, Renewed, renewed-shows, keyless-shows}
use Rattle.bus_peers.proofs.WholeVisits.{registered_at, stands-idle, and-true}

-- ---- where the calls of a visit begin

-- Behind the first events of a visit its wire's source stands so under its key, the other keys as before the visit,
-- and what is told next is folded from there.
pub record Begun (past : Pieces) (wire key : ℕ) (first : List Event) (h : Here) (from : Held)
    (sources begun : List Held) : Type 0 where
  pub rise : KeysRise 0 begun
  pub at : held_at begun key ≡ Some from
  pub others : (k : ℕ) → k ≢ key → held_at begun k ≡ held_at sources k
  pub key_so : from.key ≡ key
  pub wire_so : from.wire ≡ wire
  pub stands : StandsAt h from
  pub keys : (rest : List Event) → key_through (key_of wire past) (first ++ rest) ≡ key_through (Some key) rest
  pub holds : (rest : List Event) →
      holder_through key (holder key past) (first ++ rest) ≡ holder_through key (Some wire) rest
  pub holders : (k : ℕ) (rest : List Event) → k ≢ key →
      holder_through k (holder k past) (first ++ rest) ≡ holder_through k (holder k past) rest
  pub waiting : (x : Dir) (rest : List Event) →
      waits_through x (waits x wire past) (first ++ rest) ≡ waits_through x (h.is_waiting x) rest
  pub reported : (x : Dir) (rest : List Event) →
      reported_through x (reported x wire past) (first ++ rest) ≡ reported_through x (h.was_reported x) rest
  pub arming : (x : Dir) (rest : List Event) →
      armed_through x (stays_armed x wire past) (first ++ rest) ≡ armed_through x (stays_armed x wire past) rest
  pub armed : (x : Dir) → h.is_waiting x ≡ true → stays_armed x wire past ≡ true
  pub pausing : (last : Option Dir) (rest : List Event) → last_stop last (first ++ rest) ≡ last_stop last rest
  pub single : (k : ℕ) → key_of wire past ≡ Some k → k ≡ key
  pub free : (held : Held) → held_at sources key ≡ Some held → held.wire ≡ wire

map-kept : (f : Held → Held) (o : Option Held) → ((h : Held) → o ≡ Some h → f h ≡ h) → option_map f o ≡ o
map-kept f None kept = refl
map-kept f (Some h) kept = ap Some (kept h refl)

module _ (past : Pieces) (wire key : ℕ) (first : List Event) (h : Here) (from : Held) (sources begun : List Held)
    (b : Begun past wire key first h from sources begun) (shows : Shows past sources) where
  -- the wire's source behind the calls
  begun-at : (calls : List Event) (to : Held) (o : Option (List Event)) → AreCalls wire calls → Asks from calls to o →
      held_at (registry begun calls) key ≡ Some to
  begun-at calls to o called asked =
      calls-at wire calls begun key called
      ∙ (ap (option_map (held_through wire calls)) b.at
      ∙ ap Some (through-own wire calls from to o called b.wire_so asked))

  -- the others
  begun-others : (calls : List Event) (k : ℕ) → AreCalls wire calls → k ≢ key →
      held_at (registry begun calls) k ≡ held_at sources k
  begun-others calls k called other =
      calls-at wire calls begun k called
      ∙ (ap (option_map (held_through wire calls)) (b.others k other)
      ∙ map-kept (held_through wire calls) (held_at sources k)
      (λ x at. through-other wire calls x (other-wire past sources wire key shows b.single k x other at)))

  to-key : (calls : List Event) (to : Held) (o : Option (List Event)) → AreCalls wire calls → Asks from calls to o →
      to.key ≡ key
  to-key calls to o called asked =
      ap (λ x. x.key) (sym (through-own wire calls from to o called b.wire_so asked))
      ∙ (through-key wire calls from ∙ b.key_so)

  to-wire : (calls : List Event) (to : Held) (o : Option (List Event)) → AreCalls wire calls → Asks from calls to o →
      to.wire ≡ wire
  to-wire calls to o called asked =
      ap (λ x. x.wire) (sym (through-own wire calls from to o called b.wire_so asked))
      ∙ (through-wire wire calls from ∙ b.wire_so)

  -- ---- a visit behind which the session sleeps

  asleep-own : (calls arm : List Event) (to : Held) → AreCalls wire calls → Asks from calls to (Some arm) →
      Own (past ▸ visit wire (first ++ (calls ++ arm))) wire key to
  asleep-own calls arm to called asked =
      let v : List Event = first ++ (calls ++ arm) in
      let behind = own-behind wire past v in
      let leaves = leaves-asleep wire calls h from to arm called b.stands asked in
      let waits_so : (x : Dir) → waits x wire (past ▸ visit wire v) ≡ waits_through x (h.is_waiting x) (calls ++ arm) =
      λ x. behind.waits x ∙ b.waiting x (calls ++ arm) in
      record {
        key_so = to-key calls to (Some arm) called asked;
        wire_so = to-wire calls to (Some arm) called asked;
        stands = stands-by (here wire (past ▸ visit wire v)) to (λ x.
            side-same (waits_through x (h.is_waiting x) (calls ++ arm)) (waits x wire (past ▸ visit wire v))
            (reported_through x (h.was_reported x) (calls ++ arm)) (reported x wire (past ▸ visit wire v))
            (registry_of.side_held x to) (waits_so x) (behind.reported x ∙ b.reported x (calls ++ arm))
            (leaves.sides x));
        armed = λ x up. behind.armed x ∙ (b.arming x (calls ++ arm)
            ∙ leaves.armed x (stays_armed x wire past) (b.armed x)
            (sym (side-waits (waits_through x (h.is_waiting x) (calls ++ arm))
            (reported_through x (h.was_reported x) (calls ++ arm)) (registry_of.side_held x to) (leaves.sides x))
            ∙ (sym (waits_so x) ∙ up)));
      }

  asleep-renews : (calls arm : List Event) (to : Held) → AreCalls wire calls → Asks from calls to (Some arm) →
      Renewed past wire key (first ++ (calls ++ arm)) sources (registry begun (calls ++ arm)) (Some to)
  asleep-renews calls arm to called asked =
      let moves : MovesNothing arm = arm-moves wire calls from to arm called asked in
      let same : registry begun (calls ++ arm) ≡ registry begun calls =
      registry-append begun calls arm ∙ moves.sources (registry begun calls) in
      record {
        rise = subst (KeysRise 0) (sym same) (calls-rise wire 0 calls begun called b.rise);
        at = ap (λ hs. held_at hs key) same ∙ begun-at calls to (Some arm) called asked;
        others = λ k other. ap (λ hs. held_at hs k) same ∙ begun-others calls k called other;
        holds = b.holds (calls ++ arm) ∙ (calls-holders wire calls arm key (Some wire) called
            ∙ moves.holders key (Some wire));
        holders = λ k other. b.holders k (calls ++ arm) other ∙ (calls-holders wire calls arm k (holder k past) called
            ∙ moves.holders k (holder k past));
        keyed = (own-behind wire past (first ++ (calls ++ arm))).key
            ∙ (b.keys (calls ++ arm) ∙ (calls-keys wire calls arm (Some key) called ∙ moves.keys (Some key)));
        own = λ x is. subst (Own (past ▸ visit wire (first ++ (calls ++ arm))) wire key) (same_Some to x is)
            (asleep-own calls arm to called asked);
        single = b.single;
        free = b.free;
      }

  pub asleep-shows : (calls arm : List Event) (to : Held) → AreCalls wire calls → Asks from calls to (Some arm) →
      ShowsAsleep (past ▸ visit wire (first ++ (calls ++ arm))) (registry begun (calls ++ arm)) wire key to
  asleep-shows calls arm to called asked =
      let v : List Event = first ++ (calls ++ arm) in
      let renews = asleep-renews calls arm to called asked in
      let leaves = leaves-asleep wire calls h from to arm called b.stands asked in
      record {
        shows = renewed-shows past wire key v sources (registry begun (calls ++ arm)) (Some to) renews shows;
        held = renews.at;
        wired = to-wire calls to (Some arm) called asked;
        dir = leaves.dir;
        stopped = (own-behind wire past v).paused
            ∙ (b.pausing (paused wire past) (calls ++ arm) ∙ leaves.stop (paused wire past));
        waiting = leaves.waits;
      }

  -- ---- a visit in which the session ends

  -- the calls, and the removal of the source
  abbrev over_by : List Event → List Event
  over_by calls = calls ++ event.Delete wire key true ∷ []

  over-renews : (calls : List Event) → AreCalls wire calls →
      Renewed past wire key (first ++ over_by calls) sources (registry begun (over_by calls)) None
  over-renews calls called =
      let delete : List Event = event.Delete wire key true ∷ [] in
      let same : registry begun (over_by calls) ≡ without_held (registry begun calls) key =
      registry-append begun calls delete in
      let up : KeysRise 0 (registry begun calls) = calls-rise wire 0 calls begun called b.rise in
      record {
        rise = subst (KeysRise 0) (sym same) (without-rise 0 (registry begun calls) key up);
        at = ap (λ hs. held_at hs key) same ∙ without-at 0 (registry begun calls) key up;
        others = λ k other. ap (λ hs. held_at hs k) same ∙ (without-others (registry begun calls) key k other
            ∙ begun-others calls k called other);
        holds = b.holds (over_by calls) ∙ (calls-holders wire calls delete key (Some wire) called
            ∙ if-then (key == key) None (Some wire) (eq-eqb key key refl));
        holders = λ k other. b.holders k (over_by calls) other
            ∙ (calls-holders wire calls delete k (holder k past) called
            ∙ if-else (key == k) None (holder k past) (ne_eqb key k (λ e. other (sym e))));
        keyed = (own-behind wire past (first ++ over_by calls)).key
            ∙ (b.keys (over_by calls) ∙ calls-keys wire calls delete (Some key) called);
        own = λ x is. absurd (none-some x is);
        single = b.single;
        free = b.free;
      }

  pub over-shows : (calls : List Event) → AreCalls wire calls →
      Shows (past ▸ visit wire (first ++ over_by calls)) (registry begun (over_by calls))
  over-shows calls called =
      renewed-shows past wire key (first ++ over_by calls) sources (registry begun (over_by calls)) None
      (over-renews calls called) shows

-- ---- the two beginnings

-- a first visit that adds a source under a free key
begun-first : (past : Pieces) (wire key : ℕ) (dials : List Answered) (sources : List Held) →
    Shows past sources → was_visited wire past ≡ false → held_at sources key ≡ None →
    Begun past wire key (opening wire key dials) (registered_at wire past key) (idle wire key) sources
    (with_held sources (idle wire key))
begun-first past wire key dials sources shows none free =
    let un : Unvisited wire past = unvisited wire past none in
    record {
      rise = with-rise 0 sources (idle wire key) (omega arith) free shows.rise;
      at = with-at sources (idle wire key) free;
      others = λ k other. with-others sources (idle wire key) k other;
      key_so = refl;
      wire_so = refl;
      stands = stands-idle wire past key un;
      keys = λ rest. opening-fold key_by (λ s w q a. refl) wire key dials rest (key_of wire past);
      holds = λ rest. opening-fold (holder_by key) (λ s w q a. refl) wire key dials rest (holder key past)
          ∙ ap (λ h. holder_through key h rest)
          (if-then (key == key) (Some wire) (holder key past) (eq-eqb key key refl));
      holders = λ k rest other. opening-fold (holder_by k) (λ s w q a. refl) wire key dials rest (holder k past)
          ∙ ap (λ h. holder_through k h rest)
          (if-else (key == k) (Some wire) (holder k past) (ne_eqb key k (λ e. other (sym e))));
      waiting = λ x rest. opening-fold (waits_by x) (λ s w q a. refl) wire key dials rest (waits x wire past);
      reported = λ x rest. opening-fold (reported_by x) (λ s w q a. and-true s) wire key dials rest (reported x wire past);
      arming = λ x rest. opening-fold (armed_by x) (λ s w q a. refl) wire key dials rest (stays_armed x wire past);
      armed = λ x up. absurd (both_ways true (sym up ∙ un.waits x) refl);
      pausing = λ last rest. opening-fold last_stop_by (λ s w q a. refl) wire key dials rest last;
      single = λ k keyed. absurd (none-some k (sym un.key ∙ keyed));
      free = λ held at. absurd (none-some held (sym free ∙ at));
    }

-- a later visit
begun-later : (past : Pieces) (from : Held) (sources : List Held) → Shows past sources →
    held_at sources from.key ≡ Some from →
    Begun past from.wire from.key [] (here from.wire past) from sources sources
begun-later past from sources shows at =
    let was : ShowsSource past from = (shows.each from.key from at).1 in
    record {
      rise = shows.rise;
      at = at;
      others = λ k other. refl;
      key_so = refl;
      wire_so = refl;
      stands = was.stands;
      keys = λ rest. ap (λ k. key_through k rest) was.keyed;
      holds = λ rest. ap (λ h. holder_through from.key h rest) was.holds;
      holders = λ k rest other. refl;
      waiting = λ x rest. refl;
      reported = λ x rest. refl;
      arming = λ x rest. refl;
      armed = was.armed;
      pausing = λ last rest. refl;
      single = λ k keyed. same_Some k from.key (sym keyed ∙ was.keyed);
      free = λ held there. ap (λ h. h.wire) (same_Some held from (sym there ∙ at));
    }

-- ---- each kind of visit

pub failed-dial-shows : FailedDialShows
failed-dial-shows wire past sources dials shows keyless =
    let v : List Event = dials_of wire dials in
    keyless-shows past wire v sources shows keyless
    ((own-behind wire past v).key ∙ (dials-still key_by (λ s w q a. refl) wire dials (key_of wire past) ∙ keyless))
    (λ k h. dials-still (holder_by k) (λ s w q a. refl) wire dials h)

pub first-asleep-shows : FirstAsleepShows
first-asleep-shows wire key past sources dials to calls arm begin end shows none free c =
    let S : List Held → Type 0 = λ hs. ShowsAsleep (past ▸ visit wire (opening wire key dials ++ (calls ++ arm))) hs wire
    key to in
    subst S (sym (opening-sources wire key dials (calls ++ arm) sources))
    (asleep-shows past wire key (opening wire key dials) (registered_at wire past key) (idle wire key) sources
    (with_held sources (idle wire key)) (begun-first past wire key dials sources shows none free) shows calls arm to
    c.called c.asked)

pub first-over-shows : FirstOverShows
first-over-shows wire key past sources dials to calls begin end shows none free c =
    let tail : List Event = calls ++ event.Delete wire key true ∷ [] in
    let S : List Held → Type 0 = λ hs. Shows (past ▸ visit wire (opening wire key dials ++ tail)) hs in
    subst S (sym (opening-sources wire key dials tail sources))
    (over-shows past wire key (opening wire key dials) (registered_at wire past key) (idle wire key) sources
    (with_held sources (idle wire key)) (begun-first past wire key dials sources shows none free) shows calls c.called)

pub later-asleep-shows : LaterAsleepShows
later-asleep-shows past sources from to calls arm begin end shows at c =
    asleep-shows past from.wire from.key [] (here from.wire past) from sources sources
    (begun-later past from sources shows at) shows calls arm to c.called c.asked

pub later-over-shows : LaterOverShows
later-over-shows past sources from to calls begin end shows at c =
    over-shows past from.wire from.key [] (here from.wire past) from sources sources
    (begun-later past from sources shows at) shows calls c.called

pub others-stand-still : OthersStandStill
others-stand-still u wire past events other = others-still u wire past events (ne_eqb u wire other)
