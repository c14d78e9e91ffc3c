-- What calls, and the arming behind them, do to the sources, the keys and who holds them.
use Rattle.std.proofs.Common.{◌≡◌, ◌≢◌, ℕ, Bool, true, false, ◌||◌, ◌==◌, if◌then◌else◌, List, [], ◌∷◌, ◌++◌, Option}
use Rattle.std.proofs.Common.{Some, None}
use Rattle.std.proofs.Common.{refl, sym, ◌∙◌, ap, subst}
use Rattle.std.proofs.lemmas.Bool.{ne_eqb, eq-eqb}
use Rattle.std.proofs.lemmas.Option.{none-some, same_Some}
use Rattle.std.specs.Option.{option_map}
use Rattle.react_core.specs.declared.outside.Event.{Event}
use Rattle.react_core.specs.declared.outside.Event.TheVariants as event
use Rattle.react_core.specs.declared.reactor.Dir.{Dir}
use Rattle.bus_session.specs.Parts.{is_of, part}
use Rattle.bus_record.specs.Places.{key_through, holder_through, last_reading}
use Rattle.bus_record.specs.Places.{stop_of}
use Rattle.bus_visit.specs.Registry.{Held, waits, held_at, held_after, registry, stopped_held, arming}
use Rattle.bus_visit.specs.Calls.{AreCalls}
use Rattle.bus_peers.specs.inside.Shows.{KeysRise}
use Rattle.bus_peers.proofs.CallFacts.{OfCall, of-call, noted_by}
use Rattle.bus_peers.proofs.HeldLists.{if-else, if-then, noted_one, noted-at, noted-rise}
use Rattle.bus_peers.proofs.Sides.{stopped-key, stopped-wire}
use Rattle.bus_peers.proofs.StaySteps.{Asks, Steps, goes, again, arms, rests, steps}

-- ---- a source behind calls of a wire

-- a source after a call that this direction paused, or none did
abbrev pub stopped_by : ℕ → Option Dir → Held → Held
stopped_by wire None h = h
stopped_by wire (Some x) h = noted_one wire x h

-- a source behind calls of the wire
abbrev pub held_through : ℕ → List Event → Held → Held
held_through wire [] h = h
held_through wire (e ∷ calls) h = held_through wire calls (stopped_by wire (stop_of e) h)

map-same : (o : Option Held) → option_map (λ h. h) o ≡ o
map-same None = refl
map-same (Some h) = refl

map-map : (f g : Held → Held) (o : Option Held) → option_map g (option_map f o) ≡ option_map (λ h. g (f h)) o
map-map f g None = refl
map-map f g (Some h) = refl

stopped-at : (wire : ℕ) (so : Option Dir) (held : List Held) (k : ℕ) →
    held_at (noted_by wire so held) k ≡ option_map (stopped_by wire so) (held_at held k)
stopped-at wire None held k = sym (map-same (held_at held k))
stopped-at wire (Some x) held k = noted-at wire x held k

-- each source behind calls, by its key
pub calls-at : (wire : ℕ) (calls : List Event) (held : List Held) (k : ℕ) → AreCalls wire calls →
    held_at (registry held calls) k ≡ option_map (held_through wire calls) (held_at held k)
calls-at wire [] held k own = sym (map-same (held_at held k))
calls-at wire (e ∷ calls) held k own =
    let f : OfCall wire e = of-call wire e own.0 in
    calls-at wire calls (held_after held e) k own.1
    ∙ (ap (λ hs. option_map (held_through wire calls) (held_at hs k)) (f.held held)
    ∙ (ap (option_map (held_through wire calls)) (stopped-at wire (stop_of e) held k)
    ∙ map-map (stopped_by wire (stop_of e)) (held_through wire calls) (held_at held k)))

stopped-rise : (wire : ℕ) (so : Option Dir) (low : ℕ) (held : List Held) → KeysRise low held →
    KeysRise low (noted_by wire so held)
stopped-rise wire None low held up = up
stopped-rise wire (Some x) low held up = noted-rise wire x low held up

pub calls-rise : (wire low : ℕ) (calls : List Event) (held : List Held) → AreCalls wire calls → KeysRise low held →
    KeysRise low (registry held calls)
calls-rise wire low [] held own up = up
calls-rise wire low (e ∷ calls) held own up =
    let f : OfCall wire e = of-call wire e own.0 in
    calls-rise wire low calls (held_after held e) own.1
    (subst (KeysRise low) (sym (f.held held)) (stopped-rise wire (stop_of e) low held up))

-- ---- another wire's source

stopped-other : (wire : ℕ) (so : Option Dir) (h : Held) → h.wire ≢ wire → stopped_by wire so h ≡ h
stopped-other wire None h other = refl
stopped-other wire (Some x) h other =
    if-else (h.wire == wire) (stopped_held x h) h (ne_eqb h.wire wire other)

pub through-other : (wire : ℕ) (calls : List Event) (h : Held) → h.wire ≢ wire → held_through wire calls h ≡ h
through-other wire [] h other = refl
through-other wire (e ∷ calls) h other =
    ap (held_through wire calls) (stopped-other wire (stop_of e) h other) ∙ through-other wire calls h other

-- ---- the wire's own source

stopped-own : (wire : ℕ) (x : Dir) (h : Held) → h.wire ≡ wire → noted_one wire x h ≡ stopped_held x h
stopped-own wire x h own = if-then (h.wire == wire) (stopped_held x h) h (eq-eqb h.wire wire own)

-- calls of which none is left lead nowhere
own_end : (wire : ℕ) (x : Dir) (calls : List Event) (h h' : Held) → h.wire ≡ wire → calls ≡ [] →
    h' ≡ stopped_held x h → held_through wire calls (noted_one wire x h) ≡ h'
own_end wire x calls h h' own none is =
    ap (λ z. held_through wire z (noted_one wire x h)) none ∙ (stopped-own wire x h own ∙ sym is)

own_go : (wire : ℕ) (calls : List Event) (h h' : Held) (o : Option (List Event)) (so : Option Dir) → h.wire ≡ wire →
    ((h1 : Held) → h1.wire ≡ wire → Asks h1 calls h' o → held_through wire calls h1 ≡ h') →
    Steps h calls h' o so → held_through wire calls (stopped_by wire so h) ≡ h'
own_go wire calls h h' o so own ih (goes asked) = ih h own asked
own_go wire calls h h' o so own ih (again x side asked) =
    ap (held_through wire calls) (stopped-own wire x h own) ∙ ih (stopped_held x h) (stopped-wire x h ∙ own) asked
own_go wire calls h h' o so own ih (arms x side none is over) = own_end wire x calls h h' own none is
own_go wire calls h h' o so own ih (rests x side none is over) = own_end wire x calls h h' own none is

-- the calls of a visit lead its source where the visit leaves it
pub through-own : (wire : ℕ) (calls : List Event) (h h' : Held) (o : Option (List Event)) → AreCalls wire calls →
    h.wire ≡ wire → Asks h calls h' o → held_through wire calls h ≡ h'
through-own wire [] h h' o called own asked = ap (λ a. a.held) (same_Some _ (record { held = h'; over = o }) asked)
through-own wire (e ∷ calls) h h' o called own asked =
    let f : OfCall wire e = of-call wire e called.0 in
    own_go wire calls h h' o (stop_of e) own
    (λ h1 own1 asked1. through-own wire calls h1 h' o called.1 own1 asked1) (steps wire e calls h h' o f asked)

stopped_by-key : (wire : ℕ) (so : Option Dir) (h : Held) → (stopped_by wire so h).key ≡ h.key
stopped_by-key wire None h = refl
stopped_by-key wire (Some x) h = go (h.wire == wire)
  where
    go : (b : Bool) → (if b then stopped_held x h else h).key ≡ h.key
    go true = stopped-key x h
    go false = refl

stopped_by-wire : (wire : ℕ) (so : Option Dir) (h : Held) → (stopped_by wire so h).wire ≡ h.wire
stopped_by-wire wire None h = refl
stopped_by-wire wire (Some x) h = go (h.wire == wire)
  where
    go : (b : Bool) → (if b then stopped_held x h else h).wire ≡ h.wire
    go true = stopped-wire x h
    go false = refl

-- calls move neither its key nor its wire
pub through-key : (wire : ℕ) (calls : List Event) (h : Held) → (held_through wire calls h).key ≡ h.key
through-key wire [] h = refl
through-key wire (e ∷ calls) h =
    through-key wire calls (stopped_by wire (stop_of e) h) ∙ stopped_by-key wire (stop_of e) h

pub through-wire : (wire : ℕ) (calls : List Event) (h : Held) → (held_through wire calls h).wire ≡ h.wire
through-wire wire [] h = refl
through-wire wire (e ∷ calls) h =
    through-wire wire calls (stopped_by wire (stop_of e) h) ∙ stopped_by-wire wire (stop_of e) h

-- ---- what is quiet

-- events that move no key, no source and no reading, and are no wire's own
pub record MovesNothing (events : List Event) : Type 0 where
  pub keys : (k : Option ℕ) → key_through k events ≡ k
  pub holders : (k : ℕ) (h : Option ℕ) → holder_through k h events ≡ h
  pub sources : (held : List Held) → registry held events ≡ held
  pub parts : (w : ℕ) → part w events ≡ []
  pub readings : (last : Option ℕ) → last_reading last events ≡ last

pub nothing-moves : MovesNothing []
nothing-moves = record {
  keys = λ k. refl;
  holders = λ k h. refl;
  sources = λ held. refl;
  parts = λ w. refl;
  readings = λ last. refl;
}

arming_moves : (wire key : ℕ) (read write b : Bool) →
    MovesNothing (if b then event.Modify wire key read write true ∷ [] else [])
arming_moves wire key read write true = record {
  keys = λ k. refl;
  holders = λ k h. refl;
  sources = λ held. refl;
  parts = λ w. refl;
  readings = λ last. refl;
}
arming_moves wire key read write false = nothing-moves

pub arming-moves : (h : Held) → MovesNothing (arming h)
arming-moves h = arming_moves h.wire h.key (waits h.read) (waits h.write) (waits h.read || waits h.write)

arm_go : (calls : List Event) (h h' : Held) (arm : List Event) (so : Option Dir) →
    ((h1 : Held) → Asks h1 calls h' (Some arm) → MovesNothing arm) → Steps h calls h' (Some arm) so → MovesNothing arm
arm_go calls h h' arm so ih (goes asked) = ih h asked
arm_go calls h h' arm so ih (again x side asked) = ih (stopped_held x h) asked
arm_go calls h h' arm so ih (arms x side none is over) =
    subst MovesNothing (sym (same_Some arm (arming (stopped_held x h)) over)) (arming-moves (stopped_held x h))
arm_go calls h h' arm so ih (rests x side none is over) =
    subst MovesNothing (sym (same_Some arm [] over)) nothing-moves

-- the arming that ends a visit moves nothing
pub arm-moves : (wire : ℕ) (calls : List Event) (h h' : Held) (arm : List Event) → AreCalls wire calls →
    Asks h calls h' (Some arm) → MovesNothing arm
arm-moves wire [] h h' arm called asked =
    absurd (none-some arm (ap (λ a. a.over) (same_Some _ (record { held = h'; over = Some arm }) asked)))
arm-moves wire (e ∷ calls) h h' arm called asked =
    arm_go calls h h' arm (stop_of e) (λ h1 asked1. arm-moves wire calls h1 h' arm called.1 asked1)
    (steps wire e calls h h' (Some arm) (of-call wire e called.0) asked)

-- ---- calls before other events

pub calls-keys : (wire : ℕ) (calls events : List Event) (k : Option ℕ) → AreCalls wire calls →
    key_through k (calls ++ events) ≡ key_through k events
calls-keys wire [] events k called = refl
calls-keys wire (e ∷ calls) events k called =
    ap (λ z. key_through z (calls ++ events)) ((of-call wire e called.0).key k)
    ∙ calls-keys wire calls events k called.1

pub calls-holders : (wire : ℕ) (calls events : List Event) (k : ℕ) (h : Option ℕ) → AreCalls wire calls →
    holder_through k h (calls ++ events) ≡ holder_through k h events
calls-holders wire [] events k h called = refl
calls-holders wire (e ∷ calls) events k h called =
    ap (λ z. holder_through k z (calls ++ events)) ((of-call wire e called.0).holder k h)
    ∙ calls-holders wire calls events k h called.1

pub calls-readings : (wire : ℕ) (calls events : List Event) (last : Option ℕ) → AreCalls wire calls →
    last_reading last (calls ++ events) ≡ last_reading last events
calls-readings wire [] events last called = refl
calls-readings wire (e ∷ calls) events last called =
    ap (λ z. last_reading z (calls ++ events)) ((of-call wire e called.0).reading last)
    ∙ calls-readings wire calls events last called.1

pub calls-part : (wire : ℕ) (calls events : List Event) → AreCalls wire calls →
    part wire (calls ++ events) ≡ calls ++ part wire events
calls-part wire [] events called = refl
calls-part wire (e ∷ calls) events called =
    if-then (is_of wire e) (e ∷ part wire (calls ++ events)) (part wire (calls ++ events))
    (of-call wire e called.0).part
    ∙ ap (λ z. e ∷ z) (calls-part wire calls events called.1)

-- they are no other wire's
pub calls-others : (wire w : ℕ) (calls events : List Event) → AreCalls wire calls → wire ≢ w →
    part w (calls ++ events) ≡ part w events
calls-others wire w [] events called other = refl
calls-others wire w (e ∷ calls) events called other =
    if-else (is_of w e) (e ∷ part w (calls ++ events)) (part w (calls ++ events))
    ((of-call wire e called.0).others w other)
    ∙ calls-others wire w calls events called.1 other
