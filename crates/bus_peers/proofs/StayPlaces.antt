-- How a stay that ends asleep leaves its source.
use Rattle.std.proofs.Common.{◌≡◌, ℕ, Bool, true, false, not, ◌&&◌, ◌||◌, List, [], ◌∷◌, ◌++◌, Option}
use Rattle.std.proofs.Common.{Some, None, refl, sym, ◌∙◌, ap, subst}
use Rattle.std.proofs.lemmas.Option.{none-some, same_Some}
use Rattle.react_core.specs.declared.outside.Event.{Event}
use Rattle.react_core.specs.declared.outside.Event.TheVariants as event
use Rattle.react_core.specs.declared.reactor.Dir.{Dir}
use Rattle.react_core.specs.declared.reactor.Dir.TheVariants.{Read, Write}
use Rattle.bus_record.specs.Places.{names, waits_by, reported_by, reported_through, waits_through, armed_by}
use Rattle.bus_record.specs.Places.{is_dir, stop_of, last_stop_by}
use Rattle.bus_record.specs.Visits.{Here, here_by}
use Rattle.bus_visit.specs.Registry.{Idle, Waits, Reported, Held, waits, side_held, stopped_held, arming}
use Rattle.bus_visit.specs.Calls.{AreCalls}
use Rattle.bus_peers.specs.inside.Shows.{StandsAt}
use Rattle.bus_peers.specs.inside.RegisteredVisits.{LeavesAsleep}
use Rattle.bus_peers.proofs.CallFacts.{OfCall, of-call}
use Rattle.bus_peers.proofs.StaySteps.{Asks, Steps, goes, again, arms, rests, steps}
use Rattle.bus_peers.proofs.Sides.{side-at, side-waits, side-same, stands-on, stands-stopped, stopped-sides}
use Rattle.bus_peers.proofs.Sides.{armed-sides}
use Rattle.bus_peers.proofs.Sides.{stopped-waits, waited-before, and_true}

-- ---- the arming that ends a stay

-- the arming of a source of which a direction waits
arming_go : (h : Held) (x : Dir) (r w : Bool) → waits h.read ≡ r → waits h.write ≡ w → waits (side_held x h) ≡ true →
    arming h ≡ event.Modify h.wire h.key r w true ∷ []
arming_go h x true w e f up = rw (e, f) refl
arming_go h x false true e f up = rw (e, f) refl
arming_go h Read false false e f up = absurd (let no_one : false ≡ true = sym e ∙ up in cc)
arming_go h Write false false e f up = absurd (let no_one : false ≡ true = sym f ∙ up in cc)

pub arming-some : (h : Held) (x : Dir) → waits (side_held x h) ≡ true →
    arming h ≡ event.Modify h.wire h.key (waits h.read) (waits h.write) true ∷ []
arming-some h x up = arming_go h x (waits h.read) (waits h.write) refl refl up

names-side : (y : Dir) (h : Held) → names y (waits h.read) (waits h.write) ≡ waits (side_held y h)
names-side Read h = refl
names-side Write h = refl

-- ---- the last call

-- a NotReady of a direction that stood still, and the arming
last-arms : (wire : ℕ) (e : Event) (h : Here) (held : Held) (x : Dir) → OfCall wire e → stop_of e ≡ Some x →
    side_held x held ≡ Idle → StandsAt h held →
    LeavesAsleep h (stopped_held x held) (e ∷ arming (stopped_held x held))
last-arms wire e h held x f stop idle at =
    let new : Held = stopped_held x held in
    let up : waits (side_held x new) ≡ true = stopped-waits x held Idle idle refl in
    let armed : List Event = event.Modify new.wire new.key (waits new.read) (waits new.write) true ∷ [] in
    subst (λ v. LeavesAsleep h new (e ∷ v)) (sym (arming-some new x up)) (record {
      sides = λ y. side-same (h.is_waiting y || waits (side_held y new))
          (waits_through y (waits_by y (h.is_waiting y) e) armed) (h.was_reported y && not (is_dir y (Some x)))
          (reported_through y (reported_by y (h.was_reported y) e) armed) (side_held y new)
          (ap (λ b. b || names y (waits new.read) (waits new.write)) (f.waits y (h.is_waiting y))
          ∙ ap (λ b. h.is_waiting y || b) (names-side y new))
          (ap (λ b. b && true) (f.reported y (h.was_reported y) ∙ ap (λ so. h.was_reported y && not (is_dir y so)) stop)
          ∙ and_true (h.was_reported y && not (is_dir y (Some x))))
          (armed-sides x y h held idle at);
      armed = λ y was before there. names-side y new ∙ there;
      dir = x;
      stop = λ last. f.stop last ∙ stop;
      waits = up;
    })

-- a NotReady of a direction that waits already
last-rests : (wire : ℕ) (e : Event) (h : Here) (held : Held) (x : Dir) → OfCall wire e → stop_of e ≡ Some x →
    side_held x held ≡ Waits → StandsAt h held → LeavesAsleep h (stopped_held x held) (e ∷ [])
last-rests wire e h held x f stop at_rest at = record {
  sides = λ y. side-same (h.is_waiting y) (waits_by y (h.is_waiting y) e) (h.was_reported y && not (is_dir y (Some x)))
      (reported_by y (h.was_reported y) e) (side_held y (stopped_held x held)) (f.waits y (h.is_waiting y))
      (f.reported y (h.was_reported y) ∙ ap (λ so. h.was_reported y && not (is_dir y so)) stop)
      (stopped-sides x y h held (λ idle. let e : Waits ≡ Idle = sym at_rest ∙ idle in absurd (cc)) at);
  armed = λ y was before up. f.armed y was
      ∙ before (side-waits (h.is_waiting y) (h.was_reported y) (side_held y held) (side-at h held y at)
      ∙ waited-before x y held at_rest up);
  dir = x;
  stop = λ last. f.stop last ∙ stop;
  waits = stopped-waits x held Waits at_rest refl;
}

-- ---- all calls

-- a call before the others
pub leaves-later : (wire : ℕ) (e : Event) (h : Here) (held : Held) (events : List Event) → OfCall wire e →
    LeavesAsleep (here_by h e) held events → LeavesAsleep h held (e ∷ events)
leaves-later wire e h held events f later = record {
  sides = later.sides;
  armed = λ x was before up. later.armed x (armed_by x was e)
      (λ waited. f.armed x was ∙ before (sym (f.waits x (h.is_waiting x)) ∙ waited)) up;
  dir = later.dir;
  stop = λ last. later.stop (last_stop_by last e);
  waits = later.waits;
}

-- the calls from a place on end so
abbrev LeavesFrom : Held → List Event → List Event → Type 0
LeavesFrom h' arm calls =
    (h : Here) (held : Held) → StandsAt h held → Asks held calls h' (Some arm) → LeavesAsleep h h' (calls ++ arm)

leaves_go : (wire : ℕ) (e : Event) (calls : List Event) (h : Here) (held h' : Held) (arm : List Event)
    (so : Option Dir) → stop_of e ≡ so → OfCall wire e → StandsAt h held → LeavesFrom h' arm calls →
    Steps held calls h' (Some arm) so → LeavesAsleep h h' (e ∷ calls ++ arm)
leaves_go wire e calls h held h' arm so stop f at ih (goes asked) =
    leaves-later wire e h h' (calls ++ arm) f (ih (here_by h e) held (stands-on wire e h held f stop at) asked)
leaves_go wire e calls h held h' arm so stop f at ih (again x side asked) =
    leaves-later wire e h h' (calls ++ arm) f
    (ih (here_by h e) (stopped_held x held)
    (stands-stopped wire e h held x f stop (λ idle. let r : Reported ≡ Idle = sym side ∙ idle in absurd (cc)) at) asked)
leaves_go wire e calls h held h' arm so stop f at ih (arms x side none is over) =
    let same : arm ≡ arming (stopped_held x held) = same_Some arm (arming (stopped_held x held)) over in
    subst (λ z. LeavesAsleep h h' (e ∷ z ++ arm)) (sym none)
    (subst (λ z. LeavesAsleep h z (e ∷ arm)) (sym is)
    (subst (λ z. LeavesAsleep h (stopped_held x held) (e ∷ z)) (sym same) (last-arms wire e h held x f stop side at)))
leaves_go wire e calls h held h' arm so stop f at ih (rests x side none is over) =
    let same : arm ≡ [] = same_Some arm [] over in
    subst (λ z. LeavesAsleep h h' (e ∷ z ++ arm)) (sym none)
    (subst (λ z. LeavesAsleep h z (e ∷ arm)) (sym is)
    (subst (λ z. LeavesAsleep h (stopped_held x held) (e ∷ z)) (sym same) (last-rests wire e h held x f stop side at)))

-- the calls of a stay that ends asleep, and its arming
pub leaves-asleep : (wire : ℕ) (calls : List Event) (h : Here) (held h' : Held) (arm : List Event) →
    AreCalls wire calls → StandsAt h held → Asks held calls h' (Some arm) → LeavesAsleep h h' (calls ++ arm)
leaves-asleep wire [] h held h' arm own at asked =
    let e : None ≡ Some arm = ap (λ a. a.over) (same_Some _ (record { held = h'; over = Some arm }) asked) in
    absurd (none-some arm e)
leaves-asleep wire (e ∷ calls) h held h' arm own at asked =
    let f : OfCall wire e = of-call wire e own.0 in
    leaves_go wire e calls h held h' arm (stop_of e) refl f at
    (λ h1 held1 at1 asked1. leaves-asleep wire calls h1 held1 h' arm own.1 at1 asked1)
    (steps wire e calls held h' (Some arm) f asked)
