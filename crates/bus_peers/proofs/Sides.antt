-- How the directions stand behind a call.
use Rattle.std.proofs.Common.{◌≡◌, ℕ, Bool, true, false, not, ◌&&◌, ◌||◌, Option, Some, None, refl}
use Rattle.std.proofs.Common.{sym, ◌∙◌, ap, subst}
use Rattle.react_core.specs.declared.outside.Event.{Event}
use Rattle.react_core.specs.declared.reactor.Dir.{Dir}
use Rattle.react_core.specs.declared.reactor.Dir.TheVariants.{Read, Write}
use Rattle.bus_record.specs.Places.{waits_by, reported_by, stop_of, is_dir}
use Rattle.bus_record.specs.Visits.{Here, here_by}
use Rattle.bus_visit.specs.Registry.{Side, Idle, Waits, Reported, Held, waits, stopped, side_held, stopped_held}
use Rattle.bus_peers.specs.inside.Shows.{IsSide, StandsAt}
use Rattle.bus_peers.proofs.CallFacts.{OfCall}

-- the direction stands in the place as the source has it
pub side-at : (h : Here) (held : Held) (x : Dir) → StandsAt h held →
    IsSide (h.is_waiting x) (h.was_reported x) (side_held x held)
side-at h held Read at = at.read
side-at h held Write at = at.write

pub stands-by : (h : Here) (held : Held) →
    ((x : Dir) → IsSide (h.is_waiting x) (h.was_reported x) (side_held x held)) → StandsAt h held
stands-by h held at = record { read = at Read; write = at Write }

-- ---- what a side says

pub side-waits : (w r : Bool) (side : Side) → IsSide w r side → w ≡ waits side
side-waits w r Idle is = is.0
side-waits w r Waits is = is.0
side-waits w r Reported is = is.0

pub is-idle : (w r : Bool) (side : Side) → side ≡ Idle → IsSide w r side → (w ≡ false) × (r ≡ false)
is-idle w r side at is = subst (IsSide w r) at is

pub is-waiting : (w r : Bool) (side : Side) → side ≡ Waits → IsSide w r side → (w ≡ true) × (r ≡ false)
is-waiting w r side at is = subst (IsSide w r) at is

pub is-reported : (w r : Bool) (side : Side) → side ≡ Reported → IsSide w r side → (w ≡ false) × (r ≡ true)
is-reported w r side at is = subst (IsSide w r) at is

-- sides by equal tests
pub side-same : (w w' r r' : Bool) (side : Side) → w' ≡ w → r' ≡ r → IsSide w r side → IsSide w' r' side
side-same w w' r r' side e f is = subst (λ z. IsSide z r' side) (sym e) (subst (λ z. IsSide w z side) (sym f) is)

pub and_true : (b : Bool) → (b && true) ≡ b
and_true true = refl
and_true false = refl

pub and_false : (b : Bool) → (b && false) ≡ false
and_false true = refl
and_false false = refl

-- ---- a NotReady moves neither wire nor key

pub stopped-wire : (x : Dir) (held : Held) → (stopped_held x held).wire ≡ held.wire
stopped-wire Read held = refl
stopped-wire Write held = refl

pub stopped-key : (x : Dir) (held : Held) → (stopped_held x held).key ≡ held.key
stopped-key Read held = refl
stopped-key Write held = refl

-- ---- behind a call

-- no direction was paused
kept_report : (so : Option Dir) (x : Dir) (was : Bool) → so ≡ None → (was && not (is_dir x so)) ≡ was
kept_report so x was is = ap (λ z. was && not (is_dir x z)) is ∙ and_true was

pub stands-on : (wire : ℕ) (e : Event) (h : Here) (held : Held) → OfCall wire e → stop_of e ≡ None →
    StandsAt h held → StandsAt (here_by h e) held
stands-on wire e h held f none at = stands-by (here_by h e) held (λ x.
    side-same (h.is_waiting x) (waits_by x (h.is_waiting x) e) (h.was_reported x) (reported_by x (h.was_reported x) e)
    (side_held x held) (f.waits x (h.is_waiting x))
    (f.reported x (h.was_reported x) ∙ kept_report (stop_of e) x (h.was_reported x) none) (side-at h held x at))

-- the paused direction stood anywhere but still
stopped-side : (w r : Bool) (side : Side) → (side ≡ Idle → ⊥) → IsSide w r side → IsSide w (r && false) (stopped side)
stopped-side w r Idle moves is = absurd (moves refl)
stopped-side w r Waits moves is = (is.0, and_false r)
stopped-side w r Reported moves is = (is.0, and_false r)

kept-side : (w r : Bool) (side : Side) → IsSide w r side → IsSide w (r && true) side
kept-side w r side is = side-same w w r (r && true) side refl (and_true r) is

pub stopped-sides : (x y : Dir) (h : Here) (held : Held) → (side_held x held ≡ Idle → ⊥) → StandsAt h held →
    IsSide (h.is_waiting y) (h.was_reported y && not (is_dir y (Some x))) (side_held y (stopped_held x held))
stopped-sides Read Read h held moves at =
    stopped-side (h.is_waiting Read) (h.was_reported Read) held.read moves at.read
stopped-sides Read Write h held moves at = kept-side (h.is_waiting Write) (h.was_reported Write) held.write at.write
stopped-sides Write Read h held moves at = kept-side (h.is_waiting Read) (h.was_reported Read) held.read at.read
stopped-sides Write Write h held moves at =
    stopped-side (h.is_waiting Write) (h.was_reported Write) held.write moves at.write

-- behind a call that paused a direction which did not stand still
pub stands-stopped : (wire : ℕ) (e : Event) (h : Here) (held : Held) (x : Dir) → OfCall wire e → stop_of e ≡ Some x →
    (side_held x held ≡ Idle → ⊥) → StandsAt h held → StandsAt (here_by h e) (stopped_held x held)
stands-stopped wire e h held x f stop moves at = stands-by (here_by h e) (stopped_held x held) (λ y.
    side-same (h.is_waiting y) (waits_by y (h.is_waiting y) e) (h.was_reported y && not (is_dir y (Some x)))
    (reported_by y (h.was_reported y) e) (side_held y (stopped_held x held)) (f.waits y (h.is_waiting y))
    (f.reported y (h.was_reported y) ∙ ap (λ so. h.was_reported y && not (is_dir y so)) stop)
    (stopped-sides x y h held moves at))

-- ---- behind the arming

pub or_true : (b : Bool) → (b || true) ≡ true
or_true true = refl
or_true false = refl

armed-side : (w r : Bool) (side : Side) → IsSide w r side → IsSide (w || waits side) (r && true) side
armed-side true r Idle is = (is.0, and_true r ∙ is.1)
armed-side false r Idle is = (refl, and_true r ∙ is.1)
armed-side w r Waits is = (or_true w, and_true r ∙ is.1)
armed-side true r Reported is = (is.0, and_true r ∙ is.1)
armed-side false r Reported is = (refl, and_true r ∙ is.1)

began-side : (w r : Bool) (side : Side) → side ≡ Idle → IsSide w r side →
    IsSide (w || waits (stopped side)) (r && false) (stopped side)
began-side w r Idle at is = (or_true w, and_false r)
began-side w r Waits at is = absurd (cc)
began-side w r Reported at is = absurd (cc)

-- the paused direction stood still, and is armed with those that wait
pub armed-sides : (x y : Dir) (h : Here) (held : Held) → side_held x held ≡ Idle → StandsAt h held →
    IsSide (h.is_waiting y || waits (side_held y (stopped_held x held))) (h.was_reported y && not (is_dir y (Some x)))
    (side_held y (stopped_held x held))
armed-sides Read Read h held idle at = began-side (h.is_waiting Read) (h.was_reported Read) held.read idle at.read
armed-sides Read Write h held idle at = armed-side (h.is_waiting Write) (h.was_reported Write) held.write at.write
armed-sides Write Read h held idle at = armed-side (h.is_waiting Read) (h.was_reported Read) held.read at.read
armed-sides Write Write h held idle at = began-side (h.is_waiting Write) (h.was_reported Write) held.write idle at.write

-- the paused direction waits then
pub stopped-waits : (x : Dir) (held : Held) (side : Side) → side_held x held ≡ side → waits (stopped side) ≡ true →
    waits (side_held x (stopped_held x held)) ≡ true
stopped-waits Read held side is up = ap (λ z. waits (stopped z)) is ∙ up
stopped-waits Write held side is up = ap (λ z. waits (stopped z)) is ∙ up

-- a direction that waits behind a NotReady of one that waited has waited before
pub waited-before : (x y : Dir) (held : Held) → side_held x held ≡ Waits →
    waits (side_held y (stopped_held x held)) ≡ true → waits (side_held y held) ≡ true
waited-before Read Read held is up = ap waits is
waited-before Read Write held is up = up
waited-before Write Read held is up = up
waited-before Write Write held is up = ap waits is
