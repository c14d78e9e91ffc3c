-- What the first call of a visit leaves of the visit.
use Rattle.std.proofs.Common.{◌≡◌, ℕ, List, [], ◌∷◌, Option, Some, None, refl, sym, ◌∙◌, ap}
use Rattle.std.proofs.lemmas.Option.{none-some, same_Some}
use Rattle.react_core.specs.declared.outside.Event.{Event}
use Rattle.react_core.specs.declared.reactor.Dir.{Dir}
use Rattle.bus_record.specs.Places.{stop_of}
use Rattle.bus_visit.specs.Registry.{Side, Idle, Waits, Reported, Held, side_held, stopped_held, arming}
use Rattle.bus_visit.specs.Asking.{Asking, asks, begins, arms_at}
use Rattle.bus_peers.proofs.CallFacts.{OfCall, asking_by}

-- these calls lead a visit from there to here
abbrev pub Asks : Held → List Event → Held → Option (List Event) → Type 0
Asks h calls h' o = asks (Some (begins h)) calls ≡ Some (record { held = h'; over = o })

-- behind a call that this direction paused, or none did, the visit goes on or is over
pub data Steps (h : Held) (calls : List Event) (h' : Held) (o : Option (List Event)) : Option Dir → Type 0 where
  -- it goes on
  goes : Asks h calls h' o → Steps h calls h' o None
  -- the direction was reported, and it asks again
  again : (x : Dir) → side_held x h ≡ Reported → Asks (stopped_held x h) calls h' o → Steps h calls h' o (Some x)
  -- the direction stood still, and it is armed with those that wait
  arms : (x : Dir) → side_held x h ≡ Idle → calls ≡ [] → h' ≡ stopped_held x h →
      o ≡ Some (arming (stopped_held x h)) → Steps h calls h' o (Some x)
  -- the direction waits already
  rests : (x : Dir) → side_held x h ≡ Waits → calls ≡ [] → h' ≡ stopped_held x h → o ≡ Some [] →
      Steps h calls h' o (Some x)

asks-none : (calls : List Event) → asks None calls ≡ None
asks-none [] = refl
asks-none (e ∷ calls) = asks-none calls

-- nothing is asked once the visit is over
asks-over : (held : Held) (armed : List Event) (calls : List Event) (a : Asking) →
    asks (Some (record { held = held; over = Some armed })) calls ≡ Some a →
    (calls ≡ []) × (a ≡ record { held = held; over = Some armed })
asks-over held armed [] a g = (refl, sym (same_Some (record { held = held; over = Some armed }) a g))
asks-over held armed (e ∷ calls) a g = absurd (none-some a (sym (asks-none calls) ∙ g))

stop-steps : (h : Held) (calls : List Event) (h' : Held) (o : Option (List Event)) (x : Dir) (side : Side) →
    side_held x h ≡ side →
    asks (Some (record { held = stopped_held x h; over = arms_at x h side })) calls
    ≡ Some (record { held = h'; over = o }) →
    Steps h calls h' o (Some x)
stop-steps h calls h' o x Idle is g =
    let e = asks-over (stopped_held x h) (arming (stopped_held x h)) calls (record { held = h'; over = o }) g in
    arms x is e.0 (ap (λ a. a.held) e.1) (ap (λ a. a.over) e.1)
stop-steps h calls h' o x Waits is g =
    let e = asks-over (stopped_held x h) [] calls (record { held = h'; over = o }) g in
    rests x is e.0 (ap (λ a. a.held) e.1) (ap (λ a. a.over) e.1)
stop-steps h calls h' o x Reported is g = again x is g

call-steps : (h : Held) (calls : List Event) (h' : Held) (o : Option (List Event)) (so : Option Dir) →
    asks (Some (asking_by so (begins h))) calls ≡ Some (record { held = h'; over = o }) → Steps h calls h' o so
call-steps h calls h' o None g = goes g
call-steps h calls h' o (Some x) g = stop-steps h calls h' o x (side_held x h) refl g

-- the first call of a visit
pub steps : (wire : ℕ) (e : Event) (calls : List Event) (h h' : Held) (o : Option (List Event)) → OfCall wire e →
    Asks h (e ∷ calls) h' o → Steps h calls h' o (stop_of e)
steps wire e calls h h' o f g =
    call-steps h calls h' o (stop_of e) (sym (ap (λ a. asks (Some a) calls) (f.asked (begins h))) ∙ g)
