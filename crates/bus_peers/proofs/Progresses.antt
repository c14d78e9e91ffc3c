-- A session that takes another event had not ended, and one that was paused waits.
use Rattle.std.proofs.Common.{◌≡◌, ℕ, Bool, true, false, ◌==◌, if◌then◌else◌, List, [], ◌∷◌, Option, Some, None}
use Rattle.std.proofs.Common.{refl, sym, ◌∙◌, ap, subst}
use Rattle.std.proofs.lemmas.Option.{none-some, same_Some}
use Rattle.std.specs.Option.{option_map}
use Rattle.std.specs.Str.{bytes_eq}
use Rattle.react_core.specs.declared.outside.Event.{Event}
use Rattle.react_core.specs.declared.outside.Event.TheVariants as event
use Rattle.react_core.specs.declared.outside.RecvAnswer.TheVariants as recv_answer
use Rattle.react_core.specs.declared.outside.SendAnswer.TheVariants as send_answer
use Rattle.react_core.specs.declared.reactor.Dir.{Dir}
use Rattle.react_core.specs.declared.reactor.Dir.TheVariants.{Read, Write}
use Rattle.bus_opening.specs.Talk.{Said, Ask, send, recv, opens, handshake, too_many_commands, line_too_long}
use Rattle.bus_session.specs.Outcomes.{is_ended}
use Rattle.bus_session.specs.declared.session.Party.{Party}
use Rattle.bus_session.specs.Alone.{Progress, dials, converses, over, Talked, asked_next, concluded, Course, after}
use Rattle.bus_session.specs.Alone.{after_in, after_asked, goes_through, rests, outcome_in, pause_ends}
use Rattle.bus_record.specs.Places.{stop_of}

-- what a mapped option comes from
pub map-some : {A B : Type 0} (f : A → B) (o : Option A) (y : B) → option_map f o ≡ Some y →
    (x : A) × (o ≡ Some x) × (f x ≡ y)
map-some f None y e = absurd (none-some y e)
map-some f (Some x) y e = (x, refl, same_Some (f x) y e)

-- the session's outcome is no ending
abbrev pub IsOpen : Course → Type 0
IsOpen c = is_ended (outcome_in false c.progress) ≡ false

paused-waits : (talk : List (List ℕ) → Said) (t : Talked) (paused : Option Dir) →
    is_ended (option_map (λ dir. concluded talk t (pause_ends false)) paused) ≡ false
paused-waits talk t None = refl
paused-waits talk t (Some x) = refl

asked-open : (talk : List (List ℕ) → Said) (t : Talked) (a : Ask) (e : Event) (p : Progress) →
    after_asked talk t a e ≡ Some p → is_ended (rests false talk t a) ≡ false
asked-open talk t recv e p g = paused-waits talk t t.paused
asked-open talk t (send piece) e p g = paused-waits talk t t.paused
asked-open talk t (opens guid flag) e p g = absurd (none-some p g)
asked-open talk t handshake e p g = absurd (none-some p g)
asked-open talk t too_many_commands e p g = absurd (none-some p g)
asked-open talk t line_too_long e p g = absurd (none-some p g)

in-open : (party : Party) (now : Progress) (e : Event) (p : Progress) → after_in party now e ≡ Some p →
    is_ended (outcome_in false now) ≡ false
in-open party (dials d) e p g = refl
in-open party (converses talk t) e p g = asked-open talk t (asked_next talk t) e p g
in-open party (over o) e p g = absurd (none-some p g)

-- one that takes another event has not ended
pub open-before : (c : Course) (e : Event) (d : Course) → after c e ≡ Some d → IsOpen c
open-before c e d g =
    let m = map-some (λ p. record c { progress = p }) (after_in c.party c.progress e) d g in
    in-open c.party c.progress e m.0 m.1

some-if : {A : Type 0} (b : Bool) (a c : A) → (if b then Some a else None) ≡ Some c → a ≡ c
some-if true a c e = same_Some a c e
some-if false a c e = absurd (none-some c e)

-- after NotReady in a conversation that asks this
asked-paused : (talk : List (List ℕ) → Said) (t : Talked) (a : Ask) (e : Event) (x : Dir) (p : Progress) →
    asked_next talk t ≡ a → stop_of e ≡ Some x → after_asked talk t a e ≡ Some p →
    is_ended (outcome_in false p) ≡ false
asked-paused talk t recv (event.Recv w n recv_answer.NotReady) x p is stop g =
    let now : Progress = converses talk (record t { paused = Some Read }) in
    subst (λ z. is_ended (outcome_in false z) ≡ false) (some-if (n == 1024) now p g)
    (ap (λ a. is_ended (rests false talk (record t { paused = Some Read }) a)) is)
asked-paused talk t recv (event.Recv w n (recv_answer.Got bytes)) x p is stop g = absurd (none-some x stop)
asked-paused talk t recv (event.Recv w n recv_answer.End) x p is stop g = absurd (none-some x stop)
asked-paused talk t recv (event.Recv w n recv_answer.Failed) x p is stop g = absurd (none-some x stop)
asked-paused talk t recv _ x p is stop g = absurd (none-some p g)
asked-paused talk t (send piece) (event.Send w bytes send_answer.NotReady) x p is stop g =
    let now : Progress = converses talk (record t { paused = Some Write }) in
    subst (λ z. is_ended (outcome_in false z) ≡ false) (some-if (bytes_eq bytes piece) now p g)
    (ap (λ a. is_ended (rests false talk (record t { paused = Some Write }) a)) is)
asked-paused talk t (send piece) (event.Send w bytes (send_answer.Took n)) x p is stop g = absurd (none-some x stop)
asked-paused talk t (send piece) (event.Send w bytes send_answer.Failed) x p is stop g = absurd (none-some x stop)
asked-paused talk t (send piece) _ x p is stop g = absurd (none-some p g)
asked-paused talk t (opens guid flag) e x p is stop g = absurd (none-some p g)
asked-paused talk t handshake e x p is stop g = absurd (none-some p g)
asked-paused talk t too_many_commands e x p is stop g = absurd (none-some p g)
asked-paused talk t line_too_long e x p is stop g = absurd (none-some p g)

in-paused : (party : Party) (now : Progress) (e : Event) (x : Dir) (p : Progress) → stop_of e ≡ Some x →
    after_in party now e ≡ Some p → is_ended (outcome_in false p) ≡ false
in-paused party (converses talk t) e x p stop g = asked-paused talk t (asked_next talk t) e x p refl stop g
in-paused party (dials d) (event.Dial w question answer) x p stop g = absurd (none-some x stop)
in-paused party (dials d) _ x p stop g = absurd (none-some p g)
in-paused party (over o) e x p stop g = absurd (none-some p g)

-- one that a NotReady paused has not ended
pub open-paused : (c : Course) (e : Event) (x : Dir) (d : Course) → stop_of e ≡ Some x → after c e ≡ Some d → IsOpen d
open-paused c e x d stop g =
    let m = map-some (λ p. record c { progress = p }) (after_in c.party c.progress e) d g in
    subst IsOpen m.2 (in-paused c.party c.progress e x m.0 stop m.1)

-- ---- one event after the other

none-through : (events : List Event) → goes_through None events ≡ None
none-through [] = refl
none-through (e ∷ events) = none-through events

-- the first of these events, and the others
pub record Moved (c : Course) (e : Event) (events : List Event) (d : Course) : Type 0 where
  pub mid : Course
  pub by : after c e ≡ Some mid
  pub rest : goes_through (Some mid) events ≡ Some d

moved_to : (c : Course) (e : Event) (events : List Event) (d : Course) (o : Option Course) → after c e ≡ o →
    goes_through o events ≡ Some d → Moved c e events d
moved_to c e events d None is g = absurd (none-some d (sym (none-through events) ∙ g))
moved_to c e events d (Some mid) is g = record { mid = mid; by = is; rest = g }

pub moved : (c : Course) (e : Event) (events : List Event) (d : Course) →
    goes_through (Some c) (e ∷ events) ≡ Some d → Moved c e events d
moved c e events d g = moved_to c e events d (after c e) refl g
