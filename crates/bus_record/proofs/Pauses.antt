-- A visit has at most three NotReady.
use Rattle.std.proofs.Common.{◌≡◌, ◌≤◌, ℕ, ◌+◌, Bool, true, false, not, ◌&&◌, ◌==◌, if◌then◌else◌, List, [], ◌∷◌}
use Rattle.std.proofs.Common.{Option, Some, None, refl, sym, ◌∙◌, ap, subst, arith}
use Rattle.std.specs.Prelude.{is_some, is_none}
use Rattle.std.specs.Option.{option_and_then}
use Rattle.std.specs.List.{list_any}
use Rattle.react_core.specs.declared.outside.Event.{Event}
use Rattle.react_core.specs.declared.outside.Event.TheVariants as event
use Rattle.react_core.specs.declared.reactor.Dir.{Dir}
use Rattle.react_core.specs.declared.reactor.Dir.TheVariants.{Read, Write}
use Rattle.bus_session.specs.declared.session.Session.{Session}
use Rattle.bus_record.specs.Pieces.{told}
use Rattle.bus_session.specs.Parts.{part}
use Rattle.bus_session.specs.Outcomes.{is_ended}
use Rattle.bus_session.specs.Alone.{Progress, dials, converses, over, Course, course, outcome_in}
use Rattle.bus_record.specs.Places.{key_of, stop_of, stops, is_dir}
use Rattle.bus_record.specs.Visits.{Here, here, here_by, Stage, dialling, registering, conversing, arming, leaving}
use Rattle.bus_record.specs.Visits.{finished, goes_on, starts_at, was_visited, asked, after_dial, after_dial_to}
use Rattle.bus_record.specs.Visits.{after_call, then_reads, limit}
use Rattle.bus_record.specs.Laws.{one_if, pauses_in, PausesLittle}
use Rattle.bus_record.proofs.Waiting.{stepped, mapped, guarded, nowhere, quiet, armed, reads-quiet, is_quiet_stage}
use Rattle.bus_record.proofs.Waiting.{false-not-true}
use Rattle.bus_record.proofs.Flat.{or-parts}

-- how many directions were reported
abbrev left : Here → ℕ
left h = one_if (h.was_reported Read) + one_if (h.was_reported Write)

one-and : (b c : Bool) → one_if (b && c) ≤ one_if b
one-and true true = omega arith
one-and true false = omega arith
one-and false c = omega arith

one-le : (b : Bool) → one_if b ≤ 1
one-le true = omega arith
one-le false = omega arith

none_go : (so : Option Dir) → is_dir Read so ≡ false → is_dir Write so ≡ false → one_if (is_some so) ≡ 0
none_go None r w = refl
none_go (Some Read) r w = absurd (false-not-true (sym r))
none_go (Some Write) r w = absurd (false-not-true (sym w))

none-paused : (events : List Event) → list_any (stops Read) events ≡ false → list_any (stops Write) events ≡ false →
    pauses_in events ≡ 0
none-paused [] r w = refl
none-paused (e ∷ events) r w =
    let read = or-parts (stops Read e) (list_any (stops Read) events) r in
    let write = or-parts (stops Write e) (list_any (stops Write) events) w in
    let now : one_if (is_some (stop_of e)) ≡ 0 = none_go (stop_of e) read.0 write.0 in
    let later : pauses_in events ≡ 0 = none-paused events read.1 write.1 in
    omega arith

-- a NotReady after which nothing else pauses
quiet-paused : (s : Session) (wire : ℕ) (h : Here) (stage : Stage) (events : List Event) → is_quiet_stage stage ≡ true →
    goes_on s wire h (Some stage) events ≡ Some finished → pauses_in events ≡ 0
quiet-paused s wire h stage events q g =
    none-paused events (quiet s wire h Read stage events q g).stops_none
    (quiet s wire h Write stage events q g).stops_none

armed-paused : (s : Session) (wire : ℕ) (h : Here) (key : ℕ) (c : Course) (y : Dir) (events : List Event) →
    goes_on s wire h (Some (arming key c y)) events ≡ Some finished → pauses_in events ≡ 0
armed-paused s wire h key c y events g =
    none-paused events (armed s wire h Read y key c events g).stops_none
    (armed s wire h Write y key c events g).stops_none

-- asking again uses up a report
used : (rr rw : Bool) (y : Dir) → (elim y [ Read ↦ rr | Write ↦ rw ]) ≡ true →
    (one_if (rr && not (is_dir Read (Some y))) + one_if (rw && not (is_dir Write (Some y)))) + 1 ≤ one_if rr + one_if rw
used true true Read e = omega arith
used true false Read e = omega arith
used false rw Read e = absurd (false-not-true e)
used true true Write e = omega arith
used false true Write e = omega arith
used rr false Write e = absurd (false-not-true e)

module _ (s : Session) (wire : ℕ) where
  abbrev Few : List Event → Type 0
  Few events =
      (h : Here) (key : ℕ) (c : Course) → goes_on s wire h (Some (conversing key c)) events ≡ Some finished →
      pauses_in events ≤ 1 + left h

  -- what an event of a conversation leaves of the reports
  abbrev Leaves : Here → Event → Type 0
  Leaves h e = (x : Dir) → (here_by h e).was_reported x ≡ (h.was_reported x && not (stops x e))

  left-le : (h : Here) (e : Event) → Leaves h e → left (here_by h e) ≤ left h
  left-le h e leaves =
      let r : one_if ((here_by h e).was_reported Read) ≤ one_if (h.was_reported Read) =
      subst (λ b. one_if b ≤ one_if (h.was_reported Read)) (sym (leaves Read))
      (one-and (h.was_reported Read) (not (stops Read e))) in
      let w : one_if ((here_by h e).was_reported Write) ≤ one_if (h.was_reported Write) =
      subst (λ b. one_if b ≤ one_if (h.was_reported Write)) (sym (leaves Write))
      (one-and (h.was_reported Write) (not (stops Write e))) in
      omega arith

  left-used : (h : Here) (e : Event) (y : Dir) → Leaves h e → stop_of e ≡ Some y → h.was_reported y ≡ true →
      left (here_by h e) + 1 ≤ left h
  left-used h e Read leaves stop was =
      let read : (here_by h e).was_reported Read ≡ (h.was_reported Read && not (is_dir Read (Some Read))) =
      leaves Read ∙ ap (λ so. h.was_reported Read && not (is_dir Read so)) stop in
      let write : (here_by h e).was_reported Write ≡ (h.was_reported Write && not (is_dir Write (Some Read))) =
      leaves Write ∙ ap (λ so. h.was_reported Write && not (is_dir Write so)) stop in
      subst (λ b. (one_if b + one_if ((here_by h e).was_reported Write)) + 1 ≤ left h) (sym read)
      (subst (λ b. (one_if (h.was_reported Read && not (is_dir Read (Some Read))) + one_if b) + 1 ≤ left h) (sym write)
      (used (h.was_reported Read) (h.was_reported Write) Read was))
  left-used h e Write leaves stop was =
      let read : (here_by h e).was_reported Read ≡ (h.was_reported Read && not (is_dir Read (Some Write))) =
      leaves Read ∙ ap (λ so. h.was_reported Read && not (is_dir Read so)) stop in
      let write : (here_by h e).was_reported Write ≡ (h.was_reported Write && not (is_dir Write (Some Write))) =
      leaves Write ∙ ap (λ so. h.was_reported Write && not (is_dir Write so)) stop in
      subst (λ b. (one_if b + one_if ((here_by h e).was_reported Write)) + 1 ≤ left h) (sym read)
      (subst (λ b. (one_if (h.was_reported Read && not (is_dir Read (Some Write))) + one_if b) + 1 ≤ left h) (sym write)
      (used (h.was_reported Read) (h.was_reported Write) Write was))

  one-some : (so : Option Dir) (y : Dir) → so ≡ Some y → one_if (is_some so) ≡ 1
  one-some so y e = ap (λ z. one_if (is_some z)) e

  stop-few : (h : Here) (key : ℕ) (c : Course) (e : Event) (events : List Event) (y : Dir) (is w : Bool) →
      h.was_reported y ≡ is → Leaves h e → stop_of e ≡ Some y → Few events →
      goes_on s wire (here_by h e)
      (Some (if is then conversing key c else if w then then_reads s h key c else arming key c y)) events
      ≡ Some finished →
      one_if (is_some (stop_of e)) + pauses_in events ≤ 1 + left h
  stop-few h key c e events y true w was leaves stop ih g =
      let one : one_if (is_some (stop_of e)) ≡ 1 = one-some (stop_of e) y stop in
      let few : pauses_in events ≤ 1 + left (here_by h e) = ih (here_by h e) key c g in
      let less : left (here_by h e) + 1 ≤ left h = left-used h e y leaves stop was in
      omega (arith, one, few, less)
  stop-few h key c e events y false true was leaves stop ih g =
      let one : one_if (is_some (stop_of e)) ≡ 1 = one-some (stop_of e) y stop in
      let none : pauses_in events ≡ 0 =
      quiet-paused s wire (here_by h e) (then_reads s h key c) events (reads-quiet (is_none (limit s h c)) key c) g in
      omega (arith, one, none)
  stop-few h key c e events y false false was leaves stop ih g =
      let one : one_if (is_some (stop_of e)) ≡ 1 = one-some (stop_of e) y stop in
      let none : pauses_in events ≡ 0 = armed-paused s wire (here_by h e) key c y events g in
      omega (arith, one, none)

  none-some : (so : Option Dir) → so ≡ None → one_if (is_some so) ≡ 0
  none-some so e = ap (λ z. one_if (is_some z)) e

  other-few : (h : Here) (key : ℕ) (c : Course) (e : Event) (events : List Event) (b : Bool) → Leaves h e →
      stop_of e ≡ None → Few events →
      goes_on s wire (here_by h e) (Some (if b then leaving key c else conversing key c)) events ≡ Some finished →
      one_if (is_some (stop_of e)) + pauses_in events ≤ 1 + left h
  other-few h key c e events true leaves stop ih g =
      let zero_ : one_if (is_some (stop_of e)) ≡ 0 = none-some (stop_of e) stop in
      let none : pauses_in events ≡ 0 = quiet-paused s wire (here_by h e) (leaving key c) events refl g in
      omega (arith, zero_, none)
  other-few h key c e events false leaves stop ih g =
      let zero_ : one_if (is_some (stop_of e)) ≡ 0 = none-some (stop_of e) stop in
      let few : pauses_in events ≤ 1 + left (here_by h e) = ih (here_by h e) key c g in
      let less : left (here_by h e) ≤ left h = left-le h e leaves in
      omega (arith, zero_, few, less)

  call-few : (h : Here) (key : ℕ) (c : Course) (e : Event) (events : List Event) (so : Option Dir) → stop_of e ≡ so →
      Leaves h e → Few events →
      goes_on s wire (here_by h e) (Some (after_call s h key so c)) events ≡ Some finished →
      one_if (is_some (stop_of e)) + pauses_in events ≤ 1 + left h
  call-few h key c e events None is leaves ih g =
      other-few h key c e events (is_ended (outcome_in false c.progress)) leaves is ih g
  call-few h key c e events (Some y) is leaves ih g =
      stop-few h key c e events y (h.was_reported y) (h.is_waiting y) refl leaves is ih g

  conversing-few : (events : List Event) → Few events
  conversing-few [] h key c g = omega arith
  conversing-few (event.Recv w n answer ∷ events) h key c g =
      let e : Event = event.Recv w n answer in
      let step = stepped s wire h (conversing key c) e events g in
      let m = mapped (after_call s h key (stop_of e)) (asked (w == wire) c e) step.after step.by in
      call-few h key m.0 e events (stop_of e) refl (λ x. refl) (conversing-few events)
      (subst (λ z. goes_on s wire (here_by h e) (Some z) events ≡ Some finished) (sym m.2) step.rest)
  conversing-few (event.Send w bytes answer ∷ events) h key c g =
      let e : Event = event.Send w bytes answer in
      let step = stepped s wire h (conversing key c) e events g in
      let m = mapped (after_call s h key (stop_of e)) (asked (w == wire) c e) step.after step.by in
      call-few h key m.0 e events (stop_of e) refl (λ x. refl) (conversing-few events)
      (subst (λ z. goes_on s wire (here_by h e) (Some z) events ≡ Some finished) (sym m.2) step.rest)
  conversing-few (e ∷ events) h key c g = absurd (nowhere s wire (here_by h e) events g)

  -- three at most, whatever was reported
  three : (h : Here) (n : ℕ) → n ≤ 1 + left h → n ≤ 3
  three h n few =
      let r = one-le (h.was_reported Read) in
      let w = one-le (h.was_reported Write) in
      omega (arith, few, r, w)

  registering-few : (h : Here) (c : Course) (events : List Event) →
      goes_on s wire h (Some (registering c)) events ≡ Some finished → pauses_in events ≤ 3
  registering-few h c [] g = omega arith
  registering-few h c (event.Add w key true ∷ events) g =
      let e : Event = event.Add w key true in
      let step = stepped s wire h (registering c) e events g in
      let met = guarded ((w == wire) && is_none (h.holder_of key)) (conversing key c) step.after step.by in
      let few : pauses_in events ≤ 3 = three (here_by h e) (pauses_in events)
      (conversing-few events (here_by h e) key c
      (subst (λ z. goes_on s wire (here_by h e) (Some z) events ≡ Some finished) (sym met.1) step.rest)) in
      omega (arith, few)
  registering-few h c (e ∷ events) g = absurd (nowhere s wire (here_by h e) events g)

  opened-few : (h : Here) (c : Course) (p : Progress) (events : List Event) →
      (goes_on s wire h (Some (dialling c)) events ≡ Some finished → pauses_in events ≤ 3) →
      goes_on s wire h (Some (after_dial_to c p)) events ≡ Some finished → pauses_in events ≤ 3
  opened-few h c (dials d) events ih g = ih g
  opened-few h c (converses talk t) events ih g = registering-few h c events g
  opened-few h c (over o) events ih g = let none : pauses_in events ≡ 0 =
      quiet-paused s wire h finished events refl g in omega (arith, none)

  dialling-few : (events : List Event) (h : Here) (c : Course) →
      goes_on s wire h (Some (dialling c)) events ≡ Some finished → pauses_in events ≤ 3
  dialling-few [] h c g = omega arith
  dialling-few (event.Dial w question answer ∷ events) h c g =
      let e : Event = event.Dial w question answer in
      let step = stepped s wire h (dialling c) e events g in
      let m = mapped after_dial (asked (w == wire) c e) step.after step.by in
      let few : pauses_in events ≤ 3 =
      opened-few (here_by h e) m.0 m.0.progress events (λ k. dialling-few events (here_by h e) m.0 k)
      (subst (λ z. goes_on s wire (here_by h e) (Some z) events ≡ Some finished) (sym m.2) step.rest) in
      omega (arith, few)
  dialling-few (e ∷ events) h c g = absurd (nowhere s wire (here_by h e) events g)

  visit-few : (h : Here) (c : Option Course) (was : Bool) (key : Option ℕ) (events : List Event) →
      goes_on s wire h (option_and_then (starts_at was key) c) events ≡ Some finished → pauses_in events ≤ 3
  visit-few h None was key events g = absurd (nowhere s wire h events g)
  visit-few h (Some c) false key events g = opened-few h c c.progress events (λ k. dialling-few events h c k) g
  visit-few h (Some c) true None events g = absurd (nowhere s wire h events g)
  visit-few h (Some c) true (Some key) events g = three h (pauses_in events) (conversing-few events h key c g)

pub pauses_little : (s : Session) → PausesLittle s
pauses_little s wire past events v =
    visit-few s wire (here wire past) (course s (part wire (told past))) (was_visited wire past) (key_of wire past)
    events v
