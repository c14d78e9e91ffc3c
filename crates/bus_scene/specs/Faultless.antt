-- A record that follows a script without faults of the poller has none: `follows_faultless`.
use Rattle.std.proofs.Common.{◌≡◌, ℕ, Bool, true, false, not, ◌&&◌, List, [], ◌∷◌, ◌++◌, length, drop, Option, Some}
use Rattle.std.proofs.Common.{None, refl, sym, ap, ◌∙◌, subst}
use Rattle.std.specs.Prelude.{is_some, unwrap_or}
use Rattle.std.specs.List.{list_all}
use Rattle.std.proofs.lemmas.Bool.{true≢false}
use Rattle.react_core.specs.declared.outside.Event.{Event}
use Rattle.react_core.specs.declared.outside.Event.TheVariants as event
use Rattle.react_core.specs.declared.outside.Rooms.{Rooms}
use Rattle.react_core.specs.declared.outside.WaitAnswer.{WaitAnswer}
use Rattle.react_core.specs.declared.outside.WaitAnswer.TheVariants as wait_answer
use Rattle.bus_script.specs.declared.line.ScriptWait.{ScriptWait}
use Rattle.bus_script.specs.declared.line.ScriptWait.TheVariants as script_wait
use Rattle.bus_scene.specs.Queues.{Queues, next_answer}
use Rattle.bus_scene.specs.Plays.{next, played_from, only_if, bool_eq, outcome_given, is_wait_given, is_wait_fault}
use Rattle.bus_scene.specs.Plays.{is_poller_fault, faults_of_poller, Follows, HasNoPollerFault}

pub only_if-so : {X : Type 0} (b : Bool) (x y : X) → only_if b x ≡ Some y → (b ≡ true) × (x ≡ y)
only_if-so true x y e = (refl, ap (λ o. unwrap_or o x) e)
only_if-so false x y e = let wrong : false ≡ true = ap is_some e in absurd (true≢false (sym wrong))

pub both-left : (a b : Bool) → (a && b) ≡ true → a ≡ true
both-left true b e = refl
both-left false b e = e

pub both-right : (a b : Bool) → (a && b) ≡ true → b ≡ true
both-right true b e = e
both-right false b e = absurd (true≢false (sym e))

rest_all : {X : Type 0} (p : X → Bool) (xs : List X) → list_all p xs ≡ true → list_all p (drop 1 xs) ≡ true
rest_all p [] all = refl
rest_all p (x ∷ xs) all = both-right (p x) (list_all p xs) all

outcome_ok : (oks : List Bool) → list_all (λ ok. ok) oks ≡ true → outcome_given (next_answer oks) ≡ true
outcome_ok [] all = refl
outcome_ok (ok ∷ oks) all = both-left ok (list_all (λ ok. ok) oks) all

-- a call that is answered by its queue has no fault
call_ok : (oks : List Bool) (ok : Bool) → list_all (λ ok. ok) oks ≡ true →
    bool_eq (outcome_given (next_answer oks)) ok ≡ true → not ok ≡ false
call_ok oks true all same = refl
call_ok oks false all same =
    let wrong : bool_eq true false ≡ true = sym (ap (λ b. bool_eq b false) (outcome_ok oks all)) ∙ same in
    absurd (true≢false (sym wrong))

wait_ok : (sessions : ℕ) (told : List Event) (waits : List ScriptWait) (timeout : Option ℕ) (a : WaitAnswer) →
    list_all (λ a. not (is_wait_fault a)) waits ≡ true → is_wait_given sessions told (next_answer waits) a ≡ true →
    is_poller_fault (event.Wait timeout a) ≡ false
wait_ok sessions told waits timeout (wait_answer.Reported reports) all same = refl
wait_ok sessions told waits timeout wait_answer.Interrupted all same = refl
wait_ok sessions told [] timeout wait_answer.Failed all same = absurd (true≢false (sym same))
wait_ok sessions told (script_wait.Reported readies ∷ waits) timeout wait_answer.Failed all same =
    absurd (true≢false (sym same))
wait_ok sessions told (script_wait.Interrupted ∷ waits) timeout wait_answer.Failed all same =
    absurd (true≢false (sym same))
wait_ok sessions told (script_wait.Failed ∷ waits) timeout wait_answer.Failed all same = absurd (true≢false (sym all))

next_faultless : (r : Rooms) (told : List Event) (q q' : Queues) (e : Event) → HasNoPollerFault q →
    next r told q e ≡ Some q' → (is_poller_fault e ≡ false) × HasNoPollerFault q'
next_faultless r told q q' (event.Dial wire asked a) h is = (
  refl,
  subst HasNoPollerFault (only_if-so _ _ q' is).1 (record {
    adds = h.adds;
    modifies = h.modifies;
    deletes = h.deletes;
    notifies = h.notifies;
    waits = h.waits;
  }),
)
next_faultless r told q q' (event.Recv wire asked a) h is = (
  refl,
  subst HasNoPollerFault (only_if-so _ _ q' is).1 (record {
    adds = h.adds;
    modifies = h.modifies;
    deletes = h.deletes;
    notifies = h.notifies;
    waits = h.waits;
  }),
)
next_faultless r told q q' (event.Send wire offered a) h is = (
  refl,
  subst HasNoPollerFault (only_if-so _ _ q' is).1 (record {
    adds = h.adds;
    modifies = h.modifies;
    deletes = h.deletes;
    notifies = h.notifies;
    waits = h.waits;
  }),
)
next_faultless r told q q' (event.Close wire) h is = (refl, subst HasNoPollerFault (ap (λ o. unwrap_or o q) is) h)
next_faultless r told q q' (event.Now t) h is = (
  refl,
  subst HasNoPollerFault (only_if-so _ _ q' is).1 (record {
    adds = h.adds;
    modifies = h.modifies;
    deletes = h.deletes;
    notifies = h.notifies;
    waits = h.waits;
  }),
)
next_faultless r told q q' (event.Add wire key ok) h is = (
  call_ok q.adds ok h.adds (only_if-so _ _ q' is).0,
  subst HasNoPollerFault (only_if-so _ _ q' is).1 (record {
    adds = rest_all (λ ok. ok) q.adds h.adds;
    modifies = h.modifies;
    deletes = h.deletes;
    notifies = h.notifies;
    waits = h.waits;
  }),
)
next_faultless r told q q' (event.Modify wire key read write ok) h is = (
  call_ok q.modifies ok h.modifies (only_if-so _ _ q' is).0,
  subst HasNoPollerFault (only_if-so _ _ q' is).1 (record {
    adds = h.adds;
    modifies = rest_all (λ ok. ok) q.modifies h.modifies;
    deletes = h.deletes;
    notifies = h.notifies;
    waits = h.waits;
  }),
)
next_faultless r told q q' (event.Delete wire key ok) h is = (
  call_ok q.deletes ok h.deletes (only_if-so _ _ q' is).0,
  subst HasNoPollerFault (only_if-so _ _ q' is).1 (record {
    adds = h.adds;
    modifies = h.modifies;
    deletes = rest_all (λ ok. ok) q.deletes h.deletes;
    notifies = h.notifies;
    waits = h.waits;
  }),
)
next_faultless r told q q' (event.Notify ok) h is = (
  call_ok q.notifies ok h.notifies (only_if-so _ _ q' is).0,
  subst HasNoPollerFault (only_if-so _ _ q' is).1 (record {
    adds = h.adds;
    modifies = h.modifies;
    deletes = h.deletes;
    notifies = rest_all (λ ok. ok) q.notifies h.notifies;
    waits = h.waits;
  }),
)
next_faultless r told q q' (event.Wait timeout a) h is = (
  wait_ok (length q.dials) told q.waits timeout a h.waits (both-left _ _ (only_if-so _ _ q' is).0),
  subst HasNoPollerFault (only_if-so _ _ q' is).1 (record {
    adds = h.adds;
    modifies = h.modifies;
    deletes = h.deletes;
    notifies = h.notifies;
    waits = rest_all (λ a. not (is_wait_fault a)) q.waits h.waits;
  }),
)

pub played_from-none : (r : Rooms) (told events : List Event) → played_from r told None events ≡ None
played_from-none r told [] = refl
played_from-none r told (e ∷ events) = played_from-none r (told ++ e ∷ []) events

played_faultless : (r : Rooms) (told : List Event) (q : Queues) (events : List Event) → HasNoPollerFault q →
    is_some (played_from r told (Some q) events) ≡ true → faults_of_poller events ≡ 0
played_faultless r told q [] h follows = refl
played_faultless r told q (e ∷ events) h follows =
    elim (next r told q e) as (λ o. next r told q e ≡ o → is_some (played_from r (told ++ e ∷ []) o events) ≡ true →
    faults_of_poller (e ∷ events) ≡ 0) [
      | None ↦ λ is so. let wrong : false ≡ true = sym (ap is_some (played_from-none r (told ++ e ∷ []) events))
          ∙ so in absurd (true≢false (sym wrong))
      | Some q' ↦ λ is so. let s = next_faultless r told q q' e h is in rw s.0
          (played_faultless r (told ++ e ∷ []) q' events s.1 so)
    ] refl follows

-- where no answer of the script to a call of the poller is a fault, the record has none
pub follows_faultless : (r : Rooms) (script : Queues) (told : List Event) → HasNoPollerFault script →
    Follows r script told → faults_of_poller told ≡ 0
follows_faultless r script told h follows = played_faultless r [] script told h follows
