-- A record that follows a script with some rooms follows it with one more wait's: `follows-lent`, `follows-each`.
use Rattle.std.proofs.Common.{◌≡◌, ℕ, Bool, true, false, ◌&&◌, List, [], ◌∷◌, ◌++◌, length, drop, Option, Some}
use Rattle.std.proofs.Common.{None, refl, sym, ap, ◌∙◌, subst, inl, inr}
use Rattle.std.specs.Prelude.{◌==◌, is_some, unwrap_or}
use Rattle.std.proofs.lemmas.Bool.{true≢false}
use Rattle.react_core.specs.Outer.{with_room, LentRoom}
use Rattle.react_core.specs.declared.outside.Event.{Event}
use Rattle.react_core.specs.declared.outside.Event.TheVariants as event
use Rattle.react_core.specs.declared.outside.Rooms.{Rooms}
use Rattle.react_core.specs.declared.outside.Rooms.TheVariants as rooms
use Rattle.react_core.specs.declared.outside.WaitAnswer.{WaitAnswer}
use Rattle.react_core.specs.declared.outside.WaitAnswer.TheVariants as wait_answer
use Rattle.bus_script.specs.declared.line.ScriptWait.{ScriptWait}
use Rattle.bus_script.specs.declared.line.ScriptWait.TheVariants as script_wait
use Rattle.bus_scene.specs.Queues.{Queues, next_answer}
use Rattle.bus_scene.specs.Plays.{next, played, played_from, only_if, is_wait_given, is_filled, Follows}
use Rattle.bus_scene.specs.Faultless.{only_if-so, both-left, both-right, played_from-none}

-- any front fills rooms that differed
filled_differ : (sessions : ℕ) (told : List Event) (given : Option ScriptWait) (a : WaitAnswer) →
    is_filled rooms.Differ sessions told given a ≡ true
filled_differ sessions told None a = refl
filled_differ sessions told (Some (script_wait.Reported readies)) (wait_answer.Reported reports) = refl
filled_differ sessions told (Some (script_wait.Reported readies)) wait_answer.Interrupted = refl
filled_differ sessions told (Some (script_wait.Reported readies)) wait_answer.Failed = refl
filled_differ sessions told (Some script_wait.Interrupted) a = refl
filled_differ sessions told (Some script_wait.Failed) a = refl

filled_lent : (r : Rooms) (room sessions : ℕ) (told : List Event) (given : Option ScriptWait) (a : WaitAnswer) →
    is_filled r sessions told given a ≡ true → is_filled (with_room r room) sessions told given a ≡ true
filled_lent rooms.Unwaited room sessions told given a filled = absurd (true≢false (sym filled))
filled_lent (rooms.Each each) room sessions told given a filled =
    elim (each == room) as (λ b. (each == room) ≡ b →
    is_filled (with_room (rooms.Each each) room) sessions told given a ≡ true) [
      | true ↦ λ is. rw is filled
      | false ↦ λ is. rw is (filled_differ sessions told given a)
    ] refl
filled_lent rooms.Differ room sessions told given a filled = filled

wait_lent : (given filled more : Bool) (q q' : Queues) → (filled ≡ true → more ≡ true) →
    only_if (given && filled) q ≡ Some q' → only_if (given && more) q ≡ Some q'
wait_lent given filled more q q' lets is =
    let so = only_if-so (given && filled) q q' is in
    rw (both-left given filled so.0, lets (both-right given filled so.0)) (ap Some so.1)

next_lent : (r : Rooms) (room : ℕ) (told : List Event) (q q' : Queues) (e : Event) → next r told q e ≡ Some q' →
    next (with_room r room) told q e ≡ Some q'
next_lent r room told q q' (event.Dial wire asked a) is = is
next_lent r room told q q' (event.Recv wire asked a) is = is
next_lent r room told q q' (event.Send wire offered a) is = is
next_lent r room told q q' (event.Close wire) is = is
next_lent r room told q q' (event.Now t) is = is
next_lent r room told q q' (event.Add wire key ok) is = is
next_lent r room told q q' (event.Modify wire key read write ok) is = is
next_lent r room told q q' (event.Delete wire key ok) is = is
next_lent r room told q q' (event.Notify ok) is = is
next_lent r room told q q' (event.Wait timeout a) is =
    wait_lent (is_wait_given (length q.dials) told (next_answer q.waits) a)
    (is_filled r (length q.dials) told (next_answer q.waits) a)
    (is_filled (with_room r room) (length q.dials) told (next_answer q.waits) a) (record q { waits = drop 1 q.waits })
    q'
    (filled_lent r room (length q.dials) told (next_answer q.waits) a) is

played_lent : (r : Rooms) (room : ℕ) (told : List Event) (q : Option Queues) (events : List Event) (q' : Queues) →
    played_from r told q events ≡ Some q' → played_from (with_room r room) told q events ≡ Some q'
played_lent r room told q [] q' is = is
played_lent r room told None (e ∷ events) q' is = played_lent r room (told ++ e ∷ []) None events q' is
played_lent r room told (Some q) (e ∷ events) q' is =
    elim (next r told q e) as (λ o. next r told q e ≡ o → played_from r (told ++ e ∷ []) o events ≡ Some q' →
    played_from (with_room r room) (told ++ e ∷ []) (next (with_room r room) told q e) events ≡ Some q') [
      | None ↦ λ none so.
          let wrong : false ≡ true = sym (ap is_some (played_from-none r (told ++ e ∷ []) events))
          ∙ ap is_some so in absurd (true≢false (sym wrong))
      | Some q1 ↦ λ one so. rw (next_lent r room told q q1 e one)
          (played_lent r room (told ++ e ∷ []) (Some q1) events q' so)
    ] refl is

-- what is left of the script stands, whatever room one more wait is lent
pub plays-lent : (r : Rooms) (room : ℕ) (script left : Queues) (told : List Event) →
    played r script told ≡ Some left → played (with_room r room) script told ≡ Some left
plays-lent r room script left told is = played_lent r room [] (Some script) told left is

pub follows-lent : (r : Rooms) (room : ℕ) (script : Queues) (told : List Event) → Follows r script told →
    Follows (with_room r room) script told
follows-lent r room script told follows =
    elim (played r script told) as (λ o. played r script told ≡ o → is_some o ≡ true →
    Follows (with_room r room) script told) [
      | None ↦ λ none so. let wrong : false ≡ true = so in absurd (true≢false (sym wrong))
      | Some left ↦ λ is so. ap is_some (plays-lent r room script left told is)
    ] refl follows

-- where no wait came before, and each since was lent this room
pub follows-each : (room : ℕ) (r : Rooms) (script : Queues) (told : List Event) →
    LentRoom room (Some rooms.Unwaited) (Some r) →
    Follows r script told → Follows (rooms.Each room) script told
follows-each room r script told (inl none) follows =
    let unwaited : r ≡ rooms.Unwaited = ap (λ o. unwrap_or o r) none in
    follows-lent rooms.Unwaited room script told (subst (λ (r : Rooms). Follows r script told) unwaited follows)
follows-each room r script told (inr each) follows =
    let same : r ≡ rooms.Each room = ap (λ o. unwrap_or o r) each in
    subst (λ (r : Rooms). Follows r script told) same follows
