-- What one more event does to the counts of faults.
use Rattle.std.proofs.Common.{◌≡◌, ◌≢◌, ℕ, ◌+◌, Bool, true, false, cond, List, [], ◌∷◌, ◌++◌, refl, sym, subst, ap}
use Rattle.std.proofs.Common.{◌∙◌, arith, eq-eqb, Option, Some, Result, Ok, Err, length, take, inr}
use Rattle.std.specs.Prelude.{count_by, ◌==◌}
use Rattle.std.proofs.Math.Path.{fun_ext}
use Rattle.std.proofs.lemmas.List.{append-nil}
use Rattle.std.proofs.lemmas.List.Sums.{fold-append}
use Rattle.react_core.specs.Outer.{with_room, Part, Keeps, keeps-same}
use Rattle.react_core.specs.Outer as part
use Rattle.react_core.specs.Told.{Rose, SameBut}
use Rattle.react_core.specs.declared.outside.Event.{Event}
use Rattle.react_core.specs.Told.{Counted, send_told, recv_told, wait_told}
use Rattle.react_core.specs.declared.outside.Event.TheVariants as event
use Rattle.react_core.specs.declared.outside.Fault.{Fault}
use Rattle.react_core.specs.declared.outside.Fault.TheVariants as fault
use Rattle.react_core.specs.declared.outside.RecvAnswer.TheVariants as recv_answer
use Rattle.react_core.specs.declared.outside.SendAnswer.TheVariants as send_answer
use Rattle.react_core.specs.declared.outside.Received.{Received}
use Rattle.react_core.specs.declared.outside.Received.TheVariants as received
use Rattle.react_core.specs.declared.outside.Report.{Report}
use Rattle.react_core.specs.declared.outside.Rooms.{Rooms}
use Rattle.react_core.specs.declared.outside.WaitAnswer.TheVariants as wait_answer
use Rattle.react_core.specs.declared.outside.Waited.{Waited}
use Rattle.react_core.specs.declared.outside.Waited.TheVariants as waited
use Rattle.react_core.specs.declared.outside.Sent.{Sent}
use Rattle.react_core.specs.declared.outside.Sent.TheVariants as sent
use Rattle.bus_scene.specs.Queues.{Queues}
use Rattle.bus_scene.specs.Plays.{Play, counted, outer_of, later, last_reading, is_poller_fault, is_wire_fault}
use Rattle.bus_scene.specs.Plays.{is_dial_fault, faults_of_poller, faults_of_wire, faults_of_dials}
use Rattle.bus_scene.proofs.PlayLemmas.{last_reading-last}

pub count_one : (p : Event → Bool) (told told' : List Event) (e : Event) → told' ≡ told ++ e ∷ [] →
    count_by p told' ≡ count_by p told + cond (p e) 1 0
count_one p told told' e now = rw now (fold-append (λ (a : ℕ) x. a + cond (p x) 1 0) 0 told (e ∷ []))

pub count_same : (p : Event → Bool) (told told' : List Event) (e : Event) → told' ≡ told ++ e ∷ [] → p e ≡ false →
    count_by p told' ≡ count_by p told
count_same p told told' e now spared = count_one p told told' e now ∙ (rw spared (omega arith))

pub count_rose : (p : Event → Bool) (told told' : List Event) (e : Event) → told' ≡ told ++ e ∷ [] → p e ≡ true →
    Rose (count_by p told) (count_by p told')
count_rose p told told' e now counted =
    let more : count_by p told' ≡ count_by p told + 1 = count_one p told told' e now ∙ (rw counted refl) in
    omega (arith, more)

pub poller_same : (told told' : List Event) (e : Event) → told' ≡ told ++ e ∷ [] → is_poller_fault e ≡ false →
    faults_of_poller told' ≡ faults_of_poller told
poller_same told told' e now spared = count_same is_poller_fault told told' e now spared

pub poller_rose : (told told' : List Event) (e : Event) → told' ≡ told ++ e ∷ [] → is_poller_fault e ≡ true →
    Rose (faults_of_poller told) (faults_of_poller told')
poller_rose told told' e now counted = count_rose is_poller_fault told told' e now counted

pub wires_same : (told told' : List Event) (e : Event) → told' ≡ told ++ e ∷ [] →
    ((w : ℕ) → is_wire_fault w e ≡ false) →
    faults_of_wire told' ≡ faults_of_wire told
wires_same told told' e now spared = fun_ext (λ w. count_same (is_wire_fault w) told told' e now (spared w))

pub dials_same : (told told' : List Event) (e : Event) → told' ≡ told ++ e ∷ [] →
    ((w : ℕ) → is_dial_fault w e ≡ false) →
    faults_of_dials told' ≡ faults_of_dials told
dials_same told told' e now spared = fun_ext (λ w. count_same (is_dial_fault w) told told' e now (spared w))

pub wires_none : (told told' : List Event) → told' ≡ told ++ [] → faults_of_wire told' ≡ faults_of_wire told
wires_none told told' now = ap faults_of_wire (now ∙ append-nil told)

pub dials_none : (told told' : List Event) → told' ≡ told ++ [] → faults_of_dials told' ≡ faults_of_dials told
dials_none told told' now = ap faults_of_dials (now ∙ append-nil told)

pub other_wire : (w wire : ℕ) → w ≢ wire → (wire == w) ≡ false
other_wire w wire h = grind arith

-- what a send does to the counts
pub send_cause : (told told' : List Event) (wire : ℕ) (bytes : List ℕ) (result : Result Sent Fault) →
    told' ≡ told ++ send_told wire bytes result →
    Counted result (faults_of_wire told wire) (faults_of_wire told' wire)
send_cause told told' wire bytes (Ok (sent.Took n)) now =
    count_same (is_wire_fault wire) told told' (event.Send wire bytes (send_answer.Took n)) now refl
send_cause told told' wire bytes (Ok sent.NotReady) now =
    count_same (is_wire_fault wire) told told' (event.Send wire bytes send_answer.NotReady) now refl
send_cause told told' wire bytes (Err fault.Failed) now =
    count_rose (is_wire_fault wire) told told' (event.Send wire bytes send_answer.Failed) now (eq-eqb wire wire refl)
send_cause told told' wire bytes (Err fault.OutOfMemory) now = ap (λ t. faults_of_wire t wire) (now ∙ append-nil told)

pub send_others : (told told' : List Event) (wire : ℕ) (bytes : List ℕ) (result : Result Sent Fault) →
    told' ≡ told ++ send_told wire bytes result →
    SameBut wire (faults_of_wire told) (faults_of_wire told')
send_others told told' wire bytes (Ok (sent.Took n)) now =
    λ w other. count_same (is_wire_fault w) told told' (event.Send wire bytes (send_answer.Took n)) now refl
send_others told told' wire bytes (Ok sent.NotReady) now =
    λ w other. count_same (is_wire_fault w) told told' (event.Send wire bytes send_answer.NotReady) now refl
send_others told told' wire bytes (Err fault.Failed) now =
    λ w other. count_same (is_wire_fault w) told told' (event.Send wire bytes send_answer.Failed) now
    (other_wire w wire other)
send_others told told' wire bytes (Err fault.OutOfMemory) now =
    λ w other. ap (λ t. faults_of_wire t w) (now ∙ append-nil told)

pub send_dials : (told told' : List Event) (wire : ℕ) (bytes : List ℕ) (result : Result Sent Fault) →
    told' ≡ told ++ send_told wire bytes result →
    faults_of_dials told' ≡ faults_of_dials told
send_dials told told' wire bytes (Ok (sent.Took n)) now =
    dials_same told told' (event.Send wire bytes (send_answer.Took n)) now (λ w. refl)
send_dials told told' wire bytes (Ok sent.NotReady) now =
    dials_same told told' (event.Send wire bytes send_answer.NotReady) now (λ w. refl)
send_dials told told' wire bytes (Err fault.Failed) now =
    dials_same told told' (event.Send wire bytes send_answer.Failed) now (λ w. refl)
send_dials told told' wire bytes (Err fault.OutOfMemory) now = dials_none told told' now

-- what a recv does to the counts
pub recv_cause : (told told' : List Event) (wire : ℕ) (into : List ℕ) (result : Result Received Fault) →
    told' ≡ told ++ recv_told wire into result →
    Counted result (faults_of_wire told wire) (faults_of_wire told' wire)
recv_cause told told' wire into (Ok (received.Got n)) now =
    count_same (is_wire_fault wire) told told' (event.Recv wire (length into) (recv_answer.Got (take n into))) now refl
recv_cause told told' wire into (Ok received.End) now =
    count_same (is_wire_fault wire) told told' (event.Recv wire (length into) recv_answer.End) now refl
recv_cause told told' wire into (Ok received.NotReady) now =
    count_same (is_wire_fault wire) told told' (event.Recv wire (length into) recv_answer.NotReady) now refl
recv_cause told told' wire into (Err fault.Failed) now =
    count_rose (is_wire_fault wire) told told' (event.Recv wire (length into) recv_answer.Failed) now
    (eq-eqb wire wire refl)
recv_cause told told' wire into (Err fault.OutOfMemory) now = ap (λ t. faults_of_wire t wire) (now ∙ append-nil told)

pub recv_others : (told told' : List Event) (wire : ℕ) (into : List ℕ) (result : Result Received Fault) →
    told' ≡ told ++ recv_told wire into result →
    SameBut wire (faults_of_wire told) (faults_of_wire told')
recv_others told told' wire into (Ok (received.Got n)) now =
    λ w other. count_same (is_wire_fault w) told told' (event.Recv wire (length into) (recv_answer.Got (take n into)))
    now refl
recv_others told told' wire into (Ok received.End) now =
    λ w other. count_same (is_wire_fault w) told told' (event.Recv wire (length into) recv_answer.End) now refl
recv_others told told' wire into (Ok received.NotReady) now =
    λ w other. count_same (is_wire_fault w) told told' (event.Recv wire (length into) recv_answer.NotReady) now refl
recv_others told told' wire into (Err fault.Failed) now =
    λ w other. count_same (is_wire_fault w) told told' (event.Recv wire (length into) recv_answer.Failed) now
    (other_wire w wire other)
recv_others told told' wire into (Err fault.OutOfMemory) now =
    λ w other. ap (λ t. faults_of_wire t w) (now ∙ append-nil told)

pub recv_dials : (told told' : List Event) (wire : ℕ) (into : List ℕ) (result : Result Received Fault) →
    told' ≡ told ++ recv_told wire into result →
    faults_of_dials told' ≡ faults_of_dials told
recv_dials told told' wire into (Ok (received.Got n)) now =
    dials_same told told' (event.Recv wire (length into) (recv_answer.Got (take n into))) now (λ w. refl)
recv_dials told told' wire into (Ok received.End) now =
    dials_same told told' (event.Recv wire (length into) recv_answer.End) now (λ w. refl)
recv_dials told told' wire into (Ok received.NotReady) now =
    dials_same told told' (event.Recv wire (length into) recv_answer.NotReady) now (λ w. refl)
recv_dials told told' wire into (Err fault.Failed) now =
    dials_same told told' (event.Recv wire (length into) recv_answer.Failed) now (λ w. refl)
recv_dials told told' wire into (Err fault.OutOfMemory) now = dials_none told told' now

-- what a wait leaves alone
pub wait_wires : (told told' : List Event) (timeout : Option ℕ) (reports : List Report) (result : Result Waited Fault) →
    told' ≡ told ++ wait_told timeout reports result →
    faults_of_wire told' ≡ faults_of_wire told
wait_wires told told' timeout reports (Ok (waited.Reported n)) now =
    wires_same told told' (event.Wait timeout (wait_answer.Reported (take n reports))) now (λ w. refl)
wait_wires told told' timeout reports (Ok waited.Interrupted) now =
    wires_same told told' (event.Wait timeout wait_answer.Interrupted) now (λ w. refl)
wait_wires told told' timeout reports (Err fault.Failed) now =
    wires_same told told' (event.Wait timeout wait_answer.Failed) now (λ w. refl)
wait_wires told told' timeout reports (Err fault.OutOfMemory) now = wires_none told told' now

pub wait_dials : (told told' : List Event) (timeout : Option ℕ) (reports : List Report) (result : Result Waited Fault) →
    told' ≡ told ++ wait_told timeout reports result →
    faults_of_dials told' ≡ faults_of_dials told
wait_dials told told' timeout reports (Ok (waited.Reported n)) now =
    dials_same told told' (event.Wait timeout (wait_answer.Reported (take n reports))) now (λ w. refl)
wait_dials told told' timeout reports (Ok waited.Interrupted) now =
    dials_same told told' (event.Wait timeout wait_answer.Interrupted) now (λ w. refl)
wait_dials told told' timeout reports (Err fault.Failed) now =
    dials_same told told' (event.Wait timeout wait_answer.Failed) now (λ w. refl)
wait_dials told told' timeout reports (Err fault.OutOfMemory) now = dials_none told told' now

-- ---- what contracts see of a scene, after a call

pub counted_rose : (before now : ℕ) → Rose before now → Rose (counted before) (counted now)
counted_rose before now rose = omega (arith, rose)

-- the counts that stand still at their type's end rise and stay as the faults do
pub counted_cause : {T : Type 0} (result : Result T Fault) (before now : ℕ) → Counted result before now →
    Counted result (counted before) (counted now)
counted_cause (Ok v) before now c = ap counted c
counted_cause (Err fault.Failed) before now c = omega (arith, c)
counted_cause (Err fault.OutOfMemory) before now c = ap counted c

abbrev play : Queues → Rooms → List Event → Play
play s r t = record { script = s; rooms = r; told = t }

record_of : (s s' : Queues) (r r' : Rooms) (t t' : List Event) → s' ≡ s → r' ≡ r → t' ≡ t → play s' r' t' ≡ play s r t
record_of s s' r r' t t' a b c = λ i. play (a i) (b i) (c i)

-- nothing was told
pub keeps_none : (part : Part) (before after : Play) → after.script ≡ before.script → after.rooms ≡ before.rooms →
    after.told ≡ before.told → Keeps part (outer_of before) (outer_of after)
keeps_none part before after script rooms told =
    subst (λ (p : Play). Keeps part (outer_of before) (outer_of p))
    (sym (record_of before.script after.script before.rooms after.rooms before.told after.told script rooms told))
    (keeps-same part (outer_of before))

abbrev pub counted_each : (ℕ → ℕ) → ℕ → ℕ
counted_each f wire = counted (f wire)

pub all_counted : (f g : ℕ → ℕ) → f ≡ g → counted_each f ≡ counted_each g
all_counted f g same = ap counted_each same

pub moment_same : (told told' : List Event) (e : Event) → told' ≡ told ++ e ∷ [] →
    later (last_reading told) e ≡ last_reading told → last_reading told' ≡ last_reading told
moment_same told told' e now quiet = ap last_reading now ∙ last_reading-last told e ∙ quiet

-- a call of the poller
pub keeps_poller : (before after : Play) (e : Event) → after.script ≡ before.script → after.rooms ≡ before.rooms →
    after.told ≡ before.told ++ e ∷ [] →
    later (last_reading before.told) e ≡ last_reading before.told → ((w : ℕ) → is_wire_fault w e ≡ false) →
    ((w : ℕ) → is_dial_fault w e ≡ false) →
    Keeps part.Poller (outer_of before) (outer_of after)
keeps_poller before after e script rooms now quiet wires dials = record {
  origin = script;
  moment = moment_same before.told after.told e now quiet;
  poller = tt;
  wires = all_counted _ _ (wires_same before.told after.told e now wires);
  dials = all_counted _ _ (dials_same before.told after.told e now dials);
  rooms = ap Some rooms;
  doors = refl;
  ample = refl;
}

pub keeps_clock : (before after : Play) (t : ℕ) → after.script ≡ before.script → after.rooms ≡ before.rooms →
    after.told ≡ before.told ++ event.Now t ∷ [] → Keeps part.Clock (outer_of before) (outer_of after)
keeps_clock before after t script rooms now = record {
  origin = script;
  moment = tt;
  poller = ap counted (poller_same before.told after.told (event.Now t) now refl);
  wires = all_counted _ _ (wires_same before.told after.told (event.Now t) now (λ w. refl));
  dials = all_counted _ _ (dials_same before.told after.told (event.Now t) now (λ w. refl));
  rooms = ap Some rooms;
  doors = refl;
  ample = refl;
}

pub keeps_close : (before after : Play) (wire : ℕ) → after.script ≡ before.script → after.rooms ≡ before.rooms →
    after.told ≡ before.told ++ event.Close wire ∷ [] → Keeps part.Record (outer_of before) (outer_of after)
keeps_close before after wire script rooms now = record {
  origin = script;
  moment = moment_same before.told after.told (event.Close wire) now refl;
  poller = ap counted (poller_same before.told after.told (event.Close wire) now refl);
  wires = all_counted _ _ (wires_same before.told after.told (event.Close wire) now (λ w. refl));
  dials = all_counted _ _ (dials_same before.told after.told (event.Close wire) now (λ w. refl));
  rooms = ap Some rooms;
  doors = refl;
  ample = refl;
}

-- a send, a read and a wait, by what they tell
pub send_moment : (told told' : List Event) (wire : ℕ) (bytes : List ℕ) (result : Result Sent Fault) →
    told' ≡ told ++ send_told wire bytes result → last_reading told' ≡ last_reading told
send_moment told told' wire bytes (Ok (sent.Took n)) now =
    moment_same told told' (event.Send wire bytes (send_answer.Took n)) now refl
send_moment told told' wire bytes (Ok sent.NotReady) now =
    moment_same told told' (event.Send wire bytes send_answer.NotReady) now refl
send_moment told told' wire bytes (Err fault.Failed) now =
    moment_same told told' (event.Send wire bytes send_answer.Failed) now refl
send_moment told told' wire bytes (Err fault.OutOfMemory) now = ap last_reading (now ∙ append-nil told)

pub send_poller : (told told' : List Event) (wire : ℕ) (bytes : List ℕ) (result : Result Sent Fault) →
    told' ≡ told ++ send_told wire bytes result → faults_of_poller told' ≡ faults_of_poller told
send_poller told told' wire bytes (Ok (sent.Took n)) now =
    poller_same told told' (event.Send wire bytes (send_answer.Took n)) now refl
send_poller told told' wire bytes (Ok sent.NotReady) now =
    poller_same told told' (event.Send wire bytes send_answer.NotReady) now refl
send_poller told told' wire bytes (Err fault.Failed) now =
    poller_same told told' (event.Send wire bytes send_answer.Failed) now refl
send_poller told told' wire bytes (Err fault.OutOfMemory) now = ap faults_of_poller (now ∙ append-nil told)

pub recv_moment : (told told' : List Event) (wire : ℕ) (into : List ℕ) (result : Result Received Fault) →
    told' ≡ told ++ recv_told wire into result → last_reading told' ≡ last_reading told
recv_moment told told' wire into (Ok (received.Got n)) now =
    moment_same told told' (event.Recv wire (length into) (recv_answer.Got (take n into))) now refl
recv_moment told told' wire into (Ok received.End) now =
    moment_same told told' (event.Recv wire (length into) recv_answer.End) now refl
recv_moment told told' wire into (Ok received.NotReady) now =
    moment_same told told' (event.Recv wire (length into) recv_answer.NotReady) now refl
recv_moment told told' wire into (Err fault.Failed) now =
    moment_same told told' (event.Recv wire (length into) recv_answer.Failed) now refl
recv_moment told told' wire into (Err fault.OutOfMemory) now = ap last_reading (now ∙ append-nil told)

pub recv_poller : (told told' : List Event) (wire : ℕ) (into : List ℕ) (result : Result Received Fault) →
    told' ≡ told ++ recv_told wire into result → faults_of_poller told' ≡ faults_of_poller told
recv_poller told told' wire into (Ok (received.Got n)) now =
    poller_same told told' (event.Recv wire (length into) (recv_answer.Got (take n into))) now refl
recv_poller told told' wire into (Ok received.End) now =
    poller_same told told' (event.Recv wire (length into) recv_answer.End) now refl
recv_poller told told' wire into (Ok received.NotReady) now =
    poller_same told told' (event.Recv wire (length into) recv_answer.NotReady) now refl
recv_poller told told' wire into (Err fault.Failed) now =
    poller_same told told' (event.Recv wire (length into) recv_answer.Failed) now refl
recv_poller told told' wire into (Err fault.OutOfMemory) now = ap faults_of_poller (now ∙ append-nil told)

pub wait_moment : (told told' : List Event) (timeout : Option ℕ) (reports : List Report)
    (result : Result Waited Fault) → told' ≡ told ++ wait_told timeout reports result →
    last_reading told' ≡ last_reading told
wait_moment told told' timeout reports (Ok (waited.Reported n)) now =
    moment_same told told' (event.Wait timeout (wait_answer.Reported (take n reports))) now refl
wait_moment told told' timeout reports (Ok waited.Interrupted) now =
    moment_same told told' (event.Wait timeout wait_answer.Interrupted) now refl
wait_moment told told' timeout reports (Err fault.Failed) now =
    moment_same told told' (event.Wait timeout wait_answer.Failed) now refl
wait_moment told told' timeout reports (Err fault.OutOfMemory) now = ap last_reading (now ∙ append-nil told)

pub keeps_send : (before after : Play) (wire : ℕ) (bytes : List ℕ) (result : Result Sent Fault) →
    after.script ≡ before.script → after.rooms ≡ before.rooms →
    after.told ≡ before.told ++ send_told wire bytes result →
    Keeps (part.Wire wire) (outer_of before) (outer_of after)
keeps_send before after wire bytes result script rooms now = record {
  origin = script;
  moment = send_moment before.told after.told wire bytes result now;
  poller = ap counted (send_poller before.told after.told wire bytes result now);
  wires = λ w other. ap counted (send_others before.told after.told wire bytes result now w other);
  dials = all_counted _ _ (send_dials before.told after.told wire bytes result now);
  rooms = ap Some rooms;
  doors = refl;
  ample = refl;
}

pub keeps_recv : (before after : Play) (wire : ℕ) (into : List ℕ) (result : Result Received Fault) →
    after.script ≡ before.script → after.rooms ≡ before.rooms → after.told ≡ before.told ++ recv_told wire into result →
    Keeps (part.Wire wire) (outer_of before) (outer_of after)
keeps_recv before after wire into result script rooms now = record {
  origin = script;
  moment = recv_moment before.told after.told wire into result now;
  poller = ap counted (recv_poller before.told after.told wire into result now);
  wires = λ w other. ap counted (recv_others before.told after.told wire into result now w other);
  dials = all_counted _ _ (recv_dials before.told after.told wire into result now);
  rooms = ap Some rooms;
  doors = refl;
  ample = refl;
}

pub keeps_wait : (before after : Play) (room : ℕ) (timeout : Option ℕ) (reports : List Report)
    (result : Result Waited Fault) →
    after.script ≡ before.script → after.rooms ≡ with_room before.rooms room →
    after.told ≡ before.told ++ wait_told timeout reports result →
    Keeps (part.Wait room) (outer_of before) (outer_of after)
keeps_wait before after room timeout reports result script rooms now = record {
  origin = script;
  moment = wait_moment before.told after.told timeout reports result now;
  poller = tt;
  rooms = inr (ap Some rooms);
  wires = all_counted _ _ (wait_wires before.told after.told timeout reports result now);
  dials = all_counted _ _ (wait_dials before.told after.told timeout reports result now);
  doors = refl;
  ample = refl;
}
