-- What one call of a wire does to all that is folded over a visit.
use Rattle.std.proofs.Common.{◌≡◌, ◌≢◌, ℕ, Bool, true, false, not, ◌&&◌, ◌==◌, List, Option, Some, None, refl}
use Rattle.std.proofs.Common.{sym, ◌∙◌, ap}
use Rattle.std.proofs.lemmas.Bool.{eq-eqb, ne_eqb}
use Rattle.react_core.specs.declared.outside.Event.{Event}
use Rattle.react_core.specs.declared.outside.Event.TheVariants as event
use Rattle.react_core.specs.declared.outside.RecvAnswer.{RecvAnswer}
use Rattle.react_core.specs.declared.outside.RecvAnswer.TheVariants as recv_answer
use Rattle.react_core.specs.declared.outside.SendAnswer.{SendAnswer}
use Rattle.react_core.specs.declared.outside.SendAnswer.TheVariants as send_answer
use Rattle.react_core.specs.declared.reactor.Dir.{Dir}
use Rattle.react_core.specs.declared.reactor.Dir.TheVariants.{Read, Write}
use Rattle.bus_session.specs.Parts.{is_of}
use Rattle.bus_record.specs.Places.{key_by, holder_by, waits_by, stop_of, is_dir, reported_by, last_stop_by}
use Rattle.bus_record.specs.Places.{last_reading_by, notified_by, armed_by}
use Rattle.bus_record.specs.Visits.{is_call}
use Rattle.bus_visit.specs.Registry.{Held, noted, held_after}
use Rattle.bus_visit.specs.Asking.{Asking, asking_at, after_stop}
use Rattle.bus_visit.specs.Calls.{IsCall}

-- the sources after a call that this direction paused, or none did
abbrev pub noted_by : ℕ → Option Dir → List Held → List Held
noted_by wire None held = held
noted_by wire (Some x) held = noted wire x held

-- a visit under way after such a call
abbrev pub asking_by : Option Dir → Asking → Asking
asking_by None a = a
asking_by (Some x) a = after_stop x a

-- a call moves no key, no arming, no timer and no reading; its NotReady ends a report
pub record OfCall (wire : ℕ) (e : Event) : Type 0 where
  pub own : is_call wire e ≡ true
  pub part : is_of wire e ≡ true
  pub others : (w : ℕ) → wire ≢ w → is_of w e ≡ false
  pub key : (k : Option ℕ) → key_by k e ≡ k
  pub holder : (k : ℕ) (h : Option ℕ) → holder_by k h e ≡ h
  pub waits : (x : Dir) (was : Bool) → waits_by x was e ≡ was
  pub reported : (x : Dir) (was : Bool) → reported_by x was e ≡ (was && not (is_dir x (stop_of e)))
  pub armed : (x : Dir) (was : Bool) → armed_by x was e ≡ was
  pub stop : (last : Option Dir) → last_stop_by last e ≡ stop_of e
  pub reading : (last : Option ℕ) → last_reading_by last e ≡ last
  pub notified : (was : Bool) → notified_by was e ≡ was
  pub held : (held : List Held) → held_after held e ≡ noted_by wire (stop_of e) held
  pub asked : (a : Asking) → asking_at a e ≡ asking_by (stop_of e) a

other_wire : (v w wire : ℕ) → v ≡ wire → wire ≢ w → (v == w) ≡ false
other_wire v w wire is other = ne_eqb v w (λ e. other (sym is ∙ e))

recv-held : (wire w n : ℕ) (answer : RecvAnswer) (held : List Held) → w ≡ wire →
    held_after held (event.Recv w n answer) ≡ noted_by wire (stop_of (event.Recv w n answer)) held
recv-held wire w n recv_answer.NotReady held is = ap (λ z. noted z Read held) is
recv-held wire w n _ held is = refl

send-held : (wire w : ℕ) (bytes : List ℕ) (answer : SendAnswer) (held : List Held) → w ≡ wire →
    held_after held (event.Send w bytes answer) ≡ noted_by wire (stop_of (event.Send w bytes answer)) held
send-held wire w bytes send_answer.NotReady held is = ap (λ z. noted z Write held) is
send-held wire w bytes _ held is = refl

recv-asked : (w n : ℕ) (answer : RecvAnswer) (a : Asking) →
    asking_at a (event.Recv w n answer) ≡ asking_by (stop_of (event.Recv w n answer)) a
recv-asked w n recv_answer.NotReady a = refl
recv-asked w n _ a = refl

send-asked : (w : ℕ) (bytes : List ℕ) (answer : SendAnswer) (a : Asking) →
    asking_at a (event.Send w bytes answer) ≡ asking_by (stop_of (event.Send w bytes answer)) a
send-asked w bytes send_answer.NotReady a = refl
send-asked w bytes _ a = refl

pub of-call : (wire : ℕ) (e : Event) → IsCall wire e → OfCall wire e
of-call wire (event.Recv w n answer) is = record {
  own = eq-eqb w wire is;
  part = eq-eqb w wire is;
  others = λ v other. other_wire w v wire is other;
  key = λ k. refl;
  holder = λ k h. refl;
  waits = λ x was. refl;
  reported = λ x was. refl;
  armed = λ x was. refl;
  stop = λ last. refl;
  reading = λ last. refl;
  notified = λ was. refl;
  held = λ held. recv-held wire w n answer held is;
  asked = λ a. recv-asked w n answer a;
}
of-call wire (event.Send w bytes answer) is = record {
  own = eq-eqb w wire is;
  part = eq-eqb w wire is;
  others = λ v other. other_wire w v wire is other;
  key = λ k. refl;
  holder = λ k h. refl;
  waits = λ x was. refl;
  reported = λ x was. refl;
  armed = λ x was. refl;
  stop = λ last. refl;
  reading = λ last. refl;
  notified = λ was. refl;
  held = λ held. send-held wire w bytes answer held is;
  asked = λ a. send-asked w bytes answer a;
}
of-call wire _ is = absurd is
