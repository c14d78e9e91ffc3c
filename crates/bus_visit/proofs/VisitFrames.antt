-- What the calls of a visit keep of the outside, and which counts they raise.
use Rattle.std.proofs.Common.{◌≡◌, ◌≤◌, inr, ℕ, true, Result, Ok, Err, sym, subst}
use Rattle.react_core.specs.Outer.{Outer, Keeps, keeps-then, wire-in-visit, poller-in-visit}
use Rattle.react_core.specs.Outer as part
use Rattle.bus_visit.specs.declared.conversing.Conversed.{Conversed}
use Rattle.bus_visit.specs.declared.conversing.Conversed.TheVariants as conversed
use Rattle.bus_session.specs.declared.ended.Ending.{Ending}
use Rattle.bus_session.specs.declared.ended.Ending.TheVariants as ending
use Rattle.bus_session.specs.declared.ended.Ended.{Ended}
use Rattle.bus_visit.specs.declared.dialling.Dialled.{Dialled}
use Rattle.bus_visit.specs.declared.dialling.Dialled.TheVariants as dialleds
use Rattle.bus_visit.specs.declared.dialling.Reached.{Reached}
use Rattle.react_core.specs.declared.outside.OutOfMemory.{OutOfMemory}
use Rattle.bus_visit.specs.declared.visiting.Slot.{Slot}
use Rattle.bus_visit.specs.Conversed.{is_awake, ConversedCounted}
use Rattle.bus_visit.specs.Faults.{EndingCounted, DialCounted, SlotCounted}
use Rattle.bus_visit.specs.laws.Faults.{rose-rises, same-rises, rises-same, rises-visit, ending-within, slot-within}

pub conversed-rises : (answer : Result Conversed OutOfMemory) (a b : ℕ) → ConversedCounted answer a b → a ≤ b
conversed-rises (Ok (conversed.Over (ending.Open guid cap_unix_fd))) a b counted = same-rises a b counted
conversed-rises (Ok (conversed.Over (ending.Address reason))) a b counted = absurd counted
conversed-rises (Ok (conversed.Over ending.Unsupported)) a b counted = absurd counted
conversed-rises (Ok (conversed.Over ending.Connection)) a b counted = absurd counted
conversed-rises (Ok (conversed.Over ending.Io)) a b counted = rose-rises a b counted
conversed-rises (Ok (conversed.Over ending.Handshake)) a b counted = same-rises a b counted
conversed-rises (Ok (conversed.Over ending.LineTooLong)) a b counted = same-rises a b counted
conversed-rises (Ok (conversed.Over ending.TooManyCommands)) a b counted = same-rises a b counted
conversed-rises (Ok (conversed.Over ending.TimedOut)) a b counted = absurd counted
conversed-rises (Ok (conversed.Over ending.Waiting)) a b counted = absurd counted
conversed-rises (Ok (conversed.Paused dir)) a b counted = same-rises a b counted
conversed-rises (Err e) a b counted = same-rises a b counted

module _ {Origin : Type 0} where
  -- ---- a turn

  -- the conversation was had
  pub keeps-conversed : (wire : ℕ) (answer : Result Conversed OutOfMemory) (a b : Outer Origin) →
      Keeps (part.Wire wire) a b → ConversedCounted answer (a.wire_faults wire) (b.wire_faults wire) →
      Keeps (part.Visit wire) a b
  keeps-conversed wire answer a b k counted = wire-in-visit wire a b k (conversed-rises answer _ _ counted)

  -- and then a call of the poller
  pub keeps-noted : (wire : ℕ) (answer : Result Conversed OutOfMemory) (a b c : Outer Origin) →
      Keeps (part.Wire wire) a b → ConversedCounted answer (a.wire_faults wire) (b.wire_faults wire) →
      Keeps part.Poller b c → Keeps (part.Visit wire) a c
  keeps-noted wire answer a b c k counted l =
      keeps-then (part.Visit wire) a b c (keeps-conversed wire answer a b k counted) (poller-in-visit wire b c l)

  pub over-counted : (wire : ℕ) (e : Ending) (a b : Outer Origin) →
      ConversedCounted (Ok (conversed.Over e)) (a.wire_faults wire) (b.wire_faults wire) → EndingCounted wire e a b
  over-counted wire (ending.Open guid cap_unix_fd) a b counted = tt
  over-counted wire (ending.Address reason) a b counted = absurd counted
  over-counted wire ending.Unsupported a b counted = absurd counted
  over-counted wire ending.Connection a b counted = absurd counted
  over-counted wire ending.Io a b counted = inr counted
  over-counted wire ending.Handshake a b counted = tt
  over-counted wire ending.LineTooLong a b counted = tt
  over-counted wire ending.TooManyCommands a b counted = tt
  over-counted wire ending.TimedOut a b counted = absurd counted
  over-counted wire ending.Waiting a b counted = absurd counted

  -- one visit's call after others of it
  pub keeps-visit : (wire : ℕ) (a b c : Outer Origin) → Keeps (part.Visit wire) a b → Keeps part.Poller b c → Keeps (part.Visit wire) a c
  keeps-visit wire a b c k l = keeps-then (part.Visit wire) a b c k (poller-in-visit wire b c l)

  -- a poller's call before the rest of a visit
  pub keeps-registered : (wire : ℕ) (a b c : Outer Origin) → Keeps part.Poller a b → Keeps (part.Visit wire) b c → Keeps (part.Visit wire) a c
  keeps-registered wire a b c k l = keeps-then (part.Visit wire) a b c (poller-in-visit wire a b k) l

  -- the ending of a visit, whose source is taken out then
  pub ended-counted : (wire : ℕ) (x : Ending) (e : Ended) (a b c : Outer Origin) → e.ending ≡ x → EndingCounted wire x a b → Keeps part.Poller b c → EndingCounted wire e.ending a c
  ended-counted wire x e a b c is counted k =
      let C : Ending → Type 0 = λ y. EndingCounted wire y a c in
      subst C (sym is) (ending-within wire x a a b c (rises-same wire a) (rises-visit wire b c (poller-in-visit wire b c k)) counted)

  -- the dialling opened nothing
  pub unconnected-counted : (wire : ℕ) (reached : Reached) (failure : Ending) (e : Ended) (a b : Outer Origin) →
      reached.dialled ≡ dialleds.Failed failure → e.ending ≡ failure → DialCounted wire reached.dialled a b →
      EndingCounted wire e.ending a b
  unconnected-counted wire reached failure e a b failed is counted =
      let C : Ending → Type 0 = λ y. EndingCounted wire y a b in
      let D : Dialled → Type 0 = λ d. DialCounted wire d a b in
      subst C (sym is) (subst D failed counted).1

  -- a dialling that fails doesn't leave the session waiting
  pub failure-awake : (wire : ℕ) (reached : Reached) (failure : Ending) (a b : Outer Origin) →
      reached.dialled ≡ dialleds.Failed failure → DialCounted wire reached.dialled a b → is_awake failure ≡ true
  failure-awake wire reached failure a b failed counted =
      let D : Dialled → Type 0 = λ d. DialCounted wire d a b in (subst D failed counted).0

  -- a visit's slot, from before the calls that led to it
  pub slot-after : (wire : ℕ) (s : Slot) (a b c : Outer Origin) → Keeps (part.Visit wire) a b → SlotCounted wire s b c → SlotCounted wire s a c
  slot-after wire s a b c k counted = slot-within wire s a b c c (rises-visit wire a b k) (rises-same wire c) counted
