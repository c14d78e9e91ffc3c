-- How often a poll asks the wire.
use Rattle.std.proofs.Common.{◌≡◌, ◌++◌, ℕ, Bool, true, false, List, [], Option, Some, None, Result, Ok, Err, filter, refl, sym, ap, ◌∙◌, subst}
use Rattle.std.proofs.lemmas.List.{append-nil}
use Rattle.std.proofs.lemmas.List.Elements.{filter-append}
use Rattle.std.specs.Prelude.{if◌then◌else◌}
use Rattle.futures.specs.declared.task.Poll.{Poll}
use Rattle.futures.specs.declared.task.Poll.TheVariants.{Pending}
use Rattle.react_core.specs.declared.outside.Event.{Event}
use Rattle.react_core.specs.declared.outside.Fault.{Fault}
use Rattle.react_core.specs.declared.outside.Fault.TheVariants as fault
use Rattle.react_core.specs.declared.outside.Received.{Received}
use Rattle.react_core.specs.declared.outside.Received.TheVariants as received
use Rattle.react_core.specs.declared.outside.Sent.{Sent}
use Rattle.react_core.specs.declared.outside.Sent.TheVariants as sent
use Rattle.react_core.specs.declared.reactor.Dir.{Dir}
use Rattle.react_core.specs.declared.reactor.ReactError.{ReactError}
use Rattle.react_core.specs.declared.reactor.ReactError.TheVariants.{Poller, OutOfMemory, Exhausted}
use Rattle.react_core.specs.Places.{Source}
use Rattle.react_core.specs.Core.{Core}
use Rattle.react_core.specs.Sources.{source_of}
use Rattle.react_core.specs.Readiness.{fresh, arms, armed, poll_outcome, poll_told}
use Rattle.react_core.specs.Told.{told, told-told}
use Rattle.react_async.specs.Polls.{Asking, Standing, Ending, Answered, Waits, Refused, Course, Once, Again, Ends, Goes, reading, writing}
use Rattle.react_async.specs.Telling.{asks_wire, AtMostTwice, AsksAtMostTwice}

-- one call of the wire tells at most one event, which is of the wire
pub record IsCalled {A : Type 0} (a : Asking A) : Type 0 where
  pub each : (answer : Result A Fault) → filter asks_wire (a.tells answer) ≡ a.tells answer
  pub one : (ready : Bool) (first : List Event) (answer : Result A Fault) → AtMostTwice ready first (a.tells answer)
  pub two : (answer : Result A Fault) → AtMostTwice true (a.tells (Ok a.not_ready)) (a.tells (Ok a.not_ready) ++ a.tells answer)

module _ (key wire task : ℕ) (bytes : List ℕ) where
  pub reading-called : IsCalled (reading key wire task bytes)
  reading-called = record { each = each; one = one; two = two }
    where
      each : (answer : Result Received Fault) → filter asks_wire ((reading key wire task bytes).tells answer) ≡ (reading key wire task bytes).tells answer
      each (Ok (received.Got n)) = refl
      each (Ok received.End) = refl
      each (Ok received.NotReady) = refl
      each (Err fault.Failed) = refl
      each (Err fault.OutOfMemory) = refl

      one : (ready : Bool) (first : List Event) (answer : Result Received Fault) → AtMostTwice ready first ((reading key wire task bytes).tells answer)
      one ready first (Ok (received.Got n)) = tt
      one ready first (Ok received.End) = tt
      one ready first (Ok received.NotReady) = tt
      one ready first (Err fault.Failed) = tt
      one ready first (Err fault.OutOfMemory) = tt

      two : (answer : Result Received Fault) → AtMostTwice true ((reading key wire task bytes).tells (Ok received.NotReady))
          ((reading key wire task bytes).tells (Ok received.NotReady) ++ (reading key wire task bytes).tells answer)
      two (Ok (received.Got n)) = (refl, refl)
      two (Ok received.End) = (refl, refl)
      two (Ok received.NotReady) = (refl, refl)
      two (Err fault.Failed) = (refl, refl)
      two (Err fault.OutOfMemory) = tt

  pub writing-called : IsCalled (writing key wire task bytes)
  writing-called = record { each = each; one = one; two = two }
    where
      each : (answer : Result Sent Fault) → filter asks_wire ((writing key wire task bytes).tells answer) ≡ (writing key wire task bytes).tells answer
      each (Ok (sent.Took n)) = refl
      each (Ok sent.NotReady) = refl
      each (Err fault.Failed) = refl
      each (Err fault.OutOfMemory) = refl

      one : (ready : Bool) (first : List Event) (answer : Result Sent Fault) → AtMostTwice ready first ((writing key wire task bytes).tells answer)
      one ready first (Ok (sent.Took n)) = tt
      one ready first (Ok sent.NotReady) = tt
      one ready first (Err fault.Failed) = tt
      one ready first (Err fault.OutOfMemory) = tt

      two : (answer : Result Sent Fault) → AtMostTwice true ((writing key wire task bytes).tells (Ok sent.NotReady))
          ((writing key wire task bytes).tells (Ok sent.NotReady) ++ (writing key wire task bytes).tells answer)
      two (Ok (sent.Took n)) = (refl, refl)
      two (Ok sent.NotReady) = (refl, refl)
      two (Err fault.Failed) = (refl, refl)
      two (Err fault.OutOfMemory) = tt

-- ---- a readiness poll asks no wire

armed-silent : (s : Option Source) (key : ℕ) (dir : Dir) (ok : Bool) → filter asks_wire (armed s key dir ok) ≡ []
armed-silent None key dir ok = refl
armed-silent (Some s) key dir ok = refl

if-silent : (b : Bool) (xs : List Event) → filter asks_wire xs ≡ [] → filter asks_wire (if b then xs else []) ≡ []
if-silent true xs silent = silent
if-silent false xs silent = refl

poll-silent : (core : Core) (key : ℕ) (dir : Dir) (task : ℕ) (result : Result (Poll (Unit {0})) ReactError) →
    filter asks_wire (poll_told core key dir task result) ≡ []
poll-silent core key dir task (Ok p) = if-silent (arms (poll_outcome core key dir task)) _ (armed-silent (source_of core.sources key) key dir true)
poll-silent core key dir task (Err Poller) = armed-silent (source_of core.sources key) key dir false
poll-silent core key dir task (Err OutOfMemory) = refl
poll-silent core key dir task (Err (Exhausted counter value)) = refl

module _ {A W : Type 0} (woke : W → ℕ → W → Type 0) (a : Asking A) (called : IsCalled a) where
  -- what is told until the end, with one call of the wire
  EndTold : Option (List Event) → Option (List Event) → Type 0
  EndTold before after = (gained : List Event) × (answer : Result A Fault) × (after ≡ told before gained) × (filter asks_wire gained ≡ a.tells answer)

  beside : (core : Core) (result : Result (Poll (Unit {0})) ReactError) →
      filter asks_wire (a.tells (Ok a.not_ready) ++ poll_told core a.key a.dir a.task result) ≡ a.tells (Ok a.not_ready)
  beside core result =
      filter-append asks_wire (a.tells (Ok a.not_ready)) (poll_told core a.key a.dir a.task result)
      ∙ ap (λ xs. filter asks_wire (a.tells (Ok a.not_ready)) ++ xs) (poll-silent core a.key a.dir a.task result)
      ∙ append-nil (filter asks_wire (a.tells (Ok a.not_ready))) ∙ called.each (Ok a.not_ready)

  end-told : (old new : Standing W) (result : Result (Poll (Result A Fault)) ReactError) (ending : Ending A) → Ends woke a old new result ending →
      EndTold old.events new.events
  unfolding EndTold
  end-told old new result (Answered answer) ends = (a.tells answer, answer, ends.gained, called.each answer)
  end-told old new result Waits ends = (_, Ok a.not_ready, ends.gained, beside old.core (Ok Pending))
  end-told old new result (Refused e) ends = (_, Ok a.not_ready, ends.gained, beside old.core (Err e))

  course-told : (old new : Standing W) (result : Result (Poll (Result A Fault)) ReactError) (course : Course A) → Goes woke a old new result course →
      AsksAtMostTwice (fresh old.core a.key a.dir) (a.tells (Ok a.not_ready)) old.events new.events
  unfolding EndTold
  course-told old new result (Once ending) goes =
      let end = end-told old new result ending goes in
      let Few : List Event → Type 0 = λ xs. AtMostTwice (fresh old.core a.key a.dir) (a.tells (Ok a.not_ready)) xs in
      (end.0, end.2, subst Few (sym end.3) (called.one _ _ end.1))
  course-told old new result (Again ending) goes =
      let end = end-told goes.mid new result ending goes.ends in
      let first = a.tells (Ok a.not_ready) in
      let Few : List Event → Type 0 = λ xs. AtMostTwice (fresh old.core a.key a.dir) first xs in
      let When : Bool → Type 0 = λ ready. AtMostTwice ready first (first ++ a.tells end.1) in
      let both : filter asks_wire (first ++ end.0) ≡ first ++ a.tells end.1 =
      filter-append asks_wire first end.0 ∙ ap (λ xs. xs ++ filter asks_wire end.0) (called.each (Ok a.not_ready)) ∙ ap (λ xs. first ++ xs) end.3 in (
        first ++ end.0,
        end.2 ∙ ap (λ r. told r end.0) goes.gained ∙ told-told old.events first end.0,
        subst Few (sym both) (subst When (sym goes.fresh) (called.two end.1)),
      )

  pub asks-twice : (old new : Standing W) (result : Result (Poll (Result A Fault)) ReactError) → (course : Course A) × Goes woke a old new result course →
      AsksAtMostTwice (fresh old.core a.key a.dir) (a.tells (Ok a.not_ready)) old.events new.events
  asks-twice old new result goes = course-told old new result goes.0 goes.1
