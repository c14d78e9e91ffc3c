-- How a poll goes, from the calls that it makes.
use Rattle.std.proofs.Common.{◌≡◌, ◌≢◌, ℕ, false, List, Option, Result, Ok, Err, refl, sym, ap, ◌∙◌, subst}
use Rattle.std.specs.Prelude.{IsTrue}
use Rattle.futures.specs.declared.task.Poll.{Poll}
use Rattle.futures.specs.declared.task.Poll.TheVariants.{Ready, Pending}
use Rattle.react_core.specs.declared.outside.Event.{Event}
use Rattle.react_core.specs.declared.outside.Fault.{Fault}
use Rattle.react_core.specs.declared.outside.Received.{Received}
use Rattle.react_core.specs.declared.outside.Received.TheVariants as received
use Rattle.react_core.specs.declared.outside.Sent.{Sent}
use Rattle.react_core.specs.declared.outside.Sent.TheVariants as sent
use Rattle.react_core.specs.declared.reactor.ReactError.{ReactError}
use Rattle.react_core.specs.Core.{Core}
use Rattle.react_core.specs.Readiness.{Outcome, Fires, fresh, arms, woken_by, poll_outcome, poll_told, is_ready}
use Rattle.react_core.specs.Step.{Step, PolledPoll, Polled, WokeAll}
use Rattle.react_core.specs.Told.{told, told-told, told-nothing}
use Rattle.react_async.specs.Polls.{Asking, Standing, Ending, Answered, Waits, Refused, Course, Once, Again, Ends, Goes, IsRead, IsWritten}
use Rattle.react_async.proofs.Sources.{fires-ready}

pub read-answers : (asked : ℕ) (answer : Result Received Fault) → IsRead asked answer → answer ≢ Ok received.NotReady
read-answers asked (Ok (received.Got n)) is e = cc
read-answers asked (Ok received.End) is e = cc
read-answers asked (Ok received.NotReady) is e = is
read-answers asked (Err f) is e = cc

pub written-answers : (offered : ℕ) (answer : Result Sent Fault) → IsWritten offered answer → answer ≢ Ok sent.NotReady
written-answers offered (Ok (sent.Took n)) is e = cc
written-answers offered (Ok sent.NotReady) is e = is
written-answers offered (Err f) is e = cc

pub pending-is : (p : Poll (Unit {0})) → is_ready p ≡ false → p ≡ Pending
pending-is (Ready u) unready = absurd (cc)
pending-is Pending unready = refl

module _ {A W : Type 0} (woke : W → ℕ → W → Type 0) (a : Asking A) where
  pub ends-answered : (old new : Standing W) (answer : Result A Fault) → answer ≢ Ok a.not_ready → new.events ≡ told old.events (a.tells answer) →
      new.core ≡ old.core → new.wakes ≡ old.wakes → (ending : Ending A) × Ends woke a old new (Ok (Ready answer)) ending
  ends-answered old new answer answered gained core wakes =
      (Answered answer, record { answered = answered; answers = refl; gained = gained; core = core; wakes = wakes })

  pub ends-waiting : (old new : Standing W) (mid : Option (List Event)) (p : Poll (Unit {0})) → fresh old.core a.key a.dir ≡ false → p ≡ Pending →
      mid ≡ told old.events (a.tells (Ok a.not_ready)) → new.events ≡ told mid (poll_told old.core a.key a.dir a.task (Ok p)) →
      Step old.core (PolledPoll a.key a.dir a.task) (Polled p) (woken_by (poll_outcome old.core a.key a.dir a.task)) new.core →
      WokeAll woke old.wakes (woken_by (poll_outcome old.core a.key a.dir a.task)) new.wakes → (ending : Ending A) × Ends woke a old new (Ok Pending) ending
  ends-waiting old new mid p unready is first then step wakes =
      let StepOf : Poll (Unit {0}) → Type 0 = λ q. Step old.core (PolledPoll a.key a.dir a.task) (Polled q) (woken_by (poll_outcome old.core a.key a.dir a.task)) new.core in (
        Waits,
        record {
          unready = unready;
          answers = refl;
          gained = then ∙ ap (λ q. told mid (poll_told old.core a.key a.dir a.task (Ok q))) is
              ∙ ap (λ r. told r (poll_told old.core a.key a.dir a.task (Ok Pending))) first ∙ told-told old.events _ _;
          step = subst StepOf is step;
          wakes = wakes;
        },
      )

  pub ends-refused : (old new : Standing W) (mid : Option (List Event)) (result : Result (Poll (Result A Fault)) ReactError) (e : ReactError) →
      result ≡ Err e → IsTrue (arms (poll_outcome old.core a.key a.dir a.task)) → mid ≡ told old.events (a.tells (Ok a.not_ready)) →
      new.events ≡ told mid (poll_told old.core a.key a.dir a.task (Err e)) → new.core ≡ old.core → new.wakes ≡ old.wakes →
      (ending : Ending A) × Ends woke a old new result ending
  ends-refused old new mid result e is arms first then core wakes = (
    Refused e,
    record {
      arms = arms;
      answers = is;
      gained = then ∙ ap (λ r. told r (poll_told old.core a.key a.dir a.task (Err e))) first ∙ told-told old.events _ _;
      core = core;
      wakes = wakes;
    },
  )

  pub goes-once : (old new : Standing W) (result : Result (Poll (Result A Fault)) ReactError) → (ending : Ending A) × Ends woke a old new result ending →
      (course : Course A) × Goes woke a old new result course
  goes-once old new result ends = (Once ends.0, ends.1)

  pub goes-again : (old mid new : Standing W) (asked : Option (List Event)) (result : Result (Poll (Result A Fault)) ReactError) → IsTrue (fresh old.core a.key a.dir) →
      asked ≡ told old.events (a.tells (Ok a.not_ready)) → mid.events ≡ told asked (poll_told old.core a.key a.dir a.task (Ok (Ready tt))) →
      Step old.core (PolledPoll a.key a.dir a.task) (Polled (Ready tt)) (woken_by (poll_outcome old.core a.key a.dir a.task)) mid.core →
      WokeAll woke old.wakes (woken_by (poll_outcome old.core a.key a.dir a.task)) mid.wakes → (ending : Ending A) × Ends woke a mid new result ending →
      (course : Course A) × Goes woke a old new result course
  goes-again old mid new asked result ready first then step wakes ends =
      let fired : poll_outcome old.core a.key a.dir a.task ≡ Fires = fires-ready old.core a.key a.dir a.task step.answered in
      let StepOf : Outcome → Type 0 = λ o. Step old.core (PolledPoll a.key a.dir a.task) (Polled (Ready tt)) (woken_by o) mid.core in
      let WokeOf : Outcome → Type 0 = λ o. WokeAll woke old.wakes (woken_by o) mid.wakes in (
        Again ends.0,
        record {
          fresh = ready;
          mid = mid;
          gained = then ∙ ap (λ r. told r (poll_told old.core a.key a.dir a.task (Ok (Ready tt)))) first
              ∙ quiet old.core (told old.events (a.tells (Ok a.not_ready))) (poll_outcome old.core a.key a.dir a.task) refl fired;
          step = subst StepOf fired step;
          wakes = subst WokeOf fired wakes;
          ends = ends.1;
        },
      )
    where
      quiet : (core : Core) (r : Option (List Event)) (o : Outcome) → poll_outcome core a.key a.dir a.task ≡ o → o ≡ Fires →
          told r (poll_told core a.key a.dir a.task (Ok (Ready tt))) ≡ r
      quiet core r o is fired = rw (is ∙ fired) (sym (told-nothing r))
