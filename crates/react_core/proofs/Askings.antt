-- What a poll of readiness does, by its direction.
use Rattle.std.proofs.Common.{◌≡◌, ◌+◌, ◌-◌, ◌^◌, ℕ, Bool, true, false, List, [], ◌∷◌, Option, Some, None, Result, Ok, Err, refl, sym, ap, ◌∙◌}
use Rattle.std.specs.Prelude.{if◌then◌else◌, min, ◌==◌}
use Rattle.std.specs.Option.{option_to_list}
use Rattle.futures.specs.declared.task.Poll.{Poll}
use Rattle.react_core.specs.declared.interest.Asked.{Asked}
use Rattle.react_core.specs.declared.interest.Asked.TheVariants as asked
use Rattle.react_core.specs.declared.reactor.Dir.{Dir}
use Rattle.react_core.specs.declared.reactor.Dir.TheVariants.{Read, Write}
use Rattle.react_core.specs.declared.reactor.ReactError.{ReactError}
use Rattle.react_core.specs.declared.reactor.ReactError.TheVariants.{Poller, OutOfMemory, Exhausted}
use Rattle.react_core.specs.Asking.{arming_for, ask_told, first_task, asked_of, after_outcome, after_direction}
use Rattle.react_core.specs.Core.{Core}
use Rattle.react_core.specs.Places.{Direction, Source}
use Rattle.react_core.specs.Readiness.{Outcome, Fires, Stays, Begins, fresh, fresh_at, fresh_of, stored_task, waiting_outcome, direction_outcome, source_outcome}
use Rattle.react_core.specs.Readiness.{poll_outcome, poll_answer, is_ready, woken_by, arms, after_source_poll, after_poll, poll_told}
use Rattle.react_core.specs.Reports.{Arming}
use Rattle.react_core.specs.Sources.{source_of, with_source, side, with_side, some_task}
use Rattle.react_core.proofs.Totals.{with_at-same}

-- ---- the outcome

pub as-fires : (o : Outcome) → asked_of o ≡ asked.Fires → o ≡ Fires
as-fires Fires is = refl
as-fires Stays is = absurd (cc)
as-fires (Begins tasks arms) is = absurd (cc)

pub as-stays : (o : Outcome) → asked_of o ≡ asked.Stays → o ≡ Stays
as-stays Fires is = absurd (cc)
as-stays Stays is = refl
as-stays (Begins tasks arms) is = absurd (cc)

pub as-begins : (o : Outcome) (stored : Option ℕ) → asked_of o ≡ asked.Begins stored → (tasks : List ℕ) × (arms : Bool) × (o ≡ Begins tasks arms) × (first_task tasks ≡ stored)
as-begins Fires stored is = absurd (cc)
as-begins Stays stored is = absurd (cc)
as-begins (Begins tasks arms) stored is = (tasks, arms, refl, let same : first_task tasks ≡ stored = cc in same)

few-waiting : (task : ℕ) (armed : Bool) (stored : Option ℕ) → woken_by (waiting_outcome task armed stored) ≡ option_to_list (first_task (woken_by (waiting_outcome task armed stored)))
few-waiting task armed None = refl
few-waiting task armed (Some stored) = either (stored == task)
  where
    either : (b : Bool) → woken_by (if b then Stays else Begins (stored ∷ []) false) ≡ option_to_list (first_task (woken_by (if b then Stays else Begins (stored ∷ []) false)))
    either true = refl
    either false = refl

few-outcome : (b : Bool) (o : Outcome) → woken_by o ≡ option_to_list (first_task (woken_by o)) → woken_by (if b then Fires else o) ≡ option_to_list (first_task (woken_by (if b then Fires else o)))
few-outcome true o few = refl
few-outcome false o few = few

-- a poll wakes one task at most
pub few-woken : (task : ℕ) (d : Direction) → woken_by (direction_outcome task d) ≡ option_to_list (first_task (woken_by (direction_outcome task d)))
few-woken task d = few-outcome (fresh_at d.reported d.polled) _ (few-waiting task (some_task d.futures) (stored_task d.polled))

pending-waiting : (task : ℕ) (armed : Bool) (stored : Option ℕ) → is_ready (poll_answer (waiting_outcome task armed stored)) ≡ false
pending-waiting task armed None = refl
pending-waiting task armed (Some stored) = either (stored == task)
  where
    either : (b : Bool) → is_ready (poll_answer (if b then Stays else Begins (stored ∷ []) false)) ≡ false
    either true = refl
    either false = refl

ready-outcome : (b : Bool) (o : Outcome) → is_ready (poll_answer o) ≡ false → is_ready (poll_answer (if b then Fires else o)) ≡ b
ready-outcome true o pending = refl
ready-outcome false o pending = pending

-- it is ready where the interest is fresh
pub ready-fresh : (task : ℕ) (d : Direction) → is_ready (poll_answer (direction_outcome task d)) ≡ fresh_at d.reported d.polled
ready-fresh task d = ready-outcome (fresh_at d.reported d.polled) _ (pending-waiting task (some_task d.futures) (stored_task d.polled))

futures-outcome : (ticker task : ℕ) (d : Direction) (o : Outcome) → (after_outcome ticker task d o).futures ≡ d.futures
futures-outcome ticker task d Fires = refl
futures-outcome ticker task d Stays = refl
futures-outcome ticker task d (Begins tasks arms) = refl

-- it leaves the futures
pub futures-after_direction : (ticker task : ℕ) (d : Direction) → (after_direction ticker task d).futures ≡ d.futures
futures-after_direction ticker task d = futures-outcome ticker task d (direction_outcome task d)

-- how many interests were begun after a poll
abbrev pub begun_after : ℕ → Outcome → ℕ
begun_after begun Fires = begun
begun_after begun Stays = begun
begun_after begun (Begins tasks arms) = min (begun + 1) (2 ^ 64 - 1)

with_side-same : (dir : Dir) (s : Source) → with_side dir s (side dir s) ≡ s
with_side-same Read s = refl
with_side-same Write s = refl

-- ---- the poll of a key

module _ (core : Core) (key : ℕ) (dir : Dir) (task : ℕ) (s : Source) (found : source_of core.sources key ≡ Some s) where
  pub outcome-at : poll_outcome core key dir task ≡ direction_outcome task (side dir s)
  outcome-at = ap (λ o. source_outcome o dir task) found

  pub fresh-at : fresh core key dir ≡ is_ready (poll_answer (direction_outcome task (side dir s)))
  fresh-at = ap (λ o. fresh_of o dir) found ∙ sym (ready-fresh task (side dir s))

  after-is : (o : Outcome) → after_source_poll core key (Some s) dir task o ≡
      record core { sources = with_source core.sources key (with_side dir s (after_outcome core.ticker task (side dir s) o)); begun = begun_after core.begun o }
  after-is Fires = refl
  after-is Stays = sym (ap (λ ss. record core { sources = ss }) (ap (with_source core.sources key) (with_side-same dir s) ∙ with_at-same core.sources key s found))
  after-is (Begins tasks arms) = refl

  -- the core after it
  pub polled-core : (sources : List (ℕ × Source)) (begun : ℕ) → sources ≡ with_source core.sources key (with_side dir s (after_direction core.ticker task (side dir s))) →
      begun ≡ begun_after core.begun (direction_outcome task (side dir s)) → record core { sources = sources; begun = begun } ≡ after_poll core key dir task
  polled-core sources begun are is =
      ap (λ ss. record core { sources = ss; begun = begun }) are
      ∙ ap (λ n. record core { sources = with_source core.sources key (with_side dir s (after_direction core.ticker task (side dir s))); begun = n }) is
      ∙ sym (after-is (direction_outcome task (side dir s)))
      ∙ sym (ap (λ o. after_source_poll core key o dir task (source_outcome o dir task)) found)

  -- what is told of it
  poll-told : (answer : Result (Poll (Unit {0})) ReactError) → ask_told (arms (direction_outcome task (side dir s))) (arming_for key dir s) answer ≡ poll_told core key dir task answer
  poll-told (Ok u) = rw found refl
  poll-told (Err Poller) = rw found refl
  poll-told (Err OutOfMemory) = refl
  poll-told (Err (Exhausted counter value)) = refl

  module _ (d : Direction) (a : Arming) (at : d ≡ side dir s) (arming : a ≡ arming_for key dir s) where
    same-arms : arms (direction_outcome task d) ≡ arms (direction_outcome task (side dir s))
    same-arms = ap (λ x. arms (direction_outcome task x)) at

    pub told-polled : (answer : Poll (Unit {0})) → ask_told {T = Asked} (arms (direction_outcome task d)) a (Ok asked.Stays) ≡ poll_told core key dir task (Ok answer)
    told-polled answer =
        ap (λ b. ask_told {T = Asked} b a (Ok asked.Stays)) same-arms ∙ ap (λ x. ask_told {T = Asked} (arms (direction_outcome task (side dir s))) x (Ok asked.Stays)) arming
        ∙ poll-told (Ok answer)

    pub told-refused : (e : ReactError) → ask_told {T = Asked} (arms (direction_outcome task d)) a (Err e) ≡ poll_told core key dir task (Err e)
    told-refused e = ap (λ b. ask_told {T = Asked} b a (Err e)) same-arms ∙ ap (λ x. ask_told {T = Asked} (arms (direction_outcome task (side dir s))) x (Err e)) arming ∙ other e ∙ poll-told (Err e)
      where
        other : (e : ReactError) →
            ask_told {T = Asked} (arms (direction_outcome task (side dir s))) (arming_for key dir s) (Err e) ≡ ask_told {T = Poll (Unit {0})} (arms (direction_outcome task (side dir s)))
            (arming_for key dir s) (Err e)
        other Poller = refl
        other OutOfMemory = refl
        other (Exhausted counter value) = refl
