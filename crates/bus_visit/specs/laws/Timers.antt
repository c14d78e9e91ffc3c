-- What the timers' operations leave of a core.
use Rattle.std.proofs.Common.{◌≡◌, ◌+◌, ◌<◌, ◌^◌, ℕ, Bool, true, false, nat_lt, if◌then◌else◌, List, [], ◌∷◌, ◌++◌}
use Rattle.std.proofs.Common.{length, Option, Some, None, refl, sym, ◌∙◌, ap}
use Rattle.react_core.specs.Core.{Core, timers_applied}
use Rattle.react_core.specs.Timing.{queue_applied, queued, with_place, drawn, timer_inserted, timer_removed}
use Rattle.react_timers.specs.declared.timer.LiveTimer.{LiveTimer}
use Rattle.react_timers.specs.declared.timer.TimerOp.{TimerOp}
use Rattle.react_timers.specs.declared.timer.TimerOp.TheVariants.{Insert, Remove}
use Rattle.react_timers.specs.Live.{applied, applied_all, added, without}
use Rattle.bus_visit.specs.Shown.{IsBetweenCalls}
use Rattle.bus_visit.specs.declared.timing.Limit.{Limit}
use Rattle.bus_visit.specs.Timed.{timed_by, forgotten_by, forgotten}

-- what the applying of the queue leaves, making a place in it does
pub same-placed : {X : Type 0} (f : Core → X) (core : Core) → f (queue_applied core) ≡ f core →
    f (with_place core) ≡ f core
same-placed f core same = go (nat_lt (length core.queue) 1000) where
  go : (b : Bool) → f (if b then core else queue_applied core) ≡ f core
  go true = refl
  go false = same

applied_all-append : (timers : List LiveTimer) (ops more : List TimerOp) →
    applied_all timers (ops ++ more) ≡ applied_all (applied_all timers ops) more
applied_all-append timers [] more = refl
applied_all-append timers (op ∷ ops) more = applied_all-append (applied timers op) ops more

queued-applied : (core : Core) (op : TimerOp) → timers_applied (queued core op) ≡ applied (timers_applied core) op
queued-applied core op = applied_all-append core.timers core.queue (op ∷ [])

-- ---- an insertion

pub inserted-sources : (core : Core) (when task : ℕ) → (timer_inserted core when task).sources ≡ core.sources
inserted-sources core when task = same-placed (λ c. c.sources) (drawn core) refl

pub inserted-ticker : (core : Core) (when task : ℕ) → (timer_inserted core when task).ticker ≡ core.ticker
inserted-ticker core when task = same-placed (λ c. c.ticker) (drawn core) refl

pub inserted-hands : (core : Core) (when task : ℕ) → (timer_inserted core when task).hands ≡ core.hands
inserted-hands core when task = same-placed (λ c. c.hands) (drawn core) refl

pub inserted-begun : (core : Core) (when task : ℕ) → (timer_inserted core when task).begun ≡ core.begun
inserted-begun core when task = same-placed (λ c. c.begun) (drawn core) refl

pub inserted-made : (core : Core) (when task : ℕ) → (timer_inserted core when task).made ≡ core.made + 1
inserted-made core when task = same-placed (λ c. c.made) (drawn core) refl

pub inserted-timers : (core : Core) (when task : ℕ) →
    timers_applied (timer_inserted core when task)
    ≡ added (record { number = core.made + 1; when = when; task = task }) (timers_applied core)
inserted-timers core when task =
    queued-applied (with_place (drawn core)) (Insert when (core.made + 1) task)
    ∙ ap (added (record { number = core.made + 1; when = when; task = task }))
    (same-placed timers_applied (drawn core) refl)

-- ---- a removal

pub removed-sources : (core : Core) (when number : ℕ) → (timer_removed core when number).sources ≡ core.sources
removed-sources core when number = same-placed (λ c. c.sources) core refl

pub removed-ticker : (core : Core) (when number : ℕ) → (timer_removed core when number).ticker ≡ core.ticker
removed-ticker core when number = same-placed (λ c. c.ticker) core refl

pub removed-hands : (core : Core) (when number : ℕ) → (timer_removed core when number).hands ≡ core.hands
removed-hands core when number = same-placed (λ c. c.hands) core refl

pub removed-begun : (core : Core) (when number : ℕ) → (timer_removed core when number).begun ≡ core.begun
removed-begun core when number = same-placed (λ c. c.begun) core refl

pub removed-made : (core : Core) (when number : ℕ) → (timer_removed core when number).made ≡ core.made
removed-made core when number = same-placed (λ c. c.made) core refl

pub removed-timers : (core : Core) (when number : ℕ) →
    timers_applied (timer_removed core when number) ≡ without when number (timers_applied core)
removed-timers core when number =
    queued-applied (with_place core) (Remove when number)
    ∙ ap (without when number) (same-placed timers_applied core refl)

-- ---- what stands between two calls

pub rests-as : (old new : Core) → new.sources ≡ old.sources → new.ticker ≡ old.ticker → new.hands ≡ old.hands →
    new.begun ≡ old.begun → IsBetweenCalls old → IsBetweenCalls new
rests-as old new sources ticker hands begun rests = record {
  sane = rw (sources, ticker) rests.sane;
  distinct = rw sources rests.distinct;
  idle = hands ∙ rests.idle;
  fits = rw begun rests.fits;
}

pub rests-inserted : (core : Core) (when task : ℕ) → IsBetweenCalls core → IsBetweenCalls (timer_inserted core when task)
rests-inserted core when task rests =
    rests-as core (timer_inserted core when task) (inserted-sources core when task) (inserted-ticker core when task)
    (inserted-hands core when task) (inserted-begun core when task) rests

pub rests-timed : (number : Option ℕ) (deadline wire : ℕ) (core : Core) → IsBetweenCalls core →
    IsBetweenCalls (timed_by number deadline wire core)
rests-timed None deadline wire core rests = rests-inserted core deadline wire rests
rests-timed (Some number) deadline wire core rests = rests

pub rests-forgotten_by : (number : Option ℕ) (deadline : ℕ) (core : Core) → IsBetweenCalls core →
    IsBetweenCalls (forgotten_by number deadline core)
rests-forgotten_by None deadline core rests = rests
rests-forgotten_by (Some number) deadline core rests =
    rests-as core (timer_removed core deadline number) (removed-sources core deadline number)
    (removed-ticker core deadline number) (removed-hands core deadline number) (removed-begun core deadline number) rests

pub rests-forgotten : (limit : Option Limit) (core : Core) → IsBetweenCalls core → IsBetweenCalls (forgotten limit core)
rests-forgotten None core rests = rests
rests-forgotten (Some limit) core rests = rests-forgotten_by limit.number limit.deadline core rests

-- a field that neither an insertion nor a removal changes
pub timed-same : {X : Type 0} (f : Core → X) (number : Option ℕ) (deadline wire : ℕ) (core : Core) →
    f (timer_inserted core deadline wire) ≡ f core → f (timed_by number deadline wire core) ≡ f core
timed-same f None deadline wire core same = same
timed-same f (Some number) deadline wire core same = refl

forgotten_by-same : {X : Type 0} (f : Core → X) (number : Option ℕ) (deadline : ℕ) (core : Core) →
    ((n : ℕ) → f (timer_removed core deadline n) ≡ f core) → f (forgotten_by number deadline core) ≡ f core
forgotten_by-same f None deadline core same = refl
forgotten_by-same f (Some number) deadline core same = same number

pub forgotten-same : {X : Type 0} (f : Core → X) (limit : Option Limit) (core : Core) →
    ((deadline n : ℕ) → f (timer_removed core deadline n) ≡ f core) → f (forgotten limit core) ≡ f core
forgotten-same f None core same = refl
forgotten-same f (Some limit) core same =
    forgotten_by-same f limit.number limit.deadline core (λ n. same limit.deadline n)

pub timed-sources : (number : Option ℕ) (deadline wire : ℕ) (core : Core) →
    (timed_by number deadline wire core).sources ≡ core.sources
timed-sources number deadline wire core =
    timed-same (λ c. c.sources) number deadline wire core (inserted-sources core deadline wire)

pub forgotten-sources : (limit : Option Limit) (core : Core) → (forgotten limit core).sources ≡ core.sources
forgotten-sources limit core = forgotten-same (λ c. c.sources) limit core (λ d n. removed-sources core d n)
