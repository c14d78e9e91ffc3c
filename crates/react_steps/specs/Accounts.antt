-- What became of each poll that was Pending. Lists of steps have the last step first.
use Rattle.std.specs.Prelude.{◌≡◌, ◌⊎◌, ℕ, Bool, true, false, ◌||◌, ◌==◌, List, [], ◌∷◌, ◌++◌, Option, Some, None}
use Rattle.react_core.specs.declared.outside.Report.{Report}
use Rattle.react_core.specs.declared.reactor.Dir.{Dir}
use Rattle.react_core.specs.declared.reactor.Dir.TheVariants.{Read, Write}
use Rattle.react_core.specs.Core.{Core}
use Rattle.react_core.specs.Futures.{direction_at}
use Rattle.react_core.specs.Keyed.{at_key}
use Rattle.react_core.specs.Places.{Entry, Direction}
use Rattle.react_core.specs.Readiness.{stored_task}
use Rattle.react_steps.specs.declared.armed.Armed.{Armed}
use Rattle.react_steps.specs.declared.kind.Answer.{Answer}
use Rattle.react_steps.specs.declared.kind.Answer.TheVariants.{Ready, Pending, Begun, Done, Failed}
use Rattle.react_steps.specs.declared.kind.Taken.{Taken}
use Rattle.react_steps.specs.Sights.{Place, ThePolled, OfFuture, Spot, Sight, ReadyThere, PendingThere, GivenUp}
use Rattle.react_steps.specs.Sights.{NewSource, SourceGone, RoundBegins, WaitReturns, RoundEnds, Elsewhere, sight}
use Rattle.react_steps.specs.Sights.{names}
use Rattle.react_steps.specs.World.{World}

-- ---- what the world stores

abbrev pub entry_at : Place → Direction → Option Entry
entry_at ThePolled d = d.polled
entry_at (OfFuture n) d = at_key d.futures n

-- the task that is stored there
abbrev pub stored_at : Core → Spot → Option ℕ
stored_at core q = stored_task (entry_at q.place (direction_at core q.key q.dir))

-- ---- what accounts for a poll

abbrev pub contains : ℕ → List ℕ → Bool
contains task [] = false
contains task (other ∷ tasks) = other == task || contains task tasks

-- the polled place counts as polled again for the same task alone
abbrev pub polled_again : Place → ℕ → ℕ → Bool
polled_again ThePolled task other = other == task
polled_again (OfFuture n) task other = true

abbrev pub follows : Place → ℕ → Sight → Bool
follows place task (ReadyThere other) = polled_again place task other
follows place task (PendingThere other) = polled_again place task other
follows place task GivenUp = true
follows place task NewSource = false
follows place task SourceGone = true
follows place task RoundBegins = false
follows place task (WaitReturns named) = false
follows place task RoundEnds = false
follows place task Elsewhere = false

-- one of these steps woke the task, polled the place again, gave it up or removed the source
abbrev pub is_followed : Spot → ℕ → List Taken → Bool
is_followed q task [] = false
is_followed q task (t ∷ earlier) =
    (contains task t.woken || follows q.place task (sight q t)) || is_followed q task earlier

-- ---- what is armed

abbrev pub armed_in : Dir → Option Armed → Bool
armed_in dir None = false
armed_in Read (Some a) = a.read
armed_in Write (Some a) = a.write

abbrev pub named_in : Option (List Report) → ℕ → Dir → Bool
named_in None key dir = false
named_in (Some reports) key dir = names reports key dir

abbrev pub is_failed : Answer → Bool
is_failed Ready = false
is_failed Pending = false
is_failed (Begun begun) = false
is_failed Done = false
is_failed Failed = true

-- no call of the poller failed
abbrev pub NoneFailed : List Taken → Type 0
NoneFailed [] = Unit {0}
NoneFailed (t ∷ earlier) = (is_failed t.answer ≡ false) × NoneFailed earlier

-- after these steps, which lead to this world
pub record Accounted (steps : List Taken) (world : World) : Type 0 where
  -- each poll that was Pending has its task stored, or a later step accounts for it
  pub polls : (later earlier : List Taken) (t : Taken) (q : Spot) (task : ℕ) → steps ≡ later ++ t ∷ earlier →
      sight q t ≡ PendingThere task → (is_followed q task later ≡ true) ⊎ (stored_at world.core q ≡ Some task)
  -- where no call of the poller failed, the direction of each task that is stored is armed, or named by the reports
  -- with which the open round's wait returned
  pub armed : NoneFailed steps → (q : Spot) (task : ℕ) → stored_at world.core q ≡ Some task →
      (armed_in q.dir (at_key world.armed q.key) || named_in world.returned q.key q.dir) ≡ true
