-- The world of all parties: the reactor's core with what stands around it, and the steps that any party may take.
use Rattle.std.specs.Prelude.{◌≡◌, ℕ, Bool, true, false, ◌&&◌, not, if◌then◌else◌, List, [], ◌∷◌, Option, Some, None}
use Rattle.futures.specs.declared.task.Poll.{Poll}
use Rattle.futures.specs.declared.task.Poll.TheVariants as poll
use Rattle.react_core.specs.declared.outside.Report.{Report}
use Rattle.react_core.specs.declared.reactor.Begun as reactor
use Rattle.react_core.specs.Core.{Core, new_core, HasSource}
use Rattle.react_core.specs.Futures.{asks, direction_at}
use Rattle.react_core.specs.Keyed.{at_key, with_at, with_new_at, without_at}
use Rattle.react_core.specs.Places.{Source}
use Rattle.react_core.specs.Readiness.{arms, poll_outcome}
use Rattle.react_core.specs.Reports.{Arming, arming_of, armings_by_all}
use Rattle.react_core.specs.Sources.{source_of}
use Rattle.react_core.specs.Step as core
use Rattle.react_steps.specs.declared.armed.Armed.{Armed}
use Rattle.react_steps.specs.declared.kind.Answer.{Answer}
use Rattle.react_steps.specs.declared.kind.Answer.TheVariants.{Ready, Pending, Begun, Done, Failed}
use Rattle.react_steps.specs.declared.kind.Kind.{Kind}
use Rattle.react_steps.specs.declared.kind.Kind.TheVariants.{Poll as PollPlace, PollFuture, Cancel, Insert, Remove}
use Rattle.react_steps.specs.declared.kind.Kind.TheVariants.{Begin, Returned, Finish}

pub record World : Type 0 where
  pub core : Core
  -- for each source, by rising key: the directions in which the poller is to report it once
  pub armed : List (ℕ × Armed)
  -- a notice has come that no wait has taken yet
  pub notice : Bool
  -- the reports with which the open round's wait returned, where it has
  pub returned : Option (List Report)

-- the world with nothing in it
abbrev pub idle : World
idle = record { core = new_core 0 0; armed = []; notice = false; returned = None }

-- ---- the armed directions

abbrev pub unarmed : Armed
unarmed = record { read = false; write = false }

-- an arming names all directions of its key in place of those that it named before
abbrev pub with_armings : List (ℕ × Armed) → List Arming → List (ℕ × Armed)
with_armings armed [] = armed
with_armings armed (a ∷ armings) =
    with_armings (with_at armed a.key (record { read = a.read; write = a.write })) armings

-- the arming of all directions of a source that a task waits for, where there is one
abbrev pub armings_of : ℕ → Option Source → List Arming
armings_of key None = []
armings_of key (Some s) = arming_of key s

abbrev pub armed_at_key : Core → ℕ → List (ℕ × Armed) → List (ℕ × Armed)
armed_at_key core key armed = with_armings armed (armings_of key (source_of core.sources key))

abbrev pub less : Report → Armed → Armed
less r a = record { read = a.read && not r.read; write = a.write && not r.write }

abbrev pub without_report_of : List (ℕ × Armed) → Report → Option Armed → List (ℕ × Armed)
without_report_of armed r None = armed
without_report_of armed r (Some a) = with_at armed r.key (less r a)

-- a report ends the arming of the directions that it names
abbrev pub without_report : List (ℕ × Armed) → Report → List (ℕ × Armed)
without_report armed r = without_report_of armed r (at_key armed r.key)

abbrev pub without_reports : List (ℕ × Armed) → List Report → List (ℕ × Armed)
without_reports armed [] = armed
without_reports armed (r ∷ reports) = without_reports (without_report armed r) reports

-- the armings that are made: where the poller fails, all but the first
abbrev pub made_of : Bool → List Arming → List Arming
made_of fault [] = []
made_of fault (a ∷ armings) = if fault then armings else a ∷ armings

-- a poller call fails
abbrev pub fails_of : Bool → List Arming → Bool
fails_of fault [] = false
fails_of fault (a ∷ armings) = fault

-- the answer of a step that is done all the same where the poller fails
abbrev pub done_or_failed : Bool → Answer
done_or_failed true = Failed
done_or_failed false = Done

-- ---- the steps

abbrev pub polled : Poll (Unit {0}) → Answer
polled (poll.Ready u) = Ready
polled poll.Pending = Pending

-- a step that fails changes nothing
pub record Refused (old : World) (answer : Answer) (woken : List ℕ) (new : World) : Type 0 where
  pub answered : answer ≡ Failed
  pub wakes : woken ≡ []
  pub world : new ≡ old

-- a step of a poll's kind, which may arm its key
pub record Polled (arms : Bool) (old : World) (kind : core.Kind) (key : ℕ) (answer : Answer) (woken : List ℕ)
    (new : World) : Type 0 where
  pub made : Poll (Unit {0})
  pub step : core.Step old.core kind (core.Polled made) woken new.core
  pub answered : answer ≡ polled made
  pub world : new ≡ record old {
    core = new.core;
    armed = if arms then armed_at_key new.core key old.armed else old.armed;
  }

-- a poll that would arm is refused where the poller fails
abbrev pub PollStep : Bool → Bool → World → core.Kind → ℕ → Answer → List ℕ → World → Type 0
PollStep true true old kind key answer woken new = Refused old answer woken new
PollStep true false old kind key answer woken new = Polled false old kind key answer woken new
PollStep false arms old kind key answer woken new = Polled arms old kind key answer woken new

-- the futures' place of a key that has no source is free: a cancel is a step of every world
abbrev pub CancelStep : Option Source → World → ℕ → core.Kind → List ℕ → World → Type 0
CancelStep None old key kind woken new = (woken ≡ []) × (new ≡ old)
CancelStep (Some s) old key kind woken new =
    core.Step old.core kind core.Done woken new.core × (new ≡ record old { core = new.core })

abbrev pub InsertStep : Bool → World → ℕ → ℕ → Answer → List ℕ → World → Type 0
InsertStep true old wire key answer woken new = (source_of old.core.sources key ≡ None) × Refused old answer woken new
InsertStep false old wire key answer woken new = record {
  step : core.Step old.core (core.Insert wire key) core.Done woken new.core;
  answered : answer ≡ Done;
  world : new ≡ record old { core = new.core; armed = with_new_at old.armed key unarmed };
}

-- a wait that failed gives no reports, and leaves the notice
abbrev pub ReturnStep : Bool → World → List Report → Answer → List ℕ → World → Type 0
ReturnStep true old reports answer woken new = record {
  step : core.Step old.core (core.Return []) core.Done woken new.core;
  answered : answer ≡ Failed;
  world : new ≡ record old { core = new.core; returned = Some [] };
}
ReturnStep false old reports answer woken new = record {
  step : core.Step old.core (core.Return reports) core.Done woken new.core;
  answered : answer ≡ Done;
  world : new ≡ record {
    core = new.core;
    armed = without_reports old.armed reports;
    notice = false;
    returned = Some reports;
  };
}

-- the end of a round whose wait returned with these reports
pub record FinishStep (old : World) (reports : List Report) (later : Option ℕ) (fault : Bool) (answer : Answer)
    (woken : List ℕ) (new : World) : Type 0 where
  pub returned : old.returned ≡ Some reports
  pub step : core.Step old.core (core.Finish reports later) core.Done woken new.core
  pub answered : answer ≡ done_or_failed (fails_of fault (armings_by_all old.core.ticker old.core.sources reports))
  pub world : new ≡ record old {
    core = new.core;
    armed = with_armings old.armed (made_of fault (armings_by_all old.core.ticker old.core.sources reports));
    returned = None;
  }

-- from the old world, a party may take a step of this kind, which gives this answer, wakes these tasks and leaves the
-- new world. A poll and a removal are steps only of a key with a source, an insertion only of one without, a begin only
-- where no round is open, a return only where the open round's wait hasn't returned, and an end only where it has.
-- Where `fault` is set, the step's poller call fails
abbrev pub Step : World → Kind → Answer → List ℕ → World → Type 0
Step old (PollPlace key dir task fault) answer woken new = record {
  known : HasSource old.core key;
  step : PollStep fault (arms (poll_outcome old.core key dir task)) old (core.PolledPoll key dir task) key answer woken
      new;
}
Step old (PollFuture key dir place task fault) answer woken new = record {
  known : HasSource old.core key;
  step : PollStep fault (asks (direction_at old.core key dir) (at_key (direction_at old.core key dir).futures place))
      old (core.FuturePoll key dir place task) key answer woken new;
}
Step old (Cancel key dir place) answer woken new = record {
  answered : answer ≡ Done;
  step : CancelStep (source_of old.core.sources key) old key (core.Cancel key dir place) woken new;
}
Step old (Insert wire key fault) answer woken new = InsertStep fault old wire key answer woken new
Step old (Remove key fault) answer woken new = record {
  step : core.Step old.core (core.Remove key) core.Done woken new.core;
  answered : answer ≡ done_or_failed fault;
  world : new ≡ record old { core = new.core; armed = without_at old.armed key };
}
Step old (Begin now timeout) answer woken new = (begun : reactor.Begun) × record {
  step : core.Step old.core (core.Begin now timeout) (core.Began begun) woken new.core;
  answered : answer ≡ Begun begun;
  world : new ≡ record old { core = new.core; returned = None };
}
Step old (Returned reports fault) answer woken new = record {
  waits : old.returned ≡ None;
  step : ReturnStep fault old reports answer woken new;
}
Step old (Finish later fault) answer woken new = (reports : List Report)
    × FinishStep old reports later fault answer woken new

-- no step of this kind may be taken
abbrev pub IsDisabled : World → Kind → Type 0
IsDisabled old kind = (answer : Answer) (woken : List ℕ) (new : World) → Step old kind answer woken new → ⊥
