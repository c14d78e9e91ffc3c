-- What a step is to a place where an interest may stand.
use Rattle.std.specs.Prelude.{ℕ, Bool, true, false, ◌&&◌, ◌||◌, ◌==◌, if◌then◌else◌, List, [], ◌∷◌}
use Rattle.react_core.specs.declared.outside.Report.{Report}
use Rattle.react_core.specs.declared.reactor.Dir.{Dir}
use Rattle.react_core.specs.declared.reactor.Dir.TheVariants.{Read, Write}
use Rattle.react_steps.specs.declared.kind.Answer.{Answer}
use Rattle.react_steps.specs.declared.kind.Answer.TheVariants.{Ready, Pending, Begun, Done, Failed}
use Rattle.react_steps.specs.declared.kind.Kind.{Kind}
use Rattle.react_steps.specs.declared.kind.Kind.TheVariants.{Poll, PollFuture, Cancel, Insert, Remove, Begin}
use Rattle.react_steps.specs.declared.kind.Kind.TheVariants.{Returned, Finish}
use Rattle.react_steps.specs.declared.kind.Taken.{Taken}

-- a place of a direction
pub data Place : Type 0 where
  ThePolled : Place
  OfFuture : ℕ → Place

-- a place of a key's direction
pub record Spot : Type 0 where
  pub key : ℕ
  pub dir : Dir
  pub place : Place

abbrev pub same_dir : Dir → Dir → Bool
same_dir Read Read = true
same_dir Read Write = false
same_dir Write Read = false
same_dir Write Write = true

abbrev pub same_place : Place → Place → Bool
same_place ThePolled ThePolled = true
same_place ThePolled (OfFuture n) = false
same_place (OfFuture n) ThePolled = false
same_place (OfFuture n) (OfFuture m) = n == m

-- the spot's direction is this one of this key
abbrev pub is_of : Spot → ℕ → Dir → Bool
is_of q key dir = key == q.key && same_dir dir q.dir

-- a report names the direction
abbrev pub names_one : Report → Dir → Bool
names_one r Read = r.read
names_one r Write = r.write

-- one of the reports names the direction of the key
abbrev pub names : List Report → ℕ → Dir → Bool
names [] key dir = false
names (r ∷ reports) key dir = (r.key == key && names_one r dir) || names reports key dir

pub data Sight : Type 0 where
  -- a poll there for this task, which answered so; one that failed counts as absent
  ReadyThere : ℕ → Sight
  PendingThere : ℕ → Sight
  -- the place was given up
  GivenUp : Sight
  -- the key got a source, or lost it
  NewSource : Sight
  SourceGone : Sight
  RoundBegins : Sight
  -- the open round's wait returned; whether it named the direction
  WaitReturns : Bool → Sight
  RoundEnds : Sight
  Elsewhere : Sight

abbrev pub poll_sight : ℕ → Answer → Sight
poll_sight task Ready = ReadyThere task
poll_sight task Pending = PendingThere task
poll_sight task (Begun begun) = Elsewhere
poll_sight task Done = Elsewhere
poll_sight task Failed = Elsewhere

-- a call that failed brought no source and no report
abbrev pub unless_failed : Answer → Sight → Sight → Sight
unless_failed Ready done failed = done
unless_failed Pending done failed = done
unless_failed (Begun begun) done failed = done
unless_failed Done done failed = done
unless_failed Failed done failed = failed

abbrev pub sight_of : Spot → Kind → Answer → Sight
sight_of q (Poll key dir task fault) answer =
    if is_of q key dir && same_place ThePolled q.place then poll_sight task answer else Elsewhere
sight_of q (PollFuture key dir place task fault) answer =
    if is_of q key dir && same_place (OfFuture place) q.place then poll_sight task answer else Elsewhere
sight_of q (Cancel key dir place) answer =
    if is_of q key dir && same_place (OfFuture place) q.place then GivenUp else Elsewhere
sight_of q (Insert wire key fault) answer = if key == q.key then unless_failed answer NewSource Elsewhere else Elsewhere
sight_of q (Remove key fault) answer = if key == q.key then SourceGone else Elsewhere
sight_of q (Begin now timeout) answer = RoundBegins
sight_of q (Returned reports fault) answer =
    unless_failed answer (WaitReturns (names reports q.key q.dir)) (WaitReturns false)
sight_of q (Finish later fault) answer = RoundEnds

-- what the step is to the place
abbrev pub sight : Spot → Taken → Sight
sight q t = sight_of q t.kind t.answer
