-- When a poll is ready, by the steps before it alone. Lists of steps have the last step first.
use Rattle.std.specs.Prelude.{◌≡◌, ℕ, Bool, true, false, ◌&&◌, ◌||◌, ◌==◌, if◌then◌else◌, is_some, List, [], ◌∷◌}
use Rattle.std.specs.Prelude.{Option, Some, None}
use Rattle.react_steps.specs.declared.kind.Taken.{Taken}
use Rattle.react_steps.specs.Sights.{Place, ThePolled, OfFuture, Spot, Sight, ReadyThere, PendingThere, GivenUp}
use Rattle.react_steps.specs.Sights.{NewSource, SourceGone, RoundBegins, WaitReturns, RoundEnds, Elsewhere, sight}

-- ---- the open round

abbrev pub told_by : Sight → Bool → Bool
told_by (ReadyThere task) before = before
told_by (PendingThere task) before = before
told_by GivenUp before = before
told_by NewSource before = before
told_by SourceGone before = before
told_by RoundBegins before = false
told_by (WaitReturns named) before = named
told_by RoundEnds before = false
told_by Elsewhere before = before

-- after these steps a round is open whose wait returned, and named the spot's direction
abbrev pub told : Spot → List Taken → Bool
told q [] = false
told q (t ∷ earlier) = told_by (sight q t) (told q earlier)

-- ---- the task

abbrev pub waiting_by : Sight → Bool → Option ℕ → Option ℕ
waiting_by (ReadyThere task) named before = None
waiting_by (PendingThere task) named before = Some task
waiting_by GivenUp named before = None
waiting_by NewSource named before = None
waiting_by SourceGone named before = None
waiting_by RoundBegins named before = before
waiting_by (WaitReturns n) named before = before
waiting_by RoundEnds named before = if named then None else before
waiting_by Elsewhere named before = before

-- the task of the last poll there, where that was Pending and no round that ended since had a wait that named the
-- direction
abbrev pub waiting : Spot → List Taken → Option ℕ
waiting q [] = None
waiting q (t ∷ earlier) = waiting_by (sight q t) (told q earlier) (waiting q earlier)

abbrev pub is_task : ℕ → Option ℕ → Bool
is_task task None = false
is_task task (Some other) = other == task

-- ---- the interest

-- with one step more
abbrev pub and_since : Taken → Option (List Taken) → Option (List Taken)
and_since t None = None
and_since t (Some steps) = Some (t ∷ steps)

-- a poll that is ready ends the polled interest, and leaves a future's
abbrev pub after_ready : Place → Taken → Option (List Taken) → Option (List Taken)
after_ready ThePolled t before = None
after_ready (OfFuture n) t before = and_since t before

-- a polled interest begins anew, unless its last poll still waits for the same task; a future's begins once
abbrev pub begins : Place → ℕ → Option ℕ → Option (List Taken) → Bool
begins ThePolled task waits before = if is_task task waits then false else true
begins (OfFuture n) task waits before = if is_some before then false else true

abbrev pub after_pending : Bool → Taken → Option (List Taken) → Option (List Taken)
after_pending true t before = Some []
after_pending false t before = and_since t before

abbrev pub since_by : Sight → Place → Taken → Option ℕ → Option (List Taken) → Option (List Taken)
since_by (ReadyThere task) place t waits before = after_ready place t before
since_by (PendingThere task) place t waits before = after_pending (begins place task waits before) t before
since_by GivenUp place t waits before = None
since_by NewSource place t waits before = None
since_by SourceGone place t waits before = None
since_by RoundBegins place t waits before = and_since t before
since_by (WaitReturns named) place t waits before = and_since t before
since_by RoundEnds place t waits before = and_since t before
since_by Elsewhere place t waits before = and_since t before

-- the steps since the poll that began the interest there, where there is one
abbrev pub since_interest : Spot → List Taken → Option (List Taken)
since_interest q [] = None
since_interest q (t ∷ earlier) = since_by (sight q t) q.place t (waiting q earlier) (since_interest q earlier)

-- ---- whole rounds

abbrev pub begun_by : Sight → Bool → Bool
begun_by (ReadyThere task) before = before
begun_by (PendingThere task) before = before
begun_by GivenUp before = before
begun_by NewSource before = before
begun_by SourceGone before = before
begun_by RoundBegins before = true
begun_by (WaitReturns named) before = before
begun_by RoundEnds before = false
begun_by Elsewhere before = before

-- the begin of the round that is open after these steps is one of them
abbrev pub has_begun : Spot → List Taken → Bool
has_begun q [] = false
has_begun q (t ∷ earlier) = begun_by (sight q t) (has_begun q earlier)

abbrev pub named_by : Sight → Bool → Bool → Bool
named_by (ReadyThere task) begun before = before
named_by (PendingThere task) begun before = before
named_by GivenUp begun before = before
named_by NewSource begun before = before
named_by SourceGone begun before = before
named_by RoundBegins begun before = false
named_by (WaitReturns named) begun before = begun && named
named_by RoundEnds begun before = false
named_by Elsewhere begun before = before

-- so is the return of its wait, after its begin, and that named the direction
abbrev pub has_named : Spot → List Taken → Bool
has_named q [] = false
has_named q (t ∷ earlier) = named_by (sight q t) (has_begun q earlier) (has_named q earlier)

abbrev pub is_end : Sight → Bool
is_end (ReadyThere task) = false
is_end (PendingThere task) = false
is_end GivenUp = false
is_end NewSource = false
is_end SourceGone = false
is_end RoundBegins = false
is_end (WaitReturns named) = false
is_end RoundEnds = true
is_end Elsewhere = false

-- among these steps are a round's begin, the return of its wait, which named the direction, and its end
abbrev pub has_round : Spot → List Taken → Bool
has_round q [] = false
has_round q (t ∷ earlier) = (is_end (sight q t) && has_named q earlier) || has_round q earlier

-- ---- the answers

-- a whole round since the poll that began the interest there named the direction
abbrev pub is_due : Spot → Option (List Taken) → Bool
is_due q None = false
is_due q (Some steps) = has_round q steps

-- a poll answers Ready exactly where this holds
abbrev pub AnswersBy : Sight → Bool → Type 0
AnswersBy (ReadyThere task) due = due ≡ true
AnswersBy (PendingThere task) due = due ≡ false
AnswersBy GivenUp due = Unit {0}
AnswersBy NewSource due = Unit {0}
AnswersBy SourceGone due = Unit {0}
AnswersBy RoundBegins due = Unit {0}
AnswersBy (WaitReturns named) due = Unit {0}
AnswersBy RoundEnds due = Unit {0}
AnswersBy Elsewhere due = Unit {0}

-- each poll that didn't fail answers Ready exactly where a whole round since the poll that began its interest named its
-- direction
abbrev pub ReadyExactly : List Taken → Type 0
ReadyExactly [] = Unit {0}
ReadyExactly (t ∷ earlier) =
    ((q : Spot) → AnswersBy (sight q t) (is_due q (since_interest q earlier))) × ReadyExactly earlier
