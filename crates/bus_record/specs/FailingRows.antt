-- Small records that a failing call of the poller cut off, by hand.
use Rattle.std.specs.Prelude.{true, false, List, [], ◌∷◌, ◌++◌, None}
use Rattle.react_core.specs.declared.outside.Event.{Event}
use Rattle.react_core.specs.declared.outside.Event.TheVariants as event
use Rattle.react_core.specs.declared.outside.Question.TheVariants as question
use Rattle.react_core.specs.declared.outside.DialAnswer.TheVariants as dial_answer
use Rattle.react_core.specs.declared.outside.RecvAnswer.TheVariants as recv_answer
use Rattle.react_core.specs.declared.outside.WaitAnswer.TheVariants as wait_answer
use Rattle.bus_session.specs.declared.session.Session.{Session}
use Rattle.bus_record.specs.Pieces.{told}
use Rattle.bus_record.specs.Failing.{Made, FailsAtEnd, PollerFailed}
use Rattle.bus_record.specs.Rows.{client_at, path_a, path_b, opened, one_waits, some_report, removed}

-- a client without a deadline, and two of them
abbrev pub one : List Session
one = client_at path_a None ∷ []

abbrev pub two : List Session
two = client_at path_a None ∷ (client_at path_b None ∷ [])

-- the Delete of the source of session 0 fails
abbrev pub unremoved : List Event
unremoved = event.Delete 0 0 false ∷ []

-- the registration fails: there is no source to take out
abbrev pub unregistered : List Event
unregistered = event.Dial 0 (question.Unix path_a) (dial_answer.Opened false) ∷ (event.Add 0 0 false ∷ [])

-- the arming fails, and so does the removal behind it
abbrev pub unarmed : List Event
unarmed = opened 0 path_a 0
    (event.Recv 0 1024 recv_answer.NotReady ∷ (event.Modify 0 0 true false false ∷ unremoved))

-- the second registration fails, and the first session's source is taken out
abbrev pub second_unregistered : List Event
second_unregistered =
    told one_waits
    ++ (event.Dial 1 (question.Unix path_b) (dial_answer.Opened false) ∷ (event.Add 1 1 false ∷ removed))

-- the wait fails
abbrev pub unwaited : List Event
unwaited = told one_waits ++ (event.Now 0 ∷ (event.Wait None wait_answer.Failed ∷ removed))

-- an arming of a round fails
abbrev pub unrearmed : List Event
unrearmed =
    told one_waits
    ++ (event.Now 0
    ∷ (event.Wait None (wait_answer.Reported (some_report false true ∷ []))
    ∷ (event.Modify 0 0 true false false ∷ removed)))

-- each of them is what it says, over an outside that never lacks memory
pub record SmallFailures : Type 0 where
  pub registration : PollerFailed one 5 true unregistered
  pub arming : PollerFailed one 5 true unarmed
  pub second : PollerFailed two 5 true second_unregistered
  pub wait : PollerFailed one 5 true unwaited
  pub rearming : PollerFailed one 5 true unrearmed
  -- the removal of a session that sleeps fails, where no round is left
  pub removal : PollerFailed one 0 true (told one_waits ++ unremoved)

-- These are none: a removal fails while a round is left, and a removal that is not told though there was memory.
pub record RefusedFailures : Type 0 where
  pub round_left : FailsAtEnd one 5 true one_waits unremoved → ⊥
  pub left_out : Made true removed [] → ⊥
