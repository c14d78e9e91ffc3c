-- Small records that are not settled.
use Rattle.std.specs.Prelude.{ℕ, true, false, List, [], ◌∷◌, Option, Some, None}
use Rattle.react_core.specs.declared.outside.Event.{Event}
use Rattle.react_core.specs.declared.outside.Event.TheVariants as event
use Rattle.react_core.specs.declared.outside.Question.TheVariants as question
use Rattle.react_core.specs.declared.outside.DialAnswer.TheVariants as dial_answer
use Rattle.react_core.specs.declared.outside.RecvAnswer.TheVariants as recv_answer
use Rattle.react_core.specs.declared.outside.SendAnswer.TheVariants as send_answer
use Rattle.bus_session.specs.declared.session.Session.{Session}
use Rattle.bus_session.specs.declared.ended.Ended.{Ended}
use Rattle.bus_session.specs.declared.ended.Ending.TheVariants as ending
use Rattle.bus_record.specs.Pieces.{visit, Pieces, nothing, ◌▸◌}
use Rattle.bus_record.specs.Visits.{Visit}
use Rattle.bus_record.specs.Settled.{Run, Settled}
use Rattle.bus_record.specs.Headline.{Each}
use Rattle.bus_record.specs.Rows.{client_at, path_a, path_b, opened, opens, asleep, hello, a_round, some_report}
use Rattle.bus_record.specs.Rows.{both_open, opened_on, one_opens, one_waits, has_timer, late_visit, missed_in_round}
use Rattle.bus_record.specs.Rows.{removed, reached_in_round, interrupted_round, unknown_report, two_deadlines, two_wait}

-- a client without a deadline
abbrev pub patient : Session
patient = client_at path_a None

-- one whose deadline is 50
abbrev pub hurried : Session
hurried = client_at path_a (Some 50)

-- a read that is not ready
abbrev pub again : Event
again = event.Recv 0 1024 recv_answer.NotReady

-- ---- visits

-- a source is registered though the dialling failed
abbrev pub registers_unopened : List Event
registers_unopened = event.Dial 0 (question.Unix path_a) dial_answer.Failed ∷ (event.Add 0 0 true ∷ removed)

-- the same, and the conversation is had as if it had opened
abbrev pub talks_unopened : List Event
talks_unopened =
    event.Dial 0 (question.Unix path_a) dial_answer.Failed
    ∷ (event.Add 0 0 true
    ∷ (event.Send 0 hello (send_answer.Took 25) ∷ (again ∷ (event.Modify 0 0 true false true ∷ []))))

-- it is had without a dial
abbrev pub talks_undialled : List Event
talks_undialled =
    event.Add 0 0 true
    ∷ (event.Send 0 hello (send_answer.Took 25) ∷ (again ∷ (event.Modify 0 0 true false true ∷ [])))

-- the answer to a dial is one of another question
abbrev pub takes_a_nonce : List Event
takes_a_nonce = event.Dial 0 (question.Unix path_a) (dial_answer.Nonce []) ∷ []

-- the direction that said NotReady is not armed
abbrev pub arms_nothing : List Event
arms_nothing = opened 0 path_a 0 (again ∷ [])

-- the other direction is armed
abbrev pub arms_the_other : List Event
arms_the_other = opened 0 path_a 0 (again ∷ (event.Modify 0 0 false true true ∷ []))

-- the wire is asked for no bytes, and the empty answer taken as its end
abbrev pub asks_for_nothing : List Event
asks_for_nothing = opened 0 path_a 0 (event.Recv 0 0 recv_answer.End ∷ removed)

-- the deadline is looked at before the wire
abbrev pub clock_first : List Event
clock_first =
    event.Dial 0 (question.Unix path_a) (dial_answer.Opened false) ∷ (event.Add 0 0 true ∷ (event.Now 50 ∷ removed))

-- the timer is notified twice
abbrev pub notifies_twice : List Event
notifies_twice = asleep 0 path_a 0 (event.Now 10 ∷ (event.Notify true ∷ (event.Notify true ∷ [])))

-- it goes on after its end
abbrev pub goes_on_after_end : List Event
goes_on_after_end = opened 0 path_a 0 (again ∷ (event.Modify 0 0 true false true ∷ (again ∷ [])))

-- the pieces up to a round that ends at the deadline; a later visit begins with the clock, or arms what waits already
abbrev pub at_deadline : Pieces
at_deadline = has_timer ▸ a_round 10 (Some 40) [] (Some 50) []

abbrev pub later_clock_first : List Event
later_clock_first = event.Now 50 ∷ removed

abbrev pub arms_once_more : List Event
arms_once_more = again ∷ (event.Modify 0 0 true false true ∷ (event.Now 50 ∷ removed))

-- The pieces up to a round that reports the client. Its visit asks twice, arms and reads the clock; it may not notify
-- again, ask a third time, or ask only once.
abbrev pub woken : Pieces
woken = has_timer ▸ a_round 10 (Some 40) (some_report true false ∷ []) None []

abbrev pub woken_visit : List Event → List Event
woken_visit more = again ∷ (again ∷ (event.Modify 0 0 true false true ∷ (event.Now 20 ∷ more)))

abbrev pub asks_thrice : List Event
asks_thrice = again ∷ woken_visit []

abbrev pub asks_once : List Event
asks_once = again ∷ (event.Modify 0 0 true false true ∷ (event.Now 20 ∷ []))

-- another client registers under a key that has a holder
abbrev pub takes_a_key : List Event
takes_a_key = asleep 1 path_b 0 []

-- no visit is one of these
pub record RefusedVisits : Type 0 where
  pub unopened : Visit patient 0 nothing registers_unopened → ⊥
  pub unopened_talk : Visit patient 0 nothing talks_unopened → ⊥
  pub undialled_talk : Visit patient 0 nothing talks_undialled → ⊥
  pub nonce : Visit patient 0 nothing takes_a_nonce → ⊥
  pub another_path : Visit patient 0 nothing (opens 0 path_b 0) → ⊥
  pub unarmed : Visit patient 0 nothing arms_nothing → ⊥
  pub other : Visit patient 0 nothing arms_the_other → ⊥
  pub no_bytes : Visit patient 0 nothing asks_for_nothing → ⊥
  pub clock : Visit hurried 0 nothing clock_first → ⊥
  pub twice : Visit hurried 0 nothing notifies_twice → ⊥
  pub beyond : Visit patient 0 nothing goes_on_after_end → ⊥
  pub later_clock : Visit hurried 0 at_deadline later_clock_first → ⊥
  pub once_more : Visit hurried 0 at_deadline arms_once_more → ⊥
  pub woken_well : Visit hurried 0 woken (woken_visit [])
  pub notified : Visit hurried 0 woken (woken_visit (event.Notify true ∷ [])) → ⊥
  pub thrice : Visit hurried 0 woken asks_thrice → ⊥
  pub once : Visit hurried 0 woken asks_once → ⊥
  pub taken : Visit (client_at path_b None) 1 one_waits takes_a_key → ⊥

-- ---- endings

-- what two clients that open one after the other come to
abbrev pub two : List Session
two = client_at path_a None ∷ (client_at path_b None ∷ [])

-- a client still waits, after a reading
abbrev pub waiting_at : Option ℕ → Ended
waiting_at moment =
    record { ending = ending.Waiting; written = hello; leftover = []; wire = 0; moment = moment }

-- no endings are these
pub record RefusedEndings : Type 0 where
  -- in another order, or one too few or too many
  pub swapped : Each 0 two (opened_on 1 ∷ (opened_on 0 ∷ [])) both_open → ⊥
  pub too_few : Each 0 two (opened_on 0 ∷ []) both_open → ⊥
  pub too_many : Each 0 two (opened_on 0 ∷ (opened_on 1 ∷ (opened_on 2 ∷ []))) both_open → ⊥
  -- another moment, and another ending
  pub other_moment : Each 0 (hurried ∷ []) (waiting_at None ∷ []) missed_in_round → ⊥
  pub right_moment : Each 0 (hurried ∷ []) (waiting_at (Some 10) ∷ []) missed_in_round
  pub other_ending : Each 0 (hurried ∷ []) (waiting_at (Some 50) ∷ []) reached_in_round → ⊥

-- ---- rounds and whole records

-- no run of one client is one of these
pub record RefusedRuns : Type 0 where
  -- a timeout of zero where nothing is due, and a timeout past the deadline
  pub zero : (wires : List ℕ) → Run (patient ∷ []) 5 (one_waits ▸ a_round 0 (Some 0) [] None []) wires → ⊥
  pub too_long : (wires : List ℕ) → Run (hurried ∷ []) 5 (has_timer ▸ a_round 10 (Some 41) [] (Some 51) []) wires → ⊥
  -- no second reading after an empty wait, and one after a report
  pub unread : (wires : List ℕ) → Run (hurried ∷ []) 5 (has_timer ▸ a_round 10 (Some 40) [] None []) wires → ⊥
  pub overread : (wires : List ℕ) →
      Run (hurried ∷ []) 5 (has_timer ▸ a_round 10 (Some 40) (some_report true false ∷ []) (Some 50) []) wires → ⊥
  -- a second reading after an interrupted wait, and after a report of a key without a holder
  pub reread : (wires : List ℕ) → Run (patient ∷ []) 5 (one_waits ▸ interrupted_round (Some 0)) wires → ⊥
  pub unheld : (wires : List ℕ) →
      Run (patient ∷ []) 5 (one_waits ▸ a_round 0 None (unknown_report ∷ []) (Some 0) []) wires → ⊥
  -- of two deadlines a timeout up to the later one, and a visit of the client whose deadline it is
  pub later : (wires : List ℕ) → Run two_deadlines 5 (two_wait ▸ a_round 10 (Some 40) [] (Some 50) []) wires → ⊥
  pub another : (wires : List ℕ) →
      Run two_deadlines 5 ((two_wait ▸ a_round 10 (Some 20) [] (Some 30) []) ▸ visit 0 late_visit) wires → ⊥
  -- a visit of a client that isn't due
  pub not_due : (wires : List ℕ) → Run (hurried ∷ []) 5 (missed_in_round ▸ visit 0 late_visit) wires → ⊥
  -- a client that is due and not visited, at its deadline and by a report
  pub left_out : Run (hurried ∷ []) 5 at_deadline [] → ⊥
  pub unheard : Run (hurried ∷ []) 5 woken [] → ⊥
  -- what still waits is not armed anew
  pub not_rearmed : (wires : List ℕ) →
      Run (patient ∷ []) 5 (one_waits ▸ a_round 0 None (some_report false true ∷ []) None []) wires → ⊥
  -- a round where no session sleeps, and one more than may be
  pub nobody : (wires : List ℕ) → Run (patient ∷ []) 5 (one_opens ▸ a_round 0 None [] (Some 0) []) wires → ⊥
  pub too_many : (wires : List ℕ) → Run (patient ∷ []) 0 (one_waits ▸ a_round 0 None [] (Some 0) []) wires → ⊥
  -- a client is left asleep while rounds are left, and one that was due is not visited at the end
  pub gives_up : (events : List Event) → Settled (patient ∷ []) 5 one_waits events → ⊥
  -- the source of a sleeper stays
  pub unclosed : Settled (patient ∷ []) 0 one_waits (asleep 0 path_a 0 []) → ⊥
