-- The queues of a script's answers.
use Rattle.std.specs.Prelude.{ℕ, Bool, List, [], ◌∷◌, ◌++◌, Option, Some, None, drop, replicate, fold, slice_index_or}
use Rattle.std.specs.Prelude.{slice_set}
use Rattle.react_core.specs.declared.outside.DialAnswer.{DialAnswer}
use Rattle.react_core.specs.declared.outside.RecvAnswer.{RecvAnswer}
use Rattle.react_core.specs.declared.outside.SendAnswer.{SendAnswer}
use Rattle.bus_script.specs.declared.line.ScriptWait.{ScriptWait}
use Rattle.bus_script.specs.declared.line.Answer.{Answer}
use Rattle.bus_script.specs.declared.line.Answer.TheVariants as answers

-- what each queue holds, the next answer first: a queue for each session, by its number, and one for each other call
pub record Queues : Type 0 where
  pub dials : List (List DialAnswer)
  pub recvs : List (List RecvAnswer)
  pub sends : List (List SendAnswer)
  pub nows : List ℕ
  pub adds : List Bool
  pub modifies : List Bool
  pub deletes : List Bool
  pub notifies : List Bool
  pub waits : List ScriptWait

-- the queue of a session; that of a number beyond the sessions is empty
abbrev pub queue_at : {X : Type 0} → List (List X) → ℕ → List X
queue_at queues session = slice_index_or queues session []

-- the next answer of a queue, if there is one
abbrev pub next_answer : {X : Type 0} → List X → Option X
next_answer [] = None
next_answer (x ∷ xs) = Some x

-- the queues without the next answer of a session
abbrev pub without_next : {X : Type 0} → List (List X) → ℕ → List (List X)
without_next queues session = slice_set queues session (drop 1 (queue_at queues session))

-- the queues with one more answer at the end of a session's
abbrev pub with_last : {X : Type 0} → List (List X) → ℕ → X → List (List X)
with_last queues session x = slice_set queues session (queue_at queues session ++ x ∷ [])

-- the queues with an answer put at the end of its queue
abbrev pub enqueue : Queues → Answer → Queues
enqueue q (answers.Dial session a) = record q { dials = with_last q.dials session a }
enqueue q (answers.Recv session a) = record q { recvs = with_last q.recvs session a }
enqueue q (answers.Send session a) = record q { sends = with_last q.sends session a }
enqueue q (answers.Now t) = record q { nows = q.nows ++ t ∷ [] }
enqueue q (answers.Add ok) = record q { adds = q.adds ++ ok ∷ [] }
enqueue q (answers.Modify ok) = record q { modifies = q.modifies ++ ok ∷ [] }
enqueue q (answers.Delete ok) = record q { deletes = q.deletes ++ ok ∷ [] }
enqueue q (answers.Notify ok) = record q { notifies = q.notifies ++ ok ∷ [] }
enqueue q (answers.Wait a) = record q { waits = q.waits ++ a ∷ [] }

-- as many empty queues as sessions, and one for each other call
abbrev pub empty_queues : ℕ → Queues
empty_queues sessions = record {
  dials = replicate sessions [];
  recvs = replicate sessions [];
  sends = replicate sessions [];
  nows = [];
  adds = [];
  modifies = [];
  deletes = [];
  notifies = [];
  waits = [];
}

-- the queues of a script with so many sessions
abbrev pub queues : ℕ → List Answer → Queues
queues sessions xs = fold enqueue (empty_queues sessions) xs
