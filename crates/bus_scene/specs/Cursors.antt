-- What a scene's cursors stand for.
use Rattle.std.specs.Prelude.{◌≡◌, ℕ, ◌<◌, Bool, List, [], ◌∷◌, Option, Some, None, Result, Ok, Err, Vec, length, drop}
use Rattle.std.specs.Prelude.{map, slice_index_or}
use Rattle.react_core.specs.declared.outside.RecvAnswer.{RecvAnswer}
use Rattle.react_core.specs.declared.outside.RecvAnswer.TheVariants as recv_answer
use Rattle.react_core.specs.declared.outside.Event.{Event}
use Rattle.react_core.specs.declared.outside.DialAnswer.{DialAnswer}
use Rattle.react_core.specs.declared.outside.DialAnswer.TheVariants as dial_answer
use Rattle.react_core.specs.declared.outside.SendAnswer.{SendAnswer}
use Rattle.react_core.specs.declared.outside.SendAnswer.TheVariants as send_answer
use Rattle.react_core.specs.declared.outside.Sent.{Sent}
use Rattle.react_core.specs.declared.outside.Sent.TheVariants as sent
use Rattle.react_core.specs.declared.outside.Fault.{Fault}
use Rattle.react_core.specs.declared.outside.Fault.TheVariants as fault
use Rattle.react_core.specs.declared.outside.Peer.{Peer}
use Rattle.react_core.specs.declared.outside.Report.{Report}
use Rattle.bus_script.specs.declared.line.Ready.{Ready}
use Rattle.bus_script.specs.declared.line.ReadySource.{ReadySource}
use Rattle.bus_script.specs.declared.line.ReadySource.TheVariants as source
use Rattle.react_core.specs.declared.outside.Rooms.{Rooms}
use Rattle.bus_scene.specs.Queues.{Queues}
use Rattle.bus_scene.specs.Plays.{played, last_reading, source_key, report_with}
use Rattle.bus_scene.specs.declared.queues.Queue.{Queue}
use Rattle.bus_scene.specs.declared.queues.Reads.{Reads}
use Rattle.bus_scene.specs.declared.queues.GivenRead.{GivenRead}
use Rattle.bus_scene.specs.declared.queues.GivenRead.TheVariants as given
use Rattle.bus_scene.specs.declared.queues.Answers.{Answers}
use Rattle.bus_scene.specs.declared.queues.QueuedAnswers.TheInside.{Inside}
use Rattle.bus_scene.specs.declared.scene.Player.{Player}

-- all answers of a queue, and those that are left
abbrev pub whole : {X : Type 0} → Queue X → List X
whole q = q.answers.items

abbrev pub left : {X : Type 0} → Queue X → List X
left q = drop q.at q.answers.items

-- an answer without the first bytes
abbrev pub cut : ℕ → RecvAnswer → RecvAnswer
cut count (recv_answer.Got bytes) = recv_answer.Got (drop count bytes)
cut count a = a

-- the answers, the first without its first bytes
abbrev pub cut_next : ℕ → List RecvAnswer → List RecvAnswer
cut_next count [] = []
cut_next count (a ∷ more) = cut count a ∷ more

abbrev pub whole_reads : Reads → List RecvAnswer
whole_reads r = whole r.queue

abbrev pub left_reads : Reads → List RecvAnswer
left_reads r = cut_next r.used (left r.queue)

-- how many bytes an answer has
abbrev pub bytes_in : Option RecvAnswer → ℕ
bytes_in (Some (recv_answer.Got bytes)) = length bytes
bytes_in a = 0

-- what a read is given, as the answer that it stands for
abbrev pub answer_in : GivenRead → RecvAnswer
answer_in (given.Got bytes) = recv_answer.Got bytes.now
answer_in given.End = recv_answer.End
answer_in given.NotReady = recv_answer.NotReady
answer_in given.Failed = recv_answer.Failed

-- the queues of the whole script, and what is left of them
abbrev pub script_of : Answers → Queues
script_of a = record {
  dials = map whole a.dials.items;
  recvs = map whole_reads a.recvs.items;
  sends = map whole a.sends.items;
  nows = whole a.nows;
  adds = whole a.adds;
  modifies = whole a.modifies;
  deletes = whole a.deletes;
  notifies = whole a.notifies;
  waits = whole a.waits;
}

abbrev pub rest_of : Answers → Queues
rest_of a = record {
  dials = map left a.dials.items;
  recvs = map left_reads a.recvs.items;
  sends = map left a.sends.items;
  nows = left a.nows;
  adds = left a.adds;
  modifies = left a.modifies;
  deletes = left a.deletes;
  notifies = left a.notifies;
  waits = left a.waits;
}

-- the queues of the answers that are put together
abbrev pub items_of : {X A : Type 0} → Vec X A → List X
items_of v = v.items

abbrev pub queues_in : Inside → Queues
queues_in q = record {
  dials = map items_of q.dials.items;
  recvs = map items_of q.recvs.items;
  sends = map items_of q.sends.items;
  nows = q.nows.items;
  adds = q.adds.items;
  modifies = q.modifies.items;
  deletes = q.deletes.items;
  notifies = q.notifies.items;
  waits = q.waits.items;
}

-- The queues that are left are what is left of the script's after the record; the last reading and the sources' keys
-- are those that the record tells.
pub record Plays (rooms : Rooms) (a : Answers) (told : List Event) (keys : List (Option ℕ)) (last : ℕ) : Type 0 where
  pub played : played rooms (script_of a) told ≡ Some (rest_of a)
  pub reading : last ≡ last_reading told
  pub sources : (session : ℕ) → session < length keys → slice_index_or keys session None ≡ source_key told session
  pub sessions : length keys ≡ length a.dials.items

abbrev pub IsPlaying : Player → Type 0
IsPlaying p = Plays p.rooms p.answers p.told.items p.keys.items p.last

-- what an answer to a send comes to
abbrev pub sent_of : SendAnswer → Result Sent Fault
sent_of (send_answer.Took n) = Ok (sent.Took n)
sent_of send_answer.NotReady = Ok sent.NotReady
sent_of send_answer.Failed = Err fault.Failed

-- whether a connection passes descriptors, where an answer opens one
abbrev pub passes_in : Option DialAnswer → Option Bool
passes_in (Some (dial_answer.Opened passes)) = Some passes
passes_in a = None

-- the peers that an answer has, the nonce, and what a program printed with whether it ended in success
abbrev pub peers_in : Option DialAnswer → Option (List Peer)
peers_in (Some (dial_answer.Found peers)) = Some peers
peers_in a = None

abbrev pub nonce_in : Option DialAnswer → Option (List ℕ)
nonce_in (Some (dial_answer.Nonce bytes)) = Some bytes
nonce_in a = None

abbrev pub output_in : Option DialAnswer → Option (Bool × List ℕ)
output_in (Some (dial_answer.Output success text)) = Some (success, text)
output_in a = None

-- the key that a report names
abbrev pub key_in : List (Option ℕ) → ReadySource → Option ℕ
key_in keys (source.Session i) = slice_index_or keys i None
key_in keys (source.Key key) = Some key

abbrev pub report_in : List (Option ℕ) → Ready → Option Report
report_in keys r = report_with (key_in keys r.source) r
