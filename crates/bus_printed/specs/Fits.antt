-- Values as a program can hold them: each number within its type, each byte below 256, each GUID a GUID.
use Rattle.std.specs.Prelude.{ℕ, ◌<◌, ◌^◌, List, Option, Some, None, IsTrue}
use Rattle.std.specs.List.{All}
use Rattle.hex.specs.Hex.{IsBytes}
use Rattle.react_core.specs.declared.outside.Peer.{Peer}
use Rattle.react_core.specs.declared.outside.Peer.TheVariants as peers
use Rattle.react_core.specs.declared.outside.Question.{Question}
use Rattle.react_core.specs.declared.outside.Question.TheVariants as questions
use Rattle.react_core.specs.declared.outside.DialAnswer.{DialAnswer}
use Rattle.react_core.specs.declared.outside.DialAnswer.TheVariants as dials
use Rattle.react_core.specs.declared.outside.RecvAnswer.{RecvAnswer}
use Rattle.react_core.specs.declared.outside.RecvAnswer.TheVariants as recvs
use Rattle.react_core.specs.declared.outside.SendAnswer.{SendAnswer}
use Rattle.react_core.specs.declared.outside.SendAnswer.TheVariants as sends
use Rattle.react_core.specs.declared.outside.Report.{Report}
use Rattle.react_core.specs.declared.outside.WaitAnswer.{WaitAnswer}
use Rattle.react_core.specs.declared.outside.WaitAnswer.TheVariants as waits
use Rattle.react_core.specs.declared.outside.Event.{Event}
use Rattle.react_core.specs.declared.outside.Event.TheVariants as events
use Rattle.bus_address.specs.Guid.{is_guid}
use Rattle.bus_session.specs.declared.ended.Ending.{Ending}
use Rattle.bus_session.specs.declared.ended.Ending.TheVariants as endings
use Rattle.bus_session.specs.declared.ended.Ended.{Ended}

-- what is there fits
abbrev pub FitsWhereThere : {X : Type 0} → (X → Type 0) → Option X → Type 0
FitsWhereThere P None = Unit {0}
FitsWhereThere P (Some x) = P x

-- the address and the port of a peer
abbrev pub FitsPeer : Peer → Type 0
FitsPeer (peers.V4 ip port) = (ip < 2 ^ 32) × (port < 2 ^ 16)
FitsPeer (peers.V6 ip port) = (ip < 2 ^ 128) × (port < 2 ^ 16)

-- the bytes and the port in what a dialer is asked
abbrev pub FitsQuestion : Question → Type 0
FitsQuestion (questions.Unix path) = IsBytes path
FitsQuestion (questions.Abstract name) = IsBytes name
FitsQuestion (questions.Lookup host port) = IsBytes host × (port < 2 ^ 16)
FitsQuestion (questions.Tcp peer) = FitsPeer peer
FitsQuestion (questions.Nonce file) = IsBytes file
FitsQuestion (questions.Start program arg0 args) = IsBytes program × FitsWhereThere IsBytes arg0 × All IsBytes args
FitsQuestion questions.Ibus = Unit {0}
FitsQuestion questions.Accept = Unit {0}

-- the peers and the bytes in a dialer's answer
abbrev pub FitsDial : DialAnswer → Type 0
FitsDial (dials.Opened passes) = Unit {0}
FitsDial (dials.Found ps) = All FitsPeer ps
FitsDial (dials.Nonce bs) = IsBytes bs
FitsDial (dials.Output success text) = IsBytes text
FitsDial dials.Failed = Unit {0}

-- the bytes that were read
abbrev pub FitsRecv : RecvAnswer → Type 0
FitsRecv (recvs.Got bs) = IsBytes bs
FitsRecv _ = Unit {0}

-- the number of bytes that were taken
abbrev pub FitsSend : SendAnswer → Type 0
FitsSend (sends.Took n) = n < 2 ^ 64
FitsSend _ = Unit {0}

-- the key of a report
abbrev pub FitsReport : Report → Type 0
FitsReport r = r.key < 2 ^ 64

-- each report of a wait
abbrev pub FitsWait : WaitAnswer → Type 0
FitsWait (waits.Reported rs) = All FitsReport rs
FitsWait _ = Unit {0}

-- a reading of the clock or a timeout, where there is one
abbrev pub FitsMoment : Option ℕ → Type 0
FitsMoment moment = FitsWhereThere (λ t. t < 2 ^ 64) moment

-- the question and the answer of an event
unfoldable pub FitsEvent : Event → Type 0
FitsEvent (events.Dial wire question answer) = (wire < 2 ^ 32) × FitsQuestion question × FitsDial answer
FitsEvent (events.Recv wire asked answer) = (wire < 2 ^ 32) × (asked < 2 ^ 64) × FitsRecv answer
FitsEvent (events.Send wire offered answer) = (wire < 2 ^ 32) × IsBytes offered × FitsSend answer
FitsEvent (events.Close wire) = wire < 2 ^ 32
FitsEvent (events.Now moment) = moment < 2 ^ 64
FitsEvent (events.Add wire key ok) = (wire < 2 ^ 32) × (key < 2 ^ 64)
FitsEvent (events.Modify wire key read write ok) = (wire < 2 ^ 32) × (key < 2 ^ 64)
FitsEvent (events.Delete wire key ok) = (wire < 2 ^ 32) × (key < 2 ^ 64)
FitsEvent (events.Notify ok) = Unit {0}
FitsEvent (events.Wait timeout answer) = FitsMoment timeout × FitsWait answer

-- the GUID of a connection that stands
abbrev pub FitsEnding : Ending → Type 0
FitsEnding (endings.Open guid passes) = IsTrue (is_guid guid)
FitsEnding _ = Unit {0}

-- what came of a session
pub record FitsEnded (e : Ended) : Type 0 where
  pub wire : e.wire < 2 ^ 32
  pub ending : FitsEnding e.ending
  pub written : IsBytes e.written
  pub leftover : IsBytes e.leftover
  pub moment : FitsMoment e.moment

-- the endings and the record of a run
pub record Fits (endeds : List Ended) (events : List Event) : Type 0 where
  pub each_ending : All FitsEnded endeds
  pub each_event : All FitsEvent events
