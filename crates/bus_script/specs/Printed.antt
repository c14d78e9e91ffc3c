-- The text of endings and events: each line is its words, joined by one space.
use Rattle.std.specs.Prelude.{ℕ, Bool, List, [], ◌∷◌, ◌++◌, map, Option, Some, None, codes, if◌then◌else◌}
use Rattle.std.specs.List.{join_with_byte, flat_map}
use Rattle.std.specs.Fmt.{decimal}
use Rattle.std.specs.Int.{w32, w128, to_be_bytes}
use Rattle.hex.specs.Hex.{encode_lower}
use Rattle.react_core.specs.declared.outside.Peer.{Peer}
use Rattle.react_core.specs.declared.outside.Peer.TheVariants as peers
use Rattle.react_core.specs.declared.outside.Question.{Question}
use Rattle.react_core.specs.declared.outside.Question.TheVariants as questions
use Rattle.react_core.specs.declared.outside.DialAnswer.{DialAnswer}
use Rattle.react_core.specs.declared.outside.DialAnswer.TheVariants as dials
use Rattle.react_core.specs.declared.outside.RecvAnswer.{RecvAnswer}
use Rattle.react_core.specs.declared.outside.RecvAnswer.TheVariants as recvs
use Rattle.react_core.specs.declared.outside.SendAnswer.{SendAnswer}
use Rattle.react_core.specs.declared.outside.SendAnswer.TheVariants as sends
use Rattle.react_core.specs.declared.outside.Report.{Report}
use Rattle.react_core.specs.declared.outside.WaitAnswer.{WaitAnswer}
use Rattle.react_core.specs.declared.outside.WaitAnswer.TheVariants as waits
use Rattle.react_core.specs.declared.outside.Event.{Event}
use Rattle.react_core.specs.declared.outside.Event.TheVariants as events
use Rattle.bus_script.specs.Reasons.{reason_word}
use Rattle.bus_script.specs.declared.line.Reason.{Reason}
use Rattle.bus_address.specs.Errors.{kind_name}
use Rattle.bus_session.specs.declared.ended.AddressReason.{AddressReason}
use Rattle.bus_session.specs.declared.ended.AddressReason.TheVariants as address_reason
use Rattle.bus_session.specs.declared.ended.Ending.{Ending}
use Rattle.bus_session.specs.declared.ended.Ending.TheVariants as endings
use Rattle.bus_session.specs.declared.ended.Ended.{Ended}

-- hexadecimal digits in lower case; a point is no bytes
abbrev pub bytes_word : List ℕ → List ℕ
bytes_word [] = codes "."
bytes_word (b ∷ bs) = encode_lower (b ∷ bs)

abbrev pub flag_word : Bool → List ℕ
flag_word b = if b then codes "y" else codes "n"

abbrev pub ok_word : Bool → List ℕ
ok_word b = if b then codes "ok" else codes "fault"

-- a dash is none
abbrev pub number_word : Option ℕ → List ℕ
number_word None = codes "-"
number_word (Some n) = decimal n

abbrev pub optional_word : Option (List ℕ) → List ℕ
optional_word None = codes "-"
optional_word (Some bs) = bytes_word bs

-- 4 or 6, the IP address with its highest byte first, and the port
abbrev pub peer_word : Peer → List ℕ
peer_word (peers.V4 ip port) = join_with_byte 45 (codes "4" ∷ encode_lower (to_be_bytes w32 ip) ∷ decimal port ∷ [])
peer_word (peers.V6 ip port) = join_with_byte 45 (codes "6" ∷ encode_lower (to_be_bytes w128 ip) ∷ decimal port ∷ [])

abbrev pub question_words : Question → List (List ℕ)
question_words (questions.Unix path) = codes "unix" ∷ bytes_word path ∷ []
question_words (questions.Abstract name) = codes "abstract" ∷ bytes_word name ∷ []
question_words (questions.Lookup host port) = codes "lookup" ∷ bytes_word host ∷ decimal port ∷ []
question_words (questions.Tcp peer) = codes "tcp" ∷ peer_word peer ∷ []
question_words (questions.Nonce file) = codes "nonce" ∷ bytes_word file ∷ []
question_words (questions.Start program arg0 args) =
    codes "start" ∷ bytes_word program ∷ optional_word arg0 ∷ map bytes_word args
question_words questions.Ibus = codes "ibus" ∷ []
question_words questions.Accept = codes "accept" ∷ []

abbrev pub dial_words : DialAnswer → List (List ℕ)
dial_words (dials.Opened passes) = codes "open" ∷ flag_word passes ∷ []
dial_words (dials.Found ps) = codes "peers" ∷ map peer_word ps
dial_words (dials.Nonce bs) = codes "nonce" ∷ bytes_word bs ∷ []
dial_words (dials.Output success text) = codes "output" ∷ flag_word success ∷ bytes_word text ∷ []
dial_words dials.Failed = codes "fault" ∷ []

abbrev pub recv_words : RecvAnswer → List (List ℕ)
recv_words (recvs.Got bs) = codes "bytes" ∷ bytes_word bs ∷ []
recv_words recvs.End = codes "end" ∷ []
recv_words recvs.NotReady = codes "again" ∷ []
recv_words recvs.Failed = codes "fault" ∷ []

abbrev pub send_words : SendAnswer → List (List ℕ)
send_words (sends.Took n) = codes "took" ∷ decimal n ∷ []
send_words sends.NotReady = codes "again" ∷ []
send_words sends.Failed = codes "fault" ∷ []

-- the directions, n for none
abbrev pub directions : Bool → Bool → List ℕ
directions read write =
    if read then (if write then codes "rw" else codes "r") else (if write then codes "w" else codes "n")

abbrev pub report_word : Report → List ℕ
report_word r = decimal r.key ++ directions r.read r.write

abbrev pub wait_words : WaitAnswer → List (List ℕ)
wait_words (waits.Reported rs) = codes "reports" ∷ map report_word rs
wait_words waits.Interrupted = codes "interrupted" ∷ []
wait_words waits.Failed = codes "fault" ∷ []

unfoldable pub event_words : Event → List (List ℕ)
event_words (events.Dial wire question answer) =
    codes "dial" ∷ decimal wire ∷ (question_words question ++ codes "=" ∷ dial_words answer)
event_words (events.Recv wire asked answer) = codes "recv" ∷ decimal wire ∷ decimal asked ∷ recv_words answer
event_words (events.Send wire offered answer) = codes "send" ∷ decimal wire ∷ bytes_word offered ∷ send_words answer
event_words (events.Close wire) = codes "close" ∷ decimal wire ∷ []
event_words (events.Now moment) = codes "now" ∷ decimal moment ∷ []
event_words (events.Add wire key ok) = codes "add" ∷ decimal wire ∷ decimal key ∷ ok_word ok ∷ []
event_words (events.Modify wire key read write ok) =
    codes "modify" ∷ decimal wire ∷ decimal key ∷ directions read write ∷ ok_word ok ∷ []
event_words (events.Delete wire key ok) = codes "delete" ∷ decimal wire ∷ decimal key ∷ ok_word ok ∷ []
event_words (events.Notify ok) = codes "notify" ∷ ok_word ok ∷ []
event_words (events.Wait timeout answer) = codes "wait" ∷ number_word timeout ∷ wait_words answer

abbrev pub words_text : List (List ℕ) → List ℕ
words_text words = join_with_byte 32 words

abbrev pub line_text : List (List ℕ) → List ℕ
line_text words = words_text words ++ 10 ∷ []

-- why an address leads nowhere: the kind of what is wrong with its text, or what its dialling found
abbrev pub address_word : AddressReason → List ℕ
address_word (address_reason.Text kind) = kind_name kind
address_word address_reason.IbusFailed = codes "ibus-failed"
address_word address_reason.NoAddress = codes "no-address"

abbrev pub ending_word : Ending → List ℕ
ending_word (endings.Open guid passes) = join_with_byte 58 (codes "open" ∷ guid ∷ flag_word passes ∷ [])
ending_word (endings.Address reason) = join_with_byte 58 (codes "address" ∷ address_word reason ∷ [])
ending_word endings.Unsupported = codes "unsupported"
ending_word endings.Connection = codes "connection"
ending_word endings.Io = codes "io"
ending_word endings.Handshake = codes "handshake"
ending_word endings.LineTooLong = codes "line-too-long"
ending_word endings.TooManyCommands = codes "too-many-commands"
ending_word endings.TimedOut = codes "timed-out"
ending_word endings.Waiting = codes "waiting"

abbrev pub ended_words : Ended → List (List ℕ)
ended_words e =
    codes "session" ∷ decimal e.wire ∷ ending_word e.ending ∷ bytes_word e.written ∷ bytes_word e.leftover
    ∷ number_word e.moment ∷ []

-- a line for each session
abbrev pub session_lines : List Ended → List ℕ
session_lines es = flat_map (λ e. line_text (ended_words e)) es

-- a line for each event
abbrev pub event_lines : List Event → List ℕ
event_lines es = flat_map (λ e. line_text (event_words e)) es

-- the text of a run: the sessions, then the events
abbrev pub printed : List Ended → List Event → List ℕ
printed es events = session_lines es ++ event_lines events

-- the text of a refusal
abbrev pub refusal : ℕ → Reason → List ℕ
refusal line reason = line_text (codes "refused" ∷ decimal line ∷ reason_word reason ∷ [])
