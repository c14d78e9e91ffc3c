-- What the words of a printed line say.
use Rattle.std.specs.Prelude.{ℕ, ◌^◌, Bool, true, not, List, [], ◌∷◌, Result, Ok, Err, if◌then◌else◌, codes}
use Rattle.std.specs.Char.{is_ascii_digit}
use Rattle.react_core.specs.declared.outside.Question.{Question}
use Rattle.react_core.specs.declared.outside.Question.TheVariants as questions
use Rattle.react_core.specs.declared.outside.RecvAnswer.{RecvAnswer}
use Rattle.react_core.specs.declared.outside.RecvAnswer.TheVariants as recvs
use Rattle.react_core.specs.declared.outside.DialAnswer.{DialAnswer}
use Rattle.react_core.specs.declared.outside.Report.{Report}
use Rattle.react_core.specs.declared.outside.WaitAnswer.{WaitAnswer}
use Rattle.react_core.specs.declared.outside.WaitAnswer.TheVariants as waits
use Rattle.react_core.specs.declared.outside.Event.{Event}
use Rattle.react_core.specs.declared.outside.Event.TheVariants as events
use Rattle.bus_script.specs.Words.{◌>>=◌, ◌is◌, parts_of, number, flag, optional, bytes}
use Rattle.bus_script.specs.Forms.{peer, dial_answer, recv_word, send_answer, outcome}
use Rattle.bus_script.specs.declared.line.Reason.{Reason}
use Rattle.bus_script.specs.declared.line.Reason.TheVariants.{Form}
use Rattle.bus_address.specs.declared.error.AddressKind.{AddressKind}
use Rattle.bus_address.specs.declared.error.AddressKind.TheVariants as kinds
use Rattle.bus_session.specs.declared.ended.AddressReason.{AddressReason}
use Rattle.bus_session.specs.declared.ended.AddressReason.TheVariants as address_reason
use Rattle.bus_session.specs.declared.ended.Ending.{Ending}
use Rattle.bus_session.specs.declared.ended.Ending.TheVariants as endings
use Rattle.bus_session.specs.declared.ended.Ended.{Ended}
use Rattle.bus_printed.proofs.Cuts.{until, from}

-- each word, by one reader
unfoldable pub each_of : {X : Type 0} → (List ℕ → Result X Reason) → List (List ℕ) → Result (List X) Reason
each_of read [] = Ok []
each_of read (word ∷ rest) = do
  first ← read word
  others ← each_of read rest
  Ok (first ∷ others)

-- the one word that is left
unfoldable pub single : {X : Type 0} → (List ℕ → Result X Reason) → List (List ℕ) → Result X Reason
single read (word ∷ []) = read word
single read _ = Err Form

abbrev pub wire_word : List ℕ → Result ℕ Reason
wire_word word = number (2 ^ 32) word

abbrev pub count_word : List ℕ → Result ℕ Reason
count_word word = number (2 ^ 64) word

abbrev pub lookup_with : List (List ℕ) → Result Question Reason
lookup_with [] = Err Form
lookup_with (host ∷ rest) = do
  host ← bytes host
  port ← single (number (2 ^ 16)) rest
  Ok (questions.Lookup host port)

abbrev pub start_args : List ℕ → List (List ℕ) → Result Question Reason
start_args program [] = Err Form
start_args program (arg0 ∷ args) = do
  program ← bytes program
  arg0 ← optional bytes arg0
  args ← each_of bytes args
  Ok (questions.Start program arg0 args)

abbrev pub start_with : List (List ℕ) → Result Question Reason
start_with [] = Err Form
start_with (program ∷ rest) = start_args program rest

unfoldable pub question_with : List ℕ → List (List ℕ) → Result Question Reason
question_with kind rest =
    if kind is codes "unix" then (single bytes rest >>= λ bs. Ok (questions.Unix bs))
    else if kind is codes "abstract" then (single bytes rest >>= λ bs. Ok (questions.Abstract bs))
    else if kind is codes "lookup" then lookup_with rest
    else if kind is codes "tcp" then (single peer rest >>= λ p. Ok (questions.Tcp p))
    else if kind is codes "nonce" then (single bytes rest >>= λ bs. Ok (questions.Nonce bs))
    else if kind is codes "start" then start_with rest
    else if kind is codes "ibus" then Ok questions.Ibus
    else if kind is codes "accept" then Ok questions.Accept
    else Err Form

unfoldable pub question_of : List (List ℕ) → Result Question Reason
question_of [] = Err Form
question_of (kind ∷ rest) = question_with kind rest

abbrev pub equals : List ℕ → Bool
equals word = word is codes "="

-- what stands behind the equals sign
unfoldable pub answer_of : List (List ℕ) → Result DialAnswer Reason
answer_of [] = Err Form
answer_of (sign ∷ rest) = dial_answer rest

abbrev pub got_with : List ℕ → List (List ℕ) → Result RecvAnswer Reason
got_with kind rest = if kind is codes "bytes" then (single bytes rest >>= λ bs. Ok (recvs.Got bs)) else recv_word kind

unfoldable pub recv_of : List (List ℕ) → Result RecvAnswer Reason
recv_of [] = Err Form
recv_of (kind ∷ rest) = got_with kind rest

-- a letter of a direction
abbrev pub no_digit : ℕ → Bool
no_digit c = not (is_ascii_digit c)

unfoldable pub to_read : List ℕ → Bool
to_read word = if word is codes "rw" then true else word is codes "r"

unfoldable pub to_write : List ℕ → Bool
to_write word = if word is codes "rw" then true else word is codes "w"

unfoldable pub report_of : List ℕ → Result Report Reason
report_of word =
    count_word (until no_digit word) >>= λ key. Ok (record { key = key; read = to_read (from no_digit word); write = to_write (from no_digit word) })

abbrev pub wait_with : List ℕ → List (List ℕ) → Result WaitAnswer Reason
wait_with kind rest =
    if kind is codes "reports" then (each_of report_of rest >>= λ rs. Ok (waits.Reported rs))
    else if kind is codes "interrupted" then Ok waits.Interrupted
    else if kind is codes "fault" then Ok waits.Failed
    else Err Form

unfoldable pub wait_of : List (List ℕ) → Result WaitAnswer Reason
wait_of [] = Err Form
wait_of (kind ∷ rest) = wait_with kind rest

-- the lines of the events, behind their first word
unfoldable pub dial_event : List (List ℕ) → Result Event Reason
dial_event [] = Err Form
dial_event (wire ∷ rest) = do
  wire ← wire_word wire
  question ← question_of (until equals rest)
  answer ← answer_of (from equals rest)
  Ok (events.Dial wire question answer)

unfoldable pub recv_event : List (List ℕ) → Result Event Reason
recv_event (wire ∷ asked ∷ rest) = do
  wire ← wire_word wire
  asked ← count_word asked
  answer ← recv_of rest
  Ok (events.Recv wire asked answer)
recv_event _ = Err Form

unfoldable pub send_event : List (List ℕ) → Result Event Reason
send_event (wire ∷ offered ∷ rest) = do
  wire ← wire_word wire
  offered ← bytes offered
  answer ← send_answer rest
  Ok (events.Send wire offered answer)
send_event _ = Err Form

unfoldable pub close_event : List (List ℕ) → Result Event Reason
close_event rest = single wire_word rest >>= λ wire. Ok (events.Close wire)

unfoldable pub now_event : List (List ℕ) → Result Event Reason
now_event rest = single count_word rest >>= λ moment. Ok (events.Now moment)

unfoldable pub add_event : List (List ℕ) → Result Event Reason
add_event (wire ∷ key ∷ rest) = do
  wire ← wire_word wire
  key ← count_word key
  ok ← outcome rest
  Ok (events.Add wire key ok)
add_event _ = Err Form

unfoldable pub modify_event : List (List ℕ) → Result Event Reason
modify_event (wire ∷ key ∷ way ∷ rest) = do
  wire ← wire_word wire
  key ← count_word key
  ok ← outcome rest
  Ok (events.Modify wire key (to_read way) (to_write way) ok)
modify_event _ = Err Form

unfoldable pub delete_event : List (List ℕ) → Result Event Reason
delete_event (wire ∷ key ∷ rest) = do
  wire ← wire_word wire
  key ← count_word key
  ok ← outcome rest
  Ok (events.Delete wire key ok)
delete_event _ = Err Form

unfoldable pub notify_event : List (List ℕ) → Result Event Reason
notify_event rest = outcome rest >>= λ ok. Ok (events.Notify ok)

unfoldable pub wait_event : List (List ℕ) → Result Event Reason
wait_event [] = Err Form
wait_event (timeout ∷ rest) = do
  timeout ← optional count_word timeout
  answer ← wait_of rest
  Ok (events.Wait timeout answer)

unfoldable pub event_with : List ℕ → List (List ℕ) → Result Event Reason
event_with kind rest =
    if kind is codes "dial" then dial_event rest
    else if kind is codes "recv" then recv_event rest
    else if kind is codes "send" then send_event rest
    else if kind is codes "close" then close_event rest
    else if kind is codes "now" then now_event rest
    else if kind is codes "add" then add_event rest
    else if kind is codes "modify" then modify_event rest
    else if kind is codes "delete" then delete_event rest
    else if kind is codes "notify" then notify_event rest
    else if kind is codes "wait" then wait_event rest
    else Err Form

unfoldable pub event_of : List (List ℕ) → Result Event Reason
event_of [] = Err Form
event_of (kind ∷ rest) = event_with kind rest

-- what is wrong with the text of an address
unfoldable pub kind_of : List ℕ → Result AddressKind Reason
kind_of word =
    if word is codes "Form" then Ok kinds.Form
    else if word is codes "BadGuid" then Ok kinds.BadGuid
    else if word is codes "UnknownTransport" then Ok kinds.UnknownTransport
    else if word is codes "Keys" then Ok kinds.Keys
    else if word is codes "MissingPath" then Ok kinds.MissingPath
    else if word is codes "Bind" then Ok kinds.Bind
    else if word is codes "MissingHost" then Ok kinds.MissingHost
    else if word is codes "MissingPort" then Ok kinds.MissingPort
    else if word is codes "BadPort" then Ok kinds.BadPort
    else if word is codes "BadFamily" then Ok kinds.BadFamily
    else if word is codes "MissingNonceFile" then Ok kinds.MissingNonceFile
    else if word is codes "BadEscape" then Ok kinds.BadEscape
    else if word is codes "HostText" then Ok kinds.HostText
    else Err Form

-- why an address leads nowhere
unfoldable pub address_of : List ℕ → Result AddressReason Reason
address_of word =
    if word is codes "ibus-failed" then Ok address_reason.IbusFailed
    else if word is codes "no-address" then Ok address_reason.NoAddress
    else (kind_of word >>= λ kind. Ok (address_reason.Text kind))

-- how a session ended
unfoldable pub ending_named : List ℕ → Result Ending Reason
ending_named word =
    if word is codes "unsupported" then Ok endings.Unsupported
    else if word is codes "connection" then Ok endings.Connection
    else if word is codes "io" then Ok endings.Io
    else if word is codes "handshake" then Ok endings.Handshake
    else if word is codes "line-too-long" then Ok endings.LineTooLong
    else if word is codes "too-many-commands" then Ok endings.TooManyCommands
    else if word is codes "timed-out" then Ok endings.TimedOut
    else if word is codes "waiting" then Ok endings.Waiting
    else Err Form

unfoldable pub ending_parts : List (List ℕ) → Result Ending Reason
ending_parts (word ∷ []) = ending_named word
ending_parts (kind ∷ reason ∷ []) = address_of reason >>= λ reason. Ok (endings.Address reason)
ending_parts (kind ∷ guid ∷ passes ∷ []) = flag passes >>= λ passes. Ok (endings.Open guid passes)
ending_parts _ = Err Form

unfoldable pub ending_of : List ℕ → Result Ending Reason
ending_of word = ending_parts (parts_of 58 word)

-- the line of a session, behind its first word
unfoldable pub session_of : List (List ℕ) → Result Ended Reason
session_of (wire ∷ ending ∷ written ∷ leftover ∷ moment ∷ []) = do
  wire ← wire_word wire
  ending ← ending_of ending
  written ← bytes written
  leftover ← bytes leftover
  moment ← optional count_word moment
  Ok (record { ending = ending; written = written; leftover = leftover; wire = wire; moment = moment })
session_of _ = Err Form

unfoldable pub ended_of : List (List ℕ) → Result Ended Reason
ended_of [] = Err Form
ended_of (kind ∷ rest) = if kind is codes "session" then session_of rest else Err Form
