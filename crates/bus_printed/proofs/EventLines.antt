-- The words of an event say that event.
use Rattle.std.proofs.Common.{◌≡◌, ℕ, ◌^◌, ◌<◌, Bool, true, false, not, List, [], ◌∷◌, ◌++◌, Option, Some, None, Ok}
use Rattle.std.proofs.Common.{refl, arith, codes, nat_lt}
use Rattle.std.specs.List.{list_all}
use Rattle.std.specs.Char.{is_ascii_digit}
use Rattle.std.specs.Fmt.{decimal}
use Rattle.hex.specs.Hex.{IsBytes}
use Rattle.react_core.specs.declared.outside.Peer.{Peer}
use Rattle.react_core.specs.declared.outside.Peer.TheVariants as peers
use Rattle.react_core.specs.declared.outside.Question.{Question}
use Rattle.react_core.specs.declared.outside.Question.TheVariants as questions
use Rattle.react_core.specs.declared.outside.DialAnswer.{DialAnswer}
use Rattle.react_core.specs.declared.outside.DialAnswer.TheVariants as dials
use Rattle.react_core.specs.declared.outside.RecvAnswer.{RecvAnswer}
use Rattle.react_core.specs.declared.outside.RecvAnswer.TheVariants as recvs
use Rattle.react_core.specs.declared.outside.SendAnswer.{SendAnswer}
use Rattle.react_core.specs.declared.outside.SendAnswer.TheVariants as sends
use Rattle.react_core.specs.declared.outside.Report.{Report}
use Rattle.react_core.specs.declared.outside.WaitAnswer.{WaitAnswer}
use Rattle.react_core.specs.declared.outside.WaitAnswer.TheVariants as waits
use Rattle.react_core.specs.declared.outside.Event.{Event}
use Rattle.react_core.specs.declared.outside.Event.TheVariants as events
use Rattle.bus_script.specs.Words.{bytes}
use Rattle.bus_script.specs.Forms as forms
use Rattle.bus_script.specs.Printed.{bytes_word, optional_word, peer_word, directions, ok_word, question_words}
use Rattle.bus_script.specs.Printed.{dial_words, recv_words, send_words, report_word, wait_words, event_words}
use Rattle.bus_printed.specs.Fits.{FitsQuestion, FitsDial, FitsRecv, FitsSend, FitsPeer, FitsReport, FitsWait}
use Rattle.bus_printed.specs.Fits.{FitsEvent}
use Rattle.bus_printed.proofs.Cuts.{all_both, all_written, until, from, until_at, from_at}
use Rattle.bus_printed.proofs.Rereads.{graphic, graphic_bytes, graphic_decimal, graphic_number, graphic_optional}
use Rattle.bus_printed.proofs.Rereads.{graphic_flag, decimal_passes, lacks_equals, not_word_of, not_one, number_read}
use Rattle.bus_printed.proofs.Rereads.{bytes_read}
use Rattle.bus_printed.proofs.Rereads.{flag_read, moment_read, optional_read, each_read}
use Rattle.bus_printed.proofs.Peers.{peer_read, peers_read, graphic_peer}
use Rattle.bus_printed.proofs.Readers.{equals, no_digit, to_read, to_write, report_of, single, question_with}
use Rattle.bus_printed.proofs.Readers.{question_of, answer_of, recv_of, wait_of, dial_event, recv_event, send_event}
use Rattle.bus_printed.proofs.Readers.{close_event, now_event, add_event, modify_event, delete_event, notify_event}
use Rattle.bus_printed.proofs.Readers.{wait_event, event_with, event_of}

-- ---- reports

way_read : (read write : Bool) → to_read (directions read write) ≡ read
unfolding to_read
way_read true true = refl
way_read true false = refl
way_read false true = refl
way_read false false = refl

way_written : (read write : Bool) → to_write (directions read write) ≡ write
unfolding to_write
way_written true true = refl
way_written true false = refl
way_written false true = refl
way_written false false = refl

graphic_way : (read write : Bool) → graphic (directions read write) ≡ true
graphic_way true true = refl
graphic_way true false = refl
graphic_way false true = refl
graphic_way false false = refl

twice : (c : ℕ) → is_ascii_digit c ≡ true → not (no_digit c) ≡ true
twice c h = rw h refl

key_digits : (key : ℕ) → key < 2 ^ 64 → list_all (λ x. not (no_digit x)) (decimal key) ≡ true
key_digits key small = decimal_passes (λ c. not (no_digit c)) twice key small

until_way : (key : ℕ) (read write : Bool) → key < 2 ^ 64 →
    until no_digit (decimal key ++ directions read write) ≡ decimal key
until_way key true true small = until_at no_digit (decimal key) 114 (codes "w") (key_digits key small) refl
until_way key true false small = until_at no_digit (decimal key) 114 [] (key_digits key small) refl
until_way key false true small = until_at no_digit (decimal key) 119 [] (key_digits key small) refl
until_way key false false small = until_at no_digit (decimal key) 110 [] (key_digits key small) refl

from_way : (key : ℕ) (read write : Bool) → key < 2 ^ 64 →
    from no_digit (decimal key ++ directions read write) ≡ directions read write
from_way key true true small = from_at no_digit (decimal key) 114 (codes "w") (key_digits key small) refl
from_way key true false small = from_at no_digit (decimal key) 114 [] (key_digits key small) refl
from_way key false true small = from_at no_digit (decimal key) 119 [] (key_digits key small) refl
from_way key false false small = from_at no_digit (decimal key) 110 [] (key_digits key small) refl

report_read : (r : Report) → FitsReport r → report_of (report_word r) ≡ Ok r
unfolding report_of
report_read r h =
    rw (
      until_way r.key r.read r.write h,
      from_way r.key r.read r.write h,
      number_read (2 ^ 64) r.key h (omega arith),
      way_read r.read r.write,
      way_written r.read r.write,
    ) refl

graphic_report : (r : Report) → FitsReport r → graphic (report_word r) ≡ true
graphic_report r h =
    all_both (λ c. nat_lt 32 c) (decimal r.key) (directions r.read r.write) (graphic_decimal r.key h)
    (graphic_way r.read r.write)

-- ---- answers

dial_read : (a : DialAnswer) → FitsDial a → forms.dial_answer (dial_words a) ≡ Ok a
unfolding forms.dial_answer forms.dial_words
dial_read (dials.Opened passes) h = rw (flag_read passes) refl
dial_read (dials.Found ps) h = rw (peers_read ps h) refl
dial_read (dials.Nonce bs) h = rw (bytes_read bs h) refl
dial_read (dials.Output success text) h = rw (flag_read success, bytes_read text h) refl
dial_read dials.Failed h = refl

graphic_dial : (a : DialAnswer) → FitsDial a → list_all graphic (dial_words a) ≡ true
graphic_dial (dials.Opened passes) h = rw (graphic_flag passes) refl
graphic_dial (dials.Found ps) h = all_written FitsPeer peer_word graphic graphic_peer ps h
graphic_dial (dials.Nonce bs) h = rw (graphic_bytes bs h) refl
graphic_dial (dials.Output success text) h = rw (graphic_flag success, graphic_bytes text h) refl
graphic_dial dials.Failed h = refl

recv_read : (a : RecvAnswer) → FitsRecv a → recv_of (recv_words a) ≡ Ok a
unfolding recv_of single
recv_read (recvs.Got bs) h = rw (bytes_read bs h) refl
recv_read recvs.End h = refl
recv_read recvs.NotReady h = refl
recv_read recvs.Failed h = refl

graphic_recv : (a : RecvAnswer) → FitsRecv a → list_all graphic (recv_words a) ≡ true
graphic_recv (recvs.Got bs) h = rw (graphic_bytes bs h) refl
graphic_recv recvs.End h = refl
graphic_recv recvs.NotReady h = refl
graphic_recv recvs.Failed h = refl

send_read : (a : SendAnswer) → FitsSend a → forms.send_answer (send_words a) ≡ Ok a
unfolding forms.send_answer
send_read (sends.Took n) h = rw (number_read (2 ^ 64) n h (omega arith)) refl
send_read sends.NotReady h = refl
send_read sends.Failed h = refl

graphic_send : (a : SendAnswer) → FitsSend a → list_all graphic (send_words a) ≡ true
graphic_send (sends.Took n) h = rw (graphic_decimal n h) refl
graphic_send sends.NotReady h = refl
graphic_send sends.Failed h = refl

wait_read : (a : WaitAnswer) → FitsWait a → wait_of (wait_words a) ≡ Ok a
unfolding wait_of
wait_read (waits.Reported rs) h = rw (each_read FitsReport report_word report_of report_read rs h) refl
wait_read waits.Interrupted h = refl
wait_read waits.Failed h = refl

graphic_wait : (a : WaitAnswer) → FitsWait a → list_all graphic (wait_words a) ≡ true
graphic_wait (waits.Reported rs) h = all_written FitsReport report_word graphic graphic_report rs h
graphic_wait waits.Interrupted h = refl
graphic_wait waits.Failed h = refl

ok_read : (ok : Bool) → forms.outcome (ok_word ok ∷ []) ≡ Ok ok
unfolding forms.outcome
ok_read true = refl
ok_read false = refl

graphic_ok : (ok : Bool) → graphic (ok_word ok) ≡ true
graphic_ok true = refl
graphic_ok false = refl

-- ---- questions

question_read : (q : Question) → FitsQuestion q → question_of (question_words q) ≡ Ok q
unfolding question_of question_with single
question_read (questions.Unix path) h = rw (bytes_read path h) refl
question_read (questions.Abstract name) h = rw (bytes_read name h) refl
question_read (questions.Lookup host port) h =
    rw (bytes_read host h.0, number_read (2 ^ 16) port h.1 (omega arith)) refl
question_read (questions.Tcp peer) h = rw (peer_read peer h) refl
question_read (questions.Nonce file) h = rw (bytes_read file h) refl
question_read (questions.Start program arg0 args) h =
    rw (bytes_read program h.0, optional_read arg0 h.1, each_read IsBytes bytes_word bytes bytes_read args h.2) refl
question_read questions.Ibus h = refl
question_read questions.Accept h = refl

graphic_question : (q : Question) → FitsQuestion q → list_all graphic (question_words q) ≡ true
graphic_question (questions.Unix path) h = rw (graphic_bytes path h) refl
graphic_question (questions.Abstract name) h = rw (graphic_bytes name h) refl
graphic_question (questions.Lookup host port) h = rw (graphic_bytes host h.0, graphic_decimal port (omega arith)) refl
graphic_question (questions.Tcp peer) h = rw (graphic_peer peer h) refl
graphic_question (questions.Nonce file) h = rw (graphic_bytes file h) refl
graphic_question (questions.Start program arg0 args) h =
    rw (
      graphic_bytes program h.0,
      graphic_optional arg0 h.1,
    ) (all_written IsBytes bytes_word graphic graphic_bytes args h.2)
graphic_question questions.Ibus h = refl
graphic_question questions.Accept h = refl

not_equals : (bs : List ℕ) → not (equals (bytes_word bs)) ≡ true
not_equals [] = refl
not_equals (b ∷ bs) = rw (not_one b 61 bs) refl

optional_not_equals : (o : Option (List ℕ)) → not (equals (optional_word o)) ≡ true
optional_not_equals None = refl
optional_not_equals (Some bs) = not_equals bs

decimal_not_equals : (n : ℕ) → n < 2 ^ 64 → not (equals (decimal n)) ≡ true
decimal_not_equals n small = rw (not_word_of 61 (decimal n) (lacks_equals n small)) refl

peer_not_equals : (p : Peer) → not (equals (peer_word p)) ≡ true
peer_not_equals (peers.V4 ip port) = refl
peer_not_equals (peers.V6 ip port) = refl

bytes_not_equals : (bs : List ℕ) → IsBytes bs → not (equals (bytes_word bs)) ≡ true
bytes_not_equals bs h = not_equals bs

no_equals : (q : Question) → FitsQuestion q → list_all (λ w. not (equals w)) (question_words q) ≡ true
no_equals (questions.Unix path) h = rw (not_equals path) refl
no_equals (questions.Abstract name) h = rw (not_equals name) refl
no_equals (questions.Lookup host port) h = rw (not_equals host, decimal_not_equals port (omega arith)) refl
no_equals (questions.Tcp peer) h = rw (peer_not_equals peer) refl
no_equals (questions.Nonce file) h = rw (not_equals file) refl
no_equals (questions.Start program arg0 args) h =
    rw (
      not_equals program,
      optional_not_equals arg0,
    ) (all_written IsBytes bytes_word (λ w. not (equals w)) bytes_not_equals args h.2)
no_equals questions.Ibus h = refl
no_equals questions.Accept h = refl

-- ---- events

cut_question : (q : Question) (answer : List (List ℕ)) → FitsQuestion q →
    until equals (question_words q ++ codes "=" ∷ answer) ≡ question_words q
cut_question q answer h = until_at equals (question_words q) (codes "=") answer (no_equals q h) refl

cut_answer : (q : Question) (answer : List (List ℕ)) → FitsQuestion q →
    from equals (question_words q ++ codes "=" ∷ answer) ≡ codes "=" ∷ answer
cut_answer q answer h = from_at equals (question_words q) (codes "=") answer (no_equals q h) refl

dial_event_read : (wire : ℕ) (q : Question) (a : DialAnswer) → wire < 2 ^ 32 → FitsQuestion q → FitsDial a →
    dial_event (decimal wire ∷ (question_words q ++ codes "=" ∷ dial_words a)) ≡ Ok (events.Dial wire q a)
unfolding dial_event answer_of
dial_event_read wire q a small h k =
    rw (
      number_read (2 ^ 32) wire small (omega arith),
      cut_question q (dial_words a) h,
      cut_answer q (dial_words a) h,
      question_read q h,
      dial_read a k,
    ) refl

pub event_read : (e : Event) → FitsEvent e → event_of (event_words e) ≡ Ok e
unfolding FitsEvent event_words event_of event_with recv_event send_event close_event now_event add_event modify_event delete_event notify_event wait_event single
event_read (events.Dial wire question answer) h = dial_event_read wire question answer h.0 h.1 h.2
event_read (events.Recv wire asked answer) h =
    rw (
      number_read (2 ^ 32) wire h.0 (omega arith),
      number_read (2 ^ 64) asked h.1 (omega arith),
      recv_read answer h.2,
    ) refl
event_read (events.Send wire offered answer) h =
    rw (number_read (2 ^ 32) wire h.0 (omega arith), bytes_read offered h.1, send_read answer h.2) refl
event_read (events.Close wire) h = rw (number_read (2 ^ 32) wire h (omega arith)) refl
event_read (events.Now moment) h = rw (number_read (2 ^ 64) moment h (omega arith)) refl
event_read (events.Add wire key ok) h =
    rw (number_read (2 ^ 32) wire h.0 (omega arith), number_read (2 ^ 64) key h.1 (omega arith), ok_read ok) refl
event_read (events.Modify wire key read write ok) h =
    rw (
      number_read (2 ^ 32) wire h.0 (omega arith),
      number_read (2 ^ 64) key h.1 (omega arith),
      ok_read ok,
      way_read read write,
      way_written read write,
    ) refl
event_read (events.Delete wire key ok) h =
    rw (number_read (2 ^ 32) wire h.0 (omega arith), number_read (2 ^ 64) key h.1 (omega arith), ok_read ok) refl
event_read (events.Notify ok) h = rw (ok_read ok) refl
event_read (events.Wait timeout answer) h = rw (moment_read timeout h.0, wait_read answer h.1) refl

pub graphic_event : (e : Event) → FitsEvent e → list_all graphic (event_words e) ≡ true
unfolding FitsEvent event_words
graphic_event (events.Dial wire question answer) h =
    rw (graphic_decimal wire (omega arith))
    (all_both graphic (question_words question) (codes "=" ∷ dial_words answer) (graphic_question question h.1)
    (graphic_dial answer h.2))
graphic_event (events.Recv wire asked answer) h =
    rw (graphic_decimal wire (omega arith), graphic_decimal asked h.1) (graphic_recv answer h.2)
graphic_event (events.Send wire offered answer) h =
    rw (graphic_decimal wire (omega arith), graphic_bytes offered h.1) (graphic_send answer h.2)
graphic_event (events.Close wire) h = rw (graphic_decimal wire (omega arith)) refl
graphic_event (events.Now moment) h = rw (graphic_decimal moment h) refl
graphic_event (events.Add wire key ok) h =
    rw (graphic_decimal wire (omega arith), graphic_decimal key h.1, graphic_ok ok) refl
graphic_event (events.Modify wire key read write ok) h =
    rw (graphic_decimal wire (omega arith), graphic_decimal key h.1, graphic_way read write, graphic_ok ok) refl
graphic_event (events.Delete wire key ok) h =
    rw (graphic_decimal wire (omega arith), graphic_decimal key h.1, graphic_ok ok) refl
graphic_event (events.Notify ok) h = rw (graphic_ok ok) refl
graphic_event (events.Wait timeout answer) h = rw (graphic_number timeout h.0) (graphic_wait answer h.1)
