-- The forms of a line, by its words.
use Rattle.std.specs.Prelude.{ℕ, ◌^◌, ◌-◌, Bool, true, false, List, [], ◌∷◌, length, take, Result, Ok, Err, nat_eq}
use Rattle.std.specs.Prelude.{◌==◌, drop, if◌then◌else◌, codes}
use Rattle.std.specs.List.{join_with_byte, ends_with, starts_with}
use Rattle.std.specs.Option.{ok_or}
use Rattle.std.specs.Int.{w32, w128, from_be_bytes}
use Rattle.hex.specs.Hex.{decode_sized}
use Rattle.react_core.specs.declared.outside.Peer.{Peer}
use Rattle.react_core.specs.declared.outside.Peer.TheVariants as peers
use Rattle.react_core.specs.declared.outside.DialAnswer.{DialAnswer}
use Rattle.react_core.specs.declared.outside.DialAnswer.TheVariants as dials
use Rattle.react_core.specs.declared.outside.RecvAnswer.{RecvAnswer}
use Rattle.react_core.specs.declared.outside.RecvAnswer.TheVariants as recvs
use Rattle.react_core.specs.declared.outside.SendAnswer.{SendAnswer}
use Rattle.react_core.specs.declared.outside.SendAnswer.TheVariants as sends
use Rattle.bus_address.specs.Guid.{guid}
use Rattle.bus_opening.specs.Mechanisms.{mechanism}
use Rattle.bus_opening.specs.declared.mechanism.AuthMechanism.{AuthMechanism}
use Rattle.bus_session.specs.declared.session.Party.TheVariants as parties
use Rattle.bus_script.specs.Words.{◌>>=◌, ◌is◌, parts_of, number, flag, optional, or_form, bytes}
use Rattle.bus_script.specs.declared.line.Reason.{Reason}
use Rattle.bus_script.specs.declared.line.Reason.TheVariants.{Form}
use Rattle.bus_script.specs.declared.line.ScriptWait.{ScriptWait}
use Rattle.bus_script.specs.declared.line.ScriptWait.TheVariants as waits
use Rattle.bus_script.specs.declared.line.ReadySource.{ReadySource}
use Rattle.bus_script.specs.declared.line.ReadySource.TheVariants as sources
use Rattle.bus_script.specs.declared.line.Ready.{Ready}
use Rattle.bus_script.specs.declared.line.Answer.TheVariants as answers
use Rattle.bus_script.specs.declared.line.Line.{Line}
use Rattle.bus_script.specs.declared.line.Line.TheVariants as lines

-- rounds N
unfoldable pub rounds_line : List (List ℕ) → Result Line Reason
rounds_line (n ∷ []) = number (2 ^ 64) n >>= λ n. Ok (lines.Rounds n)
rounds_line _ = Err Form

-- start TICK TIMER
unfoldable pub start_line : List (List ℕ) → Result Line Reason
start_line (tick ∷ timer ∷ []) = do
  tick ← number (2 ^ 64) tick
  timer ← number (2 ^ 64) timer
  Ok (lines.Start tick timer)
start_line _ = Err Form

abbrev pub mechanism_word : List ℕ → Result AuthMechanism Reason
mechanism_word word = ok_or (mechanism word) Form

-- client MECH USER HELLO FLATPAK DEADLINE ADDRESS: the address is the rest of the line behind the space after the
-- deadline
unfoldable pub client_line : List (List ℕ) → Result Line Reason
client_line (mech ∷ user ∷ hello ∷ flatpak ∷ deadline ∷ a ∷ address) = do
  mech ← optional mechanism_word mech
  user ← number (2 ^ 32) user
  hello ← optional bytes hello
  flatpak ← flag flatpak
  deadline ← optional (number (2 ^ 64)) deadline
  Ok (lines.Session (record {
    party = parties.Client (join_with_byte 32 (a ∷ address)) (record {
      mechanism = mech;
      user = user;
      hello = hello;
      flatpak = flatpak;
    });
    deadline = deadline;
  }))
client_line _ = Err Form

abbrev pub guid_word : List ℕ → Result (List ℕ) Reason
guid_word word = ok_or (guid word) Form

-- server GUID MECH PERMITTED DEADLINE
unfoldable pub server_line : List (List ℕ) → Result Line Reason
server_line (own ∷ mech ∷ permitted ∷ deadline ∷ []) = do
  own ← guid_word own
  mech ← mechanism_word mech
  permitted ← optional (number (2 ^ 32)) permitted
  deadline ← optional (number (2 ^ 64)) deadline
  Ok (lines.Session (record {
    party = parties.Server (record { guid = own; mechanism = mech; permitted = permitted });
    deadline = deadline;
  }))
server_line _ = Err Form

-- an IP address: two hexadecimal digits for each byte, the highest byte first
abbrev pub ip_v4 : List ℕ → Result ℕ Reason
ip_v4 word = or_form (decode_sized word 4) >>= λ bs. Ok (from_be_bytes w32 bs)

abbrev pub ip_v6 : List ℕ → Result ℕ Reason
ip_v6 word = or_form (decode_sized word 16) >>= λ bs. Ok (from_be_bytes w128 bs)

abbrev pub peer_with : List ℕ → List ℕ → List ℕ → Result Peer Reason
peer_with family ip port =
    if family is codes "4" then (ip_v4 ip >>= λ ip. number (2 ^ 16) port >>= λ port. Ok (peers.V4 ip port))
    else if family is codes "6" then (ip_v6 ip >>= λ ip. number (2 ^ 16) port >>= λ port. Ok (peers.V6 ip port))
    else Err Form

unfoldable pub peer_parts : List (List ℕ) → Result Peer Reason
peer_parts (family ∷ ip ∷ port ∷ []) = peer_with family ip port
peer_parts _ = Err Form

-- 4-IP-PORT or 6-IP-PORT
abbrev pub peer : List ℕ → Result Peer Reason
peer word = peer_parts (parts_of 45 word)

unfoldable pub peer_words : List (List ℕ) → Result (List Peer) Reason
peer_words [] = Ok []
peer_words (word ∷ rest) = do
  first ← peer word
  others ← peer_words rest
  Ok (first ∷ others)

abbrev pub dial_word : List ℕ → Result DialAnswer Reason
dial_word kind = if kind is codes "fault" then Ok dials.Failed else Err Form

abbrev pub dial_with : List ℕ → List ℕ → Result DialAnswer Reason
dial_with kind x =
    if kind is codes "open" then (flag x >>= λ passes. Ok (dials.Opened passes))
    else if kind is codes "nonce" then (bytes x >>= λ bs. Ok (dials.Nonce bs))
    else Err Form

abbrev pub dial_output : List ℕ → List ℕ → List ℕ → Result DialAnswer Reason
dial_output kind success text =
    if kind is codes "output" then (flag success >>= λ success. bytes text >>= λ text. Ok (dials.Output success text))
    else Err Form

-- open FLAG, nonce BYTES, output FLAG BYTES or fault
unfoldable pub dial_words : List (List ℕ) → Result DialAnswer Reason
dial_words (kind ∷ []) = dial_word kind
dial_words (kind ∷ x ∷ []) = dial_with kind x
dial_words (kind ∷ x ∷ y ∷ []) = dial_output kind x y
dial_words _ = Err Form

abbrev pub found_peers : List (List ℕ) → Result DialAnswer Reason
found_peers words = peer_words words >>= λ ps. Ok (dials.Found ps)

-- peers and any number of peers, or one of these
unfoldable pub dial_answer : List (List ℕ) → Result DialAnswer Reason
dial_answer [] = Err Form
dial_answer (kind ∷ rest) = if kind is codes "peers" then found_peers rest else dial_words (kind ∷ rest)

abbrev pub recv_word : List ℕ → Result RecvAnswer Reason
recv_word kind =
    if kind is codes "end" then Ok recvs.End
    else if kind is codes "again" then Ok recvs.NotReady
    else if kind is codes "fault" then Ok recvs.Failed
    else Err Form

-- one byte at least
abbrev pub recv_with : List ℕ → List ℕ → Result RecvAnswer Reason
recv_with kind x =
    if kind is codes "bytes" then (if x is codes "." then Err Form else (bytes x >>= λ bs. Ok (recvs.Got bs)))
    else Err Form

-- bytes BYTES, end, again or fault
unfoldable pub recv_answer : List (List ℕ) → Result RecvAnswer Reason
recv_answer (kind ∷ []) = recv_word kind
recv_answer (kind ∷ x ∷ []) = recv_with kind x
recv_answer _ = Err Form

abbrev pub send_word : List ℕ → Result SendAnswer Reason
send_word kind =
    if kind is codes "again" then Ok sends.NotReady
    else if kind is codes "fault" then Ok sends.Failed
    else Err Form

abbrev pub send_with : List ℕ → List ℕ → Result SendAnswer Reason
send_with kind n =
    if kind is codes "took" then (number (2 ^ 64) n >>= λ n. Ok (sends.Took n))
    else Err Form

-- took N, again or fault
unfoldable pub send_answer : List (List ℕ) → Result SendAnswer Reason
send_answer (kind ∷ []) = send_word kind
send_answer (kind ∷ n ∷ []) = send_with kind n
send_answer _ = Err Form

-- a session's number, or k and a key
unfoldable pub source : List ℕ → Result ReadySource Reason
source word = if starts_with nat_eq word (codes "k")
    then (number (2 ^ 64) (drop 1 word) >>= λ key. Ok (sources.Key key))
    else (number (2 ^ 32) word >>= λ session. Ok (sources.Session session))

abbrev pub without : ℕ → List ℕ → List ℕ
without n word = take (length word - n) word

-- a source and its directions
unfoldable pub ready : List ℕ → Result Ready Reason
ready word =
    if ends_with nat_eq word (codes "rw")
    then (source (without 2 word) >>= λ from. Ok (record { source = from; read = true; write = true }))
    else if ends_with nat_eq word (codes "r")
    then (source (without 1 word) >>= λ from. Ok (record { source = from; read = true; write = false }))
    else if ends_with nat_eq word (codes "w")
    then (source (without 1 word) >>= λ from. Ok (record { source = from; read = false; write = true }))
    else Err Form

unfoldable pub readies : List (List ℕ) → Result (List Ready) Reason
readies [] = Ok []
readies (word ∷ rest) = do
  first ← ready word
  others ← readies rest
  Ok (first ∷ others)

abbrev pub wait_word : List ℕ → Result ScriptWait Reason
wait_word kind =
    if kind is codes "interrupted" then Ok waits.Interrupted
    else if kind is codes "fault" then Ok waits.Failed
    else Err Form

abbrev pub wait_with : List ℕ → List (List ℕ) → Result ScriptWait Reason
wait_with kind rest =
    if kind is codes "reports" then (readies rest >>= λ rs. Ok (waits.Reported rs))
    else if length rest == 0 then wait_word kind
    else Err Form

-- reports and any number of reports, interrupted or fault
unfoldable pub wait_answer : List (List ℕ) → Result ScriptWait Reason
wait_answer [] = Err Form
wait_answer (kind ∷ rest) = wait_with kind rest

abbrev pub outcome_word : List ℕ → Result Bool Reason
outcome_word word = if word is codes "ok" then Ok true else if word is codes "fault" then Ok false else Err Form

-- ok or fault
unfoldable pub outcome : List (List ℕ) → Result Bool Reason
outcome (word ∷ []) = outcome_word word
outcome _ = Err Form

-- dial I and an answer
unfoldable pub dial_line : List (List ℕ) → Result Line Reason
dial_line [] = Err Form
dial_line (session ∷ rest) = do
  session ← number (2 ^ 32) session
  answer ← dial_answer rest
  Ok (lines.Answer (answers.Dial session answer))

-- recv I and an answer
unfoldable pub recv_line : List (List ℕ) → Result Line Reason
recv_line [] = Err Form
recv_line (session ∷ rest) = do
  session ← number (2 ^ 32) session
  answer ← recv_answer rest
  Ok (lines.Answer (answers.Recv session answer))

-- send I and an answer
unfoldable pub send_line : List (List ℕ) → Result Line Reason
send_line [] = Err Form
send_line (session ∷ rest) = do
  session ← number (2 ^ 32) session
  answer ← send_answer rest
  Ok (lines.Answer (answers.Send session answer))

-- now T
unfoldable pub now_line : List (List ℕ) → Result Line Reason
now_line (t ∷ []) = number (2 ^ 64) t >>= λ t. Ok (lines.Answer (answers.Now t))
now_line _ = Err Form

-- the lines that answer the poller
unfoldable pub poller_line : List ℕ → List (List ℕ) → Result Line Reason
poller_line word rest =
    if word is codes "add" then (outcome rest >>= λ ok. Ok (lines.Answer (answers.Add ok)))
    else if word is codes "modify" then (outcome rest >>= λ ok. Ok (lines.Answer (answers.Modify ok)))
    else if word is codes "delete" then (outcome rest >>= λ ok. Ok (lines.Answer (answers.Delete ok)))
    else if word is codes "notify" then (outcome rest >>= λ ok. Ok (lines.Answer (answers.Notify ok)))
    else if word is codes "wait" then (wait_answer rest >>= λ answer. Ok (lines.Answer (answers.Wait answer)))
    else Err Form

unfoldable pub line_with : List ℕ → List (List ℕ) → Result Line Reason
line_with word rest =
    if word is codes "rounds" then rounds_line rest
    else if word is codes "start" then start_line rest
    else if word is codes "client" then client_line rest
    else if word is codes "server" then server_line rest
    else if word is codes "dial" then dial_line rest
    else if word is codes "recv" then recv_line rest
    else if word is codes "send" then send_line rest
    else if word is codes "now" then now_line rest
    else poller_line word rest

-- the line that the words say, or a refusal
abbrev pub line_of : List (List ℕ) → Result Line Reason
line_of [] = Err Form
line_of (word ∷ rest) = line_with word rest
