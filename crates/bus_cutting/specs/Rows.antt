-- Small conversations, by hand.
use Rattle.std.specs.Prelude.{◌≡◌, ℕ, false, List, [], ◌∷◌, ◌++◌, codes, take, Option, Some, None}
use Rattle.react_core.specs.declared.outside.Event.{Event}
use Rattle.react_core.specs.declared.outside.Event.TheVariants as event
use Rattle.react_core.specs.declared.outside.Question.TheVariants as question
use Rattle.react_core.specs.declared.outside.DialAnswer.TheVariants as dial_answer
use Rattle.react_core.specs.declared.outside.RecvAnswer.TheVariants as recv_answer
use Rattle.bus_opening.specs.declared.mechanism.AuthMechanism.TheVariants.{External}
use Rattle.bus_session.specs.declared.ended.Ending.{Ending}
use Rattle.bus_session.specs.declared.ended.Ending.TheVariants as ending
use Rattle.bus_session.specs.declared.session.Party.TheVariants as party
use Rattle.bus_session.specs.declared.session.Session.{Session}
use Rattle.bus_session.specs.Dialling.{Opened}
use Rattle.bus_session.specs.Outcomes.{Outcome}
use Rattle.bus_cutting.specs.Converse.{ended, failed, nothing, Conversed, converse}
use Rattle.bus_cutting.specs.Laws.{Concludes}

-- a client of user 1000 under EXTERNAL at a plain path, and a server
abbrev pub client : Session
client = record {
  party = party.Client (codes "unix:path=/run/a")
      (record { mechanism = Some External; user = 1000; hello = None; flatpak = false });
  deadline = None;
}

abbrev pub server : Session
server = record {
  party = party.Server
      (record { guid = codes "1234deadbeef1234deadbeef12345678"; mechanism = External; permitted = None });
  deadline = None;
}

-- a wire that passes no descriptors
abbrev pub plain : Opened
plain = record { passes = false; tcp = false; nonce = [] }

-- the first piece that the client sends
abbrev pub hello : List ℕ
hello = 0 ∷ (codes "AUTH EXTERNAL 31303030" ++ (13 ∷ (10 ∷ [])))

-- what a client sends first that the server refuses: a line without CR
abbrev pub bare : List ℕ
bare = 0 ∷ (10 ∷ [])

-- an ending with these written bytes
abbrev pub comes : Ending → List ℕ → Option Conversed
comes e written = Some (record { ending = e; written = written })

-- What comes of some whole conversations.
pub record WholeRows : Type 0 where
  -- the server's peer goes before a whole line came
  pub gone : converse client.party plain (79 ∷ []) ended None ≡ comes ending.Handshake hello
  -- the read fails there
  pub broken : converse client.party plain (79 ∷ []) failed None ≡ comes ending.Io hello
  -- the client waits
  pub waits : converse client.party plain (79 ∷ []) nothing None ≡ None
  -- the wire takes three bytes
  pub full : converse client.party plain (79 ∷ []) ended (Some 3) ≡ comes ending.Io (take 3 hello)
  -- it takes the whole piece, and nothing else is sent
  pub enough : converse client.party plain (79 ∷ []) ended (Some 25) ≡ comes ending.Handshake hello
  -- a line is refused
  pub refused : converse server.party plain bare nothing None ≡ comes ending.Handshake []

-- that line in one read
abbrev pub one_read : List Event
one_read =
    event.Dial 0 question.Accept (dial_answer.Opened false) ∷ (event.Recv 0 1024 (recv_answer.Got bare) ∷ [])

-- the same in two, with pauses before each, on another wire
abbrev pub two_reads : List Event
two_reads =
    event.Dial 7 question.Accept (dial_answer.Opened false)
    ∷ (event.Recv 7 1024 recv_answer.NotReady
    ∷ (event.Recv 7 1024 (recv_answer.Got (0 ∷ []))
    ∷ (event.Recv 7 1024 recv_answer.NotReady ∷ (event.Recv 7 1024 (recv_answer.Got (10 ∷ [])) ∷ []))))

-- the line was refused
abbrev pub refusal : Outcome
refusal = record { ending = ending.Handshake; written = []; leftover = [] }

-- Two ways to cut one conversation.
pub record CutRows : Type 0 where
  pub one : Concludes server plain bare nothing None one_read None refusal
  pub two : Concludes server plain bare nothing None two_reads (Some 5) refusal
