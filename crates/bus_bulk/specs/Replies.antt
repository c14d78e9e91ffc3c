-- What the outside of a bulk run does to a session, by the session's kind.
use Rattle.std.specs.Prelude.{ℕ, List, [], ◌∷◌, ◌++◌, map, take, false, codes}
use Rattle.std.specs.Fmt.{decimal}
use Rattle.hex.specs.Hex.{encode_lower}
use Rattle.react_core.specs.declared.outside.DialAnswer.TheVariants as dials
use Rattle.react_core.specs.declared.outside.RecvAnswer.TheVariants as recvs
use Rattle.bus_script.specs.declared.line.Answer.{Answer}
use Rattle.bus_script.specs.declared.line.Answer.TheVariants as answers
use Rattle.bus_bulk.specs.declared.kind.Kind.{Kind}
use Rattle.bus_bulk.specs.declared.kind.Kind.TheVariants as kinds
use Rattle.bus_bulk.specs.Kinds.{own_guid}

-- what the outside does once
pub data Reply : Type 0 where
  -- it opens a wire over which no descriptors pass
  opens : Reply
  -- it finds nobody
  refuses : Reply
  -- these bytes come
  gives : List ℕ → Reply
  -- the peer has ended
  ends : Reply

-- a line of the conversation
abbrev pub said : List ℕ → List ℕ
said text = text ++ 13 ∷ 10 ∷ []

-- by this a server lets a client in
unfoldable pub acceptance : List ℕ
acceptance = said (codes "OK " ++ own_guid)

-- all that a client says to a server whose transport knows the user: it names none
unfoldable pub client_lines : List ℕ
client_lines = 0 ∷ (said (codes "AUTH EXTERNAL") ++ said (codes "DATA") ++ said (codes "BEGIN"))

-- what is done to a session of a kind, in order
unfoldable pub replies_to : Kind → List Reply
replies_to kinds.Accepted = opens ∷ gives acceptance ∷ []
replies_to kinds.AcceptedByBytes = opens ∷ map (λ byte. gives (byte ∷ [])) acceptance
replies_to kinds.Serving = opens ∷ gives client_lines ∷ []
replies_to kinds.Refused = refuses ∷ []
replies_to kinds.CutOff = opens ∷ gives (take 10 acceptance) ∷ ends ∷ []
replies_to kinds.Unanswered = opens ∷ []

-- as an answer to the session of a number
unfoldable pub answer_of : ℕ → Reply → Answer
answer_of session opens = answers.Dial session (dials.Opened false)
answer_of session refuses = answers.Dial session dials.Failed
answer_of session (gives bytes) = answers.Recv session (recvs.Got bytes)
answer_of session ends = answers.Recv session recvs.End

-- the words of its line
unfoldable pub reply_words : ℕ → Reply → List (List ℕ)
reply_words session opens = codes "dial" ∷ decimal session ∷ codes "open" ∷ codes "n" ∷ []
reply_words session refuses = codes "dial" ∷ decimal session ∷ codes "fault" ∷ []
reply_words session (gives bytes) = codes "recv" ∷ decimal session ∷ codes "bytes" ∷ encode_lower bytes ∷ []
reply_words session ends = codes "recv" ∷ decimal session ∷ codes "end" ∷ []
