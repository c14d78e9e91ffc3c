-- What a server answers.
use Rattle.std.specs.Prelude.{◌≡◌, ℕ, List, [], ◌∷◌, ◌++◌, codes}
use Rattle.bus_opening.specs.declared.exchange.Stage.{Stage}
use Rattle.bus_opening.specs.declared.part.ServerPart.{ServerPart}
use Rattle.bus_opening.specs.declared.server_answers.ServerReply.{ServerReply}
use Rattle.bus_opening.specs.declared.server_answers.ServerReply.TheVariants as reply
use Rattle.bus_opening.specs.Talk.{Turn}
use Rattle.bus_opening.specs.Client.{end}
use Rattle.bus_opening.specs.Server.{ServerPhase, rejected, accepted, misplaced}
use Rattle.bus_opening.specs.Parts.{at_server, placed, terms_in, turn_of}

abbrev pub server_pieces : ServerPart → ServerReply → List (List ℕ)
server_pieces p reply.Nothing = []
server_pieces p reply.Rejected = rejected (terms_in p)
server_pieces p reply.Accepted = accepted (terms_in p)
server_pieces p reply.Data = (codes "DATA" ++ end) ∷ []
server_pieces p reply.Agree = (codes "AGREE_UNIX_FD" ++ end) ∷ []
server_pieces p reply.NoPassing = (codes "ERROR FD-passing not possible on this socket type" ++ end) ∷ []
server_pieces p reply.Misplaced = misplaced

-- this stage and reply are the turn
abbrev pub ServerTurns : ServerPart → Stage → ServerReply → Turn ServerPhase → Type 0
ServerTurns p new said turn = turn_of new (server_pieces p said) ≡ placed at_server turn
