-- The values that are worked out, as those that are defined.
use Rattle.std.specs.Prelude.{◌++◌, List, ℕ, Option}
use Rattle.bus_opening.specs.declared.config.ClientConfig.{ClientConfig}
use Rattle.bus_opening.specs.Talk.{more, done, refused, goes, ends}
use Rattle.bus_opening.specs.Talk.{send, recv, opens, handshake, too_many_commands, line_too_long}
use Rattle.bus_opening.specs.Talk as talks
use Rattle.bus_opening.specs.Client.{Terms, terms_of, first, asking, begun}
use Rattle.bus_opening.specs.Client as clients
use Rattle.bus_opening.specs.Server.{ServerTerms, ServerPhase, start, auth, data_wanted, begin}
use Rattle.bus_reference.specs.declared.dialling.Opened.{Opened}
use Rattle.bus_reference.specs.declared.turns.Status.{Status}
use Rattle.bus_reference.specs.declared.turns.Status.TheVariants as status
use Rattle.bus_reference.specs.declared.turns.Turn.{Turn}
use Rattle.bus_reference.specs.declared.turns.Turn.TheVariants as turn
use Rattle.bus_reference.specs.declared.turns.Said.{Said}
use Rattle.bus_reference.specs.declared.talking.Settings.{Settings}
use Rattle.bus_reference.specs.declared.talking.Phase.{Phase}
use Rattle.bus_reference.specs.declared.talking.Phase.TheVariants as phase
use Rattle.bus_reference.specs.declared.serving.Terms as serving
use Rattle.bus_reference.specs.declared.serving.Stage.{Stage}
use Rattle.bus_reference.specs.declared.serving.Stage.TheVariants as stage
use Rattle.bus_reference.specs.declared.asking.Asked.{Asked}
use Rattle.bus_reference.specs.declared.asking.Asked.TheVariants as asked

-- the terms of a client that expects this GUID, over this wire
abbrev pub terms : ClientConfig → Option (List ℕ) → Opened → Terms
terms config expected o = terms_of config expected o.passes o.tcp o.nonce

abbrev pub as_settings : Settings → clients.Settings
as_settings s = record { hello = s.hello.now; flatpak = s.flatpak; expected = s.expected; passes = s.passes }

abbrev pub as_status : Status → talks.Status
as_status status.More = more
as_status (status.Done guid flag) = done guid flag
as_status status.Refused = refused

abbrev pub as_phase : Phase → clients.Phase
as_phase phase.First = first
as_phase (phase.Asking guid) = asking guid
as_phase (phase.Begun guid) = begun guid

abbrev pub as_terms : serving.Terms → ServerTerms
as_terms t = record { guid = t.guid; mechanism = t.mechanism; permitted = t.permitted; passes = t.passes }

abbrev pub as_stage : Stage → ServerPhase
as_stage stage.Start = start
as_stage (stage.Auth flag) = auth flag
as_stage (stage.DataWanted flag) = data_wanted flag
as_stage (stage.Begin flag) = begin flag

-- a turn of a client
abbrev pub as_turn : Turn Phase → talks.Turn clients.Phase
as_turn (turn.Goes pieces phase) = goes pieces.items (as_phase phase)
as_turn (turn.Ends pieces status) = ends pieces.items (as_status status)

-- a turn of a server
abbrev pub as_reply : Turn Stage → talks.Turn ServerPhase
as_reply (turn.Goes pieces stage) = goes pieces.items (as_stage stage)
as_reply (turn.Ends pieces status) = ends pieces.items (as_status status)

abbrev pub as_said : Said → talks.Said
as_said s = record { pieces = s.pieces.items; status = as_status s.status }

-- more pieces before what is said
abbrev pub ahead : List (List ℕ) → talks.Said → talks.Said
ahead before s = record { pieces = before ++ s.pieces; status = s.status }

abbrev pub as_ask : Asked → talks.Ask
as_ask (asked.Send piece) = send piece
as_ask asked.Recv = recv
as_ask (asked.Opens guid flag) = opens guid flag
as_ask asked.Handshake = handshake
as_ask asked.TooManyCommands = too_many_commands
as_ask asked.LineTooLong = line_too_long
