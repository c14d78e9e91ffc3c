-- Either side's steps, as those of one conversation.
use Rattle.std.specs.Prelude.{◌≡◌, ℕ, List, [], Option, Some, None, MatchOption}
use Rattle.bus_opening.specs.declared.exchange.ClientStage.{ClientStage}
use Rattle.bus_opening.specs.declared.exchange.ClientStage.TheVariants as client_stage
use Rattle.bus_opening.specs.declared.exchange.ServerStage.{ServerStage}
use Rattle.bus_opening.specs.declared.exchange.ServerStage.TheVariants as server_stage
use Rattle.bus_opening.specs.declared.exchange.Stage.{Stage}
use Rattle.bus_opening.specs.declared.exchange.Stage.TheVariants as stage
use Rattle.bus_opening.specs.declared.part.ClientPart.{ClientPart}
use Rattle.bus_opening.specs.declared.part.ServerPart.{ServerPart}
use Rattle.bus_opening.specs.declared.part.Part.{Part}
use Rattle.bus_opening.specs.declared.part.Part.TheVariants as part
use Rattle.bus_opening.specs.Talk.{done, refused, Turn, goes, ends}
use Rattle.bus_opening.specs.Client.{Settings, Phase, first, asking, begun, step, piece}
use Rattle.bus_opening.specs.Server.{ServerTerms, ServerPhase, start, auth, data_wanted, begin, server_step}

-- where a conversation is, on either side
pub data Place : Type 0 where
  at_client : Phase → Place
  at_server : ServerPhase → Place

abbrev pub placed : {P Q : Type 0} → (P → Q) → Turn P → Turn Q
placed f (goes pieces phase) = goes pieces (f phase)
placed f (ends pieces status) = ends pieces status

abbrev pub settings_in : ClientPart → Settings
settings_in p = record { hello = p.hello; flatpak = p.flatpak; expected = p.expected; passes = p.passes }

abbrev pub terms_in : ServerPart → ServerTerms
terms_in p = record { guid = p.guid; mechanism = p.mechanism; permitted = p.permitted; passes = p.passes }

-- what a line does; a side has no place on the other one
abbrev pub step_at : Part → Place → List ℕ → Turn Place
step_at (part.Client p) (at_client phase) line = placed at_client (step (settings_in p) phase line)
step_at (part.Client p) (at_server phase) line = ends [] refused
step_at (part.Server p) (at_client phase) line = ends [] refused
step_at (part.Server p) (at_server phase) line = placed at_server (server_step (terms_in p) phase line)

abbrev pub client_phase : ClientStage → Phase
client_phase client_stage.First = first
client_phase (client_stage.Asking guid) = asking guid
client_phase (client_stage.Begun guid) = begun guid

abbrev pub phase_in : ServerStage → ServerPhase
phase_in server_stage.Start = start
phase_in (server_stage.Auth flag) = auth flag
phase_in (server_stage.Data flag) = data_wanted flag
phase_in (server_stage.Begin flag) = begin flag

abbrev pub turn_of : Stage → List (List ℕ) → Turn Place
turn_of (stage.Client s) pieces = goes pieces (at_client (client_phase s))
turn_of (stage.Server s) pieces = goes pieces (at_server (phase_in s))
turn_of (stage.Done guid flag) pieces = ends pieces (done guid flag)
turn_of stage.Refused pieces = ends pieces refused

abbrev pub place_of : Stage → Option Place
place_of (stage.Client s) = Some (at_client (client_phase s))
place_of (stage.Server s) = Some (at_server (phase_in s))
place_of (stage.Done guid flag) = None
place_of stage.Refused = None

-- the stage after a line, and what is said to it
abbrev pub LineAnswered : Part → Stage → List ℕ → Stage → List ℕ → Type 0
LineAnswered p old line new bytes =
    MatchOption (place_of old) (Unit {0}) (λ place. turn_of new (piece bytes) ≡ step_at p place line)

abbrev pub ClientAnswered : ClientPart → Stage → List ℕ → Stage → List ℕ → Type 0
ClientAnswered p old line new bytes = LineAnswered (part.Client p) old line new bytes

abbrev pub ServerAnswered : ServerPart → Stage → List ℕ → Stage → List ℕ → Type 0
ServerAnswered p old line new bytes = LineAnswered (part.Server p) old line new bytes
