-- What a client answers.
use Rattle.std.specs.Prelude.{◌≡◌, ℕ, Bool, List, [], ◌∷◌, ◌++◌, codes, Option, Some, None}
use Rattle.bus_opening.specs.declared.command.Command.{Command}
use Rattle.bus_opening.specs.Client.{end, negotiate, after_ok, step_or_refuse}
use Rattle.bus_opening.specs.declared.command.Command.TheVariants as cmd
use Rattle.bus_opening.specs.declared.exchange.ClientStage.{ClientStage}
use Rattle.bus_opening.specs.declared.exchange.ClientStage.TheVariants as stage
use Rattle.bus_opening.specs.declared.exchange.Stage.{Stage}
use Rattle.bus_opening.specs.declared.client_answers.ClientReply.{ClientReply}
use Rattle.bus_opening.specs.declared.client_answers.ClientReply.TheVariants as reply
use Rattle.bus_opening.specs.Parts.{at_client, placed, client_phase, turn_of}

abbrev pub client_pieces : List ℕ → ClientReply → List (List ℕ)
client_pieces hello reply.Nothing = []
client_pieces hello reply.Negotiate = negotiate ∷ []
client_pieces hello reply.Begin = (codes "BEGIN" ++ end ++ hello) ∷ []
client_pieces hello reply.Both = (negotiate ++ (codes "BEGIN" ++ end ++ hello)) ∷ []

abbrev pub IsAfterOk : Option (List ℕ) → Bool → Bool → List ℕ → Stage → ClientReply → Type 0
IsAfterOk expected flatpak passes guid new said =
    (hello : List ℕ)
    → turn_of new (client_pieces hello said)
    ≡ placed at_client
    (after_ok (record { hello = hello; flatpak = flatpak; expected = expected; passes = passes }) guid)

-- what the step table gives
abbrev pub AnswerIs : Option (List ℕ) → Bool → Bool → ClientStage → Option Command → Stage → ClientReply → Type 0
AnswerIs expected flatpak passes old command new said =
    (hello : List ℕ)
    → turn_of new (client_pieces hello said)
    ≡ placed at_client
    (step_or_refuse (record { hello = hello; flatpak = flatpak; expected = expected; passes = passes })
    (client_phase old) command)

abbrev pub ok_guid : Option Command → Option (List ℕ)
ok_guid (Some (cmd.Ok guid)) = Some guid
ok_guid _ = None

abbrev pub IsAtAsking : List ℕ → Option Command → Stage → ClientReply → Type 0
IsAtAsking guid command new said =
    (expected : Option (List ℕ)) (flatpak passes : Bool)
    → AnswerIs expected flatpak passes (stage.Asking guid) command new said

abbrev pub IsAtBegun : List ℕ → Option Command → Stage → ClientReply → Type 0
IsAtBegun guid command new said =
    (expected : Option (List ℕ)) (flatpak passes : Bool)
    → AnswerIs expected flatpak passes (stage.Begun guid) command new said
