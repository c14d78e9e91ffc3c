-- The client's side of the conversation (D-Bus specification, Authentication Protocol).
use Rattle.std.specs.Prelude.{ℕ, Bool, true, false, not, ◌&&◌, ◌==◌, if◌then◌else◌, List, [], ◌∷◌}
use Rattle.std.specs.Prelude.{◌++◌, codes, length, take, slice_index, Option, Some, None, unwrap_or}
use Rattle.std.specs.Str.{bytes_eq, is_utf8}
use Rattle.std.specs.Fmt.{decimal}
use Rattle.hex.specs.Hex.{encode_lower}
use Rattle.bus_opening.specs.declared.config.ClientConfig.{ClientConfig}
use Rattle.bus_opening.specs.declared.mechanism.AuthMechanism.{AuthMechanism}
use Rattle.bus_opening.specs.declared.mechanism.AuthMechanism.TheVariants.{External, Anonymous}
use Rattle.bus_opening.specs.declared.command.Command.{Command}
use Rattle.bus_opening.specs.declared.command.Command.TheVariants as cmd
use Rattle.bus_opening.specs.Commands.{command}
use Rattle.bus_opening.specs.Talk.{Said, done, refused, Turn, goes, ends, Side, talk}

-- a client's configuration and the wire that was opened for it
pub record Terms : Type 0 where
  pub mechanism : AuthMechanism
  pub user : ℕ
  pub hello : List ℕ
  pub flatpak : Bool
  pub expected : Option (List ℕ)
  pub passes : Bool
  pub nonce : List ℕ

-- what the answers to lines rest on
pub record Settings : Type 0 where
  pub hello : List ℕ
  pub flatpak : Bool
  pub expected : Option (List ℕ)
  pub passes : Bool

abbrev pub settings_of : Terms → Settings
settings_of t = record { hello = t.hello; flatpak = t.flatpak; expected = t.expected; passes = t.passes }

pub data Phase : Type 0 where
  -- the first command is waited for
  first : Phase
  -- the answer to NEGOTIATE_UNIX_FD, after which BEGIN is sent
  asking : List ℕ → Phase
  -- the same, where BEGIN was sent already
  begun : List ℕ → Phase

-- a line's end
abbrev pub end : List ℕ
end = 13 ∷ 10 ∷ []

-- what a line says: CR before the line feed, and text before them; a line feed at place 0 has nothing before it
abbrev pub text_of_line : List ℕ → Option (List ℕ)
text_of_line [] = None
text_of_line (feed ∷ []) = None
text_of_line (c ∷ d ∷ more) =
    let line = c ∷ d ∷ more in
    let text = take (length more) line in
    if (slice_index line (length more) == 13) && is_utf8 text then Some text else None

abbrev pub auth_line : AuthMechanism → ℕ → List ℕ
auth_line External user = codes "AUTH EXTERNAL " ++ encode_lower (decimal user)
auth_line Anonymous user = codes "AUTH ANONYMOUS 7a627573"

abbrev pub begin_piece : Settings → List ℕ
begin_piece t = codes "BEGIN" ++ end ++ t.hello

abbrev pub negotiate : List ℕ
negotiate = codes "NEGOTIATE_UNIX_FD" ++ end

-- whether a GUID is the one that is expected
abbrev pub is_expected : Option (List ℕ) → List ℕ → Bool
is_expected None guid = true
is_expected (Some wanted) guid = bytes_eq wanted guid

-- after the first OK
abbrev pub after_ok : Settings → List ℕ → Turn Phase
after_ok t guid =
    if not (is_expected t.expected guid) then ends [] refused
    else if t.passes && t.flatpak then goes (negotiate ∷ []) (asking guid)
    else if t.passes then goes ((negotiate ++ begin_piece t) ∷ []) (begun guid)
    else ends (begin_piece t ∷ []) (done guid false)

abbrev pub step_command : Settings → Phase → Command → Turn Phase
step_command t first (cmd.Ok guid) = after_ok t guid
step_command t first _ = ends [] refused
step_command t (asking guid) cmd.AgreeUnixFD = ends (begin_piece t ∷ []) (done guid true)
step_command t (asking guid) (cmd.Error text) = ends (begin_piece t ∷ []) (done guid false)
step_command t (asking guid) _ = ends [] refused
step_command t (begun guid) (cmd.Ok again) = if bytes_eq guid again then ends [] (done guid false) else ends [] refused
step_command t (begun guid) cmd.AgreeUnixFD = ends [] (done guid true)
step_command t (begun guid) (cmd.Error text) = ends [] (done guid false)
step_command t (begun guid) _ = ends [] refused

abbrev pub step_or_refuse : Settings → Phase → Option Command → Turn Phase
step_or_refuse t phase None = ends [] refused
step_or_refuse t phase (Some c) = step_command t phase c

abbrev pub command_in : Option (List ℕ) → Option Command
command_in None = None
command_in (Some text) = command text

abbrev pub step : Settings → Phase → List ℕ → Turn Phase
step t phase line = step_or_refuse t phase (command_in (text_of_line line))

-- a piece, if it isn't empty
abbrev pub piece : List ℕ → List (List ℕ)
piece [] = []
piece (c ∷ bytes) = (c ∷ bytes) ∷ []

abbrev pub opening : Terms → List (List ℕ)
opening t = piece t.nonce ++ (0 ∷ auth_line t.mechanism t.user ++ end) ∷ []

-- the client's side of the conversation
abbrev pub client_side : Terms → Side Phase
client_side t = record { opening = opening t; start = first; step = step (settings_of t) }

-- what a client says after these lines
unfoldable pub client : Terms → List (List ℕ) → Said
client t = talk (client_side t)

-- ---- the terms of a client

-- the mechanism that is taken, where the wire is one of TCP or not
abbrev pub mechanism_of : Option AuthMechanism → Bool → AuthMechanism
mechanism_of (Some mechanism) tcp = mechanism
mechanism_of None tcp = if tcp then Anonymous else External

abbrev pub terms_of : ClientConfig → Option (List ℕ) → Bool → Bool → List ℕ → Terms
terms_of config expected passes tcp nonce = record {
  mechanism = mechanism_of config.mechanism tcp;
  user = config.user;
  hello = unwrap_or config.hello [];
  flatpak = config.flatpak;
  expected = expected;
  passes = passes;
  nonce = nonce;
}
