-- The server's side of the conversation (D-Bus specification, Authentication Protocol).
use Rattle.std.specs.Prelude.{ℕ, ◌+◌, ◌*◌, ◌-◌, ◌^◌, Bool, true, false, ◌&&◌, ◌==◌, nat_lt}
use Rattle.std.specs.Prelude.{if◌then◌else◌, List, [], ◌∷◌, ◌++◌, codes, length, Option, Some, None}
use Rattle.std.specs.Option.{option_and_then}
use Rattle.std.specs.Str.{all_ascii_digits}
use Rattle.bus_opening.specs.declared.config.ServerConfig.{ServerConfig}
use Rattle.bus_opening.specs.declared.mechanism.AuthMechanism.{AuthMechanism}
use Rattle.bus_opening.specs.declared.mechanism.AuthMechanism.TheVariants.{External, Anonymous}
use Rattle.bus_opening.specs.declared.command.Command.{Command}
use Rattle.bus_opening.specs.declared.command.Command.TheVariants as cmd
use Rattle.bus_opening.specs.Mechanisms.{name_of}
use Rattle.bus_opening.specs.Talk.{done, refused, Said, Turn, goes, ends, Side, talk}
use Rattle.bus_opening.specs.Client.{end, text_of_line, command_in}

pub record ServerTerms : Type 0 where
  pub guid : List ℕ
  pub mechanism : AuthMechanism
  pub permitted : Option ℕ
  pub passes : Bool

pub data ServerPhase : Type 0 where
  -- before the first line, which begins with NUL
  start : ServerPhase
  auth : Bool → ServerPhase
  data_wanted : Bool → ServerPhase
  begin : Bool → ServerPhase

abbrev pub rejected : ServerTerms → List (List ℕ)
rejected t = (codes "REJECTED " ++ name_of t.mechanism ++ end) ∷ []

abbrev pub accepted : ServerTerms → List (List ℕ)
accepted t = (codes "OK " ++ t.guid ++ end) ∷ []

abbrev pub misplaced : List (List ℕ)
misplaced = (codes "ERROR Unsupported or misplaced command" ++ end) ∷ []

-- the digits of a number, without its sign
abbrev pub digits_of : List ℕ → List ℕ
digits_of [] = []
digits_of (c ∷ text) = if c == 43 then text else c ∷ text

-- the number of these digits behind a number
abbrev pub number : ℕ → List ℕ → ℕ
number n [] = n
number n (c ∷ digits) = number (10 * n + (c - 48)) digits

-- one or more digits, below 2 ^ 32
abbrev pub user_in : List ℕ → Option ℕ
user_in digits =
    if nat_lt 0 (length digits) && all_ascii_digits digits && nat_lt (number 0 digits) (2 ^ 32)
    then Some (number 0 digits) else None

-- the user number that bytes spell
abbrev pub user_of : List ℕ → Option ℕ
user_of bytes = user_in (digits_of bytes)

abbrev pub is_permitted : Option ℕ → ℕ → Bool
is_permitted None user = false
is_permitted (Some permitted) user = permitted == user

abbrev pub by_user : ServerTerms → Bool → Option ℕ → Turn ServerPhase
by_user t flag None = ends [] refused
by_user t flag (Some user) =
    if is_permitted t.permitted user then goes (accepted t) (begin flag) else goes (rejected t) (auth flag)

abbrev pub is_mechanism : AuthMechanism → AuthMechanism → Bool
is_mechanism External External = true
is_mechanism Anonymous Anonymous = true
is_mechanism _ _ = false

abbrev pub with_data : ServerTerms → Bool → AuthMechanism → List ℕ → Turn ServerPhase
with_data t flag Anonymous bytes = goes (accepted t) (begin flag)
with_data t flag External bytes = by_user t flag (user_of bytes)

abbrev pub in_auth : ServerTerms → Bool → Command → Turn ServerPhase
in_auth t flag (cmd.Auth (Some m) None) =
    if is_mechanism m t.mechanism then goes ((codes "DATA" ++ end) ∷ []) (data_wanted flag)
    else goes (rejected t) (auth flag)
in_auth t flag (cmd.Auth (Some m) (Some bytes)) =
    if is_mechanism m t.mechanism then with_data t flag m bytes else goes (rejected t) (auth flag)
in_auth t flag (cmd.Auth None bytes) = goes (rejected t) (auth flag)
in_auth t flag cmd.Cancel = goes (rejected t) (auth flag)
in_auth t flag (cmd.Error text) = goes (rejected t) (auth flag)
in_auth t flag _ = goes misplaced (auth flag)

abbrev pub on_data : ServerTerms → Bool → AuthMechanism → Option (List ℕ) → Turn ServerPhase
on_data t flag External (Some bytes) = by_user t flag (user_of bytes)
on_data t flag _ _ = goes (accepted t) (begin flag)

abbrev pub in_data : ServerTerms → Bool → Command → Turn ServerPhase
in_data t flag (cmd.Data bytes) = on_data t flag t.mechanism bytes
in_data t flag _ = goes misplaced (data_wanted flag)

abbrev pub in_begin : ServerTerms → Bool → Command → Turn ServerPhase
in_begin t flag cmd.Begin = ends [] (done t.guid flag)
in_begin t flag cmd.Cancel = goes (rejected t) (auth flag)
in_begin t flag (cmd.Error text) = goes (rejected t) (auth flag)
in_begin t flag cmd.NegotiateUnixFD =
    if t.passes then goes ((codes "AGREE_UNIX_FD" ++ end) ∷ []) (begin true)
    else goes ((codes "ERROR FD-passing not possible on this socket type" ++ end) ∷ []) (begin flag)
in_begin t flag _ = goes misplaced (begin flag)

abbrev pub step_server : ServerTerms → ServerPhase → Command → Turn ServerPhase
step_server t start c = in_auth t false c
step_server t (auth flag) c = in_auth t flag c
step_server t (data_wanted flag) c = in_data t flag c
step_server t (begin flag) c = in_begin t flag c

-- the line as its command is read: the first one without its NUL
abbrev pub without_nul : List ℕ → Option (List ℕ)
without_nul [] = None
without_nul (c ∷ line) = if c == 0 then Some line else None

abbrev pub line_of : ServerPhase → List ℕ → Option (List ℕ)
line_of start line = without_nul line
line_of _ line = Some line

abbrev pub server_or_refuse : ServerTerms → ServerPhase → Option Command → Turn ServerPhase
server_or_refuse t phase None = ends [] refused
server_or_refuse t phase (Some c) = step_server t phase c

-- what a line does
abbrev pub server_step : ServerTerms → ServerPhase → List ℕ → Turn ServerPhase
server_step t phase line = server_or_refuse t phase (command_in (option_and_then text_of_line (line_of phase line)))

-- the server's side of the conversation; it says nothing before the first line
abbrev pub server_side : ServerTerms → Side ServerPhase
server_side t = record { opening = []; start = start; step = server_step t }

-- what a server says after these lines
unfoldable pub server : ServerTerms → List (List ℕ) → Said
server t = talk (server_side t)

abbrev pub server_terms_of : ServerConfig → Bool → ServerTerms
server_terms_of config passes = record {
  guid = config.guid;
  mechanism = config.mechanism;
  permitted = config.permitted;
  passes = passes;
}
