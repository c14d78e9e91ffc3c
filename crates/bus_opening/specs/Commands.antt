-- Commands as texts.
use Rattle.std.specs.Prelude.{ℕ, if◌then◌else◌, List, [], ◌∷◌, ◌++◌, codes, Option, Some, None}
use Rattle.std.specs.Option.{option_map, option_and_then}
use Rattle.std.specs.Result.{result_ok}
use Rattle.std.specs.List.{join_with_byte}
use Rattle.std.specs.Str.{bytes_eq}
use Rattle.bus_address.specs.Guid.{guid}
use Rattle.hex.specs.Hex.{decode_of, encode_lower}
use Rattle.bus_opening.specs.Mechanisms.{mechanism, name_of}
use Rattle.bus_opening.specs.Words.{words, trimmed, first_word}
use Rattle.bus_opening.specs.declared.mechanism.AuthMechanism.{AuthMechanism}
use Rattle.bus_opening.specs.declared.command.Command.{Command}
use Rattle.bus_opening.specs.declared.command.Command.TheVariants.{Auth, Cancel, Begin, Data, Error}
use Rattle.bus_opening.specs.declared.command.Command.TheVariants.{NegotiateUnixFD, AgreeUnixFD, Rejected}
use Rattle.bus_opening.specs.declared.command.Command.TheVariants as the
use Rattle.bus_opening.specs.declared.command.Keyword.{Keyword}
use Rattle.bus_opening.specs.declared.command.Keyword.TheVariants as key

-- the word that a command begins with
abbrev pub keyword : List ℕ → Option Keyword
keyword word =
    if bytes_eq word (codes "AUTH") then Some key.Auth
    else if bytes_eq word (codes "CANCEL") then Some key.Cancel
    else if bytes_eq word (codes "BEGIN") then Some key.Begin
    else if bytes_eq word (codes "DATA") then Some key.Data
    else if bytes_eq word (codes "ERROR") then Some key.Error
    else if bytes_eq word (codes "NEGOTIATE_UNIX_FD") then Some key.NegotiateUnixFD
    else if bytes_eq word (codes "AGREE_UNIX_FD") then Some key.AgreeUnixFD
    else if bytes_eq word (codes "REJECTED") then Some key.Rejected
    else if bytes_eq word (codes "OK") then Some key.Ok
    else None

-- the bytes of a word of hexadecimal digits
abbrev pub hex_bytes : List ℕ → Option (List ℕ)
hex_bytes word = result_ok (decode_of word)

abbrev pub auth : List (List ℕ) → Option Command
auth [] = Some (Auth None None)
auth (name ∷ []) = option_map (λ m. Auth (Some m) None) (mechanism name)
auth (name ∷ word ∷ more) =
    option_and_then (λ m. option_map (λ bytes. Auth (Some m) (Some bytes)) (hex_bytes word)) (mechanism name)

abbrev pub data_of : List (List ℕ) → Option Command
data_of [] = Some (Data None)
data_of (word ∷ more) = option_map (λ bytes. Data (Some bytes)) (hex_bytes word)

abbrev pub ok_of : List (List ℕ) → Option Command
ok_of [] = None
ok_of (word ∷ more) = option_map the.Ok (guid word)

-- the command of a key word, the text and the words that follow it
abbrev pub command_of : Keyword → List ℕ → Option Command
command_of key.Auth rest = auth (words rest)
command_of key.Cancel rest = Some Cancel
command_of key.Begin rest = Some Begin
command_of key.Data rest = data_of (words rest)
command_of key.Error rest = Some (Error (trimmed rest))
command_of key.NegotiateUnixFD rest = Some NegotiateUnixFD
command_of key.AgreeUnixFD rest = Some AgreeUnixFD
command_of key.Rejected rest = Some (Rejected (join_with_byte 32 (words rest)))
command_of key.Ok rest = ok_of (words rest)

-- the command that a text spells
abbrev pub command : List ℕ → Option Command
command text =
    option_and_then (λ front. option_and_then (λ word. command_of word front.1) (keyword front.0)) (first_word text)

-- ---- printing

abbrev pub auth_text : Option AuthMechanism → Option (List ℕ) → List ℕ
auth_text None bytes = codes "AUTH"
auth_text (Some m) None = codes "AUTH " ++ name_of m
auth_text (Some m) (Some bytes) = codes "AUTH " ++ (name_of m ++ (codes " " ++ encode_lower bytes))

abbrev pub data_text : Option (List ℕ) → List ℕ
data_text None = codes "DATA"
data_text (Some bytes) = codes "DATA " ++ encode_lower bytes

abbrev pub text_of : Command → List ℕ
text_of (Auth m bytes) = auth_text m bytes
text_of Cancel = codes "CANCEL"
text_of Begin = codes "BEGIN"
text_of (Data bytes) = data_text bytes
text_of (Error text) = codes "ERROR " ++ text
text_of NegotiateUnixFD = codes "NEGOTIATE_UNIX_FD"
text_of AgreeUnixFD = codes "AGREE_UNIX_FD"
text_of (Rejected text) = codes "REJECTED " ++ text
text_of (the.Ok guid) = codes "OK " ++ guid
