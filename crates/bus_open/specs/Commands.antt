-- What the words of a command line ask for.
use Rattle.std.specs.Prelude.{ℕ, ◌≤◌, List, [], ◌∷◌, Option, Some, None, Result, codes, if◌then◌else◌}
use Rattle.std.specs.Option.{option_map, ok_or}
use Rattle.bus_script.specs.Words.{◌is◌, number_of}
use Rattle.bus_script.specs.declared.line.Reason.{Reason}
use Rattle.bus_script.specs.declared.line.Reason.TheVariants.{Words}
use Rattle.bus_check.specs.declared.kind.Kind.{Kind}
use Rattle.bus_check.specs.declared.kind.Kind.TheVariants as kind
use Rattle.bus_open.specs.declared.command.Command.{Command}
use Rattle.bus_open.specs.declared.command.Command.TheVariants.{Play, Open, Bulk, Check}

abbrev pub kind_of : List ℕ → Option Kind
kind_of word =
    if word is codes "signature" then Some kind.Signature
    else if word is codes "address" then Some kind.Address
    else if word is codes "bus" then Some kind.BusName
    else if word is codes "unique" then Some kind.UniqueName
    else if word is codes "well-known" then Some kind.WellKnownName
    else if word is codes "interface" then Some kind.InterfaceName
    else if word is codes "member" then Some kind.MemberName
    else if word is codes "property" then Some kind.PropertyName
    else if word is codes "error" then Some kind.ErrorName
    else None

-- the command that these words name; a count is written as a number of a script, and is at most 10000
abbrev pub command : List (List ℕ) → Option Command
command (name ∷ []) = if name is codes "play" then Some Play else if name is codes "open" then Some Open else None
command (name ∷ count ∷ []) = if name is codes "bulk" then option_map Bulk (number_of 10001 count) else None
command (name ∷ kind ∷ text ∷ []) = if name is codes "check" then option_map Check (kind_of kind) else None
command _ = None

-- what the words ask for, or why they are refused
abbrev pub asked : List (List ℕ) → Result Command Reason
asked words = ok_or (command words) Words

-- the text that is to be checked
abbrev pub checked_text : List (List ℕ) → List ℕ
checked_text (name ∷ kind ∷ text ∷ []) = text
checked_text _ = []

-- a bulk run has so many sessions at most
abbrev pub IsOfFew : Command → Type 0
IsOfFew Play = Unit {0}
IsOfFew (Check kind) = Unit {0}
IsOfFew Open = Unit {0}
IsOfFew (Bulk count) = count ≤ 10000
