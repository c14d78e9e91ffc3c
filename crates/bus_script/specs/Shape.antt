-- The lines of a script that is read, as one list.
use Rattle.std.specs.Prelude.{◌≡◌, ℕ, true, false, List, [], ◌∷◌, ◌++◌, map, Option, Some, None, Ok, ◌⊎◌}
use Rattle.bus_script.specs.Words.{words_of}
use Rattle.bus_script.specs.Script.{Script, is_skipped, line_in}
use Rattle.bus_script.specs.declared.reading.ScriptForm.{ScriptForm}
use Rattle.bus_script.specs.declared.line.Start.{Start}
use Rattle.bus_script.specs.declared.line.Line.{Line}
use Rattle.bus_script.specs.declared.line.Line.TheVariants as lines

-- the texts say these lines of a script of this command, one each, but for the texts that are skipped
abbrev pub Say : ScriptForm → List (List ℕ) → List Line → Type 0
Say form [] said = said ≡ []
Say form (text ∷ texts) said = ((is_skipped text ≡ true) × Say form texts said)
    ⊎ ((is_skipped text ≡ false) × ((line : Line) × (rest : List Line) × (said ≡ line ∷ rest)
    × (line_in form (words_of text) ≡ Ok line) × Say form texts rest))

abbrev pub rounds_lines : Option ℕ → List Line
rounds_lines None = []
rounds_lines (Some n) = lines.Rounds n ∷ []

abbrev pub start_lines : Option Start → List Line
start_lines None = []
start_lines (Some s) = lines.Start s.tick s.timer ∷ []

-- the rounds, then the start, then the sessions, then the answers
abbrev pub lines_of : Script → List Line
lines_of s = ((rounds_lines s.rounds ++ start_lines s.start) ++ map lines.Session s.sessions)
    ++ map lines.Answer s.answers
