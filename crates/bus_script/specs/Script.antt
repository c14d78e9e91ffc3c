-- The script that a text spells.
use Rattle.std.specs.Prelude.{ℕ, ◌+◌, Bool, true, false, not, List, [], ◌∷◌, ◌++◌, length, fold, Option, Some, None, is_some}
use Rattle.std.specs.Prelude.{is_none, Result, Ok, Err, ◌||◌, nat_lt, nat_eq, if◌then◌else◌, codes, ◌==◌}
use Rattle.std.specs.List.{list_all, starts_with}
use Rattle.std.specs.Str.{is_utf8}
use Rattle.bus_session.specs.declared.session.Session.{Session}
use Rattle.bus_script.specs.Words.{◌>>=◌, parts_of, words_of}
use Rattle.bus_script.specs.declared.reading.ScriptForm.{ScriptForm}
use Rattle.bus_script.specs.declared.reading.ScriptForm.TheVariants as script_forms
use Rattle.bus_script.specs.Forms.{line_of}
use Rattle.bus_script.specs.declared.line.Reason.{Reason}
use Rattle.bus_script.specs.declared.line.Reason.TheVariants as reasons
use Rattle.bus_script.specs.declared.line.Start.{Start}
use Rattle.bus_script.specs.declared.line.ReadySource.{ReadySource}
use Rattle.bus_script.specs.declared.line.ReadySource.TheVariants as sources
use Rattle.bus_script.specs.declared.line.ScriptWait.TheVariants as waits
use Rattle.bus_script.specs.declared.line.Answer.{Answer}
use Rattle.bus_script.specs.declared.line.Answer.TheVariants as answers
use Rattle.bus_script.specs.declared.line.Line.{Line}
use Rattle.bus_script.specs.declared.line.Line.TheVariants as lines

-- a script, or the part of it that the lines so far say
pub record Script : Type 0 where
  pub rounds : Option ℕ
  pub start : Option Start
  pub sessions : List Session
  pub answers : List Answer

-- where and why a text is no script; line 0 is the whole of it
pub record Refused : Type 0 where
  pub line : ℕ
  pub reason : Reason

abbrev pub empty : Script
empty = record { rounds = None; start = None; sessions = []; answers = [] }

-- where the reactor's numbers begin: both 0 without a start line
abbrev pub start_of : Option Start → Start
start_of None = record { tick = 0; timer = 0 }
start_of (Some start) = start

abbrev pub is_there : ℕ → ReadySource → Bool
is_there count (sources.Session i) = nat_lt i count
is_there count (sources.Key _) = true

-- the sessions that an answer names are among the first count
abbrev pub names_sessions : ℕ → Answer → Bool
names_sessions count (answers.Dial i _) = nat_lt i count
names_sessions count (answers.Recv i _) = nat_lt i count
names_sessions count (answers.Send i _) = nat_lt i count
names_sessions count (answers.Wait (waits.Reported rs)) = list_all (λ r. is_there count r.source) rs
names_sessions count _ = true

-- the clock's reading after an answer
abbrev pub later : ℕ → Answer → ℕ
later t (answers.Now u) = u
later t _ = t

-- the last reading of the clock, 0 before any
abbrev pub latest : List Answer → ℕ
latest done = fold later 0 done

-- something stands behind the rounds
abbrev pub has_more : Script → Bool
has_more s = is_some s.start || nat_lt 0 (length s.sessions) || nat_lt 0 (length s.answers)

-- the script with one more line, or why that line is wrong behind it
unfoldable pub add : Script → Line → Result Script Reason
add s (lines.Rounds n) = if is_some s.rounds then Err reasons.Order else Ok (record s { rounds = Some n })
add s (lines.Start tick timer) =
    if is_none s.rounds || has_more s then Err reasons.Order
    else Ok (record s { start = Some (record { tick = tick; timer = timer }) })
add s (lines.Session l) =
    if is_none s.rounds || nat_lt 0 (length s.answers) then Err reasons.Order
    else Ok (record s { sessions = s.sessions ++ l ∷ [] })
add s (lines.Answer a) =
    if is_none s.rounds then Err reasons.Order
    else if not (names_sessions (length s.sessions) a) then Err reasons.Session
    else if nat_lt (later (latest s.answers) a) (latest s.answers) then Err reasons.Clock
    else Ok (record s { answers = s.answers ++ a ∷ [] })

-- empty lines and remarks
abbrev pub is_skipped : List ℕ → Bool
is_skipped line = length line == 0 || starts_with nat_eq line (codes "#")

-- the lines that a script of this command may have: for `open` the rounds and the sessions, since real things answer
unfoldable pub is_allowed : ScriptForm → Line → Bool
is_allowed script_forms.Play line = true
is_allowed script_forms.Open (lines.Rounds n) = true
is_allowed script_forms.Open (lines.Start tick timer) = false
is_allowed script_forms.Open (lines.Session session) = true
is_allowed script_forms.Open (lines.Answer answer) = false

abbrev pub allowed : ScriptForm → Line → Result Line Reason
allowed form line = if is_allowed form line then Ok line else Err reasons.Form

-- the line that the words say in a script of this command, or a refusal
abbrev pub line_in : ScriptForm → List (List ℕ) → Result Line Reason
line_in form words = line_of words >>= allowed form

unfoldable pub read_line : ScriptForm → Script → List ℕ → Result Script Reason
read_line form s line = if is_skipped line then Ok s else (line_in form (words_of line) >>= add s)

abbrev pub at_line : {X : Type 0} → ℕ → Result X Reason → Result X Refused
at_line n (Ok x) = Ok x
at_line n (Err reason) = Err (record { line = n; reason = reason })

-- the script with these lines behind it; n is the number of the first of them
unfoldable pub read_lines : ScriptForm → ℕ → Script → List (List ℕ) → Result Script Refused
read_lines form n s [] = Ok s
read_lines form n s (line ∷ more) = at_line n (read_line form s line) >>= λ s'. read_lines form (n + 1) s' more

-- a script has its rounds
abbrev pub whole : Script → Result Script Refused
whole s = if is_none s.rounds then Err (record { line = 0; reason = reasons.Order }) else Ok s

-- Each line is ended by a line feed, which the last may lack: what stands behind the last line feed is an empty line,
-- if nothing else.
abbrev pub lines_in : List ℕ → List (List ℕ)
lines_in text = parts_of 10 text

-- what the text is as a script of this command
unfoldable pub script : ScriptForm → List ℕ → Result Script Refused
script form text =
    if nat_lt 16777216 (length text) then Err (record { line = 0; reason = reasons.Length })
    else if not (is_utf8 text) then Err (record { line = 0; reason = reasons.Text })
    else (read_lines form 1 empty (lines_in text) >>= whole)
