-- What holds of each script that is read.
use Rattle.std.specs.Prelude.{◌≡◌, ℕ, ◌≤◌, List, [], ◌∷◌, length, None}
use Rattle.std.specs.List.{AllPass}
use Rattle.bus_script.specs.Script.{Script, names_sessions}
use Rattle.bus_script.specs.declared.reading.ScriptForm.{ScriptForm}
use Rattle.bus_script.specs.declared.reading.ScriptForm.TheVariants as script_forms
use Rattle.bus_script.specs.declared.line.Answer.{Answer}
use Rattle.bus_script.specs.declared.line.Answer.TheVariants as answers

-- for `open` neither a start nor answers stand in it
abbrev pub HasForm : ScriptForm → Script → Type 0
HasForm script_forms.Play s = Unit {0}
HasForm script_forms.Open s = (s.start ≡ None) × (s.answers ≡ [])

-- the sessions that the answers name are there
abbrev pub NamesItsSessions : Script → Type 0
NamesItsSessions s = AllPass (λ a. names_sessions (length s.sessions) a) s.answers

-- from this reading on, no reading of the clock is below the one before
abbrev pub IsForward : ℕ → List Answer → Type 0
IsForward t [] = Unit {0}
IsForward t (answers.Now u ∷ more) = (t ≤ u) × IsForward u more
IsForward t (_ ∷ more) = IsForward t more
