-- What the functions answer that read a script.
use Rattle.std.specs.Prelude.{◌≡◌, ℕ, ◌+◌, List, [], ◌∷◌, length, Option, MatchOption, Result, Ok, Err}
use denote.Ref.{Bor}
use Rattle.bus_script.specs.Script.{Refused, lines_in}
use Rattle.bus_script.specs.declared.line.Reason.{Reason}
use Rattle.bus_script.specs.declared.line.LineError.{LineError}
use Rattle.bus_script.specs.declared.line.LineError.TheVariants as line_errors
use Rattle.bus_script.specs.declared.reading.ScriptError.{ScriptError}
use Rattle.bus_script.specs.declared.reading.ScriptError.TheVariants as errors

-- a line is refused for this reason, or memory ran out
abbrev pub Fails : {X : Type 0} → LineError → Result X Reason → Type 0
Fails line_errors.OutOfMemory read = Unit {0}
Fails (line_errors.Refused r) read = read ≡ Err r

-- what a function returned is what the definition reads
abbrev pub Gives : {X : Type 0} → Result X LineError → Result X Reason → Type 0
Gives (Ok x) read = read ≡ Ok x
Gives (Err e) read = Fails e read

-- a call that changes the script so far makes the definition's step
abbrev pub Steps : {X Y : Type 0} → Result Y LineError → X → Result X Reason → Type 0
Steps (Ok _) new read = read ≡ Ok new
Steps (Err e) new read = Fails e read

-- the text is refused at this line for this reason, or memory ran out
abbrev pub FailsAt : {X : Type 0} → ScriptError → Result X Refused → Type 0
FailsAt errors.OutOfMemory read = Unit {0}
FailsAt (errors.Refused line reason) read = read ≡ Err (record { line = line; reason = reason })

abbrev pub StepsAt : {X Y : Type 0} → Result Y ScriptError → X → Result X Refused → Type 0
StepsAt (Ok _) new read = read ≡ Ok new
StepsAt (Err e) new read = FailsAt e read

abbrev pub GivesAt : {X : Type 0} → Result X ScriptError → Result X Refused → Type 0
GivesAt (Ok x) read = read ≡ Ok x
GivesAt (Err e) read = FailsAt e read

-- The parts are the first line and what follows it, and the lines of the text are that line and those of the rest. A
-- text without a line feed is one line.
abbrev pub CutsLine : List ℕ → Option (Bor (List ℕ) × Bor (List ℕ)) → Type 0
CutsLine text r = MatchOption r (lines_in text ≡ text ∷ [])
    (λ x. (lines_in text ≡ x.0.now ∷ lines_in x.1.now) × (length x.0.now + length x.1.now + 1 ≡ length text))
