-- A script has few sessions, since it has few lines.
use Rattle.std.proofs.Common.{◌≡◌, ℕ, ◌+◌, ◌<◌, ◌≤◌, ◌^◌, true, false, List, [], ◌∷◌, length, Ok, refl, sym, ap, ◌∙◌}
use Rattle.std.proofs.Common.{arith, inl, inr, nat_lt}
use Rattle.std.specs.Prelude.{is_ok, ◌==◌}
use Rattle.std.proofs.lemmas.Bool.{true≢false}
use Rattle.std.proofs.lemmas.Grind.{common_steps}
use Rattle.std.proofs.lemmas.List.Splits.{length-slice_split}
use Rattle.std.proofs.lemmas.List.Sums.{count_by-le-length}
use Rattle.std.specs.Result.{IfOk}
use Rattle.std.proofs.Common.{Result, Err}
use Rattle.bus_script.specs.Script.{Script, script, lines_in}
use Rattle.bus_script.specs.Reading.{GivesAt}
use Rattle.bus_script.specs.declared.reading.ScriptForm.{ScriptForm}
use Rattle.bus_script.specs.declared.reading.ScriptError.{ScriptError}
use Rattle.bus_script.proofs.Shape.{script_says}
use Rattle.bus_script.specs.Shape.{Say, lines_of}
use Rattle.bus_script.specs.declared.line.Line.{Line}

-- the lines of a text are no fewer than what they say
said_few : (form : ScriptForm) (texts : List (List ℕ)) (said : List Line) → Say form texts said →
    length said ≤ length texts
said_few form [] said nothing = omega (arith, ap length nothing)
said_few form (text ∷ texts) said (inl skipped) = omega (arith, said_few form texts said skipped.1)
said_few form (text ∷ texts) said (inr read) = omega (arith, ap length read.1.2, said_few form texts read.1.1 read.1.4)

lines_few : (text : List ℕ) → length (lines_in text) ≤ length text + 1
lines_few text = omega (arith, length-slice_split (λ b. b == 10) text, count_by-le-length (λ b. b == 10) text)

-- a script has at most 16777216 bytes
bytes_few : (form : ScriptForm) (text : List ℕ) (s : Script) → script form text ≡ Ok s → length text ≤ 16777216
unfolding script
bytes_few form text s is =
    elim (nat_lt 16777216 (length text)) as (λ b. nat_lt 16777216 (length text) ≡ b → length text ≤ 16777216) [
      | true ↦ λ long. let wrong : is_ok (script form text) ≡ false =
          rw long refl in absurd (true≢false (sym (ap is_ok is) ∙ wrong))
      | false ↦ λ short. grind (arith, short)
    ] refl

script_few : (form : ScriptForm) (text : List ℕ) (s : Script) → script form text ≡ Ok s → length s.sessions < 2 ^ 32
script_few form text s is =
    let sessions : length s.sessions ≤ length (lines_of s) = grind (arith, common_steps) in
    omega (
      arith,
      sessions,
      said_few form (lines_in text) (lines_of s) (script_says form text s is),
      lines_few text,
      bytes_few form text s is,
    )

pub sessions_few : (form : ScriptForm) (text : List ℕ) (r : Result Script ScriptError) →
    GivesAt r (script form text) → IfOk r (λ s. length s.sessions < 2 ^ 32)
sessions_few form text (Ok s) is = script_few form text s is
sessions_few form text (Err e) is = tt
