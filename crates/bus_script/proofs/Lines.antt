-- What the loop over lines keeps.
use Rattle.std.proofs.Common.{◌≡◌, ◌≢◌, ℕ, suc, ◌+◌, ◌<◌, ◌≤◌, Bool, true, false, List, [], ◌∷◌, ◌++◌, length, get_or}
use Rattle.std.proofs.Common.{Option, Some, None, Result, Ok, Err, refl, ◌∙◌, subst, ap, arith, Bor, lit<}
use Rattle.std.proofs.Common.{length-append, nat_lt}
use Rattle.std.specs.List.{slice_split, onto_first}
use Rattle.std.specs.Str.{is_utf8, IsUtf8}
use Rattle.std.proofs.lemmas.Str.{is_utf8-from_IsUtf8, IsUtf8-from_is_utf8}
use Rattle.std.proofs.lemmas.Str.Pattern.{IsSplitOnceResult, split_parts}
use Rattle.std.proofs.lemmas.List.Splits.{slice_split-cons_no, slice_split-cons_yes}
use lib.Dec.{eqb}
use Rattle.bus_script.specs.Words.{◌>>=◌}
use Rattle.bus_script.specs.declared.line.Reason.TheVariants as reasons
use Rattle.bus_script.specs.declared.reading.ScriptError.{ScriptError}
use Rattle.bus_script.specs.declared.reading.ScriptForm.{ScriptForm}
use Rattle.bus_script.specs.declared.reading.ScriptError.TheVariants as errors
use Rattle.bus_script.specs.Script.{Script, Refused, empty, read_line, read_lines, at_line, whole, script, lines_in}
use Rattle.bus_script.specs.Reading.{FailsAt, CutsLine}

other : (b : ℕ) → b ≢ 10 → eqb b 10 ≡ false
other b h = grind arith

unsplit : (bs : List ℕ) → ((i : ℕ) → i < length bs → get_or bs i 0 ≢ 10) → slice_split (λ b. eqb b 10) bs ≡ bs ∷ []
unsplit [] h = refl
unsplit (b ∷ bs) h = slice_split-cons_no (λ x. eqb x 10) b bs (other b (h 0 (omega arith))) ∙ ap (λ v. onto_first b v)
    (unsplit bs (λ i l. h (suc i) (omega arith)))

split_here : (xs ys : List ℕ) → ((i : ℕ) → i < length xs → get_or xs i 0 ≢ 10) →
    slice_split (λ b. eqb b 10) (xs ++ 10 ∷ ys) ≡ xs ∷ slice_split (λ b. eqb b 10) ys
split_here [] ys h = slice_split-cons_yes (λ x. eqb x 10) 10 ys refl
split_here (x ∷ xs) ys h = slice_split-cons_no (λ b. eqb b 10) x (xs ++ 10 ∷ ys) (other x (h 0 (omega arith)))
    ∙ ap (λ v. onto_first x v) (split_here xs ys (λ i l. h (suc i) (omega arith)))

pub cut_line : (bs : List ℕ) (r : Option (Bor (List ℕ) × Bor (List ℕ))) → IsSplitOnceResult 10 bs r → CutsLine bs r
cut_line bs None h = unsplit bs (split_parts 10 bs None h (lit< tt))
cut_line bs (Some x) h =
    let parts = split_parts 10 bs (Some x) h (lit< tt) in (
      rw parts.0 (split_here x.0.now x.1.now parts.1),
      omega (arith, ap length parts.0, length-append x.0.now (10 ∷ x.1.now)),
    )

pub step_ok : (form : ScriptForm) (n : ℕ) (s s' : Script) (line : List ℕ) (more all : List (List ℕ)) → all ≡ line ∷ more →
    at_line n (read_line form s line) ≡ Ok s' → read_lines form n s all ≡ read_lines form (n + 1) s' more
unfolding read_lines
step_ok form n s s' line more all cut step = rw (cut, step) refl

pub last_ok : (form : ScriptForm) (n : ℕ) (s s' : Script) (line : List ℕ) (all : List (List ℕ)) → all ≡ line ∷ [] →
    at_line n (read_line form s line) ≡ Ok s' → read_lines form n s all ≡ Ok s'
unfolding read_lines
last_ok form n s s' line all cut step = rw (cut, step) refl

pub step_err : (form : ScriptForm) (n : ℕ) (s : Script) (line : List ℕ) (more all : List (List ℕ)) (e : ScriptError) →
    all ≡ line ∷ more →
    FailsAt e (at_line n (read_line form s line)) → FailsAt e (read_lines form n s all)
unfolding read_lines
step_err form n s line more all errors.OutOfMemory cut step = tt
step_err form n s line more all (errors.Refused k reason) cut step = rw (cut, step) refl

pub fails_as : (e : ScriptError) (a b : Result Script Refused) → a ≡ b → FailsAt e a → FailsAt e b
fails_as e a b h f = subst (λ (v : Result Script Refused). FailsAt e v) h f

pub script_long : (form : ScriptForm) (text : List ℕ) → 16777216 < length text → script form text ≡ Err (record {
  line = 0;
  reason = reasons.Length;
})
unfolding script
script_long form text long = let test : nat_lt 16777216 (length text) ≡ true = grind arith in rw test refl

short : (text : List ℕ) → length text ≤ 16777216 → nat_lt 16777216 (length text) ≡ false
short text h = grind arith

not_text : (text : List ℕ) (b : Bool) → is_utf8 text ≡ b → ¬ (IsUtf8 text) → b ≡ false
not_text text true e h = absurd (h (IsUtf8-from_is_utf8 text e))
not_text text false e h = refl

pub script_bad : (form : ScriptForm) (text : List ℕ) → length text ≤ 16777216 → ¬ (IsUtf8 text) → script form text ≡ Err (record {
  line = 0;
  reason = reasons.Text;
})
unfolding script
script_bad form text fits bad = rw (short text fits, not_text text (is_utf8 text) refl bad) refl

script_text : (form : ScriptForm) (text : List ℕ) → length text ≤ 16777216 → IsUtf8 text →
    script form text ≡ (read_lines form 1 empty (lines_in text) >>= whole)
unfolding script
script_text form text fits good = rw (short text fits, is_utf8-from_IsUtf8 text good) refl

pub script_ok : (form : ScriptForm) (text : List ℕ) (s : Script) → length text ≤ 16777216 → IsUtf8 text →
    read_lines form 1 empty (lines_in text) ≡ Ok s → script form text ≡ whole s
script_ok form text s fits good read = script_text form text fits good ∙ rw read refl

pub script_err : (form : ScriptForm) (text : List ℕ) (e : ScriptError) → length text ≤ 16777216 → IsUtf8 text →
    FailsAt e (read_lines form 1 empty (lines_in text)) → FailsAt e (script form text)
script_err form text errors.OutOfMemory fits good read = tt
script_err form text (errors.Refused k reason) fits good read = script_text form text fits good ∙ rw read refl
