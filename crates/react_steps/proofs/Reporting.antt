-- Reports as they are gone through, one after another.
use Rattle.std.proofs.Common.{◌≡◌, ℕ, ◌≤◌, Bool, true, false, true≢false, List, [], ◌∷◌, ◌++◌, Option, Some, None, is_some, length, refl, sym, ap, ◌∙◌, arith}
use Rattle.std.specs.Prelude.{◌||◌}
use Rattle.react_core.specs.declared.outside.Report.{Report}
use Rattle.react_core.specs.Keyed.{at_key, KeysRiseFrom}
use Rattle.react_core.specs.Places.{Source}
use Rattle.react_core.specs.Reports.{Arming, reported, after_report_of, after_report, after_reports}
use Rattle.react_core.specs.Sources.{source_of}
use Rattle.react_core.proofs.Keyed.{KeysRiseFrom-with_at}
use Rattle.react_steps.specs.declared.armed.Armed.{Armed}
use Rattle.react_steps.specs.World.{with_armings, made_of, fails_of, less, without_report_of, without_report, without_reports}
use Rattle.react_steps.proofs.Rows.{keys-with_at}

pub made_of-none : (armings : List Arming) → made_of false armings ≡ armings
made_of-none [] = refl
made_of-none (a ∷ armings) = refl

pub fails_of-none : (armings : List Arming) → fails_of false armings ≡ false
fails_of-none [] = refl
fails_of-none (a ∷ armings) = refl

or-false : (b : Bool) → (b || false) ≡ b
or-false true = refl
or-false false = refl

or-true : (b : Bool) → (b || true) ≡ true
or-true true = refl
or-true false = refl

-- a report whose call of the poller fails
pub failing-armed : (fails : Bool) (first rest : List Arming) (armed : List (ℕ × Armed)) → length first ≤ 1 → fails_of fails first ≡ true →
    with_armings (with_armings armed (made_of fails first)) (made_of false rest) ≡ with_armings armed (made_of fails (first ++ rest))
failing-armed fails [] rest armed one is = absurd (cc)
failing-armed true (a ∷ []) rest armed one is = ap (with_armings armed) (made_of-none rest)
failing-armed false (a ∷ first) rest armed one is = absurd (cc)
failing-armed true (a ∷ b ∷ first) rest armed one is = absurd (omega arith)

pub failing-failed : (fails : Bool) (first rest : List Arming) (failed : Bool) → fails_of fails first ≡ true →
    (true || fails_of false rest) ≡ (failed || fails_of fails (first ++ rest))
failing-failed fails [] rest failed is = absurd (cc)
failing-failed true (a ∷ first) rest failed is = sym (or-true failed)
failing-failed false (a ∷ first) rest failed is = absurd (cc)

-- a report whose call of the poller doesn't
pub going-armed : (fails : Bool) (first rest : List Arming) (armed : List (ℕ × Armed)) → length first ≤ 1 → fails_of fails first ≡ false →
    with_armings (with_armings armed (made_of fails first)) (made_of fails rest) ≡ with_armings armed (made_of fails (first ++ rest))
going-armed fails [] rest armed one is = refl
going-armed true (a ∷ first) rest armed one is = absurd (cc)
going-armed false (a ∷ []) rest armed one is = ap (with_armings (with_armings armed (a ∷ []))) (made_of-none rest)
going-armed false (a ∷ b ∷ first) rest armed one is = absurd (omega arith)

pub going-failed : (fails : Bool) (first rest : List Arming) (failed : Bool) → fails_of fails first ≡ false →
    (failed || fails_of fails rest) ≡ (failed || fails_of fails (first ++ rest))
going-failed fails [] rest failed is = refl
going-failed true (a ∷ first) rest failed is = absurd (cc)
going-failed false (a ∷ first) rest failed is = ap (λ b. failed || b) (fails_of-none rest)

-- ---- keys

rises-report_of : (ticker : ℕ) (sources : List (ℕ × Source)) (r : Report) (o : Option Source) → KeysRiseFrom 0 sources → KeysRiseFrom 0 (after_report_of ticker sources r o)
rises-report_of ticker sources r None rises = rises
rises-report_of ticker sources r (Some s) rises = KeysRiseFrom-with_at 0 sources r.key (reported ticker r s) rises

pub rises-report : (ticker : ℕ) (sources : List (ℕ × Source)) (r : Report) → KeysRiseFrom 0 sources → KeysRiseFrom 0 (after_report ticker sources r)
rises-report ticker sources r rises = rises-report_of ticker sources r (source_of sources r.key) rises

pub rises-reports : (ticker : ℕ) (sources : List (ℕ × Source)) (reports : List Report) → KeysRiseFrom 0 sources → KeysRiseFrom 0 (after_reports ticker sources reports)
rises-reports ticker sources [] rises = rises
rises-reports ticker sources (r ∷ reports) rises = rises-reports ticker (after_report ticker sources r) reports (rises-report ticker sources r rises)

keys-report_of : (ticker : ℕ) (sources : List (ℕ × Source)) (r : Report) (o : Option Source) (k : ℕ) → is_some (at_key (after_report_of ticker sources r o) k) ≡ is_some (at_key sources k)
keys-report_of ticker sources r None k = refl
keys-report_of ticker sources r (Some s) k = keys-with_at sources r.key (reported ticker r s) k

pub keys-reports : (ticker : ℕ) (sources : List (ℕ × Source)) (reports : List Report) (k : ℕ) → is_some (at_key (after_reports ticker sources reports) k) ≡ is_some (at_key sources k)
keys-reports ticker sources [] k = refl
keys-reports ticker sources (r ∷ reports) k = keys-reports ticker (after_report ticker sources r) reports k ∙ keys-report_of ticker sources r (source_of sources r.key) k

keys-without_of : (armed : List (ℕ × Armed)) (r : Report) (o : Option Armed) (k : ℕ) → is_some (at_key (without_report_of armed r o) k) ≡ is_some (at_key armed k)
keys-without_of armed r None k = refl
keys-without_of armed r (Some a) k = keys-with_at armed r.key (less r a) k

pub keys-without : (armed : List (ℕ × Armed)) (reports : List Report) (k : ℕ) → is_some (at_key (without_reports armed reports) k) ≡ is_some (at_key armed k)
keys-without armed [] k = refl
keys-without armed (r ∷ reports) k = keys-without (without_report armed r) reports k ∙ keys-without_of armed r (at_key armed r.key) k

pub not-none : {T : Type 0} (o : Option T) → o ≡ None → is_some o ≡ true → ⊥
not-none None none some = true≢false (sym some)
not-none (Some x) none some = absurd (cc)
