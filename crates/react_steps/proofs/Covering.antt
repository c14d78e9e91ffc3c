-- The direction of each task that waits is armed, or named by the reports with which the open round's wait returned.
use Rattle.std.proofs.Common.{◌≡◌, ◌⊎◌, ℕ, Bool, true, false, true≢false, List, [], ◌∷◌, ◌++◌, Option, Some, None, is_some, refl, sym, ap, ◌∙◌, subst, inl, inr}
use Rattle.std.specs.Prelude.{◌==◌, ◌&&◌, ◌||◌, not, if◌then◌else◌}
use Rattle.std.proofs.lemmas.Bool.{eqb-true, eq-eqb}
use Rattle.react_core.specs.declared.outside.Report.{Report}
use Rattle.react_core.specs.declared.reactor.Dir.{Dir}
use Rattle.react_core.specs.declared.reactor.Dir.TheVariants.{Read, Write}
use Rattle.react_core.specs.Asking.{after_direction, after_outcome}
use Rattle.react_core.specs.Futures.{asks, is_fired, with_future, after_future, direction_of, without_future}
use Rattle.react_core.specs.Keyed.{at_key, with_at, without_at, KeysRiseFrom}
use Rattle.react_core.specs.Places.{Entry, Direction, Source}
use Rattle.react_core.specs.Readiness.{Fires, direction_outcome, waiting_outcome, arms, fresh_at, stored_task}
use Rattle.react_core.specs.Reports.{Arming, arming_of, without_task, without_tasks, marked, reported, after_report, armings_by_of, armings_by, armings_by_all}
use Rattle.react_core.specs.Sources.{source_of, side, some_task, has_task, waits}
use Rattle.react_core.proofs.Keyed.{at_key-with_at, KeysRiseFrom-with_at}
use Rattle.react_steps.specs.declared.armed.Armed.{Armed}
use Rattle.react_steps.specs.Accounts.{entry_at, armed_in}
use Rattle.react_steps.specs.Sights.{Place, ThePolled, OfFuture, names_one, names}
use Rattle.react_steps.specs.World.{with_armings, less, without_report_of, without_report, without_reports}
use Rattle.react_steps.proofs.Agreeing.{cases}
use Rattle.react_steps.proofs.Ends.{direction-reports}
use Rattle.react_steps.proofs.Machines.{SameKeys}
use Rattle.react_steps.proofs.Moves.{if-true, if-false}

-- ---- tasks that wait

some-future : (fs : List (ℕ × Entry)) (n task : ℕ) → stored_task (at_key fs n) ≡ Some task → some_task fs ≡ true
some-future [] n task is = absurd (cc)
some-future (f ∷ fs) n task is =
    cases (f.0 == n) (λ b. stored_task (if b then Some f.1 else at_key fs n) ≡ Some task → (is_some f.1.task || some_task fs) ≡ true)
    (λ same here. ap (λ o. is_some o || some_task fs) here)
    (λ differs rest. or-right (is_some f.1.task) (some_task fs) (some-future fs n task rest)) is
  where
    or-right : (a b : Bool) → b ≡ true → (a || b) ≡ true
    or-right true b h = refl
    or-right false b h = h

-- where a task is stored, one waits
pub stored-waits : (place : Place) (d : Direction) (task : ℕ) → stored_task (entry_at place d) ≡ Some task → waits d ≡ true
stored-waits ThePolled d task is = or-right (some_task d.futures) (has_task d.polled) (polled d.polled is)
  where
    or-right : (a b : Bool) → b ≡ true → (a || b) ≡ true
    or-right true b h = refl
    or-right false b h = h

    polled : (e : Option Entry) → stored_task e ≡ Some task → has_task e ≡ true
    polled None h = absurd (cc)
    polled (Some e) h = ap is_some h
stored-waits (OfFuture n) d task is = ap (λ b. b || has_task d.polled) (some-future d.futures n task is)

or-cases : (a b : Bool) → (a || b) ≡ true → (a ≡ true) ⊎ (b ≡ true)
or-cases true b h = inl refl
or-cases false b h = inr h

or-one : (a b : Bool) → a ≡ true → (a || b) ≡ true
or-one true b h = refl
or-one false b h = absurd (true≢false (sym h))

or-two : (a b : Bool) → b ≡ true → (a || b) ≡ true
or-two true b h = refl
or-two false b h = h

-- a poll of the polled place that doesn't arm lets no task wait where none waited
pub unarmed-poll : (ticker task : ℕ) (d : Direction) → arms (direction_outcome task d) ≡ false → waits (after_direction ticker task d) ≡ true → waits d ≡ true
unarmed-poll ticker task d quiet waits_now =
    cases (fresh_at d.reported d.polled)
    (λ b. arms (if b then Fires else waiting_outcome task (some_task d.futures) (stored_task d.polled)) ≡ false →
    waits (after_outcome ticker task d (if b then Fires else waiting_outcome task (some_task d.futures) (stored_task d.polled))) ≡ true → waits d ≡ true)
    (λ fresh u w. or-one (some_task d.futures) (has_task d.polled) (or-none (some_task d.futures) w))
    (λ stale u w. by-stored (stored_task d.polled) refl u w) quiet waits_now
  where
    or-none : (a : Bool) → (a || false) ≡ true → a ≡ true
    or-none true h = refl
    or-none false h = absurd (true≢false (sym h))

    has-stored : (e : Option Entry) (stored : ℕ) → stored_task e ≡ Some stored → has_task e ≡ true
    has-stored None stored h = absurd (cc)
    has-stored (Some e) stored h = ap is_some h

    by-stored : (o : Option ℕ) → stored_task d.polled ≡ o → arms (waiting_outcome task (some_task d.futures) o) ≡ false →
        waits (after_outcome ticker task d (waiting_outcome task (some_task d.futures) o)) ≡ true → waits d ≡ true
    by-stored None is u w = cases (some_task d.futures) (λ b. (if b then false else true) ≡ false → (b || has_task d.polled) ≡ true) (λ some v. refl) (λ none v. absurd (true≢false v)) u
    by-stored (Some stored) is u w = or-two (some_task d.futures) (has_task d.polled) (has-stored d.polled stored is)

-- nor does one of a future
pub unarmed-future : (ticker task : ℕ) (d : Direction) (n : ℕ) → asks d (at_key d.futures n) ≡ false → waits (after_future ticker task d n) ≡ true → waits d ≡ true
unarmed-future ticker task d n quiet waits_now =
    cases (is_fired d n) (λ b. (if b then false else (if waits d then false else true)) ≡ false → waits (if b then d else with_future ticker task d n) ≡ true → waits d ≡ true)
    (λ fired u w. w) (λ stale u w. cases (waits d) (λ b. (if b then false else true) ≡ false → b ≡ true) (λ some v. refl) (λ none v. absurd (true≢false v)) u) quiet waits_now

some-without : (fs : List (ℕ × Entry)) (n : ℕ) → some_task (without_at fs n) ≡ true → some_task fs ≡ true
some-without [] n h = h
some-without (f ∷ fs) n h =
    cases (f.0 == n) (λ b. some_task (if b then fs else f ∷ without_at fs n) ≡ true → (is_some f.1.task || some_task fs) ≡ true)
    (λ same rest. or-two (is_some f.1.task) (some_task fs) rest)
    (λ differs rest. elim (or-cases (is_some f.1.task) (some_task (without_at fs n)) rest) [
      | inl here ↦ or-one (is_some f.1.task) (some_task fs) here
      | inr later ↦ or-two (is_some f.1.task) (some_task fs) (some-without fs n later)
    ]) h

pub cancel-waits : (d : Direction) (n : ℕ) → waits (without_future d n) ≡ true → waits d ≡ true
cancel-waits d n h = elim (or-cases (some_task (without_at d.futures n)) (has_task d.polled) h) [
  | inl some ↦ or-one (some_task d.futures) (has_task d.polled) (some-without d.futures n some)
  | inr has ↦ or-two (some_task d.futures) (has_task d.polled) has
]

some-cleared : (fs : List (ℕ × Entry)) → some_task (without_tasks fs) ≡ false
some-cleared [] = refl
some-cleared (f ∷ fs) = some-cleared fs

pub marked-waits : (t : ℕ) (d : Direction) → waits (marked true t d) ≡ false
marked-waits t d = ap (λ b. b || has_task (marked true t d).polled) (some-cleared d.futures) ∙ polled d.polled
  where
    polled : (e : Option Entry) → has_task (without_task e) ≡ false
    polled None = refl
    polled (Some e) = refl

-- ---- what is armed

armed-at-if : (e : Dir) (b : Bool) (a : Armed) (o : Option Armed) → armed_in e (if b then Some a else o) ≡ (if b then armed_in e (Some a) else armed_in e o)
armed-at-if e true a o = refl
armed-at-if e false a o = refl

-- an arming of a source, at a direction in which a task waits
pub armed-here : (armed : List (ℕ × Armed)) (key : ℕ) (s : Source) (e : Dir) → is_some (at_key armed key) ≡ true → waits (side e s) ≡ true →
    armed_in e (at_key (with_armings armed (arming_of key s)) key) ≡ true
armed-here armed key s e known w =
    cases (waits s.read || waits s.write)
    (λ b. (waits s.read || waits s.write) ≡ b →
    armed_in e (at_key (with_armings armed (if b then record { wire = s.wire; key = key; read = waits s.read; write = waits s.write } ∷ [] else [])) key) ≡ true)
    (λ some was. ap (armed_in e) (at_key-with_at armed key key (record { read = waits s.read; write = waits s.write }) known ∙ if-true (key == key) _ _ (eq-eqb key key refl)) ∙ in-dir e w)
    (λ none was. absurd (true≢false (sym (either e w) ∙ was))) refl
  where
    in-dir : (e : Dir) → waits (side e s) ≡ true → armed_in e (Some (record { read = waits s.read; write = waits s.write })) ≡ true
    in-dir Read h = h
    in-dir Write h = h

    either : (e : Dir) → waits (side e s) ≡ true → (waits s.read || waits s.write) ≡ true
    either Read h = or-one (waits s.read) (waits s.write) h
    either Write h = or-two (waits s.read) (waits s.write) h

-- elsewhere it changes nothing
pub armed-elsewhere : (armed : List (ℕ × Armed)) (key : ℕ) (s : Source) (k : ℕ) → is_some (at_key armed key) ≡ true → (key == k) ≡ false →
    at_key (with_armings armed (arming_of key s)) k ≡ at_key armed k
armed-elsewhere armed key s k known differs =
    cases (waits s.read || waits s.write)
    (λ b. at_key (with_armings armed (if b then record { wire = s.wire; key = key; read = waits s.read; write = waits s.write } ∷ [] else [])) k ≡ at_key armed k)
    (λ some. at_key-with_at armed key k (record { read = waits s.read; write = waits s.write }) known ∙ if-false (key == k) _ _ differs)
    (λ none. refl)

pub with_armings-append : (armed : List (ℕ × Armed)) (xs ys : List Arming) → with_armings armed (xs ++ ys) ≡ with_armings (with_armings armed xs) ys
with_armings-append armed [] ys = refl
with_armings-append armed (a ∷ xs) ys = with_armings-append (with_at armed a.key (record { read = a.read; write = a.write })) xs ys

pub rises-armings : (armed : List (ℕ × Armed)) (armings : List Arming) → KeysRiseFrom 0 armed → KeysRiseFrom 0 (with_armings armed armings)
rises-armings armed [] rises = rises
rises-armings armed (a ∷ armings) rises =
    rises-armings (with_at armed a.key (record { read = a.read; write = a.write })) armings (KeysRiseFrom-with_at 0 armed a.key (record { read = a.read; write = a.write }) rises)

rises-without_of : (armed : List (ℕ × Armed)) (r : Report) (o : Option Armed) → KeysRiseFrom 0 armed → KeysRiseFrom 0 (without_report_of armed r o)
rises-without_of armed r None rises = rises
rises-without_of armed r (Some a) rises = KeysRiseFrom-with_at 0 armed r.key (less r a) rises

pub rises-without : (armed : List (ℕ × Armed)) (reports : List Report) → KeysRiseFrom 0 armed → KeysRiseFrom 0 (without_reports armed reports)
rises-without armed [] rises = rises
rises-without armed (r ∷ reports) rises = rises-without (without_report armed r) reports (rises-without_of armed r (at_key armed r.key) rises)

-- ---- a wait that returns

less-in : (e : Dir) (r : Report) (a : Armed) → armed_in e (Some (less r a)) ≡ (armed_in e (Some a) && not (names_one r e))
less-in Read r a = refl
less-in Write r a = refl

without-one : (e : Dir) (armed : List (ℕ × Armed)) (r : Report) (k : ℕ) (o : Option Armed) → at_key armed r.key ≡ o →
    armed_in e (at_key (without_report_of armed r o) k) ≡ (armed_in e (at_key armed k) && not (r.key == k && names_one r e))
without-one e armed r k None is =
    cases (r.key == k) (λ b. (r.key == k) ≡ b → armed_in e (at_key armed k) ≡ (armed_in e (at_key armed k) && not (b && names_one r e)))
    (λ same was. let none : at_key armed k ≡ None = ap (at_key armed) (sym (eqb-true r.key k was)) ∙ is in
    ap (armed_in e) none ∙ none-in e ∙ sym (ap (λ b. b && not (names_one r e)) (ap (armed_in e) none ∙ none-in e)))
    (λ differs was. sym (and-true (armed_in e (at_key armed k)))) refl
  where
    none-in : (e : Dir) → armed_in e None ≡ false
    none-in Read = refl
    none-in Write = refl

    and-true : (b : Bool) → (b && true) ≡ b
    and-true true = refl
    and-true false = refl
without-one e armed r k (Some a) is =
    ap (armed_in e) (at_key-with_at armed r.key k (less r a) (ap is_some is))
    ∙ cases (r.key == k) (λ b. (r.key == k) ≡ b → armed_in e (if b then Some (less r a) else at_key armed k) ≡ (armed_in e (at_key armed k) && not (b && names_one r e)))
    (λ same was. less-in e r a ∙ ap (λ o. armed_in e o && not (names_one r e)) (sym is ∙ ap (at_key armed) (eqb-true r.key k was)))
    (λ differs was. sym (and-true (armed_in e (at_key armed k)))) refl
  where
    and-true : (b : Bool) → (b && true) ≡ b
    and-true true = refl
    and-true false = refl

-- what is armed is left armed, or named
pub armed-or-named : (e : Dir) (armed : List (ℕ × Armed)) (reports : List Report) (k : ℕ) → armed_in e (at_key armed k) ≡ true →
    (armed_in e (at_key (without_reports armed reports) k) || names reports k e) ≡ true
armed-or-named e armed [] k is = or-one (armed_in e (at_key armed k)) false is
armed-or-named e armed (r ∷ reports) k is =
    cases (r.key == k && names_one r e) (λ b. (r.key == k && names_one r e) ≡ b → (armed_in e (at_key (without_reports (without_report armed r) reports) k) || (b || names reports k e)) ≡ true)
    (λ named was. or-two (armed_in e (at_key (without_reports (without_report armed r) reports) k)) true refl)
    (λ unnamed was. armed-or-named e (without_report armed r) reports k
    (without-one e armed r k (at_key armed r.key) refl ∙ ap (λ b. armed_in e (at_key armed k) && not b) was ∙ ap (λ b. b && true) is)) refl

-- ---- a round's end

keeps-one : (t : ℕ) (sources : List (ℕ × Source)) (armed : List (ℕ × Armed)) (r : Report) (k : ℕ) (e : Dir) (o : Option Source) → source_of sources r.key ≡ o →
    (r.key == k && names_one r e) ≡ false → armed_in e (at_key armed k) ≡ true → waits (direction_of (source_of sources k) e) ≡ true → SameKeys armed sources →
    armed_in e (at_key (with_armings armed (armings_by_of t r o)) k) ≡ true
keeps-one t sources armed r k e None is unnamed armed_is w keys = armed_is
keeps-one t sources armed r k e (Some s) is unnamed armed_is w keys =
    let known : is_some (at_key armed r.key) ≡ true = keys r.key ∙ ap is_some is in
    cases (r.key == k) (λ b. (r.key == k) ≡ b → (b && names_one r e) ≡ false → armed_in e (at_key (with_armings armed (arming_of r.key (reported t r s))) k) ≡ true)
    (λ same was quiet.
    let k_is : r.key ≡ k = eqb-true r.key k was in
    let here : side e s ≡ direction_of (source_of sources k) e = ap (λ o. direction_of o e) (sym is ∙ ap (source_of sources) k_is) in
    subst (λ j. armed_in e (at_key (with_armings armed (arming_of r.key (reported t r s))) j) ≡ true) k_is
    (armed-here armed r.key (reported t r s) e known (ap waits (unmarked e quiet ∙ here) ∙ w)))
    (λ differs was quiet. ap (armed_in e) (armed-elsewhere armed r.key (reported t r s) k known was) ∙ armed_is) refl unnamed
  where
    unmarked : (e : Dir) → names_one r e ≡ false → side e (reported t r s) ≡ side e s
    unmarked Read quiet = ap (λ b. marked b t s.read) quiet
    unmarked Write quiet = ap (λ b. marked b t s.write) quiet

pub keeps-armed : (t : ℕ) (reports : List Report) (sources : List (ℕ × Source)) (armed : List (ℕ × Armed)) (k : ℕ) (e : Dir) → names reports k e ≡ false → armed_in e (at_key armed k) ≡ true →
    waits (direction_of (source_of sources k) e) ≡ true → SameKeys armed sources → ((armed : List (ℕ × Armed)) (r : Report) (sources : List (ℕ × Source)) → SameKeys armed sources →
    SameKeys (with_armings armed (armings_by t sources r)) (after_report t sources r)) → armed_in e (at_key (with_armings armed (armings_by_all t sources reports)) k) ≡ true
keeps-armed t [] sources armed k e unnamed armed_is w keys keep = armed_is
keeps-armed t (r ∷ reports) sources armed k e unnamed armed_is w keys keep =
    let p = none-of (r.key == k && names_one r e) (names reports k e) unnamed in
    ap (λ (l : List (ℕ × Armed)). armed_in e (at_key l k)) (with_armings-append armed (armings_by t sources r) (armings_by_all t (after_report t sources r) reports))
    ∙ keeps-armed t reports (after_report t sources r) (with_armings armed (armings_by t sources r)) k e p.1
    (keeps-one t sources armed r k e (source_of sources r.key) refl p.0 armed_is w keys)
    (ap waits (direction-reports t sources (r ∷ []) k e
    ∙ same-if (is_some (source_of sources k)) (direction_of (source_of sources k) e) ((r.key == k && names_one r e) || false) (or-false (r.key == k && names_one r e) ∙ p.0)) ∙ w)
    (keep armed r sources keys) keep
  where
    none-of : (a b : Bool) → (a || b) ≡ false → (a ≡ false) × (b ≡ false)
    none-of true b h = absurd (true≢false h)
    none-of false b h = (refl, h)

    or-false : (b : Bool) → (b || false) ≡ b
    or-false true = refl
    or-false false = refl

    same-if : (b : Bool) (d : Direction) (n : Bool) → n ≡ false → (if b then marked n t d else d) ≡ d
    same-if true d n none = ap (λ m. marked m t d) none
    same-if false d n none = refl
