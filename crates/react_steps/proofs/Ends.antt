-- What the reports of a round's end do to one direction, and whom they wake.
use Rattle.std.proofs.Common.{◌≡◌, ℕ, Bool, true, false, true≢false, List, [], ◌∷◌, ◌++◌, Option, Some, None, is_some, refl, sym, ap, ◌∙◌, subst}
use Rattle.std.specs.Prelude.{◌==◌, ◌&&◌, ◌||◌, if◌then◌else◌}
use Rattle.std.specs.Option.{option_to_list}
use Rattle.std.proofs.lemmas.Bool.{eqb-true, eq-eqb}
use Rattle.react_core.specs.declared.outside.Report.{Report}
use Rattle.react_core.specs.declared.reactor.Dir.{Dir}
use Rattle.react_core.specs.declared.reactor.Dir.TheVariants.{Read, Write}
use Rattle.react_core.specs.Futures.{direction_of}
use Rattle.react_core.specs.Keyed.{at_key}
use Rattle.react_core.specs.Places.{Entry, Direction, Source}
use Rattle.react_core.specs.Readiness.{stored_task}
use Rattle.react_core.specs.Reports.{without_task, without_tasks, marked, task_of, future_tasks, tasks_of, taken_of, reported, after_report_of, after_report, after_reports, taken_by_of, taken_by}
use Rattle.react_core.specs.Reports.{taken_by_all}
use Rattle.react_core.specs.Sources.{source_of}
use Rattle.react_core.proofs.Keyed.{at_key-with_at}
use Rattle.react_steps.specs.Accounts.{entry_at, contains}
use Rattle.react_steps.specs.Sights.{Place, ThePolled, OfFuture, names_one, names}
use Rattle.react_steps.proofs.Agreeing.{cases}

-- ---- marks

task-twice : (e : Option Entry) → without_task (without_task e) ≡ without_task e
task-twice None = refl
task-twice (Some e) = refl

tasks-twice : (fs : List (ℕ × Entry)) → without_tasks (without_tasks fs) ≡ without_tasks fs
tasks-twice [] = refl
tasks-twice (f ∷ fs) = ap (λ (l : List (ℕ × Entry)). (f.0, record f.1 { task = None }) ∷ l) (tasks-twice fs)

marked-twice : (a b : Bool) (t : ℕ) (d : Direction) → marked b t (marked a t d) ≡ marked (a || b) t d
marked-twice false b t d = refl
marked-twice true false t d = refl
marked-twice true true t d =
    ap (λ e. record { reported = Some t; polled = e; futures = without_tasks (without_tasks d.futures) }) (task-twice d.polled)
    ∙ ap (λ fs. record { reported = Some t; polled = without_task d.polled; futures = fs }) (tasks-twice d.futures)

-- a source after all reports
abbrev pub marked_source : ℕ → List Report → ℕ → Option Source → Option Source
marked_source t reports k None = None
marked_source t reports k (Some s) =
    Some (record s { read = marked (names reports k Read) t s.read; write = marked (names reports k Write) t s.write })

after-one : (t : ℕ) (sources : List (ℕ × Source)) (r : Report) (o : Option Source) (k : ℕ) → source_of sources r.key ≡ o →
    source_of (after_report_of t sources r o) k ≡ (if r.key == k then marked_source t (r ∷ []) k (source_of sources k) else source_of sources k)
after-one t sources r None k is =
    cases (r.key == k) (λ b. source_of sources k ≡ (if b then marked_source t (r ∷ []) k (source_of sources k) else source_of sources k))
    (λ same. let none : source_of sources k ≡ None = ap (source_of sources) (sym (eqb-true r.key k same)) ∙ is in none ∙ sym (ap (marked_source t (r ∷ []) k) none))
    (λ differs. refl)
after-one t sources r (Some s) k is =
    at_key-with_at sources r.key k (reported t r s) (ap is_some is)
    ∙ cases (r.key == k) (λ b. (r.key == k) ≡ b → (if b then Some (reported t r s) else source_of sources k) ≡ (if b then marked_source t (r ∷ []) k (source_of sources k) else source_of sources k))
    (λ same was.
    let some : source_of sources k ≡ Some s = ap (source_of sources) (sym (eqb-true r.key k same)) ∙ is in
    sym (ap (marked_source t (r ∷ []) k) some ∙ ap (λ b. Some (record s { read = marked ((b && r.read) || false) t s.read; write = marked ((b && r.write) || false) t s.write })) was
    ∙ ap (λ b. Some (record s { read = marked b t s.read; write = marked (r.write || false) t s.write })) (or-false r.read)
    ∙ ap (λ b. Some (record s { read = marked r.read t s.read; write = marked b t s.write })) (or-false r.write)))
    (λ differs was. refl) refl
  where
    or-false : (b : Bool) → (b || false) ≡ b
    or-false true = refl
    or-false false = refl

both-marks : (t : ℕ) (r : Report) (reports : List Report) (k : ℕ) (o : Option Source) → (r.key == k) ≡ true →
    marked_source t reports k (marked_source t (r ∷ []) k o) ≡ marked_source t (r ∷ reports) k o
both-marks t r reports k None same = refl
both-marks t r reports k (Some s) same =
    ap (λ d. Some (record s { read = d; write = marked (names reports k Write) t (marked ((r.key == k && r.write) || false) t s.write) }))
    (marked-twice ((r.key == k && r.read) || false) (names reports k Read) t s.read ∙ ap (λ b. marked b t s.read) (or-assoc (r.key == k && r.read) (names reports k Read)))
    ∙ ap (λ d. Some (record s { read = marked ((r.key == k && r.read) || names reports k Read) t s.read; write = d }))
    (marked-twice ((r.key == k && r.write) || false) (names reports k Write) t s.write ∙ ap (λ b. marked b t s.write) (or-assoc (r.key == k && r.write) (names reports k Write)))
  where
    or-assoc : (a b : Bool) → ((a || false) || b) ≡ (a || b)
    or-assoc true b = refl
    or-assoc false b = refl

unnamed-first : (t : ℕ) (r : Report) (reports : List Report) (k : ℕ) (o : Option Source) → (r.key == k) ≡ false → marked_source t reports k o ≡ marked_source t (r ∷ reports) k o
unnamed-first t r reports k None differs = refl
unnamed-first t r reports k (Some s) differs =
    sym (ap (λ b. Some (record s { read = marked ((b && r.read) || names reports k Read) t s.read; write = marked ((b && r.write) || names reports k Write) t s.write })) differs)

marked-none : (t : ℕ) (k : ℕ) (o : Option Source) → o ≡ marked_source t [] k o
marked-none t k None = refl
marked-none t k (Some s) = refl

pub reports-at : (t : ℕ) (sources : List (ℕ × Source)) (reports : List Report) (k : ℕ) → source_of (after_reports t sources reports) k ≡ marked_source t reports k (source_of sources k)
reports-at t sources [] k = marked-none t k (source_of sources k)
reports-at t sources (r ∷ reports) k =
    reports-at t (after_report t sources r) reports k
    ∙ ap (marked_source t reports k) (after-one t sources r (source_of sources r.key) k refl)
    ∙ cases (r.key == k) (λ b. (r.key == k) ≡ b → marked_source t reports k (if b then marked_source t (r ∷ []) k (source_of sources k) else source_of sources k)
    ≡ marked_source t (r ∷ reports) k (source_of sources k))
    (λ same was. both-marks t r reports k (source_of sources k) was) (λ differs was. unnamed-first t r reports k (source_of sources k) was) refl

side-marked : (t : ℕ) (reports : List Report) (k : ℕ) (e : Dir) (o : Option Source) → direction_of (marked_source t reports k o) e
    ≡ (if is_some o then marked (names reports k e) t (direction_of o e) else direction_of o e)
side-marked t reports k Read None = refl
side-marked t reports k Write None = refl
side-marked t reports k Read (Some s) = refl
side-marked t reports k Write (Some s) = refl

-- one direction after all reports
pub direction-reports : (t : ℕ) (sources : List (ℕ × Source)) (reports : List Report) (k : ℕ) (e : Dir) →
    direction_of (source_of (after_reports t sources reports) k) e
    ≡ (if is_some (source_of sources k) then marked (names reports k e) t (direction_of (source_of sources k) e) else direction_of (source_of sources k) e)
direction-reports t sources reports k e = ap (λ o. direction_of o e) (reports-at t sources reports k) ∙ side-marked t reports k e (source_of sources k)

is_some-marked : (t : ℕ) (reports : List Report) (k : ℕ) (o : Option Source) → is_some (marked_source t reports k o) ≡ is_some o
is_some-marked t reports k None = refl
is_some-marked t reports k (Some s) = refl

pub has-reports : (t : ℕ) (sources : List (ℕ × Source)) (reports : List Report) (k : ℕ) → is_some (source_of (after_reports t sources reports) k) ≡ is_some (source_of sources k)
has-reports t sources reports k = ap is_some (reports-at t sources reports k) ∙ is_some-marked t reports k (source_of sources k)

at_key-without : (fs : List (ℕ × Entry)) (n : ℕ) → at_key (without_tasks fs) n ≡ without_task (at_key fs n)
at_key-without [] n = refl
at_key-without (f ∷ fs) n = cases (f.0 == n) (λ b. (if b then Some (record f.1 { task = None }) else at_key (without_tasks fs) n) ≡ without_task (if b then Some f.1 else at_key fs n))
    (λ same. refl) (λ differs. at_key-without fs n)

pub entry-marked : (place : Place) (named : Bool) (t : ℕ) (d : Direction) → entry_at place (marked named t d) ≡ (if named then without_task (entry_at place d) else entry_at place d)
entry-marked place false t d = refl
entry-marked ThePolled true t d = refl
entry-marked (OfFuture n) true t d = at_key-without d.futures n

-- ---- whom they wake

pub contains-left : (x : ℕ) (xs ys : List ℕ) → contains x xs ≡ true → contains x (xs ++ ys) ≡ true
contains-left x [] ys h = absurd (true≢false (sym h))
contains-left x (y ∷ xs) ys h = cases (y == x) (λ b. (b || contains x xs) ≡ true → (b || contains x (xs ++ ys)) ≡ true) (λ same u. refl) (λ differs rest. contains-left x xs ys rest) h

pub contains-right : (x : ℕ) (xs ys : List ℕ) → contains x ys ≡ true → contains x (xs ++ ys) ≡ true
contains-right x [] ys h = h
contains-right x (y ∷ xs) ys h = cases (y == x) (λ b. (b || contains x (xs ++ ys)) ≡ true) (λ same. refl) (λ differs. contains-right x xs ys h)

contains-task : (x : ℕ) (o : Option ℕ) → o ≡ Some x → contains x (option_to_list o) ≡ true
contains-task x None is = absurd (cc)
contains-task x (Some y) is = ap (λ b. b || false) (eq-eqb y x (let e : y ≡ x = cc in e))

contains-polled : (x : ℕ) (e : Option Entry) → stored_task e ≡ Some x → contains x (task_of e) ≡ true
contains-polled x None is = absurd (cc)
contains-polled x (Some e) is = contains-task x e.task is

contains-future : (x n : ℕ) (fs : List (ℕ × Entry)) → stored_task (at_key fs n) ≡ Some x → contains x (future_tasks fs) ≡ true
contains-future x n [] is = absurd (cc)
contains-future x n (f ∷ fs) is =
    cases (f.0 == n) (λ b. stored_task (if b then Some f.1 else at_key fs n) ≡ Some x → contains x (option_to_list f.1.task ++ future_tasks fs) ≡ true)
    (λ same here. contains-left x (option_to_list f.1.task) (future_tasks fs) (contains-task x f.1.task here))
    (λ differs rest. contains-right x (option_to_list f.1.task) (future_tasks fs) (contains-future x n fs rest)) is

contains-direction : (place : Place) (x : ℕ) (d : Direction) → stored_task (entry_at place d) ≡ Some x → contains x (tasks_of d) ≡ true
contains-direction ThePolled x d is = contains-left x (task_of d.polled) (future_tasks d.futures) (contains-polled x d.polled is)
contains-direction (OfFuture n) x d is = contains-right x (task_of d.polled) (future_tasks d.futures) (contains-future x n d.futures is)

taken-one : (x : ℕ) (place : Place) (e : Dir) (r : Report) (o : Option Source) → names_one r e ≡ true → stored_task (entry_at place (direction_of o e)) ≡ Some x → contains x (taken_by_of r o) ≡ true
taken-one x ThePolled Read r None named is = absurd (cc)
taken-one x ThePolled Write r None named is = absurd (cc)
taken-one x (OfFuture n) Read r None named is = absurd (cc)
taken-one x (OfFuture n) Write r None named is = absurd (cc)
taken-one x place Read r (Some s) named is =
    contains-right x (taken_of r.write s.write) (taken_of r.read s.read) (subst (λ b. contains x (taken_of b s.read) ≡ true) (sym named) (contains-direction place x s.read is))
taken-one x place Write r (Some s) named is =
    contains-left x (taken_of r.write s.write) (taken_of r.read s.read) (subst (λ b. contains x (taken_of b s.write) ≡ true) (sym named) (contains-direction place x s.write is))

-- a task that is stored in a direction that a report names is taken
pub taken-all : (x : ℕ) (place : Place) (k : ℕ) (e : Dir) (t : ℕ) (reports : List Report) (sources : List (ℕ × Source)) → names reports k e ≡ true →
    stored_task (entry_at place (direction_of (source_of sources k) e)) ≡ Some x → contains x (taken_by_all t sources reports) ≡ true
taken-all x place k e t [] sources named is = absurd (true≢false (sym named))
taken-all x place k e t (r ∷ reports) sources named is =
    cases (r.key == k && names_one r e) (λ b. (r.key == k && names_one r e) ≡ b → (b || names reports k e) ≡ true →
    contains x (taken_by sources r ++ taken_by_all t (after_report t sources r) reports) ≡ true)
    (λ here was u.
    let p = two (r.key == k) (names_one r e) was in
    contains-left x (taken_by sources r) (taken_by_all t (after_report t sources r) reports)
    (taken-one x place e r (source_of sources r.key) p.1 (ap (λ j. stored_task (entry_at place (direction_of (source_of sources j) e))) (eqb-true r.key k p.0) ∙ is)))
    (λ elsewhere was rest.
    contains-right x (taken_by sources r) (taken_by_all t (after_report t sources r) reports)
    (taken-all x place k e t reports (after_report t sources r) rest (unmarked was ∙ is)))
    refl named
  where
    two : (a b : Bool) → (a && b) ≡ true → (a ≡ true) × (b ≡ true)
    two true b h = (refl, h)
    two false b h = absurd (true≢false (sym h))

    or-false : (b : Bool) → (b || false) ≡ b
    or-false true = refl
    or-false false = refl

    same-if : (b : Bool) (d : Direction) (n : Bool) → n ≡ false → (if b then marked n t d else d) ≡ d
    same-if true d n none = ap (λ m. marked m t d) none
    same-if false d n none = refl

    unmarked : (r.key == k && names_one r e) ≡ false → stored_task (entry_at place (direction_of (source_of (after_report t sources r) k) e))
        ≡ stored_task (entry_at place (direction_of (source_of sources k) e))
    unmarked was =
        ap (λ d. stored_task (entry_at place d))
        (direction-reports t sources (r ∷ []) k e
        ∙ same-if (is_some (source_of sources k)) (direction_of (source_of sources k) e) ((r.key == k && names_one r e) || false) (or-false (r.key == k && names_one r e) ∙ was))
