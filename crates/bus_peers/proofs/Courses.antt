-- What a round does to the core, and a round of which nothing was refused.
use Rattle.std.proofs.Common.{◌≡◌, ◌≢◌, ◌≤◌, ◌+◌, ℕ, inl, inr, Bool, true, false, is_some, List, [], ◌∷◌, ◌++◌, map, Option, Some, None, Result, Ok, Err, subst, refl, sym, ap, ◌∙◌}
use Rattle.react_core.specs.declared.outside.Event.{Event}
use Rattle.react_core.specs.declared.outside.Event.TheVariants as event
use Rattle.react_core.specs.declared.outside.Report.{Report}
use Rattle.react_core.specs.declared.outside.Fault.TheVariants as fault
use Rattle.react_core.specs.declared.outside.WaitAnswer.{WaitAnswer}
use Rattle.react_core.specs.declared.outside.WaitAnswer.TheVariants as wait_answer
use Rattle.react_core.specs.declared.reactor.ReactError.{ReactError}
use Rattle.react_core.specs.declared.reactor.ReactError.TheVariants.{Poller, OutOfMemory, Exhausted}
use Rattle.react_core.specs.Core.{Core, ReactorState}
use Rattle.react_core.specs.Timing.{wait_limit}
use Rattle.react_core.specs.Reports.{Arming, Try, LackSo, armed_told, armings_by_all, tries_told, worse, worst}
use Rattle.react_core.specs.laws.Tries.{tries-ok}
use Rattle.react_core.specs.Round.{Ran, Course, CourseSteps, Unread, Read, Pause, Unwaited, Waited, Reread, Unreread, is_quiet, pause_again, pause_reports, pause_told, reports_of}
use Rattle.react_core.specs.Step.{WokeAll, begun_round, finish_wakes, finished_round}
use Rattle.react_core.specs.Told.{told}
use Rattle.bus_record.specs.Failing.{Made, is_failed}
use Rattle.bus_peers.specs.inside.RoundEvents.{Round, IsRound, ReadTo, RoundClock, reading_told, round_told}
use Rattle.bus_peers.proofs.MadeLemmas.{failed-after}
use Rattle.std.specs.List.{list_any}

-- the core after a round of these readings and reports
abbrev pub after_round : Core → ℕ → List Report → Option ℕ → Core
after_round old first reports again = finished_round (begun_round old first) reports again

-- the tasks that it wakes: of the timers that are due, of the reports, and of the timers that are due then
abbrev pub round_tasks : Core → ℕ → List Report → Option ℕ → List ℕ
round_tasks old first reports again = finish_wakes (begun_round old first) reports again

pub course-core : (old new : Core) (timeout : Option ℕ) (first : ℕ) (pause : Pause) (tasks : List ℕ) →
    CourseSteps old timeout (Read first pause) tasks new →
    new ≡ after_round old first (pause_reports pause) (pause_again pause)
course-core old new timeout first pause tasks steps =
    steps.finishes.core ∙ ap (λ core. finished_round core (pause_reports pause) (pause_again pause)) steps.begins.core

course-tasks : (old new : Core) (timeout : Option ℕ) (first : ℕ) (pause : Pause) (tasks : List ℕ) →
    CourseSteps old timeout (Read first pause) tasks new →
    tasks ≡ round_tasks old first (pause_reports pause) (pause_again pause)
course-tasks old new timeout first pause tasks steps =
    steps.finishes.wakes ∙ ap (λ core. finish_wakes core (pause_reports pause) (pause_again pause)) steps.begins.core

-- ---- a round of which nothing was refused

-- what is told, what is left, what is woken
pub record Rounds {W : Type 0} (woke : W → ℕ → W → Type 0) (before after : Option (List Event)) (moment now : ℕ)
    (old new : Core) (wakes wakes' : W) (r : Round) : Type 0 where
  pub form : IsRound r
  pub waited : r.timeout ≡ wait_limit old r.first None
  pub gained : after ≡ told before
      (round_told r ++ map armed_told (armings_by_all (old.ticker + 1) old.sources (reports_of r.answer)))
  pub clock : RoundClock moment r now
  pub core : new ≡ after_round old r.first (reports_of r.answer) r.second
  pub woken : WokeAll woke wakes (round_tasks old r.first (reports_of r.answer) r.second) wakes'

module _ {W : Type 0} (woke : W → ℕ → W → Type 0) (ample : Bool) where
  well : (r0 r1 : Option (List Event)) (m0 m1 t : ℕ) (old new : ReactorState) (wakes wakes' : W) (a : WaitAnswer)
      (p : Pause) (o : Option ℕ) (tries : List Try) →
      pause_told (wait_limit old.core t None) p ≡ event.Wait (wait_limit old.core t None) a ∷ reading_told o →
      pause_reports p ≡ reports_of a → pause_again p ≡ o → is_some o ≡ is_quiet (wait_limit old.core t None) a →
      a ≢ wait_answer.Failed → worst tries ≡ Ok tt → (m0 ≤ t) × ReadTo t o m1 →
      Ran woke None ample r0 r1 m0 m1 old new wakes wakes' (Ok tt) (Read t p) tries →
      (r : Round) × Rounds woke r0 r1 m0 m1 old.core new.core wakes wakes' r
  well r0 r1 m0 m1 t old new wakes wakes' a p o tries says same again tests whole ok clock ran =
      let armings : List Arming = armings_by_all (old.core.ticker + 1) old.core.sources (reports_of a) in
      let each : map (λ x. x.0) tries ≡ armings =
      ran.each ∙ ap (armings_by_all (old.core.ticker + 1) old.core.sources) same in
      let Woke : List ℕ → Type 0 = λ tasks. WokeAll woke wakes tasks wakes' in (
        record { first = t; timeout = wait_limit old.core t None; answer = a; second = o },
        record {
          form = (tests, whole);
          waited = refl;
          gained = ran.gained ∙ ap (λ es. told r0 es) (
              ap (λ es. (event.Now t ∷ es) ++ tries_told tries) says
              ∙ ap (λ es. (event.Now t ∷ event.Wait (wait_limit old.core t None) a ∷ reading_told o) ++ es)
              (tries-ok armings tries each ok));
          clock = clock;
          core = course-core old.core new.core None t p ran.tasks ran.steps
              ∙ (ap (λ rs. after_round old.core t rs (pause_again p)) same ∙ ap (after_round old.core t (reports_of a)) again);
          woken = subst Woke (course-tasks old.core new.core None t p ran.tasks ran.steps
              ∙ (ap (λ rs. round_tasks old.core t rs (pause_again p)) same ∙ ap (round_tasks old.core t (reports_of a)) again))
              ran.woken;
        },
      )

  pub rounds-well : (r0 r1 : Option (List Event)) (m0 m1 : ℕ) (old new : ReactorState) (wakes wakes' : W)
      (course : Course) (tries : List Try) →
      Ran woke None ample r0 r1 m0 m1 old new wakes wakes' (Ok tt) course tries →
      (r : Round) × Rounds woke r0 r1 m0 m1 old.core new.core wakes wakes' r
  rounds-well r0 r1 m0 m1 old new wakes wakes' Unread tries ran = absurd (let e = ran.answers in cc)
  rounds-well r0 r1 m0 m1 old new wakes wakes' (Read t Unwaited) tries ran = absurd (let e = ran.answers in cc)
  rounds-well r0 r1 m0 m1 old new wakes wakes' (Read t (Unreread a)) tries ran = absurd (let e = ran.answers in cc)
  rounds-well r0 r1 m0 m1 old new wakes wakes' (Read t (Waited wait_answer.Failed)) tries ran =
      absurd (let e = ran.answers in cc)
  rounds-well r0 r1 m0 m1 old new wakes wakes' (Read t (Reread wait_answer.Failed s)) tries ran =
      absurd (let e = ran.answers in cc)
  rounds-well r0 r1 m0 m1 old new wakes wakes' (Read t (Waited wait_answer.Interrupted)) tries ran =
      well r0 r1 m0 m1 t old new wakes wakes' wait_answer.Interrupted (Waited wait_answer.Interrupted) None tries refl
      refl refl (sym ran.form) (λ e. absurd (cc)) (sym ran.answers) ran.clock ran
  rounds-well r0 r1 m0 m1 old new wakes wakes' (Read t (Reread wait_answer.Interrupted s)) tries ran =
      well r0 r1 m0 m1 t old new wakes wakes' wait_answer.Interrupted (Reread wait_answer.Interrupted s) (Some s) tries
      refl refl refl (sym ran.form) (λ e. absurd (cc)) (sym ran.answers) ran.clock ran
  rounds-well r0 r1 m0 m1 old new wakes wakes' (Read t (Waited (wait_answer.Reported rs))) tries ran =
      well r0 r1 m0 m1 t old new wakes wakes' (wait_answer.Reported rs) (Waited (wait_answer.Reported rs)) None tries
      refl refl refl (sym ran.form) (λ e. absurd (cc)) (sym ran.answers) ran.clock ran
  rounds-well r0 r1 m0 m1 old new wakes wakes' (Read t (Reread (wait_answer.Reported rs) s)) tries ran =
      well r0 r1 m0 m1 t old new wakes wakes' (wait_answer.Reported rs) (Reread (wait_answer.Reported rs) s) (Some s)
      tries refl refl refl (sym ran.form) (λ e. absurd (cc)) (sym ran.answers) ran.clock ran

-- ---- a round in which a call of the poller failed

worse-poller : (b : Result (Unit {0}) ReactError) → worse (Err OutOfMemory) b ≡ Err Poller → b ≡ Err Poller
worse-poller (Ok u) is = absurd (cc)
worse-poller (Err Poller) is = refl
worse-poller (Err OutOfMemory) is = absurd (cc)
worse-poller (Err (Exhausted c v)) is = absurd (cc)

-- one of the tries failed
worst-failed : (tries : List Try) → worst tries ≡ Err Poller → list_any is_failed (tries_told tries) ≡ true
worst-failed [] is = absurd (cc)
worst-failed ((a, Ok u) ∷ tries) is = worst-failed tries is
worst-failed ((a, Err fault.Failed) ∷ tries) is = refl
worst-failed ((a, Err fault.OutOfMemory) ∷ tries) is = worst-failed tries (worse-poller (worst tries) is)

-- each was made, with an answer of its own
tries-made : (ample : Bool) (tries : List Try) → LackSo ample tries →
    Made ample (map armed_told (map (λ t. t.0) tries)) (tries_told tries)
tries-made ample [] lack = refl
tries-made ample ((a, Ok u) ∷ tries) lack =
    inl (armed_told a, tries_told tries, refl, refl, tries-made ample tries lack.1)
tries-made ample ((a, Err fault.Failed) ∷ tries) lack =
    inl (event.Modify a.wire a.key a.read a.write false, tries_told tries, refl, refl, tries-made ample tries lack.1)
tries-made ample ((a, Err fault.OutOfMemory) ∷ tries) lack = inr (lack.0, tries-made ample tries lack.1)

-- what is told then, and what was armed
pub record RoundCut (ample : Bool) (before after : Option (List Event)) (old : Core) (r : Round)
    (rearmed : List Event) : Type 0 where
  pub waited : r.timeout ≡ wait_limit old r.first None
  pub read : is_some r.second ≡ is_quiet r.timeout r.answer
  pub gained : after ≡ told before (round_told r ++ rearmed)
  pub made : Made ample (map armed_told (armings_by_all (old.ticker + 1) old.sources (reports_of r.answer))) rearmed
  pub failed : list_any is_failed (round_told r ++ rearmed) ≡ true

module _ {W : Type 0} (woke : W → ℕ → W → Type 0) (ample : Bool) where
  cut : (r0 r1 : Option (List Event)) (m0 m1 t : ℕ) (old new : ReactorState) (wakes wakes' : W) (a : WaitAnswer)
      (p : Pause) (o : Option ℕ) (tries : List Try) →
      pause_told (wait_limit old.core t None) p ≡ event.Wait (wait_limit old.core t None) a ∷ reading_told o →
      pause_reports p ≡ reports_of a → is_some o ≡ is_quiet (wait_limit old.core t None) a →
      list_any is_failed ((event.Now t ∷ event.Wait (wait_limit old.core t None) a ∷ reading_told o) ++ tries_told tries)
      ≡ true →
      Ran woke None ample r0 r1 m0 m1 old new wakes wakes' (Err Poller) (Read t p) tries →
      (r : Round) × (rearmed : List Event) × RoundCut ample r0 r1 old.core r rearmed
  cut r0 r1 m0 m1 t old new wakes wakes' a p o tries says same tests failed ran =
      let armings : List Arming = armings_by_all (old.core.ticker + 1) old.core.sources (reports_of a) in
      let each : map (λ x. x.0) tries ≡ armings =
      ran.each ∙ ap (armings_by_all (old.core.ticker + 1) old.core.sources) same in
      let M : List Arming → Type 0 = λ xs. Made ample (map armed_told xs) (tries_told tries) in (
        record { first = t; timeout = wait_limit old.core t None; answer = a; second = o },
        tries_told tries,
        record {
          waited = refl;
          read = tests;
          gained = ran.gained ∙ ap (λ es. told r0 ((event.Now t ∷ es) ++ tries_told tries)) says;
          made = subst M each (tries-made ample tries ran.lack);
          failed = failed;
        },
      )

  later-failed : (t : ℕ) (limit : Option ℕ) (a : WaitAnswer) (o : Option ℕ) (tries : List Try) →
      worst tries ≡ Err Poller →
      list_any is_failed ((event.Now t ∷ event.Wait limit a ∷ reading_told o) ++ tries_told tries) ≡ true
  later-failed t limit a o tries is =
      failed-after (event.Now t ∷ event.Wait limit a ∷ reading_told o) (tries_told tries) (worst-failed tries is)

  -- a wait that failed is not read again
  never-quiet : (limit : Option ℕ) → is_quiet limit wait_answer.Failed ≡ true → ⊥
  never-quiet limit is = cc

  pub rounds-cut : (r0 r1 : Option (List Event)) (m0 m1 : ℕ) (old new : ReactorState) (wakes wakes' : W)
      (course : Course) (tries : List Try) →
      Ran woke None ample r0 r1 m0 m1 old new wakes wakes' (Err Poller) course tries →
      (r : Round) × (rearmed : List Event) × RoundCut ample r0 r1 old.core r rearmed
  rounds-cut r0 r1 m0 m1 old new wakes wakes' Unread tries ran = absurd (let e = ran.answers in cc)
  rounds-cut r0 r1 m0 m1 old new wakes wakes' (Read t Unwaited) tries ran = absurd (let e = ran.answers in cc)
  rounds-cut r0 r1 m0 m1 old new wakes wakes' (Read t (Unreread a)) tries ran = absurd (let e = ran.answers in cc)
  rounds-cut r0 r1 m0 m1 old new wakes wakes' (Read t (Waited wait_answer.Failed)) tries ran =
      cut r0 r1 m0 m1 t old new wakes wakes' wait_answer.Failed (Waited wait_answer.Failed) None tries refl refl
      (sym ran.form) refl ran
  rounds-cut r0 r1 m0 m1 old new wakes wakes' (Read t (Reread wait_answer.Failed s)) tries ran =
      absurd (never-quiet (wait_limit old.core t None) ran.form)
  rounds-cut r0 r1 m0 m1 old new wakes wakes' (Read t (Waited wait_answer.Interrupted)) tries ran =
      cut r0 r1 m0 m1 t old new wakes wakes' wait_answer.Interrupted (Waited wait_answer.Interrupted) None tries refl
      refl (sym ran.form) (later-failed t (wait_limit old.core t None) wait_answer.Interrupted None tries (sym ran.answers))
      ran
  rounds-cut r0 r1 m0 m1 old new wakes wakes' (Read t (Reread wait_answer.Interrupted s)) tries ran =
      absurd (let e = ran.form in cc)
  rounds-cut r0 r1 m0 m1 old new wakes wakes' (Read t (Waited (wait_answer.Reported rs))) tries ran =
      cut r0 r1 m0 m1 t old new wakes wakes' (wait_answer.Reported rs) (Waited (wait_answer.Reported rs)) None tries
      refl refl (sym ran.form)
      (later-failed t (wait_limit old.core t None) (wait_answer.Reported rs) None tries (sym ran.answers)) ran
  rounds-cut r0 r1 m0 m1 old new wakes wakes' (Read t (Reread (wait_answer.Reported rs) s)) tries ran =
      cut r0 r1 m0 m1 t old new wakes wakes' (wait_answer.Reported rs) (Reread (wait_answer.Reported rs) s) (Some s)
      tries refl refl (sym ran.form)
      (later-failed t (wait_limit old.core t None) (wait_answer.Reported rs) (Some s) tries (sym ran.answers)) ran
