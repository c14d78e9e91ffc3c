-- A round over an outside, from its parts.
use Rattle.std.proofs.Common.{◌≡◌, ◌≤◌, ℕ, Bool, true, List, [], ◌∷◌, Option, Result, Ok, Err, length, subst, refl, sym, ap, ◌∙◌, arith}
use Rattle.react_core.specs.declared.outside.Event.{Event}
use Rattle.react_core.specs.declared.outside.Event.TheVariants as event
use Rattle.react_core.specs.declared.outside.Report.{Report}
use Rattle.react_core.specs.declared.outside.WaitAnswer.{WaitAnswer}
use Rattle.react_core.specs.declared.outside.WaitAnswer.TheVariants as wait_answer
use Rattle.react_core.specs.declared.reactor.ReactError.{ReactError}
use Rattle.react_core.specs.declared.reactor.ReactError.TheVariants.{Poller, OutOfMemory, Exhausted}
use Rattle.react_core.specs.Causes.{ReactCounted}
use Rattle.react_core.specs.Places.{Source}
use Rattle.react_core.specs.Core.{Core, ReactorState}
use Rattle.react_core.specs.Reports.{armings_by_all, Try, Tried, tries_told}
use Rattle.react_core.specs.Round.{Course, Unread, Read, Pause, Unwaited, Waited, Reread, Unreread, Paused, PauseClock}
use Rattle.react_core.specs.Round.{IsPause, is_quiet, wait_refusal, Ran, UnlessExhausted, RoundCounted, pause_told}
use Rattle.react_core.specs.Round.{pause_answer, pause_reports, reports_of, then_answer, answer_of}
use Rattle.react_core.specs.Step.{Step, Begin, Finish, Began, Done, WokeAll, begun_at, finish_wakes, finished_round}
use Rattle.react_core.specs.Timing.{wait_limit}
use Rattle.react_core.specs.declared.rounds.Came.{Came}
use Rattle.react_core.specs.Told.{told, told-told}
use Rattle.react_core.proofs.Tries.{Tried-nothing}

pub UnlessExhausted-any : {T : Type 0} (answer : Result T ReactError) (P : Type 0) → P → UnlessExhausted answer P
UnlessExhausted-any (Ok v) P p = p
UnlessExhausted-any (Err Poller) P p = p
UnlessExhausted-any (Err OutOfMemory) P p = p
UnlessExhausted-any (Err (Exhausted c v)) P p = tt

module _ {W : Type 0} (woke : W → ℕ → W → Type 0) (timeout : Option ℕ) (ample : Bool) where
  -- the clock could not be read
  pub ran-unread : (r0 r1 : Option (List Event)) (m0 m1 : ℕ) (state : ReactorState) (wakes : W) (answer : Result (Unit {0}) ReactError) →
      r1 ≡ told r0 [] → m1 ≡ m0 → answer ≡ Err OutOfMemory → (course : Course) × (tries : List Try) × Ran woke timeout ample r0 r1 m0 m1 state state wakes wakes answer course tries
  ran-unread r0 r1 m0 m1 state wakes answer is at was = (
    Unread,
    [],
    record {
      form = tt;
      within = omega arith;
      each = refl;
      answers = was;
      gained = is;
      lack = tt;
      clock = at;
      tasks = [];
      steps = record { wakes = refl; core = refl };
      woken = refl;
    },
  )

  -- the clock was read, the round begun, waited for and finished
  pub ran-read : (r0 r1 r2 r3 : Option (List Event)) (m0 m1 m2 m3 t : ℕ) (old new : ReactorState) (begun : Core) (wakes wakes' : W) (got shown : List Report) (again : Option ℕ)
      (waited : Result Came ReactError) (finished answer : Result (Unit {0}) ReactError) → r1 ≡ told r0 (event.Now t ∷ []) → m0 ≤ t → m1 ≡ t →
      Step old.core (Begin t timeout) (Began (begun_at old.core t timeout)) [] begun → ((p : Pause) × Paused (wait_limit old.core t timeout) r1 r2 m1 m2 got again waited p) → shown ≡ got → length shown ≤ old.events → m3 ≡ m2 →
      ((tries : List Try) × Tried (armings_by_all begun.ticker begun.sources shown) finished ample r2 r3 tries) →
      Step begun (Finish shown again) Done (finish_wakes begun shown again) new.core → WokeAll woke wakes (finish_wakes begun shown again) wakes' →
      answer ≡ then_answer (answer_of waited) finished →
      (course : Course) × (tries : List Try) × Ran woke timeout ample r0 r3 m0 m3 old new wakes wakes' answer course tries
  ran-read r0 r1 r2 r3 m0 m1 m2 m3 t old new begun wakes wakes' got shown again waited finished answer first le at begins pause same within later tried finishes woken is =
      let p = pause.0 in
      let tries = tried.0 in
      let reports : shown ≡ pause_reports p = same ∙ pause.1.reported in
      let ClockTo : ℕ → Type 0 = λ m. PauseClock t p m in
      let ClockFrom : ℕ → Type 0 = λ m. PauseClock m p m2 in
      let Within : List Report → Type 0 = λ rs. length rs ≤ old.events in (
        Read t p,
        tries,
        record {
          form = pause.1.form;
          within = subst Within reports within;
          each = tried.1.each ∙ ap (armings_by_all begun.ticker begun.sources) reports ∙ ap (λ core. armings_by_all core.ticker core.sources (pause_reports p)) begins.core;
          answers = is ∙ ap (λ a. then_answer a finished) pause.1.answers ∙ ap (λ b. then_answer (pause_answer p) b) tried.1.answers;
          gained = tried.1.gained ∙ ap (λ r. told r (tries_told tries)) (pause.1.gained ∙ ap (λ r. told r (pause_told (wait_limit old.core t timeout) p)) first)
              ∙ ap (λ r. told r (tries_told tries)) (told-told r0 (event.Now t ∷ []) (pause_told (wait_limit old.core t timeout) p))
              ∙ told-told r0 (event.Now t ∷ pause_told (wait_limit old.core t timeout) p) (tries_told tries);
          lack = tried.1.lack;
          clock = (le, subst ClockTo (sym later) (subst ClockFrom at pause.1.clock));
          tasks = finish_wakes begun shown again;
          steps = record {
            open_ = begun;
            begins = begins;
            returns = record { running = finishes.running; wakes = refl; core = refl };
            finishes = record {
              running = finishes.running;
              wakes = ap (λ rs. finish_wakes begun rs again) reports ∙ ap (finish_wakes begun (pause_reports p)) pause.1.reread;
              core = finishes.core ∙ ap (λ rs. finished_round begun rs again) reports ∙ ap (finished_round begun (pause_reports p)) pause.1.reread;
            };
          };
          woken = woken;
        },
      )

-- nothing is refused after a wait that was
pub refused_alone : (timeout : Option ℕ) (r0 r1 r2 r3 : Option (List Event)) (m0 m1 ticker : ℕ)
    (old : List (ℕ × Source)) (got shown : List Report) (again : Option ℕ) (waited : Result Came ReactError) (taken : Result (Unit {0}) ReactError) (e : ReactError) (ample : Bool) →
    waited ≡ Err e → ((p : Pause) × Paused timeout r0 r1 m0 m1 shown again waited p) → got ≡ shown → ((tries : List Try) × Tried (armings_by_all ticker old got) taken ample r2 r3 tries) → taken ≡ Ok tt
refused_alone timeout r0 r1 r2 r3 m0 m1 ticker old got shown again waited taken e ample is pause same tried =
    let none : got ≡ [] = same ∙ pause.1.reported ∙ silent pause.0 e (ap answer_of (sym is) ∙ pause.1.answers) pause.1.form in
    let Nothing : List Report → Type 0 = λ rs. Tried (armings_by_all ticker old rs) taken ample r2 r3 tried.0 in
    Tried-nothing taken ample r2 r3 tried.0 (subst Nothing none tried.1)
  where
    quiet : (a : WaitAnswer) → true ≡ is_quiet timeout a → reports_of a ≡ []
    quiet (wait_answer.Reported []) q = refl
    quiet (wait_answer.Reported (r ∷ rs)) q = absurd (cc)
    quiet wait_answer.Interrupted q = refl
    quiet wait_answer.Failed q = refl

    failed : (a : WaitAnswer) (e : ReactError) → Err e ≡ wait_refusal a → reports_of a ≡ []
    failed (wait_answer.Reported rs) e q = absurd (cc)
    failed wait_answer.Interrupted e q = refl
    failed wait_answer.Failed e q = refl

    silent : (p : Pause) (e : ReactError) → Err e ≡ pause_answer p → IsPause timeout p → pause_reports p ≡ []
    silent Unwaited e q form = refl
    silent (Waited a) e q form = failed a e q
    silent (Reread a t) e q form = failed a e q
    silent (Unreread a) e q form = quiet a (sym form)

pub RoundCounted-both : (waited : Result Came ReactError) (taken answer : Result (Unit {0}) ReactError) (a b c : ℕ) → ReactCounted waited a b → ReactCounted taken b c →
    ((e : ReactError) → waited ≡ Err e → taken ≡ Ok tt) → answer ≡ then_answer (answer_of waited) taken → RoundCounted answer a c
RoundCounted-both (Ok n) (Ok u) answer a b c p q none is = rw is (omega (arith, p, q))
RoundCounted-both (Ok n) (Err Poller) answer a b c p q none is = rw is (omega (arith, p, q))
RoundCounted-both (Ok n) (Err OutOfMemory) answer a b c p q none is = rw is (omega (arith, p, q))
RoundCounted-both (Ok n) (Err (Exhausted k v)) answer a b c p q none is = absurd q
RoundCounted-both (Err Poller) (Ok u) answer a b c p q none is = rw is (omega (arith, p, q))
RoundCounted-both (Err OutOfMemory) (Ok u) answer a b c p q none is = rw is (omega (arith, p, q))
RoundCounted-both (Err (Exhausted k v)) (Ok u) answer a b c p q none is = absurd p
RoundCounted-both (Err e) (Err f) answer a b c p q none is = absurd (let x = none e refl in cc)
