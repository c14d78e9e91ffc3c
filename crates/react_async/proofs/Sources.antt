-- The source under a key after a poll of its readiness.
use Rattle.std.proofs.Common.{◌≡◌, ◌≢◌, ℕ, Bool, true, false, List, [], ◌∷◌, Option, Some, None, refl, sym, ap, ◌∙◌, inl, inr, arith}
use Rattle.std.proofs.lemmas.Bool.{cases_eq, eqb-true}
use Rattle.std.proofs.lemmas.Bool.Decides.{nat_tests}
use Rattle.std.specs.Prelude.{◌==◌, if◌then◌else◌, IsSome}
use Rattle.futures.specs.declared.task.Poll.TheVariants.{Ready}
use Rattle.react_core.specs.declared.reactor.Dir.{Dir}
use Rattle.react_core.specs.declared.reactor.Dir.TheVariants.{Read, Write}
use Rattle.react_core.specs.Keyed.{at_key, with_at}
use Rattle.react_core.specs.Places.{Direction, Source}
use Rattle.react_core.specs.Core.{Core, HasSource}
use Rattle.react_core.specs.Sources.{source_of, side, with_side, some_task}
use Rattle.react_core.specs.Futures.{direction_of}
use Rattle.react_core.specs.Readiness.{Outcome, Fires, Stays, Begins, fresh, fresh_at, fresh_of, waiting_outcome, direction_outcome, source_outcome, poll_outcome}
use Rattle.react_core.specs.Readiness.{poll_answer, stored_task, after_source_poll, after_poll}
use Rattle.react_async.specs.Polls.{IsStored}

at-with : {T : Type 0} (xs : List (ℕ × T)) (key : ℕ) (old new : T) → at_key xs key ≡ Some old → at_key (with_at xs key new) key ≡ Some new
at-with [] key old new found = absurd (cc)
at-with (x ∷ xs) key old new found =
    elim (cases_eq x.0 key) [
      | inl same ↦ grind (arith, nat_tests, same)
      | inr differs ↦
          let later : at_key xs key ≡ Some old = grind (arith, nat_tests, differs, found) in
          let rest = at-with xs key old new later in
          grind (arith, nat_tests, rest, differs)
    ]

some-of : {T : Type 0} (o : Option T) → IsSome o → (x : T) × (o ≡ Some x)
some-of None some = absurd (cc)
some-of (Some x) some = (x, refl)

is-some : {T : Type 0} (o : Option T) (x : T) → o ≡ Some x → IsSome o
is-some None x e = absurd (cc)
is-some (Some y) x e = refl

side-with : (dir : Dir) (s : Source) (d : Direction) → side dir (with_side dir s d) ≡ d
side-with Read s d = refl
side-with Write s d = refl

-- what stands under the key after a poll of this outcome
polled_source : ℕ → ℕ → Dir → Source → Outcome → Source
polled_source ticker task dir s Fires = with_side dir s (record (side dir s) { polled = None })
polled_source ticker task dir s Stays = s
polled_source ticker task dir s (Begins tasks arms) = with_side dir s (record (side dir s) { polled = Some (record { since = ticker; task = Some task }) })

stands : (core : Core) (key : ℕ) (dir : Dir) (task : ℕ) (s : Source) (o : Outcome) → source_of core.sources key ≡ Some s →
    source_of (after_source_poll core key (Some s) dir task o).sources key ≡ Some (polled_source core.ticker task dir s o)
unfolding polled_source
stands core key dir task s Fires found = at-with core.sources key s _ found
stands core key dir task s Stays found = found
stands core key dir task s (Begins tasks arms) found = at-with core.sources key s _ found

stands-polled : (core : Core) (key : ℕ) (dir : Dir) (task : ℕ) (s : Source) → source_of core.sources key ≡ Some s →
    source_of (after_poll core key dir task).sources key ≡ Some (polled_source core.ticker task dir s (direction_outcome task (side dir s)))
stands-polled core key dir task s found =
    ap (λ o. source_of (after_source_poll core key o dir task (source_outcome o dir task)).sources key) found
    ∙ stands core key dir task s (direction_outcome task (side dir s)) found

-- a poll leaves the source
pub has-after : (old new : Core) (key : ℕ) (dir : Dir) (task : ℕ) → HasSource old key → new ≡ after_poll old key dir task → HasSource new key
has-after old new key dir task has is =
    let s = some-of (source_of old.sources key) has in
    is-some _ _ (ap (λ core. source_of core.sources key) is ∙ stands-polled old key dir task s.0 s.1)

fires : (o : Outcome) → Ready tt ≡ poll_answer o → o ≡ Fires
fires Fires e = refl
fires Stays e = absurd (cc)
fires (Begins tasks arms) e = absurd (cc)

pub fires-ready : (core : Core) (key : ℕ) (dir : Dir) (task : ℕ) → Ready tt ≡ poll_answer (poll_outcome core key dir task) → poll_outcome core key dir task ≡ Fires
fires-ready core key dir task answered = fires (poll_outcome core key dir task) answered

unready-fired : (ticker task : ℕ) (dir : Dir) (s : Source) → fresh_of (Some (polled_source ticker task dir s Fires)) dir ≡ false
unfolding polled_source
unready-fired ticker task Read s = none s.read.reported
  where
    none : (reported : Option ℕ) → fresh_at reported None ≡ false
    none reported = refl
unready-fired ticker task Write s = refl

-- after a poll that was ready the source isn't
pub unready-after : (old new : Core) (key : ℕ) (dir : Dir) (task : ℕ) → HasSource old key → Ready tt ≡ poll_answer (poll_outcome old key dir task) →
    new ≡ after_poll old key dir task → fresh new key dir ≡ false
unready-after old new key dir task has answered is =
    let s = some-of (source_of old.sources key) has in
    let fired : direction_outcome task (side dir s.0) ≡ Fires = sym (ap (λ o. source_outcome o dir task) s.1) ∙ fires-ready old key dir task answered in
    ap (λ core. fresh_of (source_of core.sources key) dir) is
    ∙ ap (λ o. fresh_of o dir) (stands-polled old key dir task s.0 s.1)
    ∙ ap (λ o. fresh_of (Some (polled_source old.ticker task dir s.0 o)) dir) fired
    ∙ unready-fired old.ticker task dir s.0

stored-by : (task stored : ℕ) (b : Bool) → (stored == task) ≡ b → (if b then Stays else Begins (stored ∷ []) false) ≡ Stays → Some stored ≡ Some task
stored-by task stored true is stays = ap Some (eqb-true stored task is)
stored-by task stored false is stays = absurd (cc)

stays-stored : (task : ℕ) (armed : Bool) (o : Option ℕ) → waiting_outcome task armed o ≡ Stays → o ≡ Some task
stays-stored task armed None stays = absurd (cc)
stays-stored task armed (Some stored) stays = stored-by task stored (stored == task) refl stays

-- a poll that is not ready stores the task
waiting-stored : (ticker task : ℕ) (dir : Dir) (s : Source) (o : Outcome) → o ≢ Fires → (o ≡ Stays → stored_task (side dir s).polled ≡ Some task) →
    stored_task (side dir (polled_source ticker task dir s o)).polled ≡ Some task
unfolding polled_source
waiting-stored ticker task dir s Fires waits stays = absurd (waits refl)
waiting-stored ticker task dir s Stays waits stays = stays refl
waiting-stored ticker task dir s (Begins tasks arms) waits stays = ap (λ (d : Direction). stored_task d.polled) (side-with dir s _)

no-fire : (task : ℕ) (armed : Bool) (o : Option ℕ) → waiting_outcome task armed o ≢ Fires
no-fire task armed None e = cc
no-fire task armed (Some stored) e = by-test (stored == task) e
  where
    by-test : (b : Bool) → (if b then Stays else Begins (stored ∷ []) false) ≢ Fires
    by-test true e = cc
    by-test false e = cc

unready-outcome : (task : ℕ) (d : Direction) → fresh_at d.reported d.polled ≡ false → direction_outcome task d ≡ waiting_outcome task (some_task d.futures) (stored_task d.polled)
unready-outcome task d unready = ap (λ b. if b then Fires else waiting_outcome task (some_task d.futures) (stored_task d.polled)) unready

pub stored-after : (old new : Core) (key : ℕ) (dir : Dir) (task : ℕ) → HasSource old key → fresh old key dir ≡ false → new ≡ after_poll old key dir task →
    IsStored new key dir task
stored-after old new key dir task has unready is =
    let s = some-of (source_of old.sources key) has in
    let d = side dir s.0 in
    let waits = unready-outcome task d (sym (ap (λ o. fresh_of o dir) s.1) ∙ unready) in
    ap (λ core. stored_task (direction_of (source_of core.sources key) dir).polled) is
    ∙ ap (λ o. stored_task (direction_of o dir).polled) (stands-polled old key dir task s.0 s.1)
    ∙ waiting-stored old.ticker task dir s.0 (direction_outcome task d)
    (λ fired. no-fire task (some_task d.futures) (stored_task d.polled) (sym waits ∙ fired))
    (λ stays. stays-stored task (some_task d.futures) (stored_task d.polled) (sym waits ∙ stays))
