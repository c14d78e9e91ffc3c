-- Steps keep the keys and the places in order.
use Rattle.std.proofs.Common.{◌≡◌, ℕ, Bool, true, false, List, Option, Some, None, is_some, refl, sym, ap, ◌∙◌, subst, inl, inr, arith}
use Rattle.std.specs.Prelude.{◌==◌, ◌&&◌, if◌then◌else◌}
use Rattle.react_core.specs.declared.outside.Report.{Report}
use Rattle.react_core.specs.declared.reactor.Dir.{Dir}
use Rattle.react_core.specs.declared.reactor.Dir.TheVariants.{Read, Write}
use Rattle.react_core.specs.Asking.{after_direction}
use Rattle.react_core.specs.Core.{Core}
use Rattle.react_core.specs.Futures.{is_fired, with_future, after_future, direction_of, direction_at, without_future, after_source_cancel}
use Rattle.react_core.specs.Keyed.{at_key, KeysRiseFrom}
use Rattle.react_core.specs.Places.{Direction, Source}
use Rattle.react_core.specs.Readiness.{direction_outcome}
use Rattle.react_core.specs.Reports.{marked}
use Rattle.react_core.specs.Sources.{source_of, with_source, new_source, side, with_side}
use Rattle.react_core.specs.Step as core
use Rattle.react_core.proofs.Askings.{polled-core, begun_after, futures-after_direction}
use Rattle.react_core.proofs.Futures.{future-core}
use Rattle.react_core.proofs.Keyed.{at_key-with_new_at, at_key-without_at, KeysRiseFrom-with_at, KeysRiseFrom-with_new_at, KeysRiseFrom-without_at}
use Rattle.react_steps.specs.declared.kind.Answer.{Answer}
use Rattle.react_steps.specs.declared.kind.Kind.{Kind}
use Rattle.react_steps.specs.declared.kind.Kind.TheVariants.{Poll, PollFuture, Cancel, Insert, Remove, Begin, Returned, Finish}
use Rattle.react_steps.specs.Sights.{same_dir, names}
use Rattle.react_steps.specs.World.{World, Step, CancelStep}
use Rattle.react_steps.proofs.Agreeing.{cases}
use Rattle.react_steps.proofs.Ends.{direction-reports}
use Rattle.react_steps.proofs.Moves.{direction-with}
use Rattle.react_steps.proofs.Reporting.{rises-reports}
use Rattle.react_steps.proofs.Rows.{rises-polled, rises-without_tasks}
use Rattle.react_steps.proofs.Turning.{Tidy, some-of, unpoll}

abbrev Rises : Direction → Type 0
Rises d = KeysRiseFrom 0 d.futures

rises-if : (b : Bool) (d e : Direction) → Rises d → Rises e → Rises (if b then d else e)
rises-if true d e rd re = rd
rises-if false d e rd re = re

rises-future : (ticker task : ℕ) (d : Direction) (n : ℕ) → Rises d → Rises (after_future ticker task d n)
rises-future ticker task d n r = rises-if (is_fired d n) d (with_future ticker task d n) r (rises-polled ticker task d.futures n (at_key d.futures n) refl r)

rises-marked : (b : Bool) (t : ℕ) (d : Direction) → Rises d → Rises (marked b t d)
rises-marked true t d r = rises-without_tasks 0 d.futures r
rises-marked false t d r = r

module _ (old new : World) (tidy : Tidy old) where
  -- one direction is written back
  written : (key : ℕ) (dir : Dir) (s : Source) → source_of old.core.sources key ≡ Some s → (d : Direction) → new.core.sources ≡ with_source old.core.sources key (with_side dir s d) → Rises d →
      Tidy new
  written key dir s found d is rises = record {
    sources = subst (KeysRiseFrom 0) (sym is) (KeysRiseFrom-with_at 0 old.core.sources key (with_side dir s d) tidy.sources);
    futures = λ k e. subst Rises (sym (ap (λ ss. direction_of (source_of ss k) e) is ∙ direction-with old.core.sources key dir s found d k e))
        (rises-if (key == k && same_dir dir e) d (direction_at old.core k e) rises (tidy.futures k e));
  }

  same-sources : new.core.sources ≡ old.core.sources → Tidy new
  same-sources is = record {
    sources = subst (KeysRiseFrom 0) (sym is) tidy.sources;
    futures = λ k e. subst Rises (sym (ap (λ ss. direction_of (source_of ss k) e) is)) (tidy.futures k e);
  }

  side-rises : (key : ℕ) (dir : Dir) (s : Source) → source_of old.core.sources key ≡ Some s → Rises (side dir s)
  side-rises key dir s found = subst Rises (ap (λ o. direction_of o dir) found) (tidy.futures key dir)

  cancel-tidy : (key : ℕ) (dir : Dir) (n : ℕ) (woken : List ℕ) (o : Option Source) → source_of old.core.sources key ≡ o → CancelStep o old key (core.Cancel key dir n) woken new → Tidy new
  cancel-tidy key dir n woken None is made = same-sources (ap (λ (w : World). w.core.sources) made.1)
  cancel-tidy key dir n woken (Some s) is made =
      written key dir s is (without_future (side dir s) n) (ap (λ (c : Core). c.sources) (made.0.core ∙ ap (λ o. after_source_cancel old.core key o dir n) is))
      (KeysRiseFrom-without_at 0 (side dir s).futures n (side-rises key dir s is))

  none-rises : (e : Dir) → Rises (direction_of None e)
  none-rises e = tt

  new-rises : (wire : ℕ) (e : Dir) → Rises (side e (new_source wire))
  new-rises wire Read = tt
  new-rises wire Write = tt

  insert-tidy : (wire key : ℕ) (answer : Answer) (woken : List ℕ) (fault : Bool) → Step old (Insert wire key fault) answer woken new → Tidy new
  insert-tidy wire key answer woken true step = same-sources (ap (λ (w : World). w.core.sources) step.1.world)
  insert-tidy wire key answer woken false step =
      let is = ap (λ (c : Core). c.sources) step.step.core in
      record {
        sources = subst (KeysRiseFrom 0) (sym is) (KeysRiseFrom-with_new_at 0 old.core.sources key (new_source wire) tidy.sources step.step.free (omega arith));
        futures = λ k e. subst Rises (sym (ap (λ ss. direction_of (source_of ss k) e) is ∙ ap (λ o. direction_of o e) (at_key-with_new_at old.core.sources key k (new_source wire) step.step.free)))
            (cases (key == k) (λ b. Rises (direction_of (if b then Some (new_source wire) else source_of old.core.sources k) e)) (λ same. new-rises wire e) (λ differs. tidy.futures k e));
      }

  remove-tidy : (key : ℕ) (answer : Answer) (woken : List ℕ) (fault : Bool) → Step old (Remove key fault) answer woken new → Tidy new
  remove-tidy key answer woken fault step =
      let is = ap (λ (c : Core). c.sources) step.step.core in
      record {
        sources = subst (KeysRiseFrom 0) (sym is) (KeysRiseFrom-without_at 0 old.core.sources key tidy.sources);
        futures = λ k e. subst Rises (sym (ap (λ ss. direction_of (source_of ss k) e) is ∙ ap (λ o. direction_of o e) (at_key-without_at 0 old.core.sources key k tidy.sources)))
            (cases (key == k) (λ b. Rises (direction_of (if b then None else source_of old.core.sources k) e)) (λ same. none-rises e) (λ differs. tidy.futures k e));
      }

  finish-tidy : (later : Option ℕ) (answer : Answer) (woken : List ℕ) (fault : Bool) → Step old (Finish later fault) answer woken new → Tidy new
  finish-tidy later answer woken fault step =
      let is = ap (λ (c : Core). c.sources) step.1.step.core in
      record {
        sources = subst (KeysRiseFrom 0) (sym is) (rises-reports old.core.ticker old.core.sources step.0 tidy.sources);
        futures = λ k e. subst Rises (sym (ap (λ ss. direction_of (source_of ss k) e) is ∙ direction-reports old.core.ticker old.core.sources step.0 k e))
            (rises-if (is_some (source_of old.core.sources k)) (marked (names step.0 k e) old.core.ticker (direction_at old.core k e)) (direction_at old.core k e)
            (rises-marked (names step.0 k e) old.core.ticker (direction_at old.core k e) (tidy.futures k e)) (tidy.futures k e));
      }

  poll-tidy : (key : ℕ) (dir : Dir) (task : ℕ) (fault : Bool) (answer : Answer) (woken : List ℕ) → Step old (Poll key dir task fault) answer woken new → Tidy new
  poll-tidy key dir task fault answer woken step = elim (unpoll fault _ old (core.PolledPoll key dir task) key answer woken new step.step) [
    | inl refused ↦ same-sources (ap (λ (w : World). w.core.sources) refused.world)
    | inr made ↦
        let found = some-of (source_of old.core.sources key) step.known in
        let d = side dir found.0 in
        let d' = after_direction old.core.ticker task d in
        written key dir found.0 found.1 d'
        (ap (λ (c : Core). c.sources) (made.step.core
        ∙ sym (polled-core old.core key dir task found.0 found.1 (with_source old.core.sources key (with_side dir found.0 d')) (begun_after old.core.begun (direction_outcome task d))
        refl refl)))
        (subst (KeysRiseFrom 0) (sym (futures-after_direction old.core.ticker task d)) (side-rises key dir found.0 found.1))
  ]

  future-tidy : (key : ℕ) (dir : Dir) (n task : ℕ) (fault : Bool) (answer : Answer) (woken : List ℕ) → Step old (PollFuture key dir n task fault) answer woken new → Tidy new
  future-tidy key dir n task fault answer woken step = elim (unpoll fault _ old (core.FuturePoll key dir n task) key answer woken new step.step) [
    | inl refused ↦ same-sources (ap (λ (w : World). w.core.sources) refused.world)
    | inr made ↦
        let found = some-of (source_of old.core.sources key) step.known in
        let d = side dir found.0 in
        let d' = after_future old.core.ticker task d n in
        written key dir found.0 found.1 d'
        (ap (λ (c : Core). c.sources) (made.step.core ∙ sym (future-core old.core key dir found.0 found.1 (with_source old.core.sources key (with_side dir found.0 d')) task n refl)))
        (rises-future old.core.ticker task d n (side-rises key dir found.0 found.1))
  ]

  return-tidy : (reports : List Report) (fault : Bool) (answer : Answer) (woken : List ℕ) → Step old (Returned reports fault) answer woken new → Tidy new
  return-tidy reports true answer woken step = same-sources (ap (λ (c : Core). c.sources) step.step.step.core)
  return-tidy reports false answer woken step = same-sources (ap (λ (c : Core). c.sources) step.step.step.core)

pub tidy-step : (old new : World) (kind : Kind) (answer : Answer) (woken : List ℕ) → Tidy old → Step old kind answer woken new → Tidy new
tidy-step old new (Poll key dir task fault) answer woken tidy step = poll-tidy old new tidy key dir task fault answer woken step
tidy-step old new (PollFuture key dir place task fault) answer woken tidy step = future-tidy old new tidy key dir place task fault answer woken step
tidy-step old new (Cancel key dir place) answer woken tidy step = cancel-tidy old new tidy key dir place woken (source_of old.core.sources key) refl step.step
tidy-step old new (Insert wire key fault) answer woken tidy step = insert-tidy old new tidy wire key answer woken fault step
tidy-step old new (Remove key fault) answer woken tidy step = remove-tidy old new tidy key answer woken fault step
tidy-step old new (Begin now timeout) answer woken tidy step = same-sources old new tidy (ap (λ (c : Core). c.sources) step.1.step.core)
tidy-step old new (Returned reports fault) answer woken tidy step = return-tidy old new tidy reports fault answer woken step
tidy-step old new (Finish later fault) answer woken tidy step = finish-tidy old new tidy later answer woken fault step
