-- What polls, cancels, insertions and removals do to the view of a place.
use Rattle.std.proofs.Common.{◌≡◌, ℕ, Bool, true, false, true≢false, List, [], ◌∷◌, Option, Some, None, is_some, refl, sym, ap, ◌∙◌}
use Rattle.std.specs.Prelude.{◌==◌, ◌&&◌, ◌||◌, if◌then◌else◌}
use Rattle.std.proofs.lemmas.Bool.{eqb-true, eq-eqb}
use Rattle.react_core.specs.declared.reactor.Dir.{Dir}
use Rattle.react_core.specs.declared.reactor.Dir.TheVariants.{Read, Write}
use Rattle.react_core.specs.Asking.{after_direction, after_outcome}
use Rattle.react_core.specs.Futures.{is_fired, polled_futures, with_future, after_future, direction_of, direction_at, future_answer, without_future}
use Rattle.react_core.specs.Keyed.{at_key, KeysRiseFrom}
use Rattle.react_core.specs.Places.{Entry, Direction, Source}
use Rattle.react_core.specs.Readiness.{Outcome, Fires, Stays, Begins, direction_outcome, waiting_outcome, poll_answer, woken_by, arms, fresh_at, stored_task}
use Rattle.react_core.specs.Sources.{source_of, with_source, side, with_side, some_task}
use Rattle.react_core.proofs.Askings.{futures-after_direction}
use Rattle.react_core.proofs.Keyed.{at_key-with_at, at_key-with_new_at, at_key-without_at}
use Rattle.react_steps.specs.Accounts.{entry_at, named_in}
use Rattle.react_steps.specs.Interests.{is_task}
use Rattle.react_steps.specs.Sights.{Place, ThePolled, OfFuture, Spot, same_dir, is_of, poll_sight}
use Rattle.react_steps.specs.World.{World, polled}
use Rattle.react_steps.proofs.Agreeing.{cases}
use Rattle.react_steps.proofs.Rows.{keys-with_at}
use Rattle.react_steps.proofs.Views.{View, Turn, polled_entry}

-- ---- views

abbrev pub of : Place → Direction → ℕ → Bool → Bool → Bool → View
of place d ticker is_open named has =
    record { entry = entry_at place d; reported = d.reported; ticker = ticker; is_open = is_open; named = named; has = has }

abbrev pub view : Spot → World → View
view q w =
    of q.place (direction_at w.core q.key q.dir) w.core.ticker (is_some w.core.hands) (named_in w.returned q.key q.dir) (is_some (source_of w.core.sources q.key))

pub both : (a b : Bool) → (a && b) ≡ true → (a ≡ true) × (b ≡ true)
both true b h = (refl, h)
both false b h = absurd (true≢false (sym h))

pub same_dir-eq : (d e : Dir) → same_dir d e ≡ true → d ≡ e
same_dir-eq Read Read h = refl
same_dir-eq Write Write h = refl
same_dir-eq Read Write h = absurd (true≢false (sym h))
same_dir-eq Write Read h = absurd (true≢false (sym h))

pub if-true : {T : Type 0} (b : Bool) (x y : T) → b ≡ true → (if b then x else y) ≡ x
if-true true x y h = refl
if-true false x y h = absurd (true≢false (sym h))

pub if-false : {T : Type 0} (b : Bool) (x y : T) → b ≡ false → (if b then x else y) ≡ y
if-false true x y h = absurd (true≢false h)
if-false false x y h = refl

pub if-same : {T : Type 0} (b : Bool) (x : T) → (if b then x else x) ≡ x
if-same true x = refl
if-same false x = refl

-- ---- a direction written back

side-with : (dir e : Dir) (s : Source) (d : Direction) (o : Direction) → side e s ≡ o → side e (with_side dir s d) ≡ (if same_dir dir e then d else o)
side-with Read Read s d o is = refl
side-with Read Write s d o is = is
side-with Write Read s d o is = is
side-with Write Write s d o is = refl

module _ (sources : List (ℕ × Source)) (key : ℕ) (dir : Dir) (s : Source) (found : source_of sources key ≡ Some s) (d : Direction) where
  pub direction-with : (k : ℕ) (e : Dir) → direction_of (source_of (with_source sources key (with_side dir s d)) k) e
      ≡ (if key == k && same_dir dir e then d else direction_of (source_of sources k) e)
  direction-with k e =
      ap (λ o. direction_of o e) (at_key-with_at sources key k (with_side dir s d) (ap is_some found))
      ∙ cases (key == k) (λ b. direction_of (if b then Some (with_side dir s d) else source_of sources k) e ≡ (if b && same_dir dir e then d else direction_of (source_of sources k) e))
      (λ same. side-with dir e s d (direction_of (source_of sources k) e) (sym (ap (λ o. direction_of o e) (ap (source_of sources) (sym (eqb-true key k same)) ∙ found))))
      (λ differs. refl)

-- a step that writes one direction back
module _ (old new : World) (key : ℕ) (dir : Dir) (s : Source) (found : source_of old.core.sources key ≡ Some s) (d : Direction)
    (sources : new.core.sources ≡ with_source old.core.sources key (with_side dir s d)) (ticker : new.core.ticker ≡ old.core.ticker)
    (hands : new.core.hands ≡ old.core.hands) (returned : new.returned ≡ old.returned) where
  turned : Spot → Direction
  turned q = if is_of q key dir then d else direction_at old.core q.key q.dir

  view-turned : (q : Spot) → view q new ≡ of q.place (if is_of q key dir then d else direction_at old.core q.key q.dir) old.core.ticker (is_some old.core.hands)
      (named_in old.returned q.key q.dir) (is_some (source_of old.core.sources q.key))
  view-turned q =
      ap (λ x. of q.place x new.core.ticker (is_some new.core.hands) (named_in new.returned q.key q.dir) (is_some (source_of new.core.sources q.key)))
      (ap (λ ss. direction_of (source_of ss q.key) q.dir) sources ∙ direction-with old.core.sources key dir s found d q.key q.dir)
      ∙ ap (λ x. of q.place (if is_of q key dir then d else direction_at old.core q.key q.dir) x (is_some new.core.hands) (named_in new.returned q.key q.dir)
      (is_some (source_of new.core.sources q.key))) ticker
      ∙ ap (λ x. of q.place (if is_of q key dir then d else direction_at old.core q.key q.dir) old.core.ticker (is_some x) (named_in new.returned q.key q.dir)
      (is_some (source_of new.core.sources q.key))) hands
      ∙ ap (λ x. of q.place (if is_of q key dir then d else direction_at old.core q.key q.dir) old.core.ticker (is_some old.core.hands) (named_in x q.key q.dir)
      (is_some (source_of new.core.sources q.key))) returned
      ∙ ap (λ x. of q.place (if is_of q key dir then d else direction_at old.core q.key q.dir) old.core.ticker (is_some old.core.hands) (named_in old.returned q.key q.dir) x)
      (ap (λ ss. is_some (source_of ss q.key)) sources ∙ keys-with_at old.core.sources key (with_side dir s d) q.key)

  pub view-off : (q : Spot) → is_of q key dir ≡ false → view q new ≡ view q old
  view-off q off =
      view-turned q
      ∙ ap (λ x. of q.place x old.core.ticker (is_some old.core.hands) (named_in old.returned q.key q.dir) (is_some (source_of old.core.sources q.key)))
      (if-false (is_of q key dir) d (direction_at old.core q.key q.dir) off)

  pub direction-here : (q : Spot) → is_of q key dir ≡ true → direction_at old.core q.key q.dir ≡ side dir s
  direction-here q on =
      let b = both (key == q.key) (same_dir dir q.dir) on in
      ap (λ k. direction_at old.core k q.dir) (sym (eqb-true key q.key b.0)) ∙ ap (λ e. direction_at old.core key e) (sym (same_dir-eq dir q.dir b.1)) ∙ ap (λ o. direction_of o dir) found

  pub has-here : (q : Spot) → is_of q key dir ≡ true → is_some (source_of old.core.sources q.key) ≡ true
  has-here q on = ap (λ k. is_some (source_of old.core.sources k)) (sym (eqb-true key q.key (both (key == q.key) (same_dir dir q.dir) on).0)) ∙ ap is_some found

  pub view-before : (q : Spot) → is_of q key dir ≡ true → view q old ≡ of q.place (side dir s) old.core.ticker (is_some old.core.hands) (named_in old.returned q.key q.dir) true
  view-before q on =
      ap (λ x. of q.place x old.core.ticker (is_some old.core.hands) (named_in old.returned q.key q.dir) (is_some (source_of old.core.sources q.key))) (direction-here q on)
      ∙ ap (of q.place (side dir s) old.core.ticker (is_some old.core.hands) (named_in old.returned q.key q.dir)) (has-here q on)

  pub view-after : (q : Spot) → is_of q key dir ≡ true → view q new ≡ of q.place d old.core.ticker (is_some old.core.hands) (named_in old.returned q.key q.dir) true
  view-after q on =
      view-turned q
      ∙ ap (λ x. of q.place x old.core.ticker (is_some old.core.hands) (named_in old.returned q.key q.dir) (is_some (source_of old.core.sources q.key)))
      (if-true (is_of q key dir) d (direction_at old.core q.key q.dir) on)
      ∙ ap (of q.place d old.core.ticker (is_some old.core.hands) (named_in old.returned q.key q.dir)) (has-here q on)

-- ---- a poll of the polled place, in its direction

module _ (ticker task : ℕ) (d : Direction) (is_open named : Bool) where
  stored-turn : (armed : Bool) (stored : Option ℕ) → stored_task d.polled ≡ stored → fresh_at d.reported d.polled ≡ false →
      Turn ThePolled (poll_sight task (polled (poll_answer (waiting_outcome task armed stored)))) (woken_by (waiting_outcome task armed stored)) (of ThePolled d ticker is_open named true)
      (of ThePolled (after_outcome ticker task d (waiting_outcome task armed stored)) ticker is_open named true)
  stored-turn armed None is fresh = record {
    known = refl;
    due = fresh;
    stays = λ same. absurd (true≢false (sym same ∙ ap (is_task task) is));
    anew = λ other. refl;
    wakes = λ other was differs. absurd (let e = sym is ∙ was in cc);
  }
  stored-turn armed (Some stored) is fresh =
      cases (stored == task) (λ b. Turn ThePolled (poll_sight task (polled (poll_answer (if b then Stays else Begins (stored ∷ []) false))))
      (woken_by (if b then Stays else Begins (stored ∷ []) false))
      (of ThePolled d ticker is_open named true) (of ThePolled (after_outcome ticker task d (if b then Stays else Begins (stored ∷ []) false)) ticker is_open named true))
      (λ same. record {
        known = refl;
        due = fresh;
        stays = λ u. refl;
        anew = λ other. absurd (true≢false (sym same ∙ sym (ap (is_task task) is) ∙ other));
        wakes = λ other was differs. absurd (let e : stored ≡ other = some-eq (sym is ∙ was) in true≢false (sym same ∙ ap (λ x. x == task) e ∙ differs));
      })
      (λ differs. record {
        known = refl;
        due = fresh;
        stays = λ same. absurd (true≢false (sym same ∙ ap (is_task task) is ∙ differs));
        anew = λ other. refl;
        wakes = λ other was u. let e : stored ≡ other = some-eq (sym is ∙ was) in ap (λ b. b || false) (eq-eqb stored other e);
      })
    where
      some-eq : {x y : ℕ} → Some x ≡ Some y → x ≡ y
      some-eq e = cc

  pub polled-turn : Turn ThePolled (poll_sight task (polled (poll_answer (direction_outcome task d)))) (woken_by (direction_outcome task d)) (of ThePolled d ticker is_open named true)
      (of ThePolled (after_direction ticker task d) ticker is_open named true)
  polled-turn =
      cases (fresh_at d.reported d.polled)
      (λ b. Turn ThePolled (poll_sight task (polled (poll_answer (if b then Fires else waiting_outcome task (some_task d.futures) (stored_task d.polled)))))
      (woken_by (if b then Fires else waiting_outcome task (some_task d.futures) (stored_task d.polled))) (of ThePolled d ticker is_open named true)
      (of ThePolled (after_outcome ticker task d (if b then Fires else waiting_outcome task (some_task d.futures) (stored_task d.polled))) ticker is_open named true))
      (λ fresh. record { due = fresh; view = refl })
      (λ stale. stored-turn (some_task d.futures) (stored_task d.polled) refl stale)

  reported-outcome : (o : Outcome) → (after_outcome ticker task d o).reported ≡ d.reported
  reported-outcome Fires = refl
  reported-outcome Stays = refl
  reported-outcome (Begins tasks arms) = refl

  -- it leaves the futures' places
  pub polled-leaves : (n : ℕ) → of (OfFuture n) (after_direction ticker task d) ticker is_open named true ≡ of (OfFuture n) d ticker is_open named true
  polled-leaves n =
      ap (λ fs. record { entry = at_key fs n; reported = (after_direction ticker task d).reported; ticker = ticker; is_open = is_open; named = named; has = true })
      (futures-after_direction ticker task d)
      ∙ ap (λ r. record { entry = at_key d.futures n; reported = r; ticker = ticker; is_open = is_open; named = named; has = true }) (reported-outcome (direction_outcome task d))

  -- ---- a poll of a future's place

  entry-future : (n : ℕ) (o : Option Entry) → at_key d.futures n ≡ o → at_key (polled_futures ticker task d.futures n o) n ≡ polled_entry ticker task o
  entry-future n None is = at_key-with_new_at d.futures n n (record { since = ticker; task = Some task }) is ∙ if-true (n == n) _ _ (eq-eqb n n refl)
  entry-future n (Some e) is = at_key-with_at d.futures n n (record e { task = Some task }) (ap is_some is) ∙ if-true (n == n) _ _ (eq-eqb n n refl)

  entry-other : (n m : ℕ) (o : Option Entry) → at_key d.futures n ≡ o → (n == m) ≡ false → at_key (polled_futures ticker task d.futures n o) m ≡ at_key d.futures m
  entry-other n m None is differs = at_key-with_new_at d.futures n m (record { since = ticker; task = Some task }) is ∙ if-false (n == m) _ _ differs
  entry-other n m (Some e) is differs = at_key-with_at d.futures n m (record e { task = Some task }) (ap is_some is) ∙ if-false (n == m) _ _ differs

  pub future-turn : (n : ℕ) → Turn (OfFuture n) (poll_sight task (polled (future_answer (is_fired d n)))) [] (of (OfFuture n) d ticker is_open named true)
      (of (OfFuture n) (after_future ticker task d n) ticker is_open named true)
  future-turn n =
      cases (is_fired d n) (λ b. Turn (OfFuture n) (poll_sight task (polled (future_answer b))) [] (of (OfFuture n) d ticker is_open named true)
      (of (OfFuture n) (if b then d else with_future ticker task d n) ticker is_open named true))
      (λ fired. record { due = fired; view = refl })
      (λ stale. record {
        known = refl;
        due = stale;
        view = ap (λ e. record { entry = e; reported = d.reported; ticker = ticker; is_open = is_open; named = named; has = true }) (entry-future n (at_key d.futures n) refl);
      })

  pub future-leaves-polled : (n : ℕ) → of ThePolled (after_future ticker task d n) ticker is_open named true ≡ of ThePolled d ticker is_open named true
  future-leaves-polled n = cases (is_fired d n) (λ b. of ThePolled (if b then d else with_future ticker task d n) ticker is_open named true ≡ of ThePolled d ticker is_open named true) (λ f. refl)
      (λ f. refl)

  pub future-leaves : (n m : ℕ) → (n == m) ≡ false → of (OfFuture m) (after_future ticker task d n) ticker is_open named true ≡ of (OfFuture m) d ticker is_open named true
  future-leaves n m differs =
      cases (is_fired d n) (λ b. of (OfFuture m) (if b then d else with_future ticker task d n) ticker is_open named true ≡ of (OfFuture m) d ticker is_open named true) (λ f. refl)
      (λ f. ap (λ e. record { entry = e; reported = d.reported; ticker = ticker; is_open = is_open; named = named; has = true }) (entry-other n m (at_key d.futures n) refl differs))

  -- ---- a cancel

  module _ (rises : KeysRiseFrom 0 d.futures) (has : Bool) where
    pub cancel-turn : (n : ℕ) → of (OfFuture n) (without_future d n) ticker is_open named has ≡ record (of (OfFuture n) d ticker is_open named has) { entry = None }
    cancel-turn n =
        ap (λ e. record { entry = e; reported = d.reported; ticker = ticker; is_open = is_open; named = named; has = has })
        (at_key-without_at 0 d.futures n n rises ∙ if-true (n == n) _ _ (eq-eqb n n refl))

    pub cancel-leaves : (n m : ℕ) → (n == m) ≡ false → of (OfFuture m) (without_future d n) ticker is_open named has ≡ of (OfFuture m) d ticker is_open named has
    cancel-leaves n m differs =
        ap (λ e. record { entry = e; reported = d.reported; ticker = ticker; is_open = is_open; named = named; has = has })
        (at_key-without_at 0 d.futures n m rises ∙ if-false (n == m) _ _ differs)
