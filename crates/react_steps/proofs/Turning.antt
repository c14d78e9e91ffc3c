-- Each step of the world, as each place sees it.
use Rattle.std.proofs.Common.{◌≡◌, ◌⊎◌, ℕ, ◌+◌, Bool, true, false, true≢false, List, [], ◌++◌, Option, Some, None, is_some, refl, sym, ap, ◌∙◌, subst, inl, inr, unwrap_or}
use Rattle.std.specs.Prelude.{◌==◌, ◌&&◌, if◌then◌else◌}
use Rattle.std.proofs.lemmas.Bool.{eqb-true}
use Rattle.react_core.specs.declared.outside.Report.{Report}
use Rattle.react_core.specs.declared.reactor.Dir.{Dir}
use Rattle.react_core.specs.declared.reactor.Dir.TheVariants.{Read, Write}
use Rattle.react_core.specs.Asking.{after_direction}
use Rattle.react_core.specs.Core.{Core}
use Rattle.react_core.specs.Futures.{is_fired, after_future, direction_of, direction_at, future_answer, without_future, after_source_cancel}
use Rattle.react_core.specs.Keyed.{KeysRiseFrom}
use Rattle.react_core.specs.Places.{Direction, Source}
use Rattle.react_core.specs.Readiness.{direction_outcome, poll_answer, woken_by}
use Rattle.react_core.specs.Reports.{without_task, marked, taken_by_all}
use Rattle.react_core.specs.Sources.{source_of, with_source, idle, new_source, side, with_side}
use Rattle.react_core.specs.Step as core
use Rattle.react_core.specs.Timing.{due_tasks}
use Rattle.react_core.proofs.Askings.{outcome-at, polled-core, begun_after}
use Rattle.react_core.proofs.Futures.{direction-at, future-core}
use Rattle.react_core.proofs.Keyed.{at_key-with_new_at, at_key-without_at}
use Rattle.react_steps.specs.declared.kind.Answer.{Answer}
use Rattle.react_steps.specs.declared.kind.Kind.{Kind}
use Rattle.react_steps.specs.declared.kind.Kind.TheVariants.{Poll, PollFuture, Cancel, Insert, Remove, Begin, Returned, Finish}
use Rattle.react_steps.specs.Accounts.{entry_at, named_in, contains}
use Rattle.react_steps.specs.Sights.{Place, ThePolled, OfFuture, Spot, Sight, GivenUp, NewSource, SourceGone, RoundBegins, WaitReturns, RoundEnds, Elsewhere}
use Rattle.react_steps.specs.Sights.{same_dir, same_place, is_of, names, poll_sight, unless_failed, sight_of}
use Rattle.react_steps.specs.World.{World, Step, Refused, Polled, PollStep, CancelStep, polled}
use Rattle.react_steps.proofs.Agreeing.{cases}
use Rattle.react_steps.proofs.Ends.{direction-reports, has-reports, entry-marked, contains-left, contains-right, taken-all}
use Rattle.react_steps.proofs.Moves.{of, view, view-off, view-before, view-after, polled-turn, polled-leaves, future-turn, future-leaves-polled, future-leaves, cancel-turn, cancel-leaves}
use Rattle.react_steps.proofs.Views.{View, Turn}

-- what holds of each world that steps lead to: keys and places rise
pub record Tidy (w : World) : Type 0 where
  pub sources : KeysRiseFrom 0 w.core.sources
  pub futures : (k : ℕ) (e : Dir) → KeysRiseFrom 0 (direction_at w.core k e).futures

pub some-of : {T : Type 0} (o : Option T) → is_some o ≡ true → (x : T) × (o ≡ Some x)
some-of None h = absurd (true≢false (sym h))
some-of (Some x) h = (x, refl)

pub unpoll : (fault b : Bool) (old : World) (kind : core.Kind) (key : ℕ) (answer : Answer) (woken : List ℕ) (new : World) → PollStep fault b old kind key answer woken new →
    Refused old answer woken new ⊎ Polled b old kind key answer woken new
unpoll true true old kind key answer woken new step = inl step
unpoll true false old kind key answer woken new step = inr step
unpoll false b old kind key answer woken new step = inr step

-- ---- polls, by places

module _ (ticker task : ℕ) (d : Direction) (is_open named : Bool) where
  polled-at : (place : Place) → Turn place (if true && same_place ThePolled place then poll_sight task (polled (poll_answer (direction_outcome task d))) else Elsewhere)
      (woken_by (direction_outcome task d)) (of place d ticker is_open named true) (of place (after_direction ticker task d) ticker is_open named true)
  polled-at ThePolled = polled-turn ticker task d is_open named
  polled-at (OfFuture n) = polled-leaves ticker task d is_open named n

  future-at : (n : ℕ) (place : Place) → Turn place (if true && same_place (OfFuture n) place then poll_sight task (polled (future_answer (is_fired d n))) else Elsewhere)
      [] (of place d ticker is_open named true) (of place (after_future ticker task d n) ticker is_open named true)
  future-at n ThePolled = future-leaves-polled ticker task d is_open named n
  future-at n (OfFuture m) =
      cases (n == m) (λ b. (n == m) ≡ b → Turn (OfFuture m) (if b then poll_sight task (polled (future_answer (is_fired d n))) else Elsewhere) [] (of (OfFuture m) d ticker is_open named true)
      (of (OfFuture m) (after_future ticker task d n) ticker is_open named true))
      (λ same was. subst (λ j. Turn (OfFuture j) (poll_sight task (polled (future_answer (is_fired d n)))) [] (of (OfFuture j) d ticker is_open named true)
      (of (OfFuture j) (after_future ticker task d n) ticker is_open named true)) (eqb-true n m same) (future-turn ticker task d is_open named n))
      (λ differs was. future-leaves ticker task d is_open named n m differs) refl

  cancel-at : KeysRiseFrom 0 d.futures → (n : ℕ) (place : Place) (woken : List ℕ) → Turn place (if true && same_place (OfFuture n) place then GivenUp else Elsewhere) woken
      (of place d ticker is_open named true) (of place (without_future d n) ticker is_open named true)
  cancel-at rises n ThePolled woken = refl
  cancel-at rises n (OfFuture m) woken =
      cases (n == m) (λ b. (n == m) ≡ b → Turn (OfFuture m) (if b then GivenUp else Elsewhere) woken (of (OfFuture m) d ticker is_open named true)
      (of (OfFuture m) (without_future d n) ticker is_open named true))
      (λ same was. subst (λ j. Turn (OfFuture j) GivenUp woken (of (OfFuture j) d ticker is_open named true) (of (OfFuture j) (without_future d n) ticker is_open named true)) (eqb-true n m same)
      (cancel-turn ticker task d is_open named rises true n))
      (λ differs was. cancel-leaves ticker task d is_open named rises true n m differs) refl

-- a step that is seen where it writes, and elsewhere not
seen-by : (q : Spot) (key : ℕ) (dir : Dir) (place : Place) (s : Sight) (woken : List ℕ) (old new : View) →
    (is_of q key dir ≡ true → Turn q.place (if true && same_place place q.place then s else Elsewhere) woken old new) → (is_of q key dir ≡ false → new ≡ old) →
    Turn q.place (if is_of q key dir && same_place place q.place then s else Elsewhere) woken old new
seen-by q key dir place s woken old new here off =
    cases (is_of q key dir) (λ b. (b ≡ true → Turn q.place (if true && same_place place q.place then s else Elsewhere) woken old new) → (b ≡ false → new ≡ old) →
    Turn q.place (if b && same_place place q.place then s else Elsewhere) woken old new)
    (λ u on no. on refl) (λ u on no. no refl) here off

-- a step that failed is seen nowhere
refused-at : (q : Spot) (b : Bool) (s : Sight) (woken : List ℕ) (old new : World) → new ≡ old → s ≡ Elsewhere → Turn q.place (if b then s else Elsewhere) woken (view q old) (view q new)
refused-at q true s woken old new is none = subst (λ x. Turn q.place x woken (view q old) (view q new)) (sym none) (ap (view q) is)
refused-at q false s woken old new is none = ap (view q) is

module _ (q : Spot) (old new : World) (answer : Answer) (woken : List ℕ) (tidy : Tidy old) where
  poll-turn : (key : ℕ) (dir : Dir) (task : ℕ) (fault : Bool) → Step old (Poll key dir task fault) answer woken new →
      Turn q.place (sight_of q (Poll key dir task fault) answer) woken (view q old) (view q new)
  poll-turn key dir task fault step = elim (unpoll fault _ old (core.PolledPoll key dir task) key answer woken new step.step) [
    | inl refused ↦ refused-at q (is_of q key dir && same_place ThePolled q.place) (poll_sight task answer) woken old new refused.world (ap (poll_sight task) refused.answered)
    | inr made ↦
        let found = some-of (source_of old.core.sources key) step.known in
        let s : Source = found.0 in
        let d = side dir s in
        let o = outcome-at old.core key dir task s found.1 in
        let d' = after_direction old.core.ticker task d in
        let T = old.core.ticker in
        let core_is = made.step.core ∙ sym (polled-core old.core key dir task s found.1 (with_source old.core.sources key (with_side dir s d'))
        (begun_after old.core.begun (direction_outcome task d)) refl refl) in
        let sources = ap (λ (c : Core). c.sources) core_is in
        let ticker = ap (λ (c : Core). c.ticker) core_is in
        let hands = ap (λ (c : Core). c.hands) core_is in
        let returned = ap (λ (w : World). w.returned) made.world in
        let answer_is : answer ≡ polled (poll_answer (direction_outcome task d)) = made.answered ∙ ap polled (made.step.answered ∙ ap poll_answer o) in
        let woken_is : woken ≡ woken_by (direction_outcome task d) = made.step.wakes ∙ ap woken_by o in
        seen-by q key dir ThePolled (poll_sight task answer) woken (view q old) (view q new)
        (λ on.
        let before = view-before old new key dir s found.1 d' sources ticker hands returned q on in
        let after = view-after old new key dir s found.1 d' sources ticker hands returned q on in
        subst (λ a. Turn q.place (if true && same_place ThePolled q.place then poll_sight task a else Elsewhere) woken (view q old) (view q new)) (sym answer_is)
        (subst (λ ws. Turn q.place (if true && same_place ThePolled q.place then poll_sight task (polled (poll_answer (direction_outcome task d))) else Elsewhere) ws (view q old) (view q new))
        (sym woken_is)
        (subst (λ v. Turn q.place (if true && same_place ThePolled q.place then poll_sight task (polled (poll_answer (direction_outcome task d))) else Elsewhere)
        (woken_by (direction_outcome task d)) v (view q new)) (sym before)
        (subst (Turn q.place (if true && same_place ThePolled q.place then poll_sight task (polled (poll_answer (direction_outcome task d))) else Elsewhere) (woken_by (direction_outcome task d))
        (of q.place d T (is_some old.core.hands) (named_in old.returned q.key q.dir) true)) (sym after)
        (polled-at T task d (is_some old.core.hands) (named_in old.returned q.key q.dir) q.place)))))
        (λ off. view-off old new key dir s found.1 d' sources ticker hands returned q off)
  ]

  future-turned : (key : ℕ) (dir : Dir) (n task : ℕ) (fault : Bool) → Step old (PollFuture key dir n task fault) answer woken new →
      Turn q.place (sight_of q (PollFuture key dir n task fault) answer) woken (view q old) (view q new)
  future-turned key dir n task fault step = elim (unpoll fault _ old (core.FuturePoll key dir n task) key answer woken new step.step) [
    | inl refused ↦ refused-at q (is_of q key dir && same_place (OfFuture n) q.place) (poll_sight task answer) woken old new refused.world (ap (poll_sight task) refused.answered)
    | inr made ↦
        let found = some-of (source_of old.core.sources key) step.known in
        let s : Source = found.0 in
        let d = side dir s in
        let at = direction-at old.core key dir s found.1 in
        let d' = after_future old.core.ticker task d n in
        let T = old.core.ticker in
        let core_is = made.step.core ∙ sym (future-core old.core key dir s found.1 (with_source old.core.sources key (with_side dir s d')) task n refl) in
        let sources = ap (λ (c : Core). c.sources) core_is in
        let ticker = ap (λ (c : Core). c.ticker) core_is in
        let hands = ap (λ (c : Core). c.hands) core_is in
        let returned = ap (λ (w : World). w.returned) made.world in
        let answer_is : answer ≡ polled (future_answer (is_fired d n)) = made.answered ∙ ap polled (made.step.answered ∙ ap (λ x. future_answer (is_fired x n)) at) in
        seen-by q key dir (OfFuture n) (poll_sight task answer) woken (view q old) (view q new)
        (λ on.
        let before = view-before old new key dir s found.1 d' sources ticker hands returned q on in
        let after = view-after old new key dir s found.1 d' sources ticker hands returned q on in
        subst (λ a. Turn q.place (if true && same_place (OfFuture n) q.place then poll_sight task a else Elsewhere) woken (view q old) (view q new)) (sym answer_is)
        (subst (λ ws. Turn q.place (if true && same_place (OfFuture n) q.place then poll_sight task (polled (future_answer (is_fired d n))) else Elsewhere) ws (view q old) (view q new))
        (sym made.step.wakes)
        (subst (λ v. Turn q.place (if true && same_place (OfFuture n) q.place then poll_sight task (polled (future_answer (is_fired d n))) else Elsewhere) [] v (view q new)) (sym before)
        (subst (Turn q.place (if true && same_place (OfFuture n) q.place then poll_sight task (polled (future_answer (is_fired d n))) else Elsewhere) []
        (of q.place d T (is_some old.core.hands) (named_in old.returned q.key q.dir) true)) (sym after)
        (future-at T task d (is_some old.core.hands) (named_in old.returned q.key q.dir) n q.place)))))
        (λ off. view-off old new key dir s found.1 d' sources ticker hands returned q off)
  ]

  -- ---- a cancel

  cancel-turned : (key : ℕ) (dir : Dir) (n : ℕ) → Step old (Cancel key dir n) answer woken new → Turn q.place (sight_of q (Cancel key dir n) answer) woken (view q old) (view q new)
  cancel-turned key dir n step = at (source_of old.core.sources key) refl step.step
    where
      nothing : source_of old.core.sources key ≡ None → (place : Place) → is_of q key dir ≡ true → entry_at place (direction_at old.core q.key q.dir) ≡ None
      nothing none place on =
          let k : key ≡ q.key = eqb-true key q.key (two (key == q.key) (same_dir dir q.dir) on) in
          ap (λ o. entry_at place (direction_of o q.dir)) (ap (source_of old.core.sources) (sym k) ∙ none) ∙ empty place q.dir
        where
          two : (a b : Bool) → (a && b) ≡ true → a ≡ true
          two true b h = refl
          two false b h = absurd (true≢false (sym h))

          empty : (place : Place) (e : Dir) → entry_at place (direction_of None e) ≡ None
          empty ThePolled e = refl
          empty (OfFuture m) e = refl

      at : (o : Option Source) → source_of old.core.sources key ≡ o → CancelStep o old key (core.Cancel key dir n) woken new →
          Turn q.place (if is_of q key dir && same_place (OfFuture n) q.place then GivenUp else Elsewhere) woken (view q old) (view q new)
      at None is made =
          seen-by q key dir (OfFuture n) GivenUp woken (view q old) (view q new)
          (λ on. cases (same_place (OfFuture n) q.place) (λ b. Turn q.place (if b then GivenUp else Elsewhere) woken (view q old) (view q new))
          (λ same. ap (view q) made.1 ∙ ap (λ e. record (view q old) { entry = e }) (nothing is q.place on))
          (λ differs. ap (view q) made.1))
          (λ off. ap (view q) made.1)
      at (Some s) is made =
          let d = side dir s in
          let d' = without_future d n in
          let T = old.core.ticker in
          let core_is = made.0.core ∙ ap (λ o. after_source_cancel old.core key o dir n) is in
          let sources = ap (λ (c : Core). c.sources) core_is in
          let ticker = ap (λ (c : Core). c.ticker) core_is in
          let hands = ap (λ (c : Core). c.hands) core_is in
          let returned = ap (λ (w : World). w.returned) made.1 in
          let rises : KeysRiseFrom 0 d.futures = subst (λ (x : Direction). KeysRiseFrom 0 x.futures) (ap (λ o. direction_of o dir) is) (tidy.futures key dir) in
          seen-by q key dir (OfFuture n) GivenUp woken (view q old) (view q new)
          (λ on.
          let before = view-before old new key dir s is d' sources ticker hands returned q on in
          let after = view-after old new key dir s is d' sources ticker hands returned q on in
          subst (λ v. Turn q.place (if true && same_place (OfFuture n) q.place then GivenUp else Elsewhere) woken v (view q new)) (sym before)
          (subst (Turn q.place (if true && same_place (OfFuture n) q.place then GivenUp else Elsewhere) woken (of q.place d T (is_some old.core.hands) (named_in old.returned q.key q.dir) true))
          (sym after)
          (cancel-at T 0 d (is_some old.core.hands) (named_in old.returned q.key q.dir) rises n q.place woken)))
          (λ off. view-off old new key dir s is d' sources ticker hands returned q off)

  -- ---- an insertion and a removal

  view-of : (d : Direction) (t : ℕ) (h : Option (List ℕ)) (r : Option (List Report)) (has : Bool) → direction_at new.core q.key q.dir ≡ d → new.core.ticker ≡ t → new.core.hands ≡ h → new.returned
      ≡ r →
      is_some (source_of new.core.sources q.key) ≡ has → view q new ≡ of q.place d t (is_some h) (named_in r q.key q.dir) has
  view-of d t h r has d_is t_is h_is r_is has_is =
      ap (λ x. of q.place x new.core.ticker (is_some new.core.hands) (named_in new.returned q.key q.dir) (is_some (source_of new.core.sources q.key))) d_is
      ∙ ap (λ x. of q.place d x (is_some new.core.hands) (named_in new.returned q.key q.dir) (is_some (source_of new.core.sources q.key))) t_is
      ∙ ap (λ x. of q.place d t (is_some x) (named_in new.returned q.key q.dir) (is_some (source_of new.core.sources q.key))) h_is
      ∙ ap (λ x. of q.place d t (is_some h) (named_in x q.key q.dir) (is_some (source_of new.core.sources q.key))) r_is
      ∙ ap (of q.place d t (is_some h) (named_in r q.key q.dir)) has_is

  entry-idle : (place : Place) → entry_at place idle ≡ None
  entry-idle ThePolled = refl
  entry-idle (OfFuture n) = refl

  new-idle : (wire : ℕ) (e : Dir) → side e (new_source wire) ≡ idle
  new-idle wire Read = refl
  new-idle wire Write = refl

  insert-turned : (wire key : ℕ) (fault : Bool) → Step old (Insert wire key fault) answer woken new → Turn q.place (sight_of q (Insert wire key fault) answer) woken (view q old) (view q new)
  insert-turned wire key true step = refused-at q (key == q.key) (unless_failed answer NewSource Elsewhere) woken old new step.1.world (ap (λ a. unless_failed a NewSource Elsewhere) step.1.answered)
  insert-turned wire key false step =
      let core_is = step.step.core in
      let sources = ap (λ (c : Core). source_of c.sources q.key) core_is ∙ at_key-with_new_at old.core.sources key q.key (new_source wire) step.step.free in
      let ticker = ap (λ (c : Core). c.ticker) core_is in
      let hands = ap (λ (c : Core). c.hands) core_is in
      let returned = ap (λ (w : World). w.returned) step.world in
      subst (λ a. Turn q.place (if key == q.key then unless_failed a NewSource Elsewhere else Elsewhere) woken (view q old) (view q new)) (sym step.answered)
      (cases (key == q.key) (λ b. source_of new.core.sources q.key ≡ (if b then Some (new_source wire) else source_of old.core.sources q.key) → (key == q.key) ≡ b →
      Turn q.place (if b then NewSource else Elsewhere) woken (view q old) (view q new))
      (λ same there was.
      let none : direction_at old.core q.key q.dir ≡ idle = ap (λ o. direction_of o q.dir) (ap (source_of old.core.sources) (sym (eqb-true key q.key was)) ∙ step.step.free) in
      record {
        free = ap (entry_at q.place) none ∙ entry-idle q.place;
        view = view-of (direction_at old.core q.key q.dir) old.core.ticker old.core.hands old.returned true (ap (λ o. direction_of o q.dir) there ∙ new-idle wire q.dir ∙ sym none)
            ticker hands returned (ap is_some there);
      })
      (λ differs there was. view-of (direction_at old.core q.key q.dir) old.core.ticker old.core.hands old.returned (is_some (source_of old.core.sources q.key))
      (ap (λ o. direction_of o q.dir) there) ticker hands returned (ap is_some there))
      sources refl)

  remove-turned : (key : ℕ) (fault : Bool) → Step old (Remove key fault) answer woken new → Turn q.place (sight_of q (Remove key fault) answer) woken (view q old) (view q new)
  remove-turned key fault step =
      let core_is = step.step.core in
      let sources = ap (λ (c : Core). source_of c.sources q.key) core_is ∙ at_key-without_at 0 old.core.sources key q.key tidy.sources in
      let ticker = ap (λ (c : Core). c.ticker) core_is in
      let hands = ap (λ (c : Core). c.hands) core_is in
      let returned = ap (λ (w : World). w.returned) step.world in
      cases (key == q.key) (λ b. source_of new.core.sources q.key ≡ (if b then None else source_of old.core.sources q.key) →
      Turn q.place (if b then SourceGone else Elsewhere) woken (view q old) (view q new))
      (λ same there.
      view-of idle old.core.ticker old.core.hands old.returned false (ap (λ o. direction_of o q.dir) there) ticker hands returned (ap is_some there)
      ∙ ap (λ e. record { entry = e; reported = None; ticker = old.core.ticker; is_open = is_some old.core.hands; named = named_in old.returned q.key q.dir; has = false }) (entry-idle q.place))
      (λ differs there. view-of (direction_at old.core q.key q.dir) old.core.ticker old.core.hands old.returned (is_some (source_of old.core.sources q.key)) (ap (λ o. direction_of o q.dir) there)
      ticker hands returned (ap is_some there))
      sources

  -- ---- a round

  begin-turned : (now : ℕ) (timeout : Option ℕ) → Step old (Begin now timeout) answer woken new → Turn q.place RoundBegins woken (view q old) (view q new)
  begin-turned now timeout step =
      let made = step.1 in
      let core_is = made.step.core in
      record {
        closed = ap is_some made.step.closed;
        view = view-of (direction_at old.core q.key q.dir) (old.core.ticker + 1) (Some (due_tasks old.core (Some now))) None (is_some (source_of old.core.sources q.key))
            (ap (λ (c : Core). direction_at c q.key q.dir) core_is) (ap (λ (c : Core). c.ticker) core_is) (ap (λ (c : Core). c.hands) core_is) (ap (λ (w : World). w.returned) made.world)
            (ap (λ (c : Core). is_some (source_of c.sources q.key)) core_is);
      }

  return-turned : (reports : List Report) (fault : Bool) → Step old (Returned reports fault) answer woken new →
      Turn q.place (sight_of q (Returned reports fault) answer) woken (view q old) (view q new)
  return-turned reports true step =
      let made = step.step in
      subst (λ a. Turn q.place (unless_failed a (WaitReturns (names reports q.key q.dir)) (WaitReturns false)) woken (view q old) (view q new)) (sym made.answered)
      (view-of (direction_at old.core q.key q.dir) old.core.ticker old.core.hands (Some []) (is_some (source_of old.core.sources q.key))
      (ap (λ (c : Core). direction_at c q.key q.dir) made.step.core) (ap (λ (c : Core). c.ticker) made.step.core) (ap (λ (c : Core). c.hands) made.step.core)
      (ap (λ (w : World). w.returned) made.world)
      (ap (λ (c : Core). is_some (source_of c.sources q.key)) made.step.core))
  return-turned reports false step =
      let made = step.step in
      subst (λ a. Turn q.place (unless_failed a (WaitReturns (names reports q.key q.dir)) (WaitReturns false)) woken (view q old) (view q new)) (sym made.answered)
      (view-of (direction_at old.core q.key q.dir) old.core.ticker old.core.hands (Some reports) (is_some (source_of old.core.sources q.key))
      (ap (λ (c : Core). direction_at c q.key q.dir) made.step.core) (ap (λ (c : Core). c.ticker) made.step.core) (ap (λ (c : Core). c.hands) made.step.core)
      (ap (λ (w : World). w.returned) made.world)
      (ap (λ (c : Core). is_some (source_of c.sources q.key)) made.step.core))

  finish-turned : (later : Option ℕ) (fault : Bool) → Step old (Finish later fault) answer woken new → Turn q.place RoundEnds woken (view q old) (view q new)
  finish-turned later fault step =
      let reports = step.0 in
      let made = step.1 in
      let core_is = made.step.core in
      let T = old.core.ticker in
      let named : named_in old.returned q.key q.dir ≡ names reports q.key q.dir = ap (λ r. named_in r q.key q.dir) made.returned in
      let d = direction_at old.core q.key q.dir in
      let has = is_some (source_of old.core.sources q.key) in
      let n = named_in old.returned q.key q.dir in
      let d_is : direction_at new.core q.key q.dir ≡ (if has then marked n T d else d) =
      ap (λ (c : Core). direction_at c q.key q.dir) core_is ∙ direction-reports T old.core.sources reports q.key q.dir ∙ sym (ap (λ b. if has then marked b T d else d) named) in
      record {
        running = made.step.running;
        view = view-of (if has then marked n T d else d) T None None has d_is (ap (λ (c : Core). c.ticker) core_is) (ap (λ (c : Core). c.hands) core_is) (ap (λ (w : World). w.returned) made.world)
            (ap (λ (c : Core). is_some (source_of c.sources q.key)) core_is ∙ has-reports T old.core.sources reports q.key)
            ∙ ended has n (λ none. ap (λ o. entry_at q.place (direction_of o q.dir)) (no-source (source_of old.core.sources q.key) none) ∙ entry-idle q.place);
        wakes = λ yes task stored. subst (λ ws. contains task ws ≡ true) (sym made.step.wakes)
            (contains-left task (unwrap_or old.core.hands [] ++ taken_by_all T old.core.sources reports) (due_tasks old.core later)
            (contains-right task (unwrap_or old.core.hands []) (taken_by_all T old.core.sources reports)
            (taken-all task q.place q.key q.dir T reports old.core.sources (sym named ∙ yes) stored)));
      }
    where
      no-source : (o : Option Source) → is_some o ≡ false → o ≡ None
      no-source None h = refl
      no-source (Some s) h = absurd (true≢false h)

      ended : (has n : Bool) → (has ≡ false → entry_at q.place (direction_at old.core q.key q.dir) ≡ None) →
          of q.place (if has then marked n old.core.ticker (direction_at old.core q.key q.dir) else direction_at old.core q.key q.dir) old.core.ticker false false has
          ≡ record {
            entry = if n then without_task (entry_at q.place (direction_at old.core q.key q.dir)) else entry_at q.place (direction_at old.core q.key q.dir);
            reported = if n && has then Some old.core.ticker else (direction_at old.core q.key q.dir).reported;
            ticker = old.core.ticker;
            is_open = false;
            named = false;
            has = has;
          }
      ended true true none = ap (λ e. record { entry = e; reported = Some old.core.ticker; ticker = old.core.ticker; is_open = false; named = false; has = true })
          (entry-marked q.place true old.core.ticker (direction_at old.core q.key q.dir))
      ended true false none = refl
      ended false true none =
          let e = none refl in
          ap (λ e. record { entry = e; reported = (direction_at old.core q.key q.dir).reported; ticker = old.core.ticker; is_open = false; named = false; has = false }) (e ∙ sym (ap without_task e))
      ended false false none = refl

-- each step, as a place sees it
pub step-turn : (q : Spot) (old new : World) (kind : Kind) (answer : Answer) (woken : List ℕ) → Tidy old → Step old kind answer woken new →
    Turn q.place (sight_of q kind answer) woken (view q old) (view q new)
step-turn q old new (Poll key dir task fault) answer woken tidy step = poll-turn q old new answer woken tidy key dir task fault step
step-turn q old new (PollFuture key dir place task fault) answer woken tidy step = future-turned q old new answer woken tidy key dir place task fault step
step-turn q old new (Cancel key dir place) answer woken tidy step = cancel-turned q old new answer woken tidy key dir place step
step-turn q old new (Insert wire key fault) answer woken tidy step = insert-turned q old new answer woken tidy wire key fault step
step-turn q old new (Remove key fault) answer woken tidy step = remove-turned q old new answer woken tidy key fault step
step-turn q old new (Begin now timeout) answer woken tidy step = begin-turned q old new answer woken tidy now timeout step
step-turn q old new (Returned reports fault) answer woken tidy step = return-turned q old new answer woken tidy reports fault step
step-turn q old new (Finish later fault) answer woken tidy step = finish-turned q old new answer woken tidy later fault step
