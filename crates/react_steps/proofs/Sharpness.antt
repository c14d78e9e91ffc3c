-- While no call of the poller fails, the direction of each task that waits stays armed or named.
use Rattle.std.proofs.Common.{◌≡◌, ℕ, Bool, true, false, true≢false, List, [], ◌∷◌, Option, Some, None, is_some, refl, sym, ap, ◌∙◌, subst, inl, inr, arith}
use Rattle.std.specs.Prelude.{◌==◌, ◌&&◌, ◌||◌, if◌then◌else◌}
use Rattle.std.proofs.lemmas.Bool.{eqb-true, eq-eqb}
use Rattle.react_core.specs.declared.outside.Report.{Report}
use Rattle.react_core.specs.declared.reactor.Dir.{Dir}
use Rattle.react_core.specs.declared.reactor.Dir.TheVariants.{Read, Write}
use Rattle.react_core.specs.Asking.{after_direction}
use Rattle.react_core.specs.Core.{Core}
use Rattle.react_core.specs.Futures.{asks, after_future, direction_of, direction_at, without_future, after_source_cancel}
use Rattle.react_core.specs.Keyed.{at_key, KeysRiseFrom}
use Rattle.react_core.specs.Places.{Direction, Source}
use Rattle.react_core.specs.Readiness.{direction_outcome, poll_outcome, arms}
use Rattle.react_core.specs.Reports.{Arming, arming_of, marked, after_report, armings_by, armings_by_all}
use Rattle.react_core.specs.Sources.{source_of, with_source, new_source, side, with_side, waits}
use Rattle.react_core.specs.Step as core
use Rattle.react_core.proofs.Askings.{outcome-at, polled-core, begun_after}
use Rattle.react_core.proofs.Futures.{direction-at, future-core}
use Rattle.react_core.proofs.Keyed.{at_key-with_at, at_key-with_new_at, at_key-without_at, KeysRiseFrom-with_new_at, KeysRiseFrom-without_at}
use Rattle.react_steps.specs.declared.armed.Armed.{Armed}
use Rattle.react_steps.specs.declared.kind.Answer.{Answer}
use Rattle.react_steps.specs.declared.kind.Kind.{Kind}
use Rattle.react_steps.specs.declared.kind.Kind.TheVariants.{Poll, PollFuture, Cancel, Insert, Remove, Begin, Returned, Finish}
use Rattle.react_steps.specs.declared.kind.Taken.{Taken}
use Rattle.react_steps.specs.Accounts.{armed_in, named_in, is_failed, NoneFailed, Accounted, stored_at}
use Rattle.react_steps.specs.History.{Run}
use Rattle.react_steps.specs.Sights.{Spot, same_dir, names}
use Rattle.react_steps.specs.World.{World, idle, Step, CancelStep, with_armings, armings_of, unarmed, without_reports, made_of, fails_of, done_or_failed, armed_at_key}
use Rattle.react_steps.proofs.Agreeing.{cases}
use Rattle.react_steps.proofs.Covering.{stored-waits, unarmed-poll, unarmed-future, cancel-waits, marked-waits, armed-here, armed-elsewhere, rises-armings, rises-without, armed-or-named}
use Rattle.react_steps.proofs.Covering.{keeps-armed}
use Rattle.react_steps.proofs.Ends.{direction-reports}
use Rattle.react_steps.proofs.Laws.{tidy-run, polls-run}
use Rattle.react_steps.proofs.Machines.{SameKeys, keys-armings, free-too, keys-inserted, keys-removed}
use Rattle.react_steps.proofs.Moves.{if-true, direction-with}
use Rattle.react_steps.proofs.Reporting.{keys-reports, keys-without}
use Rattle.react_steps.proofs.Rows.{keys-with_at}
use Rattle.react_steps.proofs.Turning.{Tidy, some-of, unpoll}

-- what the armed directions are to the sources
pub record Sharp (w : World) : Type 0 where
  pub rises : KeysRiseFrom 0 w.armed
  pub keys : SameKeys w.armed w.core.sources
  pub running : is_some w.returned ≡ true → is_some w.core.hands ≡ true
  pub covered : (k : ℕ) (e : Dir) → waits (direction_at w.core k e) ≡ true → (armed_in e (at_key w.armed k) || named_in w.returned k e) ≡ true

idle-waits : (e : Dir) → waits (direction_of None e) ≡ false
idle-waits e = refl

none-armed : (e : Dir) → armed_in e None ≡ false
none-armed Read = refl
none-armed Write = refl

sharp-idle : Sharp idle
sharp-idle = record { rises = tt; keys = λ k. refl; running = λ some. absurd (true≢false (sym some)); covered = λ k e w. absurd (true≢false (sym w ∙ idle-waits e)) }

-- a poll that was not refused
module _ (old new : World) (sharp : Sharp old) (key : ℕ) (dir : Dir) (s : Source) (found : source_of old.core.sources key ≡ Some s) (d : Direction) (b : Bool)
    (sources : new.core.sources ≡ with_source old.core.sources key (with_side dir s d)) (hands : new.core.hands ≡ old.core.hands) (returned : new.returned ≡ old.returned)
    (armed : new.armed ≡ (if b then armed_at_key new.core key old.armed else old.armed)) (quiet : b ≡ false → waits d ≡ true → waits (side dir s) ≡ true) where
  abbrev s' : Source
  s' = with_side dir s d

  source-there : source_of new.core.sources key ≡ Some s'
  source-there = ap (λ ss. source_of ss key) sources ∙ at_key-with_at old.core.sources key key s' (ap is_some found) ∙ if-true (key == key) _ _ (eq-eqb key key refl)

  armed-known : is_some (at_key old.armed key) ≡ true
  armed-known = sharp.keys key ∙ ap is_some found

  keys-if : (c : Bool) (l : List (ℕ × Armed)) (armings : List Arming) (k : ℕ) → is_some (at_key (if c then with_armings l armings else l) k) ≡ is_some (at_key l k)
  keys-if true l armings k = keys-armings l armings k
  keys-if false l armings k = refl

  rises-if : (c : Bool) (l : List (ℕ × Armed)) (armings : List Arming) → KeysRiseFrom 0 l → KeysRiseFrom 0 (if c then with_armings l armings else l)
  rises-if true l armings r = rises-armings l armings r
  rises-if false l armings r = r

  armed-is : new.armed ≡ (if b then with_armings old.armed (arming_of key s') else old.armed)
  armed-is = armed ∙ ap (λ o. if b then with_armings old.armed (armings_of key o) else old.armed) source-there

  direction-is : (k : ℕ) (e : Dir) → direction_at new.core k e ≡ (if key == k && same_dir dir e then d else direction_at old.core k e)
  direction-is k e = ap (λ ss. direction_of (source_of ss k) e) sources ∙ direction-with old.core.sources key dir s found d k e

  covered-by : (c : Bool) → b ≡ c → (k : ℕ) (e : Dir) → waits (direction_at new.core k e) ≡ true → (armed_in e (at_key new.armed k) || named_in new.returned k e) ≡ true
  covered-by true is k e w =
      let l_is : new.armed ≡ with_armings old.armed (arming_of key s') = armed-is ∙ ap (λ c. if c then with_armings old.armed (arming_of key s') else old.armed) is in
      cases (key == k) (λ c. (key == k) ≡ c → (armed_in e (at_key new.armed k) || named_in new.returned k e) ≡ true)
      (λ same was.
      let k_is : key ≡ k = eqb-true key k was in
      let there : direction_at new.core k e ≡ side e s' = ap (λ o. direction_of o e) (ap (source_of new.core.sources) (sym k_is) ∙ source-there) in
      or-one (armed_in e (at_key new.armed k)) (named_in new.returned k e)
      (ap (λ (l : List (ℕ × Armed)). armed_in e (at_key l k)) l_is ∙ subst (λ j. armed_in e (at_key (with_armings old.armed (arming_of key s')) j) ≡ true) k_is
      (armed-here old.armed key s' e armed-known (sym (ap waits there) ∙ w))))
      (λ differs was.
      let same : direction_at new.core k e ≡ direction_at old.core k e = direction-is k e ∙ ap (λ c. if c && same_dir dir e then d else direction_at old.core k e) was in
      ap (λ (l : List (ℕ × Armed)). armed_in e (at_key l k) || named_in new.returned k e) l_is
      ∙ ap (λ o. armed_in e o || named_in new.returned k e) (armed-elsewhere old.armed key s' k armed-known was)
      ∙ ap (λ r. armed_in e (at_key old.armed k) || named_in r k e) returned ∙ sharp.covered k e (sym (ap waits same) ∙ w)) refl
    where
      or-one : (x y : Bool) → x ≡ true → (x || y) ≡ true
      or-one true y h = refl
      or-one false y h = absurd (true≢false (sym h))
  covered-by false is k e w =
      let l_is : new.armed ≡ old.armed = armed-is ∙ ap (λ c. if c then with_armings old.armed (arming_of key s') else old.armed) is in
      ap (λ (l : List (ℕ × Armed)). armed_in e (at_key l k) || named_in new.returned k e) l_is ∙ ap (λ r. armed_in e (at_key old.armed k) || named_in r k e) returned
      ∙ sharp.covered k e
      (cases (key == k && same_dir dir e) (λ c. (key == k && same_dir dir e) ≡ c → waits (if c then d else direction_at old.core k e) ≡ true → waits (direction_at old.core k e) ≡ true)
      (λ here was now.
      let p = two (key == k) (same_dir dir e) was in
      let there : direction_at old.core k e ≡ side dir s =
      ap (λ j. direction_at old.core j e) (sym (eqb-true key k p.0)) ∙ ap (λ x. direction_at old.core key x) (sym (dir-eq dir e p.1)) ∙ ap (λ o. direction_of o dir) found in
      ap waits there ∙ quiet is now)
      (λ elsewhere was now. now) refl (sym (ap waits (direction-is k e)) ∙ w))
    where
      two : (x y : Bool) → (x && y) ≡ true → (x ≡ true) × (y ≡ true)
      two true y h = (refl, h)
      two false y h = absurd (true≢false (sym h))

      dir-eq : (x y : Dir) → same_dir x y ≡ true → x ≡ y
      dir-eq Read Read h = refl
      dir-eq Write Write h = refl
      dir-eq Read Write h = absurd (true≢false (sym h))
      dir-eq Write Read h = absurd (true≢false (sym h))

  pub polled-sharp : Sharp new
  polled-sharp = record {
    rises = subst (KeysRiseFrom 0) (sym armed-is) (rises-if b old.armed (arming_of key s') sharp.rises);
    keys = λ k. ap (λ (l : List (ℕ × Armed)). is_some (at_key l k)) armed-is ∙ keys-if b old.armed (arming_of key s') k ∙ sharp.keys k
        ∙ sym (keys-with_at old.core.sources key s' k) ∙ sym (ap (λ (ss : List (ℕ × Source)). is_some (at_key ss k)) sources);
    running = λ some. ap is_some hands ∙ sharp.running (sym (ap is_some returned) ∙ some);
    covered = covered-by b refl;
  }

module _ (old new : World) (sharp : Sharp old) (tidy : Tidy old) where
  poll-sharp : (key : ℕ) (dir : Dir) (task : ℕ) (fault : Bool) (answer : Answer) (woken : List ℕ) → is_failed answer ≡ false → Step old (Poll key dir task fault) answer woken new → Sharp new
  poll-sharp key dir task fault answer woken fine step = elim (unpoll fault _ old (core.PolledPoll key dir task) key answer woken new step.step) [
    | inl refused ↦ absurd (true≢false (sym (ap is_failed refused.answered) ∙ fine))
    | inr made ↦
        let found = some-of (source_of old.core.sources key) step.known in
        let d = side dir found.0 in
        let d' = after_direction old.core.ticker task d in
        let o = outcome-at old.core key dir task found.0 found.1 in
        let core_is = made.step.core ∙ sym (polled-core old.core key dir task found.0 found.1 (with_source old.core.sources key (with_side dir found.0 d'))
        (begun_after old.core.begun (direction_outcome task d)) refl refl) in
        polled-sharp old new sharp key dir found.0 found.1 d' (arms (poll_outcome old.core key dir task)) (ap (λ (c : Core). c.sources) core_is) (ap (λ (c : Core). c.hands) core_is)
        (ap (λ (w : World). w.returned) made.world) (ap (λ (w : World). w.armed) made.world) (λ none w. unarmed-poll old.core.ticker task d (sym (ap arms o) ∙ none) w)
  ]

  future-sharp : (key : ℕ) (dir : Dir) (n task : ℕ) (fault : Bool) (answer : Answer) (woken : List ℕ) → is_failed answer ≡ false → Step old (PollFuture key dir n task fault) answer woken new →
      Sharp new
  future-sharp key dir n task fault answer woken fine step = elim (unpoll fault _ old (core.FuturePoll key dir n task) key answer woken new step.step) [
    | inl refused ↦ absurd (true≢false (sym (ap is_failed refused.answered) ∙ fine))
    | inr made ↦
        let found = some-of (source_of old.core.sources key) step.known in
        let d = side dir found.0 in
        let d' = after_future old.core.ticker task d n in
        let at = direction-at old.core key dir found.0 found.1 in
        let core_is = made.step.core ∙ sym (future-core old.core key dir found.0 found.1 (with_source old.core.sources key (with_side dir found.0 d')) task n refl) in
        polled-sharp old new sharp key dir found.0 found.1 d' (asks (direction_at old.core key dir) (at_key (direction_at old.core key dir).futures n)) (ap (λ (c : Core). c.sources) core_is)
        (ap (λ (c : Core). c.hands) core_is) (ap (λ (w : World). w.returned) made.world) (ap (λ (w : World). w.armed) made.world)
        (λ none w. unarmed-future old.core.ticker task d n (sym (ap (λ x. asks x (at_key x.futures n)) at) ∙ none) w)
  ]

  -- a step that leaves the armed directions, and lets no task wait where none waited
  calm-sharp : new.armed ≡ old.armed → ((k : ℕ) → is_some (source_of new.core.sources k) ≡ is_some (source_of old.core.sources k)) → new.returned ≡ old.returned → new.core.hands ≡ old.core.hands →
      ((k : ℕ) (e : Dir) → waits (direction_at new.core k e) ≡ true → waits (direction_at old.core k e) ≡ true) → Sharp new
  calm-sharp armed has returned hands fewer = record {
    rises = subst (KeysRiseFrom 0) (sym armed) sharp.rises;
    keys = λ k. ap (λ (l : List (ℕ × Armed)). is_some (at_key l k)) armed ∙ sharp.keys k ∙ sym (has k);
    running = λ some. ap is_some hands ∙ sharp.running (sym (ap is_some returned) ∙ some);
    covered = λ k e w. ap (λ (l : List (ℕ × Armed)). armed_in e (at_key l k) || named_in new.returned k e) armed ∙ ap (λ r. armed_in e (at_key old.armed k) || named_in r k e) returned
        ∙ sharp.covered k e (fewer k e w);
  }

  cancel-sharp : (key : ℕ) (dir : Dir) (n : ℕ) (woken : List ℕ) (o : Option Source) → source_of old.core.sources key ≡ o → CancelStep o old key (core.Cancel key dir n) woken new → Sharp new
  cancel-sharp key dir n woken None is made = subst Sharp (sym made.1) sharp
  cancel-sharp key dir n woken (Some s) is made =
      let core_is = made.0.core ∙ ap (λ o. after_source_cancel old.core key o dir n) is in
      let sources = ap (λ (c : Core). c.sources) core_is in
      let d' = without_future (side dir s) n in
      calm-sharp (ap (λ (w : World). w.armed) made.1)
      (λ k. ap (λ (ss : List (ℕ × Source)). is_some (source_of ss k)) sources ∙ keys-with_at old.core.sources key (with_side dir s d') k)
      (ap (λ (w : World). w.returned) made.1) (ap (λ (c : Core). c.hands) core_is)
      (λ k e w.
      let at = ap (λ ss. direction_of (source_of ss k) e) sources ∙ direction-with old.core.sources key dir s is d' k e in
      cases (key == k && same_dir dir e) (λ c. (key == k && same_dir dir e) ≡ c → waits (if c then d' else direction_at old.core k e) ≡ true → waits (direction_at old.core k e) ≡ true)
      (λ here was now.
      let p = two (key == k) (same_dir dir e) was in
      let there : direction_at old.core k e ≡ side dir s =
      ap (λ j. direction_at old.core j e) (sym (eqb-true key k p.0)) ∙ ap (λ x. direction_at old.core key x) (sym (dir-eq dir e p.1)) ∙ ap (λ o. direction_of o dir) is in
      ap waits there ∙ cancel-waits (side dir s) n now)
      (λ elsewhere was now. now) refl (sym (ap waits at) ∙ w))
    where
      two : (x y : Bool) → (x && y) ≡ true → (x ≡ true) × (y ≡ true)
      two true y h = (refl, h)
      two false y h = absurd (true≢false (sym h))

      dir-eq : (x y : Dir) → same_dir x y ≡ true → x ≡ y
      dir-eq Read Read h = refl
      dir-eq Write Write h = refl
      dir-eq Read Write h = absurd (true≢false (sym h))
      dir-eq Write Read h = absurd (true≢false (sym h))

  new-waits : (wire : ℕ) (e : Dir) → waits (side e (new_source wire)) ≡ false
  new-waits wire Read = refl
  new-waits wire Write = refl

  insert-sharp : (wire key : ℕ) (fault : Bool) (answer : Answer) (woken : List ℕ) → is_failed answer ≡ false → Step old (Insert wire key fault) answer woken new → Sharp new
  insert-sharp wire key true answer woken fine step = absurd (true≢false (sym (ap is_failed step.1.answered) ∙ fine))
  insert-sharp wire key false answer woken fine step =
      let core_is = step.step.core in
      let armed = ap (λ (w : World). w.armed) step.world in
      let returned = ap (λ (w : World). w.returned) step.world in
      let free = free-too old.armed old.core.sources sharp.keys key step.step.free in
      record {
        rises = subst (KeysRiseFrom 0) (sym armed) (KeysRiseFrom-with_new_at 0 old.armed key unarmed sharp.rises free (omega arith));
        keys = λ k. ap (λ (l : List (ℕ × Armed)). is_some (at_key l k)) armed ∙ keys-inserted old.armed old.core.sources sharp.keys key unarmed (new_source wire) step.step.free k
            ∙ sym (ap (λ (c : Core). is_some (at_key c.sources k)) core_is);
        running = λ some. ap (λ (c : Core). is_some c.hands) core_is ∙ sharp.running (sym (ap is_some returned) ∙ some);
        covered = λ k e w.
            let source_is = ap (λ (c : Core). source_of c.sources k) core_is ∙ at_key-with_new_at old.core.sources key k (new_source wire) step.step.free in
            let armed_is = ap (λ (l : List (ℕ × Armed)). at_key l k) armed ∙ at_key-with_new_at old.armed key k unarmed free in
            cases (key == k) (λ b. source_of new.core.sources k ≡ (if b then Some (new_source wire) else source_of old.core.sources k) → at_key new.armed k
            ≡ (if b then Some unarmed else at_key old.armed k) →
            (armed_in e (at_key new.armed k) || named_in new.returned k e) ≡ true)
            (λ same there a. absurd (true≢false (sym w ∙ ap waits (ap (λ o. direction_of o e) there) ∙ new-waits wire e)))
            (λ differs there a. ap (λ o. armed_in e o || named_in new.returned k e) a ∙ ap (λ r. armed_in e (at_key old.armed k) || named_in r k e) returned
            ∙ sharp.covered k e (sym (ap waits (ap (λ o. direction_of o e) there)) ∙ w))
            source_is armed_is;
      }

  remove-sharp : (key : ℕ) (fault : Bool) (answer : Answer) (woken : List ℕ) → Step old (Remove key fault) answer woken new → Sharp new
  remove-sharp key fault answer woken step =
      let core_is = step.step.core in
      let armed = ap (λ (w : World). w.armed) step.world in
      let returned = ap (λ (w : World). w.returned) step.world in
      record {
        rises = subst (KeysRiseFrom 0) (sym armed) (KeysRiseFrom-without_at 0 old.armed key sharp.rises);
        keys = λ k. ap (λ (l : List (ℕ × Armed)). is_some (at_key l k)) armed ∙ keys-removed old.armed old.core.sources sharp.keys key sharp.rises tidy.sources k
            ∙ sym (ap (λ (c : Core). is_some (at_key c.sources k)) core_is);
        running = λ some. ap (λ (c : Core). is_some c.hands) core_is ∙ sharp.running (sym (ap is_some returned) ∙ some);
        covered = λ k e w.
            let source_is = ap (λ (c : Core). source_of c.sources k) core_is ∙ at_key-without_at 0 old.core.sources key k tidy.sources in
            let armed_is = ap (λ (l : List (ℕ × Armed)). at_key l k) armed ∙ at_key-without_at 0 old.armed key k sharp.rises in
            cases (key == k) (λ b. source_of new.core.sources k ≡ (if b then None else source_of old.core.sources k) → at_key new.armed k ≡ (if b then None else at_key old.armed k) →
            (armed_in e (at_key new.armed k) || named_in new.returned k e) ≡ true)
            (λ same there a. absurd (true≢false (sym w ∙ ap waits (ap (λ o. direction_of o e) there) ∙ idle-waits e)))
            (λ differs there a. ap (λ o. armed_in e o || named_in new.returned k e) a ∙ ap (λ r. armed_in e (at_key old.armed k) || named_in r k e) returned
            ∙ sharp.covered k e (sym (ap waits (ap (λ o. direction_of o e) there)) ∙ w))
            source_is armed_is;
      }

  none-if : {T : Type 0} (o : Option T) → (is_some o ≡ true → ⊥) → o ≡ None
  none-if None never = refl
  none-if (Some x) never = absurd (never refl)

  begin-sharp : (now : ℕ) (timeout : Option ℕ) (answer : Answer) (woken : List ℕ) → Step old (Begin now timeout) answer woken new → Sharp new
  begin-sharp now timeout answer woken step =
      let made = step.1 in
      let core_is = made.step.core in
      let armed = ap (λ (w : World). w.armed) made.world in
      let returned : new.returned ≡ None = ap (λ (w : World). w.returned) made.world in
      let before : old.returned ≡ None = none-if old.returned (λ some. true≢false (sym (sharp.running some) ∙ ap is_some made.step.closed)) in
      record {
        rises = subst (KeysRiseFrom 0) (sym armed) sharp.rises;
        keys = λ k. ap (λ (l : List (ℕ × Armed)). is_some (at_key l k)) armed ∙ sharp.keys k ∙ sym (ap (λ (c : Core). is_some (at_key c.sources k)) core_is);
        running = λ some. absurd (true≢false (sym some ∙ ap is_some returned));
        covered = λ k e w. ap (λ (l : List (ℕ × Armed)). armed_in e (at_key l k) || named_in new.returned k e) armed
            ∙ ap (λ r. armed_in e (at_key old.armed k) || named_in r k e) (returned ∙ sym before) ∙ sharp.covered k e (sym (ap (λ (c : Core). waits (direction_at c k e)) core_is) ∙ w);
      }

  or-none : (b : Bool) → (b || false) ≡ true → b ≡ true
  or-none true h = refl
  or-none false h = absurd (true≢false (sym h))

  return-sharp : (reports : List Report) (fault : Bool) (answer : Answer) (woken : List ℕ) → is_failed answer ≡ false → Step old (Returned reports fault) answer woken new → Sharp new
  return-sharp reports true answer woken fine step = absurd (true≢false (sym (ap is_failed step.step.answered) ∙ fine))
  return-sharp reports false answer woken fine step =
      let made = step.step in
      let core_is = made.step.core in
      let armed : new.armed ≡ without_reports old.armed reports = ap (λ (w : World). w.armed) made.world in
      let returned : new.returned ≡ Some reports = ap (λ (w : World). w.returned) made.world in
      record {
        rises = subst (KeysRiseFrom 0) (sym armed) (rises-without old.armed reports sharp.rises);
        keys = λ k. ap (λ (l : List (ℕ × Armed)). is_some (at_key l k)) armed ∙ keys-without old.armed reports k ∙ sharp.keys k ∙ sym (ap (λ (c : Core). is_some (at_key c.sources k)) core_is);
        running = λ some. ap (λ (c : Core). is_some c.hands) core_is ∙ made.step.running;
        covered = λ k e w.
            let was = ap (λ r. armed_in e (at_key old.armed k) || named_in r k e) (sym step.waits) ∙ sharp.covered k e (sym (ap (λ (c : Core). waits (direction_at c k e)) core_is) ∙ w) in
            ap (λ (l : List (ℕ × Armed)). armed_in e (at_key l k) || named_in new.returned k e) armed
            ∙ ap (λ r. armed_in e (at_key (without_reports old.armed reports) k) || named_in r k e) returned
            ∙ armed-or-named e old.armed reports k (or-none (armed_in e (at_key old.armed k)) was);
      }

  keys-one_of : (t : ℕ) (armed : List (ℕ × Armed)) (r : Report) (sources : List (ℕ × Source)) → SameKeys armed sources →
      SameKeys (with_armings armed (armings_by t sources r)) (after_report t sources r)
  keys-one_of t armed r sources keys k = keys-armings armed (armings_by t sources r) k ∙ keys k ∙ sym (keys-reports t sources (r ∷ []) k)

  all-made : (fault : Bool) (armings : List Arming) → is_failed (done_or_failed (fails_of fault armings)) ≡ false → made_of fault armings ≡ armings
  all-made fault [] fine = refl
  all-made true (a ∷ armings) fine = absurd (true≢false fine)
  all-made false (a ∷ armings) fine = refl

  finish-sharp : (later : Option ℕ) (fault : Bool) (answer : Answer) (woken : List ℕ) → is_failed answer ≡ false → Step old (Finish later fault) answer woken new → Sharp new
  finish-sharp later fault answer woken fine step =
      let reports = step.0 in
      let made = step.1 in
      let T = old.core.ticker in
      let all = armings_by_all T old.core.sources reports in
      let core_is = made.step.core in
      let armed : new.armed ≡ with_armings old.armed all = ap (λ (w : World). w.armed) made.world ∙ ap (with_armings old.armed) (all-made fault all (sym (ap is_failed made.answered) ∙ fine)) in
      let returned : new.returned ≡ None = ap (λ (w : World). w.returned) made.world in
      record {
        rises = subst (KeysRiseFrom 0) (sym armed) (rises-armings old.armed all sharp.rises);
        keys = λ k. ap (λ (l : List (ℕ × Armed)). is_some (at_key l k)) armed ∙ keys-armings old.armed all k ∙ sharp.keys k ∙ sym (keys-reports T old.core.sources reports k)
            ∙ sym (ap (λ (c : Core). is_some (at_key c.sources k)) core_is);
        running = λ some. absurd (true≢false (sym some ∙ ap is_some returned));
        covered = λ k e w.
            let at = ap (λ (c : Core). direction_at c k e) core_is ∙ direction-reports T old.core.sources reports k e in
            or-one (armed_in e (at_key new.armed k)) (named_in new.returned k e)
            (ap (λ (l : List (ℕ × Armed)). armed_in e (at_key l k)) armed
            ∙ by-name (names reports k e) reports k e T refl made.returned (sym (ap waits at) ∙ w));
      }
    where
      or-one : (x y : Bool) → x ≡ true → (x || y) ≡ true
      or-one true y h = refl
      or-one false y h = absurd (true≢false (sym h))

      unnamed : (b : Bool) (d : Direction) (t : ℕ) → waits (if b then marked false t d else d) ≡ waits d
      unnamed true d t = refl
      unnamed false d t = refl

      named : (o : Option Source) (e : Dir) (t : ℕ) → waits (if is_some o then marked true t (direction_of o e) else direction_of o e) ≡ false
      named None e t = idle-waits e
      named (Some s) e t = marked-waits t (side e s)

      by-name : (b : Bool) (reports : List Report) (k : ℕ) (e : Dir) (t : ℕ) → names reports k e ≡ b → old.returned ≡ Some reports →
          waits (if is_some (source_of old.core.sources k) then marked (names reports k e) t (direction_at old.core k e) else direction_at old.core k e) ≡ true →
          armed_in e (at_key (with_armings old.armed (armings_by_all t old.core.sources reports)) k) ≡ true
      by-name true reports k e t is was w =
          absurd (true≢false (sym w ∙ ap (λ b. waits (if is_some (source_of old.core.sources k) then marked b t (direction_at old.core k e) else direction_at old.core k e)) is
          ∙ named (source_of old.core.sources k) e t))
      by-name false reports k e t is was w =
          let waited : waits (direction_at old.core k e) ≡ true =
          sym (unnamed (is_some (source_of old.core.sources k)) (direction_at old.core k e) t)
          ∙ sym (ap (λ b. waits (if is_some (source_of old.core.sources k) then marked b t (direction_at old.core k e) else direction_at old.core k e)) is) ∙ w in
          let covered = sharp.covered k e waited in
          let armed : armed_in e (at_key old.armed k) ≡ true =
          or-none (armed_in e (at_key old.armed k)) (ap (λ b. armed_in e (at_key old.armed k) || b) (sym is) ∙ ap (λ r. armed_in e (at_key old.armed k) || named_in r k e) (sym was) ∙ covered) in
          keeps-armed t reports old.core.sources old.armed k e is armed waited sharp.keys (keys-one_of t)

pub sharp-step : (old new : World) (kind : Kind) (answer : Answer) (woken : List ℕ) → Sharp old → Tidy old → is_failed answer ≡ false → Step old kind answer woken new → Sharp new
sharp-step old new (Poll key dir task fault) answer woken sharp tidy fine step = poll-sharp old new sharp tidy key dir task fault answer woken fine step
sharp-step old new (PollFuture key dir place task fault) answer woken sharp tidy fine step = future-sharp old new sharp tidy key dir place task fault answer woken fine step
sharp-step old new (Cancel key dir place) answer woken sharp tidy fine step = cancel-sharp old new sharp tidy key dir place woken (source_of old.core.sources key) refl step.step
sharp-step old new (Insert wire key fault) answer woken sharp tidy fine step = insert-sharp old new sharp tidy wire key fault answer woken fine step
sharp-step old new (Remove key fault) answer woken sharp tidy fine step = remove-sharp old new sharp tidy key fault answer woken step
sharp-step old new (Begin now timeout) answer woken sharp tidy fine step = begin-sharp old new sharp tidy now timeout answer woken step
sharp-step old new (Returned reports fault) answer woken sharp tidy fine step = return-sharp old new sharp tidy reports fault answer woken fine step
sharp-step old new (Finish later fault) answer woken sharp tidy fine step = finish-sharp old new sharp tidy later fault answer woken fine step

pub sharp-run : (past : List Taken) (w : World) → Run past w → NoneFailed past → Sharp w
sharp-run [] w is fine = subst Sharp (sym is) sharp-idle
sharp-run (t ∷ past) w run fine = sharp-step run.0 w t.kind t.answer t.woken (sharp-run past run.0 run.2 fine.1) (tidy-run past run.0 run.2) fine.0 run.1

-- where no call of the poller failed, the direction of each task that is stored is armed, or named by the open round's reports
pub armed-run : (past : List Taken) (w : World) → Run past w → NoneFailed past → (q : Spot) (task : ℕ) → stored_at w.core q ≡ Some task →
    (armed_in q.dir (at_key w.armed q.key) || named_in w.returned q.key q.dir) ≡ true
armed-run past w run fine q task stored = (sharp-run past w run fine).covered q.key q.dir (stored-waits q.place (direction_at w.core q.key q.dir) task stored)

-- what every list of steps leads to
pub accounted-run : (past : List Taken) (w : World) → Run past w → Accounted past w
accounted-run past w run = record {
  polls = λ later earlier t q task is seen. polls-run q task t later earlier w (subst (λ steps. Run steps w) is run) seen;
  armed = λ fine q task stored. armed-run past w run fine q task stored;
}
