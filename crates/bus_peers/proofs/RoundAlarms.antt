-- The timers of the sessions that sleep, across a round.
use Rattle.std.proofs.Common.{◌≡◌, ◌≢◌, ◌≤◌, ◌<◌, inl, inr, ◌+◌, ℕ, zero, suc, Bool, true, false, nat_lt, nat_le, ◌&&◌}
use Rattle.std.proofs.Common.{◌||◌, ◌==◌, if◌then◌else◌, List, [], ◌∷◌, ◌++◌, Option, Some, None, slice_get}
use Rattle.std.proofs.Common.{refl, sym, ◌∙◌, ap, subst, arith}
use Rattle.std.proofs.lemmas.Bool.{both_ways, eq-eqb, ne_eqb, lt-ltb, ltb-true, ltb-false, le-ltb, le-leb, or_left, or_right}
use Rattle.std.proofs.lemmas.Option.{none-some, same_Some}
use Rattle.std.proofs.lemmas.List.Elements.{filter-append}
use Rattle.std.proofs.lemmas.List.Folds.{list_any-append}
use Rattle.react_timers.specs.declared.timer.LiveTimer.{LiveTimer}
use Rattle.react_timers.specs.Live.{later}
use Rattle.react_core.specs.declared.outside.Event.{Event}
use Rattle.react_core.specs.Core.{Core, timers_applied}
use Rattle.bus_session.specs.declared.session.Session.{Session}
use Rattle.bus_session.specs.Alone.{has_reached}
use Rattle.bus_record.specs.Pieces as pieces
use Rattle.bus_record.specs.Pieces.{Pieces}
use Rattle.bus_record.specs.Places.{sleeps}
use Rattle.bus_record.specs.Settled.{is_late}
use Rattle.bus_visit.specs.declared.visiting.Slot.{Slot}
use Rattle.bus_visit.specs.declared.visiting.Slot.TheVariants as slot
use Rattle.bus_visit.specs.declared.visiting.Sleeper.{Sleeper}
use Rattle.bus_visit.specs.declared.timing.Alarm.{Alarm}
use Rattle.bus_visit.specs.Registry.{Held}
use Rattle.bus_visit.specs.Shown.{Tags, tag_at, has_wire}
use Rattle.bus_visit.specs.laws.Tags.{tag-has_wire}
use Rattle.bus_peers.specs.inside.Alarms.{alarm_of, live_of, live, NumbersRise, IsAbove, AllAbove, Alarmed}
use Rattle.bus_peers.specs.inside.Due.{is_in, is_timer_due, late_at}
use Rattle.bus_peers.specs.inside.RoundEvents.{Round, ReadTo, left_after}
use Rattle.bus_peers.specs.inside.Rounds.{Rounded}
use Rattle.bus_peers.specs.inside.Shows.{Shows}
use Rattle.bus_peers.specs.inside.Slots.{Stands, Owns, AllOwn, Owned, deadline_after}
use Rattle.bus_peers.proofs.Sleepers.{awake-now}
use Rattle.bus_peers.proofs.SlotLemmas.{owns-at}
use Rattle.bus_peers.proofs.Standing.{sleeps-now}

-- ---- one of the slots

pub above-at : (mark n i w : ℕ) (pending : List ℕ) (slots : List Slot) (c : Slot) → w ≡ n + i →
    slice_get slots i ≡ Some c → AllAbove mark pending n slots → IsAbove mark pending w (alarm_of c)
above-at mark n i w pending [] c here at all = absurd (none-some c at)
above-at mark n zero w pending (d ∷ slots) c here at all =
    let place : n ≡ w = omega (arith, here) in
    subst (λ (k : ℕ). IsAbove mark pending k (alarm_of c)) place
    (subst (λ x. IsAbove mark pending n (alarm_of x)) (same_Some d c at) all.0)
above-at mark n (suc i) w pending (d ∷ slots) c here at all =
    above-at mark (n + 1) i w pending slots c (omega (arith, here)) at all.1

above-all : (mark n : ℕ) (pending : List ℕ) (slots : List Slot) →
    ((i w : ℕ) (c : Slot) → w ≡ n + i → slice_get slots i ≡ Some c → IsAbove mark pending w (alarm_of c)) →
    AllAbove mark pending n slots
above-all mark n pending [] each = tt
above-all mark n pending (c ∷ slots) each = (
  each 0 n c (omega arith) refl,
  above-all mark (n + 1) pending slots (λ i w d here at. each (suc i) w d (omega (arith, here)) at),
)

-- ---- the timers that a reading leaves

later-live_of : (mark t n : ℕ) (alarm : Option Alarm) → mark ≤ t → later t (live_of mark n alarm) ≡ live_of t n alarm
later-live_of mark t n None le = refl
later-live_of mark t n (Some a) le = go (nat_lt mark a.deadline) refl where
  x : LiveTimer
  x = record { number = a.number; when = a.deadline; task = n }

  go : (b : Bool) → nat_lt mark a.deadline ≡ b →
      later t (if b then x ∷ [] else []) ≡ (if nat_lt t a.deadline then x ∷ [] else [])
  go true is = refl
  go false is =
      let off : nat_lt t a.deadline ≡ false = le-ltb t a.deadline (omega (arith, le, ltb-false mark a.deadline is)) in
      rw off refl

later-live : (mark t n : ℕ) (slots : List Slot) → mark ≤ t → later t (live mark n slots) ≡ live t n slots
later-live mark t n [] le = refl
later-live mark t n (c ∷ slots) le =
    filter-append (λ x. nat_lt t x.when) (live_of mark n (alarm_of c)) (live mark (n + 1) slots)
    ∙ (ap (λ x. x ++ later t (live mark (n + 1) slots)) (later-live_of mark t n (alarm_of c) le)
    ∙ ap (λ x. live_of t n (alarm_of c) ++ x) (later-live mark t (n + 1) slots le))

left-live : (first n now : ℕ) (second : Option ℕ) (slots : List Slot) → ReadTo first second now →
    left_after second (live first n slots) ≡ live now n slots
left-live first n now None slots read = ap (λ t. live t n slots) (sym read)
left-live first n now (Some moment) slots read =
    later-live first moment n slots read.0 ∙ ap (λ t. live t n slots) (sym read.1)

-- ---- whose timers are late

module _ (mark first : ℕ) (second : Option ℕ) where
  abbrev late_one : ℕ → ℕ → Option Alarm → Bool
  late_one w n alarm = late_at (live_of mark n alarm) first second w

  late-other : (w n : ℕ) (alarm : Option Alarm) → n ≢ w → late_one w n alarm ≡ false
  late-other w n None ne = refl
  late-other w n (Some a) ne = go (nat_lt mark a.deadline) where
    x : LiveTimer
    x = record { number = a.number; when = a.deadline; task = n }

    go : (b : Bool) → late_at (if b then x ∷ [] else []) first second w ≡ false
    go true = let off : (n == w) ≡ false = ne_eqb n w ne in rw off refl
    go false = refl

  late-append : (w : ℕ) (a b : List LiveTimer) → late_at (a ++ b) first second w ≡ (late_at a first second w || late_at b first second w)
  late-append w a b = list_any-append (λ t. (t.task == w) && is_timer_due first second t) a b

  or-none : (a b : Bool) → a ≡ false → b ≡ false → (a || b) ≡ false
  or-none a b e f = ap (λ z. z || b) e ∙ f

  or-last : (a b : Bool) → b ≡ false → (a || b) ≡ a
  or-last true b e = refl
  or-last false b e = e

  late-above : (w n : ℕ) (slots : List Slot) → w < n → late_at (live mark n slots) first second w ≡ false
  late-above w n [] lt = refl
  late-above w n (c ∷ slots) lt =
      late-append w (live_of mark n (alarm_of c)) (live mark (n + 1) slots)
      ∙ or-none (late_one w n (alarm_of c)) (late_at (live mark (n + 1) slots) first second w)
      (late-other w n (alarm_of c) (λ e. omega (arith, lt, e))) (late-above w (n + 1) slots (omega (arith, lt)))

  pub late-at-slot : (n i w : ℕ) (slots : List Slot) (c : Slot) → w ≡ n + i → slice_get slots i ≡ Some c →
      late_at (live mark n slots) first second w ≡ late_one w w (alarm_of c)
  late-at-slot n i w [] c here at = absurd (none-some c at)
  late-at-slot n zero w (d ∷ slots) c here at =
      let place : n ≡ w = omega (arith, here) in
      late-append w (live_of mark n (alarm_of d)) (live mark (n + 1) slots)
      ∙ (or-last (late_one w n (alarm_of d)) (late_at (live mark (n + 1) slots) first second w)
      (late-above w (n + 1) slots (omega (arith, here)))
      ∙ (ap (λ x. late_one w n (alarm_of x)) (same_Some d c at) ∙ ap (λ k. late_one w k (alarm_of c)) place))
  late-at-slot n (suc i) w (d ∷ slots) c here at =
      late-append w (live_of mark n (alarm_of d)) (live mark (n + 1) slots)
      ∙ (ap (λ b. b || late_at (live mark (n + 1) slots) first second w)
      (late-other w n (alarm_of d) (λ e. omega (arith, here, e)))
      ∙ late-at-slot (n + 1) i w slots c (omega (arith, here)) at)

  pub late-none-at : (n i w : ℕ) (slots : List Slot) → w ≡ n + i → slice_get slots i ≡ None →
      late_at (live mark n slots) first second w ≡ false
  late-none-at n i w [] here at = refl
  late-none-at n zero w (d ∷ slots) here at = absurd (none-some d (sym at))
  late-none-at n (suc i) w (d ∷ slots) here at =
      late-append w (live_of mark n (alarm_of d)) (live mark (n + 1) slots)
      ∙ or-none (late_one w n (alarm_of d)) (late_at (live mark (n + 1) slots) first second w)
      (late-other w n (alarm_of d) (λ e. omega (arith, here, e)))
      (late-none-at (n + 1) i w slots (omega (arith, here)) at)

  -- its own timer
  late-own : (w : ℕ) (a : Alarm) → mark < a.deadline →
      late_one w w (Some a) ≡ (has_reached (Some a.deadline) (Some first) || has_reached (Some a.deadline) second)
  late-own w a lt = rw (lt-ltb mark a.deadline lt, eq-eqb w w refl) (or-last _ false refl)

  late-so : (w : ℕ) (alarm : Option Alarm) → IsAbove mark [] w alarm →
      late_one w w alarm
      ≡ (has_reached (deadline_after alarm) (Some first) || has_reached (deadline_after alarm) second)
  late-so w None above = sym (or-none false (has_reached None second) refl (unreached second)) where
    unreached : (o : Option ℕ) → has_reached None o ≡ false
    unreached None = refl
    unreached (Some moment) = refl
  late-so w (Some a) (inl lt) = late-own w a lt
  late-so w (Some a) (inr is) = absurd (both_ways (is_in w []) refl is)

-- where a session stands, its timer is late where it sleeps and a reading has reached its deadline
pub late-stands : (s : Session) (w mark : ℕ) (past : Pieces) (sources : List Held) (r : pieces.Round) (c : Slot) →
    Shows past sources → Stands s w [] past c → IsAbove mark [] w (alarm_of c) →
    late_at (live_of mark w (alarm_of c)) r.first r.second w ≡ (sleeps s w past && is_late r s.deadline)
late-stands s w mark past sources r (slot.Ended e) shows is above =
    ap (λ b. b && is_late r s.deadline) (sym (awake-now s w past e is))
late-stands s w mark past sources r (slot.Asleep c) shows is above =
    late-so mark r.first r.second w c.alarm above
    ∙ (ap (is_late r) (sym is.limited)
    ∙ ap (λ b. b && is_late r s.deadline) (sym (sleeps-now s w past sources c shows is)))
late-stands s w mark past sources r slot.Refused shows is above = absurd is

-- ---- who has a late timer is registered

late-asleep : (w mark first : ℕ) (second : Option ℕ) (slots : List Slot) (c : Slot) → slice_get slots w ≡ Some c →
    late_at (live_of mark w (alarm_of c)) first second w ≡ true →
    (sl : Sleeper) × (slice_get slots w ≡ Some (slot.Asleep sl))
late-asleep w mark first second slots (slot.Ended e) at late = absurd (both_ways false refl late)
late-asleep w mark first second slots (slot.Asleep sl) at late = (sl, at)
late-asleep w mark first second slots slot.Refused at late = absurd (both_ways false refl late)

late_slot : (w mark first : ℕ) (second : Option ℕ) (slots : List Slot) (o : Option Slot) → slice_get slots w ≡ o →
    late_at (live mark 0 slots) first second w ≡ true → (sl : Sleeper) × (slice_get slots w ≡ Some (slot.Asleep sl))
late_slot w mark first second slots None none late =
    absurd (both_ways (late_at (live mark 0 slots) first second w)
    (late-none-at mark first second 0 w w slots (omega arith) none) late)
late_slot w mark first second slots (Some c) at late =
    late-asleep w mark first second slots c at
    (sym (late-at-slot mark first second 0 w w slots c (omega arith) at) ∙ late)

pub late-has : (w mark first : ℕ) (second : Option ℕ) (slots : List Slot) (ts : Tags) → Owned slots ts →
    late_at (live mark 0 slots) first second w ≡ true → has_wire w ts ≡ true
late-has w mark first second slots ts owned late =
    let a = late_slot w mark first second slots (slice_get slots w) refl late in
    tag-has_wire ts a.0.key w (owns-at 0 w w slots ts (slot.Asleep a.0) (omega arith) a.1 owned.each)

-- where no source is left no session sleeps, and so no timer is left
none-of : (mark n : ℕ) (c : Slot) (ts : Tags) → ts ≡ [] → Owns n c ts → live_of mark n (alarm_of c) ≡ []
none-of mark n (slot.Ended e) ts none own = refl
none-of mark n (slot.Asleep s) ts none own = absurd (none-some n (ap (λ x. tag_at x s.key) (sym none) ∙ own))
none-of mark n slot.Refused ts none own = refl

pub none-live : (mark n : ℕ) (slots : List Slot) (ts : Tags) → ts ≡ [] → AllOwn n slots ts → live mark n slots ≡ []
none-live mark n [] ts none own = refl
none-live mark n (c ∷ slots) ts none own =
    ap (λ x. x ++ live mark (n + 1) slots) (none-of mark n c ts none own.0)
    ∙ none-live mark (n + 1) slots ts none own.1

-- ---- a round

reached-last : (first now : ℕ) (second : Option ℕ) (deadline : ℕ) → ReadTo first second now → deadline ≤ now →
    (has_reached (Some deadline) (Some first) || has_reached (Some deadline) second) ≡ true
reached-last first now None deadline read le =
    or_left (nat_le deadline first) false (le-leb deadline first (omega (arith, le, read)))
reached-last first now (Some moment) deadline read le =
    or_right (nat_le deadline first) (nat_le deadline moment) (le-leb deadline moment (omega (arith, le, read.1)))

-- a deadline is above the last reading, or its session is due
round-above : (first now mark w : ℕ) (second : Option ℕ) (woken : List ℕ) (alarm : Option Alarm) →
    ReadTo first second now → IsAbove mark [] w alarm →
    (late_at (live_of mark w alarm) first second w ≡ true → is_in w woken ≡ true) → IsAbove now woken w alarm
round-above first now mark w second woken None read above due = tt
round-above first now mark w second woken (Some a) read above due = go (nat_lt now a.deadline) refl where
  go : (b : Bool) → nat_lt now a.deadline ≡ b → IsAbove now woken w (Some a)
  go true is = inl (ltb-true now a.deadline is)
  go false is =
      inr (due (late-so mark first second w (Some a) above
      ∙ reached-last first now second a.deadline read (ltb-false now a.deadline is)))

pub alarmed-round : (r0 r1 : Option (List Event)) (m0 m1 : ℕ) (old new : Core) (woken : List ℕ) (r : Round)
    (slots : List Slot) → Rounded r0 r1 m0 m1 old new woken r → Alarmed m0 old [] slots → Alarmed m1 new woken slots
alarmed-round r0 r1 m0 m1 old new woken r slots x a =
    let late : (w : ℕ) → late_at (live a.mark 0 slots) r.first r.second w ≡ true → is_in w woken ≡ true =
    λ w is. x.due.each w ∙ or_right _ (late_at (timers_applied old) r.first r.second w)
    (ap (λ timers. late_at timers r.first r.second w) a.timers ∙ is) in
    record {
      mark = m1;
      past = omega arith;
      timers = x.timers ∙ (ap (λ timers. left_after r.second (later r.first timers)) a.timers
          ∙ (ap (left_after r.second) (later-live a.mark r.first 0 slots (omega (arith, a.past, x.clock.0)))
          ∙ left-live r.first 0 m1 r.second slots x.clock.1));
      numbers = subst (λ (n : ℕ). NumbersRise 0 n slots) (sym x.made) a.numbers;
      above = above-all m1 0 woken slots (λ i w c here at.
          let place : i ≡ w = omega (arith, here) in
          let at' : slice_get slots w ≡ Some c = ap (slice_get slots) (sym place) ∙ at in
          round-above r.first m1 a.mark w r.second woken (alarm_of c) x.clock.1
          (above-at a.mark 0 i w [] slots c here at a.above)
          (λ is. late w (late-at-slot a.mark r.first r.second 0 i w slots c here at ∙ is)));
    }
