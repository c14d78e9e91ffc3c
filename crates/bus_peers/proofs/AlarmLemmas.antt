-- The reactor has a timer for each session that sleeps with a deadline: what visits do to the timers.
use Rattle.std.proofs.Common.{◌≡◌, ◌≢◌, ◌≤◌, ◌<◌, inl, inr, ◌+◌, ℕ, zero, suc, Bool, true, false, not, nat_lt}
use Rattle.std.proofs.Common.{◌==◌, if◌then◌else◌, List, [], ◌∷◌, ◌++◌, length, Option, Some, None, slice_get, slice_set}
use Rattle.std.proofs.Common.{refl, sym, ◌∙◌, ap, subst, arith, append_assoc, append-nil}
use Rattle.std.proofs.lemmas.Bool.{eq-eqb, ne_eqb, lt-ltb}
use Rattle.std.proofs.lemmas.Option.{none-some, same_Some}
use Rattle.std.proofs.lemmas.List.Elements.{filter-append}
use Rattle.react_timers.specs.declared.timer.LiveTimer.{LiveTimer}
use Rattle.react_timers.specs.Live.{added, without, is_at}
use Rattle.react_core.specs.declared.outside.Event.{Event}
use Rattle.react_core.specs.Core.{Core, timers_applied}
use Rattle.bus_opening.specs.Openings.{Opening}
use Rattle.bus_session.specs.declared.session.Session.{Session}
use Rattle.bus_visit.specs.declared.visiting.Slot.{Slot}
use Rattle.bus_visit.specs.declared.visiting.Slot.TheVariants as slot
use Rattle.bus_visit.specs.declared.visiting.Sleeper.{Sleeper}
use Rattle.bus_visit.specs.declared.timing.Alarm.{Alarm}
use Rattle.bus_visit.specs.declared.timing.Limit.{Limit}
use Rattle.bus_visit.specs.First.{FirstVisits, undialled, dialled}
use Rattle.bus_visit.specs.Timed.{number_by, timed_by, forgotten, forgotten_by, limit_of, limit_after, left_by, ReadSince, GoesForward}
use Rattle.bus_visit.specs.Timed.{TimedVisit, over, untimed, late, early, MakesVisit}
use Rattle.bus_visit.specs.laws.Timers.{inserted-timers, inserted-made, removed-timers, removed-made, forgotten-same}
use Rattle.bus_peers.specs.inside.Alarms.{alarm_of, live_of, live, IsNumbered, next_number, NumbersRise, IsAbove, AllAbove}
use Rattle.bus_peers.specs.inside.Alarms.{Alarmed}
use Rattle.bus_peers.specs.inside.Due.{is_in}

-- ---- what one visit does to the timers

abbrev without_by : Option ℕ → ℕ → List LiveTimer → List LiveTimer
without_by None deadline timers = timers
without_by (Some number) deadline timers = without deadline number timers

-- without the timer of the limit, where one was made
abbrev timers_without : Option Limit → List LiveTimer → List LiveTimer
timers_without None timers = timers
timers_without (Some l) timers = without_by l.number l.deadline timers

abbrev timers_with : Option ℕ → ℕ → ℕ → Core → List LiveTimer
timers_with None deadline wire core =
    added (record { number = core.made + 1; when = deadline; task = wire }) (timers_applied core)
timers_with (Some number) deadline wire core = timers_applied core

abbrev made_by : Option ℕ → Core → ℕ
made_by None core = core.made + 1
made_by (Some number) core = core.made

data Rings (wire : ℕ) (limit : Option Limit) (old new : Core) (c : Slot) : Type 0 where
  silent : alarm_of c ≡ None → timers_applied new ≡ timers_without limit (timers_applied old) → new.made ≡ old.made →
      Rings wire limit old new c
  rings : (a : Alarm) (l : Limit) → limit ≡ Some l → alarm_of c ≡ Some a → a.deadline ≡ l.deadline →
      a.moment < a.deadline → a.number ≡ number_by l.number old →
      timers_applied new ≡ timers_with l.number l.deadline wire old → new.made ≡ made_by l.number old →
      Rings wire limit old new c

forgotten-timers : (limit : Option Limit) (core : Core) →
    timers_applied (forgotten limit core) ≡ timers_without limit (timers_applied core)
forgotten-timers None core = refl
forgotten-timers (Some l) core = go l.number where
  go : (number : Option ℕ) → timers_applied (forgotten_by number l.deadline core)
      ≡ without_by number l.deadline (timers_applied core)
  go None = refl
  go (Some number) = removed-timers core l.deadline number

forgotten-made : (limit : Option Limit) (core : Core) → (forgotten limit core).made ≡ core.made
forgotten-made limit core = forgotten-same (λ k. k.made) limit core (λ d n. removed-made core d n)

silent-so : (wire : ℕ) (limit : Option Limit) (old last new : Core) (c : Slot) → alarm_of c ≡ None →
    new ≡ forgotten limit last → timers_applied last ≡ timers_applied old → last.made ≡ old.made →
    Rings wire limit old new c
silent-so wire limit old last new c none is timers made =
    silent none (ap timers_applied is ∙ (forgotten-timers limit last ∙ ap (timers_without limit) timers))
    (ap (λ k. k.made) is ∙ (forgotten-made limit last ∙ made))

number-same : (number : Option ℕ) (old mid : Core) → mid.made ≡ old.made → number_by number mid ≡ number_by number old
number-same None old mid same = ap (λ n. n + 1) same
number-same (Some number) old mid same = refl

timed-timers : (number : Option ℕ) (deadline wire : ℕ) (old mid : Core) → timers_applied mid ≡ timers_applied old →
    mid.made ≡ old.made → timers_applied (timed_by number deadline wire mid) ≡ timers_with number deadline wire old
timed-timers None deadline wire old mid timers made =
    inserted-timers mid deadline wire
    ∙ (ap (λ n. added (record { number = n + 1; when = deadline; task = wire }) (timers_applied mid)) made
    ∙ ap (added (record { number = old.made + 1; when = deadline; task = wire })) timers)
timed-timers (Some number) deadline wire old mid timers made = timers

timed-made : (number : Option ℕ) (deadline wire : ℕ) (old mid : Core) → mid.made ≡ old.made →
    (timed_by number deadline wire mid).made ≡ made_by number old
timed-made None deadline wire old mid made = inserted-made mid deadline wire ∙ ap (λ n. n + 1) made
timed-made (Some number) deadline wire old mid made = made

timed-rings : (wire key : ℕ) (limit : Option Limit) (r0 r1 : Option (List Event)) (old new last : Core) (o : Opening)
    (c : Slot) → TimedVisit wire key limit r0 r1 old last o c → new ≡ left_by c limit last → Rings wire limit old new c
timed-rings wire key limit r0 r1 old new last o c (over e x) is =
    silent-so wire limit old last new (slot.Ended e) refl is x.4.timers x.4.made
timed-rings wire key limit r0 r1 old new last o c (untimed s none x) is =
    silent x.4.stays.untimed
    (ap timers_applied is ∙ (x.4.timers ∙ sym (ap (λ l. timers_without l (timers_applied old)) none)))
    (ap (λ k. k.made) is ∙ x.4.made)
timed-rings wire key limit r0 r1 old new last o c (late l s mid there moment at x le gained core) is =
    silent-so wire limit old last new _ refl is (ap timers_applied core ∙ x.4.timers) (ap (λ k. k.made) core ∙ x.4.made)
timed-rings wire key limit r0 r1 old new last o c (early l s mid there a at x looked) is =
    rings a l at refl looked.at looked.early (looked.numbered ∙ number-same l.number old mid x.4.made)
    (ap timers_applied (is ∙ looked.core) ∙ timed-timers l.number l.deadline wire old mid x.4.timers x.4.made)
    (ap (λ k. k.made) (is ∙ looked.core) ∙ timed-made l.number l.deadline wire old mid x.4.made)

visit-rings : (wire key : ℕ) (limit : Option Limit) (r0 r1 : Option (List Event)) (old new : Core) (o : Opening)
    (c : Slot) → MakesVisit wire key limit r0 r1 old new o c → Rings wire limit old new c
visit-rings wire key limit r0 r1 old new o c (last, x, is) = timed-rings wire key limit r0 r1 old new last o c x is

-- ---- the numbers

numbers-weaker : (low low' made : ℕ) (slots : List Slot) → low ≤ low' → NumbersRise low' made slots →
    NumbersRise low made slots
numbers-weaker low low' made [] le all = tt
numbers-weaker low low' made (c ∷ slots) le all =
    go (alarm_of c) (numbers-weaker low low' made slots le) all.0 all.1
  where
    go : (o : Option Alarm) → (NumbersRise low' made slots → NumbersRise low made slots) → IsNumbered low' made o →
        NumbersRise (next_number low' o) made slots → IsNumbered low made o × NumbersRise (next_number low o) made slots
    go None ih here rest = (tt, ih rest)
    go (Some a) ih here rest = ((omega (arith, le, here.0), here.1), rest)

-- each of them is above the first
number-at : (low made i : ℕ) (slots : List Slot) (c : Slot) (a : Alarm) → slice_get slots i ≡ Some c →
    alarm_of c ≡ Some a → NumbersRise low made slots → low ≤ a.number
number-at low made i [] c a at is all = absurd (none-some c at)
number-at low made zero (d ∷ slots) c a at is all =
    let same : alarm_of d ≡ Some a = ap alarm_of (same_Some d c at) ∙ is in
    (subst (IsNumbered low made) same all.0).0
number-at low made (suc i) (d ∷ slots) c a at is all =
    go (alarm_of d) (λ l rest. number-at l made i slots c a at is rest) all.0 all.1
  where
    go : (o : Option Alarm) → ((l : ℕ) → NumbersRise l made slots → l ≤ a.number) → IsNumbered low made o →
        NumbersRise (next_number low o) made slots → low ≤ a.number
    go None ih here rest = ih low rest
    go (Some b) ih here rest = omega (arith, here.0, ih (b.number + 1) rest)

-- a slot whose timer goes
numbers-silent : (low made i : ℕ) (slots : List Slot) (c : Slot) → alarm_of c ≡ None → NumbersRise low made slots →
    NumbersRise low made (slice_set slots i c)
numbers-silent low made i [] c none all = tt
numbers-silent low made zero (d ∷ slots) c none all =
    let N : Option Alarm → Type 0 = λ o. IsNumbered low made o × NumbersRise (next_number low o) made slots in
    subst N (sym none) (tt, weaker (alarm_of d) all.0 all.1)
  where
    weaker : (o : Option Alarm) → IsNumbered low made o → NumbersRise (next_number low o) made slots →
        NumbersRise low made slots
    weaker None here rest = rest
    weaker (Some b) here rest = numbers-weaker low (b.number + 1) made slots (omega (arith, here.0)) rest
numbers-silent low made (suc i) (d ∷ slots) c none all =
    (all.0, numbers-silent (next_number low (alarm_of d)) made i slots c none all.1)

-- a slot whose timer keeps its number
numbers-kept : (low made i : ℕ) (slots : List Slot) (c d : Slot) (a b : Alarm) → slice_get slots i ≡ Some d →
    alarm_of d ≡ Some b → alarm_of c ≡ Some a → a.number ≡ b.number → NumbersRise low made slots →
    NumbersRise low made (slice_set slots i c)
numbers-kept low made i [] c d a b at was is same all = tt
numbers-kept low made zero (e ∷ slots) c d a b at was is same all =
    let N : Option Alarm → Type 0 = λ o. IsNumbered low made o × NumbersRise (next_number low o) made slots in
    let M : ℕ → Type 0 = λ n. ((low ≤ n) × (n ≤ made)) × NumbersRise (n + 1) made slots in
    let here : N (Some b) = subst N (ap alarm_of (same_Some e d at) ∙ was) all in
    subst N (sym is) (subst M (sym same) here)
numbers-kept low made (suc i) (e ∷ slots) c d a b at was is same all =
    (all.0, numbers-kept (next_number low (alarm_of e)) made i slots c d a b at was is same all.1)

-- one slot more, whose timer has the next number
abbrev IsNext : ℕ → ℕ → Option Alarm → Type 0
IsNext made made' None = Unit {0}
IsNext made made' (Some a) = (made < a.number) × (a.number ≤ made')

numbers-more : (low made made' : ℕ) (slots : List Slot) (c : Slot) → low ≤ made + 1 → made ≤ made' →
    IsNext made made' (alarm_of c) → NumbersRise low made slots → NumbersRise low made' (slots ++ c ∷ [])
numbers-more low made made' [] c le more next all = (last (alarm_of c) next, tt) where
  last : (o : Option Alarm) → IsNext made made' o → IsNumbered low made' o
  last None n = tt
  last (Some a) n = (omega (arith, le, n.0), n.1)
numbers-more low made made' (d ∷ slots) c le more next all =
    go (alarm_of d) (λ l below rest. numbers-more l made made' slots c below more next rest) all.0 all.1
  where
    go : (o : Option Alarm) →
        ((l : ℕ) → l ≤ made + 1 → NumbersRise l made slots → NumbersRise l made' (slots ++ c ∷ [])) →
        IsNumbered low made o → NumbersRise (next_number low o) made slots →
        IsNumbered low made' o × NumbersRise (next_number low o) made' (slots ++ c ∷ [])
    go None ih here rest = (tt, ih low le rest)
    go (Some b) ih here rest =
        ((here.0, omega (arith, here.1, more)), ih (b.number + 1) (omega (arith, here.1)) rest)

-- ---- the list of the timers

live-kept : (mark n i w : ℕ) (slots : List Slot) (c d : Slot) → w ≡ n + i → slice_get slots i ≡ Some d →
    live_of mark w (alarm_of c) ≡ live_of mark w (alarm_of d) → live mark n (slice_set slots i c) ≡ live mark n slots
live-kept mark n i w [] c d here at same = refl
live-kept mark n zero w (e ∷ slots) c d here at same =
    let place : w ≡ n = omega (arith, here) in
    ap (λ x. x ++ live mark (n + 1) slots)
    (ap (λ k. live_of mark k (alarm_of c)) (sym place)
    ∙ (same ∙ (ap (λ k. live_of mark k (alarm_of d)) place ∙ ap (λ x. live_of mark n (alarm_of x)) (sym (same_Some e d at)))))
live-kept mark n (suc i) w (e ∷ slots) c d here at same =
    ap (λ x. live_of mark n (alarm_of e) ++ x) (live-kept mark (n + 1) i w slots c d (omega (arith, here)) at same)

-- a timer with another number stays
other-kept : (when number : ℕ) (mark n : ℕ) (b : Alarm) → b.number ≢ number →
    without when number (live_of mark n (Some b)) ≡ live_of mark n (Some b)
other-kept when number mark n b ne = go (nat_lt mark b.deadline) where
  t : LiveTimer
  t = record { number = b.number; when = b.deadline; task = n }

  go : (up : Bool) → without when number (if up then t ∷ [] else []) ≡ (if up then t ∷ [] else [])
  go true = let off : (b.number == number) ≡ false = ne_eqb b.number number ne in rw off refl
  go false = refl

later-kept : (when number low made mark n : ℕ) (slots : List Slot) → number < low → NumbersRise low made slots →
    without when number (live mark n slots) ≡ live mark n slots
later-kept when number low made mark n [] lt all = refl
later-kept when number low made mark n (c ∷ slots) lt all =
    go (alarm_of c) (λ l below rest. later-kept when number l made mark (n + 1) slots below rest) all.0 all.1
  where
    go : (o : Option Alarm) → ((l : ℕ) → number < l → NumbersRise l made slots →
        without when number (live mark (n + 1) slots) ≡ live mark (n + 1) slots) →
        IsNumbered low made o → NumbersRise (next_number low o) made slots →
        without when number (live_of mark n o ++ live mark (n + 1) slots) ≡ live_of mark n o ++ live mark (n + 1) slots
    go None ih here rest = ih low lt rest
    go (Some b) ih here rest =
        filter-append (λ x. not (is_at when number x)) (live_of mark n (Some b)) (live mark (n + 1) slots)
        ∙ (ap (λ x. x ++ without when number (live mark (n + 1) slots))
        (other-kept when number mark n b (λ e. omega (arith, lt, here.0, e)))
        ∙ ap (λ x. live_of mark n (Some b) ++ x) (ih (b.number + 1) (omega (arith, lt, here.0)) rest))

own-gone : (mark n : ℕ) (a : Alarm) → without a.deadline a.number (live_of mark n (Some a)) ≡ []
own-gone mark n a = go (nat_lt mark a.deadline) where
  t : LiveTimer
  t = record { number = a.number; when = a.deadline; task = n }

  go : (up : Bool) → without a.deadline a.number (if up then t ∷ [] else []) ≡ []
  go true = rw (eq-eqb a.number a.number refl, eq-eqb a.deadline a.deadline refl) refl
  go false = refl

-- the timer of a slot goes
live-silent : (mark low made n i : ℕ) (slots : List Slot) (c d : Slot) (a : Alarm) → slice_get slots i ≡ Some d →
    alarm_of d ≡ Some a → alarm_of c ≡ None → NumbersRise low made slots →
    live mark n (slice_set slots i c) ≡ without a.deadline a.number (live mark n slots)
live-silent mark low made n i [] c d a at was none all = refl
live-silent mark low made n zero (e ∷ slots) c d a at was none all =
    let same : alarm_of e ≡ Some a = ap alarm_of (same_Some e d at) ∙ was in
    let rest : NumbersRise (a.number + 1) made slots =
    subst (λ o. NumbersRise (next_number low o) made slots) same all.1 in
    ap (λ o. live_of mark n o ++ live mark (n + 1) slots) none
    ∙ sym (ap (λ o. without a.deadline a.number (live_of mark n o ++ live mark (n + 1) slots)) same
    ∙ (filter-append (λ x. not (is_at a.deadline a.number x)) (live_of mark n (Some a)) (live mark (n + 1) slots)
    ∙ (ap (λ x. x ++ without a.deadline a.number (live mark (n + 1) slots)) (own-gone mark n a)
    ∙ later-kept a.deadline a.number (a.number + 1) made mark (n + 1) slots (omega arith) rest)))
live-silent mark low made n (suc i) (e ∷ slots) c d a at was none all =
    go (alarm_of e) (λ l rest. live-silent mark l made (n + 1) i slots c d a at was none rest) all.0 all.1
  where
    go : (o : Option Alarm) →
        ((l : ℕ) → NumbersRise l made slots → live mark (n + 1) (slice_set slots i c)
        ≡ without a.deadline a.number (live mark (n + 1) slots)) →
        IsNumbered low made o → NumbersRise (next_number low o) made slots →
        live_of mark n o ++ live mark (n + 1) (slice_set slots i c)
        ≡ without a.deadline a.number (live_of mark n o ++ live mark (n + 1) slots)
    go None ih here rest = ih low rest
    go (Some b) ih here rest =
        let above : b.number + 1 ≤ a.number = number-at (b.number + 1) made i slots d a at was rest in
        ap (λ x. live_of mark n (Some b) ++ x) (ih (b.number + 1) rest)
        ∙ sym (filter-append (λ x. not (is_at a.deadline a.number x)) (live_of mark n (Some b)) (live mark (n + 1) slots)
        ∙ ap (λ x. x ++ without a.deadline a.number (live mark (n + 1) slots))
        (other-kept a.deadline a.number mark n b (λ e. omega (arith, above, e))))

live-append : (mark n : ℕ) (slots : List Slot) (c : Slot) →
    live mark n (slots ++ c ∷ []) ≡ live mark n slots ++ (live_of mark (n + length slots) (alarm_of c) ++ [])
live-append mark n [] c =
    let place : n ≡ n + 0 = omega arith in ap (λ k. live_of mark k (alarm_of c) ++ []) place
live-append mark n (d ∷ slots) c =
    let place : n + 1 + length slots ≡ n + suc (length slots) = omega arith in
    ap (λ x. live_of mark n (alarm_of d) ++ x)
    (live-append mark (n + 1) slots c
    ∙ ap (λ k. live mark (n + 1) slots ++ (live_of mark k (alarm_of c) ++ [])) place)
    ∙ sym (append_assoc (live_of mark n (alarm_of d)) (live mark (n + 1) slots)
    (live_of mark (n + suc (length slots)) (alarm_of c) ++ []))

added-behind : (t : LiveTimer) (mark n : ℕ) (b : Alarm) (rest : List LiveTimer) → b.number < t.number →
    added t (live_of mark n (Some b) ++ rest) ≡ live_of mark n (Some b) ++ added t rest
added-behind t mark n b rest lt = go (nat_lt mark b.deadline) where
  x : LiveTimer
  x = record { number = b.number; when = b.deadline; task = n }

  go : (up : Bool) → added t ((if up then x ∷ [] else []) ++ rest) ≡ (if up then x ∷ [] else []) ++ added t rest
  go true = rw (lt-ltb b.number t.number lt) refl
  go false = refl

-- a timer with a greater number stands behind the others
added-last : (t : LiveTimer) (mark n low made : ℕ) (slots : List Slot) → made < t.number → NumbersRise low made slots →
    added t (live mark n slots) ≡ live mark n slots ++ t ∷ []
added-last t mark n low made [] lt all = refl
added-last t mark n low made (c ∷ slots) lt all =
    go (alarm_of c) (λ l rest. added-last t mark (n + 1) l made slots lt rest) all.0 all.1
  where
    go : (o : Option Alarm) →
        ((l : ℕ) → NumbersRise l made slots → added t (live mark (n + 1) slots) ≡ live mark (n + 1) slots ++ t ∷ []) →
        IsNumbered low made o → NumbersRise (next_number low o) made slots →
        added t (live_of mark n o ++ live mark (n + 1) slots) ≡ (live_of mark n o ++ live mark (n + 1) slots) ++ t ∷ []
    go None ih here rest = ih low rest
    go (Some b) ih here rest =
        added-behind t mark n b (live mark (n + 1) slots) (omega (arith, lt, here.1))
        ∙ (ap (λ x. live_of mark n (Some b) ++ x) (ih (b.number + 1) rest)
        ∙ sym (append_assoc (live_of mark n (Some b)) (live mark (n + 1) slots) (t ∷ [])))

-- ---- the deadlines

other-in : (w wire : ℕ) (pending : List ℕ) → w ≢ wire → is_in w (wire ∷ pending) ≡ true → is_in w pending ≡ true
other-in w wire pending ne is = let off : (wire == w) ≡ false = ne_eqb wire w (λ e. ne (sym e)) in rw off at is

above-other : (mark w wire : ℕ) (pending : List ℕ) (o : Option Alarm) → w ≢ wire → IsAbove mark (wire ∷ pending) w o →
    IsAbove mark pending w o
above-other mark w wire pending None ne above = tt
above-other mark w wire pending (Some a) ne (inl lt) = inl lt
above-other mark w wire pending (Some a) ne (inr is) = inr (other-in w wire pending ne is)

above-move : (mark n wire : ℕ) (pending : List ℕ) (slots : List Slot) → wire < n → AllAbove mark (wire ∷ pending) n slots →
    AllAbove mark pending n slots
above-move mark n wire pending [] lt all = tt
above-move mark n wire pending (c ∷ slots) lt all = (
  above-other mark n wire pending (alarm_of c) (λ e. omega (arith, lt, e)) all.0,
  above-move mark (n + 1) wire pending slots (omega (arith, lt)) all.1,
)

above-set : (mark n i wire : ℕ) (pending : List ℕ) (slots : List Slot) (c : Slot) → wire ≡ n + i →
    IsAbove mark pending wire (alarm_of c) → AllAbove mark (wire ∷ pending) n slots →
    AllAbove mark pending n (slice_set slots i c)
above-set mark n i wire pending [] c here is all = tt
above-set mark n zero wire pending (d ∷ slots) c here is all =
    let place : wire ≡ n = omega (arith, here) in (
      subst (λ (k : ℕ). IsAbove mark pending k (alarm_of c)) place is,
      above-move mark (n + 1) wire pending slots (omega (arith, here)) all.1,
    )
above-set mark n (suc i) wire pending (d ∷ slots) c here is all = (
  above-other mark n wire pending (alarm_of d) (λ e. omega (arith, here, e)) all.0,
  above-set mark (n + 1) i wire pending slots c (omega (arith, here)) is all.1,
)

above-more : (mark n w : ℕ) (pending : List ℕ) (slots : List Slot) (c : Slot) → w ≡ n + length slots →
    IsAbove mark pending w (alarm_of c) → AllAbove mark pending n slots → AllAbove mark pending n (slots ++ c ∷ [])
above-more mark n w pending [] c here is all =
    let place : w ≡ n = omega (arith, here) in (subst (λ (k : ℕ). IsAbove mark pending k (alarm_of c)) place is, tt)
above-more mark n w pending (d ∷ slots) c here is all =
    (all.0, above-more mark (n + 1) w pending slots c (omega (arith, here)) is all.1)

-- ---- the clock

forward-le : (now now' : ℕ) (c : Slot) → GoesForward now c now' → now ≤ now'
forward-le now now' (slot.Ended e) go = go
forward-le now now' (slot.Asleep s) go = go.0
forward-le now now' slot.Refused go = go

forward-read : (now now' : ℕ) (c : Slot) (a : Alarm) → alarm_of c ≡ Some a → GoesForward now c now' → now ≤ a.moment
forward-read now now' (slot.Ended e) a is go = absurd (none-some a is)
forward-read now now' (slot.Asleep s) a is go = subst (ReadSince now) is go.1
forward-read now now' slot.Refused a is go = absurd (none-some a is)

-- ---- a visit of a session that sleeps

silent-timers : (mark made wire : ℕ) (slots : List Slot) (c : Slot) (sl : Sleeper) (timers : List LiveTimer)
    (alarm : Option Alarm) → sl.alarm ≡ alarm → slice_get slots wire ≡ Some (slot.Asleep sl) → alarm_of c ≡ None →
    NumbersRise 0 made slots → timers ≡ live mark 0 slots →
    timers_without (limit_after alarm) timers ≡ live mark 0 (slice_set slots wire c)
silent-timers mark made wire slots c sl timers None was at none numbers is =
    is ∙ sym (live-kept mark 0 wire wire slots c (slot.Asleep sl) (omega arith) at
    (ap (live_of mark wire) (none ∙ sym was)))
silent-timers mark made wire slots c sl timers (Some a) was at none numbers is =
    ap (without a.deadline a.number) is
    ∙ sym (live-silent mark 0 made 0 wire slots c (slot.Asleep sl) a at was none numbers)

silent-alarmed : (wire : ℕ) (pending : List ℕ) (now now' : ℕ) (old new : Core) (slots : List Slot) (sl : Sleeper)
    (c : Slot) → slice_get slots wire ≡ Some (slot.Asleep sl) → alarm_of c ≡ None →
    timers_applied new ≡ timers_without (limit_after sl.alarm) (timers_applied old) → new.made ≡ old.made →
    now ≤ now' → Alarmed now old (wire ∷ pending) slots → Alarmed now' new pending (slice_set slots wire c)
silent-alarmed wire pending now now' old new slots sl c at none timers made le x = record {
  mark = x.mark;
  past = omega (arith, x.past, le);
  timers = timers
      ∙ silent-timers x.mark old.made wire slots c sl (timers_applied old) sl.alarm refl at none x.numbers x.timers;
  numbers = subst (λ (n : ℕ). NumbersRise 0 n (slice_set slots wire c)) (sym made)
      (numbers-silent 0 old.made wire slots c none x.numbers);
  above = above-set x.mark 0 wire wire pending slots c (omega arith)
      (subst (IsAbove x.mark pending wire) (sym none) tt) x.above;
}

alarm-same : (mark w : ℕ) (a b : Alarm) → a.deadline ≡ b.deadline → a.number ≡ b.number →
    live_of mark w (Some a) ≡ live_of mark w (Some b)
alarm-same mark w a b deadline number =
    ap (λ d. if nat_lt mark d then record { number = a.number; when = d; task = w } ∷ [] else []) deadline
    ∙ ap (λ n. if nat_lt mark b.deadline then record { number = n; when = b.deadline; task = w } ∷ [] else []) number

rings-alarmed : (wire : ℕ) (pending : List ℕ) (now now' : ℕ) (old new : Core) (slots : List Slot) (sl : Sleeper)
    (c : Slot) (a b : Alarm) → slice_get slots wire ≡ Some (slot.Asleep sl) → sl.alarm ≡ Some b → alarm_of c ≡ Some a →
    a.deadline ≡ b.deadline → a.number ≡ b.number → a.moment < a.deadline → now ≤ a.moment →
    timers_applied new ≡ timers_applied old → new.made ≡ old.made → now ≤ now' →
    Alarmed now old (wire ∷ pending) slots → Alarmed now' new pending (slice_set slots wire c)
rings-alarmed wire pending now now' old new slots sl c a b at was is deadline number before_it read timers made le x = record {
  mark = x.mark;
  past = omega (arith, x.past, le);
  timers = timers ∙ (x.timers ∙ sym (live-kept x.mark 0 wire wire slots c (slot.Asleep sl) (omega arith) at
      (ap (live_of x.mark wire) is ∙ (alarm-same x.mark wire a b deadline number
      ∙ ap (live_of x.mark wire) (sym was)))));
  numbers = subst (λ (n : ℕ). NumbersRise 0 n (slice_set slots wire c)) (sym made)
      (numbers-kept 0 old.made wire slots c (slot.Asleep sl) a b at was is number x.numbers);
  above = above-set x.mark 0 wire wire pending slots c (omega arith)
      (subst (IsAbove x.mark pending wire) (sym is) (inl (omega (arith, x.past, read, before_it)))) x.above;
}

again-go : (wire : ℕ) (pending : List ℕ) (now now' : ℕ) (old new : Core) (slots : List Slot) (sl : Sleeper) (c : Slot)
    (alarm : Option Alarm) → sl.alarm ≡ alarm → slice_get slots wire ≡ Some (slot.Asleep sl) →
    Rings wire (limit_after alarm) old new c → GoesForward now c now' → Alarmed now old (wire ∷ pending) slots →
    Alarmed now' new pending (slice_set slots wire c)
again-go wire pending now now' old new slots sl c alarm was at (silent none timers made) go x =
    silent-alarmed wire pending now now' old new slots sl c at none
    (timers ∙ ap (λ o. timers_without (limit_after o) (timers_applied old)) (sym was)) made (forward-le now now' c go) x
again-go wire pending now now' old new slots sl c None was at (rings a l limit is deadline before_it number timers made) go x =
    absurd (none-some l limit)
again-go wire pending now now' old new slots sl c (Some b) was at (rings a l limit is deadline before_it number timers made) go x =
    let same : record { deadline = b.deadline; number = Some b.number } ≡ l = same_Some _ l limit in
    let T : Limit → Type 0 = λ k. timers_applied new ≡ timers_with k.number k.deadline wire old in
    let M : Limit → Type 0 = λ k. new.made ≡ made_by k.number old in
    let N : Limit → Type 0 = λ k. a.number ≡ number_by k.number old in
    rings-alarmed wire pending now now' old new slots sl c a b at was is (deadline ∙ ap (λ k. k.deadline) (sym same))
    (subst N (sym same) number) before_it (forward-read now now' c a is go) (subst T (sym same) timers)
    (subst M (sym same) made) (forward-le now now' c go) x

pub alarmed-again : (wire key : ℕ) (pending : List ℕ) (now now' : ℕ) (r0 r1 : Option (List Event)) (old new : Core)
    (slots : List Slot) (sl : Sleeper) (c : Slot) → slice_get slots wire ≡ Some (slot.Asleep sl) →
    MakesVisit wire key (limit_after sl.alarm) r0 r1 old new sl.client c → GoesForward now c now' →
    Alarmed now old (wire ∷ pending) slots → Alarmed now' new pending (slice_set slots wire c)
alarmed-again wire key pending now now' r0 r1 old new slots sl c at visits go x =
    again-go wire pending now now' old new slots sl c sl.alarm refl at
    (visit-rings wire key (limit_after sl.alarm) r0 r1 old new sl.client c visits) go x

-- ---- the first visits

pub alarmed-none : (now : ℕ) (core : Core) (slots : List Slot) → timers_applied core ≡ [] → slots ≡ [] →
    Alarmed now core [] slots
alarmed-none now core slots timeless none =
    let A : List Slot → Type 0 = λ x. Alarmed now core [] x in
    subst A (sym none)
    (record { mark = 0; past = omega arith; timers = timeless; numbers = tt; above = tt })

-- a session that has no timer
more-silent : (wire now now' : ℕ) (old new : Core) (slots : List Slot) (c : Slot) → wire ≡ length slots →
    alarm_of c ≡ None → timers_applied new ≡ timers_applied old → new.made ≡ old.made → now ≤ now' →
    Alarmed now old [] slots → Alarmed now' new [] (slots ++ c ∷ [])
more-silent wire now now' old new slots c here none timers made le x = record {
  mark = x.mark;
  past = omega (arith, x.past, le);
  timers = timers ∙ (x.timers ∙ sym (live-append x.mark 0 slots c
      ∙ (ap (λ o. live x.mark 0 slots ++ (live_of x.mark (0 + length slots) o ++ [])) none
      ∙ append-nil (live x.mark 0 slots))));
  numbers = numbers-more 0 old.made new.made slots c (omega arith) (omega (arith, made))
      (subst (IsNext old.made new.made) (sym none) tt) x.numbers;
  above = above-more x.mark 0 wire [] slots c (omega (arith, here))
      (subst (IsAbove x.mark [] wire) (sym none) tt) x.above;
}

-- one whose timer was made
more-rings : (wire now now' : ℕ) (old new : Core) (slots : List Slot) (c : Slot) (a : Alarm) → wire ≡ length slots →
    alarm_of c ≡ Some a → a.number ≡ old.made + 1 → a.moment < a.deadline → now ≤ a.moment →
    timers_applied new
    ≡ added (record { number = old.made + 1; when = a.deadline; task = wire }) (timers_applied old) →
    new.made ≡ old.made + 1 → now ≤ now' → Alarmed now old [] slots → Alarmed now' new [] (slots ++ c ∷ [])
more-rings wire now now' old new slots c a here is number before_it read timers made le x =
    let t : LiveTimer = record { number = old.made + 1; when = a.deadline; task = wire } in
    let up : nat_lt x.mark a.deadline ≡ true = lt-ltb x.mark a.deadline (omega (arith, x.past, read, before_it)) in
    let own : live_of x.mark (0 + length slots) (Some a) ≡ t ∷ [] =
    ap (λ b. if b then record { number = a.number; when = a.deadline; task = 0 + length slots } ∷ [] else []) up
    ∙ (ap (λ n. record { number = n; when = a.deadline; task = 0 + length slots } ∷ []) number
    ∙ ap (λ w. record { number = old.made + 1; when = a.deadline; task = w } ∷ []) (place wire (length slots) here)) in
    record {
      mark = x.mark;
      past = omega (arith, x.past, le);
      timers = timers ∙ (ap (added t) x.timers
          ∙ (added-last t x.mark 0 0 old.made slots (omega arith) x.numbers
          ∙ sym (live-append x.mark 0 slots c
          ∙ (ap (λ o. live x.mark 0 slots ++ (live_of x.mark (0 + length slots) o ++ [])) is
          ∙ ap (λ y. live x.mark 0 slots ++ (y ++ [])) own))));
      numbers = numbers-more 0 old.made new.made slots c (omega arith) (omega (arith, made))
          (subst (IsNext old.made new.made) (sym is) (omega (arith, number), omega (arith, number, made))) x.numbers;
      above = above-more x.mark 0 wire [] slots c (omega (arith, here))
          (subst (IsAbove x.mark [] wire) (sym is) (inl (omega (arith, x.past, read, before_it)))) x.above;
    }
  where
    place : (w n : ℕ) → w ≡ n → 0 + n ≡ w
    place w n e = omega (arith, e)

-- a registration leaves the timers
inserted-rings : (deadline : Option ℕ) (wire : ℕ) (old mid new : Core) (c : Slot) →
    timers_applied mid ≡ timers_applied old → mid.made ≡ old.made → Rings wire (limit_of deadline) mid new c →
    Rings wire (limit_of deadline) old new c
inserted-rings deadline wire old mid new c timers made (silent none gone same) =
    silent none (gone ∙ ap (timers_without (limit_of deadline)) timers) (same ∙ made)
inserted-rings deadline wire old mid new c timers made (rings a l limit is at before_it number with_ same) =
    rings a l limit is at before_it (number ∙ number-same l.number old mid made)
    (with_ ∙ with-same l.number l.deadline wire old mid timers made) (same ∙ made-same l.number old mid made)
  where
    with-same : (n : Option ℕ) (d w : ℕ) (old mid : Core) → timers_applied mid ≡ timers_applied old →
        mid.made ≡ old.made → timers_with n d w mid ≡ timers_with n d w old
    with-same None d w old mid timers made =
        ap (λ m. added (record { number = m + 1; when = d; task = w }) (timers_applied mid)) made
        ∙ ap (added (record { number = old.made + 1; when = d; task = w })) timers
    with-same (Some n) d w old mid timers made = timers

    made-same : (n : Option ℕ) (old mid : Core) → mid.made ≡ old.made → made_by n mid ≡ made_by n old
    made-same None old mid made = ap (λ m. m + 1) made
    made-same (Some n) old mid made = made

first-go : (deadline : Option ℕ) (wire now now' : ℕ) (old new : Core) (slots : List Slot) (c : Slot) →
    wire ≡ length slots → Rings wire (limit_of deadline) old new c → GoesForward now c now' → Alarmed now old [] slots →
    Alarmed now' new [] (slots ++ c ∷ [])
first-go None wire now now' old new slots c here (silent none timers made) go x =
    more-silent wire now now' old new slots c here none timers made (forward-le now now' c go) x
first-go (Some d) wire now now' old new slots c here (silent none timers made) go x =
    more-silent wire now now' old new slots c here none timers made (forward-le now now' c go) x
first-go None wire now now' old new slots c here (rings a l limit is deadline before_it number timers made) go x =
    absurd (none-some l limit)
first-go (Some d) wire now now' old new slots c here (rings a l limit is deadline before_it number timers made) go x =
    let same : record { deadline = d; number = None } ≡ l = same_Some _ l limit in
    let T : Limit → Type 0 = λ k. timers_applied new ≡ timers_with k.number k.deadline wire old in
    let M : Limit → Type 0 = λ k. new.made ≡ made_by k.number old in
    let N : Limit → Type 0 = λ k. a.number ≡ number_by k.number old in
    let at : a.deadline ≡ d = deadline ∙ ap (λ k. k.deadline) (sym same) in
    more-rings wire now now' old new slots c a here is (subst N (sym same) number) before_it
    (forward-read now now' c a is go)
    (subst T (sym same) timers
    ∙ ap (λ w. added (record { number = old.made + 1; when = w; task = wire }) (timers_applied old)) (sym at))
    (subst M (sym same) made) (forward-le now now' c go) x

pub alarmed-first : (s : Session) (wire now now' : ℕ) (r0 r1 : Option (List Event)) (old new : Core)
    (slots : List Slot) (c : Slot) → wire ≡ length slots → FirstVisits s wire r0 r1 old new c → GoesForward now c now' →
    Alarmed now old [] slots → Alarmed now' new [] (slots ++ c ∷ [])
alarmed-first s wire now now' r0 r1 old new slots c here (undialled dials failure e to awake still is says) go x =
    more-silent wire now now' old new slots c here (ap alarm_of is) (ap timers_applied still) (ap (λ k. k.made) still)
    (forward-le now now' c go) x
alarmed-first s wire now now' r0 r1 old new slots c here (dialled dials wired on to (talk, client, key, mid, r)) go x =
    first-go s.deadline wire now now' old new slots c here
    (inserted-rings s.deadline wire old mid new c (ap timers_applied r.core) (ap (λ k. k.made) r.core)
    (visit-rings wire key (limit_of s.deadline) _ r1 mid new client c r.visits)) go x
