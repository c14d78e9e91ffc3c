-- The places of live timers: where a number has its place, and what stands there.
use Rattle.std.proofs.Common.{◌≡◌, ℕ, Bool, zero, suc, ◌<◌, ◌≤◌, ◌+◌, true, false, List, [], ◌∷◌, ◌++◌, Some, None, length, get_or}
use Rattle.std.proofs.Common.{slice_set, take, drop, refl, ap, sym, ◌∙◌, inl, inr, arith, subst}
use Rattle.std.specs.Prelude.{nat_lt, ◌==◌, ◌&&◌, ◌||◌, insert, filter}
use Rattle.std.specs.List.{AllByRecursion, list_any}
use Rattle.std.proofs.lemmas.List.Folds.{list_any-append}
use Rattle.std.specs.List.Sorted.{IsPartitionPoint, IsNonDecreasingBy}
use Rattle.std.proofs.lemmas.Bool.{cases_Bool, cases_lt, lt-ltb, le-ltb, eq-eqb, ne_eqb, and_parts, eqb-true}
use Rattle.std.proofs.lemmas.List.{get_or_default, take_more, take-append-drop, length-append, append-nil}
use Rattle.react_timers.specs.declared.slot.Slot.{Slot}
use Rattle.react_timers.specs.declared.timer.LiveTimer.{LiveTimer}
use Rattle.react_timers.specs.Live.{Rises, added, is_at, without, task_at}
use Rattle.react_timers.specs.Moments.{moment_of}
use Rattle.react_timers.specs.Places.{place, IsNowhere, StandsAt}
use Rattle.react_timers.specs.Slots.{timers_in, lives, left_by}
use Rattle.react_timers.proofs.Lists.{above, absent}
use Rattle.react_timers.proofs.Numbers.{moment_below}

-- ---- the place of a number

all-at : (P : LiveTimer → Type 0) (ss : List Slot) → AllByRecursion P (timers_in ss) → (i : ℕ) (d : Slot) → i < length ss →
    P (get_or ss i d).timer
all-at P [] h i d lt = absurd (omega arith)
all-at P (s ∷ ss) h zero d lt = h.0
all-at P (s ∷ ss) h (suc i) d lt = all-at P ss h.1 i d (omega arith)

-- the numbers do not fall
pub rises-non_decreasing : (ss : List Slot) → Rises (timers_in ss) → IsNonDecreasingBy (λ (s : Slot). s.timer.number) ss
rises-non_decreasing [] r i j d le lt = absurd (omega arith)
rises-non_decreasing (s ∷ ss) r zero zero d le lt = omega arith
rises-non_decreasing (s ∷ ss) r zero (suc j) d le lt =
    let above = all-at (λ y. s.timer.number < y.number) ss r.0 j d (omega arith) in omega (arith, above)
rises-non_decreasing (s ∷ ss) r (suc i) zero d le lt = absurd (omega arith)
rises-non_decreasing (s ∷ ss) r (suc i) (suc j) d le lt = rises-non_decreasing ss r.1 i j d (omega arith) (omega arith)

pub place-is : (n : ℕ) (ss : List Slot) (i : ℕ) → i ≤ length ss →
    IsPartitionPoint (λ (s : Slot). nat_lt s.timer.number n ≡ true) (λ (s : Slot). nat_lt s.timer.number n ≡ false) ss i →
    i ≡ place n (timers_in ss)
place-is n [] i le h = omega arith
place-is n (s ∷ ss) zero le h = rw (h.1 0 s (omega arith) (omega arith)) refl
place-is n (s ∷ ss) (suc i) le h =
    rw (h.0 0 s (omega arith) (omega arith)) (ap suc (place-is n ss i (omega arith) (
      λ k d lo hi. h.0 (suc k) d (omega arith) (omega arith),
      λ k d lo hi. h.1 (suc k) d (omega arith) (omega arith),
    )))

-- ---- the live ones among all

-- what holds of all timers holds of the live ones
pub all-lives : (P : LiveTimer → Type 0) (ss : List Slot) → AllByRecursion P (timers_in ss) → AllByRecursion P (lives ss)
all-lives P [] h = tt
all-lives P (s ∷ ss) h = elim (cases_Bool s.is_live) [
  | inl on ↦ rw on (h.0, all-lives P ss h.1)
  | inr off ↦ rw off (all-lives P ss h.1)
]

pub rises-lives : (ss : List Slot) → Rises (timers_in ss) → Rises (lives ss)
rises-lives [] r = tt
rises-lives (s ∷ ss) r = elim (cases_Bool s.is_live) [
  | inl on ↦ rw on (all-lives (λ y. s.timer.number < y.number) ss r.0, rises-lives ss r.1)
  | inr off ↦ rw off (rises-lives ss r.1)
]

pub lives-append : (xs ys : List Slot) → lives (xs ++ ys) ≡ lives xs ++ lives ys
lives-append [] ys = refl
lives-append (s ∷ xs) ys = elim (cases_Bool s.is_live) [
  | inl on ↦ rw on (ap (λ (l : List LiveTimer). s.timer ∷ l) (lives-append xs ys))
  | inr off ↦ rw off (lives-append xs ys)
]

pub fewer-lives : (ss : List Slot) → length (lives ss) ≤ length ss
fewer-lives [] = omega arith
fewer-lives (s ∷ ss) = let rest = fewer-lives ss in elim (cases_Bool s.is_live) [
  | inl on ↦ rw on (omega (arith, rest))
  | inr off ↦ rw off (omega (arith, rest))
]

-- ---- closed up

pub lives-closed : (ss : List Slot) → lives (filter (λ s. s.is_live) ss) ≡ lives ss
lives-closed [] = refl
lives-closed (s ∷ ss) = elim (cases_Bool s.is_live) [
  | inl on ↦ rw on (ap (λ (l : List LiveTimer). s.timer ∷ l) (lives-closed ss))
  | inr off ↦ rw off (lives-closed ss)
]

all-closed : (P : LiveTimer → Type 0) (ss : List Slot) → AllByRecursion P (timers_in ss) →
    AllByRecursion P (timers_in (filter (λ s. s.is_live) ss))
all-closed P [] h = tt
all-closed P (s ∷ ss) h = elim (cases_Bool s.is_live) [
  | inl on ↦ rw on (h.0, all-closed P ss h.1)
  | inr off ↦ rw off (all-closed P ss h.1)
]

pub rises-closed : (ss : List Slot) → Rises (timers_in ss) → Rises (timers_in (filter (λ s. s.is_live) ss))
rises-closed [] r = tt
rises-closed (s ∷ ss) r = elim (cases_Bool s.is_live) [
  | inl on ↦ rw on (all-closed (λ y. s.timer.number < y.number) ss r.0, rises-closed ss r.1)
  | inr off ↦ rw off (rises-closed ss r.1)
]

-- ---- one place set anew, or put in

all-set : (P : LiveTimer → Type 0) (ss : List Slot) (i : ℕ) (t : Slot) → AllByRecursion P (timers_in ss) → P t.timer →
    AllByRecursion P (timers_in (slice_set ss i t))
all-set P [] i t h p = tt
all-set P (s ∷ ss) zero t h p = (p, h.1)
all-set P (s ∷ ss) (suc i) t h p = (h.0, all-set P ss i t h.1 p)

all-insert : (P : LiveTimer → Type 0) (ss : List Slot) (i : ℕ) (t : Slot) → AllByRecursion P (timers_in ss) → P t.timer →
    AllByRecursion P (timers_in (insert ss i t))
all-insert P [] zero t h p = (p, tt)
all-insert P [] (suc i) t h p = (p, tt)
all-insert P (s ∷ ss) zero t h p = (p, h)
all-insert P (s ∷ ss) (suc i) t h p = (h.0, all-insert P ss i t h.1 p)

-- ---- a number and a moment

-- where no timer behind has the number, the live ones do not
beyond : (n : ℕ) (s : Slot) (ss : List Slot) → n ≤ s.timer.number → AllByRecursion (λ y. s.timer.number < y.number) (timers_in ss) →
    AllByRecursion (λ y. n < y.number) (lives ss)
beyond n s ss high r = above n s.timer.number (lives ss) high (all-lives (λ y. s.timer.number < y.number) ss r)

-- a timer with a lower number is none of them
pub lower-task : (w n : ℕ) (s : Slot) (ss : List Slot) → s.timer.number < n → task_at w n (lives (s ∷ ss)) ≡ task_at w n (lives ss)
lower-task w n s ss low =
    let other : (s.timer.number == n) ≡ false = ne_eqb s.timer.number n (λ e. omega (arith, e, low)) in
    elim (cases_Bool s.is_live) [
      | inl on ↦ rw (on, other) refl
      | inr off ↦ rw off refl
    ]

-- it stays where another is taken out
lower-left : (w n : ℕ) (s : Slot) (ss rest : List Slot) → s.timer.number < n → without w n (lives ss) ≡ lives rest →
    without w n (lives (s ∷ ss)) ≡ lives (s ∷ rest)
lower-left w n s ss rest low left =
    let other : (s.timer.number == n) ≡ false = ne_eqb s.timer.number n (λ e. omega (arith, e, low)) in
    elim (cases_Bool s.is_live) [
      | inl on ↦ rw (on, other) (ap (λ (l : List LiveTimer). s.timer ∷ l) left)
      | inr off ↦ rw off left
    ]

lower-moment : (n : ℕ) (s : Slot) (ss : List Slot) → s.timer.number < n → moment_of n (lives (s ∷ ss)) ≡ moment_of n (lives ss)
lower-moment n s ss low =
    let other : (s.timer.number == n) ≡ false = ne_eqb s.timer.number n (λ e. omega (arith, e, low)) in
    elim (cases_Bool s.is_live) [
      | inl on ↦ rw (on, other) refl
      | inr off ↦ rw off refl
    ]

lower-added : (t : LiveTimer) (s : Slot) (ss rest : List Slot) → s.timer.number < t.number → added t (lives ss) ≡ lives rest →
    added t (lives (s ∷ ss)) ≡ lives (s ∷ rest)
lower-added t s ss rest low more =
    let b : nat_lt s.timer.number t.number ≡ true = lt-ltb s.timer.number t.number low in
    elim (cases_Bool s.is_live) [
      | inl on ↦ rw (on, b) (ap (λ (l : List LiveTimer). s.timer ∷ l) more)
      | inr off ↦ rw off more
    ]

longer : (s : Slot) (ss rest : List Slot) → length (lives ss) ≡ suc (length (lives rest)) →
    length (lives (s ∷ ss)) ≡ suc (length (lives (s ∷ rest)))
longer s ss rest e = elim (cases_Bool s.is_live) [
  | inl on ↦ rw on (ap suc e)
  | inr off ↦ rw off e
]

-- ---- what stands at the place of a number

-- none stands there
pub live-past : (w n : ℕ) (ss : List Slot) → length ss ≤ place n (timers_in ss) →
    (task_at w n (lives ss) ≡ None) × (without w n (lives ss) ≡ lives ss) × (moment_of n (lives ss) ≡ None)
live-past w n [] le = (refl, refl, refl)
live-past w n (s ∷ ss) le = elim (cases_lt s.timer.number n) [
  | inl low ↦
      let t : nat_lt s.timer.number n ≡ true = lt-ltb s.timer.number n low in
      let l = rw t at le in
      let rest = live-past w n ss (omega (arith, l)) in
      (lower-task w n s ss low ∙ rest.0, lower-left w n s ss ss low rest.1, lower-moment n s ss low ∙ rest.2)
  | inr high ↦
      let t : nat_lt s.timer.number n ≡ false = le-ltb s.timer.number n high in
      let l = rw t at le in absurd (omega (arith, l))
]

-- the live timer there has the number and the moment
pub live-found : (w n : ℕ) (ss : List Slot) (x : Slot) → Rises (timers_in ss) → place n (timers_in ss) < length ss →
    x ≡ get_or ss (place n (timers_in ss)) x → x.timer.number ≡ n → x.timer.when ≡ w → x.is_live ≡ true →
    (task_at w n (lives ss) ≡ Some x.timer.task)
    × (without w n (lives ss) ≡ lives (slice_set ss (place n (timers_in ss)) (left_by x)))
    × (length (lives ss) ≡ suc (length (lives (slice_set ss (place n (timers_in ss)) (left_by x)))))
    × Rises (timers_in (slice_set ss (place n (timers_in ss)) (left_by x)))
live-found w n [] x r lt e num mom live = absurd (omega arith)
live-found w n (y ∷ ys) x r lt e num mom live = elim (cases_lt y.timer.number n) [
  | inl low ↦
      let t : nat_lt y.timer.number n ≡ true = lt-ltb y.timer.number n low in
      let l = rw t at lt in
      let rest = live-found w n ys x r.1 (omega (arith, l)) (rw t at e) num mom live in
      rw t (
        lower-task w n y ys low ∙ rest.0,
        lower-left w n y ys (slice_set ys (place n (timers_in ys)) (left_by x)) low rest.1,
        longer y ys (slice_set ys (place n (timers_in ys)) (left_by x)) rest.2,
        (all-set (λ z. y.timer.number < z.number) ys (place n (timers_in ys)) (left_by x) r.0 (omega (arith, low, num)), rest.3),
      )
  | inr high ↦
      let t : nat_lt y.timer.number n ≡ false = le-ltb y.timer.number n high in
      let is : x ≡ y = rw t at e in
      let on : y.is_live ≡ true = sym (ap (λ (z : Slot). z.is_live) is) ∙ live in
      let here : y.timer.number ≡ n = sym (ap (λ (z : Slot). z.timer.number) is) ∙ num in
      let same_number : (y.timer.number == n) ≡ true = eq-eqb y.timer.number n here in
      let same_moment : (y.timer.when == w) ≡ true = eq-eqb y.timer.when w (sym (ap (λ (z : Slot). z.timer.when) is) ∙ mom) in
      let rest = absent w n (lives ys) (beyond n y ys high r.0) in
      rw (t, is) (rw (on, same_number, same_moment) (refl, rest.1, refl, r))
]

-- what stands there is not the live timer with the number and the moment
pub live-other : (w n : ℕ) (ss : List Slot) (x : Slot) → Rises (timers_in ss) → place n (timers_in ss) < length ss →
    x ≡ get_or ss (place n (timers_in ss)) x → (x.is_live && is_at w n x.timer) ≡ false →
    (task_at w n (lives ss) ≡ None) × (without w n (lives ss) ≡ lives ss)
live-other w n [] x r lt e other = absurd (omega arith)
live-other w n (y ∷ ys) x r lt e other = elim (cases_lt y.timer.number n) [
  | inl low ↦
      let t : nat_lt y.timer.number n ≡ true = lt-ltb y.timer.number n low in
      let l = rw t at lt in
      let rest = live-other w n ys x r.1 (omega (arith, l)) (rw t at e) other in
      (lower-task w n y ys low ∙ rest.0, lower-left w n y ys ys low rest.1)
  | inr high ↦
      let t : nat_lt y.timer.number n ≡ false = le-ltb y.timer.number n high in
      let is : x ≡ y = rw t at e in
      let other' : (y.is_live && is_at w n y.timer) ≡ false = sym (ap (λ (z : Slot). z.is_live && is_at w n z.timer) is) ∙ other in
      let rest = absent w n (lives ys) (beyond n y ys high r.0) in
      elim (cases_Bool y.is_live) [
        | inl on ↦
            let unlike : is_at w n y.timer ≡ false = rw on at other' in
            rw (on, unlike) (rest.0, ap (λ (l : List LiveTimer). y.timer ∷ l) rest.1)
        | inr off ↦ rw off rest
      ]
]

-- the moment of the number, where it is live there
pub moment-live : (n : ℕ) (ss : List Slot) (x : Slot) → place n (timers_in ss) < length ss →
    x ≡ get_or ss (place n (timers_in ss)) x → x.timer.number ≡ n → x.is_live ≡ true →
    moment_of n (lives ss) ≡ Some x.timer.when
moment-live n [] x lt e num live = absurd (omega arith)
moment-live n (y ∷ ys) x lt e num live = elim (cases_lt y.timer.number n) [
  | inl low ↦
      let t : nat_lt y.timer.number n ≡ true = lt-ltb y.timer.number n low in
      let l = rw t at lt in
      lower-moment n y ys low ∙ moment-live n ys x (omega (arith, l)) (rw t at e) num live
  | inr high ↦
      let t : nat_lt y.timer.number n ≡ false = le-ltb y.timer.number n high in
      let is : x ≡ y = rw t at e in
      let on : y.is_live ≡ true = sym (ap (λ (z : Slot). z.is_live) is) ∙ live in
      let same : (y.timer.number == n) ≡ true =
      eq-eqb y.timer.number n (sym (ap (λ (z : Slot). z.timer.number) is) ∙ num) in
      rw is (rw (on, same) refl)
]

pub moment-not-live : (n : ℕ) (ss : List Slot) (x : Slot) → Rises (timers_in ss) → place n (timers_in ss) < length ss →
    x ≡ get_or ss (place n (timers_in ss)) x → (x.is_live && (x.timer.number == n)) ≡ false →
    moment_of n (lives ss) ≡ None
moment-not-live n [] x r lt e other = absurd (omega arith)
moment-not-live n (y ∷ ys) x r lt e other = elim (cases_lt y.timer.number n) [
  | inl low ↦
      let t : nat_lt y.timer.number n ≡ true = lt-ltb y.timer.number n low in
      let l = rw t at lt in
      lower-moment n y ys low ∙ moment-not-live n ys x r.1 (omega (arith, l)) (rw t at e) other
  | inr high ↦
      let t : nat_lt y.timer.number n ≡ false = le-ltb y.timer.number n high in
      let is : x ≡ y = rw t at e in
      let other' : (y.is_live && (y.timer.number == n)) ≡ false =
      sym (ap (λ (z : Slot). z.is_live && (z.timer.number == n)) is) ∙ other in
      let rest = moment_below n (lives ys) (beyond n y ys high r.0) in
      elim (cases_Bool y.is_live) [
        | inl on ↦
            let unlike : (y.timer.number == n) ≡ false = rw on at other' in
            rw (on, unlike) rest
        | inr off ↦ rw off rest
      ]
]

-- ---- a timer put in

-- below all others it stands first
first-added : (t : LiveTimer) (xs : List LiveTimer) → AllByRecursion (λ y. t.number < y.number) xs → added t xs ≡ t ∷ xs
first-added t [] h = refl
first-added t (x ∷ xs) h =
    let b : nat_lt x.number t.number ≡ false = le-ltb x.number t.number (omega (arith, h.0)) in
    let other : (x.number == t.number) ≡ false = ne_eqb x.number t.number (λ e. omega (arith, e, h.0)) in
    rw (b, other) refl

-- a live timer has the number
pub added-there : (t : LiveTimer) (ss : List Slot) (x : Slot) → place t.number (timers_in ss) < length ss →
    x ≡ get_or ss (place t.number (timers_in ss)) x → x.timer.number ≡ t.number → x.is_live ≡ true →
    added t (lives ss) ≡ lives ss
added-there t [] x lt e num live = absurd (omega arith)
added-there t (y ∷ ys) x lt e num live = elim (cases_lt y.timer.number t.number) [
  | inl low ↦
      let b : nat_lt y.timer.number t.number ≡ true = lt-ltb y.timer.number t.number low in
      let l = rw b at lt in
      lower-added t y ys ys low (added-there t ys x (omega (arith, l)) (rw b at e) num live)
  | inr high ↦
      let b : nat_lt y.timer.number t.number ≡ false = le-ltb y.timer.number t.number high in
      let is : x ≡ y = rw b at e in
      let on : y.is_live ≡ true = sym (ap (λ (z : Slot). z.is_live) is) ∙ live in
      let same : (y.timer.number == t.number) ≡ true =
      eq-eqb y.timer.number t.number (sym (ap (λ (z : Slot). z.timer.number) is) ∙ num) in
      rw on (rw (b, same) refl)
]

-- a place with a live timer
abbrev pub taken_by : LiveTimer → Slot
taken_by t = record { timer = t; is_live = true }

-- the timer with the number has left its place
pub added-anew : (t : LiveTimer) (ss : List Slot) (x : Slot) → Rises (timers_in ss) → place t.number (timers_in ss) < length ss →
    x ≡ get_or ss (place t.number (timers_in ss)) x → x.timer.number ≡ t.number → x.is_live ≡ false →
    (added t (lives ss) ≡ lives (slice_set ss (place t.number (timers_in ss)) (taken_by t)))
    × (length (lives (slice_set ss (place t.number (timers_in ss)) (taken_by t))) ≡ suc (length (lives ss)))
    × Rises (timers_in (slice_set ss (place t.number (timers_in ss)) (taken_by t)))
added-anew t [] x r lt e num gone = absurd (omega arith)
added-anew t (y ∷ ys) x r lt e num gone = elim (cases_lt y.timer.number t.number) [
  | inl low ↦
      let b : nat_lt y.timer.number t.number ≡ true = lt-ltb y.timer.number t.number low in
      let l = rw b at lt in
      let rest = added-anew t ys x r.1 (omega (arith, l)) (rw b at e) num gone in
      let set = slice_set ys (place t.number (timers_in ys)) (taken_by t) in
      rw b (
        lower-added t y ys set low rest.0,
        longer y set ys rest.1,
        (all-set (λ z. y.timer.number < z.number) ys (place t.number (timers_in ys)) (taken_by t) r.0 low, rest.2),
      )
  | inr high ↦
      let b : nat_lt y.timer.number t.number ≡ false = le-ltb y.timer.number t.number high in
      let is : x ≡ y = rw b at e in
      let off : y.is_live ≡ false = sym (ap (λ (z : Slot). z.is_live) is) ∙ gone in
      let here : y.timer.number ≡ t.number = sym (ap (λ (z : Slot). z.timer.number) is) ∙ num in
      let above_t = above t.number y.timer.number (timers_in ys) high r.0 in
      rw (b, off) (
        first-added t (lives ys) (beyond t.number y ys high r.0),
        refl,
        (above_t, r.1),
      )
]

-- no place is of the number
pub added-between : (t : LiveTimer) (ss : List Slot) → Rises (timers_in ss) →
    ((x : Slot) → place t.number (timers_in ss) < length ss → x ≡ get_or ss (place t.number (timers_in ss)) x →
    x.timer.number ≡ t.number → ⊥) →
    (added t (lives ss) ≡ lives (insert ss (place t.number (timers_in ss)) (taken_by t)))
    × (length (lives (insert ss (place t.number (timers_in ss)) (taken_by t))) ≡ suc (length (lives ss)))
    × Rises (timers_in (insert ss (place t.number (timers_in ss)) (taken_by t)))
added-between t [] r new = (refl, refl, (tt, tt))
added-between t (y ∷ ys) r new = elim (cases_lt y.timer.number t.number) [
  | inl low ↦
      let b : nat_lt y.timer.number t.number ≡ true = lt-ltb y.timer.number t.number low in
      let new' = rw b at new in
      let rest = added-between t ys r.1 (λ x lt e num. new' x (omega (arith, lt)) e num) in
      let more = insert ys (place t.number (timers_in ys)) (taken_by t) in
      rw b (
        lower-added t y ys more low rest.0,
        longer y more ys rest.1,
        (all-insert (λ z. y.timer.number < z.number) ys (place t.number (timers_in ys)) (taken_by t) r.0 low, rest.2),
      )
  | inr high ↦
      let b : nat_lt y.timer.number t.number ≡ false = le-ltb y.timer.number t.number high in
      let new' = rw b at new in
      let unlike : y.timer.number ≡ t.number → ⊥ = λ e. new' y (omega arith) refl e in
      let other : (y.timer.number == t.number) ≡ false = ne_eqb y.timer.number t.number unlike in
      let below : t.number < y.timer.number = omega (arith, high, unlike) in
      let all : AllByRecursion (λ z. t.number < z.number) (timers_in (y ∷ ys)) = (below, above t.number y.timer.number (timers_in ys) high r.0) in
      rw b (
        first-added t (lives (y ∷ ys)) (all-lives (λ z. t.number < z.number) (y ∷ ys) all),
        refl,
        (all, r),
      )
]

-- ---- as the code finds them

-- what stands at an index stands at the place
here : (ss : List Slot) (at n : ℕ) (x : Slot) → at ≡ place n (timers_in ss) → x ≡ get_or ss at x →
    x ≡ get_or ss (place n (timers_in ss)) x
here ss at n x p e = e ∙ ap (λ k. get_or ss k x) p

pub past-nowhere : (w n : ℕ) (ss : List Slot) (at : ℕ) → at ≡ place n (timers_in ss) → length ss ≤ at → IsNowhere w n ss
past-nowhere w n ss at p le = let a = live-past w n ss (omega (arith, p, le)) in record { task = a.0; left = a.1 }

pub past-moment : (n : ℕ) (ss : List Slot) (at : ℕ) → at ≡ place n (timers_in ss) → length ss ≤ at →
    moment_of n (lives ss) ≡ None
past-moment n ss at p le = (live-past 0 n ss (omega (arith, p, le))).2

-- what stands at an index below the end
there : (ss : List Slot) (at : ℕ) (d : Slot) → at < length ss → get_or ss at d ≡ get_or ss at (get_or ss at d)
there ss at d lt = get_or_default ss at d (get_or ss at d) lt

pub other-nowhere : (w n : ℕ) (ss : List Slot) (at : ℕ) (d : Slot) → Rises (timers_in ss) → at ≡ place n (timers_in ss) →
    at < length ss → ((get_or ss at d).is_live && is_at w n (get_or ss at d).timer) ≡ false → IsNowhere w n ss
other-nowhere w n ss at d r p lt other =
    let x = get_or ss at d in
    let a = live-other w n ss x r (omega (arith, p, lt)) (here ss at n x p (there ss at d lt)) other in
    record { task = a.0; left = a.1 }

pub here-stands : (w n : ℕ) (ss : List Slot) (at : ℕ) (d : Slot) → Rises (timers_in ss) → at ≡ place n (timers_in ss) →
    at < length ss → ((get_or ss at d).is_live && is_at w n (get_or ss at d).timer) ≡ true → StandsAt w n ss at
here-stands w n ss at d r p lt is =
    let x = get_or ss at d in
    let parts = and_parts x.is_live (is_at w n x.timer) is in
    let same = and_parts (x.timer.number == n) (x.timer.when == w) parts.1 in
    let a = live-found w n ss x r (omega (arith, p, lt)) (here ss at n x p (there ss at d lt)) (eqb-true x.timer.number n same.0)
    (eqb-true x.timer.when w same.1) parts.0 in
    let is_it : (k : Slot) → x ≡ get_or ss at k = λ k. get_or_default ss at d k lt in
    let left : (k : Slot) → slice_set ss (place n (timers_in ss)) (left_by x) ≡ slice_set ss at (left_by (get_or ss at k)) =
    λ k. ap (λ i. slice_set ss i (left_by x)) (sym p) ∙ ap (λ (s : Slot). slice_set ss at (left_by s)) (is_it k) in
    record {
      within = lt;
      task = λ k. a.0 ∙ ap (λ (s : Slot). Some s.timer.task) (is_it k);
      left = λ k. a.1 ∙ ap lives (left k);
      fewer = λ k. a.2 ∙ ap (λ (l : List Slot). suc (length (lives l))) (left k);
      rises = λ k. subst (λ (l : List Slot). Rises (timers_in l)) (left k) a.3;
    }

pub here-moment : (n : ℕ) (ss : List Slot) (at : ℕ) (d x : Slot) → at ≡ place n (timers_in ss) →
    at < length ss → x ≡ get_or ss at x → ((get_or ss at d).is_live && ((get_or ss at d).timer.number == n)) ≡ true →
    moment_of n (lives ss) ≡ Some x.timer.when
here-moment n ss at d x p lt e is =
    let same : get_or ss at d ≡ x = get_or_default ss at d x lt ∙ sym e in
    let is' : (x.is_live && (x.timer.number == n)) ≡ true =
    sym (ap (λ (s : Slot). s.is_live && (s.timer.number == n)) same) ∙ is in
    let parts = and_parts x.is_live (x.timer.number == n) is' in
    moment-live n ss x (omega (arith, p, lt)) (here ss at n x p e) (eqb-true x.timer.number n parts.1) parts.0

pub other-moment : (n : ℕ) (ss : List Slot) (at : ℕ) (d : Slot) → Rises (timers_in ss) → at ≡ place n (timers_in ss) →
    at < length ss → ((get_or ss at d).is_live && ((get_or ss at d).timer.number == n)) ≡ false →
    moment_of n (lives ss) ≡ None
other-moment n ss at d r p lt other =
    moment-not-live n ss (get_or ss at d) r (omega (arith, p, lt)) (here ss at n (get_or ss at d) p (there ss at d lt)) other

-- a timer is stored in these places so
pub record Stores (t : LiveTimer) (ss new : List Slot) : Type 0 where
  pub added : lives new ≡ added t (lives ss)
  pub rises : Rises (timers_in new)
  pub more : length (lives new) ≡ suc (length (lives ss))

pub stores-anew : (t : LiveTimer) (ss : List Slot) (at : ℕ) (x : Slot) → Rises (timers_in ss) → at ≡ place t.number (timers_in ss) →
    at < length ss → x ≡ get_or ss at x → x.timer.number ≡ t.number → x.is_live ≡ false →
    Stores t ss (slice_set ss at (taken_by t))
stores-anew t ss at x r p lt e num gone =
    let a = added-anew t ss x r (omega (arith, p, lt)) (here ss at t.number x p e) num gone in
    let set : slice_set ss (place t.number (timers_in ss)) (taken_by t) ≡ slice_set ss at (taken_by t) =
    ap (λ k. slice_set ss k (taken_by t)) (sym p) in
    record {
      added = sym (a.0 ∙ ap lives set);
      rises = subst (λ (l : List Slot). Rises (timers_in l)) set a.2;
      more = subst (λ (l : List Slot). length (lives l) ≡ suc (length (lives ss))) set a.1;
    }

pub stores-between : (t : LiveTimer) (ss : List Slot) (at : ℕ) → Rises (timers_in ss) → at ≡ place t.number (timers_in ss) →
    ((x : Slot) → at < length ss → x ≡ get_or ss at x → x.timer.number ≡ t.number → ⊥) →
    Stores t ss (insert ss at (taken_by t))
stores-between t ss at r p new =
    let a = added-between t ss r (λ x lt e num. new x (omega (arith, p, lt)) (e ∙ ap (λ k. get_or ss k x) (sym p)) num) in
    let set : insert ss (place t.number (timers_in ss)) (taken_by t) ≡ insert ss at (taken_by t) =
    ap (λ k. insert ss k (taken_by t)) (sym p) in
    record {
      added = sym (a.0 ∙ ap lives set);
      rises = subst (λ (l : List Slot). Rises (timers_in l)) set a.2;
      more = subst (λ (l : List Slot). length (lives l) ≡ suc (length (lives ss))) set a.1;
    }

pub stored-there : (t : LiveTimer) (ss : List Slot) (at : ℕ) (x : Slot) → at ≡ place t.number (timers_in ss) →
    at < length ss → x ≡ get_or ss at x → x.timer.number ≡ t.number → x.is_live ≡ true → lives ss ≡ added t (lives ss)
stored-there t ss at x p lt e num live =
    sym (added-there t ss x (omega (arith, p, lt)) (here ss at t.number x p e) num live)

-- ---- one place after the other

pub lives-more : (ss : List Slot) (i : ℕ) (d : Slot) → i < length ss → (get_or ss i d).is_live ≡ true →
    lives (take (i + 1) ss) ≡ lives (take i ss) ++ (get_or ss i d).timer ∷ []
lives-more ss i d lt on =
    ap lives (take_more ss i d lt) ∙ lives-append (take i ss) (get_or ss i d ∷ [])
    ∙ rw on refl

pub lives-same : (ss : List Slot) (i : ℕ) (d : Slot) → i < length ss → (get_or ss i d).is_live ≡ false →
    lives (take (i + 1) ss) ≡ lives (take i ss)
lives-same ss i d lt off =
    ap lives (take_more ss i d lt) ∙ lives-append (take i ss) (get_or ss i d ∷ [])
    ∙ (rw off (append-nil (lives (take i ss))))

-- there are no more live ones at the front than in all
pub lives-front : (ss : List Slot) (i : ℕ) → length (lives (take i ss)) ≤ length (lives ss)
lives-front ss i =
    let whole : lives ss ≡ lives (take i ss) ++ lives (drop i ss) =
    ap lives (sym (take-append-drop i ss)) ∙ lives-append (take i ss) (drop i ss) in
    let count = ap length whole ∙ length-append (lives (take i ss)) (lives (drop i ss)) in
    omega (arith, count)

or_last : (b : Bool) → (b || true) ≡ true
or_last true = refl
or_last false = refl

-- a live timer passes a test
pub any-at : (p : LiveTimer → Bool) (ss : List Slot) (i : ℕ) (d : Slot) → i < length ss → (get_or ss i d).is_live ≡ true →
    p (get_or ss i d).timer ≡ true → list_any p (lives ss) ≡ true
any-at p [] i d lt on is = absurd (omega arith)
any-at p (s ∷ ss) zero d lt on is = rw on (rw is refl)
any-at p (s ∷ ss) (suc i) d lt on is =
    let rest = any-at p ss i d (omega arith) on is in
    elim (cases_Bool s.is_live) [
      | inl on' ↦ rw on' (rw rest (or_last (p s.timer)))
      | inr off ↦ rw off rest
    ]

-- none so far passes, nor the next one
pub none-more : (p : LiveTimer → Bool) (ss : List Slot) (i : ℕ) (d : Slot) → i < length ss → (get_or ss i d).is_live ≡ true →
    p (get_or ss i d).timer ≡ false → list_any p (lives (take i ss)) ≡ false →
    list_any p (lives (take (i + 1) ss)) ≡ false
none-more p ss i d lt on other none =
    ap (list_any p) (lives-more ss i d lt on) ∙ list_any-append p (lives (take i ss)) ((get_or ss i d).timer ∷ [])
    ∙ rw (none, other) refl

pub none-same : (p : LiveTimer → Bool) (ss : List Slot) (i : ℕ) (d : Slot) → i < length ss → (get_or ss i d).is_live ≡ false →
    list_any p (lives (take i ss)) ≡ false → list_any p (lives (take (i + 1) ss)) ≡ false
none-same p ss i d lt off none = ap (list_any p) (lives-same ss i d lt off) ∙ none
