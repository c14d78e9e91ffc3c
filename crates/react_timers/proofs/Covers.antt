-- The heap beside the live timers: each live timer keeps its entry.
use Rattle.std.proofs.Common.{◌≡◌, ◌+◌, ℕ, zero, suc, ◌<◌, ◌≤◌, ◌⊎◌, true, false, not, List, [], ◌∷◌, ◌++◌, Option}
use Rattle.std.proofs.Common.{Some, None, length, get_or, drop, refl, ap, sym, ◌∙◌, inl, inr, arith, add-one, drop-cons}
use Rattle.std.specs.Prelude.{◌==◌, map, All, Any, Contains, IsPermutation, MatchOption, is_some, min}
use Rattle.std.specs.List.{AllByRecursion}
use Rattle.std.proofs.lemmas.Bool.{cases_Bool, and_parts, and_from, eq-eqb, eqb-true}
use Rattle.std.proofs.lemmas.Bool.Decides.{nat_tests}
use Rattle.std.proofs.lemmas.List.Elements.{All-contains, All-from_recursion, recursion_from_All}
use Rattle.std.proofs.lemmas.List.Sorted.{Contains-permutation, IsPermutation-sym, length_permutation}
use Rattle.react_timers.specs.declared.entry.Entry.{Entry}
use Rattle.react_timers.specs.declared.timer.LiveTimer.{LiveTimer}
use Rattle.react_timers.specs.declared.timer.TimerOp.{TimerOp}
use Rattle.react_timers.specs.declared.timer.TimerOp.TheVariants.{Insert, Remove}
use Rattle.react_timers.specs.Heaped.{is_sooner, Pops}
use Rattle.react_timers.specs.Held.{Held, Covered, entry_of}
use Rattle.react_timers.specs.Live.{added, is_at, without, task_at, is_before, IsNearest, earlier, nearest_moment}
use Rattle.react_timers.specs.Live.{applied, applied_all, insertions, insertions_of}
use Rattle.react_timers.proofs.Dues.{each-filter, each-added, rises-filter, rises-added}

pub contains_head : (e : Entry) (xs : List Entry) → Contains (e ∷ xs) e
contains_head e xs = (0, omega arith, refl)

pub contains_later : (x e : Entry) (xs : List Entry) → Contains xs e → Contains (x ∷ xs) e
contains_later x e xs h = (suc h.0, omega arith, h.2)

pub contains_cases : (x e : Entry) (xs : List Entry) (k : ℕ) → k < length (x ∷ xs) → get_or (x ∷ xs) k e ≡ e →
    (x ≡ e) ⊎ Contains xs e
contains_cases x e xs zero lt is = inl is
contains_cases x e xs (suc k) lt is = inr (k, omega arith, is)

covered-more : (items new : List Entry) (live : List LiveTimer) → ((e : Entry) → Contains items e → Contains new e) →
    Covered items live → Covered new live
covered-more items new [] more h = tt
covered-more items new (t ∷ ts) more h = (more (entry_of t) h.0, covered-more items new ts more h.1)

covered-pop : (items new : List Entry) (e : Entry) (live : List LiveTimer) → IsPermutation items (e ∷ new) →
    Covered items live → Covered new (without e.when e.number live)
covered-pop items new e [] p h = tt
covered-pop items new e (t ∷ ts) p h = elim (cases_Bool (is_at e.when e.number t)) [
  | inl same ↦ rw same (covered-pop items new e ts p h.1)
  | inr other ↦
      let c = Contains-permutation items (e ∷ new) (entry_of t) p h.0 in
      rw other (
        elim (contains_cases e (entry_of t) new c.0 c.1 c.2) [
          | inl is ↦
              let number : (t.number == e.number) ≡ true = eq-eqb t.number e.number (ap (λ (z : Entry). z.number) (sym is)) in
              let when : (t.when == e.when) ≡ true = eq-eqb t.when e.when (ap (λ (z : Entry). z.when) (sym is)) in
              let same : is_at e.when e.number t ≡ true = and_from (t.number == e.number) (t.when == e.when) number when in
              absurd (cc)
          | inr left ↦ left
        ],
        covered-pop items new e ts p h.1,
      )
]

pub held-insert : (items new : List Entry) (t : LiveTimer) (live : List LiveTimer) → Held items live →
    IsPermutation (entry_of t ∷ items) new → Held new (added t live)
held-insert items new t live h p = record {
  rises = rises-added t live h.rises;
  covered = each-added (λ (x : LiveTimer). Contains new (entry_of x)) t live
      (Contains-permutation (entry_of t ∷ items) new (entry_of t) p (contains_head (entry_of t) items))
      (covered-more items new live (λ e c. Contains-permutation (entry_of t ∷ items) new e p (contains_later (entry_of t) e items c)) h.covered);
}

pub held-remove : (items : List Entry) (w n : ℕ) (live : List LiveTimer) → Held items live →
    Held items (without w n live)
held-remove items w n live h = record {
  rises = rises-filter (λ x. not (is_at w n x)) live h.rises;
  covered = each-filter (λ (x : LiveTimer). Contains items (entry_of x)) (λ x. not (is_at w n x)) live h.covered;
}

pub held-pop : (items new : List Entry) (e : Entry) (live : List LiveTimer) → Held items live →
    IsPermutation items (e ∷ new) → Held new (without e.when e.number live)
held-pop items new e live h p = record {
  rises = rises-filter (λ x. not (is_at e.when e.number x)) live h.rises;
  covered = covered-pop items new e live p h.covered;
}

-- what holds of the entries holds of the timers
each-of_entries : (P : Entry → Type 0) (items : List Entry) (live : List LiveTimer) → All P items → Covered items live →
    AllByRecursion (λ t. P (entry_of t)) live
each-of_entries P items [] all h = tt
each-of_entries P items (t ∷ ts) all h = (All-contains P items (entry_of t) all h.0, each-of_entries P items ts all h.1)

pub none-due : (now : ℕ) (items : List Entry) (live : List LiveTimer) → All (λ (x : Entry). now < x.when) items →
    Covered items live → AllByRecursion (λ t. now < t.when) live
none-due now items live all h = each-of_entries (λ (x : Entry). now < x.when) items live all h

pub none-before : (t : LiveTimer) (items : List Entry) (live : List LiveTimer) →
    All (λ (x : Entry). is_sooner x (entry_of t) ≡ false) items → Covered items live →
    AllByRecursion (λ x. is_before x t ≡ false) live
none-before t items live all h = each-of_entries (λ (x : Entry). is_sooner x (entry_of t) ≡ false) items live all h

not_sooner-le : (x e : Entry) → is_sooner x e ≡ false → e.when ≤ x.when
not_sooner-le x e h = grind (arith, nat_tests)

least : (e : Entry) (live : List LiveTimer) → AllByRecursion (λ t. is_sooner (entry_of t) e ≡ false) live →
    AllByRecursion (λ t. e.when ≤ t.when) live
least e [] h = tt
least e (t ∷ ts) h = (not_sooner-le (entry_of t) e h.0, least e ts h.1)

any-at : (w n : ℕ) (live : List LiveTimer) → is_some (task_at w n live) ≡ true →
    Any (λ (t : LiveTimer). t.when ≡ w) live
any-at w n [] h = absurd (cc)
any-at w n (t ∷ ts) h = elim (cases_Bool (is_at w n t)) [
  | inl same ↦ (0, t, omega arith, refl, eqb-true t.when w (and_parts (t.number == n) (t.when == w) same).1)
  | inr other ↦ let r = any-at w n ts (rw other at h) in (suc r.0, r.1, omega (arith, r.2), r.3, r.4)
]

pub is_nearest : (e : Entry) (items : List Entry) (live : List LiveTimer) →
    All (λ (x : Entry). is_sooner x e ≡ false) items → Covered items live →
    is_some (task_at e.when e.number live) ≡ true → IsNearest e.when live
is_nearest e items live all h is =
    (any-at e.when e.number live is, All-from_recursion (λ (t : LiveTimer). e.when ≤ t.when) live (least e live (each-of_entries (λ (x : Entry). is_sooner x e ≡ false) items live all h)))

-- a moment that a live timer has and none comes before is the least one
earlier-low : (w v : ℕ) (xs : List LiveTimer) → w ≤ v → AllByRecursion (λ (x : LiveTimer). w ≤ x.when) xs →
    w ≤ earlier v (nearest_moment xs)
earlier-low w v [] le h = le
earlier-low w v (x ∷ xs) le h = omega (arith, le, earlier-low w x.when xs h.0 h.1)

earlier-least : (w : ℕ) (xs : List LiveTimer) → AllByRecursion (λ (x : LiveTimer). w ≤ x.when) xs →
    earlier w (nearest_moment xs) ≡ w
earlier-least w [] h = refl
earlier-least w (x ∷ xs) h = omega (arith, earlier-low w x.when xs h.0 h.1)

nearest_at : (w : ℕ) (xs : List LiveTimer) (k : ℕ) (x : LiveTimer) → k < length xs → get_or xs k x ≡ x → x.when ≡ w →
    AllByRecursion (λ (y : LiveTimer). w ≤ y.when) xs → nearest_moment xs ≡ Some w
nearest_at w [] k x lt is when h = absurd (omega arith)
nearest_at w (y ∷ ys) zero x lt is when h =
    let same : y.when ≡ w = ap (λ (z : LiveTimer). z.when) is ∙ when in
    ap (λ v. Some (earlier v (nearest_moment ys))) same ∙ ap Some (earlier-least w ys h.1)
nearest_at w (y ∷ ys) (suc k) x lt is when h =
    let rest : nearest_moment ys ≡ Some w = nearest_at w ys k x (omega arith) is when h.1 in
    let least : min y.when w ≡ w = omega (arith, h.0) in
    rw rest (ap Some least)

pub nearest_moment-is : (r : Option ℕ) (xs : List LiveTimer) → MatchOption r (xs ≡ []) (λ when. IsNearest when xs) →
    r ≡ nearest_moment xs
nearest_moment-is None xs h = rw h refl
nearest_moment-is (Some w) xs h =
    sym (nearest_at w xs h.0.0 h.0.1 h.0.2 h.0.3 h.0.4 (recursion_from_All (λ (x : LiveTimer). w ≤ x.when) xs h.1))

pub covered-none : (items : List Entry) (live : List LiveTimer) → items ≡ [] → Covered items live → live ≡ []
covered-none items [] e h = refl
covered-none items (t ∷ ts) e h = let long = ap length e in absurd (omega (arith, long, h.0.1))

-- one entry for each timer
pub covered-self : (items : List Entry) (live : List LiveTimer) → IsPermutation (map entry_of live) items →
    Covered items live
covered-self items live p =
    covered-more (map entry_of live) items live (λ e c. Contains-permutation (map entry_of live) items e p c) (themselves live)
  where
    themselves : (live : List LiveTimer) → Covered (map entry_of live) live
    themselves [] = tt
    themselves (t ∷ ts) =
        (contains_head (entry_of t) (map entry_of ts), covered-more (map entry_of ts) (entry_of t ∷ map entry_of ts) ts (λ e c. contains_later (entry_of t) e (map entry_of ts) c) (themselves ts))

-- one operation more
pub applied-step : (live : List LiveTimer) (ops : List TimerOp) (i : ℕ) (d : TimerOp) → i < length ops →
    applied_all (applied live (get_or ops i d)) (drop (i + 1) ops) ≡ applied_all live (drop i ops)
applied-step live ops i d lt = rw (add-one, drop-cons ops i d lt) refl

pub insertions-step : (ops : List TimerOp) (i : ℕ) (d : TimerOp) → i < length ops →
    insertions_of (get_or ops i d) + insertions (drop (i + 1) ops) ≡ insertions (drop i ops)
insertions-step ops i d lt = rw (add-one, drop-cons ops i d lt) refl

pub nowhere : (w n : ℕ) (live : List LiveTimer) → task_at w n live ≡ None → without w n live ≡ live
nowhere w n [] e = refl
nowhere w n (t ∷ ts) e = elim (cases_Bool (is_at w n t)) [
  | inl same ↦ absurd (let s = rw same at e in cc)
  | inr other ↦ rw other (ap (λ (l : List LiveTimer). t ∷ l) (nowhere w n ts (rw other at e)))
]

same_soonest : (x y : Entry) → is_sooner x y ≡ false → is_sooner y x ≡ false → x ≡ y
same_soonest x y p q =
    let when : x.when ≡ y.when = grind (arith, nat_tests) in
    let number : x.number ≡ y.number = grind (arith, nat_tests) in
    λ i. record { when = when i; number = number i }

-- a stale entry on top is gone
pub stale-popped : (r : Option Entry) (old new : List Entry) (e : Entry) (live : List LiveTimer) → Contains old e →
    All (λ (x : Entry). is_sooner x e ≡ false) old → MatchOption r (old ≡ []) (λ p. Pops old p new) →
    is_some (task_at e.when e.number live) ≡ false → Held old live →
    Held new live × (length new + 1 ≡ length old)
stale-popped None old new e live c all popped stale h = let long = ap length popped in absurd (omega (arith, long, c.1))
stale-popped (Some p) old new e live c all popped stale h =
    let in-old : Contains old p = Contains-permutation (p ∷ new) old p (IsPermutation-sym old (p ∷ new) popped.0) (contains_head p new) in
    let is : p ≡ e = same_soonest p e (All-contains (λ (x : Entry). is_sooner x e ≡ false) old p all in-old) (All-contains (λ (x : Entry). is_sooner x p ≡ false) old e popped.1 c) in
    let none : task_at e.when e.number live ≡ None = no-task (task_at e.when e.number live) stale in
    let left : without p.when p.number live ≡ live = rw is (nowhere e.when e.number live none) in
    let held = held-pop old new p live h popped.0 in
    let long = length_permutation old (p ∷ new) popped.0 in
    (rw left at held, omega (arith, long))
  where
    no-task : (o : Option ℕ) → is_some o ≡ false → o ≡ None
    no-task None e = refl
    no-task (Some x) e = absurd (cc)

pub insertions-append : (ops more : List TimerOp) → insertions (ops ++ more) ≡ insertions ops + insertions more
insertions-append [] more = omega arith
insertions-append (op ∷ ops) more = omega (arith, insertions-append ops more)

pub insertions-push : (ops : List TimerOp) (op : TimerOp) →
    insertions (ops ++ op ∷ []) ≡ insertions ops + insertions_of op
insertions-push ops op = omega (arith, insertions-append ops (op ∷ []))

pub insertions_of-le : (op : TimerOp) → insertions_of op ≤ 1
insertions_of-le (Insert when number task) = omega arith
insertions_of-le (Remove when number) = omega arith

pub ruleset queue_steps = (insertions-push, insertions-append, insertions_of-le)

pub rebuilt-length : (live : List LiveTimer) (items : List Entry) → IsPermutation (map entry_of live) items →
    length items ≡ length live
rebuilt-length live items p = length_permutation (map entry_of live) items p ∙ same live
  where
    same : (live : List LiveTimer) → length (map entry_of live) ≡ length live
    same [] = refl
    same (t ∷ ts) = ap suc (same ts)

-- there are no more insertions than operations
pub few-insertions : (ops : List TimerOp) → insertions ops ≤ length ops
few-insertions [] = omega arith
few-insertions (Insert when number task ∷ ops) = let rest = few-insertions ops in omega (arith, rest)
few-insertions (Remove when number ∷ ops) = let rest = few-insertions ops in omega (arith, rest)

pub one-insertion : (op : TimerOp) → insertions_of op ≤ 1
one-insertion (Insert when number task) = omega arith
one-insertion (Remove when number) = omega arith
