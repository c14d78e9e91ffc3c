-- Whose timers a round's readings reach.
use Rattle.std.proofs.Common.{◌≡◌, ◌≤◌, ℕ, Bool, true, false, nat_lt, nat_le, ◌==◌, ◌&&◌, ◌||◌, if◌then◌else◌, List, []}
use Rattle.std.proofs.Common.{◌∷◌, Option, Some, None, refl, sym, ◌∙◌, ap}
use Rattle.std.specs.Prelude.{filter}
use Rattle.std.specs.List.{list_any}
use Rattle.std.proofs.lemmas.Bool.{leb-false, leb-true, lt-ltb, le-ltb}
use Rattle.react_timers.specs.declared.timer.LiveTimer.{LiveTimer}
use Rattle.react_timers.specs.Live.{is_before, placed, due, later, tasks}
use Rattle.react_core.specs.Timing.{pass_tasks}
use Rattle.bus_session.specs.Alone.{has_reached}
use Rattle.bus_peers.specs.inside.Due.{is_in, is_timer_due, late_at}

-- ---- the tasks of those that are due

or_swap : (a b c : Bool) → (a || (b || c)) ≡ (b || (a || c))
or_swap true true c = refl
or_swap true false c = refl
or_swap false true c = refl
or_swap false false c = refl

in-placed : (w : ℕ) (t : LiveTimer) (timers : List LiveTimer) →
    is_in w (tasks (placed t timers)) ≡ ((t.task == w) || is_in w (tasks timers))
in-placed w t [] = refl
in-placed w t (x ∷ timers) = go (is_before x t) (in-placed w t timers) where
  go : (b : Bool) → is_in w (tasks (placed t timers)) ≡ ((t.task == w) || is_in w (tasks timers)) →
      is_in w (tasks (if b then x ∷ placed t timers else t ∷ x ∷ timers))
      ≡ ((t.task == w) || ((x.task == w) || is_in w (tasks timers)))
  go true ih = ap (λ b. (x.task == w) || b) ih ∙ or_swap (x.task == w) (t.task == w) (is_in w (tasks timers))
  go false ih = refl

and_true_or : (a b : Bool) → (a || b) ≡ ((a && true) || b)
and_true_or true b = refl
and_true_or false b = refl

and_false_or : (a b : Bool) → b ≡ ((a && false) || b)
and_false_or true b = refl
and_false_or false b = refl

in-due : (w now : ℕ) (timers : List LiveTimer) →
    is_in w (tasks (due now timers)) ≡ list_any (λ t. (t.task == w) && nat_le t.when now) timers
in-due w now [] = refl
in-due w now (x ∷ timers) = go (nat_le x.when now) (in-due w now timers) where
  go : (b : Bool) → is_in w (tasks (due now timers)) ≡ list_any (λ t. (t.task == w) && nat_le t.when now) timers →
      is_in w (tasks (if b then placed x (due now timers) else due now timers))
      ≡ (((x.task == w) && b) || list_any (λ t. (t.task == w) && nat_le t.when now) timers)
  go true ih =
      in-placed w x (due now timers)
      ∙ (ap (λ b. (x.task == w) || b) ih ∙ and_true_or (x.task == w) _)
  go false ih = ih ∙ and_false_or (x.task == w) _

-- ---- those that a second reading reaches

any-filter : (p f : LiveTimer → Bool) (timers : List LiveTimer) →
    list_any f (filter p timers) ≡ list_any (λ t. p t && f t) timers
any-filter p f [] = refl
any-filter p f (x ∷ timers) = go (p x) (any-filter p f timers) where
  go : (b : Bool) → list_any f (filter p timers) ≡ list_any (λ t. p t && f t) timers →
      list_any f (if b then x ∷ filter p timers else filter p timers)
      ≡ ((b && f x) || list_any (λ t. p t && f t) timers)
  go true ih = ap (λ b. f x || b) ih
  go false ih = ih

none-any : (timers : List LiveTimer) (f : LiveTimer → Bool) → ((t : LiveTimer) → f t ≡ false) → list_any f timers ≡ false
none-any [] f none = refl
none-any (x ∷ timers) f none = ap (λ b. b || list_any f timers) (none x) ∙ none-any timers f none

and_none : (a b : Bool) → (a && (b && false)) ≡ false
and_none true true = refl
and_none true false = refl
and_none false b = refl

and_turn : (a b c : Bool) → (a && (b && c)) ≡ (b && (a && c))
and_turn true true c = refl
and_turn true false c = refl
and_turn false true c = refl
and_turn false false c = refl

any-same : (f g : LiveTimer → Bool) (timers : List LiveTimer) → ((t : LiveTimer) → f t ≡ g t) →
    list_any f timers ≡ list_any g timers
any-same f g [] same = refl
any-same f g (x ∷ timers) same =
    ap (λ b. b || list_any f timers) (same x) ∙ ap (λ b. g x || b) (any-same f g timers same)

in-second : (w first : ℕ) (again : Option ℕ) (timers : List LiveTimer) →
    is_in w (pass_tasks again (later first timers) [])
    ≡ list_any (λ t. (t.task == w) && (nat_lt first t.when && has_reached (Some t.when) again)) timers
in-second w first None timers =
    sym (none-any timers (λ t. (t.task == w) && (nat_lt first t.when && false)) (λ t. and_none (t.task == w) _))
in-second w first (Some now) timers =
    in-due w now (later first timers)
    ∙ (any-filter (λ t. nat_lt first t.when) (λ t. (t.task == w) && nat_le t.when now) timers
    ∙ any-same (λ t. nat_lt first t.when && ((t.task == w) && nat_le t.when now))
    (λ t. (t.task == w) && (nat_lt first t.when && nat_le t.when now)) timers
    (λ t. and_turn (nat_lt first t.when) (t.task == w) (nat_le t.when now)))

-- ---- both

any-or : (f g : LiveTimer → Bool) (timers : List LiveTimer) →
    (list_any f timers || list_any g timers) ≡ list_any (λ t. f t || g t) timers
any-or f g [] = refl
any-or f g (x ∷ timers) =
    four (f x) (list_any f timers) (g x) (list_any g timers) ∙ ap (λ b. (f x || g x) || b) (any-or f g timers)
  where
    four : (a b c d : Bool) → ((a || b) || (c || d)) ≡ ((a || c) || (b || d))
    four true b c d = refl
    four false true true d = refl
    four false true false d = refl
    four false false true d = refl
    four false false false d = refl

-- a moment is at most the first reading, or above it
late_go : (t f r : Bool) → ((t && f) || (t && ((if f then false else true) && r))) ≡ (t && (f || r))
late_go true true r = refl
late_go true false r = refl
late_go false f r = refl

above-so : (first when : ℕ) → nat_lt first when ≡ (if nat_le when first then false else true)
above-so first when = go (nat_le when first) refl where
  go : (b : Bool) → nat_le when first ≡ b → nat_lt first when ≡ (if b then false else true)
  go true is = let le : when ≤ first = leb-true when first is in le-ltb first when le
  go false is = lt-ltb first when (leb-false when first is)

-- the tasks that both passes of a round's timers take
pub late-tasks : (w first : ℕ) (again : Option ℕ) (timers : List LiveTimer) →
    (is_in w (tasks (due first timers)) || is_in w (pass_tasks again (later first timers) []))
    ≡ late_at timers first again w
late-tasks w first again timers =
    ap (λ b. b || is_in w (pass_tasks again (later first timers) [])) (in-due w first timers)
    ∙ (ap (λ b. list_any (λ t. (t.task == w) && nat_le t.when first) timers || b) (in-second w first again timers)
    ∙ (any-or (λ t. (t.task == w) && nat_le t.when first)
    (λ t. (t.task == w) && (nat_lt first t.when && has_reached (Some t.when) again)) timers
    ∙ any-same
    (λ t. ((t.task == w) && nat_le t.when first) || ((t.task == w) && (nat_lt first t.when && has_reached (Some t.when) again)))
    (λ t. (t.task == w) && is_timer_due first again t) timers
    (λ t. ap (λ b. ((t.task == w) && nat_le t.when first) || ((t.task == w) && (b && has_reached (Some t.when) again)))
    (above-so first t.when)
    ∙ late_go (t.task == w) (nat_le t.when first) (has_reached (Some t.when) again))))
