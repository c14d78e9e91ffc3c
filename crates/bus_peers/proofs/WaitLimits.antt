-- A round waits up to the nearest deadline of those that sleep.
use Rattle.std.proofs.Common.{◌≡◌, ◌<◌, ◌-◌, ◌+◌, ℕ, Bool, true, false, nat_le, nat_lt, min, if◌then◌else◌, List, []}
use Rattle.std.proofs.Common.{◌∷◌, ◌++◌, map, Option, Some, None, inl, inr, refl, sym, ◌∙◌, ap, arith}
use Rattle.std.specs.Prelude.{filter_map}
use Rattle.std.specs.List.{cons_option}
use Rattle.std.proofs.lemmas.Bool.{both_ways, leb-false, lt-ltb}
use Rattle.react_timers.specs.declared.timer.LiveTimer.{LiveTimer}
use Rattle.react_timers.specs.Live.{is_before, placed, due, later, tasks, nearest_moment, earlier}
use Rattle.react_core.specs.Core.{Core, timers_applied}
use Rattle.react_core.specs.Timing.{limit_by, wait_limit}
use Rattle.bus_session.specs.declared.session.Session.{Session}
use Rattle.bus_record.specs.Pieces.{Pieces}
use Rattle.bus_record.specs.Places.{deadline_at}
use Rattle.bus_record.specs.Settled.{nearer, nearest, timeout_at}
use Rattle.bus_visit.specs.declared.visiting.Slot.{Slot}
use Rattle.bus_visit.specs.declared.visiting.Slot.TheVariants as slot
use Rattle.bus_visit.specs.declared.timing.Alarm.{Alarm}
use Rattle.bus_visit.specs.Registry.{Held}
use Rattle.bus_peers.specs.inside.Alarms.{live, live_of, IsAbove, AllAbove}
use Rattle.bus_peers.specs.inside.Due.{is_in}
use Rattle.bus_peers.specs.inside.Shows.{Shows}
use Rattle.bus_peers.specs.inside.Slots.{AllStand, deadline_after}
use Rattle.bus_peers.proofs.Sleepers.{sleepers_from, first-sleeps, first-awake, awake-now}
use Rattle.bus_peers.proofs.Standing.{sleeps-now}

-- ---- the limit is the least distance to a moment

-- nothing, where a timer is due
placed-limit : (now : ℕ) (x : LiveTimer) (timers : List LiveTimer) (near : Option ℕ) →
    limit_by (tasks (placed x timers)) near now None ≡ Some 0
placed-limit now x [] near = refl
placed-limit now x (y ∷ timers) near = go (is_before y x) where
  go : (b : Bool) → limit_by (tasks (if b then y ∷ placed x timers else x ∷ y ∷ timers)) near now None ≡ Some 0
  go true = refl
  go false = refl

least_zero : (o : Option ℕ) → Some 0 ≡ nearer 0 o
least_zero None = refl
least_zero (Some n) = let e : 0 ≡ min 0 n = omega arith in ap Some e

-- else up to the nearest one
nearer_limit : (now when : ℕ) (due_tasks : List ℕ) (near : Option ℕ) → now < when →
    limit_by due_tasks (Some (earlier when near)) now None ≡ nearer (when - now) (limit_by due_tasks near now None)
nearer_limit now when [] None lt = refl
nearer_limit now when [] (Some other) lt =
    let e : min when other - now ≡ min (when - now) (other - now) = omega (arith, lt) in ap Some e
nearer_limit now when (task ∷ due_tasks) near lt =
    let e : 0 ≡ min (when - now) 0 = omega arith in ap Some e

limit_go : (now : ℕ) (x : LiveTimer) (timers : List LiveTimer) (b : Bool) → nat_le x.when now ≡ b →
    limit_by (tasks (due now timers)) (nearest_moment (later now timers)) now None
    ≡ nearest now (map (λ t. t.when) timers) →
    limit_by (tasks (if b then placed x (due now timers) else due now timers))
    (nearest_moment (if nat_lt now x.when then x ∷ later now timers else later now timers)) now None
    ≡ nearer (if b then 0 else x.when - now) (nearest now (map (λ t. t.when) timers))
limit_go now x timers true is ih =
    placed-limit now x (due now timers) _ ∙ least_zero (nearest now (map (λ t. t.when) timers))
limit_go now x timers false is ih =
    let lt : now < x.when = leb-false x.when now is in
    ap (λ b. limit_by (tasks (due now timers))
    (nearest_moment (if b then x ∷ later now timers else later now timers)) now None) (lt-ltb now x.when lt)
    ∙ (nearer_limit now x.when (tasks (due now timers)) (nearest_moment (later now timers)) lt
    ∙ ap (nearer (x.when - now)) ih)

limit-nearest : (now : ℕ) (timers : List LiveTimer) →
    limit_by (tasks (due now timers)) (nearest_moment (later now timers)) now None
    ≡ nearest now (map (λ t. t.when) timers)
limit-nearest now [] = refl
limit-nearest now (x ∷ timers) = limit_go now x timers (nat_le x.when now) refl (limit-nearest now timers)

-- ---- the moments of the timers are the deadlines of the sleepers

abbrev deadlines : ℕ → List Session → Pieces → List ℕ
deadlines n sessions past = filter_map (λ m. deadline_at m.session m.wire past) (sleepers_from n sessions past)

alarm_go : (mark n : ℕ) (alarm : Option Alarm) (timers : List LiveTimer) (rest : List ℕ) → IsAbove mark [] n alarm →
    map (λ t. t.when) timers ≡ rest →
    map (λ t. t.when) (live_of mark n alarm ++ timers) ≡ cons_option (deadline_after alarm) rest
alarm_go mark n None timers rest above ih = ih
alarm_go mark n (Some a) timers rest (inl lt) ih =
    ap (λ b. map (λ t. t.when)
    ((if b then record { number = a.number; when = a.deadline; task = n } ∷ [] else []) ++ timers))
    (lt-ltb mark a.deadline lt)
    ∙ ap (λ x. a.deadline ∷ x) ih
alarm_go mark n (Some a) timers rest (inr is) ih = absurd (both_ways (is_in n []) refl is)

pub moments-same : (mark n : ℕ) (sessions : List Session) (slots : List Slot) (past : Pieces) (sources : List Held) →
    Shows past sources → AllStand n [] sessions slots past → AllAbove mark [] n slots →
    map (λ t. t.when) (live mark n slots) ≡ deadlines n sessions past
moments-same mark n [] [] past sources shows all above = refl
moments-same mark n (s ∷ sessions) (slot.Ended e ∷ slots) past sources shows all above =
    moments-same mark (n + 1) sessions slots past sources shows all.1 above.1
    ∙ ap (filter_map (λ m. deadline_at m.session m.wire past)) (sym (first-awake n s sessions past (awake-now s n past e all.0)))
moments-same mark n (s ∷ sessions) (slot.Asleep c ∷ slots) past sources shows all above =
    alarm_go mark n c.alarm (live mark (n + 1) slots) (deadlines (n + 1) sessions past) above.0
    (moments-same mark (n + 1) sessions slots past sources shows all.1 above.1)
    ∙ (ap (λ o. cons_option o (deadlines (n + 1) sessions past)) (sym all.0.limited)
    ∙ ap (filter_map (λ m. deadline_at m.session m.wire past))
    (sym (first-sleeps n s sessions past (sleeps-now s n past sources c shows all.0))))
moments-same mark n (s ∷ sessions) (slot.Refused ∷ slots) past sources shows all above = absurd all.0
moments-same mark n [] (c ∷ slots) past sources shows all above = absurd all
moments-same mark n (s ∷ sessions) [] past sources shows all above = absurd all

-- a round waits for as long as the record says
pub limit-same : (core : Core) (first mark : ℕ) (sessions : List Session) (slots : List Slot) (past : Pieces)
    (sources : List Held) → Shows past sources → AllStand 0 [] sessions slots past → AllAbove mark [] 0 slots →
    timers_applied core ≡ live mark 0 slots → wait_limit core first None ≡ timeout_at sessions past first
limit-same core first mark sessions slots past sources shows all above timers =
    limit-nearest first (timers_applied core)
    ∙ ap (nearest first) (ap (map (λ t. t.when)) timers ∙ moments-same mark 0 sessions slots past sources shows all above)
