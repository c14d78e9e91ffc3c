-- The wires that the reports and the readings of a round make due.
use Rattle.std.specs.Prelude.{◌≡◌, ◌≤◌, ◌+◌, ℕ, Bool, ◌&&◌, ◌||◌, ◌==◌, List, [], ◌∷◌, Option, Some}
use Rattle.std.specs.List.{list_any}
use Rattle.react_core.specs.declared.outside.Report.{Report}
use Rattle.react_timers.specs.declared.timer.LiveTimer.{LiveTimer}
use Rattle.bus_session.specs.Alone.{has_reached}
use Rattle.bus_visit.specs.Registry.{Held, waits}

-- some of the reports name a direction that waits
abbrev pub is_due : List Report → Held → Bool
is_due reports h =
    list_any (λ r. (r.key == h.key) && ((r.read && waits h.read) || (r.write && waits h.write))) reports

-- the wire has a source of which that holds
abbrev pub due_at : List Held → List Report → ℕ → Bool
due_at held reports wire = list_any (λ h. (h.wire == wire) && is_due reports h) held

-- the wire is one of these
abbrev pub is_in : ℕ → List ℕ → Bool
is_in wire wires = list_any (λ w. w == wire) wires

-- the numbers rise, the first from this one on
abbrev pub RisesFrom : ℕ → List ℕ → Type 0
RisesFrom low [] = Unit {0}
RisesFrom low (n ∷ numbers) = (low ≤ n) × RisesFrom (n + 1) numbers

-- a reading of a round has reached the moment of a timer
abbrev pub is_timer_due : ℕ → Option ℕ → LiveTimer → Bool
is_timer_due first second t = has_reached (Some t.when) (Some first) || has_reached (Some t.when) second

-- some of the timers is due whose task is the wire
abbrev pub late_at : List LiveTimer → ℕ → Option ℕ → ℕ → Bool
late_at timers first second wire = list_any (λ t. (t.task == wire) && is_timer_due first second t) timers

-- the wires that a round's reports and readings make due, each once and in order
pub record AreDue (held : List Held) (reports : List Report) (timers : List LiveTimer) (first : ℕ) (second : Option ℕ)
    (wires : List ℕ) : Type 0 where
  pub rise : RisesFrom 0 wires
  pub each : (wire : ℕ) → is_in wire wires ≡ (due_at held reports wire || late_at timers first second wire)
