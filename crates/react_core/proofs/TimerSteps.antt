-- The steps that insertions and removals of timers are.
use Rattle.std.proofs.Common.{◌≡◌, ◌+◌, ◌≤◌, ◌<◌, ◌-◌, ◌^◌, Bool, true, false, nat_lt, if◌then◌else◌, [], length, refl, arith}
use Rattle.react_timers.specs.declared.timer.TimerOp.{TimerOp}
use Rattle.react_timers.specs.declared.timer.TimerOp.TheVariants.{Insert, Remove}
use Rattle.react_timers.specs.Live.{insertions_of}
use Rattle.react_core.specs.Core.{Core}
use Rattle.react_core.specs.Step.{Draw, Push, Apply, Drew, Done}
use Rattle.react_core.specs.Steps.{CoreSteps, no-steps, one-step, then-steps}
use Rattle.react_core.specs.Timing.{queue_applied, queued, with_place, drawn}

pub place-steps : (core : Core) → CoreSteps core (with_place core)
place-steps core = of (nat_lt (length core.queue) 1000)
  where
    of : (b : Bool) → CoreSteps core (if b then core else queue_applied core)
    of true = no-steps refl
    of false = one-step Apply Done [] (record { wakes = refl; core = refl })

pub queued-steps : (core : Core) (op : TimerOp) → CoreSteps core (queued (with_place core) op)
queued-steps core op = then-steps (place-steps core) (one-step (Push op) Done [] (record { wakes = refl; core = refl }))

pub drawn-steps : (core : Core) → core.made < 2 ^ 64 - 1 → CoreSteps core (drawn core)
drawn-steps core left = one-step Draw (Drew (core.made + 1)) [] (record { left = left; drew = refl; wakes = refl; core = refl })

-- the number was drawn before the operation was queued
pub drawn_queued-steps : (core : Core) (op : TimerOp) → core.made < 2 ^ 64 - 1 → CoreSteps core (queued (with_place (drawn core)) op)
drawn_queued-steps core op left = then-steps (drawn-steps core left) (queued-steps (drawn core) op)

pub drawn_place-steps : (core : Core) → core.made < 2 ^ 64 - 1 → CoreSteps core (with_place (drawn core))
drawn_place-steps core left = then-steps (drawn-steps core left) (place-steps (drawn core))

pub one-at-most : (op : TimerOp) → insertions_of op ≤ 1
one-at-most (Insert when number task) = omega arith
one-at-most (Remove when number) = omega arith

-- a number that is given back was not used
pub undrawn : (core : Core) → record (with_place (drawn core)) { made = core.made } ≡ with_place core
undrawn core = of (nat_lt (length core.queue) 1000)
  where
    of : (b : Bool) → record (if b then drawn core else queue_applied (drawn core)) { made = core.made } ≡ (if b then core else queue_applied core)
    of true = refl
    of false = refl
