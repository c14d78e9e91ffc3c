-- What operations do to the timer of one number: its moment before them alone determines the one after.
use Rattle.std.specs.Prelude.{ℕ, Bool, false, ◌==◌, if◌then◌else◌, List, [], ◌∷◌, Option, Some, None, is_some}
use Rattle.react_timers.specs.declared.timer.LiveTimer.{LiveTimer}
use Rattle.react_timers.specs.declared.timer.TimerOp.{TimerOp}
use Rattle.react_timers.specs.declared.timer.TimerOp.TheVariants.{Insert, Remove}
use Rattle.react_timers.specs.Live.{applied_all}

-- the moment of the timer with this number
abbrev pub moment_of : ℕ → List LiveTimer → Option ℕ
moment_of number [] = None
moment_of number (x ∷ xs) = if x.number == number then Some x.when else moment_of number xs

-- a moment that is there stays
abbrev pub inserted : ℕ → Option ℕ → Option ℕ
inserted when None = Some when
inserted when (Some other) = Some other

-- another moment stays
abbrev pub removed : ℕ → Option ℕ → Option ℕ
removed when None = None
removed when (Some other) = if other == when then None else Some other

-- the number's moment after an operation
abbrev pub moment_after : ℕ → Option ℕ → TimerOp → Option ℕ
moment_after number moment (Insert when other task) = if other == number then inserted when moment else moment
moment_after number moment (Remove when other) = if other == number then removed when moment else moment

-- after operations in order
abbrev pub moment_after_all : ℕ → Option ℕ → List TimerOp → Option ℕ
moment_after_all number moment [] = moment
moment_after_all number moment (op ∷ ops) = moment_after_all number (moment_after number moment op) ops

-- whether the number has a timer after the queue
abbrev pub stays : List LiveTimer → List TimerOp → ℕ → Bool
stays live queue number = is_some (moment_of number (applied_all live queue))

-- the test of the number that an operation may add
abbrev pub insertion_passes : (ℕ → Bool) → TimerOp → Bool
insertion_passes test (Insert when number task) = test number
insertion_passes test (Remove when number) = false
