-- Live timers, by rising number, and what operations and passes do to them.
use Rattle.std.specs.Prelude.{◌≡◌, ◌+◌, ◌<◌, ◌≤◌, ℕ, Bool, not, false, ◌&&◌, ◌||◌, nat_lt, nat_le, ◌==◌, if◌then◌else◌}
use Rattle.std.specs.Prelude.{List, [], ◌∷◌, Option, Some, None, filter, map, min, All, Any}
use Rattle.std.specs.List.{AllByRecursion}
use Rattle.react_timers.specs.declared.timer.LiveTimer.{LiveTimer}
use Rattle.react_timers.specs.declared.timer.TimerOp.{TimerOp}
use Rattle.react_timers.specs.declared.timer.TimerOp.TheVariants.{Insert, Remove}

-- each number is below those after it
abbrev pub Rises : List LiveTimer → Type 0
Rises [] = Unit {0}
Rises (x ∷ xs) = AllByRecursion (λ y. x.number < y.number) xs × Rises xs

-- with the timer at the place of its number, unless one has that number
abbrev pub added : LiveTimer → List LiveTimer → List LiveTimer
added t [] = t ∷ []
added t (x ∷ xs) =
    if nat_lt x.number t.number then x ∷ added t xs else (if x.number == t.number then x ∷ xs else t ∷ x ∷ xs)

-- whether it is the timer with this number and this moment
abbrev pub is_at : ℕ → ℕ → LiveTimer → Bool
is_at when number x = x.number == number && x.when == when

-- without the timer with this number and this moment
abbrev pub without : ℕ → ℕ → List LiveTimer → List LiveTimer
without when number = filter (λ x. not (is_at when number x))

-- the task of the timer with this number and this moment
abbrev pub task_at : ℕ → ℕ → List LiveTimer → Option ℕ
task_at when number [] = None
task_at when number (x ∷ xs) = if is_at when number x then Some x.task else task_at when number xs

abbrev pub applied : List LiveTimer → TimerOp → List LiveTimer
applied xs (Insert when number task) = added (record { number = number; when = when; task = task }) xs
applied xs (Remove when number) = without when number xs

-- in order
abbrev pub applied_all : List LiveTimer → List TimerOp → List LiveTimer
applied_all xs [] = xs
applied_all xs (op ∷ ops) = applied_all (applied xs op) ops

abbrev pub insertions_of : TimerOp → ℕ
insertions_of (Insert when number task) = 1
insertions_of (Remove when number) = 0

-- how many of the operations are insertions
abbrev pub insertions : List TimerOp → ℕ
insertions [] = 0
insertions (op ∷ ops) = insertions_of op + insertions ops

-- whether x is due before y: by moment, then by number
abbrev pub is_before : LiveTimer → LiveTimer → Bool
is_before x y = nat_lt x.when y.when || (x.when == y.when && nat_lt x.number y.number)

-- with the timer at its place in the order of moment, then number
abbrev pub placed : LiveTimer → List LiveTimer → List LiveTimer
placed t [] = t ∷ []
placed t (x ∷ xs) = if is_before x t then x ∷ placed t xs else t ∷ x ∷ xs

-- those with a moment at most `now`, in the order of moment, then number
abbrev pub due : ℕ → List LiveTimer → List LiveTimer
due now [] = []
due now (x ∷ xs) = if nat_le x.when now then placed x (due now xs) else due now xs

-- those with a later moment
abbrev pub later : ℕ → List LiveTimer → List LiveTimer
later now = filter (λ x. nat_lt now x.when)

abbrev pub tasks : List LiveTimer → List ℕ
tasks = map (λ x. x.task)

-- the earlier of a moment and one that may be there
abbrev pub earlier : ℕ → Option ℕ → ℕ
earlier when None = when
earlier when (Some other) = min when other

-- the least moment of a live timer, none where no timer is live
abbrev pub nearest_moment : List LiveTimer → Option ℕ
nearest_moment [] = None
nearest_moment (x ∷ xs) = Some (earlier x.when (nearest_moment xs))

-- a live timer has the moment, and none an earlier one
abbrev pub IsNearest : ℕ → List LiveTimer → Type 0
IsNearest when xs = Any (λ x. x.when ≡ when) xs × All (λ x. when ≤ x.when) xs

-- none is before one that stands ahead of it
abbrev pub IsInOrder : List LiveTimer → Type 0
IsInOrder [] = Unit {0}
IsInOrder (x ∷ xs) = AllByRecursion (λ y. is_before y x ≡ false) xs × IsInOrder xs
