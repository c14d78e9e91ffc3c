-- What is counted in the reactor, and which events use one of its numbers.
use Rattle.std.specs.Prelude.{ℕ, ◌+◌, ◌-◌, ◌^◌, Bool, true, false, List, count_by, min}
use Rattle.react_core.specs.declared.outside.Event.{Event}
use Rattle.react_core.specs.declared.outside.Event.TheVariants as event

-- a wait, which uses the number of a round, or a notice, which uses the number of a timer
abbrev pub is_numbered : Event → Bool
is_numbered (event.Wait timeout answer) = true
is_numbered (event.Notify ok) = true
is_numbered e = false

-- how many of these events use one
abbrev pub numbered_in : List Event → ℕ
numbered_in events = count_by is_numbered events

-- the count of interests after so many more were begun; it stays at its type's end
abbrev pub after_begun : ℕ → ℕ → ℕ
after_begun before armed = min (before + armed) (2 ^ 64 - 1)
