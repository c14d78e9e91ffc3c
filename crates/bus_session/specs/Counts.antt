-- What is counted in a record.
use Rattle.std.specs.Prelude.{ℕ, Bool, true, false, List, count_by}
use Rattle.react_core.specs.declared.outside.Event.{Event}
use Rattle.react_core.specs.declared.outside.Event.TheVariants as event

-- a wait
abbrev pub is_wait : Event → Bool
is_wait (event.Wait timeout answer) = true
is_wait e = false

-- so many rounds came in these events
abbrev pub waits_in : List Event → ℕ
waits_in events = count_by is_wait events

-- a notice
abbrev pub is_notice : Event → Bool
is_notice (event.Notify ok) = true
is_notice e = false

-- for so many timers a notice came in these events
abbrev pub notices_in : List Event → ℕ
notices_in events = count_by is_notice events
