-- How the heap stands to the live timers, and what contracts see of both and the queue.
use Rattle.std.specs.Prelude.{List, Contains}
use Rattle.std.specs.List.{AllByRecursion}
use Rattle.react_timers.specs.declared.entry.Entry.{Entry}
use Rattle.react_timers.specs.declared.timer.LiveTimer.{LiveTimer}
use Rattle.react_timers.specs.Live.{Rises}

abbrev pub entry_of : LiveTimer → Entry
entry_of t = record { when = t.when; number = t.number }

-- each live timer has an entry
abbrev pub Covered : List Entry → List LiveTimer → Type 0
Covered items = AllByRecursion (λ t. Contains items (entry_of t))

-- the timers rise by number, and each has an entry
pub record Held (items : List Entry) (live : List LiveTimer) : Type 0 where
  pub rises : Rises live
  pub covered : Covered items live
