-- What it is that a NotReady was noted in the reactor.
use Rattle.std.specs.Prelude.{◌≡◌, ℕ, Bool, true, false, List, [], map, length, Option, Some, None}
use Rattle.react_core.specs.declared.outside.Event.{Event}
use Rattle.react_core.specs.declared.reactor.Dir.{Dir}
use Rattle.react_core.specs.Core.{Core, timers_applied}
use Rattle.react_core.specs.Told.{told}
use Rattle.bus_visit.specs.Counts.{after_begun}
use Rattle.bus_visit.specs.Registry.{Held, side_held, held_at, noted, stopped_held}
use Rattle.bus_visit.specs.Asking.{arms_at}
use Rattle.bus_visit.specs.Shown.{IsBetweenCalls, shown, tags}

-- the wire holds the key
abbrev pub Holds : Core → ℕ → ℕ → Type 0
Holds core key wire = (h : Held) × (held_at (map shown core.sources) key ≡ Some h) × (h.wire ≡ wire)

abbrev pub arms_told : Option (List Event) → List Event
arms_told None = []
arms_told (Some events) = events

abbrev pub asks_again : Option (List Event) → Bool
asks_again None = true
asks_again (Some events) = false

-- a NotReady of this direction was noted
pub record NotReadyNoted (wire key : ℕ) (dir : Dir) (before after : Option (List Event)) (old new : Core)
    (again : Bool) (h : Held) : Type 0 where
  pub was : held_at (map shown old.sources) key ≡ Some h
  pub wired : h.wire ≡ wire
  pub now : held_at (map shown new.sources) key ≡ Some (stopped_held dir h)
  pub gained : after ≡ told before (arms_told (arms_at dir h (side_held dir h)))
  pub again_so : again ≡ asks_again (arms_at dir h (side_held dir h))
  pub shows : map shown new.sources ≡ noted wire dir (map shown old.sources)
  pub rests : IsBetweenCalls new
  pub ticker : new.ticker ≡ old.ticker
  pub made : new.made ≡ old.made
  pub timers : timers_applied new ≡ timers_applied old
  pub begun : new.begun ≡ after_begun old.begun (length (arms_told (arms_at dir h (side_held dir h))))
  pub tags : tags new.sources ≡ tags old.sources
