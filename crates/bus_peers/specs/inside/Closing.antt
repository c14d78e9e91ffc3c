-- The removals at the end, by the sources that are left.
use Rattle.std.specs.Prelude.{ℕ, zero, suc, ◌+◌, true, ◌==◌, if◌then◌else◌, List, [], ◌∷◌, ◌++◌}
use Rattle.react_core.specs.declared.outside.Event.{Event}
use Rattle.react_core.specs.declared.outside.Event.TheVariants as event
use Rattle.bus_visit.specs.Registry.{Held}

-- these many numbers from one on
abbrev pub counting : ℕ → ℕ → List ℕ
counting zero from = []
counting (suc n) from = from ∷ counting n (from + 1)

-- the removals at the end, in the order of the sessions
abbrev pub removals_of : List Held → ℕ → List Event
removals_of [] wire = []
removals_of (h ∷ held) wire = if h.wire == wire then event.Delete h.wire h.key true ∷ [] else removals_of held wire

abbrev pub closing : ℕ → ℕ → List Held → List Event
closing zero from held = []
closing (suc n) from held = removals_of held from ++ closing n (from + 1) held
