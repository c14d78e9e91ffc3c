-- Which counts of faults a session's ending shows, whether the outside tells its record or not.
use Rattle.std.specs.Prelude.{ℕ, ◌+◌, List, [], ◌∷◌}
use Rattle.react_core.specs.Outer.{Outer}
use Rattle.bus_session.specs.declared.ended.Ended.{Ended}
use Rattle.bus_visit.specs.Faults.{EndingCounted}

abbrev pub EndedsCounted : {Origin : Type 0} → ℕ → List Ended → Outer Origin → Outer Origin → Type 0
EndedsCounted wire [] before after = Unit {0}
-- the first of them is that of this wire
EndedsCounted wire (e ∷ endeds) before after =
    EndingCounted wire e.ending before after × EndedsCounted (wire + 1) endeds before after
