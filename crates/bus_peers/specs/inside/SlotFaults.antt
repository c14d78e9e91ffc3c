-- Which counts of faults the slots of a call, and its steps, show.
use Rattle.std.specs.Prelude.{◌≡◌, ◌≤◌, ℕ, ◌+◌, List, [], ◌∷◌, Result, Ok, Err}
use Rattle.react_core.specs.Outer.{Outer, NoneFalls}
use Rattle.react_core.specs.Told.{Rose}
use Rattle.bus_visit.specs.declared.visiting.Slot.{Slot}
use Rattle.bus_peers.specs.declared.open.OpenError.{OpenError}
use Rattle.bus_peers.specs.declared.open.OpenError.TheVariants as open_err
use Rattle.bus_visit.specs.Faults.{SlotCounted}

-- the first of these slots is that of this wire
abbrev pub AllCounted : {Origin : Type 0} → ℕ → List Slot → Outer Origin → Outer Origin → Type 0
AllCounted wire [] before after = Unit {0}
AllCounted wire (c ∷ slots) before after = SlotCounted wire c before after × AllCounted (wire + 1) slots before after

-- no count of a wire or of its dialling fell
pub record NoneFell {Origin : Type 0} (before after : Outer Origin) : Type 0 where
  pub wires : NoneFalls before.wire_faults after.wire_faults
  pub dials : NoneFalls before.dial_faults after.dial_faults

-- whatever the call began with: where the slots were counted from its start to the first moment, those now are to
-- the second
abbrev pub CountsOn : {Origin : Type 0} → List Slot → List Slot → Outer Origin → Outer Origin → Type 0
CountsOn {Origin} slots slots' old new =
    (start : Outer Origin) → NoneFell start old → AllCounted 0 slots start old → AllCounted 0 slots' start new

-- Visits and removals need no round's number, and the answer is Poller only where the poller's count rose.
abbrev pub VisitsCounted : {T : Type 0} → Result T OpenError → ℕ → ℕ → Type 0
VisitsCounted (Ok v) before now = now ≡ before
VisitsCounted (Err open_err.Poller) before now = Rose before now
VisitsCounted (Err open_err.OutOfMemory) before now = before ≤ now
VisitsCounted (Err (open_err.Exhausted c value)) before now = ⊥
