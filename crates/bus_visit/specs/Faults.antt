-- Which counts of faults an ending, a dialling and a visit show, whether the outside tells its record or not.
use Rattle.std.specs.Prelude.{◌≡◌, ◌⊎◌, ℕ, true, Option, Some, None}
use Rattle.react_core.specs.Outer.{Outer}
use Rattle.react_core.specs.Told.{Rose}
use Rattle.bus_session.specs.declared.ended.Ending.{Ending}
use Rattle.bus_session.specs.declared.ended.Ending.TheVariants as ending
use Rattle.bus_visit.specs.declared.dialling.Dialled.{Dialled}
use Rattle.bus_visit.specs.declared.dialling.Dialled.TheVariants as dialled
use Rattle.bus_visit.specs.Conversed.{is_awake}
use Rattle.bus_visit.specs.declared.visiting.Slot.{Slot}
use Rattle.bus_visit.specs.declared.visiting.Slot.TheVariants as slot

-- The ending of a wire's session is Connection only where the count of its dialling rose, and Io only where that or
-- the count of the wire itself did.
abbrev pub EndingCounted : {Origin : Type 0} → ℕ → Ending → Outer Origin → Outer Origin → Type 0
EndingCounted wire (ending.Open guid cap_unix_fd) before after = Unit {0}
EndingCounted wire (ending.Address reason) before after = Unit {0}
EndingCounted wire ending.Unsupported before after = Unit {0}
EndingCounted wire ending.Connection before after = Rose (before.dial_faults wire) (after.dial_faults wire)
EndingCounted wire ending.Io before after =
    Rose (before.dial_faults wire) (after.dial_faults wire) ⊎ Rose (before.wire_faults wire) (after.wire_faults wire)
EndingCounted wire ending.Handshake before after = Unit {0}
EndingCounted wire ending.LineTooLong before after = Unit {0}
EndingCounted wire ending.TooManyCommands before after = Unit {0}
EndingCounted wire ending.TimedOut before after = Unit {0}
EndingCounted wire ending.Waiting before after = Unit {0}

-- the ending that a dialling came to: the session doesn't wait, and the counts show it
abbrev pub DialCounted : {Origin : Type 0} → ℕ → Dialled → Outer Origin → Outer Origin → Type 0
DialCounted wire (dialled.Opened w) before after = Unit {0}
DialCounted wire (dialled.Failed e) before after = (is_awake e ≡ true) × EndingCounted wire e before after

-- the ending that came, if one did
abbrev pub OverCounted : {Origin : Type 0} → ℕ → Option Ending → Outer Origin → Outer Origin → Type 0
OverCounted wire None before after = Unit {0}
OverCounted wire (Some e) before after = EndingCounted wire e before after

abbrev pub SlotCounted : {Origin : Type 0} → ℕ → Slot → Outer Origin → Outer Origin → Type 0
SlotCounted wire (slot.Ended e) before after = EndingCounted wire e.ending before after
SlotCounted wire (slot.Asleep s) before after = Unit {0}
SlotCounted wire slot.Refused before after = Unit {0}
