-- Counts of faults over a longer stretch.
use Rattle.std.proofs.Common.{◌≡◌, ◌≤◌, inl, inr, ℕ, arith}
use Rattle.react_core.specs.Outer.{Outer, Keeps}
use Rattle.react_core.specs.Outer as part
use Rattle.react_core.specs.Told.{Rose}
use Rattle.bus_session.specs.declared.ended.Ending.{Ending}
use Rattle.bus_session.specs.declared.ended.Ending.TheVariants as ending
use Rattle.bus_visit.specs.declared.visiting.Slot.{Slot}
use Rattle.bus_visit.specs.declared.visiting.Slot.TheVariants as slot
use Rattle.bus_visit.specs.Faults.{EndingCounted, SlotCounted}

-- ---- a count that rose, over a longer stretch

pub rose-within : (a b c d : ℕ) → a ≤ b → c ≤ d → Rose b c → Rose a d
rose-within a b c d low high rose = omega (arith, low, high, rose)

pub rose-rises : (a b : ℕ) → Rose a b → a ≤ b
rose-rises a b rose = omega (arith, rose)

-- a count that stood
pub same-rises : (a b : ℕ) → b ≡ a → a ≤ b
same-rises a b same = omega (arith, same)

module _ {Origin : Type 0} where
  -- neither count of this wire fell
  pub record Rises (wire : ℕ) (a b : Outer Origin) : Type 0 where
    pub wires : a.wire_faults wire ≤ b.wire_faults wire
    pub dials : a.dial_faults wire ≤ b.dial_faults wire

  pub rises-same : (wire : ℕ) (a : Outer Origin) → Rises wire a a
  rises-same wire a = record { wires = omega arith; dials = omega arith }

  pub rises-visit : (wire : ℕ) (a b : Outer Origin) → Keeps (part.Visit wire) a b → Rises wire a b
  rises-visit wire a b k = record { wires = k.wires.1; dials = k.dials.1 }

  pub ending-within : (wire : ℕ) (e : Ending) (a b c d : Outer Origin) → Rises wire a b → Rises wire c d →
      EndingCounted wire e b c → EndingCounted wire e a d
  ending-within wire (ending.Open guid cap_unix_fd) a b c d low high counted = tt
  ending-within wire (ending.Address reason) a b c d low high counted = tt
  ending-within wire ending.Unsupported a b c d low high counted = tt
  ending-within wire ending.Connection a b c d low high counted = rose-within _ _ _ _ low.dials high.dials counted
  ending-within wire ending.Io a b c d low high (inl counted) = inl (rose-within _ _ _ _ low.dials high.dials counted)
  ending-within wire ending.Io a b c d low high (inr counted) = inr (rose-within _ _ _ _ low.wires high.wires counted)
  ending-within wire ending.Handshake a b c d low high counted = tt
  ending-within wire ending.LineTooLong a b c d low high counted = tt
  ending-within wire ending.TooManyCommands a b c d low high counted = tt
  ending-within wire ending.TimedOut a b c d low high counted = tt
  ending-within wire ending.Waiting a b c d low high counted = tt

  pub slot-within : (wire : ℕ) (s : Slot) (a b c d : Outer Origin) → Rises wire a b → Rises wire c d →
      SlotCounted wire s b c → SlotCounted wire s a d
  slot-within wire (slot.Ended e) a b c d low high counted = ending-within wire e.ending a b c d low high counted
  slot-within wire (slot.Asleep s) a b c d low high counted = tt
  slot-within wire slot.Refused a b c d low high counted = tt
