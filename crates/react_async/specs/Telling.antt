-- How often a poll asks a wire, by what is told.
use Rattle.std.specs.Prelude.{◌≡◌, Bool, true, false, IsTrue, filter, List, [], ◌∷◌, Option}
use Rattle.react_core.specs.declared.outside.Event.{Event}
use Rattle.react_core.specs.declared.outside.Event.TheVariants as event
use Rattle.react_core.specs.Told.{told}

-- a read or a write
abbrev pub asks_wire : Event → Bool
asks_wire (event.Dial wire question answer) = false
asks_wire (event.Recv wire asked answer) = true
asks_wire (event.Send wire offered answer) = true
asks_wire (event.Close wire) = false
asks_wire (event.Now moment) = false
asks_wire (event.Add wire key ok) = false
asks_wire (event.Modify wire key read write ok) = false
asks_wire (event.Delete wire key ok) = false
asks_wire (event.Notify ok) = false
asks_wire (event.Wait timeout answer) = false

-- at most two; a second one only after these, where the direction is ready
abbrev pub AtMostTwice : Bool → List Event → List Event → Type 0
AtMostTwice ready first [] = Unit {0}
AtMostTwice ready first (e ∷ []) = Unit {0}
AtMostTwice ready first (e ∷ f ∷ []) = (e ∷ [] ≡ first) × IsTrue ready
AtMostTwice ready first (e ∷ f ∷ g ∷ more) = ⊥

-- the wire is asked at most twice between these records, the second time only after these events, where the direction
-- is ready
abbrev pub AsksAtMostTwice : Bool → List Event → Option (List Event) → Option (List Event) → Type 0
AsksAtMostTwice ready first before after =
    (gained : List Event) × (after ≡ told before gained) × AtMostTwice ready first (filter asks_wire gained)
