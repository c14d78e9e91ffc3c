-- When each refusal comes, and what is told then.
use Rattle.std.specs.Prelude.{◌≡◌, ℕ, true, false, List, [], ◌∷◌, Option, Some, None, Result, Ok, Err}
use Rattle.react_core.specs.declared.outside.Event.{Event}
use Rattle.react_core.specs.declared.outside.Event.TheVariants as event
use Rattle.react_core.specs.declared.outside.Fault.{Fault}
use Rattle.react_core.specs.declared.outside.Fault.TheVariants as fault
use Rattle.react_core.specs.declared.reactor.ReactError.{ReactError}
use Rattle.react_core.specs.declared.reactor.ReactError.TheVariants.{Poller, OutOfMemory, Exhausted}
use Rattle.react_core.specs.Places.{Source}
use Rattle.react_core.specs.Core.{Core}
use Rattle.react_core.specs.Sources.{source_of}
use Rattle.react_core.specs.Told.{Rose, told}

abbrev pub react_error : Fault → ReactError
react_error fault.Failed = Poller
react_error fault.OutOfMemory = OutOfMemory

-- the answer is Poller exactly where this count rose; the call needs no number, so none is exhausted
abbrev pub ReactCounted : {T : Type 0} → Result T ReactError → ℕ → ℕ → Type 0
ReactCounted (Ok v) before now = now ≡ before
ReactCounted (Err Poller) before now = Rose before now
ReactCounted (Err OutOfMemory) before now = now ≡ before
ReactCounted (Err (Exhausted counter value)) before now = ⊥

-- what holds where the answer is want of memory
abbrev pub OnReactLack : {T : Type 0} → Result T ReactError → Type 0 → Type 0
OnReactLack (Ok v) P = Unit {0}
OnReactLack (Err Poller) P = Unit {0}
OnReactLack (Err OutOfMemory) P = P
OnReactLack (Err (Exhausted counter value)) P = Unit {0}

-- what an insertion of this wire told: one registration under the new key; where the poller failed, one under some key
-- that had no source
abbrev pub InsertTold : Core → ℕ → Result ℕ ReactError → Option (List Event) → Option (List Event) → Type 0
InsertTold core wire (Ok key) before after = after ≡ told before (event.Add wire key true ∷ [])
InsertTold core wire (Err Poller) before after =
    (key : ℕ) × (source_of core.sources key ≡ None) × (after ≡ told before (event.Add wire key false ∷ []))
InsertTold core wire (Err OutOfMemory) before after = after ≡ before
InsertTold core wire (Err (Exhausted counter value)) before after = ⊥

-- what the removal of this source under the key told: one deregistration
abbrev pub RemoveTold : {T : Type 0} → Option Source → ℕ → Result T ReactError → Option (List Event) →
    Option (List Event) → Type 0
RemoveTold None key answer before after = ⊥
RemoveTold (Some s) key (Ok v) before after = after ≡ told before (event.Delete s.wire key true ∷ [])
RemoveTold (Some s) key (Err Poller) before after = after ≡ told before (event.Delete s.wire key false ∷ [])
RemoveTold (Some s) key (Err OutOfMemory) before after = after ≡ before
RemoveTold (Some s) key (Err (Exhausted counter value)) before after = ⊥
