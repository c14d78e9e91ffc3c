-- What holds of the steps that were taken, whichever parties took them.
use Rattle.std.specs.Prelude.{◌≡◌, ℕ, List, [], ◌∷◌, Some, map, take, length, slice_get, reverse}
use Rattle.react_steps.specs.declared.kind.Kind.{Kind}
use Rattle.react_steps.specs.declared.kind.StepError.{StepError}
use Rattle.react_steps.specs.declared.kind.StepError.TheVariants.{Disabled, OutOfMemory}
use Rattle.react_steps.specs.declared.kind.Taken.{Taken}
use Rattle.react_steps.specs.World.{World, idle, Step, IsDisabled}

-- a world, and the steps that were taken before, the first first
pub record Past : Type 0 where
  pub world : World
  pub history : List Taken

-- these steps, the last first, lead from the idle world to this one
abbrev pub Run : List Taken → World → Type 0
Run [] world = world ≡ idle
Run (t ∷ earlier) world = (old : World) × Step old t.kind t.answer t.woken world × Run earlier old

abbrev pub kinds_of : List Taken → List Kind
kinds_of history = map (λ t. t.kind) history

-- steps of these kinds lead from the idle world to this one
abbrev pub Leads : List Kind → World → Type 0
Leads kinds world = (history : List Taken) × (kinds_of history ≡ kinds) × Run (reverse history) world

-- the kinds before the one at this index lead to a world in which no step of that one may be taken
pub record IsDisabledAt (kinds : List Kind) (index : ℕ) : Type 0 where
  pub world : World
  pub kind : Kind
  pub before : Leads (take index kinds) world
  pub there : slice_get kinds index ≡ Some kind
  pub disabled : IsDisabled world kind

-- why a list of kinds was refused
abbrev pub IsRefused : List Kind → StepError → Type 0
IsRefused kinds (Disabled index) = IsDisabledAt kinds index
IsRefused kinds OutOfMemory = Unit {0}

-- why one more step was refused
abbrev pub IsRefusedNext : Past → Kind → StepError → Type 0
IsRefusedNext past kind (Disabled index) = record {
  index : index ≡ length past.history;
  before : Run (reverse past.history) past.world;
  disabled : IsDisabled past.world kind;
}
IsRefusedNext past kind OutOfMemory = Unit {0}
