-- A source that is read to its end.
use Rattle.std.specs.Prelude.{◌≡◌, ℕ, Result, Ok, Err}
use Rattle.react_core.specs.Told.{Rose}
use Rattle.bus_open.specs.declared.whole.ReadError.{ReadError}
use Rattle.bus_open.specs.declared.whole.ReadError.TheVariants as error

-- The reading failed exactly where the count of faults rose.
abbrev pub CountsReadAll : {T : Type 0} → ℕ → ℕ → Result T ReadError → Type 0
CountsReadAll before now (Ok v) = now ≡ before
CountsReadAll before now (Err error.Failed) = Rose before now
CountsReadAll before now (Err error.OutOfMemory) = now ≡ before
