-- A text that is printed of one run alone.
use Rattle.std.specs.Prelude.{◌≡◌, ℕ, List}
use Rattle.react_core.specs.declared.outside.Event.{Event}
use Rattle.bus_session.specs.declared.ended.Ended.{Ended}
use Rattle.bus_script.specs.Printed.{printed}
use Rattle.bus_printed.specs.Fits.{Fits}

-- These endings and this record fit, and of all that fit, no others are printed as this text.
pub record Names (text : List ℕ) (endeds : List Ended) (events : List Event) : Type 0 where
  pub fits : Fits endeds events
  pub alone : (endeds' : List Ended) (events' : List Event) → Fits endeds' events' → printed endeds' events' ≡ text →
      (endeds' ≡ endeds) × (events' ≡ events)
