-- What calls answer that make a bus name, or take one apart.
use Rattle.std.specs.Prelude.{◌≡◌, ℕ, List, Result, Ok, Err, codes}
use Rattle.bus_names.specs.ValidNames.{IsBusName, IsUniqueName, IsWellKnownName}
use Rattle.bus_names.specs.Refusals.{no_bus}
use Rattle.bus_names.specs.declared.error.Error.{Error}
use Rattle.bus_names.specs.declared.error.Error.TheVariants.{InvalidName, InvalidNameConversion, OutOfMemory}
use Rattle.bus_names.specs.declared.bus_name.BusName.{BusName}
use Rattle.bus_names.specs.declared.bus_name.BusName.TheVariants.{Unique, WellKnown}
use Rattle.bus_names.specs.declared.bus_name.OwnedBusName.{OwnedBusName}
use Rattle.bus_names.specs.declared.bus_name.OwnedBusName.TheVariants as owned

-- the text, whatever the kind
abbrev pub text_of : BusName → List ℕ
text_of (Unique text) = text
text_of (WellKnown text) = text

-- the bus name that has the kind and the text of an owned one
abbrev pub lent : OwnedBusName → BusName
lent (owned.Unique text) = Unique text
lent (owned.WellKnown text) = WellKnown text

-- the owned bus name that has the kind and the text of a lent one
abbrev pub owned_of : BusName → OwnedBusName
owned_of (Unique text) = owned.Unique text
owned_of (WellKnown text) = owned.WellKnown text

-- the bus name where the text is one, unique where it can be, else the refusal
abbrev pub ReadsBus : List ℕ → Result BusName Error → Type 0
ReadsBus text (Ok (Unique name)) = (name ≡ text) × IsUniqueName text
ReadsBus text (Ok (WellKnown name)) = (name ≡ text) × IsWellKnownName text × ¬ IsUniqueName text
ReadsBus text (Err (InvalidName why)) = (why.now ≡ no_bus text) × ¬ IsBusName text
ReadsBus text (Err (InvalidNameConversion from to)) = ⊥
ReadsBus text (Err OutOfMemory) = ⊥

-- the same of a text that is given away
abbrev pub TakesBus : List ℕ → Result OwnedBusName Error → Type 0
TakesBus text (Ok (owned.Unique name)) = (name ≡ text) × IsUniqueName text
TakesBus text (Ok (owned.WellKnown name)) = (name ≡ text) × IsWellKnownName text × ¬ IsUniqueName text
TakesBus text (Err (InvalidName why)) = (why.now ≡ no_bus text) × ¬ IsBusName text
TakesBus text (Err (InvalidNameConversion from to)) = ⊥
TakesBus text (Err OutOfMemory) = ⊥

-- the same of a text that is copied, which only a bus name is
abbrev pub CopiesBus : List ℕ → Result OwnedBusName Error → Type 0
CopiesBus text (Ok (owned.Unique name)) = (name ≡ text) × IsUniqueName text
CopiesBus text (Ok (owned.WellKnown name)) = (name ≡ text) × IsWellKnownName text × ¬ IsUniqueName text
CopiesBus text (Err (InvalidName why)) = (why.now ≡ no_bus text) × ¬ IsBusName text
CopiesBus text (Err (InvalidNameConversion from to)) = ⊥
CopiesBus text (Err OutOfMemory) = IsBusName text

-- a name of the kind `from` was asked for as one of the kind `to`
abbrev pub IsConversion : List ℕ → List ℕ → Error → Type 0
IsConversion from to (InvalidName why) = ⊥
IsConversion from to (InvalidNameConversion f t) = (f.now ≡ from) × (t.now ≡ to)
IsConversion from to OutOfMemory = ⊥

-- the unique name in a bus name
abbrev pub GivesUnique : BusName → Result (List ℕ) Error → Type 0
GivesUnique (Unique text) (Ok name) = name ≡ text
GivesUnique (Unique text) (Err e) = ⊥
GivesUnique (WellKnown text) (Ok name) = ⊥
GivesUnique (WellKnown text) (Err e) = IsConversion (codes "WellKnownName") (codes "UniqueName") e

-- the well-known name in a bus name
abbrev pub GivesWellKnown : BusName → Result (List ℕ) Error → Type 0
GivesWellKnown (Unique text) (Ok name) = ⊥
GivesWellKnown (Unique text) (Err e) = IsConversion (codes "UniqueName") (codes "WellKnownName") e
GivesWellKnown (WellKnown text) (Ok name) = name ≡ text
GivesWellKnown (WellKnown text) (Err e) = ⊥
