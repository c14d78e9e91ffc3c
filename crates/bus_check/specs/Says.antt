-- What is said of a text that is to be of some kind: whether it is, and the line that tells it.
use Rattle.std.specs.Prelude.{◌≡◌, ◌⊎◌, ℕ, Bool, true, false, List, ◌++◌, length, Ok, Err, codes}
use Rattle.std.specs.Fmt.{decimal}
use Rattle.bus_signature.specs.declared.signature.Signature.{Signature}
use Rattle.bus_signature.specs.Grammar.{Spells, SpellsNone}
use Rattle.bus_signature.specs.Measures.{alignment}
use Rattle.bus_signature.specs.Texts as signatures
use Rattle.bus_names.specs.ValidNames.{IsBusName, IsUniqueName, IsWellKnownName, IsInterfaceName}
use Rattle.bus_names.specs.ValidNames.{IsMemberName, IsPropertyName, IsErrorName}
use Rattle.bus_address.specs.declared.error.AddressKind.{AddressKind}
use Rattle.bus_address.specs.Address.{AddressParts, says}
use Rattle.bus_address.specs.Errors.{kind_name}
use Rattle.bus_address.specs.Reading.{address}
use Rattle.bus_check.specs.declared.kind.Kind.{Kind}
use Rattle.bus_check.specs.declared.kind.Kind.TheVariants as kind

-- the line of a refused text names the refusal
abbrev pub refused_line : List ℕ → List ℕ
refused_line why = codes "refused " ++ why ++ codes "\n"

-- a signature's line has its text, the text's length and the alignment of a value
abbrev pub signature_line : Signature → List ℕ
signature_line s =
    codes "ok " ++ signatures.text s ++ codes " " ++ decimal (length (signatures.text s)) ++ codes " "
    ++ decimal (alignment s) ++ codes "\n"

-- (D-Bus specification, Type System)
abbrev pub SignatureSays : List ℕ → Bool → List ℕ → Type 0
SignatureSays text true line = (s : Signature) × Spells text s × (line ≡ signature_line s)
SignatureSays text false line = SpellsNone text × (line ≡ refused_line (codes "InvalidSignature"))

-- (D-Bus specification, Server Addresses)
abbrev pub AddressSays : List ℕ → Bool → List ℕ → Type 0
AddressSays text true line = (a : AddressParts) × (address text ≡ Ok a) × (line ≡ codes "ok " ++ says a ++ codes "\n")
AddressSays text false line = (why : AddressKind) × (address text ≡ Err why) × (line ≡ refused_line (kind_name why))

-- a name of the kind that this relation says (D-Bus specification, Valid Names)
abbrev pub NameSays : (List ℕ → Type 0) → List ℕ → Bool → List ℕ → Type 0
NameSays IsName text true line = IsName text × (line ≡ codes "ok\n")
NameSays IsName text false line = (¬ IsName text) × (line ≡ refused_line (codes "InvalidName"))

-- a bus name is unique where it can be
abbrev pub BusNameSays : List ℕ → Bool → List ℕ → Type 0
BusNameSays text true line =
    (IsUniqueName text × (line ≡ codes "ok unique\n"))
    ⊎ (IsWellKnownName text × (¬ IsUniqueName text) × (line ≡ codes "ok well-known\n"))
BusNameSays text false line = (¬ IsBusName text) × (line ≡ refused_line (codes "InvalidName"))

abbrev pub Says : Kind → List ℕ → Bool → List ℕ → Type 0
Says kind.Signature text accepted line = SignatureSays text accepted line
Says kind.Address text accepted line = AddressSays text accepted line
Says kind.BusName text accepted line = BusNameSays text accepted line
Says kind.UniqueName text accepted line = NameSays IsUniqueName text accepted line
Says kind.WellKnownName text accepted line = NameSays IsWellKnownName text accepted line
Says kind.InterfaceName text accepted line = NameSays IsInterfaceName text accepted line
Says kind.MemberName text accepted line = NameSays IsMemberName text accepted line
Says kind.PropertyName text accepted line = NameSays IsPropertyName text accepted line
Says kind.ErrorName text accepted line = NameSays IsErrorName text accepted line
