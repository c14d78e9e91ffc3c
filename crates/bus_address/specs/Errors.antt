-- What a call answers where a definition says a value or a kind of refusal.
use Rattle.std.specs.Prelude.{◌≡◌, ⊤, Result, Ok, Err, codes, List, ℕ}
use Rattle.bus_address.specs.declared.error.AddressKind.{AddressKind}
use Rattle.bus_address.specs.declared.error.AddressKind.TheVariants as kinds
use Rattle.bus_address.specs.declared.error.AddressError.{AddressError}
use Rattle.bus_address.specs.declared.error.AddressError.TheVariants as errors

-- the refusal is the one that is said; want of memory says nothing
abbrev pub Refuses : {Y : Type 0} → AddressError → Result Y AddressKind → Type 0
Refuses (errors.Kind kind) said = said ≡ Err kind
Refuses errors.OutOfMemory said = ⊤

-- the answer is the value, as `view` sees it, or the refusal that is said
abbrev pub GivesBy : {X Y : Type 0} → (X → Y) → Result X AddressError → Result Y AddressKind → Type 0
GivesBy view (Ok x) said = said ≡ Ok (view x)
GivesBy view (Err e) said = Refuses e said

-- the answer is the value or the refusal that is said
abbrev pub Gives : {X : Type 0} → Result X AddressError → Result X AddressKind → Type 0
Gives answer said = GivesBy (λ x. x) answer said

-- the name of a kind
abbrev pub kind_name : AddressKind → List ℕ
kind_name kinds.Form = codes "Form"
kind_name kinds.BadGuid = codes "BadGuid"
kind_name kinds.UnknownTransport = codes "UnknownTransport"
kind_name kinds.Keys = codes "Keys"
kind_name kinds.MissingPath = codes "MissingPath"
kind_name kinds.Bind = codes "Bind"
kind_name kinds.MissingHost = codes "MissingHost"
kind_name kinds.MissingPort = codes "MissingPort"
kind_name kinds.BadPort = codes "BadPort"
kind_name kinds.BadFamily = codes "BadFamily"
kind_name kinds.MissingNonceFile = codes "MissingNonceFile"
kind_name kinds.BadEscape = codes "BadEscape"
kind_name kinds.HostText = codes "HostText"

-- the number of a kind
abbrev pub kind_number : AddressKind → ℕ
kind_number kinds.Form = 1
kind_number kinds.BadGuid = 2
kind_number kinds.UnknownTransport = 3
kind_number kinds.Keys = 4
kind_number kinds.MissingPath = 5
kind_number kinds.Bind = 6
kind_number kinds.MissingHost = 7
kind_number kinds.MissingPort = 8
kind_number kinds.BadPort = 9
kind_number kinds.BadFamily = 10
kind_number kinds.MissingNonceFile = 11
kind_number kinds.BadEscape = 12
kind_number kinds.HostText = 13

-- a value goes on, and a refusal stays
infixl 10 ◌>>=◌
abbrev pub ◌>>=◌ : {X Y : Type 0} → Result X AddressKind → (X → Result Y AddressKind) → Result Y AddressKind
(Ok x) >>= next = next x
(Err kind) >>= next = Err kind
