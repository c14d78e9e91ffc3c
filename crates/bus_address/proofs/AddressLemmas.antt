-- A whole address that is read.
use Rattle.std.proofs.Common.{◌≡◌, ℕ, List, length, Option, Some, None, Result, Err, ap, ◌∙◌, subst}
use mathlib.Core.Path.{fun_ext}
use Rattle.std.specs.Prelude.{IsSomeAnd, ok_or}
use Rattle.bus_address.specs.declared.error.AddressKind.{AddressKind}
use Rattle.bus_address.specs.declared.error.AddressKind.TheVariants as kinds
use Rattle.bus_address.specs.declared.error.AddressError.{AddressError}
use Rattle.bus_address.specs.declared.error.AddressError.TheVariants as errors
use Rattle.bus_address.specs.Errors.{◌>>=◌, Refuses, Gives}
use Rattle.bus_address.specs.Address.{AddressParts}
use Rattle.bus_address.specs.Entries.{Entry, entries, transport_and_rest, value_of}
use Rattle.bus_address.specs.Reading.{Lookup, address_with, address_of, address}

-- what is refused by one definition is refused by another that passes its refusals on
pub refused_too : {X Y : Type 0} (e : AddressError) (part : Result X AddressKind) (whole : Result Y AddressKind)
    → ((kind : AddressKind) → part ≡ Err kind → whole ≡ Err kind) → Refuses e part → Refuses e whole
refused_too (errors.Kind k) part whole passes h = passes k h
refused_too errors.OutOfMemory part whole passes h = tt

with_entries : (name : List ℕ) (len : ℕ) (read : Option (List Entry)) (value : Lookup)
    → IsSomeAnd read (λ es. (key : List ℕ) → value key ≡ value_of es key)
    → address_with name len value ≡ (ok_or read kinds.Form >>= λ es. address_with name len (value_of es))
with_entries name len None value none = absurd none
with_entries name len (Some es) value same = ap (address_with name len) (fun_ext same)

pub address_is : (text name rest : List ℕ) (value : Lookup) → Some (name, rest) ≡ transport_and_rest text
    → IsSomeAnd (entries rest) (λ es. (key : List ℕ) → value key ≡ value_of es key)
    → address_with name (length text) value ≡ address text
address_is text name rest value cut read =
    with_entries name (length text) (entries rest) value read ∙ ap (λ o. ok_or o kinds.Form >>= address_of (length text)) cut

pub gives_address : (text name rest : List ℕ) (len : ℕ) (value : Lookup) (answer : Result AddressParts AddressError)
    → Some (name, rest) ≡ transport_and_rest text
    → IsSomeAnd (entries rest) (λ es. (key : List ℕ) → value key ≡ value_of es key) → len ≡ length text
    → Gives answer (address_with name len value) → Gives answer (address text)
gives_address text name rest len value answer cut read len_is given =
    let P : Result AddressParts AddressKind → Type 0 = λ said. Gives answer said in
    subst P (ap (λ n. address_with name n value) len_is ∙ address_is text name rest value cut read) given
