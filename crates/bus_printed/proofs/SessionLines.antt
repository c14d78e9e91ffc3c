-- The words of an ending say that ending.
use Rattle.std.proofs.Common.{◌≡◌, ℕ, ◌^◌, ◌<◌, Bool, true, false, List, [], ◌∷◌, ◌++◌, Ok, refl, arith, codes, nat_lt}
use Rattle.std.proofs.Common.{length, ◌==◌}
use Rattle.std.specs.Prelude.{IsTrue}
use Rattle.std.specs.List.{list_all}
use Rattle.std.proofs.lemmas.Bool.{and_parts}
use Rattle.bus_address.specs.Guid.{is_guid, is_lower_hexdigit}
use Rattle.bus_address.specs.declared.error.AddressKind.{AddressKind}
use Rattle.bus_address.specs.declared.error.AddressKind.TheVariants as kinds
use Rattle.bus_session.specs.declared.ended.AddressReason.{AddressReason}
use Rattle.bus_session.specs.declared.ended.AddressReason.TheVariants as address_reason
use Rattle.bus_session.specs.declared.ended.Ending.{Ending}
use Rattle.bus_session.specs.declared.ended.Ending.TheVariants as endings
use Rattle.bus_session.specs.declared.ended.Ended.{Ended}
use Rattle.bus_script.specs.Words.{parts_of}
use Rattle.bus_script.specs.Printed.{flag_word, ending_word, ended_words}
use Rattle.bus_printed.specs.Fits.{FitsEnding, FitsEnded}
use Rattle.bus_printed.proofs.Cuts.{lacks, parts_joined, all_both}
use Rattle.bus_printed.proofs.Readers.{kind_of, address_of, ending_named, ending_parts, ending_of, session_of, ended_of}
use Rattle.bus_printed.proofs.Rereads.{graphic, graphic_hex, graphic_bytes, graphic_decimal, graphic_number}
use Rattle.bus_printed.proofs.Rereads.{graphic_flag}
use Rattle.bus_printed.proofs.Rereads.{colonless_hex, number_read, bytes_read, flag_read, moment_read}

-- ---- a connection that stands

guid_digits : (guid : List ℕ) → IsTrue (is_guid guid) → list_all is_lower_hexdigit guid ≡ true
guid_digits guid h = (and_parts (length guid == 32) (list_all is_lower_hexdigit guid) (grind arith)).1

colonless_flag : (b : Bool) → lacks 58 (flag_word b) ≡ true
colonless_flag true = refl
colonless_flag false = refl

open_parts : (guid : List ℕ) (passes : Bool) → IsTrue (is_guid guid) →
    parts_of 58 (ending_word (endings.Open guid passes)) ≡ codes "open" ∷ guid ∷ flag_word passes ∷ []
open_parts guid passes h =
    let rest : list_all (lacks 58) (guid ∷ flag_word passes ∷ []) ≡ true =
    rw (colonless_hex guid (guid_digits guid h), colonless_flag passes) refl in
    parts_joined 58 (codes "open") (guid ∷ flag_word passes ∷ []) refl rest

graphic_open : (guid : List ℕ) (passes : Bool) → graphic guid ≡ true →
    graphic (ending_word (endings.Open guid passes)) ≡ true
graphic_open guid passes h =
    all_both (λ c. nat_lt 32 c) (codes "open:") (guid ++ 58 ∷ flag_word passes) refl
    (all_both (λ c. nat_lt 32 c) guid (58 ∷ flag_word passes) h (graphic_flag passes))

-- ---- an address that leads nowhere

-- the ending of a client whose address has this text
abbrev wrong : AddressKind → Ending
wrong kind = endings.Address (address_reason.Text kind)

wrong_read : (kind : AddressKind) → ending_of (ending_word (wrong kind)) ≡ Ok (wrong kind)
unfolding ending_of ending_parts address_of kind_of
wrong_read kinds.Form = refl
wrong_read kinds.BadGuid = refl
wrong_read kinds.UnknownTransport = refl
wrong_read kinds.Keys = refl
wrong_read kinds.MissingPath = refl
wrong_read kinds.Bind = refl
wrong_read kinds.MissingHost = refl
wrong_read kinds.MissingPort = refl
wrong_read kinds.BadPort = refl
wrong_read kinds.BadFamily = refl
wrong_read kinds.MissingNonceFile = refl
wrong_read kinds.BadEscape = refl
wrong_read kinds.HostText = refl

address_read : (reason : AddressReason) →
    ending_of (ending_word (endings.Address reason)) ≡ Ok (endings.Address reason)
unfolding ending_of ending_parts address_of
address_read (address_reason.Text kind) = wrong_read kind
address_read address_reason.IbusFailed = refl
address_read address_reason.NoAddress = refl

graphic_wrong : (kind : AddressKind) → graphic (ending_word (wrong kind)) ≡ true
graphic_wrong kinds.Form = refl
graphic_wrong kinds.BadGuid = refl
graphic_wrong kinds.UnknownTransport = refl
graphic_wrong kinds.Keys = refl
graphic_wrong kinds.MissingPath = refl
graphic_wrong kinds.Bind = refl
graphic_wrong kinds.MissingHost = refl
graphic_wrong kinds.MissingPort = refl
graphic_wrong kinds.BadPort = refl
graphic_wrong kinds.BadFamily = refl
graphic_wrong kinds.MissingNonceFile = refl
graphic_wrong kinds.BadEscape = refl
graphic_wrong kinds.HostText = refl

graphic_address : (reason : AddressReason) → graphic (ending_word (endings.Address reason)) ≡ true
graphic_address (address_reason.Text kind) = graphic_wrong kind
graphic_address address_reason.IbusFailed = refl
graphic_address address_reason.NoAddress = refl

-- ---- endings

ending_read : (e : Ending) → FitsEnding e → ending_of (ending_word e) ≡ Ok e
unfolding ending_of ending_parts ending_named
ending_read (endings.Open guid passes) h = rw (open_parts guid passes h, flag_read passes) refl
ending_read (endings.Address reason) h = address_read reason
ending_read endings.Unsupported h = refl
ending_read endings.Connection h = refl
ending_read endings.Io h = refl
ending_read endings.Handshake h = refl
ending_read endings.LineTooLong h = refl
ending_read endings.TooManyCommands h = refl
ending_read endings.TimedOut h = refl
ending_read endings.Waiting h = refl

graphic_ending : (e : Ending) → FitsEnding e → graphic (ending_word e) ≡ true
graphic_ending (endings.Open guid passes) h = graphic_open guid passes (graphic_hex guid (guid_digits guid h))
graphic_ending (endings.Address reason) h = graphic_address reason
graphic_ending endings.Unsupported h = refl
graphic_ending endings.Connection h = refl
graphic_ending endings.Io h = refl
graphic_ending endings.Handshake h = refl
graphic_ending endings.LineTooLong h = refl
graphic_ending endings.TooManyCommands h = refl
graphic_ending endings.TimedOut h = refl
graphic_ending endings.Waiting h = refl

pub ended_read : (e : Ended) → FitsEnded e → ended_of (ended_words e) ≡ Ok e
unfolding ended_of session_of
ended_read e h =
    rw (
      number_read (2 ^ 32) e.wire h.wire (omega arith),
      ending_read e.ending h.ending,
      bytes_read e.written h.written,
      bytes_read e.leftover h.leftover,
      moment_read e.moment h.moment,
    ) refl

wide : (n : ℕ) → n < 2 ^ 32 → n < 2 ^ 64
wide n small = omega arith

pub graphic_ended : (e : Ended) → FitsEnded e → list_all graphic (ended_words e) ≡ true
graphic_ended e h =
    rw (
      graphic_decimal e.wire (wide e.wire h.wire),
      graphic_ending e.ending h.ending,
      graphic_bytes e.written h.written,
      graphic_bytes e.leftover h.leftover,
      graphic_number e.moment h.moment,
    ) refl
