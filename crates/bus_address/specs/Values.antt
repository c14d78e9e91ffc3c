-- What the values of an address's keys say.
use Rattle.std.specs.Prelude.{ℕ, ◌&&◌, nat_lt, List, length, Option, Some, None}
use Rattle.std.specs.Prelude.{Result, Ok, Err, ok_or, codes, if◌then◌else◌}
use Rattle.std.specs.Str.{bytes_eq, is_utf8, all_ascii_digits}
use Rattle.std.specs.Str.Parse.{digits_value, without_leading_plus}
use Rattle.bus_address.specs.declared.error.AddressKind.{AddressKind}
use Rattle.bus_address.specs.declared.error.AddressKind.TheVariants as kinds
use Rattle.bus_address.specs.declared.tcp.TcpTransportFamily.{TcpTransportFamily}
use Rattle.bus_address.specs.declared.tcp.TcpTransportFamily.TheVariants as families
use Rattle.bus_address.specs.Errors.{◌>>=◌}
use Rattle.bus_address.specs.Escapes.{unescaped}
use Rattle.bus_address.specs.Guid.{guid}

-- the bytes of an escaped value
abbrev pub decoded : List ℕ → Result (List ℕ) AddressKind
decoded text = ok_or (unescaped text) kinds.BadEscape

-- bytes that are text
abbrev pub host_text : List ℕ → Result (List ℕ) AddressKind
host_text bytes = if is_utf8 bytes then Ok bytes else Err kinds.HostText

-- a port: one or more digits, with a + before them or not, of a number up to 65535
abbrev pub port : List ℕ → Result ℕ AddressKind
port text =
    if (nat_lt 0 (length (without_leading_plus text)) && all_ascii_digits (without_leading_plus text))
    && nat_lt (digits_value 10 (without_leading_plus text)) 65536
    then Ok (digits_value 10 (without_leading_plus text))
    else Err kinds.BadPort

-- the family of a TCP address
abbrev pub family : List ℕ → Result TcpTransportFamily AddressKind
family text =
    if bytes_eq text (codes "ipv4") then Ok families.Ipv4
    else if bytes_eq text (codes "ipv6") then Ok families.Ipv6
    else Err kinds.BadFamily

-- a GUID
abbrev pub guid_value : List ℕ → Result (List ℕ) AddressKind
guid_value text = ok_or (guid text) kinds.BadGuid

-- a value that need not be there
abbrev pub optional : {X : Type 0} → (List ℕ → Result X AddressKind) → Option (List ℕ) → Result (Option X) AddressKind
optional read None = Ok None
optional read (Some text) = read text >>= λ x. Ok (Some x)
