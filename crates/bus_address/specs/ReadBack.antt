-- Addresses that are read back from their printed text.
use Rattle.std.specs.Prelude.{◌≡◌, ℕ, ◌<◌, nat_lt, Bool, true, ◌&&◌, is_none, IsTrue}
use Rattle.std.specs.Prelude.{List, [], ◌∷◌, length, Option, Some, None, ⊤, slice_index}
use Rattle.std.specs.List.{list_all}
use Rattle.std.specs.Str.{IsUtf8}
use Rattle.bus_address.specs.declared.unix.UnixSocket.{UnixSocket}
use Rattle.bus_address.specs.declared.unix.UnixSocket.TheVariants as sockets
use Rattle.bus_address.specs.declared.transport.Transport.{Transport}
use Rattle.bus_address.specs.declared.transport.Transport.TheVariants as transports
use Rattle.bus_address.specs.Guid.{is_guid}
use Rattle.bus_address.specs.Parts.{TcpParts, ProgramParts}
use Rattle.bus_address.specs.Address.{AddressParts}

-- one or more bytes
pub record IsValue (bytes : List ℕ) : Type 0 where
  pub some : 0 < length bytes
  pub small : (i : ℕ) → slice_index bytes i < 256

abbrev pub IsOptionalValue : Option (List ℕ) → Type 0
IsOptionalValue None = ⊤
IsOptionalValue (Some bytes) = IsValue bytes

abbrev pub AreValues : List (List ℕ) → Type 0
AreValues [] = ⊤
AreValues (bytes ∷ others) = IsValue bytes × AreValues others

abbrev pub IsOptionalGuid : Option (List ℕ) → Type 0
IsOptionalGuid None = ⊤
IsOptionalGuid (Some guid) = IsTrue (is_guid guid)

abbrev pub IsReadableSocket : UnixSocket → Type 0
IsReadableSocket (sockets.File path) = IsValue path
IsReadableSocket (sockets.Abstract name) = IsValue name
IsReadableSocket (sockets.Dir path) = IsValue path
IsReadableSocket (sockets.TmpDir path) = IsValue path

pub record IsReadableTcp (tcp : TcpParts) : Type 0 where
  pub host : IsValue tcp.host
  pub text : IsUtf8 tcp.host
  pub bind : tcp.bind ≡ None
  pub port : tcp.port < 65536
  pub nonce_file : IsOptionalValue tcp.nonce_file

pub record IsReadableProgram (program : ProgramParts) : Type 0 where
  pub path : IsValue program.path
  pub arg0 : IsOptionalValue program.arg0
  pub args : AreValues program.args

abbrev pub IsReadableTransport : Transport → Type 0
IsReadableTransport (transports.Unix socket) = IsReadableSocket socket
IsReadableTransport (transports.Tcp tcp) = IsReadableTcp tcp
IsReadableTransport (transports.Unixexec program) = IsReadableProgram program
IsReadableTransport (transports.Ibus ibus) = ⊤

-- an address without bind and without an empty value
pub record IsReadable (address : AddressParts) : Type 0 where
  pub transport : IsReadableTransport address.transport
  pub guid : IsOptionalGuid address.guid

-- whether there are bytes
abbrev pub has_bytes : List ℕ → Bool
has_bytes bytes = nat_lt 0 (length bytes)

-- whether there are bytes in what is there
abbrev pub has_bytes_if_some : Option (List ℕ) → Bool
has_bytes_if_some None = true
has_bytes_if_some (Some bytes) = has_bytes bytes

abbrev pub is_readable_socket : UnixSocket → Bool
is_readable_socket (sockets.File path) = has_bytes path
is_readable_socket (sockets.Abstract name) = has_bytes name
is_readable_socket (sockets.Dir path) = has_bytes path
is_readable_socket (sockets.TmpDir path) = has_bytes path

abbrev pub is_readable_tcp : TcpParts → Bool
is_readable_tcp tcp = has_bytes tcp.host && is_none tcp.bind && has_bytes_if_some tcp.nonce_file

abbrev pub is_readable_program : ProgramParts → Bool
is_readable_program program =
    has_bytes program.path && has_bytes_if_some program.arg0 && list_all has_bytes program.args

abbrev pub is_readable_transport : Transport → Bool
is_readable_transport (transports.Unix socket) = is_readable_socket socket
is_readable_transport (transports.Tcp tcp) = is_readable_tcp tcp
is_readable_transport (transports.Unixexec program) = is_readable_program program
is_readable_transport (transports.Ibus ibus) = true

-- whether an address that a program holds is read back: it has no bind and no empty value
abbrev pub is_readable : AddressParts → Bool
is_readable address = is_readable_transport address.transport
