-- The address that a text says, or the first thing that is wrong with it (D-Bus specification, Server Addresses).
use Rattle.std.specs.Prelude.{ℕ, zero, suc, Bool, true, false, ◌&&◌, is_some, is_none, List, [], ◌∷◌}
use Rattle.std.specs.Prelude.{length, Option, Some, None, Result, Ok, Err, ok_or, codes, if◌then◌else◌}
use Rattle.std.specs.Str.{bytes_eq}
use Rattle.bus_address.specs.declared.error.AddressKind.{AddressKind}
use Rattle.bus_address.specs.declared.error.AddressKind.TheVariants as kinds
use Rattle.bus_address.specs.declared.unix.UnixSocket.{UnixSocket}
use Rattle.bus_address.specs.declared.unix.UnixSocket.TheVariants as sockets
use Rattle.bus_address.specs.declared.transport.Transport.{Transport}
use Rattle.bus_address.specs.declared.transport.Transport.TheVariants as transports
use Rattle.bus_address.specs.Errors.{◌>>=◌}
use Rattle.bus_address.specs.Parts.{TcpParts, ProgramParts}
use Rattle.bus_address.specs.Address.{AddressParts}
use Rattle.bus_address.specs.Entries.{entries, transport_and_rest, value_of, argument_key}
use Rattle.bus_address.specs.Values.{decoded, host_text, port, family, guid_value, optional}

-- the value of each key
abbrev pub Lookup : Type 0
Lookup = List ℕ → Option (List ℕ)

-- a Unix socket, from the values of path, abstract, dir and tmpdir: exactly one of them is there
abbrev pub socket : Option (List ℕ) → Option (List ℕ) → Option (List ℕ) → Option (List ℕ)
    → Result UnixSocket AddressKind
socket (Some path) None None None = decoded path >>= λ bytes. Ok (sockets.File bytes)
socket None (Some name) None None = decoded name >>= λ bytes. Ok (sockets.Abstract bytes)
socket None None (Some path) None = decoded path >>= λ bytes. Ok (sockets.Dir bytes)
socket None None None (Some path) = decoded path >>= λ bytes. Ok (sockets.TmpDir bytes)
socket path name dir tmpdir = Err kinds.Keys

abbrev pub unix : Lookup → Result UnixSocket AddressKind
unix value = socket (value (codes "path")) (value (codes "abstract")) (value (codes "dir")) (value (codes "tmpdir"))

abbrev pub host : Lookup → Result (List ℕ) AddressKind
host value = (ok_or (value (codes "host")) kinds.MissingHost >>= decoded) >>= host_text

abbrev pub port_value : Lookup → Result ℕ AddressKind
port_value value = ok_or (value (codes "port")) kinds.MissingPort >>= port

abbrev pub nonce_file : Bool → Lookup → Result (Option (List ℕ)) AddressKind
nonce_file needed value =
    optional decoded (value (codes "noncefile")) >>= λ file.
    if needed && is_none file then Err kinds.MissingNonceFile else Ok file

-- a TCP address, which needs a nonce file or not
abbrev pub tcp : Bool → Lookup → Result TcpParts AddressKind
tcp needed value =
    if is_some (value (codes "bind")) then Err kinds.Bind
    else (host value >>= λ host.
    (port_value value >>= λ port.
    (optional family (value (codes "family")) >>= λ family.
    (nonce_file needed value >>= λ file.
    Ok (record { host = host; bind = None; port = port; family = family; nonce_file = file })))))

-- the value of an argument, with those of the next, or none where it is missing
abbrev pub up_to_missing : Option (List ℕ) → List (List ℕ) → List (List ℕ)
up_to_missing None next = []
up_to_missing (Some value) next = value ∷ next

-- the values of the arguments from the number n on up to the first that is missing, at most `most` of them
abbrev pub arguments_from : (ℕ → Option (List ℕ)) → ℕ → ℕ → List (List ℕ)
arguments_from argument n zero = []
arguments_from argument n (suc most) = up_to_missing (argument n) (arguments_from argument (suc n) most)

abbrev pub all_decoded : List (List ℕ) → Result (List (List ℕ)) AddressKind
all_decoded [] = Ok []
all_decoded (text ∷ texts) = decoded text >>= λ bytes. (all_decoded texts >>= λ others. Ok (bytes ∷ others))

-- argv1, argv2 and so on up to the first missing number; a text has fewer arguments than bytes
abbrev pub arguments : ℕ → Lookup → Result (List (List ℕ)) AddressKind
arguments len value = all_decoded (arguments_from (λ n. value (argument_key n)) 1 len)

abbrev pub program_path : Lookup → Result (List ℕ) AddressKind
program_path value = ok_or (value (codes "path")) kinds.MissingPath >>= decoded

-- a program, in an address of so many bytes
abbrev pub program : ℕ → Lookup → Result ProgramParts AddressKind
program len value =
    program_path value >>= λ path.
    (optional decoded (value (codes "argv0")) >>= λ arg0.
    (arguments len value >>= λ args.
    Ok (record { path = path; arg0 = arg0; args = args })))

-- a transport by its name
abbrev pub transport : List ℕ → ℕ → Lookup → Result Transport AddressKind
transport name len value =
    if bytes_eq name (codes "unix") then (unix value >>= λ socket. Ok (transports.Unix socket))
    else if bytes_eq name (codes "tcp") then (tcp false value >>= λ tcp. Ok (transports.Tcp tcp))
    else if bytes_eq name (codes "nonce-tcp") then (tcp true value >>= λ tcp. Ok (transports.Tcp tcp))
    else if bytes_eq name (codes "unixexec") then (program len value >>= λ program. Ok (transports.Unixexec program))
    else if bytes_eq name (codes "ibus") then Ok (transports.Ibus (record {}))
    else Err kinds.UnknownTransport

-- the GUID comes before the transport
abbrev pub address_with : List ℕ → ℕ → Lookup → Result AddressParts AddressKind
address_with name len value =
    optional guid_value (value (codes "guid")) >>= λ guid.
    (transport name len value >>= λ transport. Ok (record { transport = transport; guid = guid }))

abbrev pub address_of : ℕ → List ℕ × List ℕ → Result AddressParts AddressKind
address_of len cut = ok_or (entries cut.1) kinds.Form >>= λ entries. address_with cut.0 len (value_of entries)

-- the address that a text says
abbrev pub address : List ℕ → Result AddressParts AddressKind
address text = ok_or (transport_and_rest text) kinds.Form >>= address_of (length text)
