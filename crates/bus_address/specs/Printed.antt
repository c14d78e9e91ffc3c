-- What is printed of the transports of an address.
use Rattle.std.specs.Prelude.{ℕ, List, [], ◌∷◌, ◌++◌, map, Option, Some, None, codes}
use Rattle.std.specs.Option.{option_map}
use Rattle.std.specs.List.{enumerate_from, flat_map}
use Rattle.std.specs.Fmt.{decimal}
use Rattle.bus_address.specs.declared.tcp.TcpTransportFamily.{TcpTransportFamily}
use Rattle.bus_address.specs.declared.tcp.TcpTransportFamily.TheVariants as families
use Rattle.bus_address.specs.declared.unix.UnixSocket.{UnixSocket}
use Rattle.bus_address.specs.declared.unix.UnixSocket.TheVariants as sockets
use Rattle.bus_address.specs.Escapes.{escaped}
use Rattle.bus_address.specs.Entries.{Entry, entry_text, address_text, argument_key}
use Rattle.bus_address.specs.Parts.{TcpParts, ProgramParts}

-- a key that is there where its value is
abbrev pub optional_entry : List ℕ → Option (List ℕ) → List Entry
optional_entry key None = []
optional_entry key (Some value) = (key, value) ∷ []

-- the one key of a Unix socket
abbrev pub socket_entry : UnixSocket → Entry
socket_entry (sockets.File path) = (codes "path", escaped path)
socket_entry (sockets.Abstract name) = (codes "abstract", escaped name)
socket_entry (sockets.Dir path) = (codes "dir", escaped path)
socket_entry (sockets.TmpDir path) = (codes "tmpdir", escaped path)

abbrev pub unix_text : UnixSocket → List ℕ
unix_text socket = address_text (codes "unix") (socket_entry socket ∷ [])

abbrev pub family_name : TcpTransportFamily → List ℕ
family_name families.Ipv4 = codes "ipv4"
family_name families.Ipv6 = codes "ipv6"

-- the transport's name, by its nonce file
abbrev pub tcp_name_by : Option (List ℕ) → List ℕ
tcp_name_by None = codes "tcp"
tcp_name_by (Some file) = codes "nonce-tcp"

abbrev pub tcp_name : TcpParts → List ℕ
tcp_name tcp = tcp_name_by tcp.nonce_file

-- the nonce file first, where there is one, then host, port, bind and family
abbrev pub tcp_entries : TcpParts → List Entry
tcp_entries tcp =
    optional_entry (codes "noncefile") (option_map escaped tcp.nonce_file)
    ++ (codes "host", escaped tcp.host) ∷ (codes "port", decimal tcp.port)
    ∷ optional_entry (codes "bind") (option_map escaped tcp.bind)
    ++ optional_entry (codes "family") (option_map family_name tcp.family)

abbrev pub tcp_text : TcpParts → List ℕ
tcp_text tcp = address_text (tcp_name tcp) (tcp_entries tcp)

-- arguments with their numbers
abbrev pub argument_entries : List (ℕ × List ℕ) → List Entry
argument_entries arguments = map (λ argument. (argument_key argument.0, escaped argument.1)) arguments

-- the path, then argv0 where there is one, then argv1, argv2 and so on
abbrev pub program_entries : ProgramParts → List Entry
program_entries program =
    (codes "path", escaped program.path) ∷ optional_entry (codes "argv0") (option_map escaped program.arg0)
    ++ argument_entries (enumerate_from 1 program.args)

abbrev pub program_text : ProgramParts → List ℕ
program_text program = address_text (codes "unixexec") (program_entries program)

-- a comma and a key with its value, where there is a value
abbrev pub behind : List ℕ → Option (List ℕ) → List ℕ
behind key None = []
behind key (Some value) = 44 ∷ entry_text (key, escaped value)

-- a TCP address up to its host
abbrev pub tcp_front : Option (List ℕ) → List ℕ
tcp_front None = codes "tcp:"
tcp_front (Some file) = codes "nonce-tcp:" ++ entry_text (codes "noncefile", escaped file) ++ codes ","

-- an argument with its number, behind a comma
abbrev pub numbered_text : ℕ × List ℕ → List ℕ
numbered_text argument = 44 ∷ entry_text (argument_key argument.0, escaped argument.1)

-- arguments with their numbers from 1 on, each behind a comma
abbrev pub arguments_text : List (List ℕ) → List ℕ
arguments_text arguments = flat_map numbered_text (enumerate_from 1 arguments)
