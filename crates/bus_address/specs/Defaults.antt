-- The addresses of the session bus and of the system bus (D-Bus specification, Well-known Message Bus Instances).
use Rattle.std.specs.Prelude.{ℕ, List, ◌++◌, Option, Some, None, Result, Ok, codes}
use Rattle.std.specs.Fmt.{decimal}
use Rattle.bus_address.specs.declared.error.AddressKind.{AddressKind}
use Rattle.bus_address.specs.declared.unix.UnixSocket.TheVariants as sockets
use Rattle.bus_address.specs.declared.transport.Transport.TheVariants as transports
use Rattle.bus_address.specs.Address.{AddressParts}
use Rattle.bus_address.specs.Reading.{address}

abbrev pub file_address : List ℕ → AddressParts
file_address path = record { transport = transports.Unix (sockets.File path); guid = None }

-- the folder, or that of the user's number
abbrev pub session_folder : Option (List ℕ) → ℕ → List ℕ
session_folder (Some folder) user = folder
session_folder None user = codes "/run/user/" ++ decimal user

abbrev pub session_socket : Option (List ℕ) → ℕ → List ℕ
session_socket folder user = session_folder folder user ++ codes "/bus"

-- what the environment says, or else the socket in the folder
abbrev pub session_address : Option (List ℕ) → Option (List ℕ) → ℕ → Result AddressParts AddressKind
session_address (Some text) folder user = address text
session_address None folder user = Ok (file_address (session_socket folder user))

-- what the environment says, or else the socket of the system bus
abbrev pub system_address : Option (List ℕ) → Result AddressParts AddressKind
system_address (Some text) = address text
system_address None = Ok (file_address (codes "/var/run/dbus/system_bus_socket"))
