-- A whole address as plain data, and its printed text (D-Bus specification, Server Addresses).
use Rattle.std.specs.Prelude.{ℕ, List, [], ◌∷◌, ◌++◌, Option, codes}
use Rattle.bus_address.specs.declared.transport.Transport.{Transport}
use Rattle.bus_address.specs.declared.transport.Transport.TheVariants as transports
use Rattle.bus_address.specs.Entries.{Entry, address_text}
use Rattle.bus_address.specs.Printed.{optional_entry, socket_entry, tcp_name, tcp_entries, program_entries}

pub record AddressParts : Type 0 where
  pub transport : Transport
  pub guid : Option (List ℕ)

abbrev pub transport_name : Transport → List ℕ
transport_name (transports.Unix socket) = codes "unix"
transport_name (transports.Tcp tcp) = tcp_name tcp
transport_name (transports.Unixexec program) = codes "unixexec"
transport_name (transports.Ibus ibus) = codes "ibus"

-- the keys of a transport with their values
abbrev pub transport_entries : Transport → List Entry
transport_entries (transports.Unix socket) = socket_entry socket ∷ []
transport_entries (transports.Tcp tcp) = tcp_entries tcp
transport_entries (transports.Unixexec program) = program_entries program
transport_entries (transports.Ibus ibus) = []

-- the text of a transport
abbrev pub transport_text : Transport → List ℕ
transport_text transport = address_text (transport_name transport) (transport_entries transport)

-- the text of an address: its transport's, with the GUID as the last key
abbrev pub says : AddressParts → List ℕ
says address =
    address_text (transport_name address.transport)
    (transport_entries address.transport ++ optional_entry (codes "guid") address.guid)

-- what stands before the GUID of an address
abbrev pub guid_front : Transport → List ℕ
guid_front (transports.Ibus ibus) = codes "guid="
guid_front _ = codes ",guid="
