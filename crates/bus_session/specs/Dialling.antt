-- How a session dials (D-Bus specification, Server Addresses), and the conversation that it has over the wire then.
use Rattle.std.specs.Prelude.{ℕ, Bool, true, false, ◌==◌, ◌&&◌, if◌then◌else◌, List, [], ◌∷◌, filter}
use Rattle.std.specs.Prelude.{Option, Some, None, Result, Ok, Err}
use Rattle.std.specs.List.{list_all}
use Rattle.std.specs.Str.{bytes_eq, is_utf8, trim}
use Rattle.react_core.specs.declared.outside.Peer.{Peer}
use Rattle.react_core.specs.declared.outside.Peer.TheVariants as peer
use Rattle.react_core.specs.declared.outside.Question.{Question}
use Rattle.react_core.specs.declared.outside.Question.TheVariants as question
use Rattle.react_core.specs.declared.outside.DialAnswer.{DialAnswer}
use Rattle.react_core.specs.declared.outside.DialAnswer.TheVariants as dial_answer
use Rattle.bus_address.specs.declared.error.AddressKind.{AddressKind}
use Rattle.bus_address.specs.declared.tcp.TcpTransportFamily.{TcpTransportFamily}
use Rattle.bus_address.specs.declared.tcp.TcpTransportFamily.TheVariants as family
use Rattle.bus_address.specs.declared.transport.Transport.{Transport}
use Rattle.bus_address.specs.declared.transport.Transport.TheVariants as transport
use Rattle.bus_address.specs.declared.unix.UnixSocket.{UnixSocket}
use Rattle.bus_address.specs.declared.unix.UnixSocket.TheVariants as socket
use Rattle.bus_address.specs.Address.{AddressParts}
use Rattle.bus_address.specs.Parts.{TcpParts, ProgramParts}
use Rattle.bus_address.specs.Reading.{address}
use Rattle.bus_opening.specs.Talk.{Said}
use Rattle.bus_opening.specs.Client.{client, terms_of}
use Rattle.bus_opening.specs.Server.{server, server_terms_of}
use Rattle.bus_session.specs.declared.ended.AddressReason.TheVariants as reason
use Rattle.bus_session.specs.declared.ended.Ending.{Ending}
use Rattle.bus_session.specs.declared.ended.Ending.TheVariants as ending
use Rattle.bus_session.specs.declared.session.Party.{Party}
use Rattle.bus_session.specs.declared.session.Party.TheVariants as party

-- ---- how far a dialling has come

-- an open wire: whether it passes descriptors, whether it is one of TCP, and the nonce that was read for it
pub record Opened : Type 0 where
  pub passes : Bool
  pub tcp : Bool
  pub nonce : List ℕ

-- what a question is asked for
pub data Purpose : Type 0 where
  -- the wire itself, which is not one of TCP
  the_wire : Purpose
  -- the peers of a host that are of this family; the nonce is in this file
  the_peers : Option TcpTransportFamily → Option (List ℕ) → Purpose
  -- the wire to a peer, where these are left to be asked; the nonce is in this file
  a_peer : List Peer → Option (List ℕ) → Purpose
  -- the nonce for a wire that passes descriptors or not
  the_nonce : Bool → Purpose
  -- the address that ibus prints
  the_address : Purpose

-- how far a dialling has come
pub data Dialling : Type 0 where
  -- this is asked next
  asks : Question → Purpose → Dialling
  fails : Ending → Dialling
  opens : Opened → Dialling

-- ---- where it begins

-- what may be there is UTF-8 where it is
abbrev pub is_text : Option (List ℕ) → Bool
is_text None = true
is_text (Some bytes) = is_utf8 bytes

-- this is asked, where all names in it are UTF-8
abbrev pub asks_if : Bool → Question → Purpose → Dialling
asks_if named question purpose = if named then asks question purpose else fails ending.Unsupported

-- a Unix socket: the folders are for listeners
abbrev pub to_socket : UnixSocket → Dialling
to_socket (socket.File path) = asks_if (is_utf8 path) (question.Unix path) the_wire
to_socket (socket.Abstract name) = asks (question.Abstract name) the_wire
to_socket (socket.Dir path) = fails ending.Unsupported
to_socket (socket.TmpDir path) = fails ending.Unsupported

-- a host over TCP: its peers are looked up first
abbrev pub to_host : TcpParts → Dialling
to_host t = asks_if (is_text t.nonce_file) (question.Lookup t.host t.port) (the_peers t.family t.nonce_file)

-- a program whose standard streams are the wire
abbrev pub to_program : ProgramParts → Dialling
to_program p =
    asks_if (is_utf8 p.path && (is_text p.arg0 && list_all is_utf8 p.args)) (question.Start p.path p.arg0 p.args)
    the_wire

-- an address that ibus gave; it may not name ibus again
abbrev pub to_given : Transport → Dialling
to_given (transport.Unix at) = to_socket at
to_given (transport.Tcp at) = to_host at
to_given (transport.Unixexec at) = to_program at
to_given (transport.Ibus at) = fails ending.Unsupported

-- an address: where it names ibus, ibus is asked for another
abbrev pub to_address : Transport → Dialling
to_address (transport.Unix at) = to_socket at
to_address (transport.Tcp at) = to_host at
to_address (transport.Unixexec at) = to_program at
to_address (transport.Ibus at) = asks question.Ibus the_address

-- a text that was read as an address
abbrev pub to_read : Result AddressParts AddressKind → Dialling
to_read (Ok a) = to_address a.transport
to_read (Err kind) = fails (ending.Address (reason.Text kind))

-- where it begins: a client at its address, a server with a connection that a peer opens
abbrev pub begins : Party → Dialling
begins (party.Client text config) = to_read (address text)
begins (party.Server config) = asks question.Accept the_wire

-- ---- what an answer comes to

-- whether a peer is of a family
abbrev pub is_of : TcpTransportFamily → Peer → Bool
is_of family.Ipv4 (peer.V4 ip port) = true
is_of family.Ipv4 (peer.V6 ip port) = false
is_of family.Ipv6 (peer.V4 ip port) = false
is_of family.Ipv6 (peer.V6 ip port) = true

-- whether a peer is of the family that an address names, if it names one
abbrev pub fits : Option TcpTransportFamily → Peer → Bool
fits None p = true
fits (Some wanted) p = is_of wanted p

-- the first of these peers is asked; where none is left, it ends so
abbrev pub to_peers : Ending → Option (List ℕ) → List Peer → Dialling
to_peers none file [] = fails none
to_peers none file (p ∷ left) = asks (question.Tcp p) (a_peer left file)

-- the wire to a peer is open: the nonce is read, where the address names its file
abbrev pub over_tcp : Option (List ℕ) → Bool → Dialling
over_tcp None passes = opens (record { passes = passes; tcp = true; nonce = [] })
over_tcp (Some file) passes = asks (question.Nonce file) (the_nonce passes)

-- the text that ibus printed, as an address
abbrev pub given : Result AddressParts AddressKind → Dialling
given (Ok a) = to_given a.transport
given (Err _) = fails (ending.Address reason.IbusFailed)

-- what ibus printed: an address with white space around it, if it ended in success
abbrev pub printed : Bool → List ℕ → Dialling
printed success text =
    if success && is_utf8 text then given (address (trim text)) else fails (ending.Address reason.IbusFailed)

-- what the answer comes to; none where it is of another question
abbrev pub answered : Purpose → DialAnswer → Option Dialling
answered the_wire (dial_answer.Opened passes) = Some (opens (record { passes = passes; tcp = false; nonce = [] }))
answered the_wire dial_answer.Failed = Some (fails ending.Connection)
answered (the_peers wanted file) (dial_answer.Found peers) =
    Some (to_peers (ending.Address reason.NoAddress) file (filter (fits wanted) peers))
answered (the_peers wanted file) dial_answer.Failed = Some (fails ending.Connection)
answered (a_peer left file) (dial_answer.Opened passes) = Some (over_tcp file passes)
answered (a_peer left file) dial_answer.Failed = Some (to_peers ending.Connection file left)
answered (the_nonce passes) (dial_answer.Nonce bytes) =
    Some (opens (record { passes = passes; tcp = true; nonce = bytes }))
answered (the_nonce passes) dial_answer.Failed = Some (fails ending.Io)
answered the_address (dial_answer.Output success text) = Some (printed success text)
answered the_address dial_answer.Failed = Some (fails (ending.Address reason.IbusFailed))
answered purpose answer = None

-- ---- one question after the other

-- two peers are one
abbrev pub is_same_peer : Peer → Peer → Bool
is_same_peer (peer.V4 a m) (peer.V4 b n) = (a == b) && (m == n)
is_same_peer (peer.V6 a m) (peer.V6 b n) = (a == b) && (m == n)
is_same_peer a b = false

-- both are missing, or both are the same
abbrev pub is_same_option : Option (List ℕ) → Option (List ℕ) → Bool
is_same_option None None = true
is_same_option (Some a) (Some b) = bytes_eq a b
is_same_option a b = false

-- the arguments are the same
abbrev pub are_same : List (List ℕ) → List (List ℕ) → Bool
are_same [] [] = true
are_same (a ∷ one) (b ∷ two) = bytes_eq a b && are_same one two
are_same one two = false

-- two questions are one
abbrev pub is_same : Question → Question → Bool
is_same (question.Unix a) (question.Unix b) = bytes_eq a b
is_same (question.Abstract a) (question.Abstract b) = bytes_eq a b
is_same (question.Lookup a m) (question.Lookup b n) = bytes_eq a b && (m == n)
is_same (question.Tcp a) (question.Tcp b) = is_same_peer a b
is_same (question.Nonce a) (question.Nonce b) = bytes_eq a b
is_same (question.Start a m one) (question.Start b n two) = bytes_eq a b && (is_same_option m n && are_same one two)
is_same question.Ibus question.Ibus = true
is_same question.Accept question.Accept = true
is_same a b = false

-- the dialling after one more question and its answer, if that question is asked
abbrev pub dialled : Dialling → Question → DialAnswer → Option Dialling
dialled (asks wanted purpose) asked answer = if is_same wanted asked then answered purpose answer else None
dialled d asked answer = None

-- ---- the conversation

-- the GUID that an address names
abbrev pub guid_in : Result AddressParts AddressKind → Option (List ℕ)
guid_in (Ok a) = a.guid
guid_in (Err _) = None

-- the GUID that a client expects: that of its own address, not of one that ibus gave
abbrev pub expects : Party → Option (List ℕ)
expects (party.Client text config) = guid_in (address text)
expects (party.Server config) = None

-- the conversation over an open wire
abbrev pub conversation : Party → Opened → List (List ℕ) → Said
conversation (party.Client text config) o =
    client (terms_of config (guid_in (address text)) o.passes o.tcp o.nonce)
conversation (party.Server config) o = server (server_terms_of config o.passes)
