-- `==` of addresses and their parts is true exactly of one value.
use Rattle.std.proofs.Common.{◌≡◌, Bool, true, false, ◌&&◌, nat_eq, Option, Some, None, refl, ap}
use Rattle.std.specs.Bool.{Decides}
use Rattle.std.specs.Option.{option_eq}
use Rattle.std.specs.Cmp.Lexicographic.{pointwise, pointwise_decides, bytes_decides}
use Rattle.std.proofs.lemmas.Bool.Decides.{Decides-eqb}
use Rattle.bus_address.specs.declared.tcp.TcpTransportFamily.{TcpTransportFamily}
use Rattle.bus_address.specs.declared.tcp.TcpTransportFamily.TheVariants as families
use Rattle.bus_address.specs.declared.unix.UnixSocket.{UnixSocket}
use Rattle.bus_address.specs.declared.unix.UnixSocket.TheVariants as sockets
use Rattle.bus_address.specs.declared.transport.Transport.{Transport}
use Rattle.bus_address.specs.declared.transport.Transport.TheVariants as transports
use Rattle.bus_address.specs.contracts.tcp.TcpTransportFamilyPartialEq.TheImpl as FamilyEqual
use Rattle.bus_address.specs.contracts.unix.UnixSocketPartialEq.TheImpl as SocketEqual
use Rattle.bus_address.specs.contracts.tcp.TcpPartialEq.TheImpl as TcpEqual
use Rattle.bus_address.specs.contracts.unixexec.UnixexecPartialEq.TheImpl as ProgramEqual
use Rattle.bus_address.specs.contracts.transport.TransportPartialEq.TheImpl as TransportEqual
use Rattle.bus_address.specs.contracts.address.AddressPartialEq.TheImpl as AddressEqual
use Rattle.bus_address.specs.Parts.{TcpParts, ProgramParts}
use Rattle.bus_address.specs.Address.{AddressParts}

through : {b : Bool} {P Q : Type 0} → Decides b P → (P → Q) → (Q → P) → Decides b Q
through h onward back = (λ e. onward (h.0 e), λ q. h.1 (back q))

both_tell : (a b : Bool) {P Q : Type 0} → Decides a P → Decides b Q → Decides (a && b) (P × Q)
both_tell true b h g = (λ e. (h.0 refl, g.0 e), λ p. g.1 p.1)
both_tell false b h g = (λ e. absurd cc, λ p. h.1 p.0)

options_tell : {X : Type 0} (same : X → X → Bool) → ((x y : X) → Decides (same x y) (x ≡ y)) → (a b : Option X) → Decides (option_eq same a b) (a ≡ b)
options_tell same h None None = (λ e. refl, λ e. refl)
options_tell same h None (Some y) = (λ e. absurd cc, λ e. absurd cc)
options_tell same h (Some x) None = (λ e. absurd cc, λ e. absurd cc)
options_tell same h (Some x) (Some y) = through (h x y) (ap Some) (λ e. cc)

families_tell : (a b : TcpTransportFamily) → Decides ((FamilyEqual.ghosts).eq a b) (a ≡ b)
families_tell families.Ipv4 families.Ipv4 = (λ e. refl, λ e. refl)
families_tell families.Ipv4 families.Ipv6 = (λ e. absurd cc, λ e. absurd cc)
families_tell families.Ipv6 families.Ipv4 = (λ e. absurd cc, λ e. absurd cc)
families_tell families.Ipv6 families.Ipv6 = (λ e. refl, λ e. refl)

sockets_tell : (a b : UnixSocket) → Decides ((SocketEqual.ghosts).eq a b) (a ≡ b)
sockets_tell (sockets.File x) (sockets.File y) = through (bytes_decides x y) (ap sockets.File) (λ e. cc)
sockets_tell (sockets.File x) (sockets.Abstract y) = (λ e. absurd cc, λ e. absurd cc)
sockets_tell (sockets.File x) (sockets.Dir y) = (λ e. absurd cc, λ e. absurd cc)
sockets_tell (sockets.File x) (sockets.TmpDir y) = (λ e. absurd cc, λ e. absurd cc)
sockets_tell (sockets.Abstract x) (sockets.File y) = (λ e. absurd cc, λ e. absurd cc)
sockets_tell (sockets.Abstract x) (sockets.Abstract y) = through (bytes_decides x y) (ap sockets.Abstract) (λ e. cc)
sockets_tell (sockets.Abstract x) (sockets.Dir y) = (λ e. absurd cc, λ e. absurd cc)
sockets_tell (sockets.Abstract x) (sockets.TmpDir y) = (λ e. absurd cc, λ e. absurd cc)
sockets_tell (sockets.Dir x) (sockets.File y) = (λ e. absurd cc, λ e. absurd cc)
sockets_tell (sockets.Dir x) (sockets.Abstract y) = (λ e. absurd cc, λ e. absurd cc)
sockets_tell (sockets.Dir x) (sockets.Dir y) = through (bytes_decides x y) (ap sockets.Dir) (λ e. cc)
sockets_tell (sockets.Dir x) (sockets.TmpDir y) = (λ e. absurd cc, λ e. absurd cc)
sockets_tell (sockets.TmpDir x) (sockets.File y) = (λ e. absurd cc, λ e. absurd cc)
sockets_tell (sockets.TmpDir x) (sockets.Abstract y) = (λ e. absurd cc, λ e. absurd cc)
sockets_tell (sockets.TmpDir x) (sockets.Dir y) = (λ e. absurd cc, λ e. absurd cc)
sockets_tell (sockets.TmpDir x) (sockets.TmpDir y) = through (bytes_decides x y) (ap sockets.TmpDir) (λ e. cc)

pub tcp_tells : (a b : TcpParts) → Decides ((TcpEqual.ghosts).eq a b) (a ≡ b)
tcp_tells a b =
    through
    (both_tell _ _ (bytes_decides a.host b.host)
    (both_tell _ _ (options_tell (pointwise nat_eq) bytes_decides a.bind b.bind)
    (both_tell _ _ (Decides-eqb a.port b.port)
    (both_tell _ _ (options_tell (FamilyEqual.ghosts).eq families_tell a.family b.family) (options_tell (pointwise nat_eq) bytes_decides a.nonce_file b.nonce_file)))))
    (λ p i. record { host = p.0 i; bind = p.1.0 i; port = p.1.1.0 i; family = p.1.1.1.0 i; nonce_file = p.1.1.1.1 i })
    (λ e. (ap (λ t. t.host) e, (ap (λ t. t.bind) e, (ap (λ t. t.port) e, (ap (λ t. t.family) e, ap (λ t. t.nonce_file) e)))))

pub programs_tell : (a b : ProgramParts) → Decides ((ProgramEqual.ghosts).eq a b) (a ≡ b)
programs_tell a b =
    through
    (both_tell _ _ (bytes_decides a.path b.path)
    (both_tell _ _ (options_tell (pointwise nat_eq) bytes_decides a.arg0 b.arg0) (pointwise_decides bytes_decides a.args b.args)))
    (λ p i. record { path = p.0 i; arg0 = p.1.0 i; args = p.1.1 i })
    (λ e. (ap (λ t. t.path) e, (ap (λ t. t.arg0) e, ap (λ t. t.args) e)))

pub transports_tell : (a b : Transport) → Decides ((TransportEqual.ghosts).eq a b) (a ≡ b)
transports_tell (transports.Unix x) (transports.Unix y) = through (sockets_tell x y) (ap transports.Unix) (λ e. cc)
transports_tell (transports.Unix x) (transports.Tcp y) = (λ e. absurd cc, λ e. absurd cc)
transports_tell (transports.Unix x) (transports.Unixexec y) = (λ e. absurd cc, λ e. absurd cc)
transports_tell (transports.Unix x) (transports.Ibus y) = (λ e. absurd cc, λ e. absurd cc)
transports_tell (transports.Tcp x) (transports.Unix y) = (λ e. absurd cc, λ e. absurd cc)
transports_tell (transports.Tcp x) (transports.Tcp y) = through (tcp_tells x y) (ap transports.Tcp) (λ e. cc)
transports_tell (transports.Tcp x) (transports.Unixexec y) = (λ e. absurd cc, λ e. absurd cc)
transports_tell (transports.Tcp x) (transports.Ibus y) = (λ e. absurd cc, λ e. absurd cc)
transports_tell (transports.Unixexec x) (transports.Unix y) = (λ e. absurd cc, λ e. absurd cc)
transports_tell (transports.Unixexec x) (transports.Tcp y) = (λ e. absurd cc, λ e. absurd cc)
transports_tell (transports.Unixexec x) (transports.Unixexec y) = through (programs_tell x y) (ap transports.Unixexec) (λ e. cc)
transports_tell (transports.Unixexec x) (transports.Ibus y) = (λ e. absurd cc, λ e. absurd cc)
transports_tell (transports.Ibus x) (transports.Unix y) = (λ e. absurd cc, λ e. absurd cc)
transports_tell (transports.Ibus x) (transports.Tcp y) = (λ e. absurd cc, λ e. absurd cc)
transports_tell (transports.Ibus x) (transports.Unixexec y) = (λ e. absurd cc, λ e. absurd cc)
transports_tell (transports.Ibus x) (transports.Ibus y) = (λ e. refl, λ e. refl)

pub addresses_tell : (a b : AddressParts) → Decides ((AddressEqual.ghosts).eq a b) (a ≡ b)
addresses_tell a b =
    through
    (both_tell _ _ (transports_tell a.transport b.transport) (options_tell (pointwise nat_eq) bytes_decides a.guid b.guid))
    (λ p i. record { transport = p.0 i; guid = p.1 i })
    (λ e. (ap (λ t. t.transport) e, ap (λ t. t.guid) e))
