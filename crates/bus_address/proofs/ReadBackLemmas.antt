-- Each printed address is read back.
use Rattle.std.proofs.Common.{◌≡◌, ◌≢◌, ℕ, zero, suc, ◌+◌, ◌/◌, ◌%◌, ◌<◌, ◌≤◌, ◌^◌, Bool, true, false}
use Rattle.std.proofs.Common.{◌&&◌, not, List, [], ◌∷◌, ◌++◌, length, map, Option, Some, None, Result}
use Rattle.std.proofs.Common.{Ok, Err, refl, sym, ap, ◌∙◌, subst, arith, length-append, codes}
use Rattle.std.specs.Prelude.{if◌then◌else◌, nat_lt, is_some, is_none, ok_or, ◌==◌, slice_index}
use Rattle.std.specs.Option.{option_map, option_or}
use Rattle.std.specs.List.{list_all, enumerate_from}
use Rattle.std.specs.Char.{digit_char, is_ascii_alphanumeric}
use Rattle.std.specs.Fmt.{decimal}
use Rattle.std.specs.Str.{bytes_eq, IsUtf8}
use Rattle.std.specs.Str.Parse.{digits_value, IsNumeral, AllDigits}
use Rattle.std.specs.Int.{IsInRange}
use Rattle.std.proofs.lemmas.Str.Parse.{without_leading_plus_none, digit_at, digit_from_value}
use Rattle.std.proofs.lemmas.Bool.Decides.{nat_tests}
use Rattle.std.proofs.lemmas.Slice.Eq.{bytes_eq-Decides}
use Rattle.std.proofs.lemmas.Fmt.{decimal_is_IsNumeral, decimal_digit, decimal_injective}
use Rattle.bus_address.specs.declared.error.AddressKind.{AddressKind}
use Rattle.bus_address.specs.declared.error.AddressKind.TheVariants as kinds
use Rattle.bus_address.specs.declared.tcp.TcpTransportFamily.{TcpTransportFamily}
use Rattle.bus_address.specs.declared.tcp.TcpTransportFamily.TheVariants as families
use Rattle.bus_address.specs.declared.unix.UnixSocket.{UnixSocket}
use Rattle.bus_address.specs.declared.unix.UnixSocket.TheVariants as sockets
use Rattle.bus_address.specs.declared.ibus.Ibus.{Ibus}
use Rattle.bus_address.specs.declared.transport.Transport.{Transport}
use Rattle.bus_address.specs.declared.transport.Transport.TheVariants as transports
use Rattle.bus_address.specs.declared.error.AddressError.{AddressError}
use Rattle.bus_address.specs.Errors.{◌>>=◌, Gives}
use Rattle.bus_address.specs.Escapes.{is_plain, escape, escaped}
use Rattle.bus_address.specs.Guid.{is_lower_hexdigit}
use Rattle.bus_address.specs.Entries.{Entry, entry_text, address_text, entries_text, is_key, argument_key, value_of}
use Rattle.bus_address.specs.Parts.{TcpParts, ProgramParts}
use Rattle.bus_address.specs.Values.{decoded, guid_value, optional, host_text, port, family}
use Rattle.bus_address.specs.Printed.{optional_entry, socket_entry, family_name, tcp_name_by, tcp_entries, argument_entries}
use Rattle.bus_address.specs.Address.{AddressParts, says}
use Rattle.bus_address.specs.Reading.{Lookup, socket, unix, transport, tcp, up_to_missing, arguments_from, all_decoded, address_with, address_of, address}
use Rattle.bus_address.specs.ReadBack.{IsValue, IsOptionalValue, IsOptionalGuid, IsReadableSocket, IsReadableTcp, IsReadableProgram, IsReadableTransport, AreValues, IsReadable}
use Rattle.bus_address.proofs.GuidLemmas.{guid-is_guid}
use Rattle.bus_address.proofs.EscapeLemmas.{unescaped-escaped, escape_plain, escape_hex}
use Rattle.bus_address.proofs.ValueLemmas.{port_ok, host_text_ok}
use Rattle.bus_address.proofs.EntryLemmas.{value_of-push}
use Rattle.bus_address.proofs.RoundTrip.{lacks, lt_true, lacks-append, nonempty-append, is_whole, transport_and_rest-text, entries-text}
use Rattle.bus_address.proofs.Choices.{both, together}

-- a value that a key can have
abbrev is_value : List ℕ → Bool
is_value text = nat_lt 0 (length text) && lacks 44 text

plain_comma : is_plain 44 ≡ true → ⊥
plain_comma h = cc

plain_lacks_by : (p : Bool) (b : ℕ) → (b == 44) ≡ p → is_plain b ≡ true → not p ≡ true
plain_lacks_by true b is plain = let same : b ≡ 44 = grind (arith, nat_tests) in absurd (plain_comma (sym (ap is_plain same) ∙ plain))
plain_lacks_by false b is plain = refl

hex_lacks : (d : ℕ) → d < 16 → not (digit_char d == 44) ≡ true
hex_lacks d small = grind (arith, nat_tests)

escape_value_by : (p : Bool) (b : ℕ) → is_plain b ≡ p → b < 256 → (lacks 44 (escape b) ≡ true) × (0 < length (escape b))
escape_value_by true b is small =
    let P : List ℕ → Type 0 = λ v. (lacks 44 v ≡ true) × (0 < length v) in
    subst P (sym (escape_plain b is)) (together _ _ (plain_lacks_by (b == 44) b refl is) refl, omega arith)
escape_value_by false b is small =
    let P : List ℕ → Type 0 = λ v. (lacks 44 v ≡ true) × (0 < length v) in
    subst P (sym (escape_hex b is)) (together _ _ (hex_lacks (b / 16) (omega arith)) (together _ _ (hex_lacks (b % 16) (omega arith)) refl), omega arith)

escape_value : (b : ℕ) → b < 256 → (lacks 44 (escape b) ≡ true) × (0 < length (escape b))
escape_value b small = escape_value_by (is_plain b) b refl small

escaped_lacks : (bytes : List ℕ) → ((i : ℕ) → slice_index bytes i < 256) → lacks 44 (escaped bytes) ≡ true
escaped_lacks [] small = refl
escaped_lacks (b ∷ bs) small = lacks-append 44 (escape b) (escaped bs) (escape_value b (small 0)).0 (escaped_lacks bs (λ i. small (suc i)))

escaped_some : (bytes : List ℕ) → 0 < length bytes → ((i : ℕ) → slice_index bytes i < 256) → 0 < length (escaped bytes)
escaped_some [] some small = absurd (omega arith)
escaped_some (b ∷ bs) some small = nonempty-append (escape b) (escaped bs) (escape_value b (small 0)).1

escaped_value : (bytes : List ℕ) → IsValue bytes → is_value (escaped bytes) ≡ true
escaped_value bytes v = together _ _ (lt_true _ _ (escaped_some bytes v.some v.small)) (escaped_lacks bytes v.small)

decoded-escaped : (bytes : List ℕ) → IsValue bytes → decoded (escaped bytes) ≡ Ok bytes
decoded-escaped bytes v = ap (λ o. ok_or o kinds.BadEscape) (unescaped-escaped bytes v.small)

digit_lacks : (b : ℕ) → is_lower_hexdigit b ≡ true → not (b == 44) ≡ true
digit_lacks b h = grind (arith, nat_tests)

digits_lack : (g : List ℕ) → list_all is_lower_hexdigit g ≡ true → lacks 44 g ≡ true
digits_lack [] h = refl
digits_lack (b ∷ bs) h = let parts = both (is_lower_hexdigit b) (list_all is_lower_hexdigit bs) h in together _ _ (digit_lacks b parts.0) (digits_lack bs parts.1)

long_some : (g : List ℕ) → (length g == 32) ≡ true → nat_lt 0 (length g) ≡ true
long_some g h = grind (arith, nat_tests)

guid_entry_whole : (g : Option (List ℕ)) → IsOptionalGuid g → list_all is_whole (optional_entry (codes "guid") g) ≡ true
guid_entry_whole None r = refl
guid_entry_whole (Some g) r =
    let parts = both (length g == 32) (list_all is_lower_hexdigit g) r in
    together _ _ (together _ _ (long_some g parts.0) (digits_lack g parts.1)) refl

all_append : (xs ys : List Entry) → list_all is_whole xs ≡ true → list_all is_whole ys ≡ true → list_all is_whole (xs ++ ys) ≡ true
all_append [] ys hx hy = hy
all_append (x ∷ xs) ys hx hy = let parts = both (is_whole x) (list_all is_whole xs) hx in together _ _ parts.0 (all_append xs ys parts.1 hy)

-- keys behind others
if_other : (b : Bool) (v : List ℕ) (o : Option (List ℕ)) → b ≡ false → (if b then Some v else o) ≡ o
if_other true v o e = absurd cc
if_other false v o e = refl

append_nil : (ps : List Entry) → ps ++ [] ≡ ps
append_nil [] = refl
append_nil (p ∷ ps) = ap (λ v. p ∷ v) (append_nil ps)

found_other : (ps : List Entry) (g : Option (List ℕ)) (key : List ℕ) → bytes_eq (codes "guid") key ≡ false → value_of (ps ++ optional_entry (codes "guid") g) key ≡ value_of ps key
found_other ps None key e = ap (λ es. value_of es key) (append_nil ps)
found_other ps (Some g) key e = value_of-push ps (codes "guid", g) key ∙ if_other (bytes_eq (codes "guid") key) g (value_of ps key) e

found_guid : (ps : List Entry) (g : Option (List ℕ)) → value_of ps (codes "guid") ≡ None → value_of (ps ++ optional_entry (codes "guid") g) (codes "guid") ≡ g
found_guid ps None none = ap (λ es. value_of es (codes "guid")) (append_nil ps) ∙ none
found_guid ps (Some g) none = value_of-push ps (codes "guid", g) (codes "guid")

with_parts : (name : List ℕ) (len : ℕ) (value : Lookup) (g : Option (List ℕ)) (t : Transport) → value (codes "guid") ≡ g
    → IsOptionalGuid g → transport name len value ≡ Ok t
    → address_with name len value ≡ Ok (record { transport = t; guid = g })
with_parts name len value None t is r h =
    ap (λ o. optional guid_value o >>= λ guid. (transport name len value >>= λ transport. Ok (record { transport = transport; guid = guid }))) is
    ∙ ap (λ read. read >>= λ transport. Ok (record { transport = transport; guid = None })) h
with_parts name len value (Some g) t is r h =
    ap (λ o. optional guid_value o >>= λ guid. (transport name len value >>= λ transport. Ok (record { transport = transport; guid = guid }))) is
    ∙ ap (λ o. (ok_or o kinds.BadGuid >>= λ x. Ok (Some x)) >>= λ guid. (transport name len value >>= λ transport. Ok (record { transport = transport; guid = guid }))) (guid-is_guid g r)
    ∙ ap (λ read. read >>= λ transport. Ok (record { transport = transport; guid = Some g })) h

-- a text has more bytes than keys
entry_long : (e : Entry) → 0 < length (entry_text e)
entry_long e = omega (arith, length-append e.0 (61 ∷ e.1))

short : (es : List Entry) → length es ≤ length (entries_text es)
short [] = omega arith
short (e ∷ []) = let some = entry_long e in omega arith
short (e ∷ f ∷ es) =
    let rest = short (f ∷ es) in
    omega (arith, length-append (entry_text e) (44 ∷ entries_text (f ∷ es)))

front_short : (name : List ℕ) (ps qs : List Entry) → length ps ≤ length (address_text name (ps ++ qs))
front_short name ps qs =
    let few = short (ps ++ qs) in
    omega (arith, length-append ps qs, length-append name (58 ∷ entries_text (ps ++ qs)))

-- a text of readable keys is read by them
read_back : (name : List ℕ) (es : List Entry) (a : AddressParts) → lacks 58 name ≡ true → 0 < length name
    → list_all is_whole es ≡ true → address_with name (length (address_text name es)) (value_of es) ≡ Ok a
    → address (address_text name es) ≡ Ok a
read_back name es a plain some whole says_a =
    ap (λ o. ok_or o kinds.Form >>= address_of (length (address_text name es))) (transport_and_rest-text name (entries_text es) plain some)
    ∙ ap (λ o. ok_or o kinds.Form >>= λ found. address_with name (length (address_text name es)) (value_of found)) (entries-text es whole)
    ∙ says_a

back : (name : List ℕ) (ps : List Entry) (t : Transport) (g : Option (List ℕ)) → lacks 58 name ≡ true → 0 < length name
    → list_all is_whole ps ≡ true → IsOptionalGuid g → value_of ps (codes "guid") ≡ None
    → ((len : ℕ) → length ps ≤ len → transport name len (value_of (ps ++ optional_entry (codes "guid") g)) ≡ Ok t)
    → address (address_text name (ps ++ optional_entry (codes "guid") g)) ≡ Ok (record { transport = t; guid = g })
back name ps t g plain some whole r none read =
    let es : List Entry = ps ++ optional_entry (codes "guid") g in
    let len : ℕ = length (address_text name es) in
    let all : list_all is_whole es ≡ true = all_append ps (optional_entry (codes "guid") g) whole (guid_entry_whole g r) in
    read_back name es (record { transport = t; guid = g }) plain some all
    (with_parts name len (value_of es) g t (found_guid ps g none) r (read len (front_short name ps (optional_entry (codes "guid") g))))

-- Unix sockets
socket_whole : (s : UnixSocket) → IsReadableSocket s → list_all is_whole (socket_entry s ∷ []) ≡ true
socket_whole (sockets.File path) v = together _ _ (escaped_value path v) refl
socket_whole (sockets.Abstract name) v = together _ _ (escaped_value name v) refl
socket_whole (sockets.Dir path) v = together _ _ (escaped_value path v) refl
socket_whole (sockets.TmpDir path) v = together _ _ (escaped_value path v) refl

socket_read : (s : UnixSocket) → IsReadableSocket s → unix (value_of (socket_entry s ∷ [])) ≡ Ok s
socket_read (sockets.File path) v = ap (λ d. d >>= λ bytes. Ok (sockets.File bytes)) (decoded-escaped path v)
socket_read (sockets.Abstract name) v = ap (λ d. d >>= λ bytes. Ok (sockets.Abstract bytes)) (decoded-escaped name v)
socket_read (sockets.Dir path) v = ap (λ d. d >>= λ bytes. Ok (sockets.Dir bytes)) (decoded-escaped path v)
socket_read (sockets.TmpDir path) v = ap (λ d. d >>= λ bytes. Ok (sockets.TmpDir bytes)) (decoded-escaped path v)

no_guid : (s : UnixSocket) → value_of (socket_entry s ∷ []) (codes "guid") ≡ None
no_guid (sockets.File path) = refl
no_guid (sockets.Abstract name) = refl
no_guid (sockets.Dir path) = refl
no_guid (sockets.TmpDir path) = refl

socket_same : (a a' b b' c c' d d' : Option (List ℕ)) → a ≡ a' → b ≡ b' → c ≡ c' → d ≡ d' → socket a b c d ≡ socket a' b' c' d'
socket_same a a' b b' c c' d d' ea eb ec ed = λ i. socket (ea i) (eb i) (ec i) (ed i)

pub unix_back : (s : UnixSocket) (g : Option (List ℕ)) → IsReadableSocket s → IsOptionalGuid g
    → address (says (record { transport = transports.Unix s; guid = g }))
    ≡ Ok (record { transport = transports.Unix s; guid = g })
unix_back s g v r =
    let ps : List Entry = socket_entry s ∷ [] in
    back (codes "unix") ps (transports.Unix s) g refl (omega arith) (socket_whole s v) r (no_guid s)
    (λ len few. ap (λ read. read >>= λ socket. Ok (transports.Unix socket))
    (socket_same _ _ _ _ _ _ _ _ (found_other ps g (codes "path") refl) (found_other ps g (codes "abstract") refl)
    (found_other ps g (codes "dir") refl) (found_other ps g (codes "tmpdir") refl)
    ∙ socket_read s v))

-- TCP
family_read : (f : Option TcpTransportFamily) → optional family (option_map family_name f) ≡ Ok f
family_read None = refl
family_read (Some families.Ipv4) = refl
family_read (Some families.Ipv6) = refl

family_whole : (f : Option TcpTransportFamily) → list_all is_whole (optional_entry (codes "family") (option_map family_name f)) ≡ true
family_whole None = refl
family_whole (Some families.Ipv4) = refl
family_whole (Some families.Ipv6) = refl

not_plus : (c : ℕ) → IsInRange 48 57 c → c ≢ 43
not_plus c range e = absurd (omega (arith, range.0, range.1))

port_read : (n : ℕ) → n < 65536 → port (decimal n) ≡ Ok n
port_read n small =
    let wide : n < 2 ^ 64 = omega arith in
    let d = decimal_is_IsNumeral n wide in
    let plain = without_leading_plus_none (decimal n) (not_plus _ (digit_at (decimal n) 0 d.0.1 d.0.0)) in
    let P : List ℕ → Type 0 = λ ds. (IsNumeral 10 ds × (digits_value 10 ds < 2 ^ 16)) × (n ≡ digits_value 10 ds) in
    let below : digits_value 10 (decimal n) < 2 ^ 16 = rw d.1 small in
    port_ok (decimal n) n (subst P (sym plain) ((d.0, below), sym d.1))

range_lacks : (c : ℕ) → IsInRange 48 57 c → not (c == 44) ≡ true
range_lacks c range = grind (arith, nat_tests, range.0, range.1)

digits_lacks : (ds : List ℕ) → AllDigits 10 ds → lacks 44 ds ≡ true
digits_lacks [] h = refl
digits_lacks (c ∷ cs) h = together _ _ (range_lacks c (digit_from_value c h.0)) (digits_lacks cs h.1)

port_value : (n : ℕ) → n < 65536 → is_value (decimal n) ≡ true
port_value n small =
    let wide : n < 2 ^ 64 = omega arith in
    let d = decimal_is_IsNumeral n wide in
    together _ _ (lt_true _ _ d.0.0) (digits_lacks (decimal n) d.0.1)

optional_whole : (key : List ℕ) (o : Option (List ℕ)) → is_key key ≡ true → IsOptionalValue o → list_all is_whole (optional_entry key (option_map escaped o)) ≡ true
optional_whole key None k v = refl
optional_whole key (Some bytes) k v = together _ _ (together _ _ k (escaped_value bytes v)) refl

optional_read : (o : Option (List ℕ)) → IsOptionalValue o → optional decoded (option_map escaped o) ≡ Ok o
optional_read None v = refl
optional_read (Some bytes) v = ap (λ d. d >>= λ x. Ok (Some x)) (decoded-escaped bytes v)

-- the values of a TCP address's keys, read in their order
abbrev tcp_of : Bool → Option (List ℕ) → Option (List ℕ) → Option (List ℕ) → Option (List ℕ) → Option (List ℕ) → Result TcpParts AddressKind
tcp_of needed b h p f n =
    if is_some b then Err kinds.Bind
    else (((ok_or h kinds.MissingHost >>= decoded) >>= host_text) >>= λ host.
    ((ok_or p kinds.MissingPort >>= port) >>= λ number.
    (optional family f >>= λ family.
    ((optional decoded n >>= λ file.
    if needed && is_none file then Err kinds.MissingNonceFile else Ok file) >>= λ file.
    Ok (record { host = host; bind = None; port = number; family = family; nonce_file = file })))))

tcp_same : (needed : Bool) (b b' h h' p p' f f' n n' : Option (List ℕ)) → b ≡ b' → h ≡ h' → p ≡ p' → f ≡ f' → n ≡ n' → tcp_of needed b h p f n ≡ tcp_of needed b' h' p' f' n'
tcp_same needed b b' h h' p p' f f' n n' eb eh ep ef en = λ i. tcp_of needed (eb i) (eh i) (ep i) (ef i) (en i)

enough : (n : Option (List ℕ)) → (is_some n && is_none n) ≡ false
enough None = refl
enough (Some x) = refl

not_missing : (b : Bool) (n : Option (List ℕ)) → b ≡ false → (if b then Err kinds.MissingNonceFile else Ok n) ≡ Ok n
not_missing true n e = absurd cc
not_missing false n e = refl

tcp_of-says : (h : List ℕ) (p : ℕ) (f : Option TcpTransportFamily) (n : Option (List ℕ)) → IsValue h → IsUtf8 h
    → p < 65536 → IsOptionalValue n
    → tcp_of (is_some n) None (Some (escaped h)) (Some (decimal p)) (option_map family_name f) (option_map escaped n)
    ≡ Ok (record { host = h; bind = None; port = p; family = f; nonce_file = n })
tcp_of-says h p f n hv hu ps nv =
    ap (λ d. (d >>= host_text) >>= λ host.
    (port (decimal p) >>= λ number.
    (optional family (option_map family_name f) >>= λ family.
    ((optional decoded (option_map escaped n) >>= λ file.
    if is_some n && is_none file then Err kinds.MissingNonceFile else Ok file) >>= λ file.
    Ok (record { host = host; bind = None; port = number; family = family; nonce_file = file })))))
    (decoded-escaped h hv)
    ∙ ap (λ d. d >>= λ host.
    (port (decimal p) >>= λ number.
    (optional family (option_map family_name f) >>= λ family.
    ((optional decoded (option_map escaped n) >>= λ file.
    if is_some n && is_none file then Err kinds.MissingNonceFile else Ok file) >>= λ file.
    Ok (record { host = host; bind = None; port = number; family = family; nonce_file = file })))))
    (host_text_ok h hu)
    ∙ ap (λ d. d >>= λ number.
    (optional family (option_map family_name f) >>= λ family.
    ((optional decoded (option_map escaped n) >>= λ file.
    if is_some n && is_none file then Err kinds.MissingNonceFile else Ok file) >>= λ file.
    Ok (record { host = h; bind = None; port = number; family = family; nonce_file = file }))))
    (port_read p ps)
    ∙ ap (λ d. d >>= λ family.
    ((optional decoded (option_map escaped n) >>= λ file.
    if is_some n && is_none file then Err kinds.MissingNonceFile else Ok file) >>= λ file.
    Ok (record { host = h; bind = None; port = p; family = family; nonce_file = file })))
    (family_read f)
    ∙ ap (λ d. (d >>= λ file. if is_some n && is_none file then Err kinds.MissingNonceFile else Ok file) >>= λ file.
    Ok (record { host = h; bind = None; port = p; family = f; nonce_file = file }))
    (optional_read n nv)
    ∙ ap (λ d. d >>= λ file. Ok (record { host = h; bind = None; port = p; family = f; nonce_file = file })) (not_missing (is_some n && is_none n) n (enough n))

abbrev tcp_parts : List ℕ → ℕ → Option TcpTransportFamily → Option (List ℕ) → TcpParts
tcp_parts h p f n = record { host = h; bind = None; port = p; family = f; nonce_file = n }

tcp_found : (h : List ℕ) (p : ℕ) (f : Option TcpTransportFamily) (n : Option (List ℕ)) →
    (value_of (tcp_entries (tcp_parts h p f n)) (codes "bind") ≡ None)
    × (value_of (tcp_entries (tcp_parts h p f n)) (codes "host") ≡ Some (escaped h))
    × (value_of (tcp_entries (tcp_parts h p f n)) (codes "port") ≡ Some (decimal p))
    × (value_of (tcp_entries (tcp_parts h p f n)) (codes "family") ≡ option_map family_name f)
    × (value_of (tcp_entries (tcp_parts h p f n)) (codes "noncefile") ≡ option_map escaped n)
    × (value_of (tcp_entries (tcp_parts h p f n)) (codes "guid") ≡ None)
tcp_found h p None None = (refl, refl, refl, refl, refl, refl)
tcp_found h p None (Some n) = (refl, refl, refl, refl, refl, refl)
tcp_found h p (Some f) None = (refl, refl, refl, refl, refl, refl)
tcp_found h p (Some f) (Some n) = (refl, refl, refl, refl, refl, refl)

tcp_whole : (h : List ℕ) (p : ℕ) (f : Option TcpTransportFamily) (n : Option (List ℕ)) → IsValue h → p < 65536 → IsOptionalValue n → list_all is_whole (tcp_entries (tcp_parts h p f n)) ≡ true
tcp_whole h p f n hv ps nv =
    all_append (optional_entry (codes "noncefile") (option_map escaped n) ++ ((codes "host", escaped h) ∷ (codes "port", decimal p) ∷ [])) (optional_entry (codes "family") (option_map family_name f))
    (all_append (optional_entry (codes "noncefile") (option_map escaped n)) ((codes "host", escaped h) ∷ (codes "port", decimal p) ∷ [])
    (optional_whole (codes "noncefile") n refl nv)
    (together _ _ (escaped_value h hv) (together _ _ (port_value p ps) refl)))
    (family_whole f)

tcp_named : (n : Option (List ℕ)) (len : ℕ) (value : Lookup) (t : TcpParts) → tcp (is_some n) value ≡ Ok t → transport (tcp_name_by n) len value ≡ Ok (transports.Tcp t)
tcp_named None len value t h = ap (λ read. read >>= λ tcp. Ok (transports.Tcp tcp)) h
tcp_named (Some x) len value t h = ap (λ read. read >>= λ tcp. Ok (transports.Tcp tcp)) h

tcp_name_plain : (n : Option (List ℕ)) → (lacks 58 (tcp_name_by n) ≡ true) × (0 < length (tcp_name_by n))
tcp_name_plain None = (refl, omega arith)
tcp_name_plain (Some x) = (refl, omega arith)

tcp_parts_back : (h : List ℕ) (p : ℕ) (f : Option TcpTransportFamily) (n g : Option (List ℕ)) → IsValue h → IsUtf8 h
    → p < 65536 → IsOptionalValue n → IsOptionalGuid g
    → address (says (record { transport = transports.Tcp (tcp_parts h p f n); guid = g }))
    ≡ Ok (record { transport = transports.Tcp (tcp_parts h p f n); guid = g })
tcp_parts_back h p f n g hv hu ps nv r =
    let es : List Entry = tcp_entries (tcp_parts h p f n) in
    let found = tcp_found h p f n in
    let name = tcp_name_plain n in
    back (tcp_name_by n) es (transports.Tcp (tcp_parts h p f n)) g name.0 name.1 (tcp_whole h p f n hv ps nv) r found.5
    (λ len few. tcp_named n len (value_of (es ++ optional_entry (codes "guid") g)) (tcp_parts h p f n)
    (tcp_same (is_some n) _ _ _ _ _ _ _ _ _ _
    (found_other es g (codes "bind") refl ∙ found.0)
    (found_other es g (codes "host") refl ∙ found.1)
    (found_other es g (codes "port") refl ∙ found.2)
    (found_other es g (codes "family") refl ∙ found.3)
    (found_other es g (codes "noncefile") refl ∙ found.4)
    ∙ tcp_of-says h p f n hv hu ps nv))

pub tcp_back : (t : TcpParts) (g : Option (List ℕ)) → IsReadableTcp t → IsOptionalGuid g
    → address (says (record { transport = transports.Tcp t; guid = g }))
    ≡ Ok (record { transport = transports.Tcp t; guid = g })
tcp_back t g v r =
    let made : Option (List ℕ) → AddressParts = λ b. record {
      transport = transports.Tcp
          (record { host = t.host; bind = b; port = t.port; family = t.family; nonce_file = t.nonce_file });
      guid = g;
    } in
    let P : Option (List ℕ) → Type 0 = λ b. address (says (made b)) ≡ Ok (made b) in
    subst P (sym v.bind) (tcp_parts_back t.host t.port t.family t.nonce_file g v.host v.text v.port v.nonce_file r)

pub ibus_back : (t : Ibus) (g : Option (List ℕ)) → IsOptionalGuid g → address (says (record { transport = transports.Ibus t; guid = g })) ≡ Ok (record { transport = transports.Ibus t; guid = g })
ibus_back t g r = back (codes "ibus") [] (transports.Ibus t) g refl (omega arith) refl r refl (λ len few. refl)

-- programs
nat_same : (x : ℕ) → (x == x) ≡ true
nat_same x = grind (arith, nat_tests)

bytes_same : (xs : List ℕ) → bytes_eq xs xs ≡ true
bytes_same [] = refl
bytes_same (x ∷ xs) = together _ _ (nat_same x) (bytes_same xs)

different_by : (b : Bool) (m n : ℕ) → bytes_eq (argument_key m) (argument_key n) ≡ b → m < 2 ^ 64 → n < 2 ^ 64 → m ≢ n → b ≡ false
different_by true m n is ms ns other =
    let same : argument_key m ≡ argument_key n = (bytes_eq-Decides (argument_key m) (argument_key n)).0 is in
    let digits : decimal m ≡ decimal n = cc in
    absurd (other (decimal_injective m n ms ns digits))
different_by false m n is ms ns other = refl

-- two numbers have two keys
different : (m n : ℕ) → m < 2 ^ 64 → n < 2 ^ 64 → m ≢ n → bytes_eq (argument_key m) (argument_key n) ≡ false
different m n ms ns other = different_by (bytes_eq (argument_key m) (argument_key n)) m n refl ms ns other

if_none : (b : Bool) (v : List ℕ) → b ≡ false → (if b then Some v else None) ≡ None
if_none true v e = absurd cc
if_none false v e = refl

if_some : (b : Bool) (v : List ℕ) → b ≡ true → (if b then Some v else None) ≡ Some v
if_some true v e = refl
if_some false v e = absurd cc

or_none : (o : Option (List ℕ)) → option_or o None ≡ o
or_none None = refl
or_none (Some v) = refl

-- arguments from the number k on
abbrev numbered : ℕ → List (List ℕ) → List Entry
numbered k args = argument_entries (enumerate_from k args)

none_at : (key : List ℕ) (k : ℕ) (args : List (List ℕ)) → ((n : ℕ) → k ≤ n → n < k + length args → bytes_eq (argument_key n) key ≡ false) → value_of (numbered k args) key ≡ None
none_at key k [] h = refl
none_at key k (a ∷ rest) h =
    ap (λ o. option_or o (if bytes_eq (argument_key k) key then Some (escaped a) else None)) (none_at key (k + 1) rest (λ n low high. h n (omega arith) (omega arith)))
    ∙ if_none (bytes_eq (argument_key k) key) (escaped a) (h k (omega arith) (omega arith))

first_found : (k : ℕ) (a : List ℕ) (rest : List (List ℕ)) → k + length (a ∷ rest) < 2 ^ 64 → value_of (numbered k (a ∷ rest)) (argument_key k) ≡ Some (escaped a)
first_found k a rest small =
    ap (λ o. option_or o (if bytes_eq (argument_key k) (argument_key k) then Some (escaped a) else None))
    (none_at (argument_key k) (k + 1) rest (λ n low high. different n k (omega arith) (omega arith) (λ e. absurd (omega arith))))
    ∙ if_some (bytes_eq (argument_key k) (argument_key k)) (escaped a) (bytes_same (argument_key k))

later_found : (k n : ℕ) (a : List ℕ) (rest : List (List ℕ)) → k < n → n < 2 ^ 64 → value_of (numbered k (a ∷ rest)) (argument_key n) ≡ value_of (numbered (k + 1) rest) (argument_key n)
later_found k n a rest low small =
    ap (λ o. option_or (value_of (numbered (k + 1) rest) (argument_key n)) o)
    (if_none (bytes_eq (argument_key k) (argument_key n)) (escaped a) (different k n (omega arith) small (λ e. absurd (omega arith))))
    ∙ or_none (value_of (numbered (k + 1) rest) (argument_key n))

-- the arguments are found one by one
walk : (args : List (List ℕ)) (k most : ℕ) (argument : ℕ → Option (List ℕ))
    → ((n : ℕ) → k ≤ n → n ≤ k + length args → argument n ≡ value_of (numbered k args) (argument_key n))
    → k + length args < 2 ^ 64 → length args < most → arguments_from argument k most ≡ map escaped args
walk args k zero argument same small enough = absurd (omega arith)
walk [] k (suc most) argument same small enough = ap (λ o. up_to_missing o (arguments_from argument (suc k) most)) (same k (omega arith) (omega arith))
walk (a ∷ rest) k (suc most) argument same small enough =
    let next : suc k ≡ k + 1 = omega arith in
    ap (λ o. up_to_missing o (arguments_from argument (suc k) most)) (same k (omega arith) (omega arith) ∙ first_found k a rest small)
    ∙ ap (λ m. escaped a ∷ arguments_from argument m most) next
    ∙ ap (λ vs. escaped a ∷ vs)
    (walk rest (k + 1) most argument (λ n low high. same n (omega arith) (omega arith) ∙ later_found k n a rest (omega arith) (omega arith)) (omega arith) (omega arith))

all_decoded-escaped : (args : List (List ℕ)) → AreValues args → all_decoded (map escaped args) ≡ Ok args
all_decoded-escaped [] v = refl
all_decoded-escaped (a ∷ rest) v =
    ap (λ d. d >>= λ bytes. (all_decoded (map escaped rest) >>= λ others. Ok (bytes ∷ others))) (decoded-escaped a v.0)
    ∙ ap (λ d. d >>= λ others. Ok (a ∷ others)) (all_decoded-escaped rest v.1)

or_assoc : (a b c : Option (List ℕ)) → option_or (option_or a b) c ≡ option_or a (option_or b c)
or_assoc None b c = refl
or_assoc (Some x) b c = refl

value_of-append : (xs ys : List Entry) (key : List ℕ) → value_of (xs ++ ys) key ≡ option_or (value_of ys key) (value_of xs key)
value_of-append [] ys key = sym (or_none (value_of ys key))
value_of-append (x ∷ xs) ys key =
    ap (λ o. option_or o (if bytes_eq x.0 key then Some x.1 else None)) (value_of-append xs ys key)
    ∙ or_assoc (value_of ys key) (value_of xs key) (if bytes_eq x.0 key then Some x.1 else None)

-- the keys of a program before its numbered arguments
abbrev program_front : List ℕ → Option (List ℕ) → List Entry
program_front path arg0 = (codes "path", escaped path) ∷ optional_entry (codes "argv0") (option_map escaped arg0)

behind_front : (path : List ℕ) (arg0 : Option (List ℕ)) (args : List (List ℕ)) (key : List ℕ)
    → value_of (numbered 1 args) key ≡ None
    → value_of (program_front path arg0 ++ numbered 1 args) key ≡ value_of (program_front path arg0) key
behind_front path arg0 args key none =
    value_of-append (program_front path arg0) (numbered 1 args) key ∙ ap (λ o. option_or o (value_of (program_front path arg0) key)) none

front_path : (path : List ℕ) (arg0 : Option (List ℕ))
    → (value_of (program_front path arg0) (codes "path") ≡ Some (escaped path))
    × (value_of (program_front path arg0) (codes "argv0") ≡ option_map escaped arg0)
    × (value_of (program_front path arg0) (codes "guid") ≡ None)
front_path path None = (refl, refl, refl)
front_path path (Some a) = (refl, refl, refl)

zero_key : argument_key 0 ≡ codes "argv0"
zero_key = ap (λ ds. codes "argv" ++ ds) (decimal_digit 0 (omega arith))

front_number : (path : List ℕ) (arg0 : Option (List ℕ)) (n : ℕ) → 1 ≤ n → n < 2 ^ 64 → value_of (program_front path arg0) (argument_key n) ≡ None
front_number path None n low small = refl
front_number path (Some a) n low small =
    let apart : bytes_eq (codes "argv0") (argument_key n) ≡ false = ap (λ key. bytes_eq key (argument_key n)) (sym zero_key) ∙ different 0 n (omega arith) small (λ e. absurd (omega arith)) in
    ap (λ o. option_or o None) (if_none (bytes_eq (codes "argv0") (argument_key n)) (escaped a) apart)

apart_zero : (args : List (List ℕ)) → length args + 1 < 2 ^ 64 → value_of (numbered 1 args) (codes "argv0") ≡ None
apart_zero args small =
    none_at (codes "argv0") 1 args (λ n low high.
    ap (λ key. bytes_eq (argument_key n) key) (sym zero_key) ∙ different n 0 (omega arith) (omega arith) (λ e. absurd (omega arith)))

digit_key : (c : ℕ) → IsInRange 48 57 c → is_ascii_alphanumeric c ≡ true
digit_key c range = grind (arith, nat_tests, range.0, range.1)

digits_key : (ds : List ℕ) → AllDigits 10 ds → list_all is_ascii_alphanumeric ds ≡ true
digits_key [] h = refl
digits_key (c ∷ cs) h = together _ _ (digit_key c (digit_from_value c h.0)) (digits_key cs h.1)

key_whole : (n : ℕ) → n < 2 ^ 64 → is_key (argument_key n) ≡ true
key_whole n small =
    let long : 0 < length (argument_key n) = omega arith in
    together _ _ (lt_true 0 (length (argument_key n)) long) (digits_key (decimal n) (decimal_is_IsNumeral n small).0.1)

args_whole : (k : ℕ) (args : List (List ℕ)) → k + length args < 2 ^ 64 → AreValues args → list_all is_whole (numbered k args) ≡ true
args_whole k [] small v = refl
args_whole k (a ∷ rest) small v =
    together _ _ (together _ _ (key_whole k (omega arith)) (escaped_value a v.0)) (args_whole (k + 1) rest (omega arith) v.1)

length-numbered : (k : ℕ) (args : List (List ℕ)) → length (numbered k args) ≡ length args
length-numbered k [] = refl
length-numbered k (a ∷ rest) = let count = length-numbered (k + 1) rest in omega (arith, count)

abbrev program_parts : List ℕ → Option (List ℕ) → List (List ℕ) → ProgramParts
program_parts path arg0 args = record { path = path; arg0 = arg0; args = args }

abbrev program_of : Option (List ℕ) → Option (List ℕ) → Result (List (List ℕ)) AddressKind → Result ProgramParts AddressKind
program_of p a r = (ok_or p kinds.MissingPath >>= decoded) >>= λ path. (optional decoded a >>= λ arg0. (r >>= λ args. Ok (record { path = path; arg0 = arg0; args = args })))

program_same : (p p' a a' : Option (List ℕ)) (r r' : Result (List (List ℕ)) AddressKind) → p ≡ p' → a ≡ a' → r ≡ r' → program_of p a r ≡ program_of p' a' r'
program_same p p' a a' r r' ep ea er = λ i. program_of (ep i) (ea i) (er i)

program_of-says : (path : List ℕ) (arg0 : Option (List ℕ)) (args : List (List ℕ)) → IsValue path → IsOptionalValue arg0
    → AreValues args
    → program_of (Some (escaped path)) (option_map escaped arg0) (all_decoded (map escaped args))
    ≡ Ok (program_parts path arg0 args)
program_of-says path arg0 args pv av vs =
    ap (λ d. d >>= λ path.
    (optional decoded (option_map escaped arg0) >>= λ arg0.
    (all_decoded (map escaped args) >>= λ args. Ok (record { path = path; arg0 = arg0; args = args }))))
    (decoded-escaped path pv)
    ∙ ap (λ d. d >>= λ arg0. (all_decoded (map escaped args) >>= λ args. Ok (record { path = path; arg0 = arg0; args = args }))) (optional_read arg0 av)
    ∙ ap (λ d. d >>= λ args. Ok (record { path = path; arg0 = arg0; args = args })) (all_decoded-escaped args vs)

numbered_found : (path : List ℕ) (arg0 : Option (List ℕ)) (args : List (List ℕ)) (g : Option (List ℕ)) (n : ℕ) → 1 ≤ n
    → n < 2 ^ 64
    → value_of ((program_front path arg0 ++ numbered 1 args) ++ optional_entry (codes "guid") g) (argument_key n)
    ≡ value_of (numbered 1 args) (argument_key n)
numbered_found path arg0 args g n low small =
    found_other (program_front path arg0 ++ numbered 1 args) g (argument_key n) refl
    ∙ value_of-append (program_front path arg0) (numbered 1 args) (argument_key n)
    ∙ ap (λ o. option_or (value_of (numbered 1 args) (argument_key n)) o) (front_number path arg0 n low small)
    ∙ or_none (value_of (numbered 1 args) (argument_key n))

front_long : (path : List ℕ) (arg0 : Option (List ℕ)) → 0 < length (program_front path arg0)
front_long path arg0 = omega arith

pub program_back : (p : ProgramParts) (g : Option (List ℕ)) → IsReadableProgram p → IsOptionalGuid g
    → length (says (record { transport = transports.Unixexec p; guid = g })) < 2 ^ 64
    → address (says (record { transport = transports.Unixexec p; guid = g }))
    ≡ Ok (record { transport = transports.Unixexec p; guid = g })
program_back p g v r fits =
    let es : List Entry = program_front p.path p.arg0 ++ numbered 1 p.args in
    let front = front_path p.path p.arg0 in
    let count = length-numbered 1 p.args in
    let some = front_long p.path p.arg0 in
    let few : length p.args + 1 < 2 ^ 64 = omega (arith, count, front_short (codes "unixexec") es (optional_entry (codes "guid") g), length-append (program_front p.path p.arg0) (numbered 1 p.args)) in
    back (codes "unixexec") es (transports.Unixexec p) g refl (omega arith)
    (all_append (program_front p.path p.arg0) (numbered 1 p.args)
    (together _ _ (escaped_value p.path v.path) (optional_whole (codes "argv0") p.arg0 refl v.arg0))
    (args_whole 1 p.args (omega arith) v.args))
    r
    (behind_front p.path p.arg0 p.args (codes "guid") (none_at (codes "guid") 1 p.args (λ n low high. refl)) ∙ front.2)
    (λ len enough. ap (λ read. read >>= λ program. Ok (transports.Unixexec program))
    (program_same _ _ _ _ _ _
    (found_other es g (codes "path") refl ∙ behind_front p.path p.arg0 p.args (codes "path") (none_at (codes "path") 1 p.args (λ n low high. refl)) ∙ front.0)
    (found_other es g (codes "argv0") refl ∙ behind_front p.path p.arg0 p.args (codes "argv0") (apart_zero p.args few) ∙ front.1)
    (ap all_decoded (walk p.args 1 len (λ n. value_of (es ++ optional_entry (codes "guid") g) (argument_key n))
    (λ n low high. numbered_found p.path p.arg0 p.args g n low (omega arith)) (omega arith)
    (omega (arith, count, enough, some, length-append (program_front p.path p.arg0) (numbered 1 p.args)))))
    ∙ program_of-says p.path p.arg0 p.args v.path v.arg0 v.args))

back_by : (t : Transport) (g : Option (List ℕ)) → IsReadableTransport t → IsOptionalGuid g
    → length (says (record { transport = t; guid = g })) < 2 ^ 64
    → address (says (record { transport = t; guid = g })) ≡ Ok (record { transport = t; guid = g })
back_by (transports.Unix s) g v r fits = unix_back s g v r
back_by (transports.Tcp t) g v r fits = tcp_back t g v r
back_by (transports.Unixexec p) g v r fits = program_back p g v r fits
back_by (transports.Ibus i) g v r fits = ibus_back i g r

-- each printed address that can be read is read
says_back : (a : AddressParts) → IsReadable a → length (says a) < 2 ^ 64 → address (says a) ≡ Ok a
says_back a v fits = back_by a.transport a.guid v.transport v.guid fits

pub gives_back : (text : List ℕ) (answer : Result AddressParts AddressError) → length text < 2 ^ 64
    → Gives answer (address text) → (a : AddressParts) → IsReadable a → says a ≡ text → Gives answer (Ok a)
gives_back text answer fits given a v is_text =
    let P : List ℕ → Type 0 = λ t. length t < 2 ^ 64 → address t ≡ Ok a in
    let read : address text ≡ Ok a = subst P is_text (says_back a v) fits in
    let Q : Result AddressParts AddressKind → Type 0 = λ said. Gives answer said in
    subst Q read given
