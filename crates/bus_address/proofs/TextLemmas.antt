-- Printed pieces in a row are the text of a list of keys with their values.
use Rattle.std.proofs.Common.{◌≡◌, ℕ, zero, suc, ◌+◌, ◌<◌, List, [], ◌∷◌, ◌++◌, Option, Some, None, Vec, map, length, take, get_or, refl, sym, ap, ◌∙◌, append_assoc, add-zero, arith, codes}
use Rattle.std.proofs.lemmas.List.{append-nil}
use Rattle.std.specs.Fmt.{decimal}
use Rattle.std.specs.Option.{option_map}
use Rattle.std.specs.List.{flat_map, enumerate_from}
use Rattle.bus_address.specs.declared.transport.Transport.{Transport}
use Rattle.bus_address.specs.declared.transport.Transport.TheVariants as transports
use Rattle.bus_address.specs.Entries.{Entry, entry_text, entries_text, address_text}
use Rattle.bus_address.specs.Escapes.{escaped}
use Rattle.bus_address.specs.Parts.{ProgramParts}
use Rattle.bus_address.specs.Printed.{socket_entry, tcp_name, family_name, optional_entry, behind, numbered_text, arguments_text, argument_entries, program_text}
use Rattle.bus_address.specs.Address.{AddressParts, transport_text, guid_front, says}

-- one more entry behind others
entries_text-push : (first : Entry) (others : List Entry) (last : Entry) → entries_text ((first ∷ others) ++ last ∷ []) ≡ entries_text (first ∷ others) ++ 44 ∷ entry_text last
entries_text-push first [] last = refl
entries_text-push first (second ∷ others) last =
    ap (λ v. entry_text first ++ 44 ∷ v) (entries_text-push second others last)
    ∙ sym (append_assoc (entry_text first) (44 ∷ entries_text (second ∷ others)) (44 ∷ entry_text last))

text-push : (name : List ℕ) (first : Entry) (others : List Entry) (last : Entry) → address_text name ((first ∷ others) ++ last ∷ []) ≡ address_text name (first ∷ others) ++ 44 ∷ entry_text last
text-push name first others last =
    ap (λ v. name ++ 58 ∷ v) (entries_text-push first others last) ∙ sym (append_assoc name (58 ∷ entries_text (first ∷ others)) (44 ∷ entry_text last))

-- the first entry, and each other behind a comma
pub entries_text-cons : (first : Entry) (others : List Entry) → entries_text (first ∷ others) ≡ entry_text first ++ flat_map (λ e. 44 ∷ entry_text e) others
entries_text-cons first [] = sym (append-nil (entry_text first))
entries_text-cons first (second ∷ others) = ap (λ v. entry_text first ++ 44 ∷ v) (entries_text-cons second others)

flat_map-numbered : (arguments : List (ℕ × List ℕ)) → flat_map (λ e. 44 ∷ entry_text e) (argument_entries arguments) ≡ flat_map numbered_text arguments
flat_map-numbered [] = refl
flat_map-numbered (argument ∷ arguments) = ap (λ v. numbered_text argument ++ v) (flat_map-numbered arguments)

-- the keys behind the path
program_behind : (arg0 : Option (List ℕ)) (args : List (List ℕ))
    → behind (codes "argv0") arg0 ++ arguments_text args
    ≡ flat_map (λ e. 44 ∷ entry_text e)
    (optional_entry (codes "argv0") (option_map escaped arg0) ++ argument_entries (enumerate_from 1 args))
program_behind None args = sym (flat_map-numbered (enumerate_from 1 args))
program_behind (Some arg0) args = ap (λ v. (44 ∷ entry_text (codes "argv0", escaped arg0)) ++ v) (sym (flat_map-numbered (enumerate_from 1 args)))

-- what is printed of a program
program_written : (path : List ℕ) (arg0 : Option (List ℕ)) (args : List (List ℕ))
    → codes "unixexec:"
    ++ (entry_text (codes "path", escaped path) ++ (behind (codes "argv0") arg0 ++ arguments_text args))
    ≡ program_text (record { path = path; arg0 = arg0; args = args })
program_written path arg0 args =
    ap (λ v. codes "unixexec:" ++ v)
    (ap (λ v. entry_text (codes "path", escaped path) ++ v) (program_behind arg0 args)
    ∙ sym (entries_text-cons (codes "path", escaped path) (optional_entry (codes "argv0") (option_map escaped arg0) ++ argument_entries (enumerate_from 1 args))))

pub program_pieces : (path : List ℕ) (arg0 : Option (List ℕ)) (args : List (List ℕ)) (p : ProgramParts) → path ≡ p.path
    → arg0 ≡ p.arg0 → args ≡ p.args
    → codes "unixexec:"
    ++ (entry_text (codes "path", escaped path) ++ (behind (codes "argv0") arg0 ++ arguments_text args))
    ≡ program_text p
program_pieces path arg0 args p path_is arg0_is args_is =
    program_written path arg0 args ∙ (λ i. program_text (record { path = path_is i; arg0 = arg0_is i; args = args_is i }))

-- the texts of vectors, numbered from n on
abbrev numbered_from : {A : Type 0} → ℕ → List (Vec ℕ A) → List ℕ
numbered_from n vs = flat_map numbered_text (enumerate_from n (map (λ v. v.items) vs))

numbered_more : {A : Type 0} (vs : List (Vec ℕ A)) (n i : ℕ) (v : Vec ℕ A) → i < length vs → v ≡ get_or vs i v
    → numbered_from n (take (suc i) vs) ≡ numbered_from n (take i vs) ++ numbered_text (n + i, v.items)
numbered_more [] n i v inside at = absurd (omega arith)
numbered_more (w ∷ ws) n zero v inside at = append-nil (numbered_text (n, w.items)) ∙ rw (at, add-zero) refl
numbered_more (w ∷ ws) n (suc i) v inside at =
    ap (λ x. numbered_text (n, w.items) ++ x) (numbered_more ws (n + 1) i v (omega arith) at)
    ∙ sym (append_assoc (numbered_text (n, w.items)) (numbered_from (n + 1) (take i ws)) (numbered_text (n + 1 + i, v.items)))
    ∙ ap (λ m. (numbered_text (n, w.items) ++ numbered_from (n + 1) (take i ws)) ++ numbered_text (m, v.items)) (omega arith)

-- one argument more
pub arguments_more : {A : Type 0} (vs : List (Vec ℕ A)) (i : ℕ) (v : Vec ℕ A) (bytes : List ℕ) → i < length vs
    → v ≡ get_or vs i v → bytes ≡ v.items
    → arguments_text (map (λ v. v.items) (take i vs)) ++ numbered_text (i + 1, bytes)
    ≡ arguments_text (map (λ v. v.items) (take (i + 1) vs))
arguments_more vs i v bytes inside at bytes_is =
    let number : i + 1 ≡ 1 + i = omega arith in
    let next : suc i ≡ i + 1 = omega arith in
    ap (λ b. arguments_text (map (λ v. v.items) (take i vs)) ++ numbered_text (i + 1, b)) bytes_is
    ∙ ap (λ m. arguments_text (map (λ v. v.items) (take i vs)) ++ numbered_text (m, v.items)) number
    ∙ sym (numbered_more vs 1 i v inside at)
    ∙ ap (λ m. arguments_text (map (λ v. v.items) (take m vs))) next

push_optional : (name key : List ℕ) (o : Option (List ℕ)) (first : Entry) (others behind : List Entry) (last : Entry)
    → address_text name (((optional_entry key o ++ (first ∷ others)) ++ behind) ++ last ∷ [])
    ≡ address_text name ((optional_entry key o ++ (first ∷ others)) ++ behind) ++ 44 ∷ entry_text last
push_optional name key None first others behind last = text-push name first (others ++ behind) last
push_optional name key (Some value) first others behind last = text-push name (key, value) ((first ∷ others) ++ behind) last

-- a GUID behind a transport's text
pub guid_written : (transport : Transport) (guid : List ℕ) → transport_text transport ++ (guid_front transport ++ guid) ≡ says (record { transport = transport; guid = Some guid })
guid_written (transports.Unix socket) guid = sym (text-push (codes "unix") (socket_entry socket) [] (codes "guid", guid))
guid_written (transports.Tcp tcp) guid =
    sym (push_optional (tcp_name tcp) (codes "noncefile") (option_map escaped tcp.nonce_file) (codes "host", escaped tcp.host)
    ((codes "port", decimal tcp.port) ∷ optional_entry (codes "bind") (option_map escaped tcp.bind))
    (optional_entry (codes "family") (option_map family_name tcp.family)) (codes "guid", guid))
guid_written (transports.Unixexec program) guid =
    sym (text-push (codes "unixexec") (codes "path", escaped program.path)
    (optional_entry (codes "argv0") (option_map escaped program.arg0) ++ argument_entries (enumerate_from 1 program.args)) (codes "guid", guid))
guid_written (transports.Ibus ibus) guid = refl

pub guid_pieces : (transport : Transport) (stored : Option (List ℕ)) (guid front : List ℕ) (a : AddressParts)
    → record { transport = transport; guid = stored } ≡ a → stored ≡ Some guid → front ≡ guid_front transport
    → transport_text transport ++ (front ++ guid) ≡ says a
guid_pieces transport stored guid front a whole is_stored front_is =
    ap (λ v. transport_text transport ++ (v ++ guid)) front_is
    ∙ guid_written transport guid
    ∙ ap (λ s. says (record { transport = transport; guid = s })) (sym is_stored)
    ∙ ap says whole
