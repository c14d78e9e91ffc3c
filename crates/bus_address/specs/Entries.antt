-- The text of an address: a transport's name, a colon, and keys with their values, parted by commas
-- (D-Bus specification, Server Addresses).
use Rattle.std.specs.Prelude.{ℕ, Bool, ◌==◌, ◌&&◌, nat_lt, is_some, if◌then◌else◌, List}
use Rattle.std.specs.Prelude.{[], ◌∷◌, ◌++◌, length, map, Option, Some, None, codes}
use Rattle.std.specs.Option.{option_or}
use Rattle.std.specs.List.{join_with_byte, slice_split, before_first}
use Rattle.std.specs.List.{after_first, position_or_len, list_all, filter_map}
use Rattle.std.specs.Char.{is_ascii_alphanumeric}
use Rattle.std.specs.Str.{bytes_eq}
use Rattle.std.specs.Fmt.{decimal}

-- a key with its value
abbrev pub Entry : Type 0
Entry = List ℕ × List ℕ

-- `key=value`
abbrev pub entry_text : Entry → List ℕ
entry_text entry = entry.0 ++ 61 ∷ entry.1

-- keys with their values, parted by commas
abbrev pub entries_text : List Entry → List ℕ
entries_text entries = join_with_byte 44 (map entry_text entries)

-- the whole text
abbrev pub address_text : List ℕ → List Entry → List ℕ
address_text name entries = name ++ 58 ∷ entries_text entries

-- the key of a program's argument
abbrev pub argument_key : ℕ → List ℕ
argument_key n = codes "argv" ++ decimal n

-- a key is one or more letters and digits
abbrev pub is_key : List ℕ → Bool
is_key key = nat_lt 0 (length key) && list_all is_ascii_alphanumeric key

-- the key and the value of a text: the key stands before the first =, and the value is what follows, one or more bytes
abbrev pub entry : List ℕ → Option Entry
entry text =
    if is_key (before_first (λ b. b == 61) text) && nat_lt 0 (length (after_first (λ b. b == 61) text))
    then Some (before_first (λ b. b == 61) text, after_first (λ b. b == 61) text)
    else None

-- the parts of a text between its commas; an empty text has none
abbrev pub parts : List ℕ → List (List ℕ)
parts [] = []
parts (b ∷ bs) = slice_split (λ b. b == 44) (b ∷ bs)

-- the keys and values of a text, each part of which must have both
abbrev pub entries_of : List (List ℕ) → Option (List Entry)
entries_of texts = if list_all (λ text. is_some (entry text)) texts then Some (filter_map entry texts) else None

abbrev pub entries : List ℕ → Option (List Entry)
entries text = entries_of (parts text)

-- the name of the transport, one or more bytes before the first colon, and what follows that colon
abbrev pub transport_and_rest : List ℕ → Option (List ℕ × List ℕ)
transport_and_rest text =
    if nat_lt (position_or_len (λ b. b == 58) text) (length text)
    && nat_lt 0 (length (before_first (λ b. b == 58) text))
    then Some (before_first (λ b. b == 58) text, after_first (λ b. b == 58) text)
    else None

-- the value of a key: of equal keys the last counts
abbrev pub value_of : List Entry → List ℕ → Option (List ℕ)
value_of [] key = None
value_of (entry ∷ others) key = option_or (value_of others key) (if bytes_eq entry.0 key then Some entry.1 else None)
