-- The GUID that names a server, as its text (D-Bus specification, UUIDs).
use Rattle.std.specs.Prelude.{ℕ, Bool, ◌==◌, ◌&&◌, ◌||◌, nat_le, if◌then◌else◌, List, length, map, Option, Some, None}
use Rattle.std.specs.List.{list_all}
use Rattle.std.specs.Char.{to_ascii_lowercase, is_ascii_hexdigit}

-- a digit as it is printed: 0 to 9, or a to f
abbrev pub is_lower_hexdigit : ℕ → Bool
is_lower_hexdigit c = (nat_le 48 c && nat_le c 57) || (nat_le 97 c && nat_le c 102)

-- 32 digits as they are printed
abbrev pub is_guid : List ℕ → Bool
is_guid text = (length text == 32) && list_all is_lower_hexdigit text

-- the GUID that a text spells, in lower case
abbrev pub guid : List ℕ → Option (List ℕ)
guid text = if (length text == 32) && list_all is_ascii_hexdigit text then Some (map to_ascii_lowercase text) else None
