-- The grammars of names, as tests of whole texts (D-Bus specification, Valid Names).
use Rattle.std.specs.Prelude.{ℕ, Bool, false, ◌&&◌, ◌||◌, ◌==◌, nat_eq, nat_le, List, [], ◌∷◌, length, codes}
use Rattle.std.specs.List.{list_all, slice_split}
use Rattle.std.specs.Char.{is_ascii_alphabetic, is_ascii_alphanumeric}
use Rattle.std.specs.Cmp.Lexicographic.{pointwise}
use Rattle.bus_names.specs.declared.grammar.Form.{Form}
use Rattle.bus_names.specs.declared.grammar.Form.TheVariants.{Plain, Dashed, Numbered}

-- the byte may be the first of an element: 95 is _ and 45 is -
abbrev pub starts : Form → ℕ → Bool
starts Plain c = is_ascii_alphabetic c || c == 95
starts Dashed c = (is_ascii_alphabetic c || c == 95) || c == 45
starts Numbered c = (is_ascii_alphanumeric c || c == 95) || c == 45

-- the byte may be a later one of an element
abbrev pub goes_on : Form → ℕ → Bool
goes_on Plain c = is_ascii_alphanumeric c || c == 95
goes_on Dashed c = (is_ascii_alphanumeric c || c == 95) || c == 45
goes_on Numbered c = (is_ascii_alphanumeric c || c == 95) || c == 45

-- one byte or more
abbrev pub is_element : Form → List ℕ → Bool
is_element form [] = false
is_element form (c ∷ cs) = starts form c && list_all (goes_on form) cs

-- the texts between the dots: 46 is .
abbrev pub elements : List ℕ → List (List ℕ)
elements text = slice_split (λ c. c == 46) text

-- two or more elements, parted by dots
abbrev pub is_dotted : Form → List ℕ → Bool
is_dotted form text = nat_le 2 (length (elements text)) && list_all (is_element form) (elements text)

-- a colon, which is 58, and two or more elements
abbrev pub is_connection : List ℕ → Bool
is_connection [] = false
is_connection (c ∷ cs) = c == 58 && is_dotted Numbered cs

-- the greatest length of a name
abbrev pub is_short : List ℕ → Bool
is_short text = nat_le (length text) 255

abbrev pub is_interface_name : List ℕ → Bool
is_interface_name text = is_short text && is_dotted Plain text

abbrev pub is_error_name : List ℕ → Bool
is_error_name text = is_short text && is_dotted Plain text

abbrev pub is_member_name : List ℕ → Bool
is_member_name text = is_short text && is_element Plain text

abbrev pub is_property_name : List ℕ → Bool
is_property_name text = nat_le 1 (length text) && is_short text

abbrev pub is_well_known_name : List ℕ → Bool
is_well_known_name text = is_short text && is_dotted Dashed text

-- the name of the bus itself
abbrev pub the_bus : List ℕ
the_bus = codes "org.freedesktop.DBus"

abbrev pub is_unique_name : List ℕ → Bool
is_unique_name text = is_short text && (pointwise nat_eq text the_bus || is_connection text)

-- a bus name is a unique or a well-known name
abbrev pub is_bus_name : List ℕ → Bool
is_bus_name text = is_unique_name text || is_well_known_name text
