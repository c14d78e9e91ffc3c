-- Escapes in the values of an address: optionally escaped bytes (D-Bus specification, Server Addresses).
use Rattle.std.specs.Prelude.{ℕ, ◌+◌, ◌*◌, ◌/◌, ◌%◌, Bool, ◌==◌, ◌&&◌, ◌||◌}
use Rattle.std.specs.Prelude.{if◌then◌else◌, List, [], ◌∷◌, ◌++◌, Option, Some, None}
use Rattle.std.specs.Option.{option_map}
use Rattle.std.specs.List.{flat_map}
use Rattle.std.specs.Char.{is_ascii_alphanumeric, is_ascii_hexdigit, digit_value, digit_char}

-- the bytes that stand for themselves: letters, digits and - _ / . \ *
abbrev pub is_plain : ℕ → Bool
is_plain c = is_ascii_alphanumeric c || (c == 45) || (c == 95) || (c == 47) || (c == 46) || (c == 92) || (c == 42)

-- a byte as it is written: as itself, or as % and two hexadecimal digits in lower case
abbrev pub escape : ℕ → List ℕ
escape c = if is_plain c then c ∷ [] else 37 ∷ digit_char (c / 16) ∷ digit_char (c % 16) ∷ []

-- bytes as they are written
abbrev pub escaped : List ℕ → List ℕ
escaped bytes = flat_map escape bytes

-- bytes with others in front
abbrev pub with_front : List ℕ → Option (List ℕ) → Option (List ℕ)
with_front front bytes = option_map (λ cs. front ++ cs) bytes

-- bytes with one more in front
abbrev pub with_first : ℕ → Option (List ℕ) → Option (List ℕ)
with_first c bytes = option_map (λ cs. c ∷ cs) bytes

-- the bytes that a text writes: it has bytes that stand for themselves, and % with two hexadecimal digits in either
-- case, also of a byte that could stand for itself
abbrev pub unescaped : List ℕ → Option (List ℕ)
unescaped [] = Some []
unescaped (c ∷ []) = if is_plain c then Some (c ∷ []) else None
unescaped (c ∷ h ∷ []) = if is_plain c then with_first c (unescaped (h ∷ [])) else None
unescaped (c ∷ h ∷ l ∷ rest) =
    if is_plain c then with_first c (unescaped (h ∷ l ∷ rest))
    else if (c == 37) && is_ascii_hexdigit h && is_ascii_hexdigit l
    then with_first (16 * digit_value h + digit_value l) (unescaped rest)
    else None
