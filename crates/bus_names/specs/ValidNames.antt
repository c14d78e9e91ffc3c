-- The grammars of names, as relations on whole texts (D-Bus specification, Valid Names).
use Rattle.std.specs.Prelude.{◌≡◌, ℕ, ◌≤◌, List, [], ◌∷◌, length, ◌⊎◌, codes}
use Rattle.std.specs.List.{All, join_with_byte}

-- [A-Z][a-z]
abbrev pub IsLetter : ℕ → Type 0
IsLetter c = ((65 ≤ c) × (c ≤ 90)) ⊎ ((97 ≤ c) × (c ≤ 122))

-- [0-9]
abbrev pub IsDigit : ℕ → Type 0
IsDigit c = (48 ≤ c) × (c ≤ 57)

-- [A-Z][a-z][0-9]_, where 95 is the underscore: what interface, member and error names are made of
abbrev pub IsInterfaceByte : ℕ → Type 0
IsInterfaceByte c = IsLetter c ⊎ IsDigit c ⊎ (c ≡ 95)

-- [A-Z][a-z][0-9]_-, where 45 is the hyphen: what bus names are made of
abbrev pub IsBusByte : ℕ → Type 0
IsBusByte c = IsInterfaceByte c ⊎ (c ≡ 45)

abbrev pub BeginsWithDigit : List ℕ → Type 0
BeginsWithDigit [] = ⊥
BeginsWithDigit (c ∷ cs) = IsDigit c

-- at least one byte, and only bytes of the set
abbrev pub IsElement : (ℕ → Type 0) → List ℕ → Type 0
IsElement IsByte text = (1 ≤ length text) × All IsByte text

abbrev pub IsInterfaceElement : List ℕ → Type 0
IsInterfaceElement text = IsElement IsInterfaceByte text × ¬ BeginsWithDigit text

abbrev pub IsWellKnownElement : List ℕ → Type 0
IsWellKnownElement text = IsElement IsBusByte text × ¬ BeginsWithDigit text

-- only the elements of a unique name may begin with a digit
abbrev pub IsUniqueElement : List ℕ → Type 0
IsUniqueElement text = IsElement IsBusByte text

-- two or more elements, joined by dots: 46 is the dot
abbrev pub IsDotted : (List ℕ → Type 0) → List ℕ → Type 0
IsDotted IsPart text = (es : List (List ℕ)) × (2 ≤ length es) × All IsPart es × (text ≡ join_with_byte 46 es)

abbrev pub IsInterfaceName : List ℕ → Type 0
IsInterfaceName text = (length text ≤ 255) × IsDotted IsInterfaceElement text

-- error names have the restrictions of interface names
abbrev pub IsErrorName : List ℕ → Type 0
IsErrorName text = (length text ≤ 255) × IsDotted IsInterfaceElement text

abbrev pub IsMemberName : List ℕ → Type 0
IsMemberName text = (length text ≤ 255) × IsInterfaceElement text

abbrev pub IsPropertyName : List ℕ → Type 0
IsPropertyName text = (1 ≤ length text) × (length text ≤ 255)

abbrev pub IsWellKnownName : List ℕ → Type 0
IsWellKnownName text = (length text ≤ 255) × IsDotted IsWellKnownElement text

-- a colon, which is 58, and two or more elements
abbrev pub IsConnection : List ℕ → Type 0
IsConnection text = (rest : List ℕ) × (text ≡ 58 ∷ rest) × IsDotted IsUniqueElement rest

-- the name of a connection, or that of the bus itself
abbrev pub IsUniqueName : List ℕ → Type 0
IsUniqueName text = (length text ≤ 255) × ((text ≡ codes "org.freedesktop.DBus") ⊎ IsConnection text)

abbrev pub IsBusName : List ℕ → Type 0
IsBusName text = IsUniqueName text ⊎ IsWellKnownName text
