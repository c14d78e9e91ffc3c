-- How the test of a text goes: the classes of bytes, and how far an element reaches.
use Rattle.std.specs.Prelude.{ℕ, ◌+◌, ◌||◌, ◌==◌, not, List, [], ◌∷◌, if◌then◌else◌}
use Rattle.std.specs.Char.{is_ascii_alphabetic, is_ascii_digit}
use Rattle.std.specs.List.{position_or_len}
use Rattle.bus_names.specs.declared.grammar.Form.{Form}
use Rattle.bus_names.specs.declared.grammar.Class.{Class}
use Rattle.bus_names.specs.declared.grammar.Class.TheVariants.{Letter, Digit, Hyphen, Other}
use Rattle.bus_names.specs.Grammar.{goes_on, starts}

-- the class of a byte: 95 is _ and 45 is -
abbrev pub class_of : ℕ → Class
class_of c =
    if is_ascii_alphabetic c || c == 95 then Letter
    else (if is_ascii_digit c then Digit else (if c == 45 then Hyphen else Other))

-- the place of the first byte that is no later one of an element, or the length
abbrev pub run_len : Form → List ℕ → ℕ
run_len form text = position_or_len (λ c. not (goes_on form c)) text

-- how many bytes the element has with which the text begins
abbrev pub element_len : Form → List ℕ → ℕ
element_len form [] = 0
element_len form (c ∷ cs) = if starts form c then 1 + run_len form cs else 0
