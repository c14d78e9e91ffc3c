-- Words of a line, and what one word says.
use Rattle.std.specs.Prelude.{ℕ, Bool, true, false, List, [], length, Option, Some, None, Result, Ok, Err, nat_lt}
use Rattle.std.specs.Prelude.{◌==◌, ◌&&◌, if◌then◌else◌, codes}
use Rattle.std.specs.List.{slice_split}
use Rattle.std.specs.Str.{bytes_eq}
use Rattle.std.specs.Str.Parse.{digits_value}
use Rattle.std.specs.Fmt.{decimal}
use Rattle.std.specs.Option.{ok_or}
use Rattle.hex.specs.Hex.{decode_of}
use Rattle.bus_script.specs.declared.line.Reason.{Reason}
use Rattle.bus_script.specs.declared.line.Reason.TheVariants.{Form}

-- the second step with what the first gave, or the first one's refusal
infixl 10 ◌>>=◌
abbrev pub ◌>>=◌ : {A B E : Type 0} → Result A E → (A → Result B E) → Result B E
(Ok x) >>= f = f x
(Err e) >>= f = Err e

infixl 40 ◌is◌
abbrev pub ◌is◌ : List ℕ → List ℕ → Bool
word is text = bytes_eq word text

-- the parts of a text between the bytes that are this one
abbrev pub parts_of : ℕ → List ℕ → List (List ℕ)
parts_of separator text = slice_split (λ b. b == separator) text

-- words are parted by exactly one space
abbrev pub words_of : List ℕ → List (List ℕ)
words_of line = parts_of 32 line

-- a number below the limit: the text is the one that is written of it
abbrev pub number_of : ℕ → List ℕ → Option ℕ
number_of limit text =
    if nat_lt (digits_value 10 text) limit && bytes_eq text (decimal (digits_value 10 text))
    then Some (digits_value 10 text)
    else None

abbrev pub number : ℕ → List ℕ → Result ℕ Reason
number limit word = ok_or (number_of limit word) Form

abbrev pub flag : List ℕ → Result Bool Reason
flag word = if word is codes "y" then Ok true else if word is codes "n" then Ok false else Err Form

-- a dash is none
abbrev pub optional : {X : Type 0} → (List ℕ → Result X Reason) → List ℕ → Result (Option X) Reason
optional read word = if word is codes "-" then Ok None else (read word >>= λ x. Ok (Some x))

-- what another reader found, or a refusal of the form
abbrev pub or_form : {X E : Type 0} → Result X E → Result X Reason
or_form (Ok x) = Ok x
or_form (Err e) = Err Form

-- hexadecimal digits, two a byte; a point is no bytes
abbrev pub bytes : List ℕ → Result (List ℕ) Reason
bytes word = if word is codes "." then Ok [] else if length word == 0 then Err Form else or_form (decode_of word)
