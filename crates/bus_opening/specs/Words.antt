-- Words of a text, parted by ASCII white space.
use Rattle.std.specs.Prelude.{ℕ, not, ◌==◌, List, [], ◌∷◌, ◌-◌, length, take, drop, Option, Some, None}
use Rattle.std.specs.List.{filter, slice_split, prefix_len, position_or_len, before_first, suffix_len}
use Rattle.std.specs.Char.{is_ascii_whitespace}

-- the words, in order
abbrev pub words : List ℕ → List (List ℕ)
words text = filter (λ word. not (length word == 0)) (slice_split is_ascii_whitespace text)

-- the text without the white space before it
abbrev pub trimmed_start : List ℕ → List ℕ
trimmed_start text = drop (prefix_len is_ascii_whitespace text) text

-- the word that a text begins with, and what follows it
abbrev pub word_at_front : List ℕ → Option (List ℕ × List ℕ)
word_at_front [] = None
word_at_front (c ∷ text) =
    Some (before_first is_ascii_whitespace (c ∷ text), drop (position_or_len is_ascii_whitespace (c ∷ text)) (c ∷ text))

-- the first word, and what follows it
abbrev pub first_word : List ℕ → Option (List ℕ × List ℕ)
first_word text = word_at_front (trimmed_start text)

-- the text without the white space around it
abbrev pub trimmed : List ℕ → List ℕ
trimmed text = let begun = trimmed_start text in take (length begun - suffix_len is_ascii_whitespace begun) begun
