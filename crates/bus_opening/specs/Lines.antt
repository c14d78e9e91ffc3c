-- The lines of what came, each with its line feed, and the rest.
use Rattle.std.specs.Prelude.{ℕ, Bool, ◌==◌, nat_lt, if◌then◌else◌, List, [], ◌∷◌, length, take, drop, sum_by}
use Rattle.std.specs.List.{position_or_len}
use Rattle.bus_opening.specs.Limits.{line_limit}

pub record Lines : Type 0 where
  pub whole : List (List ℕ)
  pub rest : List ℕ

-- the lines with one byte more at the front, which is no line feed
abbrev pub onto_line : ℕ → List (List ℕ) → List ℕ → Lines
onto_line c [] rest = record { whole = []; rest = c ∷ rest }
onto_line c (line ∷ more) rest = record { whole = (c ∷ line) ∷ more; rest = rest }

abbrev pub lines : List ℕ → Lines
lines [] = record { whole = []; rest = [] }
lines (c ∷ bytes) =
    if c == 10 then record { whole = (10 ∷ []) ∷ (lines bytes).whole; rest = (lines bytes).rest }
    else onto_line c (lines bytes).whole (lines bytes).rest

-- where the first line feed stands, or the length where there is none
abbrev pub feed_at : List ℕ → ℕ
feed_at bytes = position_or_len (λ c. c == 10) bytes

-- whether there is a line feed
abbrev pub has_feed : List ℕ → Bool
has_feed bytes = nat_lt (feed_at bytes) (length bytes)

-- more bytes than a line may have, the first ones of them no line feeds
abbrev pub long : List ℕ → Bool
long bytes = nat_lt line_limit (feed_at bytes)

-- what follows the first j lines
abbrev pub following : ℕ → List ℕ → List ℕ
following j bytes = drop (sum_by length (take j (lines bytes).whole)) bytes
