-- What a string holds after a call that appends to it.
use Rattle.std.specs.Prelude.{◌≡◌, ℕ, ◌<◌, List, [], ◌∷◌, ◌++◌, ⊤}

abbrev pub IsAscii : List ℕ → Type 0
IsAscii [] = ⊤
IsAscii (byte ∷ bytes) = (byte < 128) × IsAscii bytes

-- the old bytes, and ASCII ones behind them
pub record Grew (old new : List ℕ) : Type 0 where
  pub more : List ℕ
  pub ascii : IsAscii more
  pub is : new ≡ old ++ more
