-- A handle beside a registered source.
use Rattle.std.specs.Prelude.{ℕ, Result, Ok, Err}
use Rattle.react_core.specs.declared.reactor.ReactError.{ReactError}

-- what contracts see of it
pub record Registered (T : Type 0) : Type 0 where
  pub io : T
  -- the key of its source
  pub key : ℕ
  pub wire : ℕ

-- the insertion's own answer, without the handle: the key of the new source, or why there is none
abbrev pub insertion : {T : Type 0} → Result (Registered T) (T × ReactError) → Result ℕ ReactError
insertion (Ok made) = Ok made.key
insertion (Err refusal) = Err refusal.1
