-- What a wait gave, as the code has it.
use Rattle.std.specs.Prelude.{Result, Ok, Err, None}
use Rattle.react_core.specs.declared.reactor.ReactError.{ReactError}
use Rattle.react_core.specs.declared.rounds.Came.{Came}

-- nothing where it was refused
abbrev pub came_of : Result Came ReactError → Came
came_of (Ok came) = came
came_of (Err e) = record { count = 0; again = None }
