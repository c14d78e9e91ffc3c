-- What is to be sent after the wire answered a send.
use Rattle.std.specs.Prelude.{ℕ, ◌<◌, List, ◌++◌, take, length, sum_by, Result, Ok, Err}
use Rattle.react_core.specs.declared.outside.Fault.{Fault}
use Rattle.react_core.specs.declared.outside.Sent.{Sent}
use Rattle.react_core.specs.declared.outside.Sent.TheVariants as sent
use Rattle.bus_opening.specs.Standing.{rests}
use Rattle.bus_opening.specs.Outboxes.{Sending, first_piece}

abbrev pub after_sent : Sending → Result Sent Fault → Sending
after_sent s (Ok (sent.Took n)) = record {
  waiting = rests n s.waiting;
  written = s.written ++ take n (first_piece s.waiting);
}
after_sent s (Ok sent.NotReady) = s
after_sent s (Err e) = s

-- where bytes were taken less is to be sent, else something still is
abbrev pub SendsLess : List (List ℕ) → List (List ℕ) → Result Sent Fault → Type 0
SendsLess old new (Ok (sent.Took n)) = sum_by length new < sum_by length old
SendsLess old new (Ok sent.NotReady) = 0 < length new
SendsLess old new (Err e) = 0 < length new
