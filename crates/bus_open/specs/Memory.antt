-- Sources and sinks in memory.
use Rattle.std.specs.Prelude.{ℕ, ◌+◌, ◌-◌, ◌^◌, ◌==◌, Bool, min, List, length, take, drop, ◌++◌, Result, Ok, Err}
use Rattle.std.specs.Prelude.{if◌then◌else◌, ◌&&◌, not}
use Rattle.std.specs.List.{list_any}
use Rattle.bus_open.specs.declared.stream.Read.{Read}
use Rattle.bus_open.specs.declared.stream.Read.TheVariants as read
use Rattle.bus_open.specs.declared.stream.WriteFailed.{WriteFailed}

-- What is seen of a source in memory.
pub record SourceState : Type 0 where
  pub rest : List ℕ  -- the bytes that are left
  pub most : ℕ  -- as many bytes a read gives at most
  pub faults : List ℕ  -- the calls of these numbers fail, counted from 1
  pub calls : ℕ  -- so many calls were made
  pub failed : ℕ  -- and so many failed

-- What is seen of a sink in memory.
pub record SinkState : Type 0 where
  pub held : List ℕ  -- the bytes that it took
  pub room : ℕ  -- as many bytes it takes in all
  pub most : ℕ  -- and as many a write
  pub faults : List ℕ  -- the calls of these numbers fail, counted from 1
  pub calls : ℕ  -- so many calls were made
  pub failed : ℕ  -- and so many failed

-- One more, up to the greatest number of 64 bits.
abbrev pub risen : ℕ → ℕ
risen n = min (n + 1) (2 ^ 64 - 1)

abbrev pub is_fault : List ℕ → ℕ → Bool
is_fault faults call = list_any (λ n. n == call) faults

-- What a read into a slice of this length answers.
abbrev pub read_answer : SourceState → ℕ → Read
read_answer s room =
    if is_fault s.faults (risen s.calls) then read.Failed
    else if length s.rest == 0 then read.End
    else read.Got (min (min (length s.rest) s.most) room)

-- The source after a read with this answer.
abbrev pub after_read : SourceState → Read → SourceState
after_read s (read.Got n) = record s { rest = drop n s.rest; calls = risen s.calls }
after_read s read.End = record s { calls = risen s.calls }
after_read s read.Failed = record s { calls = risen s.calls; failed = risen s.failed }

-- What a write of a piece of this length answers.
abbrev pub write_answer : SinkState → ℕ → Result ℕ WriteFailed
write_answer s offered =
    if is_fault s.faults (risen s.calls) then Err (record {})
    else if (s.room - length s.held == 0) && not (offered == 0) then Err (record {})
    else Ok (min (min offered s.most) (s.room - length s.held))

-- The sink after a write of this piece with this answer.
abbrev pub after_write : {E : Type 0} → SinkState → List ℕ → Result ℕ E → SinkState
after_write s piece (Ok n) = record s { held = s.held ++ take n piece; calls = risen s.calls }
after_write s piece (Err e) = record s { calls = risen s.calls; failed = risen s.failed }
