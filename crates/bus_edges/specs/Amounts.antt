-- How much came or went, and which errors mean that it may yet.
use Rattle.std.specs.Prelude.{◌≡◌, ◌⊎◌, ◌≤◌, ℕ, Option, IsSome, IsNone}
use Rattle.std.specs.IoError.{error_kind}
use Rattle.std.specs.declared.io.Error.{Error}
use Rattle.std.specs.declared.io.ErrorKind.TheVariants as kind
use Rattle.react_core.specs.declared.outside.Received.{Received}
use Rattle.react_core.specs.declared.outside.Received.TheVariants as received
use Rattle.react_core.specs.declared.outside.Sent.{Sent}
use Rattle.react_core.specs.declared.outside.Sent.TheVariants as sent
use Rattle.react_core.specs.declared.outside.Peer.{Peer}

-- a datagram has at most what was asked for, and may be empty; datagrams have no end
abbrev pub IsArrived : ℕ → Received → Type 0
IsArrived asked (received.Got n) = n ≤ asked
IsArrived asked received.End = ⊥
IsArrived asked received.NotReady = Unit {0}

-- exactly a datagram that came has a sender
abbrev pub IsFrom : Received → Option Peer → Type 0
IsFrom (received.Got n) sender = IsSome sender
IsFrom received.End sender = IsNone sender
IsFrom received.NotReady sender = IsNone sender

-- at most what was offered: a datagram may be empty

abbrev pub IsPosted : ℕ → Sent → Type 0
IsPosted offered (sent.Took n) = n ≤ offered
IsPosted offered sent.NotReady = Unit {0}

-- the call may succeed later: it would wait, or a signal ended it
abbrev pub MayCome : Error → Type 0
MayCome error = (error_kind error ≡ kind.WouldBlock) ⊎ (error_kind error ≡ kind.Interrupted)
