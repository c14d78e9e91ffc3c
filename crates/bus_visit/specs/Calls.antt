-- The calls of one wire, and how they were answered.
use Rattle.std.specs.Prelude.{◌≡◌, ℕ, List, [], ◌∷◌, ◌++◌}
use Rattle.react_core.specs.declared.outside.Event.{Event}
use Rattle.react_core.specs.declared.outside.Event.TheVariants as event
use Rattle.react_core.specs.declared.outside.RecvAnswer.TheVariants as recv_answer
use Rattle.react_core.specs.declared.outside.SendAnswer.TheVariants as send_answer
use Rattle.react_core.specs.declared.reactor.Dir.{Dir}
use Rattle.react_core.specs.declared.reactor.Dir.TheVariants.{Read, Write}

-- a read or a write of the wire
abbrev pub IsCall : ℕ → Event → Type 0
IsCall wire (event.Recv w asked answer) = w ≡ wire
IsCall wire (event.Send w offered answer) = w ≡ wire
IsCall wire e = ⊥

-- each of these events is one
abbrev pub AreCalls : ℕ → List Event → Type 0
AreCalls wire [] = Unit {0}
AreCalls wire (e ∷ events) = IsCall wire e × AreCalls wire events

-- a read or a write, and no NotReady
abbrev pub IsAnswered : Event → Type 0
IsAnswered (event.Recv wire asked recv_answer.NotReady) = ⊥
IsAnswered (event.Recv wire asked answer) = Unit {0}
IsAnswered (event.Send wire offered send_answer.NotReady) = ⊥
IsAnswered (event.Send wire offered answer) = Unit {0}
IsAnswered e = ⊥

abbrev pub AllAnswered : List Event → Type 0
AllAnswered [] = Unit {0}
AllAnswered (e ∷ events) = IsAnswered e × AllAnswered events

-- a NotReady of this wire in this direction
abbrev pub IsNotReady : ℕ → Dir → Event → Type 0
IsNotReady wire Read (event.Recv w asked recv_answer.NotReady) = w ≡ wire
IsNotReady wire Write (event.Send w offered send_answer.NotReady) = w ≡ wire
IsNotReady wire dir e = ⊥

-- answered calls, and behind them one NotReady
pub record StopsAt (wire : ℕ) (dir : Dir) (calls : List Event) : Type 0 where
  pub answered : List Event
  pub last : Event
  pub all : AllAnswered answered
  pub stop : IsNotReady wire dir last
  pub whole : calls ≡ answered ++ last ∷ []
