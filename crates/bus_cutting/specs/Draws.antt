-- Where the bytes of a session's events come from and go, however they are cut.
use Rattle.std.specs.Prelude.{◌≡◌, ℕ, false, List, ◌∷◌, ◌++◌, length, Option, Some}
use Rattle.std.specs.List.{flat_map}
use Rattle.react_core.specs.declared.outside.Event.{Event}
use Rattle.react_core.specs.declared.outside.Event.TheVariants as event
use Rattle.react_core.specs.declared.outside.RecvAnswer.TheVariants as recv_answer
use Rattle.react_core.specs.declared.outside.SendAnswer.TheVariants as send_answer
use Rattle.bus_opening.specs.Polling.{bytes_got, bytes_taken}
use Rattle.bus_cutting.specs.Converse.{Final, ended, failed, overflows}

-- These events draw from the inbound bytes and what follows them, and from the room of the wire, which takes so many
-- bytes before it fails, or never fails.
pub record DrawsFrom (inbound : List ℕ) (fin : Final) (room : Option ℕ) (events : List Event) : Type 0 where
  -- what came is the front of the inbound bytes
  pub left : List ℕ
  pub came : inbound ≡ flat_map bytes_got events ++ left
  -- the end comes only behind all of them, where it follows them
  pub ends : (before behind : List Event) (wire asked : ℕ) →
      events ≡ before ++ (event.Recv wire asked recv_answer.End ∷ behind) →
      (flat_map bytes_got before ≡ inbound) × (fin ≡ ended)
  -- so does a failure to read
  pub fails : (before behind : List Event) (wire asked : ℕ) →
      events ≡ before ++ (event.Recv wire asked recv_answer.Failed ∷ behind) →
      (flat_map bytes_got before ≡ inbound) × (fin ≡ failed)
  -- no more is taken than there is room for
  pub taken : overflows room (flat_map bytes_taken events) ≡ false
  -- a send fails only where the room is full
  pub full : (before behind : List Event) (wire : ℕ) (offered : List ℕ) →
      events ≡ before ++ (event.Send wire offered send_answer.Failed ∷ behind) →
      room ≡ Some (length (flat_map bytes_taken before))
