-- What one poll of an opening asks and where it leaves it, for every history at which it stood.
use Rattle.std.specs.Prelude.{◌≡◌, ◌<◌, ◌≤◌, ℕ, ◌+◌, ◌-◌, Bool, true, false, List}
use Rattle.std.specs.Prelude.{[], ◌∷◌, ◌++◌, length, take, Option, None, ◌⊎◌}
use Rattle.std.specs.List.{flat_map}
use Rattle.bus_opening.specs.Limits.{read_size, command_limit}
use Rattle.react_core.specs.declared.outside.RecvAnswer.TheVariants as recv_answer
use Rattle.react_core.specs.declared.outside.SendAnswer.TheVariants as send_answer
use Rattle.react_core.specs.declared.outside.Event.{Event}
use Rattle.react_core.specs.declared.outside.Event.TheVariants.{Recv, Send}
use Rattle.react_core.specs.Told.{told, Rose}
use Rattle.bus_opening.specs.declared.verdict.Verdict.TheVariants as verdict
use Rattle.bus_opening.specs.declared.verdict.Step.{Step}
use Rattle.bus_opening.specs.declared.verdict.Step.TheVariants as step
use Rattle.bus_opening.specs.Lines.{lines, following}
use Rattle.bus_opening.specs.Talk.{Said, Ask, ask, ask_now, left, send, recv, opens}
use Rattle.bus_opening.specs.Talk.{handshake, too_many_commands, line_too_long}

-- the event is what is asked, of this wire
abbrev pub IsAsked : Ask → ℕ → Event → Type 0
IsAsked asked wire (Recv on size answer) = (asked ≡ recv) × (on ≡ wire) × (size ≡ read_size)
IsAsked asked wire (Send on offered answer) = (asked ≡ send offered) × (on ≡ wire)
IsAsked asked wire _ = ⊥

abbrev pub bytes_got : Event → List ℕ
bytes_got (Recv on size (recv_answer.Got bytes)) = bytes
bytes_got _ = []

abbrev pub bytes_taken : Event → List ℕ
bytes_taken (Send on offered (send_answer.Took n)) = take n offered
bytes_taken _ = []

-- each event is what is asked, where these bytes were got and so many taken before
abbrev pub AreAsked : (List (List ℕ) → Said) → ℕ → List ℕ → ℕ → List Event → Type 0
AreAsked talk wire b w [] = Unit {0}
AreAsked talk wire b w (e ∷ es) =
    IsAsked (ask talk b w) wire e × AreAsked talk wire (b ++ bytes_got e) (w + length (bytes_taken e)) es

-- From old to new by these events of its wire: the record gained them, and over every history at which old stood each
-- is asked for, and new stands at the longer one.
pub record Moves (O : Type 0) (stands : (List (List ℕ) → Said) → List ℕ → O → Type 0) (written : O → List ℕ) (wire : ℕ)
    (old new : O) (before after : Option (List Event)) (events : List Event) : Type 0 where
  pub gained : after ≡ told before events
  pub asked : (talk : List (List ℕ) → Said) (b : List ℕ) → stands talk b old
      → AreAsked talk wire b (length (written old)) events
  pub stays : (talk : List (List ℕ) → Said) (b : List ℕ) → stands talk b old
      → stands talk (b ++ flat_map bytes_got events) new
  pub taken : written new ≡ written old ++ flat_map bytes_taken events

-- whether an event moved bytes: of a read at least one and at most all that it asked for, of a send one to the whole
-- piece
abbrev pub Moved : Event → Type 0
Moved (Recv on size (recv_answer.Got bytes)) = (1 ≤ length bytes) × (length bytes ≤ read_size)
Moved (Send on offered (send_answer.Took n)) = (1 ≤ n) × (n ≤ length offered)
Moved _ = ⊥

abbrev pub AllMoved : List Event → Type 0
AllMoved [] = Unit {0}
AllMoved (e ∷ es) = Moved e × AllMoved es

-- Over every history at which the opening stands, this is asked next.
abbrev pub Asks : (O : Type 0) → ((List (List ℕ) → Said) → List ℕ → O → Type 0) → (O → List ℕ) → O → Ask → Type 0
Asks O stands written o a =
    (talk : List (List ℕ) → Said) (b : List ℕ) → stands talk b o → ask talk b (length (written o)) ≡ a

-- the last events of a poll, and what is asked then, by its answer
abbrev pub Concludes : (Ask → Type 0) → ℕ → Step → List Event → Type 0
Concludes asks wire (step.Done (verdict.Authenticated settled)) final =
    (final ≡ []) × asks (opens settled.guid settled.cap_unix_fd)
Concludes asks wire (step.Done verdict.Handshake) final =
    ((final ≡ []) × asks handshake) ⊎ (final ≡ Recv wire read_size recv_answer.End ∷ [])
Concludes asks wire (step.Done verdict.Io) final =
    (final ≡ Recv wire read_size recv_answer.Failed ∷ [])
    ⊎ ((offered : List ℕ) × (final ≡ Send wire offered send_answer.Failed ∷ []))
Concludes asks wire (step.Done verdict.LineTooLong) final = (final ≡ []) × asks line_too_long
Concludes asks wire (step.Done verdict.TooManyCommands) final = (final ≡ []) × asks too_many_commands
Concludes asks wire step.WantRead final = final ≡ Recv wire read_size recv_answer.NotReady ∷ []
Concludes asks wire step.WantWrite final = (offered : List ℕ) × (final ≡ Send wire offered send_answer.NotReady ∷ [])
Concludes asks wire step.OutOfMemory final = final ≡ []

-- some events that moved bytes
pub record Runs (O : Type 0) (stands : (List (List ℕ) → Said) → List ℕ → O → Type 0) (written : O → List ℕ) (wire : ℕ)
    (old new : O) (before after : Option (List Event)) : Type 0 where
  pub events : List Event
  pub moved : AllMoved events
  pub moves : Moves O stands written wire old new before after events

-- some events that moved bytes, and then the last one or the end
pub record Polls (O : Type 0) (stands : (List (List ℕ) → Said) → List ℕ → O → Type 0) (written : O → List ℕ) (wire : ℕ)
    (old new : O) (before after : Option (List Event)) (answer : Step) : Type 0 where
  pub events : List Event
  pub final : List Event
  pub moved : AllMoved events
  pub moves : Moves O stands written wire old new before after (events ++ final)
  pub concludes : Concludes (Asks O stands written new) wire answer final

-- This follows some of the lines that are to be looked at.
pub record FollowsLooked (talk : List (List ℕ) → Said) (b : List ℕ) (w : ℕ) (rest : List ℕ) : Type 0 where
  pub looked : ℕ
  pub few : looked ≤ command_limit
  pub came : looked ≤ length (lines b).whole
  pub passed : (i : ℕ) → i < looked → ask_now talk b w (command_limit - i) i ≡ None
  pub follows : rest ≡ following looked b

-- What was not looked at is what the conversation leaves, over every history at which the opening stands. Where memory
-- ran out a line that is there may not be looked at yet: it follows some of those that are to be looked at.
abbrev pub Leaves : (O : Type 0) → ((List (List ℕ) → Said) → List ℕ → O → Type 0) → (O → List ℕ) → (O → List ℕ) → O
    → Step → Type 0
Leaves O stands written rest o step.OutOfMemory =
    (talk : List (List ℕ) → Said) (b : List ℕ) → stands talk b o → FollowsLooked talk b (length (written o)) (rest o)
Leaves O stands written rest o _ =
    (talk : List (List ℕ) → Said) (b : List ℕ) → stands talk b o → rest o ≡ left talk b (length (written o))

-- the wire's faults rose exactly where the answer is Io
abbrev pub IoCounted : Step → ℕ → ℕ → Type 0
IoCounted (step.Done (verdict.Authenticated settled)) before now = now ≡ before
IoCounted (step.Done verdict.Handshake) before now = now ≡ before
IoCounted (step.Done verdict.Io) before now = Rose before now
IoCounted (step.Done verdict.LineTooLong) before now = now ≡ before
IoCounted (step.Done verdict.TooManyCommands) before now = now ≡ before
IoCounted step.WantRead before now = now ≡ before
IoCounted step.WantWrite before now = now ≡ before
IoCounted step.OutOfMemory before now = now ≡ before

-- whether an answer ends the opening
abbrev pub is_end : Step → Bool
is_end (step.Done verdict) = true
is_end step.WantRead = false
is_end step.WantWrite = false
is_end step.OutOfMemory = false
