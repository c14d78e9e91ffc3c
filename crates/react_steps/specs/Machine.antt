-- The machine's plain data as the world that it stands for.
use Rattle.std.specs.Prelude.{◌≡◌, ◌+◌, ◌-◌, ◌^◌, ℕ, true, min, is_some, if◌then◌else◌, [], Option, Some, None}
use Rattle.react_core.specs.Core.{Core}
use Rattle.react_core.specs.Keyed.{at_key, KeysRiseFrom}
use Rattle.react_steps.specs.declared.kind.Kind.{Kind}
use Rattle.react_steps.specs.declared.machine.Machine.{Machine}
use Rattle.react_steps.specs.declared.machine.Made.{Made}
use Rattle.react_core.specs.Readiness.{Outcome, Fires, Stays, Begins}
use Rattle.react_steps.specs.World.{World, Step, IsDisabled}

-- no kind of step makes timers or queues operations on them, yet
abbrev pub core_of : Machine → Core
core_of m = record {
  ticker = m.ticker;
  made = 0;
  begun = m.begun;
  sources = m.sources.items;
  queue = [];
  timers = [];
  hands = if m.in_round then Some [] else None;
}

abbrev pub world_of : Machine → World
world_of m = record {
  core = core_of m;
  armed = m.armed.items;
  notice = m.notice;
  returned = m.returned;
}

-- the keys rise, what is armed has those of the sources, and a wait has returned only in an open round
pub record Sound (m : Machine) : Type 0 where
  pub sources : KeysRiseFrom 0 m.sources.items
  pub armed : KeysRiseFrom 0 m.armed.items
  pub keys : (key : ℕ) → is_some (at_key m.armed.items key) ≡ is_some (at_key m.sources.items key)
  pub returned : is_some m.returned ≡ true → m.in_round ≡ true

-- how many polled interests were begun after a poll
abbrev pub begun_after : ℕ → Outcome → ℕ
begun_after begun Fires = begun
begun_after begun Stays = begun
begun_after begun (Begins tasks arms) = min (begun + 1) (2 ^ 64 - 1)

-- the machine has made a step of this kind, or there is none
abbrev pub Makes : Machine → Kind → Option Made → Machine → Type 0
Makes old kind None new = IsDisabled (world_of old) kind
Makes old kind (Some made) new = Step (world_of old) kind made.answer made.woken (world_of new)
