-- The reactor's sources, as the record shows them.
use Rattle.std.specs.Prelude.{◌≡◌, ◌<◌, ◌≤◌, ◌^◌, ℕ, Bool, true, false, nat_lt, ◌==◌, if◌then◌else◌, List, [], ◌∷◌}
use Rattle.std.specs.Prelude.{map, Option, Some, None}
use Rattle.std.specs.List.{list_any, list_all}
use Rattle.react_core.specs.Places.{Entry, Direction, Source, round_number}
use Rattle.react_core.specs.Core.{Core}
use Rattle.react_core.specs.Readiness.{Outcome, Fires, Stays, Begins}
use Rattle.bus_visit.specs.Registry.{Side, Idle, Waits, Reported, Held, Distinct}

abbrev pub task_side : Option ℕ → Side
task_side None = Reported
task_side (Some task) = Waits

abbrev pub place_side : Option Entry → Side
place_side None = Idle
place_side (Some w) = task_side w.task

abbrev pub side_of : Direction → Side
side_of d = place_side d.polled

abbrev pub shown : ℕ × Source → Held
shown s = record { key = s.0; wire = s.1.wire; read = side_of s.1.read; write = side_of s.1.write }

-- what a poll does, by how its direction stands
abbrev pub poll_of : Side → Outcome
poll_of Idle = Begins [] true
poll_of Waits = Stays
poll_of Reported = Fires

-- an interest whose task waits was not reported since it began, and one whose task was taken was
abbrev pub SaneTask : ℕ → ℕ → ℕ → Option ℕ → Type 0
SaneTask task reported since None = since < reported
SaneTask task reported since (Some stored) = (stored ≡ task) × (reported ≤ since)

abbrev pub SanePlace : ℕ → ℕ → ℕ → Option Entry → Type 0
SanePlace task reported last None = Unit {0}
SanePlace task reported last (Some w) = (w.since ≤ last) × SaneTask task reported w.since w.task

-- reports came in rounds up to the first number, interests began in rounds up to the second, and no future waits
abbrev pub Sane : ℕ → ℕ → ℕ → Direction → Type 0
Sane round last task d =
    (round_number d.reported ≤ round) × SanePlace task (round_number d.reported) last d.polled × (d.futures ≡ [])

abbrev pub SaneSource : ℕ → ℕ → Source → Type 0
SaneSource round last s = Sane round last s.wire s.read × Sane round last s.wire s.write

abbrev pub AllSane : ℕ → ℕ → List (ℕ × Source) → Type 0
AllSane round last [] = Unit {0}
AllSane round last (s ∷ sources) = SaneSource round last s.1 × AllSane round last sources

-- how the reactor stands between two calls: each wire has one source, and its own task alone waits there
pub record IsBetweenCalls (core : Core) : Type 0 where
  pub sane : AllSane core.ticker core.ticker core.sources
  pub distinct : Distinct (map shown core.sources)
  pub idle : core.hands ≡ None
  pub fits : core.begun < 2 ^ 64

-- ---- which wire is registered under which key

abbrev pub Tags : Type 0
Tags = List (ℕ × ℕ)

abbrev pub tags : List (ℕ × Source) → Tags
tags sources = map (λ s. (s.0, s.1.wire)) sources

-- the wire of a key
abbrev pub tag_at : Tags → ℕ → Option ℕ
tag_at [] key = None
tag_at (t ∷ ts) key = if t.0 == key then Some t.1 else tag_at ts key

abbrev pub without_tag : Tags → ℕ → Tags
without_tag [] key = []
without_tag (t ∷ ts) key = if t.0 == key then ts else t ∷ without_tag ts key

-- whether the wire has a key
abbrev pub has_wire : ℕ → Tags → Bool
has_wire wire ts = list_any (λ t. t.1 == wire) ts

-- no wire has two keys
abbrev pub Single : Tags → Type 0
Single [] = Unit {0}
Single (t ∷ ts) = (has_wire t.1 ts ≡ false) × Single ts

abbrev pub are_below : ℕ → Tags → Bool
are_below n ts = list_all (λ t. nat_lt t.1 n) ts
