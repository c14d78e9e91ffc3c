-- What a script's text says of a run.
use Rattle.std.specs.Prelude.{◌≡◌, [], length, Some}
use Rattle.react_core.specs.declared.outside.Rooms.TheVariants as rooms
use Rattle.bus_script.specs.Script.{Script, start_of}
use Rattle.bus_scene.specs.declared.from_script.Played.{Played}
use Rattle.bus_scene.specs.Queues.{queues}

-- the sessions, the new scene and the numbers of a script
pub record IsOf (s : Script) (p : Played) : Type 0 where
  pub sessions : p.sessions.items ≡ s.sessions
  pub script : p.scene.script ≡ queues (length s.sessions) s.answers
  pub told : p.scene.told ≡ []
  pub unwaited : p.scene.rooms ≡ rooms.Unwaited
  pub rounds : Some p.rounds ≡ s.rounds
  pub tick : p.tick ≡ (start_of s.start).tick
  pub timer : p.timer ≡ (start_of s.start).timer
