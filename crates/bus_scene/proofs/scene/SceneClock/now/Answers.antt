use Rattle.std.proofs.Common.{◌≡◌, ◌++◌, ◌∷◌, [], arith}
use Rattle.std.proofs.lemmas.Grind.{common_steps}
use Rattle.react_core.specs.declared.outside.Event.TheVariants as event
use Rattle.bus_scene.specs.Cursors.{script_of}
use Rattle.bus_scene.proofs.FaultLemmas.{keeps_clock}
use Rattle.bus_scene.proofs.scene.SceneClock.now.Goals as goal

pub returns-clause-keeps : goal.returns-clause-keeps
returns-clause-keeps c =
    let now : c.read_clock.new.player.told.items ≡ c.args.self.now.told ++ event.Now c.read_clock.result ∷ [] =
    grind (arith, common_steps) in
    let script : script_of c.read_clock.new.player.answers ≡ c.args.self.now.script = grind (arith, common_steps) in
    let rooms : c.read_clock.new.player.rooms ≡ c.args.self.now.rooms = grind (arith, common_steps) in
    keeps_clock c.args.self.now (record {
      script = script_of c.read_clock.new.player.answers;
      rooms = c.read_clock.new.player.rooms;
      told = c.read_clock.new.player.told.items;
    }) c.read_clock.result script rooms now
