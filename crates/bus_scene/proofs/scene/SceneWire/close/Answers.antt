use Rattle.std.proofs.Common.{◌≡◌, ◌++◌, ◌∷◌, [], arith}
use Rattle.std.proofs.lemmas.Grind.{common_steps}
use Rattle.react_core.specs.declared.outside.Event.TheVariants as event
use Rattle.bus_scene.specs.Cursors.{script_of}
use Rattle.bus_scene.proofs.FaultLemmas.{keeps_close}
use Rattle.bus_scene.proofs.scene.SceneWire.close.Goals as goal

pub returns-clause-keeps : goal.returns-clause-keeps
returns-clause-keeps c =
    let now : c.close.new.player.told.items ≡ c.args.self.now.told ++ event.Close c.args.wire ∷ [] =
    grind (arith, common_steps) in
    let script : script_of c.close.new.player.answers ≡ c.args.self.now.script = grind (arith, common_steps) in
    let rooms : c.close.new.player.rooms ≡ c.args.self.now.rooms = grind (arith, common_steps) in
    keeps_close c.args.self.now (record {
      script = script_of c.close.new.player.answers;
      rooms = c.close.new.player.rooms;
      told = c.close.new.player.told.items;
    }) c.args.wire script rooms now
