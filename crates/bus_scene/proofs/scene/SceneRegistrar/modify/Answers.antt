use Rattle.std.proofs.Common.{◌≡◌, ◌++◌, ◌∷◌, [], refl, arith}
use Rattle.std.proofs.lemmas.Grind.{common_steps}
use Rattle.react_core.specs.declared.outside.Event.TheVariants as event
use Rattle.bus_scene.specs.Cursors.{script_of}
use Rattle.bus_scene.proofs.FaultLemmas.{keeps_poller}
use Rattle.bus_scene.proofs.scene.SceneRegistrar.modify.Goals as goal

pub returns-clause-keeps : goal.returns-clause-keeps
returns-clause-keeps c =
    let now : c.modify.new.player.told.items ≡ c.args.self.now.told ++ event.Modify c.args.wire c.args.key c.args.read
    c.args.write c.modify.result ∷ [] = grind (arith, common_steps) in
    let script : script_of c.modify.new.player.answers ≡ c.args.self.now.script = grind (arith, common_steps) in
    let rooms : c.modify.new.player.rooms ≡ c.args.self.now.rooms = grind (arith, common_steps) in
    keeps_poller c.args.self.now (record {
      script = script_of c.modify.new.player.answers;
      rooms = c.modify.new.player.rooms;
      told = c.modify.new.player.told.items;
    }) (event.Modify c.args.wire c.args.key c.args.read c.args.write c.modify.result) script rooms now refl (λ w. refl)
    (λ w. refl)
