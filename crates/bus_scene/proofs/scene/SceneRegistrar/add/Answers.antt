use Rattle.std.proofs.Common.{◌≡◌, ◌++◌, ◌∷◌, [], refl, arith}
use Rattle.std.proofs.lemmas.Grind.{common_steps}
use Rattle.react_core.specs.declared.outside.Event.TheVariants as event
use Rattle.bus_scene.specs.Cursors.{script_of}
use Rattle.bus_scene.proofs.FaultLemmas.{keeps_poller}
use Rattle.bus_scene.proofs.scene.SceneRegistrar.add.Goals as goal

pub returns-clause-keeps : goal.returns-clause-keeps
returns-clause-keeps c =
    let now : c.add.new.player.told.items ≡ c.args.self.now.told ++ event.Add c.args.wire c.args.key c.add.result ∷ [] =
    grind (arith, common_steps) in
    let script : script_of c.add.new.player.answers ≡ c.args.self.now.script = grind (arith, common_steps) in
    let rooms : c.add.new.player.rooms ≡ c.args.self.now.rooms = grind (arith, common_steps) in
    keeps_poller c.args.self.now (record {
      script = script_of c.add.new.player.answers;
      rooms = c.add.new.player.rooms;
      told = c.add.new.player.told.items;
    }) (event.Add c.args.wire c.args.key c.add.result) script rooms now refl (λ w. refl) (λ w. refl)
