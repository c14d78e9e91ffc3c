use Rattle.std.proofs.Common.{◌≡◌, ◌++◌, ◌∷◌, [], refl, arith}
use Rattle.std.proofs.lemmas.Grind.{common_steps}
use Rattle.react_core.specs.declared.outside.Event.TheVariants as event
use Rattle.bus_scene.specs.Cursors.{script_of}
use Rattle.bus_scene.proofs.FaultLemmas.{keeps_poller}
use Rattle.bus_scene.proofs.scene.SceneNotifier.notify.Goals as goal

pub returns-clause-keeps : goal.returns-clause-keeps
returns-clause-keeps c =
    let now : c.notify.new.player.told.items ≡ c.args.self.now.told ++ event.Notify c.notify.result ∷ [] =
    grind (arith, common_steps) in
    let script : script_of c.notify.new.player.answers ≡ c.args.self.now.script = grind (arith, common_steps) in
    let rooms : c.notify.new.player.rooms ≡ c.args.self.now.rooms = grind (arith, common_steps) in
    keeps_poller c.args.self.now (record {
      script = script_of c.notify.new.player.answers;
      rooms = c.notify.new.player.rooms;
      told = c.notify.new.player.told.items;
    }) (event.Notify c.notify.result) script rooms now refl (λ w. refl) (λ w. refl)
