use Rattle.std.proofs.Common.{◌≡◌, ◌++◌, arith}
use Rattle.std.proofs.lemmas.Grind.{common_steps}
use Rattle.react_core.specs.Told.{send_told}
use Rattle.bus_scene.specs.Cursors.{script_of}
use Rattle.bus_scene.proofs.FaultLemmas.{counted_cause, send_cause, keeps_send}
use Rattle.bus_scene.proofs.scene.SceneWire.send.Goals as goal

pub returns-clause-cause : goal.returns-clause-cause
returns-clause-cause c =
    let now : c.send.new.player.told.items ≡ c.args.self.now.told ++ send_told c.args.wire c.args.bytes.now
    c.send.result = grind (arith, common_steps) in
    counted_cause c.send.result _ _ (send_cause c.args.self.now.told c.send.new.player.told.items c.args.wire
    c.args.bytes.now c.send.result now)

pub returns-clause-keeps : goal.returns-clause-keeps
returns-clause-keeps c =
    let now : c.send.new.player.told.items ≡ c.args.self.now.told ++ send_told c.args.wire c.args.bytes.now
    c.send.result = grind (arith, common_steps) in
    let script : script_of c.send.new.player.answers ≡ c.args.self.now.script = grind (arith, common_steps) in
    let rooms : c.send.new.player.rooms ≡ c.args.self.now.rooms = grind (arith, common_steps) in
    keeps_send c.args.self.now (record {
      script = script_of c.send.new.player.answers;
      rooms = c.send.new.player.rooms;
      told = c.send.new.player.told.items;
    }) c.args.wire c.args.bytes.now c.send.result script rooms now
