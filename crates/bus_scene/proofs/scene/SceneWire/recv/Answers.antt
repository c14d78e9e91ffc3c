use Rattle.std.proofs.Common.{◌≡◌, ◌++◌, arith}
use Rattle.std.proofs.lemmas.Grind.{common_steps}
use Rattle.react_core.specs.Told.{recv_told}
use Rattle.bus_scene.specs.Cursors.{script_of}
use Rattle.bus_scene.proofs.FaultLemmas.{counted_cause, recv_cause, keeps_recv}
use Rattle.bus_scene.proofs.scene.SceneWire.recv.Goals as goal

pub returns-clause-cause : goal.returns-clause-cause
returns-clause-cause c =
    let now : c.recv.new.player.told.items ≡ c.args.self.now.told ++ recv_told c.args.wire c.recv.new.into
    c.recv.result = grind (arith, common_steps) in
    counted_cause c.recv.result _ _ (recv_cause c.args.self.now.told c.recv.new.player.told.items c.args.wire
    c.recv.new.into c.recv.result now)

pub returns-clause-keeps : goal.returns-clause-keeps
returns-clause-keeps c =
    let now : c.recv.new.player.told.items ≡ c.args.self.now.told ++ recv_told c.args.wire c.recv.new.into
    c.recv.result = grind (arith, common_steps) in
    let script : script_of c.recv.new.player.answers ≡ c.args.self.now.script = grind (arith, common_steps) in
    let rooms : c.recv.new.player.rooms ≡ c.args.self.now.rooms = grind (arith, common_steps) in
    keeps_recv c.args.self.now (record {
      script = script_of c.recv.new.player.answers;
      rooms = c.recv.new.player.rooms;
      told = c.recv.new.player.told.items;
    }) c.args.wire c.recv.new.into c.recv.result script rooms now
