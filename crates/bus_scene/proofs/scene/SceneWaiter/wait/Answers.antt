use Rattle.std.proofs.Common.{◌≡◌, ◌++◌, length, arith}
use Rattle.std.proofs.lemmas.Grind.{common_steps}
use Rattle.react_core.specs.Outer.{with_room}
use Rattle.react_core.specs.Told.{wait_told}
use Rattle.bus_scene.specs.Cursors.{script_of}
use Rattle.bus_scene.proofs.FaultLemmas.{keeps_wait}
use Rattle.bus_scene.proofs.WaitLemmas.{answers_wait}
use Rattle.bus_scene.proofs.scene.SceneWaiter.wait.Goals as goal

pub returns-clause-exact : goal.returns-clause-exact
returns-clause-exact c =
    rw (← c.self.view_is)
    (answers_wait c.self.inside.player.answers c.self.inside.player.told.items c.self.inside.player.keys.items
    c.self.inside.player.last
    (length c.args.reports.now) c.args.timeout c.wait.new.reports
    (record {
      script = script_of c.wait.new.player.answers;
      rooms = c.wait.new.player.rooms;
      told = c.wait.new.player.told.items;
    })
    c.wait.result c.self.inside.player.rooms c.self.invariant
    (rw c.lend.ensures.rooms at (rw c.in_ok-reserve.ensures.told at c.wait.ensures.told))
    (rw c.lend.ensures.rooms at (rw c.in_ok-reserve.ensures.told at c.wait.ensures.exact)))

pub returns-clause-keeps : goal.returns-clause-keeps
returns-clause-keeps c =
    let now : c.wait.new.player.told.items ≡ c.args.self.now.told ++ wait_told c.args.timeout c.wait.new.reports
    c.wait.result = grind (arith, common_steps) in
    let script : script_of c.wait.new.player.answers ≡ c.args.self.now.script = grind (arith, common_steps) in
    let rooms : c.wait.new.player.rooms ≡ with_room c.args.self.now.rooms (length c.args.reports.now) =
    grind (arith, common_steps) in
    keeps_wait c.args.self.now (record {
      script = script_of c.wait.new.player.answers;
      rooms = c.wait.new.player.rooms;
      told = c.wait.new.player.told.items;
    })
    (length c.args.reports.now) c.args.timeout c.wait.new.reports c.wait.result script rooms now
