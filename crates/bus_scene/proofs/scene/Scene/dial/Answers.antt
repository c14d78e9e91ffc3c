use Rattle.std.proofs.Common.{◌≡◌, ◌++◌, arith}
use Rattle.std.proofs.lemmas.Grind.{common_steps}
use Rattle.react_core.specs.Told.{dial_told}
use Rattle.bus_scene.specs.Plays.{Play}
use Rattle.bus_scene.specs.Cursors.{script_of}
use Rattle.bus_scene.proofs.DialLemmas.{dial_cause, keeps_dial}
use Rattle.bus_scene.proofs.scene.Scene.dial.Goals as goal

pub returns-clause-cause : goal.returns-clause-cause
returns-clause-cause c =
    let player = c.dial.new.player in
    let now : player.told.items ≡ c.args.self.now.told ++ dial_told c.args.wire c.args.question c.dial.result =
    grind (arith, common_steps) in
    dial_cause c.args.self.now.told player.told.items c.args.wire c.args.question c.dial.result now

pub returns-clause-keeps : goal.returns-clause-keeps
returns-clause-keeps c =
    let player = c.dial.new.player in
    let now : player.told.items ≡ c.args.self.now.told ++ dial_told c.args.wire c.args.question c.dial.result =
    grind (arith, common_steps) in
    let script : script_of player.answers ≡ c.args.self.now.script = grind (arith, common_steps) in
    let rooms : player.rooms ≡ c.args.self.now.rooms = grind (arith, common_steps) in
    let after : Play = record { script = script_of player.answers; rooms = player.rooms; told = player.told.items } in
    keeps_dial c.args.self.now after c.args.wire c.args.question c.dial.result script rooms now
