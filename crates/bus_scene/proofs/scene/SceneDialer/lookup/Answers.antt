use Rattle.std.proofs.Common.{◌≡◌, ◌++◌, arith}
use Rattle.std.proofs.lemmas.Grind.{common_steps}
use Rattle.react_core.specs.Told.{lookup_told}
use Rattle.react_core.specs.declared.outside.Question.TheVariants as question
use Rattle.bus_scene.specs.Plays.{Play}
use Rattle.bus_scene.specs.Cursors.{script_of}
use Rattle.bus_scene.proofs.DialLemmas.{lookup_cause, keeps_lookup}
use Rattle.bus_scene.proofs.scene.SceneDialer.lookup.Goals as goal

pub returns-clause-cause : goal.returns-clause-cause
returns-clause-cause c =
    let player = c.lookup.new.player in
    let now : player.told.items ≡ c.args.self.now.told ++ lookup_told c.args.wire
    (question.Lookup c.args.host.now c.args.port) c.lookup.result =
    grind (arith, common_steps) in
    lookup_cause c.args.self.now.told player.told.items c.args.wire (question.Lookup c.args.host.now c.args.port)
    c.lookup.result now

pub returns-clause-keeps : goal.returns-clause-keeps
returns-clause-keeps c =
    let player = c.lookup.new.player in
    let now : player.told.items ≡ c.args.self.now.told ++ lookup_told c.args.wire
    (question.Lookup c.args.host.now c.args.port) c.lookup.result =
    grind (arith, common_steps) in
    let script : script_of player.answers ≡ c.args.self.now.script = grind (arith, common_steps) in
    let rooms : player.rooms ≡ c.args.self.now.rooms = grind (arith, common_steps) in
    let after : Play = record { script = script_of player.answers; rooms = player.rooms; told = player.told.items } in
    keeps_lookup c.args.self.now after c.args.wire (question.Lookup c.args.host.now c.args.port) c.lookup.result script
    rooms now
