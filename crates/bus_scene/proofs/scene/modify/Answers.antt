use Rattle.bus_scene.proofs.PlayLemmas.{plays_modify}
use Rattle.bus_scene.proofs.scene.modify.Goals as goal

pub returns-clause-playing : goal.returns-clause-playing
returns-clause-playing c =
    plays_modify c.args.player.now.answers c.advance.new.self c.args.player.now.told.items c.tell.new.told.items
    c.args.player.now.keys.items c.args.player.now.last c.args.wire c.args.key c.args.read c.args.write
    c.outcome-ok.result
    c.requires.playing c.outcome-ok.ensures c.advance.ensures.left c.advance.ensures.whole c.tell.ensures
