use Rattle.bus_scene.proofs.PlayLemmas.{plays_close}
use Rattle.bus_scene.proofs.scene.close.Goals as goal

pub returns-clause-playing : goal.returns-clause-playing
returns-clause-playing c =
    plays_close c.args.player.now.answers c.args.player.now.told.items c.tell.new.told.items
    c.args.player.now.keys.items c.args.player.now.last c.args.wire c.requires.playing c.tell.ensures
