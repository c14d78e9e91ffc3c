use Rattle.bus_scene.proofs.PlayLemmas.{plays_now}
use Rattle.bus_scene.proofs.scene.read_clock.Goals as goal

pub returns-clause-playing : goal.returns-clause-playing
returns-clause-playing c =
    plays_now c.args.player.now.answers c.advance.new.self c.args.player.now.told.items c.tell.new.told.items
    c.args.player.now.keys.items c.args.player.now.last c.reading-moment.result
    c.requires.playing c.reading-moment.ensures c.advance.ensures.left c.advance.ensures.whole c.tell.ensures
