use Rattle.bus_scene.proofs.WaitLemmas.{plays_wait}
use Rattle.bus_scene.proofs.scene.tell_wait.Goals as goal

pub returns-clause-playing : goal.returns-clause-playing
returns-clause-playing c =
    plays_wait c.args.player.now.answers c.advance.new.self c.args.player.now.told.items c.tell.new.told.items
    c.args.player.now.keys.items c.args.player.now.last
    c.args.timeout c.args.answer c.requires.playing c.requires.given c.requires.filled c.advance.ensures.left
    c.advance.ensures.whole c.tell.ensures
