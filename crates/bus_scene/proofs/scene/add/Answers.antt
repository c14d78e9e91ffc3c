use Rattle.std.proofs.Common.{Some, arith, take, drop, length, ◌++◌, set, ap, ◌∙◌}
use Rattle.std.proofs.lemmas.Grind.{common_steps}
use Rattle.bus_scene.proofs.PlayLemmas.{plays_add, written_whole}
use Rattle.bus_scene.proofs.scene.add.Goals as goal

pub returns-clause-playing : goal.returns-clause-playing
returns-clause-playing c =
    plays_add c.args.player.now.answers c.advance.new.self c.args.player.now.told.items c.tell.new.told.items
    c.args.player.now.keys.items c.args.player.now.last c.args.wire c.args.key c.outcome-ok.result
    (take c.args.player.now.keys.len (c.set_key.new.keys ++ drop (length c.set_key.new.keys)
    c.args.player.now.keys.items))
    c.requires.playing c.outcome-ok.ensures c.advance.ensures.left c.advance.ensures.whole c.tell.ensures
    (written_whole c.args.player.now.keys.len c.set_key.new.keys c.args.player.now.keys.items
    (grind (arith, common_steps)) (grind (arith, common_steps))
    ∙ c.set_key.ensures ∙ ap (λ ks. set ks c.args.wire (Some c.args.key)) c.deref_mut.ensures.value)
