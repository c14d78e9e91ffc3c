use Rattle.std.proofs.Common.{◌≡◌, List, ◌++◌, map, length, take, drop, arith, refl, ap, ◌∙◌}
use Rattle.std.proofs.lemmas.Grind.{common_steps}
use Rattle.std.specs.Vec.{with_items}
use Rattle.react_core.specs.declared.outside.RecvAnswer.{RecvAnswer}
use Rattle.bus_scene.specs.Plays.{after_recv}
use Rattle.bus_scene.specs.Cursors.{whole_reads, left_reads, script_of, rest_of}
use Rattle.bus_scene.proofs.PlayLemmas.{written_whole, plays_recv}
use Rattle.bus_scene.proofs.scene.tell_read.Goals as goal

pub returns-clause-playing : goal.returns-clause-playing
returns-clause-playing c =
    let written : take c.args.player.now.answers.recvs.len
    (c.take_at.new.reads ++ drop (length c.take_at.new.reads) c.args.player.now.answers.recvs.items)
    ≡ c.take_at.new.reads =
    written_whole c.args.player.now.answers.recvs.len c.take_at.new.reads c.args.player.now.answers.recvs.items
    (grind (arith, common_steps)) (grind (arith, common_steps)) in
    let a' = record c.args.player.now.answers {
      recvs = with_items c.args.player.now.answers.recvs c.take_at.new.reads;
    } in
    plays_recv c.args.player.now.answers a' c.args.player.now.told.items c.tell.new.told.items
    c.args.player.now.keys.items c.args.player.now.last c.args.wire c.args.asked c.args.answer c.requires.playing
    c.requires.given
    (ap (λ (ds : List (List RecvAnswer)). record (rest_of c.args.player.now.answers) { recvs = ds })
    (ap (map left_reads) written ∙ c.take_at.ensures.left
    ∙ ap (λ qs. after_recv c.args.asked (map left_reads qs) c.args.wire) c.deref_mut.ensures.value))
    (ap (λ (ds : List (List RecvAnswer)). record (script_of c.args.player.now.answers) { recvs = ds })
    (ap (map whole_reads) written ∙ c.take_at.ensures.whole ∙ ap (map whole_reads) c.deref_mut.ensures.value))
    refl
    c.tell.ensures
