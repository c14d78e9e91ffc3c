use Rattle.std.proofs.Common.{◌≡◌, List, ◌++◌, map, length, take, drop, arith, refl, ap, ◌∙◌}
use Rattle.std.proofs.lemmas.Grind.{common_steps}
use Rattle.std.specs.Option.{option_copied}
use Rattle.std.specs.Vec.{with_items}
use Rattle.react_core.specs.declared.outside.SendAnswer.{SendAnswer}
use Rattle.bus_scene.specs.Queues.{queue_at, next_answer, without_next}
use Rattle.bus_scene.specs.Plays.{send_given}
use Rattle.bus_scene.specs.Cursors.{whole, left, script_of, rest_of}
use Rattle.bus_scene.proofs.PlayLemmas.{written_whole, plays_send}
use Rattle.bus_scene.proofs.scene.send.Goals as goal

pub returns-clause-playing : goal.returns-clause-playing
returns-clause-playing c =
    let written : take c.args.player.now.answers.sends.len
    (c.advance_at.new.queues ++ drop (length c.advance_at.new.queues) c.args.player.now.answers.sends.items)
    ≡ c.advance_at.new.queues =
    written_whole c.args.player.now.answers.sends.len c.advance_at.new.queues c.args.player.now.answers.sends.items
    (grind (arith, common_steps)) (grind (arith, common_steps)) in
    let a' = record c.args.player.now.answers {
      sends = with_items c.args.player.now.answers.sends c.advance_at.new.queues;
    } in
    plays_send c.args.player.now.answers a' c.args.player.now.told.items c.tell.new.told.items
    c.args.player.now.keys.items c.args.player.now.last c.args.wire c.args.offered c.send_given-answer.result
    c.requires.playing
    (c.send_given-answer.ensures
    ∙ ap (λ bytes. send_given (length bytes) (option_copied c.next_at.result)) c.as_slice.ensures.items
    ∙ ap (λ next. send_given (length c.args.offered) next)
    (c.next_at.ensures ∙ ap (λ qs. next_answer (queue_at (map left qs) c.args.wire)) c.deref.ensures.value))
    (ap (λ (ds : List (List SendAnswer)). record (rest_of c.args.player.now.answers) { sends = ds })
    (ap (map left) written ∙ c.advance_at.ensures.left ∙ ap (λ qs. without_next (map left qs) c.args.wire)
    c.deref_mut.ensures.value))
    (ap (λ (ds : List (List SendAnswer)). record (script_of c.args.player.now.answers) { sends = ds })
    (ap (map whole) written ∙ c.advance_at.ensures.whole ∙ ap (map whole) c.deref_mut.ensures.value))
    refl
    c.tell.ensures
