use Rattle.std.proofs.Common.{◌≡◌, List, ◌++◌, map, length, take, drop, arith, ap, ◌∙◌}
use Rattle.std.proofs.lemmas.Grind.{common_steps}
use Rattle.std.specs.Vec.{with_items}
use Rattle.react_core.specs.declared.outside.DialAnswer.{DialAnswer}
use Rattle.bus_scene.specs.Queues.{without_next}
use Rattle.bus_scene.specs.Cursors.{whole, left, script_of, rest_of}
use Rattle.bus_scene.proofs.PlayLemmas.{written_whole}
use Rattle.bus_scene.proofs.DialLemmas.{plays_dial}
use Rattle.bus_scene.proofs.scene.dialling.tell_dial.Goals as goal

pub returns-clause-playing : goal.returns-clause-playing
returns-clause-playing c =
    let player = c.args.player.now in
    let queues = c.advance_at.new.queues in
    let dials = player.answers.dials in
    let written : take dials.len (queues ++ drop (length queues) dials.items) ≡ queues =
    written_whole dials.len queues dials.items (grind (arith, common_steps)) (grind (arith, common_steps)) in
    let a' = record player.answers { dials = with_items dials queues } in
    plays_dial player.answers a' player.told.items c.tell.new.told.items player.keys.items player.last c.args.wire
    c.args.question c.args.answer c.requires.playing c.requires.given
    (ap (λ (ds : List (List DialAnswer)). record (rest_of player.answers) { dials = ds })
    (ap (map left) written ∙ c.advance_at.ensures.left
    ∙ ap (λ qs. without_next (map left qs) c.args.wire) c.deref_mut.ensures.value))
    (ap (λ (ds : List (List DialAnswer)). record (script_of player.answers) { dials = ds })
    (ap (map whole) written ∙ c.advance_at.ensures.whole ∙ ap (map whole) c.deref_mut.ensures.value))
    (ap length written ∙ c.advance_at.auto.queues ∙ ap length c.deref_mut.ensures.value)
    c.tell.ensures
