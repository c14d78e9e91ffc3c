use Rattle.react_steps.proofs.Rows.{past-absent, other-absent, here-stands}
use Rattle.react_steps.proofs.table.find.Goals as goal
use Rattle.react_steps.proofs.table.find.Goals.{else-at-rows-via-then-at-rows+else-rows-at, else-at-rows-via-else-at-rows}

pub returns-then-rows-at : goal.returns-then-rows-at
returns-then-rows-at g c =
    here-stands c.args.key c.args.rows.now c.place_of-at.result c.index-rows-at.result c.requires c.place_of-at.ensures.place c.if-at-rows.true c.if-rows-at.true

pub returns-else-at-rows : goal.returns-else-at-rows
returns-else-at-rows g c =
    elim c.else-at-rows.branch [
      | else-at-rows-via-then-at-rows+else-rows-at w ↦
          other-absent c.args.key c.args.rows.now c.place_of-at.result w.index-rows-at.result c.requires c.place_of-at.ensures.place w.if-at-rows.true w.if-rows-at.false
      | else-at-rows-via-else-at-rows w ↦ past-absent c.args.key c.args.rows.now c.place_of-at.result c.place_of-at.ensures.place w.if-at-rows.false
    ]
