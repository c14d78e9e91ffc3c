use Rattle.std.proofs.Common.{◌++◌, rules}
use Rattle.std.proofs.Output.{has_written_append}
use Rattle.std.proofs.lemmas.List.{take_rest}
use Rattle.bus_address.proofs.EscapeLemmas.{piece_written}
use Rattle.bus_address.proofs.escapes.EscapedDisplay.fmt.Goals as goal

pub loop-rest-preserved : goal.loop-rest-preserved
loop-rest-preserved g c = λ plain.
    let so_far = c.loop-rest.invariant plain in (
      so_far.0 ++ c.first_piece-len.result.0.now,
      has_written_append _ _ _ _ _ _ so_far.1 (search rules),
      piece_written so_far.0 _ c.loop-rest.rest.now _ _ c.first_piece-len.result.1 c.first_piece-len.ensures.text
          (take_rest c.loop-rest.rest.now c.first_piece-len.result.1) so_far.2,
    )
