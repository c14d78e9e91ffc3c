use Rattle.std.proofs.Common.{◌≡◌, ◌∙◌}
use Rattle.std.specs.String.{string_bytes}
use Rattle.std.specs.List.{join_with_byte}
use Rattle.bus_opening.specs.Words.{words}
use Rattle.bus_opening.proofs.Joined.{joined_words}
use Rattle.bus_opening.proofs.command.Command.read_rejected.Goals as goal

pub returns : goal.returns
returns c =
    let e : string_bytes c.loop-word.text ≡ join_with_byte 32 (words c.args.rest.now) = (rw c.in_default.ensures.words at c.loop-word.invariant.1) ∙ joined_words c.args.rest.now in
    rw (c.from_string.ensures, e)
