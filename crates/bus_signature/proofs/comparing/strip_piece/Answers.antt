use Rattle.std.proofs.Common.{sym}
use Rattle.bus_signature.proofs.Strips.{strips_piece}
use Rattle.bus_signature.proofs.comparing.strip_piece.Goals as goal

pub returns : goal.returns
returns c = rw (sym c.as_bytes.ensures.value) (strips_piece c.as_bytes.result.now c.args.bytes.now c.strip_prefix.result c.strip_prefix.ensures.cases)
