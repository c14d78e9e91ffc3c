use Rattle.bus_reference.proofs.LineLemmas.{feed_len_is}
use Rattle.bus_reference.proofs.lines.feed_at.Goals as goal

pub returns : goal.returns
returns c = let e = feed_len_is c.args.bytes.now in record { value = cc }
