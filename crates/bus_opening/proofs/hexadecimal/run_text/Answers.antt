use Rattle.bus_opening.proofs.HexLemmas.{IsUtf8-encode_lower}
use Rattle.bus_opening.proofs.hexadecimal.run_text.Goals as goal

pub from_utf8_unchecked-requires : goal.from_utf8_unchecked-requires
from_utf8_unchecked-requires c = IsUtf8-encode_lower c.args.run.now _ (rw c.unwrap.ensures at c.encode_to_slice.ensures.written)
