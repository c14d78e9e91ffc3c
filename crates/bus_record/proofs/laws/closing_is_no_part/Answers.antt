use Rattle.bus_record.proofs.Closing.{parts_in_pieces}
use Rattle.bus_record.proofs.laws.closing_is_no_part.Goals as goal

pub returns : goal.returns
returns c = parts_in_pieces c.args.sessions.now
