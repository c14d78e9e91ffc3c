use Rattle.bus_cutting.proofs.RowProofs.{whole_rows, cut_rows}
use Rattle.bus_cutting.proofs.laws.small_conversations.Goals as goal

pub returns-clause-whole : goal.returns-clause-whole
returns-clause-whole c = whole_rows

pub returns-clause-cut : goal.returns-clause-cut
returns-clause-cut c = cut_rows
