use Rattle.bus_record.proofs.FailingRowProofs as row
use Rattle.bus_record.proofs.laws.small_records_are_cut_off.Goals as goal

pub returns-clause-failures : goal.returns-clause-failures
returns-clause-failures c = row.small_failures

pub returns-clause-refused : goal.returns-clause-refused
returns-clause-refused c = row.refused_failures
