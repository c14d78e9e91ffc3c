use Rattle.bus_record.proofs.RowProofs as row
use Rattle.bus_record.proofs.laws.small_records_are_settled.Goals as goal

pub returns-clause-both_open : goal.returns-clause-both_open
returns-clause-both_open c = row.both_open

pub returns-clause-both_promised : goal.returns-clause-both_promised
returns-clause-both_promised c = row.both_promised

pub returns-clause-one_waits : goal.returns-clause-one_waits
returns-clause-one_waits c = row.one_waits

pub returns-clause-wire_comes_first : goal.returns-clause-wire_comes_first
returns-clause-wire_comes_first c = row.wire_comes_first

pub returns-clause-late_at_once : goal.returns-clause-late_at_once
returns-clause-late_at_once c = row.late_at_once

pub returns-clause-reached_in_round : goal.returns-clause-reached_in_round
returns-clause-reached_in_round c = row.reached_in_round

pub returns-clause-missed_in_round : goal.returns-clause-missed_in_round
returns-clause-missed_in_round c = row.missed_in_round

pub returns-clause-wrong_direction : goal.returns-clause-wrong_direction
returns-clause-wrong_direction c = row.wrong_direction

pub returns-clause-easily_missed : goal.returns-clause-easily_missed
returns-clause-easily_missed c = row.easily_missed

pub returns-clause-servers : goal.returns-clause-servers
returns-clause-servers c = row.servers

pub returns-clause-further_rounds : goal.returns-clause-further_rounds
returns-clause-further_rounds c = row.further_rounds
