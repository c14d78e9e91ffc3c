use Rattle.bus_record.proofs.RefusalProofs.{refused_visits, refused_endings, refused_runs}
use Rattle.bus_record.proofs.laws.wrong_records_are_refused.Goals as goal

pub returns-clause-visits : goal.returns-clause-visits
returns-clause-visits c = refused_visits

pub returns-clause-endings : goal.returns-clause-endings
returns-clause-endings c = refused_endings

pub returns-clause-runs : goal.returns-clause-runs
returns-clause-runs c = refused_runs
