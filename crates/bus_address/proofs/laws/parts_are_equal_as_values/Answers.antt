use Rattle.bus_address.proofs.EqualLemmas.{transports_tell, tcp_tells, programs_tell}
use Rattle.bus_address.proofs.laws.parts_are_equal_as_values.Goals as goal

pub returns-clause-transports : goal.returns-clause-transports
returns-clause-transports c = transports_tell

pub returns-clause-tcp : goal.returns-clause-tcp
returns-clause-tcp c = tcp_tells

pub returns-clause-programs : goal.returns-clause-programs
returns-clause-programs c = programs_tell
