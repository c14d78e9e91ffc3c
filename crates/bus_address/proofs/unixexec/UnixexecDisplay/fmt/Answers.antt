use Rattle.std.proofs.Output.{has_written_of_eq}
use Rattle.bus_address.proofs.TextLemmas.{program_pieces}
use Rattle.bus_address.proofs.unixexec.UnixexecDisplay.fmt.Goals as goal

pub returns-clause-writes : goal.returns-clause-writes
returns-clause-writes g c = λ p ok.
    has_written_of_eq _ _ _ _ _ (program_pieces _ _ _ c.args.self.now c.path.ensures c.arg0.ensures c.args-2.ensures) (c.write.ensures.writes p ok)
