use Rattle.std.proofs.Common.{arith}
use Rattle.bus_signature.proofs.Steps.{reads_only, reads_back}
use Rattle.bus_signature.proofs.ReadLengths.{read_fits}
use Rattle.bus_signature.proofs.signature.Signature.from_bytes.Goals as goal

pub returns-clause-only : goal.returns-clause-only
returns-clause-only c = λ signature spells. reads_only signature c.args.bytes.now spells c.read.result c.read.ensures

pub returns-clause-back : goal.returns-clause-back
returns-clause-back c = λ signature readable is. reads_back signature c.args.bytes.now readable is c.read.result c.read.ensures

pub returns-clause-fits : goal.returns-clause-fits
returns-clause-fits c = read_fits c.args.bytes.now (grind arith) c.read.result c.read.ensures
