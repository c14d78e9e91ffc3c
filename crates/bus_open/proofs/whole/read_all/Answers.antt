use Rattle.std.proofs.Common.{◌++◌, take}
use Rattle.bus_open.proofs.Cuts.{consumes_on}
use Rattle.bus_open.proofs.whole.read_all.Goals as goal

pub returns-then-is_err-clause-lost : goal.returns-then-is_err-clause-lost
returns-then-is_err-clause-lost g c =
    let inv = c.loop-piece.invariant in
    let piece = take c.in-Got.count c.read.new.into in (
      c.loop-piece.text.items ++ piece,
      consumes_on (g.S.Source.left c.args.source.now) (g.S.Source.left c.loop-piece.source) (g.S.Source.left c.read.new.self) c.loop-piece.text.items piece inv.tells inv.came c.in-Got.ensures.bytes.2,
    )
