use Rattle.std.proofs.Common.{◌++◌, take, ◌∙◌}
use Rattle.bus_open.proofs.Cuts.{wrote, appends_on}
use Rattle.bus_open.proofs.whole.write_all.Goals as goal

pub loop-rest-preserved : goal.loop-rest-preserved
loop-rest-preserved g c =
    let inv = c.loop-rest.invariant in
    let front = inv.2.0 in
    let piece = take c.in_ok-count.count c.loop-rest.rest.now in (
      c.in_ok-count.ensures.tells ∙ inv.0,
      c.in_ok-count.ensures.faults ∙ inv.1,
      (
        front ++ piece,
        rw c.split_at.ensures.back (wrote c.args.bytes.now front c.loop-rest.rest.now c.in_ok-count.count inv.2.1),
        appends_on (g.K.Sink.held c.args.sink.now) (g.K.Sink.held c.loop-rest.sink) (g.K.Sink.held c.write.new.self) front piece inv.0 inv.2.2 c.in_ok-count.ensures.bytes.2,
      ),
    )
