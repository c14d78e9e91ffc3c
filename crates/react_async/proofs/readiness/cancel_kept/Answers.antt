use Rattle.std.proofs.Common.{Some}
use Rattle.react_async.proofs.Waits.{has_source-given_up}
use Rattle.react_async.proofs.readiness.cancel_kept.Goals as goal

pub returns-in-Some-clause-stays : goal.returns-in-Some-clause-stays
returns-in-Some-clause-stays c known =
    let there = has_source-given_up c.args.reactor.now.core c.args.key c.args.dir (Some c.in-Some.place) known in
    rw c.cancel_future.ensures.core there
