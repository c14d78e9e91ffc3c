use Rattle.react_timers.proofs.Dues.{due-in_order, due-moves, due-or_later}
use Rattle.react_timers.proofs.laws.due_timers_are_in_order.Goals as goal

pub returns : goal.returns
returns c = record {
  in_order = due-in_order c.args.now c.args.live.now;
  exact = due-moves c.args.now c.args.live.now;
  whole = due-or_later c.args.now c.args.live.now;
}
