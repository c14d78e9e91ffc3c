use Rattle.std.proofs.Common.{length, ap, arith}
use Rattle.react_timers.specs.Live.{insertions}
use Rattle.slab.proofs.SlabLemmas.{length-entries}
use Rattle.react_core.proofs.TimerSteps.{one-at-most}
use Rattle.react_core.proofs.reactor.Reactor.queue_timer.Goals as goal

pub invariant_of-self-3 : goal.invariant_of-self-3
invariant_of-self-3 c = record {
  room = omega (
    arith,
    one-at-most c.args.op,
    c.most_others-others.ensures,
    c.self.invariant.places,
    c.len.ensures,
    length-entries c.self.inside.sources,
    c.in_ok-make_place.ensures.tasks,
    c.push.ensures.awaited,
    ap length c.push.ensures.live,
    ap length c.in_ok-reserve.ensures.live,
    ap insertions c.in_ok-reserve.ensures.queue,
  );
  places = c.self.invariant.places;
  dated = c.self.invariant.dated;
  numbered = c.self.invariant.numbered;
}
