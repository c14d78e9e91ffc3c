use Rattle.std.proofs.Common.{◌∙◌, ◌++◌, sym, ap, length, arith}
use Rattle.react_core.specs.Places.{last_round}
use Rattle.slab.specs.Slab.{entries}
use Rattle.react_core.proofs.Marking.{direction-marked, direction-unwaited, hands-marked, length-tasks_of, tasks_of-unwaited, tied-marked, tied-later, tied_place-marked, counts-marked}
use Rattle.react_core.proofs.interest.Interest.mark.Goals as goal

pub take_futures-requires : goal.take_futures-requires
take_futures-requires c =
    let room = rw (c.if-not-named.false, ← c.self.view_is) at c.requires.room in
    omega (arith, room, length-tasks_of c.self.inside.futures c.self.inside.polled (last_round c.self.inside.tick), c.take_polled.ensures.len, c.take_polled.ensures.capacity)

pub invariant_of-self : goal.invariant_of-self
invariant_of-self c =
    let dated = rw (← c.self.view_is) at c.requires.dated in
    record {
      polled = rw c.take_polled.ensures.polled (tied_place-marked c.self.inside.tick c.args.ticker c.self.inside.polled c.self.invariant.polled dated.polled);
      futures = tied-marked c.self.inside.futures c.take_futures.new.futures c.take_futures.ensures.slots c.self.inside.tick c.args.ticker c.self.invariant.futures dated.futures;
      taken = counts-marked c.self.inside.futures c.take_futures.new.futures c.take_futures.ensures.slots c.len-places.result c.len-places.ensures;
    }

pub invariant_of-self-else-self-places : goal.invariant_of-self-else-self-places
invariant_of-self-else-self-places c =
    let dated = rw (← c.self.view_is) at c.requires.dated in
    record {
      polled = rw c.take_polled.ensures.polled (tied_place-marked c.self.inside.tick c.args.ticker c.self.inside.polled c.self.invariant.polled dated.polled);
      futures = tied-later c.self.inside.tick c.args.ticker (entries c.self.inside.futures) c.self.invariant.futures dated.futures;
      taken = c.self.invariant.taken;
    }

pub returns-then-self-places-clause-interest : goal.returns-then-self-places-clause-interest
returns-then-self-places-clause-interest c =
    rw (← c.self.view_is, c.if-not-named.false)
    (direction-marked c.self.inside.futures c.take_futures.new.futures c.take_futures.ensures.slots c.self.inside.tick c.args.ticker c.self.inside.polled c.take_polled.new.polled c.requires.begun
    c.take_polled.ensures.polled)

pub returns-then-self-places-clause-hands : goal.returns-then-self-places-clause-hands
returns-then-self-places-clause-hands c =
    rw (← c.self.view_is, c.if-not-named.false)
    (hands-marked c.self.inside.futures c.self.inside.polled (last_round c.self.inside.tick) _ _ _ c.take_polled.ensures.hands c.take_futures.ensures.hands)

pub returns-then-self-places-clause-len : goal.returns-then-self-places-clause-len
returns-then-self-places-clause-len c =
    rw (← c.self.view_is, c.if-not-named.false)
    (omega (arith, length-tasks_of c.self.inside.futures c.self.inside.polled (last_round c.self.inside.tick), c.take_polled.ensures.len, c.take_futures.ensures.len))

pub returns-else-self-places-clause-interest : goal.returns-else-self-places-clause-interest
returns-else-self-places-clause-interest c =
    rw (← c.self.view_is, c.if-not-named.false)
    (direction-unwaited c.self.inside.futures c.self.inside.taken c.self.invariant.taken (rw c.len-places.ensures at c.if-self-places.false) c.self.inside.tick c.args.ticker c.self.inside.polled
    c.take_polled.new.polled c.requires.begun c.take_polled.ensures.polled)

pub returns-else-self-places-clause-hands : goal.returns-else-self-places-clause-hands
returns-else-self-places-clause-hands c =
    rw (← c.self.view_is, c.if-not-named.false)
    (c.take_polled.ensures.hands
    ∙ ap (λ ts. c.args.hands.now.items ++ ts)
    (sym (tasks_of-unwaited c.self.inside.futures c.self.inside.taken c.self.invariant.taken (rw c.len-places.ensures at c.if-self-places.false) c.self.inside.polled (last_round c.self.inside.tick))))

pub returns-else-self-places-clause-len : goal.returns-else-self-places-clause-len
returns-else-self-places-clause-len c =
    rw (← c.self.view_is, c.if-not-named.false)
    (omega (
      arith,
      c.take_polled.ensures.len,
      ap length (tasks_of-unwaited c.self.inside.futures c.self.inside.taken c.self.invariant.taken (rw c.len-places.ensures at c.if-self-places.false) c.self.inside.polled
          (last_round c.self.inside.tick)),
    ))
