use Rattle.std.proofs.Common.{ap, arith, ℕ, List}
use Rattle.std.proofs.lemmas.List.{take_rest}
use Rattle.bus_opening.specs.Lines.{feed_at}
use Rattle.bus_opening.proofs.FeedLen.{feed_within, feed_after}
use Rattle.bus_opening.proofs.inbox.feed_from.Goals as goal

pub slice_bounds-feed_len-count : goal.slice_bounds-feed_len-count
slice_bounds-feed_len-count c = omega (arith, feed_within c.args.bytes.now, c.requires.searched)

pub slice_bounds-feed_len-start : goal.slice_bounds-feed_len-start
slice_bounds-feed_len-start c = omega (arith, feed_within c.args.bytes.now, c.requires.searched)

pub overflow_add-result : goal.overflow_add-result
overflow_add-result c =
    omega (
      arith,
      c.feed_len.ensures,
      ap (λ (y : List ℕ). feed_at y) (take_rest c.args.bytes.now c.args.searched),
      feed_after c.args.searched c.args.bytes.now c.requires.searched,
      feed_within c.args.bytes.now,
      c.requires.few,
    )

pub returns : goal.returns
returns c = rw (c.feed_len.ensures, take_rest c.args.bytes.now c.args.searched) (feed_after c.args.searched c.args.bytes.now c.requires.searched)
