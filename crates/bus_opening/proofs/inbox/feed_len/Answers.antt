use Rattle.bus_opening.proofs.FeedLen.{feed_len_is}
use Rattle.bus_opening.proofs.inbox.feed_len.Goals as goal

pub returns : goal.returns
returns c = rw (c.unwrap_or.ensures, c.feed_in.ensures) (feed_len_is c.args.bytes.now)
