use Rattle.std.proofs.Common.{drop, arith}
use Rattle.bus_opening.proofs.FeedLen.{searched_more}
use Rattle.bus_opening.proofs.inbox.Inbox.recv.Goals as goal

pub invariant_of-self : goal.invariant_of-self
invariant_of-self g c = record {
  start = omega arith;
  searched = searched_more c.self.inside.searched (drop c.self.inside.start c.self.inside.bytes.items) _ _ _ c.self.invariant.searched c.remove_front.ensures.items c.receive.ensures.told.3;
  few = c.receive.ensures.few;
  within = c.receive.ensures.within;
}
