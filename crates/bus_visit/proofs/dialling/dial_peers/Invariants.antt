use Rattle.std.proofs.Common.{◌≡◌, true, drop, filter, List}
use Rattle.std.specs.Option.{option_copied}
use Rattle.react_core.specs.Outer.{Keeps}
use Rattle.react_core.specs.Outer as part
use Rattle.bus_session.specs.declared.ended.AddressReason.TheVariants as reason
use Rattle.bus_session.specs.declared.ended.Ending.TheVariants as ending
use Rattle.bus_session.specs.Dialling.{fits, to_peers}
use Rattle.bus_visit.specs.Dialled.{Answered, DialsTo}
use Rattle.bus_visit.specs.Conversed.{is_awake}
use Rattle.bus_visit.specs.Faults.{EndingCounted}
use Rattle.bus_visit.proofs.dialling.dial_peers.Given as goal

abbrev pub invariant-loop-peer : goal.invariant-loop-peer
invariant-loop-peer g l = record {
  told_ : (dials : List Answered)
      × DialsTo l.wire
      (to_peers (ending.Address reason.NoAddress) (option_copied l.file) (filter (fits l.family) l.peers))
      (to_peers l.ending (option_copied l.file) (filter (fits l.family) (drop l.peer-index l.peers)))
      ((g.D.Tells.outer l.fn.dialer).events) ((g.D.Tells.outer l.dialer).events) dials;
  counted : EndingCounted l.wire l.ending (g.D.Tells.outer l.fn.dialer) (g.D.Tells.outer l.dialer);
  awake : is_awake l.ending ≡ true;
  poller : (g.D.Tells.outer l.dialer).poller_faults ≡ (g.D.Tells.outer l.fn.dialer).poller_faults;
  unread : (g.D.Tells.outer l.dialer).moment ≡ (g.D.Tells.outer l.fn.dialer).moment;
  keeps : Keeps (part.Visit l.wire) (g.D.Tells.outer l.fn.dialer) (g.D.Tells.outer l.dialer);
}
