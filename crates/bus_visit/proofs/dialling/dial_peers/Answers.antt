use Rattle.std.proofs.Common.{refl, sym, ◌∙◌}
use Rattle.std.specs.Option.{option_copied}
use Rattle.react_core.specs.Outer.{keeps-then}
use Rattle.react_core.specs.Outer as part
use Rattle.bus_visit.proofs.DialLemmas.{peer-failed, peer-opened, failed-counted, dial-keeps}
use Rattle.bus_visit.proofs.dialling.dial_peers.Goals as goal

pub returns-in-Ok-clause-told : goal.returns-in-Ok-clause-told
returns-in-Ok-clause-told g c =
    peer-opened c.args.wire c.args.family (option_copied c.args.file) c.args.peers.now _ c.loop-peer.ending
    c.loop-peer.peer-index _ _ c.in-Ok.opened.passes c.read_nonce.result ((g.D.Tells.outer c.args.dialer.now).events)
    ((g.D.Tells.outer c.loop-peer.dialer).events) ((g.D.Tells.outer c.dial_tcp.new.self).events)
    ((g.D.Tells.outer c.read_nonce.new.dialer).events) c.loop-peer-test.true refl
    (sym c.fits.ensures.value ∙ c.if-not-fits.false) c.loop-peer.invariant.told_ c.in-Ok.ensures.told
    c.read_nonce.ensures.told

pub loop-peer-preserved : goal.loop-peer-preserved
loop-peer-preserved g c = record {
  told_ = peer-failed c.args.wire c.args.family (option_copied c.args.file) c.args.peers.now _ c.loop-peer.ending
      c.loop-peer.peer-index _ _ ((g.D.Tells.outer c.args.dialer.now).events)
      ((g.D.Tells.outer c.loop-peer.dialer).events) ((g.D.Tells.outer c.dial_tcp.new.self).events)
      c.loop-peer-test.true refl (sym c.fits.ensures.value ∙ c.if-not-fits.false) c.loop-peer.invariant.told_
      (rw c.in-Err-Failed.field-0-is at c.in-Err-Failed.ensures.told);
  counted = failed-counted c.args.wire (g.D.Tells.outer c.args.dialer.now) (g.D.Tells.outer c.loop-peer.dialer)
      (g.D.Tells.outer c.dial_tcp.new.self) c.loop-peer.invariant.keeps (rw c.in-Err-Failed.field-0-is at c.in-Err-Failed.ensures.cause);
  awake = refl;
  poller = c.dial_tcp.ensures.keeps.poller ∙ c.loop-peer.invariant.poller;
  unread = c.dial_tcp.ensures.keeps.moment ∙ c.loop-peer.invariant.unread;
  keeps = keeps-then (part.Visit c.args.wire) (g.D.Tells.outer c.args.dialer.now) (g.D.Tells.outer c.loop-peer.dialer)
      (g.D.Tells.outer c.dial_tcp.new.self) c.loop-peer.invariant.keeps
      (dial-keeps c.args.wire c.dial_tcp.result (g.D.Tells.outer c.loop-peer.dialer)
      (g.D.Tells.outer c.dial_tcp.new.self) c.dial_tcp.ensures.keeps c.dial_tcp.ensures.cause);
}
