use Rattle.std.proofs.Common.{[], length, map, refl}
use Rattle.react_core.specs.Outer.{keeps-same, keeps-then}
use Rattle.react_core.specs.Outer as part
use Rattle.react_core.specs.Told.{told-nothing}
use Rattle.bus_peers.specs.inside.Rounds.{removal_told}
use Rattle.bus_visit.specs.Shown.{shown, tags}
use Rattle.bus_peers.specs.inside.Slots.{Owns}
use Rattle.bus_peers.proofs.ClosingLemmas.{left-none, owns-slot, left-held, left-next, reactor-slot, reactor-end, removal-slot, told-slot, told-end, removes-more, removes-end, counted-both}
use Rattle.bus_peers.proofs.closing.remove_sources.Goals as goal

pub loop-slot-init : goal.loop-slot-init
loop-slot-init g c = record {
  same = c.deref-slot-items.ensures.value;
  reactor = refl;
  left = left-none (length c.args.slots.now.items) (tags c.args.reactor.now.core.sources) c.requires.owned.below c.requires.owned.single;
  told_so = told-nothing _;
  removals = ([], told-nothing _, refl, tt);
  cause = refl;
  keeps = keeps-same part.Poller _;
}

pub remove_source-requires : goal.remove_source-requires
remove_source-requires g c = record {
  held = left-held c.loop-slot.slot-index (length c.args.slots.now.items) c.args.reactor.now.core c.loop-slot.reactor.core c.slot-item.result
      (owns-slot c.loop-slot.slot-index c.deref-slot-items.result.now c.args.slots.now.items
      (tags c.args.reactor.now.core.sources) c.slot-item.result c.loop-slot.invariant.same c.loop-slot-test.true
      c.slot-item.is c.requires.owned)
      c.loop-slot.invariant.left;
}

pub loop-slot-preserved : goal.loop-slot-preserved
loop-slot-preserved g c =
    let owns : Owns c.loop-slot.slot-index c.slot-item.result (tags c.args.reactor.now.core.sources) =
    owns-slot c.loop-slot.slot-index c.deref-slot-items.result.now c.args.slots.now.items
    (tags c.args.reactor.now.core.sources) c.slot-item.result c.loop-slot.invariant.same c.loop-slot-test.true
    c.slot-item.is c.requires.owned in record {
      same = c.loop-slot.invariant.same;
      reactor = reactor-slot c.args.reactor.now c.loop-slot.reactor c.remove_source.new.reactor c.slot-item.result c.loop-slot.invariant.reactor c.remove_source.ensures.removed;
      left = left-next c.loop-slot.slot-index (length c.args.slots.now.items)
          c.args.reactor.now c.loop-slot.reactor c.remove_source.new.reactor c.slot-item.result owns
          c.remove_source.ensures.removed c.loop-slot.invariant.left;
      told_so =
          told-slot c.loop-slot.answer c.remove_source.result c.and-answer.result c.loop-slot.slot-index _ _ _
          (map shown c.args.reactor.now.core.sources) (removal_told c.slot-item.result c.loop-slot.reactor.core)
          c.and-answer.ensures
          (removal-slot c.loop-slot.slot-index (length c.args.slots.now.items) c.args.reactor.now.core
          c.loop-slot.reactor.core c.slot-item.result c.requires.owned.single owns c.loop-slot.invariant.left)
          c.loop-slot.invariant.told_so c.remove_source.ensures.told;
      removals = removes-more _ _ c.loop-slot.answer c.remove_source.result c.and-answer.result c.loop-slot.slot-index _
          _ _ (map shown c.args.reactor.now.core.sources) (removal_told c.slot-item.result c.loop-slot.reactor.core)
          c.loop-slot.invariant.keeps.ample c.and-answer.ensures
          (removal-slot c.loop-slot.slot-index (length c.args.slots.now.items) c.args.reactor.now.core
          c.loop-slot.reactor.core c.slot-item.result c.requires.owned.single owns c.loop-slot.invariant.left)
          c.loop-slot.invariant.removals c.remove_source.ensures.removals;
      cause = counted-both c.loop-slot.answer c.remove_source.result c.and-answer.result _ _ _ c.and-answer.ensures c.loop-slot.invariant.cause c.remove_source.ensures.cause;
      keeps = keeps-then part.Poller _ _ _ c.loop-slot.invariant.keeps c.remove_source.ensures.keeps;
    }

pub returns-clause-reactor : goal.returns-clause-reactor
returns-clause-reactor g c =
    reactor-end c.loop-slot.slot-index c.deref-slot-items.result.now c.args.slots.now.items c.args.reactor.now
    c.loop-slot.reactor c.loop-slot.invariant.same c.loop-slot-test.false
    c.loop-slot.invariant.reactor c.loop-slot.invariant.left

pub returns-clause-told : goal.returns-clause-told
returns-clause-told g c =
    told-end c.loop-slot.answer c.loop-slot.slot-index c.deref-slot-items.result.now c.args.slots.now.items _ _
    (map shown c.args.reactor.now.core.sources) c.loop-slot.invariant.same
    c.loop-slot.auto.slot-index-end c.loop-slot-test.false c.loop-slot.invariant.told_so

pub returns-clause-removals : goal.returns-clause-removals
returns-clause-removals g c =
    removes-end _ c.loop-slot.answer c.loop-slot.slot-index c.deref-slot-items.result.now c.args.slots.now.items _ _
    (map shown c.args.reactor.now.core.sources) c.loop-slot.invariant.same c.loop-slot.auto.slot-index-end
    c.loop-slot-test.false c.loop-slot.invariant.removals
