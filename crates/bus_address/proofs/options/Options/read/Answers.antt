use Rattle.bus_address.specs.Lookups.{found}
use Rattle.std.proofs.Common.{ap, ◌∙◌}
use Rattle.bus_address.proofs.EntryLemmas.{texts, formed_next, kept_next, no_entries_at, all_entries_at}
use Rattle.bus_address.proofs.options.Options.read.Goals as goal

pub loop-part-preserved : goal.loop-part-preserved
loop-part-preserved c = record {
  formed = formed_next _ _ _ (c.in-Some.key.now, c.in-Some.value.now) c.loop-part-test.true c.in-Some.ensures c.loop-part.invariant.formed;
  kept =
      kept_next _ _ _ (c.in-Some.key.now, c.in-Some.value.now) (found c.loop-part.options.values)
      (found c.insert.new.self.values) c.loop-part-test.true c.in-Some.ensures c.loop-part.invariant.kept
      c.in_ok-insert-in-Some.ensures.ok;
}

pub returns-in-None-clause-err : goal.returns-in-None-clause-err
returns-in-None-clause-err c = no_entries_at _ _ _ c.args.text.now c.loop-part-test.true c.in-None.ensures (ap texts c.deref-part-items.ensures.value ∙ c.in_ok-parts.ensures)

pub returns-clause-ok : goal.returns-clause-ok
returns-clause-ok c =
    all_entries_at _ _ c.args.text.now (found c.loop-part.options.values) c.loop-part-test.false
    (ap texts c.deref-part-items.ensures.value ∙ c.in_ok-parts.ensures) c.loop-part.invariant.formed
    c.loop-part.invariant.kept
