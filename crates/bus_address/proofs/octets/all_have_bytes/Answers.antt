use Rattle.std.proofs.Common.{sym, ap, subst, ◌∙◌}
use Rattle.bus_address.specs.ReadBack.{has_bytes, IsValue}
use Rattle.bus_address.proofs.ListLemmas.{all_more, not_all, values_more}
use Rattle.bus_address.proofs.octets.all_have_bytes.Goals as goal

pub returns-then-not-has_bytes-clause-value : goal.returns-then-not-has_bytes-clause-value
returns-then-not-has_bytes-clause-value c =
    sym (not_all has_bytes c.args.all.now c.loop-bytes.bytes-index c.bytes-item.result c.loop-bytes-test.true c.bytes-item.is
    (ap has_bytes (sym c.as_slice.ensures.value) ∙ sym c.has_bytes.ensures.value ∙ c.if-not-has_bytes.true))

pub loop-bytes-preserved : goal.loop-bytes-preserved
loop-bytes-preserved c = record {
  some =
      all_more has_bytes c.args.all.now c.loop-bytes.bytes-index c.bytes-item.result c.loop-bytes-test.true
      c.bytes-item.is
      (ap has_bytes (sym c.as_slice.ensures.value) ∙ sym c.has_bytes.ensures.value ∙ c.if-not-has_bytes.false)
      c.loop-bytes.invariant.some;
  values =
      values_more c.args.all.now c.loop-bytes.bytes-index c.bytes-item.result c.loop-bytes-test.true c.bytes-item.is
      (subst IsValue c.as_slice.ensures.value (c.has_bytes.ensures.readable c.if-not-has_bytes.false))
      c.loop-bytes.invariant.values;
}
