use Rattle.std.proofs.Common.{None, ◌∙◌, ap, sym, set, get_or, add-one, arith, refl}
use Rattle.react_steps.proofs.Clearing.{Row, clear, cleared-none, cleared-more, cleared-all}
use Rattle.react_steps.proofs.place.clear_tasks.Goals as goal

pub loop-at-init : goal.loop-at-init
loop-at-init c = record { items = sym (cleared-none c.args.futures.now.items); len = refl; end = c.len-at-end.ensures }

pub loop-at-preserved : goal.loop-at-preserved
loop-at-preserved c =
    let i = c.loop-at.at in
    let was = c.loop-at.invariant in
    let d : Row = (0, record { since = 0; task = None }) in
    rw add-one (record {
      items = ap (λ (v : Row). set c.loop-at.futures.items i (clear v)) (c.row.view_is ∙ c.index_mut-row.ensures.value)
          ∙ ap (λ fs. set fs i (clear (get_or fs i c.index_mut-row.result.now))) was.items
          ∙ cleared-more i c.args.futures.now.items c.index_mut-row.result.now (omega (arith, c.loop-at-test.true, was.end, c.args.futures.now.ok.0));
      len = was.len;
      end = was.end;
    })

pub returns : goal.returns
returns c =
    c.loop-at.invariant.items
    ∙ cleared-all c.loop-at.at c.args.futures.now.items (omega (arith, c.loop-at-test.false, c.loop-at.invariant.end, c.args.futures.now.ok.0))
