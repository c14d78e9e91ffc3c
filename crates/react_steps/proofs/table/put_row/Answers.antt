use Rattle.std.proofs.Common.{◌≡◌, ◌∙◌, ap, true, is_ok}
use Rattle.std.specs.Prelude.{insert}
use Rattle.react_steps.specs.Rows.{place}
use Rattle.react_steps.proofs.Rows.{inserted-at}
use Rattle.react_steps.proofs.table.put_row.Goals as goal

pub returns : goal.returns
returns g c =
    let ok : is_ok c.insert.result ≡ true = c.if-is_err.ensures.negation in
    rw ok at c.insert.ensures.items
    ∙ ap (λ k. insert c.args.rows.now.items k (c.args.key, c.args.value)) (c.place_of-at.ensures.place ∙ ap (place c.args.key) c.deref.ensures.value)
    ∙ inserted-at c.args.key c.args.rows.now.items c.args.value c.requires.free
