use Rattle.std.proofs.Common.{◌≡◌, ◌∙◌, true, is_ok, refl}
use Rattle.react_steps.proofs.Rows.{first-polled, rises-polled, rises-written}
use Rattle.react_steps.proofs.place.store.Goals as goal

pub returns-clause-items : goal.returns-clause-items
returns-clause-items c =
    let ok : is_ok c.insert.result ≡ true = c.if-is_err.ensures.negation in
    rw ok at c.insert.ensures.items
    ∙ first-polled c.args.ticker c.args.task c.args.futures.now.items c.deref-2.result.now c.place_of-at.result c.args.place c.deref-2.ensures.value c.place_of-at.ensures.place
    (rw c.deref.ensures.value at c.in_default.ensures)

pub returns-clause-rises : goal.returns-clause-rises
returns-clause-rises c = rw (returns-clause-items c) (rises-polled c.args.ticker c.args.task c.args.futures.now.items c.args.place _ refl c.requires)

pub returns-in-Some-clause-rises : goal.returns-in-Some-clause-rises
returns-in-Some-clause-rises c =
    rises-written c.args.place c.args.futures.now.items _ _ (rw c.deref.ensures.value at c.in-Some.ensures) c.requires refl
