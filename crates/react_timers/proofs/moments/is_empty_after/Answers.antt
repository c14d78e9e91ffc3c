use Rattle.std.proofs.Common.{sym, ◌∙◌}
use Rattle.std.proofs.lemmas.Bool.{not-true, not_from_false}
use Rattle.react_timers.proofs.Numbers.{none-left, no-timer-stays, no-insertion-stays}
use Rattle.react_timers.proofs.moments.is_empty_after.Goals as goal

pub returns-then-not-any_stays : goal.returns-then-not-any_stays
returns-then-not-any_stays c =
    let live = c.args.live.now.items in
    let queue = c.args.queue.now in (
      λ is. none-left live queue (sym c.any_stays.ensures ∙ c.if-not-any_stays.true) (sym c.any_insertion_stays.ensures ∙ not-true _ is),
      λ none. not_from_false _ (c.any_insertion_stays.ensures ∙ no-insertion-stays live queue none),
    )

pub returns-else-not-any_stays : goal.returns-else-not-any_stays
returns-else-not-any_stays c = (
  λ is. absurd (cc),
  λ none. not_from_false _ (c.any_stays.ensures ∙ no-timer-stays c.args.live.now.items c.args.queue.now none),
)
