use Rattle.std.proofs.Common.{sym, ◌∙◌, arith}
use Rattle.react_timers.proofs.Slots.{past-nowhere, other-nowhere, here-stands}
use Rattle.react_timers.proofs.live.position.Goals as goal

pub returns-then-at-slots : goal.returns-then-at-slots
returns-then-at-slots c =
    past-nowhere _ _ _ c.place_of-at.result c.place_of-at.ensures.place (omega (arith, c.if-at-slots.true))

pub returns-then-has_at : goal.returns-then-has_at
returns-then-has_at c =
    here-stands _ _ _ _ _ c.requires c.place_of-at.ensures.place (omega arith) (sym c.has_at.ensures ∙ c.if-has_at.true)

pub returns-else-has_at : goal.returns-else-has_at
returns-else-has_at c =
    other-nowhere _ _ _ _ _ c.requires c.place_of-at.ensures.place (omega arith) (sym c.has_at.ensures ∙ c.if-has_at.false)
