use Rattle.std.proofs.Common.{ℕ, ap, ◌∙◌}
use Rattle.bus_opening.specs.Lines.{following}
use Rattle.bus_opening.specs.Talk.{left}
use Rattle.bus_reference.proofs.asking.left.Goals as goal

pub returns : goal.returns
unfolding left
returns c = record { value = c.from_vec.ensures.items ∙ c.in_ok-rest.ensures.items ∙ c.following.ensures.value ∙ ap (λ (j : ℕ). following j c.args.got.now) c.in_ok-looked.ensures.value }
