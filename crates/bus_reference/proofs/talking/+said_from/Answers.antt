use Rattle.std.proofs.Common.{◌≡◌, subst}
use Rattle.std.specs.Prelude.{IfOk}
use Rattle.bus_opening.specs.Talk.{Said}
use Rattle.bus_opening.specs.Client.{step}
use Rattle.bus_reference.specs.Views.{as_settings, as_said}
use Rattle.bus_reference.proofs.SaidLemmas.{said_more}
use Rattle.bus_reference.proofs.talking.+said_from.Goals as goal

pub returns-in_ok-after-in-Goes : goal.returns-in_ok-after-in-Goes
returns-in_ok-after-in-Goes t c =
    let turned = rw (c.in-Goes.is, c.as_slice.ensures.items) at c.in_ok-pieces.ensures.value in
    let e = said_more (step (as_settings c.args.settings.now)) _ _ c.args.lines.now _ _ _ _ c.in-Some.ensures.cases.0 turned c.in_ok-after-in-Goes.ensures.value in
    record { value = subst (λ (x : Said). IfOk c.ahead.result (λ s. as_said s ≡ x)) e c.ahead.ensures.value }
