use Rattle.std.proofs.Common.{◌≡◌, subst}
use Rattle.std.specs.Prelude.{IfOk}
use Rattle.bus_opening.specs.Talk.{Said}
use Rattle.bus_reference.specs.Views.{terms, as_said}
use Rattle.bus_reference.proofs.SaidLemmas.{client_is}
use Rattle.bus_reference.proofs.talking.client_says.Goals as goal

pub returns : goal.returns
returns c =
    let h = rw c.hello_of.ensures.value at c.in_ok-after.ensures.value in
    let e = client_is (terms c.args.config.now c.args.expected c.args.opened.now) c.args.lines.now _ _
    (c.in_ok-before.ensures.value c.args.expected) h in
    record { value = subst (λ (x : Said). IfOk c.ahead.result (λ s. as_said s ≡ x)) e c.ahead.ensures.value }
