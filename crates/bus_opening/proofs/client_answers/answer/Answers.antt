use Rattle.bus_opening.proofs.client_answers.answer.Goals as goal

pub returns-in-Asking : goal.returns-in-Asking
returns-in-Asking c = rw c.in-Asking.is (c.at_asking.ensures c.args.expected.now c.args.flatpak c.args.passes)

pub returns-in-Begun : goal.returns-in-Begun
returns-in-Begun c = rw c.in-Begun.is (c.at_begun.ensures c.args.expected.now c.args.flatpak c.args.passes)
