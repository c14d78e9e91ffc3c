use Rattle.std.proofs.Common.{ap, ◌∙◌, take, ◌++◌, List, ℕ}
use Rattle.bus_opening.specs.Outboxes.{Sending, first_piece}
use Rattle.bus_opening.proofs.OutboxLemmas.{marked}
use Rattle.bus_opening.proofs.outbox.Outbox.mark_taken.Goals as goal

pub returns-clause-waiting : goal.returns-clause-waiting
returns-clause-waiting c =
    (marked c.self.inside.said.items c.self.inside.taken c.args.count c.self.inside.first_end c.args.self.now.waiting
    (ap (λ (s : Sending). s.waiting) c.self.view_is) c.self.invariant.first_end c.self.invariant.taken
    c.requires.bound).waiting

pub returns-clause-written : goal.returns-clause-written
returns-clause-written c =
    (marked c.self.inside.said.items c.self.inside.taken c.args.count c.self.inside.first_end c.args.self.now.waiting
    (ap (λ (s : Sending). s.waiting) c.self.view_is) c.self.invariant.first_end c.self.invariant.taken
    c.requires.bound).written
    ∙ ap (λ (w : List ℕ). w ++ take c.args.count (first_piece c.args.self.now.waiting)) (ap (λ (s : Sending). s.written) c.self.view_is)
