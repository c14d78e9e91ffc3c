use Rattle.std.proofs.Common.{inl, inr, ◌∙◌}
use Rattle.bus_scene.specs.Reading.{IsOf}
use Rattle.bus_bulk.specs.Bulk.{bulk}
use Rattle.bus_open.proofs.OfItsOwn.{of-bulk, no-fault, no-run-out}
use Rattle.bus_open.proofs.bulk.run_bulk.Goals as goal

pub returns-in-Ok-from_script-clause-status : goal.returns-in-Ok-from_script-clause-status
returns-in-Ok-from_script-clause-status g c =
    let n = c.args.sessions in
    let played = c.in-Ok-from_script.played in
    let is : IsOf (bulk n) played =
    of-bulk n c.as_slice.result.now played (c.as_slice.ensures.value ∙ c.in-Ok.ensures.text) c.bulk_is_a_script.ensures
    c.in-Ok-from_script.ensures.script in
    elim c.perform.ensures.status [
      | inl zero ↦ inl zero
      | inr (inl one) ↦ inr (inl one)
      | inr (inr (inl four)) ↦ inr (inr (inl four))
      | inr (inr (inr (inl five))) ↦ inr (inr (inr five))
      | inr (inr (inr (inr (inl six)))) ↦
          absurd (no-fault n played is c.bulk_has_no_poller_fault.ensures (c.perform.ensures.poller six).0)
      | inr (inr (inr (inr (inr seven)))) ↦
          absurd (no-run-out n played is c.requires c.bulk_has_its_sessions.ensures (c.perform.ensures.exhausted seven).0)
    ]
