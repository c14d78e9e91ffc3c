use Rattle.std.proofs.lemmas.Result.{err_from_is_err_and}
use Rattle.std.proofs.Common.{Err, ap, ◌∙◌}
use Rattle.bus_peers.proofs.ClosingLemmas.{removes-slot}
use Rattle.bus_peers.proofs.closing.remove_source.Goals as goal

pub returns-in_err-remove_io-clause-removals : goal.returns-in_err-remove_io-clause-removals
returns-in_err-remove_io-clause-removals g c =
    let p = err_from_is_err_and c.from_residual.result c.from_residual.ensures.1 in
    rw c.in-Asleep.is (removes-slot _ _ _ (Err c.in_err-remove_io.field-0.0) _ _ c.in_err-remove_io.ensures.memory
    c.in_err-remove_io.ensures.told c.from_residual.result (p.1 ∙ ap Err p.2))
