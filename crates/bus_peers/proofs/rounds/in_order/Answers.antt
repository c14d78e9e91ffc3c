use Rattle.std.proofs.Common.{◌≡◌, false, sym, ◌∙◌, is_err, Result, Ok, Err, OnOk}
use Rattle.bus_peers.proofs.RoundLemmas.{in-order}
use Rattle.bus_peers.proofs.rounds.in_order.Goals as goal

at_ok : {T E : Type 0} (r : Result T E) (P : Type 0) → false ≡ is_err r → OnOk r P → P
at_ok (Ok v) P e h = h
at_ok (Err x) P e h = absurd cc

pub returns-clause-ordered : goal.returns-clause-ordered
returns-clause-ordered c =
    let ok = at_ok c.sort.result _ (sym c.if-is_err.false ∙ c.is_err.ensures.value) c.sort.ensures.sorted in
    let (rises, each) = in-order c.args.woken.tasks.items c.sort.new.self.items c.dedup.new.self.items c.sort.ensures.permutation ok c.dedup.ensures.filtered in
    (c.if-woken.false, rises, each)
