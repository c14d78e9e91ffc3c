use Rattle.std.specs.Prelude.{nat_lt, ℕ}
use Rattle.std.proofs.Common.{rules}
use Rattle.std.proofs.lemmas.List.Sorted.{IsPartitionPoint-from_clause, IsPartitionedBy-ltb}
use Rattle.react_steps.proofs.Rows.{rises-non_decreasing, place-is}
use Rattle.react_steps.proofs.table.place_of.Goals as goal

pub returns-clause-place : goal.returns-clause-place
returns-clause-place g c =
    let key = c.args.key in
    let xs = c.args.rows.now in
    place-is key xs c.partition_point.result c.partition_point.ensures.bound
    (IsPartitionPoint-from_clause (λ (x : ℕ × g.row.T.Denot). nat_lt x.0 key) xs c.partition_point.result c.partition_point.ensures.partitioned
    (IsPartitionedBy-ltb (λ (x : ℕ × g.row.T.Denot). x.0) xs key (rises-non_decreasing 0 xs c.requires))
    (λ a r f' k. search rules))
