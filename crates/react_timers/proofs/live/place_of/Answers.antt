use Rattle.std.specs.Prelude.{nat_lt}
use Rattle.std.proofs.Common.{rules}
use Rattle.std.proofs.lemmas.List.Sorted.{IsPartitionPoint-from_clause, IsPartitionedBy-ltb}
use Rattle.react_timers.specs.declared.slot.Slot.{Slot}
use Rattle.react_timers.proofs.Slots.{rises-non_decreasing, place-is}
use Rattle.react_timers.proofs.live.place_of.Goals as goal

pub returns-clause-place : goal.returns-clause-place
returns-clause-place c =
    let n = c.args.number in
    let slots = c.args.slots.now in
    place-is n slots c.partition_point.result c.partition_point.ensures.bound
    (IsPartitionPoint-from_clause (λ (s : Slot). nat_lt s.timer.number n) slots c.partition_point.result c.partition_point.ensures.partitioned
    (IsPartitionedBy-ltb (λ (s : Slot). s.timer.number) slots n (rises-non_decreasing slots c.requires))
    (λ a r f' k. search rules))
