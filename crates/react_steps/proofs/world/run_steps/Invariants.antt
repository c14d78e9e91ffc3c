use Rattle.std.proofs.Common.{◌≡◌, ◌++◌, reverse}
use Rattle.react_steps.specs.History.{Run, kinds_of}
use Rattle.react_steps.proofs.world.run_steps.Given as goal

abbrev pub invariant-loop-kind : goal.invariant-loop-kind
invariant-loop-kind l = record {
  kinds : kinds_of l.world.history ≡ l.yielded;
  rest : l.yielded ++ l.kind-iterator.rest.items ≡ l.fn.kinds.items;
  run : Run (reverse l.world.history) l.world.world;
}
