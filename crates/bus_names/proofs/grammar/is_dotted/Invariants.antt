use Rattle.std.proofs.Common.{◌≡◌, false, length}
use Rattle.bus_names.specs.Grammar.{is_dotted}
use Rattle.bus_names.proofs.GrammarLemmas.{rest_is_dotted}
use Rattle.bus_names.proofs.grammar.is_dotted.Given as goal

abbrev pub invariant-loop-rest : goal.invariant-loop-rest
invariant-loop-rest l = is_dotted l.form l.text ≡ rest_is_dotted l.form l.has_dot false l.rest

abbrev pub decreases-loop-rest : goal.decreases-loop-rest
decreases-loop-rest l = length l.rest
