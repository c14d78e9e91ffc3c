use Rattle.std.proofs.Common.{not, length, rules, tests, ◌∙◌, ap}
use Rattle.std.specs.Prelude.{unwrap_or}
use Rattle.std.proofs.lemmas.Iterator.{YieldsList-from_slice}
use Rattle.std.proofs.lemmas.Iterator.Search.{position_from_yields_List}
use Rattle.bus_names.specs.Grammar.{goes_on}
use Rattle.bus_names.specs.Classes.{run_len}
use Rattle.bus_names.proofs.GrammarLemmas.{run-found, run-within}
use Rattle.bus_names.proofs.grammar.run_len.Goals as goal

pub returns-clause-len : goal.returns-clause-len
returns-clause-len c =
    let p = position_from_yields_List (λ b. not (goes_on c.args.form b)) _ _ c.position.result c.position.ensures.ran (YieldsList-from_slice c.args.text.now cc) (λ x b q k. search (rules, tests)) in
    let w = run-within c.args.form c.args.text.now in
    let f = run-found (run_len c.args.form c.args.text.now) (length c.args.text.now) w in
    c.unwrap_or.ensures ∙ ap (λ o. unwrap_or o (length c.args.text.now)) p ∙ f
