use Rattle.std.proofs.Common.{◌≡◌, ◌==◌, ◌∷◌, false, drop, length, rules, refl}
use Rattle.std.proofs.lemmas.List.{nil_from_length}
use Rattle.bus_names.specs.Classes.{element_len}
use Rattle.bus_names.proofs.GrammarLemmas.{rest-end, rest-more}
use Rattle.bus_names.proofs.grammar.is_dotted.Goals as goal

pub returns-in-None : goal.returns-in-None
returns-in-None c =
    let some : (element_len c.args.form c.loop-rest.rest.now == 0) ≡ false = search rules in
    let cut : c.split_at.result.1.now ≡ drop (element_len c.args.form c.loop-rest.rest.now) c.loop-rest.rest.now = search rules in
    let none : length c.split_at.result.1.now ≡ 0 = search rules in
    let left = nil_from_length (drop (element_len c.args.form c.loop-rest.rest.now) c.loop-rest.rest.now) (rw (← cut) none) in
    rw (c.loop-rest.invariant, rest-end c.args.form c.loop-rest.has_dot c.loop-rest.rest.now some left) refl

pub returns-then-first-ne46 : goal.returns-then-first-ne46
returns-then-first-ne46 c =
    let some : (element_len c.args.form c.loop-rest.rest.now == 0) ≡ false = search rules in
    let left : drop (element_len c.args.form c.loop-rest.rest.now) c.loop-rest.rest.now ≡ c.in-Some.first.now ∷ c.in-Some.after.now = search rules in
    rw (c.loop-rest.invariant, rest-more c.args.form c.loop-rest.has_dot c.loop-rest.rest.now c.in-Some.first.now c.in-Some.after.now some left) (search rules)

pub loop-rest-preserved : goal.loop-rest-preserved
loop-rest-preserved c =
    let some : (element_len c.args.form c.loop-rest.rest.now == 0) ≡ false = search rules in
    let left : drop (element_len c.args.form c.loop-rest.rest.now) c.loop-rest.rest.now ≡ c.in-Some.first.now ∷ c.in-Some.after.now = search rules in
    rw (c.loop-rest.invariant, rest-more c.args.form c.loop-rest.has_dot c.loop-rest.rest.now c.in-Some.first.now c.in-Some.after.now some left) (search rules)
