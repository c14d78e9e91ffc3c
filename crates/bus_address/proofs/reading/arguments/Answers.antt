use Rattle.std.proofs.Common.{map, ap, ◌∙◌, ◌+◌}
use Rattle.bus_address.specs.Entries.{argument_key}
use Rattle.bus_address.specs.Values.{decoded, optional}
use Rattle.bus_address.specs.Lookups.{found}
use Rattle.bus_address.proofs.AddressLemmas.{refused_too}
use Rattle.bus_address.proofs.ArgumentLemmas.{arguments_next, arguments_stop, arguments_fail, map_push}
use Rattle.bus_address.proofs.reading.arguments.Goals as goal

pub returns-in-Ok-None : goal.returns-in-Ok-None
returns-in-Ok-None c =
    arguments_stop (λ n. found c.args.options.now.values (argument_key n)) c.args.len c.loop-index.index _ _ c.loop-index-test.true
    (rw c.in-Ok-None.field-0-is at c.in-Ok-None.ensures)
    c.loop-index.invariant

pub returns-in-Err : goal.returns-in-Err
returns-in-Err c =
    refused_too c.in-Err.error (optional decoded (found c.args.options.now.values (argument_key (c.loop-index.index + 1)))) _
    (λ k says. arguments_fail (λ n. found c.args.options.now.values (argument_key n)) c.args.len c.loop-index.index _ k _ c.loop-index-test.true says c.loop-index.invariant)
    c.in-Err.ensures

pub loop-index-preserved : goal.loop-index-preserved
loop-index-preserved c =
    arguments_next (λ n. found c.args.options.now.values (argument_key n)) c.args.len c.loop-index.index _ _ c.in-Ok-Some.bytes.items _ c.loop-index-test.true
    (rw c.in-Ok-Some.field-0-is at c.in-Ok-Some.ensures)
    (ap (map (λ v. v.items)) c.in_ok-push-in-Ok-Some.ensures.items ∙ map_push (λ v. v.items) c.loop-index.arguments.items c.in-Ok-Some.bytes)
    c.loop-index.invariant
