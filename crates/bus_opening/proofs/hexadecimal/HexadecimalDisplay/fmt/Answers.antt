use Rattle.std.proofs.Common.{◌++◌, rules, append-nil, ◌∙◌}
use Rattle.std.proofs.Output.{has_written_append, has_written_of_eq}
use Rattle.std.proofs.lemmas.List.{nil_from_length}
use Rattle.hex.specs.Hex.{encode_lower}
use Rattle.bus_opening.proofs.HexLemmas.{encode_lower-nil, run_written}
use Rattle.bus_opening.proofs.hexadecimal.HexadecimalDisplay.fmt.Goals as goal

pub loop-run-preserved : goal.loop-run-preserved
loop-run-preserved g c =
    let steps = c.in-Some.ensures.steps in
    record {
      can_next = search rules;
      is_finite = tt;
      size = steps.0 ∙ c.loop-run.invariant.size;
      written = λ plain.
          let so_far = c.loop-run.invariant.written plain in (
            so_far.0 ++ encode_lower c.in-Some.run'.now,
            has_written_append _ _ _ _ _ _ so_far.1 (search rules),
            run_written so_far.0 _ _ _ _ steps.1.0 so_far.2,
          );
    }

pub returns-clause-writes : goal.returns-clause-writes
returns-clause-writes g c = λ plain _.
    let so_far = c.loop-run.invariant.written plain in
    let none = nil_from_length _ c.in-None.ensures.steps.1.0 in
    has_written_of_eq _ _ _ _ _ (rw (none, encode_lower-nil, append-nil) at so_far.2) so_far.1
