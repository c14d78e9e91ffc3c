use Rattle.std.proofs.Common.{◌==◌, if◌then◌else◌, None, ◌∙◌, sym, ap, length, arith}
use Rattle.react_core.proofs.Totals.{Each-without_at}
use Rattle.react_core.proofs.Places.{places-without}
use Rattle.react_core.proofs.Keyed.{length-without_at, at_key-without_at}
use Rattle.react_core.proofs.Tables.{KeysRiseFrom-entries_from}
use Rattle.slab.specs.Slab.{entries}
use Rattle.react_core.specs.Core.{ReactorState}
use Rattle.react_core.specs.Sources.{source_of, all_places, IsDatedSource}
use Rattle.std.proofs.Common.{[], rules}
use Rattle.react_core.specs.Step.{Remove, Done}
use Rattle.react_core.specs.Steps.{one-step}
use Rattle.react_core.proofs.reactor.Reactor.remove_io.Goals as goal

pub invariant_of-self : goal.invariant_of-self
invariant_of-self g c = record {
  room = omega (arith, ap length c.take_out.ensures.entries, length-without_at, c.self.invariant.room);
  places = omega (
    arith,
    places-without (entries c.self.inside.sources) c.args.key c.in-Some.source (sym c.take_out.ensures.source
        ∙ c.in-Some.is),
    c.places.ensures,
    c.self.invariant.places,
    ap all_places c.take_out.ensures.entries,
  );
  dated = rw c.take_out.ensures.entries (Each-without_at (IsDatedSource c.self.inside.ticker) _ _ c.self.invariant.dated);
  numbered = c.self.invariant.numbered;
}

pub invariant_of-self-2 : goal.invariant_of-self-2
invariant_of-self-2 g c = record {
  room = omega (arith, ap length c.take_out.ensures.entries, length-without_at, c.self.invariant.room);
  places = omega (
    arith,
    places-without (entries c.self.inside.sources) c.args.key c.in-Some.source (sym c.take_out.ensures.source
        ∙ c.in-Some.is),
    c.places.ensures,
    c.self.invariant.places,
    ap all_places c.take_out.ensures.entries,
  );
  dated = rw c.take_out.ensures.entries (Each-without_at (IsDatedSource c.self.inside.ticker) _ _ c.self.invariant.dated);
  numbered = c.self.invariant.numbered;
}

pub returns-in_err-delete-clause-steps : goal.returns-in_err-delete-clause-steps
returns-in_err-delete-clause-steps g c = one-step (Remove c.args.key) Done [] (search rules)

pub returns-clause-steps : goal.returns-clause-steps
returns-clause-steps g c = one-step (Remove c.args.key) Done [] (search rules)

pub returns-in_err-delete-clause-others : goal.returns-in_err-delete-clause-others
returns-in_err-delete-clause-others g c other =
    ap (λ ss. source_of ss other) c.take_out.ensures.entries
    ∙ at_key-without_at 0 (entries c.self.inside.sources) c.args.key other (KeysRiseFrom-entries_from 0 c.self.inside.sources.slots)
    ∙ ap (λ (s : ReactorState). if c.args.key == other then None else source_of s.core.sources other) c.self.view_is

pub returns-clause-others : goal.returns-clause-others
returns-clause-others g c other =
    ap (λ ss. source_of ss other) c.take_out.ensures.entries
    ∙ at_key-without_at 0 (entries c.self.inside.sources) c.args.key other (KeysRiseFrom-entries_from 0 c.self.inside.sources.slots)
    ∙ ap (λ (s : ReactorState). if c.args.key == other then None else source_of s.core.sources other) c.self.view_is

pub places-requires : goal.places-requires
places-requires g c = omega (arith, places-without (entries c.self.inside.sources) c.args.key c.in-Some.source (sym c.take_out.ensures.source ∙ c.in-Some.is), c.self.invariant.places)

pub overflow_sub-self : goal.overflow_sub-self
overflow_sub-self g c =
    omega (
      arith,
      places-without (entries c.self.inside.sources) c.args.key c.in-Some.source (sym c.take_out.ensures.source
          ∙ c.in-Some.is),
      c.places.ensures,
      c.self.invariant.places,
    )
