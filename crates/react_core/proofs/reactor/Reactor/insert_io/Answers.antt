use Rattle.std.proofs.Common.{◌≡◌, ◌==◌, if◌then◌else◌, Some, refl, ap, length, ◌∙◌, Err, arith}
use Rattle.std.proofs.lemmas.Result.{err_from_is_err_and}
use Rattle.react_core.proofs.Dated.{dated-new}
use Rattle.react_core.proofs.Places.{places-new}
use Rattle.react_core.proofs.Keyed.{length-with_new_at, without_at-with_new_at, at_key-with_new_at}
use Rattle.react_core.proofs.Tables.{at_key-entries}
use Rattle.react_core.proofs.Refusals.{InsertTold-refused}
use Rattle.std.proofs.Common.{[], rules}
use Rattle.slab.specs.Slab.{entries}
use Rattle.react_core.specs.Core.{ReactorState}
use Rattle.react_core.specs.Sources.{source_of, without, new_source}
use Rattle.react_core.specs.Step.{Insert, Done}
use Rattle.react_core.specs.Steps.{one-step}
use Rattle.react_core.proofs.reactor.Reactor.insert_io.Goals as goal

pub returns-in_err-add-clause-told : goal.returns-in_err-add-clause-told
returns-in_err-add-clause-told g c =
    let p = err_from_is_err_and c.from_residual-in_err-add.result c.from_residual-in_err-add.ensures.1 in
    InsertTold-refused c.args.self.now.core c.args.wire c.vacant_key-key.result c.in_err-add.field-0.0 c.from_residual-in_err-add.result _ _
    (rw (← c.self.view_is, ← c.make_room.ensures.sources) (at_key-entries c.make_room.new.sources c.vacant_key-key.result ∙ c.vacant_key-key.ensures.vacant))
    c.in_err-add.ensures.told (p.1 ∙ ap Err p.2)

pub invariant_of-self-2 : goal.invariant_of-self-2
invariant_of-self-2 g c = record {
  room = let others = rw (← c.self.view_is) at c.most_others-others.ensures in
      omega (arith, others, c.self.invariant.places, length-with_new_at, c.in_ok-make_room.ensures.tasks, ap length c.put_in.ensures.entries, ap length c.make_room.ensures.sources);
  places = rw (c.put_in.ensures.entries, c.make_room.ensures.sources, c.new.ensures, places-new) c.self.invariant.places;
  dated = rw (c.put_in.ensures.entries, c.make_room.ensures.sources, c.new.ensures) (dated-new c.self.inside.ticker _ _ _ c.self.invariant.dated);
  numbered = c.self.invariant.numbered;
}

pub returns-clause-steps : goal.returns-clause-steps
returns-clause-steps g c = one-step (Insert c.args.wire c.put_in.result) Done [] (search rules)

pub returns-clause-undone : goal.returns-clause-undone
returns-clause-undone g c =
    let gone : without (entries c.put_in.new.sources) c.put_in.result ≡ entries c.self.inside.sources =
    ap (λ ss. without ss c.put_in.result) c.put_in.ensures.entries
    ∙ without_at-with_new_at (entries c.make_room.new.sources) c.put_in.result c.new.result c.put_in.ensures.free
    ∙ c.make_room.ensures.sources in
    rw (← c.self.view_is, gone, c.make_room.ensures.hands) refl

pub returns-clause-others : goal.returns-clause-others
returns-clause-others g c other =
    let key = c.put_in.result in
    let was : entries c.make_room.new.sources ≡ c.args.self.now.core.sources = c.make_room.ensures.sources ∙ ap (λ (s : ReactorState). s.core.sources) c.self.view_is in
    ap (λ ss. source_of ss other) c.put_in.ensures.entries
    ∙ at_key-with_new_at (entries c.make_room.new.sources) key other c.new.result c.put_in.ensures.free
    ∙ ap (λ s. if key == other then Some s else source_of (entries c.make_room.new.sources) other) c.new.ensures
    ∙ ap (λ ss. if key == other then Some (new_source c.args.wire) else source_of ss other) was
