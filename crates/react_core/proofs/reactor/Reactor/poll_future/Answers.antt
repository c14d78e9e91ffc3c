use Rattle.std.proofs.Common.{◌≡◌, ◌∙◌, ℕ, sym, ap, refl, None, Ok, [], length, is_some, true, arith}
use Rattle.std.proofs.lemmas.Result.{err_from_is_err_and}
use Rattle.std.specs.Option.{option_copied_mut}
use Rattle.slab.proofs.SlabLemmas.{length-entries}
use Rattle.react_core.specs.Asking.{ask_told}
use Rattle.react_core.specs.Core.{ReactorState}
use Rattle.react_core.specs.Futures.{asks, is_fired, held_place, entry_given, direction_at, future_answer, after_future}
use Rattle.react_core.specs.Keyed.{at_key}
use Rattle.react_core.specs.Places.{Direction}
use Rattle.react_core.specs.Readiness.{is_ready, fresh_at}
use Rattle.react_core.specs.Sources.{side}
use Rattle.react_core.specs.Step.{FuturePoll, Polled}
use Rattle.react_core.specs.Steps.{one-step}
use Rattle.react_core.specs.Told.{told}
use Rattle.futures.specs.declared.task.Poll.{Poll}
use Rattle.futures.specs.declared.task.Poll.TheVariants.{Pending}
use Rattle.react_core.specs.contracts.reactor.Reactor.{the_view}
use Rattle.react_core.proofs.Dated.{dated-after_future, dated-with_future}
use Rattle.react_core.proofs.Futures.{held-some, held-none, is_ready-answer, length-after_future, length-with_future, after_future-first, refusal-asked, refusal-first}
use Rattle.react_core.proofs.Futures.{direction-at, future-fresh, future-core, told-future, told-refused}
use Rattle.react_core.proofs.Looking.{found-in}
use Rattle.react_core.proofs.Turning.{state-is, found-at, turned-to, length-turned, places-turned, dated-at, dated-turned}
use Rattle.react_core.proofs.reactor.Reactor.poll_future.Goals as goal

pub unreachable-requires : goal.unreachable-requires
unreachable-requires g c =
    let absent = found-in c.self.inside.sources c.args.key None (ap option_copied_mut (sym c.in_default.is) ∙ c.get_mut.follows) in
    let present = rw (← c.self.view_is, absent) at c.requires in cc

pub returns-in_err-answer-clause-refused : goal.returns-in_err-answer-clause-refused
returns-in_err-answer-clause-refused g c =
    let s = c.in-Some.source.now in
    let key = c.args.key in
    let dir = c.args.dir in
    let at = ap option_copied_mut (sym c.in-Some.is) ∙ c.get_mut.follows in
    let core = (the_view c.self.inside).core in
    let here = found-at c.self.inside.sources key s dir at in
    let held = held-some c.side_mut-interest.result.now.futures c.args.place c.in-Some-held.place (sym c.held.ensures ∙ c.in-Some-held.is) in
    let p = err_from_is_err_and c.from_residual.result c.from_residual.ensures.1 in
    let asked : asks (direction_at core key dir) (entry_given (direction_at core key dir).futures c.args.place) ≡ true =
    ap (λ d. asks d (entry_given d.futures c.args.place)) (direction-at core key dir s here ∙ sym c.side_mut-interest.ensures.value)
    ∙ ap (λ o. asks c.side_mut-interest.result.now (entry_given c.side_mut-interest.result.now.futures o)) held.0 ∙ c.in_err-answer.ensures.refused in
    rw (← c.self.view_is, p.1, p.2) (refusal-asked (Poll (Unit {0})) (ℕ × Poll (Unit {0})) c.in_err-answer.field-0.0 _ _ _ _ c.in_err-answer.ensures.cause asked)

pub returns-in_err-answer-clause-told : goal.returns-in_err-answer-clause-told
returns-in_err-answer-clause-told g c =
    let s = c.in-Some.source.now in
    let key = c.args.key in
    let dir = c.args.dir in
    let at = ap option_copied_mut (sym c.in-Some.is) ∙ c.get_mut.follows in
    let core = (the_view c.self.inside).core in
    let here = found-at c.self.inside.sources key s dir at in
    let p = err_from_is_err_and c.from_residual.result c.from_residual.ensures.1 in
    rw (← c.self.view_is, p.1, p.2)
    (c.in_err-answer.ensures.told
    ∙ ap (told (g.R.Tells.outer c.args.registrar.now).events) (told-refused core key dir s here _ _ c.side_mut-interest.ensures.value c.arming-arming.ensures (Poll
    (Unit {0})) true c.in_err-answer.field-0.0))

pub invariant_of-self-in-Some-held : goal.invariant_of-self-in-Some-held
invariant_of-self-in-Some-held g c =
    let table = c.self.inside.sources in
    let s = c.in-Some.source.now in
    let key = c.args.key in
    let dir = c.args.dir in
    let task = c.args.task in
    let at = ap option_copied_mut (sym c.in-Some.is) ∙ c.get_mut.follows in
    let held = held-some c.side_mut-interest.result.now.futures c.args.place c.in-Some-held.place (sym c.held.ensures ∙ c.in-Some-held.is) in
    let is = c.in_ok-answer.ensures.direction c.self.inside.ticker in
    let before = ap (λ (d : Direction). length d.futures) c.side_mut-interest.ensures.value in
    let after = ap (λ (d : Direction). length d.futures) is in
    let kept = length-after_future c.self.inside.ticker task c.side_mut-interest.result.now c.in-Some-held.place held.1 in
    record {
      room = omega (arith, length-turned table key s dir at c.poll_held.new.self, c.self.invariant.room);
      places = omega (arith, before, after, kept, places-turned table key s dir at c.poll_held.new.self, c.self.invariant.places);
      dated = dated-turned table key s dir at c.self.inside.ticker c.poll_held.new.self c.self.invariant.dated
          (rw (is, c.side_mut-interest.ensures.value) (dated-after_future c.self.inside.ticker task (side dir s) c.in-Some-held.place
          (dated-at table key s dir at c.self.inside.ticker c.self.invariant.dated)));
      numbered = c.self.invariant.numbered;
    }

pub returns-in-Some-held-clause-ready : goal.returns-in-Some-held-clause-ready
returns-in-Some-held-clause-ready g c =
    let s = c.in-Some.source.now in
    let key = c.args.key in
    let dir = c.args.dir in
    let at = ap option_copied_mut (sym c.in-Some.is) ∙ c.get_mut.follows in
    let core = (the_view c.self.inside).core in
    let here = found-at c.self.inside.sources key s dir at in
    rw (← c.self.view_is)
    (ap is_ready c.in_ok-answer.ensures.answer ∙ is_ready-answer _ ∙ ap (λ d. is_fired d c.in-Some-held.place) c.side_mut-interest.ensures.value
    ∙ sym (future-fresh core key dir s here c.in-Some-held.place))

pub returns-in-Some-held-clause-step : goal.returns-in-Some-held-clause-step
returns-in-Some-held-clause-step g c =
    let table = c.self.inside.sources in
    let s = c.in-Some.source.now in
    let key = c.args.key in
    let dir = c.args.dir in
    let task = c.args.task in
    let at = ap option_copied_mut (sym c.in-Some.is) ∙ c.get_mut.follows in
    let core = (the_view c.self.inside).core in
    let here = found-at table key s dir at in
    rw (← c.self.view_is) (record {
      known = rw here refl;
      answered = c.in_ok-answer.ensures.answer
          ∙ ap future_answer (ap (λ d. is_fired d c.in-Some-held.place) c.side_mut-interest.ensures.value ∙ sym (future-fresh core key dir s here c.in-Some-held.place));
      wakes = refl;
      core = future-core core key dir s here _ task c.in-Some-held.place
          (turned-to table key s dir at (λ d. after_future c.self.inside.ticker task d c.in-Some-held.place) c.side_mut-interest.result.now c.poll_held.new.self c.side_mut-interest.ensures.value
          (c.in_ok-answer.ensures.direction c.self.inside.ticker));
    })

pub returns-in-Some-held-clause-core : goal.returns-in-Some-held-clause-core
returns-in-Some-held-clause-core g c =
    state-is c.args.self.now _ _ _ _ refl (returns-in-Some-held-clause-step g c).core (ap (λ (s : ReactorState). s.events) c.self.view_is)

pub returns-in-Some-held-clause-steps : goal.returns-in-Some-held-clause-steps
returns-in-Some-held-clause-steps g c =
    one-step (FuturePoll c.args.key c.args.dir c.in-Some-held.place c.args.task) (Polled c.in_ok-answer.answer) [] (returns-in-Some-held-clause-step g c)

pub returns-in-Some-held-clause-told : goal.returns-in-Some-held-clause-told
returns-in-Some-held-clause-told g c =
    let s = c.in-Some.source.now in
    let key = c.args.key in
    let dir = c.args.dir in
    let at = ap option_copied_mut (sym c.in-Some.is) ∙ c.get_mut.follows in
    let core = (the_view c.self.inside).core in
    let here = found-at c.self.inside.sources key s dir at in
    rw (← c.self.view_is)
    (c.in_ok-answer.ensures.told
    ∙ ap (told (g.R.Tells.outer c.args.registrar.now).events)
    (told-future core key dir s here c.side_mut-interest.result.now c.arming-arming.result c.side_mut-interest.ensures.value c.arming-arming.ensures c.in-Some-held.place c.in_ok-answer.answer))

pub returns-in_err-make_place-clause-memory : goal.returns-in_err-make_place-clause-memory
returns-in_err-make_place-clause-memory g c present =
    let s = c.in-Some.source.now in
    let key = c.args.key in
    let dir = c.args.dir in
    let at = ap option_copied_mut (sym c.in-Some.is) ∙ c.get_mut.follows in
    let core = (the_view c.self.inside).core in
    let here = found-at c.self.inside.sources key s dir at in
    let absent = ap (λ d. held_place d.futures c.args.place) (direction-at core key dir s here ∙ sym c.side_mut-interest.ensures.value) ∙ sym c.held.ensures ∙ c.in_default-held.is in
    absurd (let some = ap is_some (sym absent) ∙ (rw (← c.self.view_is) at present) in cc)

pub returns-in_err-place-clause-memory : goal.returns-in_err-place-clause-memory
returns-in_err-place-clause-memory g c present =
    let s = c.in-Some.source.now in
    let key = c.args.key in
    let dir = c.args.dir in
    let at = ap option_copied_mut (sym c.in-Some.is) ∙ c.get_mut.follows in
    let core = (the_view c.self.inside).core in
    let here = found-at c.self.inside.sources key s dir at in
    let absent = ap (λ d. held_place d.futures c.args.place) (direction-at core key dir s here ∙ sym c.side_mut-interest.ensures.value) ∙ sym c.held.ensures ∙ c.in_default-held.is in
    absurd (let some = ap is_some (sym absent) ∙ (rw (← c.self.view_is) at present) in cc)

pub returns-in_err-make_place-clause-refused : goal.returns-in_err-make_place-clause-refused
returns-in_err-make_place-clause-refused g c =
    let s = c.in-Some.source.now in
    let key = c.args.key in
    let dir = c.args.dir in
    let at = ap option_copied_mut (sym c.in-Some.is) ∙ c.get_mut.follows in
    let core = (the_view c.self.inside).core in
    let here = found-at c.self.inside.sources key s dir at in
    let absent = ap (λ d. held_place d.futures c.args.place) (direction-at core key dir s here ∙ sym c.side_mut-interest.ensures.value) ∙ sym c.held.ensures ∙ c.in_default-held.is in
    let p = err_from_is_err_and c.from_residual-in_err-make_place.result c.from_residual-in_err-make_place.ensures.1 in
    let none = held-none (direction_at core key dir).futures c.args.place absent in
    rw (← c.self.view_is, p.1, p.2, none) tt

pub poll_first-requires : goal.poll_first-requires
poll_first-requires g c =
    let at = ap option_copied_mut (sym c.in-Some.is) ∙ c.get_mut.follows in
    rw c.side_mut-interest.ensures.value (dated-at c.self.inside.sources c.args.key c.in-Some.source.now c.args.dir at c.self.inside.ticker c.self.invariant.dated).reported

pub returns-in_err-place-clause-refused : goal.returns-in_err-place-clause-refused
returns-in_err-place-clause-refused g c =
    let s = c.in-Some.source.now in
    let key = c.args.key in
    let dir = c.args.dir in
    let at = ap option_copied_mut (sym c.in-Some.is) ∙ c.get_mut.follows in
    let core = (the_view c.self.inside).core in
    let here = found-at c.self.inside.sources key s dir at in
    let absent = ap (λ d. held_place d.futures c.args.place) (direction-at core key dir s here ∙ sym c.side_mut-interest.ensures.value) ∙ sym c.held.ensures ∙ c.in_default-held.is in
    let p = err_from_is_err_and c.from_residual-in_err-place.result c.from_residual-in_err-place.ensures.1 in
    let none = held-none (direction_at core key dir).futures c.args.place absent in
    rw (← c.self.view_is, p.1, p.2)
    (refusal-first ℕ (ℕ × Poll (Unit {0})) c.in_err-place.field-0.0 _ _ none (rw (c.side_mut-interest.ensures.value, ← direction-at core key dir s here) at c.in_err-place.ensures.refused))

pub returns-in_err-place-clause-told : goal.returns-in_err-place-clause-told
returns-in_err-place-clause-told g c =
    let s = c.in-Some.source.now in
    let key = c.args.key in
    let dir = c.args.dir in
    let at = ap option_copied_mut (sym c.in-Some.is) ∙ c.get_mut.follows in
    let core = (the_view c.self.inside).core in
    let here = found-at c.self.inside.sources key s dir at in
    let p = err_from_is_err_and c.from_residual-in_err-place.result c.from_residual-in_err-place.ensures.1 in
    rw (← c.self.view_is, p.1, p.2)
    (c.in_err-place.ensures.told
    ∙ ap (told (g.R.Tells.outer c.args.registrar.now).events) (told-refused core key dir s here _ _ c.side_mut-interest.ensures.value c.arming-arming.ensures ℕ true c.in_err-place.field-0.0))

pub invariant_of-self-2 : goal.invariant_of-self-2
invariant_of-self-2 g c =
    let table = c.self.inside.sources in
    let s = c.in-Some.source.now in
    let key = c.args.key in
    let dir = c.args.dir in
    let task = c.args.task in
    let at = ap option_copied_mut (sym c.in-Some.is) ∙ c.get_mut.follows in
    let is = c.in_ok-place.ensures.direction in
    let before = ap (λ (d : Direction). length d.futures) c.side_mut-interest.ensures.value in
    let after = ap (λ (d : Direction). length d.futures) is in
    let more = length-with_future c.self.inside.ticker task c.side_mut-interest.result.now c.in_ok-place.place c.in_ok-place.ensures.free in
    let sources = length-entries table in
    record {
      room = let others = rw (← c.self.view_is) at c.most_others-others.ensures in
          omega (arith, others, c.self.invariant.places, sources, c.len-sources.ensures, c.in_ok-make_place.ensures.tasks, length-turned table key s dir at c.poll_first.new.self);
      places = omega (arith, before, after, more, places-turned table key s dir at c.poll_first.new.self, c.self.invariant.places);
      dated = dated-turned table key s dir at c.self.inside.ticker c.poll_first.new.self c.self.invariant.dated
          (rw (is, c.side_mut-interest.ensures.value) (dated-with_future c.self.inside.ticker task (side dir s) c.in_ok-place.place
          (dated-at table key s dir at c.self.inside.ticker c.self.invariant.dated)));
      numbered = c.self.invariant.numbered;
    }

pub returns-clause-place : goal.returns-clause-place
returns-clause-place g c =
    let s = c.in-Some.source.now in
    let key = c.args.key in
    let dir = c.args.dir in
    let at = ap option_copied_mut (sym c.in-Some.is) ∙ c.get_mut.follows in
    let core = (the_view c.self.inside).core in
    let here = found-at c.self.inside.sources key s dir at in
    let absent = ap (λ d. held_place d.futures c.args.place) (direction-at core key dir s here ∙ sym c.side_mut-interest.ensures.value) ∙ sym c.held.ensures ∙ c.in_default-held.is in
    let free : at_key (direction_at core key dir).futures c.in_ok-place.place ≡ None =
    ap (λ d. at_key d.futures c.in_ok-place.place) (direction-at core key dir s here ∙ sym c.side_mut-interest.ensures.value) ∙ c.in_ok-place.ensures.free in
    rw (← c.self.view_is, absent) free

pub returns-clause-ready : goal.returns-clause-ready
returns-clause-ready g c =
    let s = c.in-Some.source.now in
    let key = c.args.key in
    let dir = c.args.dir in
    let at = ap option_copied_mut (sym c.in-Some.is) ∙ c.get_mut.follows in
    let core = (the_view c.self.inside).core in
    let here = found-at c.self.inside.sources key s dir at in
    let free : at_key (direction_at core key dir).futures c.in_ok-place.place ≡ None =
    ap (λ d. at_key d.futures c.in_ok-place.place) (direction-at core key dir s here ∙ sym c.side_mut-interest.ensures.value) ∙ c.in_ok-place.ensures.free in
    rw (← c.self.view_is) (sym (ap (fresh_at (direction_at core key dir).reported) free))

pub returns-clause-step : goal.returns-clause-step
returns-clause-step g c =
    let table = c.self.inside.sources in
    let s = c.in-Some.source.now in
    let key = c.args.key in
    let dir = c.args.dir in
    let task = c.args.task in
    let at = ap option_copied_mut (sym c.in-Some.is) ∙ c.get_mut.follows in
    let core = (the_view c.self.inside).core in
    let here = found-at table key s dir at in
    let free : at_key (direction_at core key dir).futures c.in_ok-place.place ≡ None =
    ap (λ d. at_key d.futures c.in_ok-place.place) (direction-at core key dir s here ∙ sym c.side_mut-interest.ensures.value) ∙ c.in_ok-place.ensures.free in
    rw (← c.self.view_is, c.make_place.ensures.hands) (record {
      known = rw here refl;
      answered = sym (ap (λ e. future_answer (fresh_at (direction_at core key dir).reported e)) free);
      wakes = refl;
      core = future-core core key dir s here _ task c.in_ok-place.place
          (turned-to table key s dir at (λ d. after_future c.self.inside.ticker task d c.in_ok-place.place) c.side_mut-interest.result.now c.poll_first.new.self c.side_mut-interest.ensures.value
          (c.in_ok-place.ensures.direction ∙ after_future-first c.self.inside.ticker task c.side_mut-interest.result.now c.in_ok-place.place c.in_ok-place.ensures.free));
    })

pub returns-clause-steps : goal.returns-clause-steps
returns-clause-steps g c =
    one-step (FuturePoll c.args.key c.args.dir c.in_ok-place.place c.args.task) (Polled Pending) [] (returns-clause-step g c)

pub returns-clause-core : goal.returns-clause-core
returns-clause-core g c =
    state-is c.args.self.now _ _ _ _ refl (returns-clause-step g c).core (ap (λ (s : ReactorState). s.events) c.self.view_is)

pub returns-clause-told : goal.returns-clause-told
returns-clause-told g c =
    let s = c.in-Some.source.now in
    let key = c.args.key in
    let dir = c.args.dir in
    let at = ap option_copied_mut (sym c.in-Some.is) ∙ c.get_mut.follows in
    let core = (the_view c.self.inside).core in
    let here = found-at c.self.inside.sources key s dir at in
    rw (← c.self.view_is)
    (c.in_ok-place.ensures.told
    ∙ ap (told (g.R.Tells.outer c.args.registrar.now).events)
    (ap (λ o. ask_told {T = ℕ} (asks c.side_mut-interest.result.now o) c.arming-arming.result (Ok 0)) (sym c.in_ok-place.ensures.free)
    ∙ told-future core key dir s here c.side_mut-interest.result.now c.arming-arming.result c.side_mut-interest.ensures.value c.arming-arming.ensures c.in_ok-place.place Pending))
