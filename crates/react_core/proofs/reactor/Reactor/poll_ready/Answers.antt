use Rattle.std.proofs.Common.{◌≡◌, ◌∙◌, sym, ap, refl, None, length, arith}
use Rattle.std.proofs.lemmas.Result.{err_from_is_err_and}
use Rattle.std.specs.Option.{option_copied_mut, option_to_list}
use Rattle.futures.specs.declared.task.Poll.TheVariants.{Ready, Pending}
use Rattle.react_core.specs.Asking.{asked_of, first_task, after_direction}
use Rattle.react_core.specs.Places.{Direction}
use Rattle.react_core.specs.Readiness.{Fires, Stays, poll_outcome, direction_outcome, poll_answer, is_ready, woken_by, arms}
use Rattle.react_core.specs.Sources.{side}
use Rattle.react_core.specs.Step.{PolledPoll, Polled}
use Rattle.react_core.specs.Steps.{one-step}
use Rattle.react_core.specs.Told.{told}
use Rattle.react_core.specs.contracts.reactor.Reactor.{the_view}
use Rattle.react_core.proofs.Askings.{as-fires, as-stays, as-begins, few-woken, futures-after_direction, begun_after, outcome-at, fresh-at, polled-core, told-polled, told-refused}
use Rattle.react_core.proofs.Dated.{dated-after_direction}
use Rattle.react_core.proofs.Looking.{found-in}
use Rattle.react_core.proofs.Turning.{found-at, turned-to, length-turned, places-turned, dated-at, dated-turned}
use Rattle.react_core.proofs.Woken.{WokeAll-stored, WokeAll-none}
use Rattle.react_core.proofs.reactor.Reactor.poll_ready.Goals.{in-Some-stored, in_default-stored}
use Rattle.react_core.proofs.reactor.Reactor.poll_ready.Goals as goal

pub unreachable-requires : goal.unreachable-requires
unreachable-requires g c =
    let absent = found-in c.self.inside.sources c.args.key None (ap option_copied_mut (sym c.in_default.is) ∙ c.get_mut.follows) in
    let present = rw (← c.self.view_is, absent) at c.requires in cc

pub poll-requires : goal.poll-requires
poll-requires g c =
    let at = ap option_copied_mut (sym c.in-Some.is) ∙ c.get_mut.follows in
    rw c.side_mut.ensures.value (dated-at c.self.inside.sources c.args.key c.in-Some.source.now c.args.dir at c.self.inside.ticker c.self.invariant.dated).reported

pub returns-in_err-asked-clause-refused : goal.returns-in_err-asked-clause-refused
returns-in_err-asked-clause-refused g c =
    let s = c.in-Some.source.now in
    let key = c.args.key in
    let dir = c.args.dir in
    let task = c.args.task in
    let at = ap option_copied_mut (sym c.in-Some.is) ∙ c.get_mut.follows in
    let core = (the_view c.self.inside).core in
    let here = found-at c.self.inside.sources key s dir at in
    let p = err_from_is_err_and c.from_residual.result c.from_residual.ensures.1 in
    rw (← c.self.view_is, p.1) (ap arms (outcome-at core key dir task s here ∙ ap (direction_outcome task) (sym c.side_mut.ensures.value)) ∙ c.in_err-asked.ensures.refused)

pub returns-in_err-asked-clause-told : goal.returns-in_err-asked-clause-told
returns-in_err-asked-clause-told g c =
    let s = c.in-Some.source.now in
    let key = c.args.key in
    let dir = c.args.dir in
    let at = ap option_copied_mut (sym c.in-Some.is) ∙ c.get_mut.follows in
    let core = (the_view c.self.inside).core in
    let here = found-at c.self.inside.sources key s dir at in
    let p = err_from_is_err_and c.from_residual.result c.from_residual.ensures.1 in
    rw (← c.self.view_is, p.1, p.2)
    (c.in_err-asked.ensures.told
    ∙ ap (told (g.R.Tells.outer c.args.registrar.now).events) (told-refused core key dir c.args.task s here _ _ c.side_mut.ensures.value c.arming-arming.ensures c.in_err-asked.field-0.0))

pub invariant_of-self-in-Fires : goal.invariant_of-self-in-Fires
invariant_of-self-in-Fires g c =
    let table = c.self.inside.sources in
    let s = c.in-Some.source.now in
    let key = c.args.key in
    let dir = c.args.dir in
    let task = c.args.task in
    let at = ap option_copied_mut (sym c.in-Some.is) ∙ c.get_mut.follows in
    let is = c.in_ok-asked.ensures.direction in
    let before = ap (λ (d : Direction). length d.futures) c.side_mut.ensures.value in
    let after = ap (λ (d : Direction). length d.futures) is in
    let kept = ap length (futures-after_direction c.self.inside.ticker task c.side_mut.result.now) in
    record {
      room = omega (arith, length-turned table key s dir at c.poll.new.self, c.self.invariant.room);
      places = omega (arith, before, after, kept, places-turned table key s dir at c.poll.new.self, c.self.invariant.places);
      dated = dated-turned table key s dir at c.self.inside.ticker c.poll.new.self c.self.invariant.dated
          (rw (is, c.side_mut.ensures.value) (dated-after_direction c.self.inside.ticker task (side dir s)
          (dated-at table key s dir at c.self.inside.ticker c.self.invariant.dated)));
      numbered = c.self.invariant.numbered;
    }

pub invariant_of-self-2 : goal.invariant_of-self-2
invariant_of-self-2 g c =
    let table = c.self.inside.sources in
    let s = c.in-Some.source.now in
    let key = c.args.key in
    let dir = c.args.dir in
    let task = c.args.task in
    let at = ap option_copied_mut (sym c.in-Some.is) ∙ c.get_mut.follows in
    let is = c.in_ok-asked.ensures.direction in
    let before = ap (λ (d : Direction). length d.futures) c.side_mut.ensures.value in
    let after = ap (λ (d : Direction). length d.futures) is in
    let kept = ap length (futures-after_direction c.self.inside.ticker task c.side_mut.result.now) in
    record {
      room = omega (arith, length-turned table key s dir at c.poll.new.self, c.self.invariant.room);
      places = omega (arith, before, after, kept, places-turned table key s dir at c.poll.new.self, c.self.invariant.places);
      dated = dated-turned table key s dir at c.self.inside.ticker c.poll.new.self c.self.invariant.dated
          (rw (is, c.side_mut.ensures.value) (dated-after_direction c.self.inside.ticker task (side dir s)
          (dated-at table key s dir at c.self.inside.ticker c.self.invariant.dated)));
      numbered = c.self.invariant.numbered;
    }

pub returns-in-Fires-clause-ready : goal.returns-in-Fires-clause-ready
returns-in-Fires-clause-ready g c =
    let s = c.in-Some.source.now in
    let key = c.args.key in
    let dir = c.args.dir in
    let task = c.args.task in
    let at = ap option_copied_mut (sym c.in-Some.is) ∙ c.get_mut.follows in
    let core = (the_view c.self.inside).core in
    let here = found-at c.self.inside.sources key s dir at in
    let outcome : direction_outcome task (side dir s) ≡ Fires = as-fires _ (ap (λ d. asked_of (direction_outcome task d)) (sym c.side_mut.ensures.value) ∙ sym c.in_ok-asked.ensures.asked
    ∙ c.in-Fires.is) in
    rw (← c.self.view_is) (sym (fresh-at core key dir task s here ∙ ap (λ o. is_ready (poll_answer o)) outcome))

pub returns-in-Fires-clause-step : goal.returns-in-Fires-clause-step
returns-in-Fires-clause-step g c =
    let table = c.self.inside.sources in
    let s = c.in-Some.source.now in
    let key = c.args.key in
    let dir = c.args.dir in
    let task = c.args.task in
    let at = ap option_copied_mut (sym c.in-Some.is) ∙ c.get_mut.follows in
    let core = (the_view c.self.inside).core in
    let here = found-at table key s dir at in
    let outcome : direction_outcome task (side dir s) ≡ Fires = as-fires _ (ap (λ d. asked_of (direction_outcome task d)) (sym c.side_mut.ensures.value) ∙ sym c.in_ok-asked.ensures.asked
    ∙ c.in-Fires.is) in
    rw (← c.self.view_is) (record {
      known = rw here refl;
      answered = sym (ap poll_answer (outcome-at core key dir task s here ∙ outcome));
      wakes = refl;
      core = polled-core core key dir task s here _ c.self.inside.begun
          (turned-to table key s dir at (after_direction c.self.inside.ticker task) c.side_mut.result.now c.poll.new.self c.side_mut.ensures.value c.in_ok-asked.ensures.direction)
          (sym (ap (begun_after c.self.inside.begun) outcome));
    })

pub returns-in-Fires-clause-steps : goal.returns-in-Fires-clause-steps
returns-in-Fires-clause-steps g c =
    one-step (PolledPoll c.args.key c.args.dir c.args.task) (Polled (Ready tt)) (woken_by (poll_outcome c.args.self.now.core c.args.key c.args.dir c.args.task)) (returns-in-Fires-clause-step g c)

pub returns-in-Fires-clause-woken : goal.returns-in-Fires-clause-woken
returns-in-Fires-clause-woken g c =
    let s = c.in-Some.source.now in
    let key = c.args.key in
    let dir = c.args.dir in
    let task = c.args.task in
    let at = ap option_copied_mut (sym c.in-Some.is) ∙ c.get_mut.follows in
    let core = (the_view c.self.inside).core in
    let here = found-at c.self.inside.sources key s dir at in
    let outcome : direction_outcome task (side dir s) ≡ Fires = as-fires _ (ap (λ d. asked_of (direction_outcome task d)) (sym c.side_mut.ensures.value) ∙ sym c.in_ok-asked.ensures.asked
    ∙ c.in-Fires.is) in
    rw (← c.self.view_is, outcome-at core key dir task s here, outcome) refl

pub returns-in-Fires-clause-told : goal.returns-in-Fires-clause-told
returns-in-Fires-clause-told g c =
    let s = c.in-Some.source.now in
    let key = c.args.key in
    let dir = c.args.dir in
    let at = ap option_copied_mut (sym c.in-Some.is) ∙ c.get_mut.follows in
    let core = (the_view c.self.inside).core in
    let here = found-at c.self.inside.sources key s dir at in
    rw (← c.self.view_is)
    (c.in_ok-asked.ensures.told
    ∙ ap (told (g.R.Tells.outer c.args.registrar.now).events)
    (told-polled core key dir c.args.task s here c.side_mut.result.now c.arming-arming.result c.side_mut.ensures.value c.arming-arming.ensures (Ready tt)))

pub returns-in-Stays-clause-ready : goal.returns-in-Stays-clause-ready
returns-in-Stays-clause-ready g c =
    let s = c.in-Some.source.now in
    let key = c.args.key in
    let dir = c.args.dir in
    let task = c.args.task in
    let at = ap option_copied_mut (sym c.in-Some.is) ∙ c.get_mut.follows in
    let core = (the_view c.self.inside).core in
    let here = found-at c.self.inside.sources key s dir at in
    let outcome : direction_outcome task (side dir s) ≡ Stays = as-stays _ (ap (λ d. asked_of (direction_outcome task d)) (sym c.side_mut.ensures.value) ∙ sym c.in_ok-asked.ensures.asked
    ∙ c.in-Stays.is) in
    rw (← c.self.view_is) (sym (fresh-at core key dir task s here ∙ ap (λ o. is_ready (poll_answer o)) outcome))

pub returns-in-Stays-clause-step : goal.returns-in-Stays-clause-step
returns-in-Stays-clause-step g c =
    let table = c.self.inside.sources in
    let s = c.in-Some.source.now in
    let key = c.args.key in
    let dir = c.args.dir in
    let task = c.args.task in
    let at = ap option_copied_mut (sym c.in-Some.is) ∙ c.get_mut.follows in
    let core = (the_view c.self.inside).core in
    let here = found-at table key s dir at in
    let outcome : direction_outcome task (side dir s) ≡ Stays = as-stays _ (ap (λ d. asked_of (direction_outcome task d)) (sym c.side_mut.ensures.value) ∙ sym c.in_ok-asked.ensures.asked
    ∙ c.in-Stays.is) in
    rw (← c.self.view_is) (record {
      known = rw here refl;
      answered = sym (ap poll_answer (outcome-at core key dir task s here ∙ outcome));
      wakes = refl;
      core = polled-core core key dir task s here _ c.self.inside.begun
          (turned-to table key s dir at (after_direction c.self.inside.ticker task) c.side_mut.result.now c.poll.new.self c.side_mut.ensures.value c.in_ok-asked.ensures.direction)
          (sym (ap (begun_after c.self.inside.begun) outcome));
    })

pub returns-in-Stays-clause-steps : goal.returns-in-Stays-clause-steps
returns-in-Stays-clause-steps g c =
    one-step (PolledPoll c.args.key c.args.dir c.args.task) (Polled Pending) (woken_by (poll_outcome c.args.self.now.core c.args.key c.args.dir c.args.task)) (returns-in-Stays-clause-step g c)

pub returns-in-Stays-clause-woken : goal.returns-in-Stays-clause-woken
returns-in-Stays-clause-woken g c =
    let s = c.in-Some.source.now in
    let key = c.args.key in
    let dir = c.args.dir in
    let task = c.args.task in
    let at = ap option_copied_mut (sym c.in-Some.is) ∙ c.get_mut.follows in
    let core = (the_view c.self.inside).core in
    let here = found-at c.self.inside.sources key s dir at in
    let outcome : direction_outcome task (side dir s) ≡ Stays = as-stays _ (ap (λ d. asked_of (direction_outcome task d)) (sym c.side_mut.ensures.value) ∙ sym c.in_ok-asked.ensures.asked
    ∙ c.in-Stays.is) in
    rw (← c.self.view_is, outcome-at core key dir task s here, outcome) refl

pub returns-in-Stays-clause-told : goal.returns-in-Stays-clause-told
returns-in-Stays-clause-told g c =
    let s = c.in-Some.source.now in
    let key = c.args.key in
    let dir = c.args.dir in
    let at = ap option_copied_mut (sym c.in-Some.is) ∙ c.get_mut.follows in
    let core = (the_view c.self.inside).core in
    let here = found-at c.self.inside.sources key s dir at in
    rw (← c.self.view_is)
    (c.in_ok-asked.ensures.told
    ∙ ap (told (g.R.Tells.outer c.args.registrar.now).events)
    (told-polled core key dir c.args.task s here c.side_mut.result.now c.arming-arming.result c.side_mut.ensures.value c.arming-arming.ensures (Pending)))

pub returns-clause-ready : goal.returns-clause-ready
returns-clause-ready g c =
    let s = c.in-Some.source.now in
    let key = c.args.key in
    let dir = c.args.dir in
    let task = c.args.task in
    let at = ap option_copied_mut (sym c.in-Some.is) ∙ c.get_mut.follows in
    let core = (the_view c.self.inside).core in
    let here = found-at c.self.inside.sources key s dir at in
    let begins = as-begins (direction_outcome task (side dir s)) c.in-Begins.stored (ap (λ d. asked_of (direction_outcome task d)) (sym c.side_mut.ensures.value) ∙ sym c.in_ok-asked.ensures.asked
    ∙ c.in-Begins.is) in
    rw (← c.self.view_is) (sym (fresh-at core key dir task s here ∙ ap (λ o. is_ready (poll_answer o)) begins.2))

pub returns-clause-step : goal.returns-clause-step
returns-clause-step g c =
    let table = c.self.inside.sources in
    let s = c.in-Some.source.now in
    let key = c.args.key in
    let dir = c.args.dir in
    let task = c.args.task in
    let at = ap option_copied_mut (sym c.in-Some.is) ∙ c.get_mut.follows in
    let core = (the_view c.self.inside).core in
    let here = found-at table key s dir at in
    let begins = as-begins (direction_outcome task (side dir s)) c.in-Begins.stored (ap (λ d. asked_of (direction_outcome task d)) (sym c.side_mut.ensures.value) ∙ sym c.in_ok-asked.ensures.asked
    ∙ c.in-Begins.is) in
    rw (← c.self.view_is) (record {
      known = rw here refl;
      answered = sym (ap poll_answer (outcome-at core key dir task s here ∙ begins.2));
      wakes = refl;
      core = polled-core core key dir task s here _ c.saturating_add-self-inside.result
          (turned-to table key s dir at (after_direction c.self.inside.ticker task) c.side_mut.result.now c.poll.new.self c.side_mut.ensures.value c.in_ok-asked.ensures.direction)
          (c.saturating_add-self-inside.ensures ∙ sym (ap (begun_after c.self.inside.begun) begins.2));
    })

pub returns-clause-steps : goal.returns-clause-steps
returns-clause-steps g c =
    one-step (PolledPoll c.args.key c.args.dir c.args.task) (Polled Pending) (woken_by (poll_outcome c.args.self.now.core c.args.key c.args.dir c.args.task)) (returns-clause-step g c)

pub returns-clause-woken : goal.returns-clause-woken
returns-clause-woken g c =
    let s = c.in-Some.source.now in
    let key = c.args.key in
    let dir = c.args.dir in
    let task = c.args.task in
    let at = ap option_copied_mut (sym c.in-Some.is) ∙ c.get_mut.follows in
    let core = (the_view c.self.inside).core in
    let here = found-at c.self.inside.sources key s dir at in
    let begins = as-begins (direction_outcome task (side dir s)) c.in-Begins.stored (ap (λ d. asked_of (direction_outcome task d)) (sym c.side_mut.ensures.value) ∙ sym c.in_ok-asked.ensures.asked
    ∙ c.in-Begins.is) in
    let tasks = few-woken task (side dir s) ∙ ap (λ o. option_to_list (first_task (woken_by o))) begins.2 ∙ ap option_to_list begins.3 in
    rw (← c.self.view_is, outcome-at core key dir task s here)
    (elim c.match-stored.branch [
      | in-Some-stored w ↦ WokeAll-stored g.W.Wakes.woke _ _ _ _ c.in-Begins.stored w.in-Some-stored.stored tasks w.in-Some-stored.is w.wakes-is w.wake.ensures.woke
      | in_default-stored w ↦ WokeAll-none g.W.Wakes.woke _ _ _ c.in-Begins.stored tasks w.in_default-stored.is w.wakes-is
    ])

pub returns-clause-told : goal.returns-clause-told
returns-clause-told g c =
    let s = c.in-Some.source.now in
    let key = c.args.key in
    let dir = c.args.dir in
    let at = ap option_copied_mut (sym c.in-Some.is) ∙ c.get_mut.follows in
    let core = (the_view c.self.inside).core in
    let here = found-at c.self.inside.sources key s dir at in
    rw (← c.self.view_is)
    (c.in_ok-asked.ensures.told
    ∙ ap (told (g.R.Tells.outer c.args.registrar.now).events)
    (told-polled core key dir c.args.task s here c.side_mut.result.now c.arming-arming.result c.side_mut.ensures.value c.arming-arming.ensures Pending))
