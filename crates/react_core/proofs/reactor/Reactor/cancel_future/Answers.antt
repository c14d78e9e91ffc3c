use Rattle.std.proofs.Common.{◌∙◌, sym, ap, refl, None, [], length, is_some, arith}
use Rattle.std.specs.Option.{option_copied_mut}
use Rattle.react_core.specs.Core.{ReactorState}
use Rattle.react_core.specs.Futures.{without_future, direction_of}
use Rattle.react_core.specs.Keyed.{at_key}
use Rattle.react_core.specs.Places.{Direction}
use Rattle.react_core.specs.Sources.{side}
use Rattle.react_core.specs.Step.{Cancel, Done}
use Rattle.react_core.specs.Steps.{one-step}
use Rattle.react_core.proofs.Dated.{dated-without_future}
use Rattle.react_core.specs.contracts.reactor.Reactor.{the_view}
use Rattle.react_core.proofs.Futures.{direction-at}
use Rattle.react_core.proofs.Looking.{found-in}
use Rattle.react_core.proofs.Totals.{length-without_some, without_at-none}
use Rattle.react_core.proofs.Turning.{found-at, turned-is, turned-same, direction-turned, length-turned, places-turned, dated-at, dated-turned}
use Rattle.react_core.proofs.reactor.Reactor.cancel_future.Goals as goal

pub returns-in_default-clause-core : goal.returns-in_default-clause-core
returns-in_default-clause-core c =
    let absent = found-in c.self.inside.sources c.args.key None (ap option_copied_mut (sym c.in_default.is) ∙ c.get_mut.follows) in
    rw (← c.self.view_is, absent) refl

pub returns-in_default-clause-step : goal.returns-in_default-clause-step
returns-in_default-clause-step c known =
    let absent = found-in c.self.inside.sources c.args.key None (ap option_copied_mut (sym c.in_default.is) ∙ c.get_mut.follows) in
    absurd (let present = rw (← c.self.view_is, absent) at known in cc)

pub overflow_sub-self : goal.overflow_sub-self
overflow_sub-self c =
    let at = ap option_copied_mut (sym c.in-Some.is) ∙ c.get_mut.follows in
    let held = length-without_some c.side_mut.result.now.futures c.args.place (sym c.cancel.ensures.held ∙ c.if-cancel.true) in
    let before = ap (λ (d : Direction). length d.futures) c.side_mut.ensures.value in
    let after = ap (λ (d : Direction). length d.futures) c.cancel.ensures.direction in
    omega (arith, held, before, after, places-turned c.self.inside.sources c.args.key c.in-Some.source.now c.args.dir at c.cancel.new.self, c.self.invariant.places)

pub invariant_of-self-then-cancel : goal.invariant_of-self-then-cancel
invariant_of-self-then-cancel c =
    let table = c.self.inside.sources in
    let s = c.in-Some.source.now in
    let key = c.args.key in
    let dir = c.args.dir in
    let at = ap option_copied_mut (sym c.in-Some.is) ∙ c.get_mut.follows in
    let held = length-without_some c.side_mut.result.now.futures c.args.place (sym c.cancel.ensures.held ∙ c.if-cancel.true) in
    let before = ap (λ (d : Direction). length d.futures) c.side_mut.ensures.value in
    let after = ap (λ (d : Direction). length d.futures) c.cancel.ensures.direction in
    let is = c.cancel.ensures.direction ∙ ap (λ d. without_future d c.args.place) c.side_mut.ensures.value in
    record {
      room = omega (arith, length-turned table key s dir at c.cancel.new.self, c.self.invariant.room);
      places = omega (arith, held, before, after, places-turned table key s dir at c.cancel.new.self, c.self.invariant.places);
      dated = dated-turned table key s dir at c.self.inside.ticker c.cancel.new.self c.self.invariant.dated
          (rw is (dated-without_future c.self.inside.ticker (side dir s) c.args.place
          (dated-at table key s dir at c.self.inside.ticker c.self.invariant.dated)));
      numbered = c.self.invariant.numbered;
    }

pub invariant_of-self-else-cancel : goal.invariant_of-self-else-cancel
invariant_of-self-else-cancel c =
    let at = ap option_copied_mut (sym c.in-Some.is) ∙ c.get_mut.follows in
    let absent = without_at-none c.side_mut.result.now.futures c.args.place (sym c.cancel.ensures.held ∙ c.if-cancel.false) in
    let same = c.cancel.ensures.direction ∙ ap (λ fs. record c.side_mut.result.now { futures = fs }) absent ∙ c.side_mut.ensures.value in
    let stays = turned-same c.self.inside.sources c.args.key c.in-Some.source.now c.args.dir at c.cancel.new.self same in
    record {
      room = omega (arith, ap length stays, c.self.invariant.room);
      places = rw stays c.self.invariant.places;
      dated = rw stays c.self.invariant.dated;
      numbered = c.self.invariant.numbered;
    }

pub returns-then-cancel-clause-core : goal.returns-then-cancel-clause-core
returns-then-cancel-clause-core c =
    let table = c.self.inside.sources in
    let s = c.in-Some.source.now in
    let key = c.args.key in
    let dir = c.args.dir in
    let at = ap option_copied_mut (sym c.in-Some.is) ∙ c.get_mut.follows in
    let is = c.cancel.ensures.direction ∙ ap (λ d. without_future d c.args.place) c.side_mut.ensures.value in
    rw (
      ← c.self.view_is,
      found-at table key s dir at,
      turned-is table key s dir at,
      is,
    ) refl

pub returns-then-cancel-clause-step : goal.returns-then-cancel-clause-step
returns-then-cancel-clause-step c known = record { known = known; wakes = refl; core = ap (λ (s : ReactorState). s.core) (returns-then-cancel-clause-core c) }

pub returns-then-cancel-clause-steps : goal.returns-then-cancel-clause-steps
returns-then-cancel-clause-steps c =
    let key = c.args.key in
    let dir = c.args.dir in
    let at = ap option_copied_mut (sym c.in-Some.is) ∙ c.get_mut.follows in
    one-step (Cancel key dir c.args.place) Done []
    (returns-then-cancel-clause-step c (rw (← c.self.view_is, found-at c.self.inside.sources key c.in-Some.source.now dir at) refl))

pub returns-else-cancel-clause-core : goal.returns-else-cancel-clause-core
returns-else-cancel-clause-core c =
    let table = c.self.inside.sources in
    let s = c.in-Some.source.now in
    let key = c.args.key in
    let dir = c.args.dir in
    let at = ap option_copied_mut (sym c.in-Some.is) ∙ c.get_mut.follows in
    let is = c.cancel.ensures.direction ∙ ap (λ d. without_future d c.args.place) c.side_mut.ensures.value in
    rw (
      ← c.self.view_is,
      found-at table key s dir at,
      turned-is table key s dir at,
      is,
    ) refl

pub returns-else-cancel-clause-step : goal.returns-else-cancel-clause-step
returns-else-cancel-clause-step c known = record { known = known; wakes = refl; core = ap (λ (s : ReactorState). s.core) (returns-else-cancel-clause-core c) }

pub returns-else-cancel-clause-steps : goal.returns-else-cancel-clause-steps
returns-else-cancel-clause-steps c =
    let key = c.args.key in
    let dir = c.args.dir in
    let at = ap option_copied_mut (sym c.in-Some.is) ∙ c.get_mut.follows in
    one-step (Cancel key dir c.args.place) Done []
    (returns-else-cancel-clause-step c (rw (← c.self.view_is, found-at c.self.inside.sources key c.in-Some.source.now dir at) refl))

pub returns-in_default-clause-gone : goal.returns-in_default-clause-gone
returns-in_default-clause-gone c =
    let absent = found-in c.self.inside.sources c.args.key None (ap option_copied_mut (sym c.in_default.is) ∙ c.get_mut.follows) in
    ap (λ o. at_key (direction_of o c.args.dir).futures c.args.place) absent

pub returns-then-cancel-clause-gone : goal.returns-then-cancel-clause-gone
returns-then-cancel-clause-gone c =
    let at = ap option_copied_mut (sym c.in-Some.is) ∙ c.get_mut.follows in
    ap (λ (d : Direction). at_key d.futures c.args.place) (direction-turned c.self.inside.sources c.args.key c.in-Some.source.now c.args.dir at c.cancel.new.self) ∙ c.cancel.ensures.gone

pub returns-else-cancel-clause-gone : goal.returns-else-cancel-clause-gone
returns-else-cancel-clause-gone c =
    let at = ap option_copied_mut (sym c.in-Some.is) ∙ c.get_mut.follows in
    ap (λ (d : Direction). at_key d.futures c.args.place) (direction-turned c.self.inside.sources c.args.key c.in-Some.source.now c.args.dir at c.cancel.new.self) ∙ c.cancel.ensures.gone

pub returns-then-cancel-clause-absent : goal.returns-then-cancel-clause-absent
returns-then-cancel-clause-absent c absent =
    let s = c.in-Some.source.now in
    let key = c.args.key in
    let dir = c.args.dir in
    let at = ap option_copied_mut (sym c.in-Some.is) ∙ c.get_mut.follows in
    let here = found-at c.self.inside.sources key s dir at in
    let side = direction-at (the_view c.self.inside).core key dir s here ∙ sym c.side_mut.ensures.value in
    let none = ap (λ (d : Direction). at_key d.futures c.args.place) (sym side) ∙ (rw (← c.self.view_is) at absent) in
    absurd (let test = sym c.cancel.ensures.held ∙ c.if-cancel.true in let nothing = ap is_some none in cc)

pub returns-else-cancel-clause-absent : goal.returns-else-cancel-clause-absent
returns-else-cancel-clause-absent c absent =
    let at = ap option_copied_mut (sym c.in-Some.is) ∙ c.get_mut.follows in
    let unheld = without_at-none c.side_mut.result.now.futures c.args.place (sym c.cancel.ensures.held ∙ c.if-cancel.false) in
    let same = c.cancel.ensures.direction ∙ ap (λ fs. record c.side_mut.result.now { futures = fs }) unheld ∙ c.side_mut.ensures.value in
    rw (turned-same c.self.inside.sources c.args.key c.in-Some.source.now c.args.dir at c.cancel.new.self same) c.self.view_is
