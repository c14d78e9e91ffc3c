use Rattle.std.proofs.Common.{Result, Ok, Err, IfOk}
use Rattle.bus_peers.proofs.Courses.{rounds-well}
use Rattle.bus_peers.proofs.RoundLemmas.{rounded, round-tags, round-made, round-refused, refused-tags, refused-made}
use Rattle.bus_peers.proofs.RoundLemmas.{round-failed}
use Rattle.bus_peers.proofs.MadeLemmas.{on-poller}
use Rattle.bus_peers.proofs.rounds.round.Goals as goal

if_ok : {T E : Type 0} (P Q : T → Type 0) (r : Result T E) → ((v : T) → P v → Q v) → IfOk r P → IfOk r Q
if_ok P Q (Ok v) by h = by v h
if_ok P Q (Err e) by h = tt

pub returns-in_err-react-clause-refused : goal.returns-in_err-react-clause-refused
returns-in_err-react-clause-refused g c =
    let e = c.in_err-react.ensures in
    round-refused _ c.from_residual.result _ _ _ _ c.args.reactor.now c.react.new.self _ c.react.new.wakes
    c.in_err-react.field-0.0 c.from_residual.ensures.1 e.ran e.exhausted e.numbered e.closed

pub returns-in_err-react-clause-tags : goal.returns-in_err-react-clause-tags
returns-in_err-react-clause-tags g c =
    let e = c.in_err-react.ensures in
    refused-tags _ _ _ _ _ c.args.reactor.now c.react.new.self _ c.react.new.wakes c.in_err-react.field-0.0 e.ran
    e.exhausted

pub returns-clause-rounded : goal.returns-clause-rounded
returns-clause-rounded g c =
    let (course, tries, ran) = c.in_ok-react.ensures.ran in
    let (r, x) = rounds-well _ _ _ _ _ _ c.args.reactor.now c.react.new.self _ c.react.new.wakes course tries ran in
    if_ok _ _ c.in_order.result
    (λ woken ordered. (
      r,
      rounded _ _ _ _ c.args.reactor.now.core c.react.new.self.core _ c.react.new.wakes woken.items r
          x c.requires.rests c.fits.ensures.rises c.new.ensures.items ordered,
    )) c.in_order.ensures.ordered

pub returns-clause-tags : goal.returns-clause-tags
returns-clause-tags g c =
    let (course, tries, ran) = c.in_ok-react.ensures.ran in
    let (r, x) = rounds-well _ _ _ _ _ _ c.args.reactor.now c.react.new.self _ c.react.new.wakes course tries ran in
    round-tags _ _ _ _ _ c.args.reactor.now.core c.react.new.self.core _ _ r x

pub returns-in_err-react-clause-timers : goal.returns-in_err-react-clause-timers
returns-in_err-react-clause-timers g c =
    let e = c.in_err-react.ensures in
    refused-made _ _ _ _ _ c.args.reactor.now c.react.new.self _ c.react.new.wakes c.in_err-react.field-0.0 e.ran
    e.exhausted

pub returns-clause-timers : goal.returns-clause-timers
returns-clause-timers g c =
    let (course, tries, ran) = c.in_ok-react.ensures.ran in
    round-made _ _ _ _ _ c.args.reactor.now c.react.new.self _ c.react.new.wakes (Ok tt) course tries ran

pub returns-in_err-react-clause-failed : goal.returns-in_err-react-clause-failed
returns-in_err-react-clause-failed g c =
    on-poller _ c.from_residual.result _ c.from_residual.ensures.1
    (round-failed _ _ _ _ _ c.args.reactor.now c.react.new.self _ c.react.new.wakes c.in_err-react.field-0.0
    c.requires.rests c.in_err-react.ensures.ran)
