use Rattle.std.proofs.Common.{ap, arith, sym, ◌∙◌}
use Rattle.react_core.specs.Core.{ReactorState}
use Rattle.bus_open.proofs.Cuts.{keeps_same}
use Rattle.bus_open.proofs.OverReal.{among, opens_to, opening_fails, two_of}
use Rattle.bus_open.proofs.OverScene.{poller-alone}
use Rattle.bus_open.proofs.opening.perform.Goals as goal

pub returns-in-Ok-open_all-clause-opened : goal.returns-in-Ok-open_all-clause-opened
returns-in-Ok-open_all-clause-opened g c = λ zero.
    let all = rw c.as_slice.ensures.value at (c.report.ensures.all_open zero) in
    let named = rw c.as_slice.ensures.value at c.report.ensures.named in (
      c.in-Ok-open_all.endeds.items,
      opens_to (g.O.Tells.outer c.args.real.now) (g.O.Tells.outer c.open_all.new.outside) c.args.sessions.items c.args.rounds _ _
          c.in-Ok-open_all.endeds.items c.in-Ok-open_all.ensures.opened c.in-Ok-open_all.ensures.cause
          c.in-Ok-open_all.ensures.faults,
      all.0,
      named,
      all.1,
    )

pub returns-in-Ok-open_all-clause-other : goal.returns-in-Ok-open_all-clause-other
returns-in-Ok-open_all-clause-other g c = λ one.
    let all = rw c.as_slice.ensures.value at (c.report.ensures.other one) in
    let named = rw c.as_slice.ensures.value at c.report.ensures.named in (
      c.in-Ok-open_all.endeds.items,
      opens_to (g.O.Tells.outer c.args.real.now) (g.O.Tells.outer c.open_all.new.outside) c.args.sessions.items c.args.rounds _ _
          c.in-Ok-open_all.endeds.items c.in-Ok-open_all.ensures.opened c.in-Ok-open_all.ensures.cause
          c.in-Ok-open_all.ensures.faults,
      all.0,
      named,
      all.1,
    )

pub returns-in-Ok-open_all-clause-failed : goal.returns-in-Ok-open_all-clause-failed
returns-in-Ok-open_all-clause-failed g c = λ four.
    let all = rw c.as_slice.ensures.value at (c.report.ensures.failed four) in
    let named = rw c.as_slice.ensures.value at c.report.ensures.named in (
      c.in-Ok-open_all.endeds.items,
      opens_to (g.O.Tells.outer c.args.real.now) (g.O.Tells.outer c.open_all.new.outside) c.args.sessions.items c.args.rounds _ _
          c.in-Ok-open_all.endeds.items c.in-Ok-open_all.ensures.opened c.in-Ok-open_all.ensures.cause
          c.in-Ok-open_all.ensures.faults,
      named,
      all.0,
      all.1,
    )

pub returns-clause-status : goal.returns-clause-status
returns-clause-status g c =
    rw c.status_of.ensures (among _ (two_of (g.O.Tells.outer c.args.real.now) (g.O.Tells.outer c.open_all.new.outside) c.args.sessions.items
    c.args.rounds c.in-Ok.reactor.core c.open_all.new.reactor.core c.in-Err.refusal c.in-Err.ensures.opened (ap (λ (r : ReactorState). r.core.ticker) c.in-Ok.ensures)
    (ap (λ (r : ReactorState). r.core.made) c.in-Ok.ensures) (omega arith) c.requires.few))

pub returns-clause-poller : goal.returns-clause-poller
returns-clause-poller g c = λ six.
    let alone = poller-alone c.in-Err.refusal (sym c.status_of.ensures ∙ six) in (
      opening_fails (g.O.Tells.outer c.args.real.now) (g.O.Tells.outer c.open_all.new.outside) c.args.sessions.items
          c.args.rounds c.in-Ok.reactor.core c.open_all.new.reactor.core c.in-Err.refusal c.in-Err.ensures.opened alone (rw alone at c.in-Err.ensures.cause),
      keeps_same _,
    )
