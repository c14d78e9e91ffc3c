use Rattle.std.proofs.Common.{arith, sym, ◌∙◌}
use Rattle.bus_session.specs.Dialling.{conversation}
use Rattle.bus_reference.specs.Diallings.{as_opened}
use Rattle.bus_reference.specs.Views.{as_ask}
use Rattle.bus_reference.proofs.AskLemmas.{looked_from-zero, looked_from-some, looked_from-none}
use Rattle.bus_reference.proofs.asking.+looked_from.Goals as goal

pub returns-then-more-eq0 : goal.returns-then-more-eq0
returns-then-more-eq0 t c =
    let talk = conversation c.args.party.now (as_opened c.args.opened.now) in
    record { value = looked_from-zero talk c.args.got.now c.args.taken c.args.more c.args.looked c.if-more-eq0.true }

pub returns-then-is_some : goal.returns-then-is_some
returns-then-is_some t c =
    let talk = conversation c.args.party.now (as_opened c.args.opened.now) in
    let some = sym c.is_some.ensures ∙ c.if-is_some.true in
    record {
      value = looked_from-some as_ask c.in_ok-asked.asked talk c.args.got.now c.args.taken c.args.more
          c.args.looked c.in_ok-asked.ensures.value some (omega arith);
    }

pub returns : goal.returns
returns t c =
    let talk = conversation c.args.party.now (as_opened c.args.opened.now) in
    let none = sym c.is_some.ensures ∙ c.if-is_some.false in
    let e = looked_from-none as_ask c.in_ok-asked.asked talk c.args.got.now c.args.taken c.args.more
    c.args.looked c.in_ok-asked.ensures.value none (omega arith) in
    record { value = rw e c.looked_from.ensures.value }
