use Rattle.std.proofs.Common.{arith}
use Rattle.bus_session.specs.Dialling.{conversation}
use Rattle.bus_reference.specs.Diallings.{as_opened}
use Rattle.bus_reference.proofs.AskLemmas.{ask_from-some, ask_from-none}
use Rattle.bus_reference.proofs.asking.+ask_from.Goals as goal

pub returns-in-Some : goal.returns-in-Some
returns-in-Some t c =
    let h = rw c.in-Some.is at c.in_ok-asked.ensures.value in
    let talk = conversation c.args.party.now (as_opened c.args.opened.now) in
    record { value = ask_from-some talk c.args.got.now c.args.taken c.args.more c.args.looked _ h }

pub returns : goal.returns
returns t c =
    let h = rw c.in_default.is at c.in_ok-asked.ensures.value in
    let talk = conversation c.args.party.now (as_opened c.args.opened.now) in
    let e = ask_from-none talk c.args.got.now c.args.taken c.args.more c.args.looked h (omega arith) in
    record { value = rw e c.ask_from.ensures.value }
