use Rattle.bus_reference.proofs.going.after_in.Goals as goal

pub returns-in-Dials : goal.returns-in-Dials
returns-in-Dials c = record { value = rw c.in-Dials.is (c.after_dial.ensures.value c.args.party.now) }
