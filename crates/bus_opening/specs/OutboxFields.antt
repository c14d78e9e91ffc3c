use Rattle.std.specs.Prelude.{◌≤◌, length, take}
use Rattle.bus_opening.specs.Outboxes.{Sending, waiting_of}
use Rattle.bus_opening.specs.declared.outbox.Outbox.TheInside.{Inside}

abbrev pub sending_of : Inside → Sending
sending_of a = record { waiting = waiting_of a.said.items a.taken a.first_end; written = take a.taken a.said.items }

pub record IsWithin (a : Inside) : Type 0 where
  pub taken : a.taken ≤ length a.said.items
  pub first_end : a.first_end ≤ length a.said.items
