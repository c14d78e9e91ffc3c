-- The fields of an exchange.
use Rattle.std.specs.Prelude.{◌≤◌}
use Rattle.bus_opening.specs.Limits.{command_limit}
use Rattle.bus_opening.specs.Openings.{Opening}
use Rattle.bus_opening.specs.declared.exchange.Exchange.TheInside.{Inside}

abbrev pub opening_of : Inside → Opening
opening_of a = record {
  part = a.part;
  stage = a.stage;
  waiting = a.outbox.waiting;
  count = a.commands;
  rest = a.inbox;
  written = a.outbox.written;
  ended = a.ended;
}

pub record IsFew (a : Inside) : Type 0 where
  pub commands : a.commands ≤ command_limit
