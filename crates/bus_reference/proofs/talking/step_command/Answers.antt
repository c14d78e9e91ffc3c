use Rattle.bus_reference.specs.Views.{as_settings}
use Rattle.bus_reference.proofs.talking.step_command.Goals as goal

pub returns-in-Begun : goal.returns-in-Begun
returns-in-Begun c =
    record { value = rw (c.new.ensures.items, c.in-Begun.is) (c.begun_status.ensures.value (as_settings c.args.settings.now)) }
