use Rattle.std.proofs.Common.{◌∙◌, sym, refl}
use Rattle.std.specs.Prelude.{replicate}
use Rattle.std.proofs.lemmas.List.{append-nil}
use Rattle.bus_opening.specs.Limits.{read_size}
use Rattle.react_core.specs.Told.{told-nothing}
use Rattle.bus_opening.proofs.inbox.receive.Goals as goal

pub returns-then-is_err-clause-told : goal.returns-then-is_err-clause-told
returns-then-is_err-clause-told g c = (replicate read_size 0, refl, told-nothing _, c.make_room.ensures.items ∙ sym (append-nil _))
