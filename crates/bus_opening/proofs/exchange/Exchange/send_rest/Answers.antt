use Rattle.bus_opening.specs.OpeningFields.{opening_of}
use Rattle.bus_opening.proofs.OpeningMoves.{opening_sent, opening_less}
use Rattle.bus_opening.proofs.exchange.Exchange.send_rest.Goals as goal

pub returns-clause-moves : goal.returns-clause-moves
returns-clause-moves g c =
    opening_sent c.args.wire (opening_of c.self.inside) c.args.self.now c.send_rest.new.outbox _ _ c.send_rest.result
    c.self.view_is c.requires c.send_rest.ensures.amount c.send_rest.ensures.told c.send_rest.ensures.after

pub returns-clause-less : goal.returns-clause-less
returns-clause-less g c =
    opening_less (opening_of c.self.inside) c.args.self.now c.send_rest.new.outbox c.send_rest.result c.self.view_is
    c.requires c.send_rest.ensures.some c.send_rest.ensures.amount c.send_rest.ensures.after
