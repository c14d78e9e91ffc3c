use Rattle.std.proofs.Common.{[], false, refl, sym, subst}
use Rattle.bus_opening.specs.declared.exchange.ServerStage.TheVariants as server_stage
use Rattle.bus_opening.specs.declared.exchange.Stage.TheVariants as stage
use Rattle.bus_opening.specs.declared.part.ServerPart.{ServerPart}
use Rattle.bus_opening.specs.declared.part.Part.TheVariants as part
use Rattle.bus_opening.specs.Server.{server, server_terms_of}
use Rattle.bus_opening.specs.Openings.{Opening, StandsIn}
use Rattle.bus_opening.proofs.Starting.{server_starts}
use Rattle.bus_opening.proofs.server.Server.new.Goals as goal

pub returns-clause-stands : goal.returns-clause-stands
returns-clause-stands c =
    let own : ServerPart = record { guid = c.args.config.now.guid; mechanism = c.args.config.now.mechanism; permitted = c.args.config.now.permitted; passes = c.args.passes } in
    let o : Opening = record {
      part = part.Server own;
      stage = stage.Server server_stage.Start;
      waiting = c.in_ok-outbox.outbox.waiting;
      count = 0;
      rest = [];
      written = c.in_ok-outbox.outbox.written;
      ended = false;
    } in
    let terms = server_terms_of c.args.config.now c.args.passes in
    let starts : StandsIn (server terms) [] o = server_starts terms own o refl refl refl c.in_ok-outbox.ensures.0 refl refl c.in_ok-outbox.ensures.1 in
    subst (λ (x : Opening). StandsIn (server terms) [] x) (sym c.new.ensures) starts
