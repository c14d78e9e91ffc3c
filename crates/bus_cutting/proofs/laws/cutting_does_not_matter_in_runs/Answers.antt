use Rattle.bus_session.specs.Outcomes.{outcome}
use Rattle.bus_session.specs.Parts.{part}
use Rattle.bus_cutting.proofs.laws.cutting_does_not_matter_in_runs.Goals as goal

pub returns : goal.returns
returns c = λ wire e events o inbound fin room drew.
    c.cutting_does_not_matter.ensures o inbound fin room (part wire events) e.moment (outcome e) (record {
      opens = drew.opens;
      draws = drew.draws;
      comes = c.session_comes_to_its_part.ensures wire e events drew.run;
      in_time = drew.in_time;
      over = drew.over;
    })
