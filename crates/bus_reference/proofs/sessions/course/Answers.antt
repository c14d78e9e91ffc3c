use Rattle.bus_session.specs.Alone.{course}
use Rattle.bus_reference.proofs.sessions.course.Goals as goal

pub returns : goal.returns
unfolding course
returns c = record { value = rw c.in_ok-first.ensures.value at c.goes_through.ensures.value }
