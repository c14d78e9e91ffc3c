use Rattle.bus_session.specs.Alone.{asked_next}
use Rattle.bus_cutting.proofs.Calls.{call-goes, few-calls, short-reads}
use Rattle.bus_cutting.proofs.laws.calls_are_few.Goals as goal

pub returns : goal.returns
returns c = record {
  goes = λ talk t e next is. (call-goes talk t (asked_next talk t) e next is).goes;
  short = short-reads;
  few = few-calls c.args.session.now;
}
