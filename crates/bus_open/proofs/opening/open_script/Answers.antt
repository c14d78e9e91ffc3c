use Rattle.bus_open.proofs.Following.{not-refused}
use Rattle.bus_open.proofs.OverReal.{opens, script_fails}
use Rattle.bus_script.specs.declared.reading.ScriptForm.TheVariants as forms
use Rattle.bus_open.proofs.opening.open_script.Goals as goal

pub returns-in-Ok-read-clause-opened : goal.returns-in-Ok-read-clause-opened
returns-in-Ok-read-clause-opened g c = λ zero.
    let came = c.perform.ensures.opened zero in (
      came.0,
      opens (g.S.Source.left c.args.source.now) (g.S.Source.left c.read_all.new.source)
          (g.O.Tells.outer c.args.real.now) (g.O.Tells.outer c.perform.new.real) c.in-Ok.text.items c.in-Ok-read.script
          c.into_parts-parts.result.sessions.items c.into_parts-parts.result.rounds came.0 c.in-Ok.ensures.bytes
          c.in-Ok.ensures.end (rw (← c.as_slice.ensures.value) c.in-Ok-read.ensures.exact)
          c.into_parts-parts.ensures.sessions c.into_parts-parts.ensures.rounds came.1,
      came.2,
      came.3,
      came.4,
    )

pub returns-in-Ok-read-clause-other : goal.returns-in-Ok-read-clause-other
returns-in-Ok-read-clause-other g c = λ one.
    let came = c.perform.ensures.other one in (
      came.0,
      opens (g.S.Source.left c.args.source.now) (g.S.Source.left c.read_all.new.source)
          (g.O.Tells.outer c.args.real.now) (g.O.Tells.outer c.perform.new.real) c.in-Ok.text.items c.in-Ok-read.script
          c.into_parts-parts.result.sessions.items c.into_parts-parts.result.rounds came.0 c.in-Ok.ensures.bytes
          c.in-Ok.ensures.end (rw (← c.as_slice.ensures.value) c.in-Ok-read.ensures.exact)
          c.into_parts-parts.ensures.sessions c.into_parts-parts.ensures.rounds came.1,
      came.2,
      came.3,
      came.4,
    )

pub returns-in-Ok-read-clause-write_fault : goal.returns-in-Ok-read-clause-write_fault
returns-in-Ok-read-clause-write_fault g c = λ four.
    let came = c.perform.ensures.failed four in (
      came.0,
      opens (g.S.Source.left c.args.source.now) (g.S.Source.left c.read_all.new.source)
          (g.O.Tells.outer c.args.real.now) (g.O.Tells.outer c.perform.new.real) c.in-Ok.text.items c.in-Ok-read.script
          c.into_parts-parts.result.sessions.items c.into_parts-parts.result.rounds came.0 c.in-Ok.ensures.bytes
          c.in-Ok.ensures.end (rw (← c.as_slice.ensures.value) c.in-Ok-read.ensures.exact)
          c.into_parts-parts.ensures.sessions c.into_parts-parts.ensures.rounds came.1,
      came.2,
      came.3,
      came.4,
    )

pub returns-in-Ok-read-clause-poller : goal.returns-in-Ok-read-clause-poller
returns-in-Ok-read-clause-poller g c = λ six.
    let fails = c.perform.ensures.poller six in (
      script_fails (g.S.Source.left c.args.source.now) (g.S.Source.left c.read_all.new.source)
          (g.O.Tells.outer c.args.real.now) (g.O.Tells.outer c.perform.new.real) c.in-Ok.text.items c.in-Ok-read.script
          c.into_parts-parts.result.sessions.items c.into_parts-parts.result.rounds c.in-Ok.ensures.bytes
          c.in-Ok.ensures.end (rw (← c.as_slice.ensures.value) c.in-Ok-read.ensures.exact)
          c.into_parts-parts.ensures.sessions c.into_parts-parts.ensures.rounds fails.0,
      fails.1,
    )

pub returns-in-Err-Refused-clause-refused : goal.returns-in-Err-Refused-clause-refused
returns-in-Err-Refused-clause-refused g c = λ two. (
  record { line = c.in-Err-Refused.line; reason = c.in-Err-Refused.reason },
  (
    c.in-Ok.text.items,
    record { taken = c.in-Ok.ensures.bytes; whole = c.in-Ok.ensures.end },
    rw (← c.as_slice.ensures.value) (rw c.in-Err-Refused.field-0-is at c.in-Err-Refused.ensures.exact),
  ),
  c.refuse.ensures.text two,
)

pub returns-in-Ok-read-clause-refused_script : goal.returns-in-Ok-read-clause-refused_script
returns-in-Ok-read-clause-refused_script g c = λ text refused holds is.
    absurd
    (not-refused forms.Open text refused (g.S.Source.left c.args.source.now) (g.S.Source.left c.read_all.new.source)
    c.in-Ok.text.items c.in-Ok-read.script c.in-Ok.ensures.bytes c.in-Ok.ensures.end
    (rw (← c.as_slice.ensures.value) c.in-Ok-read.ensures.exact) holds is)
