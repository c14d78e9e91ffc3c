use Rattle.std.proofs.Common.{◌≡◌, Ok}
use Rattle.bus_script.specs.Script.{Script, script}
use Rattle.bus_script.specs.declared.reading.ScriptForm.TheVariants as forms
use Rattle.bus_scene.specs.Reading.{IsOf}
use Rattle.bus_open.proofs.Following.{plays, reads, poller-fails, runs-out, not-refused}
use Rattle.bus_open.proofs.playing.play.Goals as goal

pub returns-in-Ok-from_script-clause-opened : goal.returns-in-Ok-from_script-clause-opened
returns-in-Ok-from_script-clause-opened g c = λ zero.
    let came = c.perform.ensures.opened zero in (
      came.0,
      came.1,
      plays (g.S.Source.left c.args.source.now) (g.S.Source.left c.read_all.new.source) c.in-Ok.text.items
          c.in-Ok-from_script.played came.0 came.1 c.in-Ok.ensures.bytes c.in-Ok.ensures.end (rw (←
          c.as_slice.ensures.value) c.in-Ok-from_script.ensures.script) came.2,
      came.3,
      came.4,
    )

pub returns-in-Ok-from_script-clause-other : goal.returns-in-Ok-from_script-clause-other
returns-in-Ok-from_script-clause-other g c = λ one.
    let came = c.perform.ensures.other one in (
      came.0,
      came.1,
      plays (g.S.Source.left c.args.source.now) (g.S.Source.left c.read_all.new.source) c.in-Ok.text.items
          c.in-Ok-from_script.played came.0 came.1 c.in-Ok.ensures.bytes c.in-Ok.ensures.end (rw (←
          c.as_slice.ensures.value) c.in-Ok-from_script.ensures.script) came.2,
      came.3,
      came.4,
    )

pub returns-in-Ok-from_script-clause-write_fault : goal.returns-in-Ok-from_script-clause-write_fault
returns-in-Ok-from_script-clause-write_fault g c = λ four.
    let came = c.perform.ensures.failed four in (
      came.0,
      came.1,
      plays (g.S.Source.left c.args.source.now) (g.S.Source.left c.read_all.new.source) c.in-Ok.text.items
          c.in-Ok-from_script.played came.0 came.1 c.in-Ok.ensures.bytes c.in-Ok.ensures.end (rw (←
          c.as_slice.ensures.value) c.in-Ok-from_script.ensures.script) came.2,
      came.3,
      came.4,
    )

pub returns-in-Err-Refused-clause-refused : goal.returns-in-Err-Refused-clause-refused
returns-in-Err-Refused-clause-refused g c = λ two. (
  record { line = c.in-Err-Refused.line; reason = c.in-Err-Refused.reason },
  (c.in-Ok.text.items, record { taken = c.in-Ok.ensures.bytes; whole = c.in-Ok.ensures.end }, rw (← c.as_slice.ensures.value) (rw c.in-Err-Refused.field-0-is at c.in-Err-Refused.ensures.refused)),
  c.refuse.ensures.text two,
)

pub returns-in-Ok-from_script-clause-poller : goal.returns-in-Ok-from_script-clause-poller
returns-in-Ok-from_script-clause-poller g c = λ six.
    let fails = c.perform.ensures.poller six in
    let from : (s : Script) × (script forms.Play c.in-Ok.text.items ≡ Ok s) × IsOf s c.in-Ok-from_script.played = rw (← c.as_slice.ensures.value) c.in-Ok-from_script.ensures.script in (
      from.0,
      reads forms.Play (g.S.Source.left c.args.source.now) (g.S.Source.left c.read_all.new.source) c.in-Ok.text.items from.0 c.in-Ok.ensures.bytes c.in-Ok.ensures.end from.1,
      poller-fails from.0 c.in-Ok-from_script.played from.2 fails.0,
      fails.1,
    )

pub returns-in-Ok-from_script-clause-exhausted : goal.returns-in-Ok-from_script-clause-exhausted
returns-in-Ok-from_script-clause-exhausted g c = λ seven.
    let out = c.perform.ensures.exhausted seven in
    let from : (s : Script) × (script forms.Play c.in-Ok.text.items ≡ Ok s) × IsOf s c.in-Ok-from_script.played = rw (← c.as_slice.ensures.value) c.in-Ok-from_script.ensures.script in (
      from.0,
      reads forms.Play (g.S.Source.left c.args.source.now) (g.S.Source.left c.read_all.new.source) c.in-Ok.text.items from.0 c.in-Ok.ensures.bytes c.in-Ok.ensures.end from.1,
      runs-out from.0 c.in-Ok-from_script.played from.2 out.0,
      out.1,
    )

pub returns-in-Ok-from_script-clause-refused_script : goal.returns-in-Ok-from_script-clause-refused_script
returns-in-Ok-from_script-clause-refused_script g c = λ text refused holds is.
    let from : (s : Script) × (script forms.Play c.in-Ok.text.items ≡ Ok s) × IsOf s c.in-Ok-from_script.played =
    rw (← c.as_slice.ensures.value) c.in-Ok-from_script.ensures.script in
    absurd
    (not-refused forms.Play text refused (g.S.Source.left c.args.source.now) (g.S.Source.left c.read_all.new.source)
    c.in-Ok.text.items from.0 c.in-Ok.ensures.bytes c.in-Ok.ensures.end from.1 holds is)
