use Rattle.std.proofs.Common.{◌≡◌, ◌∙◌, true, false, inl, inr, refl, sym, ap, subst, map, Ok, Err}
use Rattle.std.specs.String.{string_bytes}
use Rattle.bus_script.specs.Printed.{printed, session_lines}
use Rattle.bus_script.specs.declared.reading.ScriptForm.TheVariants as forms
use Rattle.bus_open.specs.Commands.{asked}
use Rattle.bus_open.specs.Run.{all_open, played, opened, bulked, checked}
use Rattle.bus_open.specs.declared.command.Command.TheVariants.{Play, Open, Bulk, Check}
use Rattle.bus_bulk.specs.Summary.{summary_text}
use Rattle.bus_script.specs.Script.{script}
use Rattle.bus_script.specs.declared.reading.ScriptForm.{ScriptForm}
use Rattle.bus_open.proofs.Cuts.{keeps_same}
use Rattle.bus_open.proofs.Forms.{form_of_play, form_of_open, no_form_checks, no_form_is_bulk}
use Rattle.bus_open.proofs.program.run.Goals as goal

pub returns-in-Ok-Play-clause-well : goal.returns-in-Ok-Play-clause-well
returns-in-Ok-Play-clause-well g c = λ zero.
    let is_asked : asked (map string_bytes c.args.words.now) ≡ Ok Play = sym c.asked.ensures.answer ∙ (c.in-Ok-Play.is ∙ ap Ok c.in-Ok-Play.field-0-is) in
    let came = c.play.ensures.opened zero in (
      printed came.0 came.1,
      played came.0 came.1 true (printed came.0 came.1) is_asked came.2 (sym came.3) refl came.2.follow.comes.named,
      came.4,
    )

pub returns-in-Ok-Play-clause-other : goal.returns-in-Ok-Play-clause-other
returns-in-Ok-Play-clause-other g c = λ one.
    let is_asked : asked (map string_bytes c.args.words.now) ≡ Ok Play = sym c.asked.ensures.answer ∙ (c.in-Ok-Play.is ∙ ap Ok c.in-Ok-Play.field-0-is) in
    let came = c.play.ensures.other one in (
      printed came.0 came.1,
      played came.0 came.1 false (printed came.0 came.1) is_asked came.2 (sym came.3) refl came.2.follow.comes.named,
      came.4,
    )

pub returns-in-Ok-Play-clause-write_fault : goal.returns-in-Ok-Play-clause-write_fault
returns-in-Ok-Play-clause-write_fault g c = λ four.
    let is_asked : asked (map string_bytes c.args.words.now) ≡ Ok Play = sym c.asked.ensures.answer ∙ (c.in-Ok-Play.is ∙ ap Ok c.in-Ok-Play.field-0-is) in
    let came = c.play.ensures.write_fault four in (
      all_open came.0,
      printed came.0 came.1,
      played came.0 came.1 (all_open came.0) (printed came.0 came.1) is_asked came.2 refl refl came.2.follow.comes.named,
      came.3,
      came.4,
    )

pub returns-in-Ok-Open-clause-well : goal.returns-in-Ok-Open-clause-well
returns-in-Ok-Open-clause-well g c = λ zero.
    let is_asked : asked (map string_bytes c.args.words.now) ≡ Ok Open = sym c.asked.ensures.answer ∙ (c.in-Ok-Open.is ∙ ap Ok c.in-Ok-Open.field-0-is) in
    let came = c.open_script.ensures.opened zero in (
      session_lines came.0,
      opened came.0 true (session_lines came.0) is_asked came.1 (sym came.2) refl came.3,
      came.4,
    )

pub returns-in-Ok-Open-clause-other : goal.returns-in-Ok-Open-clause-other
returns-in-Ok-Open-clause-other g c = λ one.
    let is_asked : asked (map string_bytes c.args.words.now) ≡ Ok Open = sym c.asked.ensures.answer ∙ (c.in-Ok-Open.is ∙ ap Ok c.in-Ok-Open.field-0-is) in
    let came = c.open_script.ensures.other one in (
      session_lines came.0,
      opened came.0 false (session_lines came.0) is_asked came.1 (sym came.2) refl came.3,
      came.4,
    )

pub returns-in-Ok-Open-clause-write_fault : goal.returns-in-Ok-Open-clause-write_fault
returns-in-Ok-Open-clause-write_fault g c = λ four.
    let is_asked : asked (map string_bytes c.args.words.now) ≡ Ok Open = sym c.asked.ensures.answer ∙ (c.in-Ok-Open.is ∙ ap Ok c.in-Ok-Open.field-0-is) in
    let came = c.open_script.ensures.write_fault four in (
      all_open came.0,
      session_lines came.0,
      opened came.0 (all_open came.0) (session_lines came.0) is_asked came.1 refl refl came.2,
      came.3,
      came.4,
    )

pub returns-in-Ok-Check-clause-well : goal.returns-in-Ok-Check-clause-well
returns-in-Ok-Check-clause-well g c = λ zero.
    let is_asked : asked (map string_bytes c.args.words.now) ≡ Ok (Check c.in-Ok-Check.kind) = sym c.asked.ensures.answer ∙ (c.in-Ok-Check.is ∙ ap Ok c.in-Ok-Check.field-0-is) in
    let came = c.check_text.ensures.accepted zero in (
      came.0,
      checked c.in-Ok-Check.kind true came.0 is_asked (keeps_same (g.S.Source.left c.args.source.now)) (rw c.checked_text.ensures at came.1),
      came.2,
    )

pub returns-in-Ok-Check-clause-other : goal.returns-in-Ok-Check-clause-other
returns-in-Ok-Check-clause-other g c = λ one.
    let is_asked : asked (map string_bytes c.args.words.now) ≡ Ok (Check c.in-Ok-Check.kind) = sym c.asked.ensures.answer ∙ (c.in-Ok-Check.is ∙ ap Ok c.in-Ok-Check.field-0-is) in
    let came = c.check_text.ensures.refused one in (
      came.0,
      checked c.in-Ok-Check.kind false came.0 is_asked (keeps_same (g.S.Source.left c.args.source.now)) (rw c.checked_text.ensures at came.1),
      came.2,
    )

pub returns-in-Ok-Check-clause-write_fault : goal.returns-in-Ok-Check-clause-write_fault
returns-in-Ok-Check-clause-write_fault g c = λ four.
    let is_asked : asked (map string_bytes c.args.words.now) ≡ Ok (Check c.in-Ok-Check.kind) = sym c.asked.ensures.answer ∙ (c.in-Ok-Check.is ∙ ap Ok c.in-Ok-Check.field-0-is) in
    let came = c.check_text.ensures.failed four in (
      came.0,
      came.1,
      checked c.in-Ok-Check.kind came.0 came.1 is_asked (keeps_same (g.S.Source.left c.args.source.now)) (rw c.checked_text.ensures at came.2),
      came.3,
      came.4,
    )

pub returns-in-Err-clause-refused : goal.returns-in-Err-clause-refused
returns-in-Err-clause-refused g c = λ two. (
  record { line = 0; reason = c.in-Err.reason },
  inl (keeps_same (g.S.Source.left c.args.source.now), refl, sym c.in-Err.ensures.answer),
  c.refuse.ensures.text two,
)

pub returns-in-Ok-Play-clause-poller : goal.returns-in-Ok-Play-clause-poller
returns-in-Ok-Play-clause-poller g c = λ six.
    let is_asked : asked (map string_bytes c.args.words.now) ≡ Ok Play = sym c.asked.ensures.answer ∙ (c.in-Ok-Play.is ∙ ap Ok c.in-Ok-Play.field-0-is) in
    let fails = c.play.ensures.poller six in (inl (is_asked, (fails.0, fails.1, fails.2)), fails.3)

pub returns-in-Ok-Play-clause-refused : goal.returns-in-Ok-Play-clause-refused
returns-in-Ok-Play-clause-refused g c = λ two.
    let is_asked : asked (map string_bytes c.args.words.now) ≡ Ok Play = sym c.asked.ensures.answer ∙ (c.in-Ok-Play.is ∙ ap Ok c.in-Ok-Play.field-0-is) in
    let refused = c.play.ensures.refused two in (refused.0, inr (forms.Play, is_asked, refused.1), refused.2)

pub returns-in-Ok-Play-clause-read_fault : goal.returns-in-Ok-Play-clause-read_fault
returns-in-Ok-Play-clause-read_fault g c = λ three.
    let is_asked : asked (map string_bytes c.args.words.now) ≡ Ok Play = sym c.asked.ensures.answer ∙ (c.in-Ok-Play.is ∙ ap Ok c.in-Ok-Play.field-0-is) in
    let failed = c.play.ensures.read_fault three in ((forms.Play, is_asked), failed.0, failed.1, failed.2)

pub returns-in-Ok-Play-clause-refused_script : goal.returns-in-Ok-Play-clause-refused_script
returns-in-Ok-Play-clause-refused_script g c = λ form text refused is holds bad.
    let is_asked : asked (map string_bytes c.args.words.now) ≡ Ok Play = sym c.asked.ensures.answer ∙ (c.in-Ok-Play.is ∙ ap Ok c.in-Ok-Play.field-0-is) in
    let same : form ≡ forms.Play = form_of_play form (sym is ∙ is_asked) in
    c.play.ensures.refused_script text refused holds (subst (λ (f : ScriptForm). script f text ≡ Err refused) same bad)

pub returns-in-Ok-Open-clause-poller : goal.returns-in-Ok-Open-clause-poller
returns-in-Ok-Open-clause-poller g c = λ six.
    let is_asked : asked (map string_bytes c.args.words.now) ≡ Ok Open = sym c.asked.ensures.answer ∙ (c.in-Ok-Open.is ∙ ap Ok c.in-Ok-Open.field-0-is) in
    let fails = c.open_script.ensures.poller six in (inr (is_asked, fails.0), fails.1)

pub returns-in-Ok-Open-clause-refused : goal.returns-in-Ok-Open-clause-refused
returns-in-Ok-Open-clause-refused g c = λ two.
    let is_asked : asked (map string_bytes c.args.words.now) ≡ Ok Open = sym c.asked.ensures.answer ∙ (c.in-Ok-Open.is ∙ ap Ok c.in-Ok-Open.field-0-is) in
    let refused = c.open_script.ensures.refused two in (refused.0, inr (forms.Open, is_asked, refused.1), refused.2)

pub returns-in-Ok-Open-clause-read_fault : goal.returns-in-Ok-Open-clause-read_fault
returns-in-Ok-Open-clause-read_fault g c = λ three.
    let is_asked : asked (map string_bytes c.args.words.now) ≡ Ok Open = sym c.asked.ensures.answer ∙ (c.in-Ok-Open.is ∙ ap Ok c.in-Ok-Open.field-0-is) in
    let failed = c.open_script.ensures.read_fault three in ((forms.Open, is_asked), failed.0, failed.1, failed.2)

pub returns-in-Ok-Open-clause-refused_script : goal.returns-in-Ok-Open-clause-refused_script
returns-in-Ok-Open-clause-refused_script g c = λ form text refused is holds bad.
    let is_asked : asked (map string_bytes c.args.words.now) ≡ Ok Open = sym c.asked.ensures.answer ∙ (c.in-Ok-Open.is ∙ ap Ok c.in-Ok-Open.field-0-is) in
    let same : form ≡ forms.Open = form_of_open form (sym is ∙ is_asked) in
    c.open_script.ensures.refused_script text refused holds (subst (λ (f : ScriptForm). script f text ≡ Err refused) same bad)

pub returns-in-Ok-Check-clause-refused_script : goal.returns-in-Ok-Check-clause-refused_script
returns-in-Ok-Check-clause-refused_script g c = λ form text refused is holds bad.
    let is_asked : asked (map string_bytes c.args.words.now) ≡ Ok (Check c.in-Ok-Check.kind) = sym c.asked.ensures.answer ∙ (c.in-Ok-Check.is ∙ ap Ok c.in-Ok-Check.field-0-is) in
    absurd (no_form_checks form c.in-Ok-Check.kind (sym is ∙ is_asked))

pub returns-in-Ok-Bulk-clause-well : goal.returns-in-Ok-Bulk-clause-well
returns-in-Ok-Bulk-clause-well g c = λ zero.
    let sessions = c.in-Ok-Bulk.sessions in
    let is_asked : asked (map string_bytes c.args.words.now) ≡ Ok (Bulk sessions) =
    sym c.asked.ensures.answer ∙ (c.in-Ok-Bulk.is ∙ ap Ok c.in-Ok-Bulk.field-0-is) in
    let came = c.run_bulk.ensures.opened zero in (
      summary_text sessions came.0,
      bulked sessions came.0 came.1 true (summary_text sessions came.0) is_asked
          (keeps_same (g.S.Source.left c.args.source.now)) came.2 (sym came.3) refl,
      came.4,
    )

pub returns-in-Ok-Bulk-clause-other : goal.returns-in-Ok-Bulk-clause-other
returns-in-Ok-Bulk-clause-other g c = λ one.
    let sessions = c.in-Ok-Bulk.sessions in
    let is_asked : asked (map string_bytes c.args.words.now) ≡ Ok (Bulk sessions) =
    sym c.asked.ensures.answer ∙ (c.in-Ok-Bulk.is ∙ ap Ok c.in-Ok-Bulk.field-0-is) in
    let came = c.run_bulk.ensures.other one in (
      summary_text sessions came.0,
      bulked sessions came.0 came.1 false (summary_text sessions came.0) is_asked
          (keeps_same (g.S.Source.left c.args.source.now)) came.2 (sym came.3) refl,
      came.4,
    )

pub returns-in-Ok-Bulk-clause-write_fault : goal.returns-in-Ok-Bulk-clause-write_fault
returns-in-Ok-Bulk-clause-write_fault g c = λ four.
    let sessions = c.in-Ok-Bulk.sessions in
    let is_asked : asked (map string_bytes c.args.words.now) ≡ Ok (Bulk sessions) =
    sym c.asked.ensures.answer ∙ (c.in-Ok-Bulk.is ∙ ap Ok c.in-Ok-Bulk.field-0-is) in
    let came = c.run_bulk.ensures.failed four in (
      all_open came.0,
      summary_text sessions came.0,
      bulked sessions came.0 came.1 (all_open came.0) (summary_text sessions came.0) is_asked
          (keeps_same (g.S.Source.left c.args.source.now)) came.2 refl refl,
      came.3,
      came.4,
    )

pub returns-in-Ok-Bulk-clause-refused_script : goal.returns-in-Ok-Bulk-clause-refused_script
returns-in-Ok-Bulk-clause-refused_script g c = λ form text refused is holds bad.
    let is_asked : asked (map string_bytes c.args.words.now) ≡ Ok (Bulk c.in-Ok-Bulk.sessions) =
    sym c.asked.ensures.answer ∙ (c.in-Ok-Bulk.is ∙ ap Ok c.in-Ok-Bulk.field-0-is) in
    absurd (no_form_is_bulk form c.in-Ok-Bulk.sessions (sym is ∙ is_asked))
