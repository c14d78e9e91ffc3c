-- Which command reads a script of which form.
use Rattle.std.proofs.Common.{◌≡◌, ℕ, Result, Ok, refl}
use Rattle.bus_script.specs.declared.line.Reason.{Reason}
use Rattle.bus_script.specs.declared.reading.ScriptForm.{ScriptForm}
use Rattle.bus_script.specs.declared.reading.ScriptForm.TheVariants as forms
use Rattle.bus_check.specs.declared.kind.Kind.{Kind}
use Rattle.bus_open.specs.declared.command.Command.{Command}
use Rattle.bus_open.specs.declared.command.Command.TheVariants.{Play, Open, Bulk, Check}
use Rattle.bus_open.specs.Run.{command_of}

-- what was asked for, or why the words were refused
abbrev Asked : Type 0
Asked = Result Command Reason

abbrev asked_for : Command → Asked
asked_for command = Ok command

pub form_of_play : (form : ScriptForm) → asked_for (command_of form) ≡ asked_for Play → form ≡ forms.Play
form_of_play forms.Play is = refl
form_of_play forms.Open is = absurd (cc)

pub form_of_open : (form : ScriptForm) → asked_for (command_of form) ≡ asked_for Open → form ≡ forms.Open
form_of_open forms.Play is = absurd (cc)
form_of_open forms.Open is = refl

pub no_form_checks : (form : ScriptForm) (kind : Kind) → asked_for (command_of form) ≡ asked_for (Check kind) → ⊥
no_form_checks forms.Play kind is = absurd (cc)
no_form_checks forms.Open kind is = absurd (cc)

pub no_form_is_bulk : (form : ScriptForm) (sessions : ℕ) → asked_for (command_of form) ≡ asked_for (Bulk sessions) → ⊥
no_form_is_bulk forms.Play sessions is = absurd (cc)
no_form_is_bulk forms.Open sessions is = absurd (cc)
