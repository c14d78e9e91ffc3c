-- What the lines of a script keep while they are read.
use Rattle.std.proofs.Common.{◌≡◌, ℕ, ◌+◌, ◌≤◌, Bool, true, false, not, cond, List, [], ◌∷◌, ◌++◌, length, fold, Some, Result, Ok, Err, refl, ◌∙◌, subst, inl, inr, nat_lt, ◌||◌}
use Rattle.std.specs.Option.{is_none, is_some}
use Rattle.std.specs.List.{AllPass}
use Rattle.std.specs.Result.{IfOk}
use Rattle.std.proofs.lemmas.List.Elements.{All-append}
use Rattle.std.proofs.lemmas.List.Sums.{AllPass-from_list_all}
use borrow.Author.Tests.{ltb-false}
use Rattle.bus_script.specs.Words.{words_of}
use Rattle.bus_script.specs.Forms.{line_of}
use Rattle.bus_script.specs.declared.reading.ScriptForm.{ScriptForm}
use Rattle.bus_script.specs.declared.reading.ScriptForm.TheVariants as script_forms
use Rattle.bus_script.specs.Script.{Script, add, read_line, read_lines, at_line, is_allowed, allowed, line_in, names_sessions, has_more, later, latest, lines_in, script, empty}
use Rattle.bus_script.specs.Reading.{GivesAt}
use Rattle.bus_script.specs.Laws.{HasForm, NamesItsSessions, IsForward}
use Rattle.bus_script.specs.declared.reading.ScriptError.{ScriptError}
use Rattle.bus_script.specs.declared.line.Reason.TheVariants.{Order, Session, Clock, Form}
use Rattle.bus_script.specs.declared.line.Answer.{Answer}
use Rattle.bus_script.specs.declared.line.Answer.TheVariants as answers
use Rattle.bus_script.specs.declared.line.Line.{Line}
use Rattle.bus_script.specs.declared.line.Line.TheVariants as lines
use Rattle.bus_script.proofs.Shape.{guard_ok, guard_more, bind_ok, at_ok, or_false, empty_if, read_step, script_lines}

record Sound (form : ScriptForm) (s : Script) : Type 0 where
  has_form : HasForm form s
  names : NamesItsSessions s
  forward : IsForward 0 s.answers

none_pass : {X : Type 0} (p : X → Bool) → AllPass p []
none_pass p = AllPass-from_list_all p [] refl

push_pass : {X : Type 0} (p : X → Bool) (xs : List X) (x : X) → AllPass p xs → p x ≡ true → AllPass p (xs ++ x ∷ [])
push_pass p xs x all h = All-append (λ y. p y ≡ true) xs (x ∷ []) all (AllPass-from_list_all p (x ∷ []) (rw h refl))

push_forward : (t : ℕ) (done : List Answer) (a : Answer) → IsForward t done →
    fold later t done ≤ later (fold later t done) a → IsForward t (done ++ a ∷ [])
push_forward t [] (answers.Now u) f h = (h, tt)
push_forward t [] _ f h = tt
push_forward t (answers.Now u ∷ more) a f h = (f.0, push_forward u more a f.1 h)
push_forward t (_ ∷ more) a f h = push_forward t more a f h

not_false : (b : Bool) → not b ≡ false → b ≡ true
not_false true h = refl
not_false false h = absurd (cc)

guard_if : {A E : Type 0} (b : Bool) (e : E) (x y : A) → cond b (Ok x) (Err e) ≡ Ok y → (b ≡ true) × (x ≡ y)
guard_if true e x y h = (refl, cc)
guard_if false e x y h = absurd (cc)

allowed_line : (form : ScriptForm) (words : List (List ℕ)) (line : Line) → line_in form words ≡ Ok line →
    is_allowed form line ≡ true
allowed_line form words line h =
    let a = bind_ok (line_of words) (allowed form) line h in
    let q = guard_if (is_allowed form a.0) Form a.0 line a.2 in
    subst (λ (l : Line). is_allowed form l ≡ true) q.1 q.0

form_kept : (form : ScriptForm) (s s' : Script) → s'.start ≡ s.start → s'.answers ≡ s.answers → HasForm form s →
    HasForm form s'
form_kept script_forms.Play s s' start answers has = tt
form_kept script_forms.Open s s' start answers has = (start ∙ has.0, answers ∙ has.1)

-- no start and no answer is added to a script for `open`
form_started : (form : ScriptForm) (s : Script) (tick timer : ℕ) → is_allowed form (lines.Start tick timer) ≡ true →
    HasForm form s
unfolding is_allowed
form_started script_forms.Play s tick timer may = tt
form_started script_forms.Open s tick timer may = absurd (cc)

form_answered : (form : ScriptForm) (s : Script) (a : Answer) → is_allowed form (lines.Answer a) ≡ true →
    HasForm form s
unfolding is_allowed
form_answered script_forms.Play s a may = tt
form_answered script_forms.Open s a may = absurd (cc)

form_empty : (form : ScriptForm) → HasForm form empty
form_empty script_forms.Play = tt
form_empty script_forms.Open = (refl, refl)

add_sound : (form : ScriptForm) (s s' : Script) (line : Line) → is_allowed form line ≡ true →
    Sound form s → add s line ≡ Ok s' → Sound form s'
unfolding add
add_sound form s s' (lines.Rounds n) may sound h =
    let p = guard_ok (is_some s.rounds) Order (record s { rounds = Some n }) s' h in
    subst (Sound form) p.1 (record {
      has_form = form_kept form s (record s { rounds = Some n }) refl refl sound.has_form;
      names = sound.names;
      forward = sound.forward;
    })
add_sound form s s' (lines.Start tick timer) may sound h =
    let p = guard_ok (is_none s.rounds || has_more s) Order (record s {
      start = Some (record { tick = tick; timer = timer });
    }) s' h in
    subst (Sound form) p.1 (record {
      has_form = form_started form (record s { start = Some (record { tick = tick; timer = timer }) }) tick timer may;
      names = sound.names;
      forward = sound.forward;
    })
add_sound form s s' (lines.Session l) may sound h =
    let p = guard_ok (is_none s.rounds || nat_lt 0 (length s.answers)) Order (record s {
      sessions = s.sessions ++ l ∷ [];
    }) s' h in
    let parts = or_false (is_none s.rounds) (nat_lt 0 (length s.answers)) p.0 in
    let none : s.answers ≡ [] = empty_if s.answers parts.1 in
    let named : AllPass (λ a. names_sessions (length (s.sessions ++ l ∷ [])) a) s.answers =
    rw none (none_pass (λ a. names_sessions (length (s.sessions ++ l ∷ [])) a)) in
    subst (Sound form) p.1 (record {
      has_form = form_kept form s (record s { sessions = s.sessions ++ l ∷ [] }) refl refl sound.has_form;
      names = named;
      forward = sound.forward;
    })
add_sound form s s' (lines.Answer a) may sound h =
    let p = guard_more (is_none s.rounds) Order (cond (not (names_sessions (length s.sessions) a)) (Err Session)
    (cond (nat_lt (later (latest s.answers) a) (latest s.answers)) (Err Clock)
    (Ok (record s { answers = s.answers ++ a ∷ [] })))) s' h in
    let q = guard_more (not (names_sessions (length s.sessions) a)) Session
    (cond (nat_lt (later (latest s.answers) a) (latest s.answers)) (Err Clock)
    (Ok (record s { answers = s.answers ++ a ∷ [] }))) s' p.1 in
    let r = guard_ok (nat_lt (later (latest s.answers) a) (latest s.answers)) Clock
    (record s { answers = s.answers ++ a ∷ [] }) s' q.1 in
    let named : names_sessions (length s.sessions) a ≡ true = not_false (names_sessions (length s.sessions) a) q.0 in
    let later_on : latest s.answers ≤ later (latest s.answers) a =
    ltb-false (later (latest s.answers) a) (latest s.answers) r.0 in
    subst (Sound form) r.1 (record {
      has_form = form_answered form (record s { answers = s.answers ++ a ∷ [] }) a may;
      names = push_pass (λ b. names_sessions (length s.sessions) b) s.answers a sound.names named;
      forward = push_forward 0 s.answers a sound.forward later_on;
    })

lines_sound : (form : ScriptForm) (n : ℕ) (s s' : Script) (texts : List (List ℕ)) → Sound form s →
    read_lines form n s texts ≡ Ok s' → Sound form s'
unfolding read_lines
lines_sound form n s s' [] sound h = let same : s ≡ s' = cc in subst (Sound form) same sound
lines_sound form n s s' (text ∷ texts) sound h =
    let b = bind_ok (at_line n (read_line form s text)) (λ v. read_lines form (n + 1) v texts) s' h in
    elim (read_step form s b.0 text (at_ok n (read_line form s text) b.0 b.1)) [
      | inl skipped ↦ lines_sound form (n + 1) s s' texts sound (rw skipped.1 b.2)
      | inr taken ↦ lines_sound form (n + 1) b.0 s' texts (add_sound form s b.0 taken.1.0
          (allowed_line form (words_of text) taken.1.0 taken.1.1) sound taken.1.2) b.2
    ]

script_sound : (form : ScriptForm) (text : List ℕ) (s : Script) → script form text ≡ Ok s → Sound form s
script_sound form text s h = lines_sound form 1 empty s (lines_in text) (record {
  has_form = form_empty form;
  names = none_pass (λ a. names_sessions 0 a);
  forward = tt;
}) (script_lines form text s h)

sound_if : (form : ScriptForm) (text : List ℕ) (r : Result Script ScriptError) → GivesAt r (script form text) →
    IfOk r (Sound form)
sound_if form text (Ok s) h = script_sound form text s h
sound_if form text (Err e) h = tt

if_ok : {E : Type 0} (P Q : Script → Type 0) (r : Result Script E) → ((s : Script) → P s → Q s) → IfOk r P → IfOk r Q
if_ok P Q (Ok s) f h = f s h
if_ok P Q (Err e) f h = tt

pub has_form : (form : ScriptForm) (text : List ℕ) (r : Result Script ScriptError) →
    GivesAt r (script form text) → IfOk r (HasForm form)
has_form form text r h = if_ok (Sound form) (HasForm form) r (λ s sound. sound.has_form) (sound_if form text r h)

pub sessions_named : (form : ScriptForm) (text : List ℕ) (r : Result Script ScriptError) →
    GivesAt r (script form text) → IfOk r NamesItsSessions
sessions_named form text r h = if_ok (Sound form) NamesItsSessions r (λ s sound. sound.names) (sound_if form text r h)

pub is_forward : (form : ScriptForm) (text : List ℕ) (r : Result Script ScriptError) → GivesAt r (script form text) →
    IfOk r (λ s. IsForward 0 s.answers)
is_forward form text r h = if_ok (Sound form) (λ s. IsForward 0 s.answers) r (λ s sound. sound.forward)
    (sound_if form text r h)
