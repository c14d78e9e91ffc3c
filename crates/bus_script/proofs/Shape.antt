-- A script that is read has its lines in order.
use Rattle.std.proofs.Common.{◌≡◌, ℕ, ◌+◌, ◌≤◌, Bool, true, false, not, cond, List, [], ◌∷◌, ◌++◌, length, Option}
use Rattle.std.proofs.Common.{Some, None, Result, Ok, Err, refl, sym, ◌∙◌, subst, ap, arith, append_assoc, ◌⊎◌, inl}
use Rattle.std.proofs.Common.{inr, nat_lt, ◌||◌}
use Rattle.std.specs.Option.{is_none, is_some}
use Rattle.std.proofs.lemmas.List.{map-append, append-nil}
use borrow.Author.Tests.{ltb-false}
use Rattle.bus_script.specs.Words.{◌>>=◌, words_of}
use Rattle.bus_script.specs.declared.reading.ScriptForm.{ScriptForm}
use Rattle.bus_script.specs.Script.{Script, add, read_line, read_lines, at_line, is_skipped, line_in, names_sessions, has_more, later, latest, lines_in, whole, script, empty}
use Rattle.bus_script.specs.Reading.{GivesAt}
use Rattle.bus_script.specs.declared.reading.ScriptError.{ScriptError}
use Rattle.std.specs.Str.{is_utf8}
use Rattle.std.specs.Result.{IfOk}
use Rattle.bus_script.specs.declared.line.Reason.{Reason}
use Rattle.bus_script.specs.declared.line.Reason.TheVariants.{Order, Session, Clock, Length, Text}
use Rattle.bus_script.specs.declared.line.Line.{Line}
use Rattle.bus_script.specs.declared.line.Line.TheVariants as lines
use Rattle.bus_script.specs.Shape.{Say, lines_of}

-- Nothing stands before the rounds.
abbrev Reached : Script → Type 0
Reached s = is_none s.rounds ≡ true → (s.start ≡ None) × (s.sessions ≡ []) × (s.answers ≡ [])

pub guard_ok : {A E : Type 0} (b : Bool) (e : E) (x y : A) → cond b (Err e) (Ok x) ≡ Ok y → (b ≡ false) × (x ≡ y)
guard_ok true e x y h = absurd (cc)
guard_ok false e x y h = (refl, cc)

pub guard_more : {A E : Type 0} (b : Bool) (e : E) (r : Result A E) (y : A) → cond b (Err e) r ≡ Ok y →
    (b ≡ false) × (r ≡ Ok y)
guard_more true e r y h = absurd (cc)
guard_more false e r y h = (refl, h)

pub bind_ok : {A B E : Type 0} (r : Result A E) (f : A → Result B E) (y : B) → (r >>= f) ≡ Ok y →
    (x : A) × (r ≡ Ok x) × (f x ≡ Ok y)
bind_ok (Ok x) f y h = (x, refl, h)
bind_ok (Err e) f y h = absurd (cc)

pub at_ok : {X : Type 0} (n : ℕ) (r : Result X Reason) (x : X) → at_line n r ≡ Ok x → r ≡ Ok x
at_ok n (Ok y) x h = ap (λ v. Ok v) (cc)
at_ok n (Err e) x h = absurd (cc)

not_some : {A : Type 0} (o : Option A) → is_some o ≡ false → o ≡ None
not_some None h = refl
not_some (Some x) h = absurd (cc)

pub or_false : (a b : Bool) → (a || b) ≡ false → (a ≡ false) × (b ≡ false)
or_false true b h = absurd (cc)
or_false false b h = (refl, h)

pub empty_if : {A : Type 0} (xs : List A) → nat_lt 0 (length xs) ≡ false → xs ≡ []
empty_if [] h = refl
empty_if (x ∷ xs) h = let short : length (x ∷ xs) ≤ 0 = ltb-false 0 (length (x ∷ xs)) h in absurd (omega arith)

never : {A : Type 0} (o : Option A) (P : Type 0) → is_none o ≡ false → is_none o ≡ true → P
never o P h k = absurd (cc)

add_shape : (s s' : Script) (line : Line) → Reached s → add s line ≡ Ok s' →
    Reached s' × (lines_of s' ≡ lines_of s ++ line ∷ [])
unfolding add
add_shape s s' (lines.Rounds n) reached h =
    let p = guard_ok (is_some s.rounds) Order (record s { rounds = Some n }) s' h in
    let none : s.rounds ≡ None = not_some s.rounds p.0 in
    let before = reached (rw none refl) in
    let P : Script → Type 0 = λ v. Reached v × (lines_of v ≡ lines_of s ++ lines.Rounds n ∷ []) in
    subst P p.1 (
      never (Some n) ((s.start ≡ None) × (s.sessions ≡ []) × (s.answers ≡ [])) refl,
      rw (none, before.0, before.1, before.2) refl,
    )
add_shape s s' (lines.Start tick timer) reached h =
    let p = guard_ok (is_none s.rounds || has_more s) Order (record s {
      start = Some (record { tick = tick; timer = timer });
    }) s' h in
    let parts = or_false (is_none s.rounds) (has_more s) p.0 in
    let more = or_false (is_some s.start || nat_lt 0 (length s.sessions)) (nat_lt 0 (length s.answers)) parts.1 in
    let first = or_false (is_some s.start) (nat_lt 0 (length s.sessions)) more.0 in
    let no_start : s.start ≡ None = not_some s.start first.0 in
    let no_session : s.sessions ≡ [] = empty_if s.sessions first.1 in
    let no_answer : s.answers ≡ [] = empty_if s.answers more.1 in
    let P : Script → Type 0 = λ v. Reached v × (lines_of v ≡ lines_of s ++ lines.Start tick timer ∷ []) in
    subst P p.1 (
      never s.rounds ((Some (record { tick = tick; timer = timer }) ≡ None) × (s.sessions ≡ [])
          × (s.answers ≡ [])) parts.0,
      rw (no_start, no_session, no_answer) (simp (append-nil)),
    )
add_shape s s' (lines.Session l) reached h =
    let p = guard_ok (is_none s.rounds || nat_lt 0 (length s.answers)) Order (record s {
      sessions = s.sessions ++ l ∷ [];
    }) s' h in
    let parts = or_false (is_none s.rounds) (nat_lt 0 (length s.answers)) p.0 in
    let none : s.answers ≡ [] = empty_if s.answers parts.1 in
    let P : Script → Type 0 = λ v. Reached v × (lines_of v ≡ lines_of s ++ lines.Session l ∷ []) in
    subst P p.1 (
      never s.rounds ((s.start ≡ None) × (s.sessions ++ l ∷ [] ≡ []) × (s.answers ≡ [])) parts.0,
      rw none (simp (map-append, append-nil, append_assoc)),
    )
add_shape s s' (lines.Answer a) reached h =
    let p = guard_more (is_none s.rounds) Order (cond (not (names_sessions (length s.sessions) a)) (Err Session)
    (cond (nat_lt (later (latest s.answers) a) (latest s.answers)) (Err Clock)
    (Ok (record s { answers = s.answers ++ a ∷ [] })))) s' h in
    let q = guard_more (not (names_sessions (length s.sessions) a)) Session
    (cond (nat_lt (later (latest s.answers) a) (latest s.answers)) (Err Clock)
    (Ok (record s { answers = s.answers ++ a ∷ [] }))) s' p.1 in
    let r = guard_ok (nat_lt (later (latest s.answers) a) (latest s.answers)) Clock
    (record s { answers = s.answers ++ a ∷ [] }) s' q.1 in
    let P : Script → Type 0 = λ v. Reached v × (lines_of v ≡ lines_of s ++ lines.Answer a ∷ []) in
    subst P r.1 (
      never s.rounds ((s.start ≡ None) × (s.sessions ≡ []) × (s.answers ++ a ∷ [] ≡ [])) p.0,
      simp (map-append, append_assoc),
    )

step : (form : ScriptForm) (s s' : Script) (text : List ℕ) (b : Bool) → is_skipped text ≡ b →
    cond b (Ok s) (line_in form (words_of text) >>= add s) ≡ Ok s' →
    ((is_skipped text ≡ true) × (s ≡ s')) ⊎ ((is_skipped text ≡ false)
    × ((line : Line) × (line_in form (words_of text) ≡ Ok line) × (add s line ≡ Ok s')))
step form s s' text true e h = inl (e, cc)
step form s s' text false e h = inr (e, bind_ok (line_in form (words_of text)) (add s) s' h)

pub read_step : (form : ScriptForm) (s s' : Script) (text : List ℕ) → read_line form s text ≡ Ok s' →
    ((is_skipped text ≡ true) × (s ≡ s')) ⊎ ((is_skipped text ≡ false)
    × ((line : Line) × (line_in form (words_of text) ≡ Ok line) × (add s line ≡ Ok s')))
unfolding read_line
read_step form s s' text h = step form s s' text (is_skipped text) refl h

pub say_shape : (form : ScriptForm) (n : ℕ) (s s' : Script) (texts : List (List ℕ)) → Reached s →
    read_lines form n s texts ≡ Ok s' → (said : List Line) × Say form texts said × (lines_of s' ≡ lines_of s ++ said)
unfolding read_lines
say_shape form n s s' [] reached h = let same : s ≡ s' =
    cc in ([], refl, ap lines_of (sym same) ∙ sym (append-nil (lines_of s)))
say_shape form n s s' (text ∷ texts) reached h =
    let b = bind_ok (at_line n (read_line form s text)) (λ v. read_lines form (n + 1) v texts) s' h in
    elim (read_step form s b.0 text (at_ok n (read_line form s text) b.0 b.1)) [
      | inl skipped ↦
          let rest = say_shape form (n + 1) s s' texts reached (rw skipped.1 b.2) in
          (rest.0, inl (skipped.0, rest.1), rest.2)
      | inr taken ↦
          let line = taken.1.0 in
          let shape = add_shape s b.0 line reached taken.1.2 in
          let rest = say_shape form (n + 1) b.0 s' texts shape.0 b.2 in (
            line ∷ rest.0,
            inr (taken.0, (line, rest.0, refl, taken.1.1, rest.1)),
            rest.2 ∙ ap (λ v. v ++ rest.0) shape.1
                ∙ append_assoc (lines_of s) (line ∷ []) rest.0,
          )
    ]

whole_ok : (s s' : Script) → whole s ≡ Ok s' → s ≡ s'
whole_ok s s' h = (guard_ok (is_none s.rounds) (record { line = 0; reason = Order }) s s' h).1

guarded : {A E : Type 0} (b c : Bool) (d e : E) (r : Result A E) (y : A) → cond b (Err d) (cond c (Err e) r) ≡ Ok y →
    r ≡ Ok y
guarded b c d e r y h = (guard_more c e r y (guard_more b d (cond c (Err e) r) y h).1).1

-- A script is what its lines say.
pub script_lines : (form : ScriptForm) (text : List ℕ) (s : Script) → script form text ≡ Ok s →
    read_lines form 1 empty (lines_in text) ≡ Ok s
unfolding script
script_lines form text s h =
    let r = guarded (nat_lt 16777216 (length text)) (not (is_utf8 text)) (record { line = 0; reason = Length })
    (record { line = 0; reason = Text }) (read_lines form 1 empty (lines_in text) >>= whole) s h in
    let b = bind_ok (read_lines form 1 empty (lines_in text)) whole s r in
    b.1 ∙ ap (λ v. Ok v) (whole_ok b.0 s b.2)

pub script_says : (form : ScriptForm) (text : List ℕ) (s : Script) → script form text ≡ Ok s →
    Say form (lines_in text) (lines_of s)
script_says form text s h =
    let shape = say_shape form 1 empty s (lines_in text) (λ e. (refl, refl, refl)) (script_lines form text s h) in
    rw shape.2 shape.1

pub read_says : (form : ScriptForm) (text : List ℕ) (r : Result Script ScriptError) → GivesAt r (script form text) →
    IfOk r (λ s. Say form (lines_in text) (lines_of s))
read_says form text (Ok s) h = script_says form text s h
read_says form text (Err e) h = tt
