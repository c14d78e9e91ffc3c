-- From a scene that was made of a script to that script.
use Rattle.std.proofs.Common.{◌≡◌, ℕ, ◌≤◌, Bool, true, false, List, ◌++◌, length, Option, Some, None, Result, Ok, Err, nat_lt, if◌then◌else◌, refl, sym, ◌∙◌, ap, subst, arith}
use Rattle.std.proofs.lemmas.List.{append-nil}
use Rattle.std.specs.Io.KnownBytes.{Consumes, IsAtEnd}
use Rattle.react_core.specs.declared.outside.Event.{Event}
use Rattle.bus_script.specs.Script.{start_of, Script, Refused, script}
use Rattle.bus_script.specs.declared.reading.ScriptForm.{ScriptForm}
use Rattle.bus_script.specs.declared.reading.ScriptForm.TheVariants as forms
use Rattle.bus_session.specs.declared.ended.Ended.{Ended}
use Rattle.bus_session.specs.declared.session.Session.{Session}
use Rattle.bus_scene.specs.declared.from_script.Played.{Played}
use Rattle.bus_scene.specs.Queues.{Queues, queues}
use Rattle.bus_scene.specs.Reading.{IsOf}
use Rattle.bus_open.specs.Run.{ComesTo, FollowFrom, Reads, Plays, PollerFails, ScriptFails, RunsOut, ScriptRunsOut}

-- What comes of the scene and the sessions comes of the script.
follow_from : (s : Script) (p : Played) (endeds : List Ended) (events : List Event) → IsOf s p → ComesTo p.scene.script p.sessions.items p.rounds endeds events → FollowFrom s endeds events
follow_from s p endeds events starts comes = record {
  rounds = p.rounds;
  given = sym starts.rounds;
  comes = subst (λ (q : Queues). ComesTo q s.sessions p.rounds endeds events) starts.script
      (subst (λ (sessions : List Session). ComesTo p.scene.script sessions p.rounds endeds events) starts.sessions comes);
}

accepted : {X : Type 0} (is_long : Bool) (r : Refused) (other : Result X Refused) (x : X) → (if is_long then Err r else other) ≡ Ok x → is_long ≡ false
accepted true r other x e = absurd (cc)
accepted false r other x e = refl

below : (limit n : ℕ) → nat_lt limit n ≡ false → n ≤ limit
below limit n test = grind (arith, test)

-- A script is no longer than a script may be.
is_short : (form : ScriptForm) (text : List ℕ) (s : Script) → script form text ≡ Ok s → length text ≤ 16777216
unfolding script
is_short form text s e = below 16777216 (length text) (accepted (nat_lt 16777216 (length text)) _ _ s e)

-- A script that was read.
pub reads : (form : ScriptForm) (old new : Option (List ℕ)) (text : List ℕ) (s : Script) → Consumes old new text →
    (length text ≤ 16777216 → IsAtEnd new) → script form text ≡ Ok s → Reads form old new s
reads form old new text s taken whole is = record {
  text = text;
  taken = taken;
  end = whole (is_short form text s is);
  is_script = is;
}

-- The whole of a run whose script was read.
pub plays : (old new : Option (List ℕ)) (text : List ℕ) (p : Played) (endeds : List Ended) (events : List Event) →
    Consumes old new text → (length text ≤ 16777216 → IsAtEnd new) → ((s : Script) × (script forms.Play text ≡ Ok s) × IsOf s p)
    →
    ComesTo p.scene.script p.sessions.items p.rounds endeds events → Plays old new endeds events
plays old new text p endeds events taken whole from comes = record {
  read = from.0;
  reads = reads forms.Play old new text from.0 taken whole from.1;
  follow = follow_from from.0 p endeds events from.2 comes;
}

-- The scene's answers are the script's.
pub poller-fails : (s : Script) (p : Played) → IsOf s p → PollerFails p.scene.script p.sessions.items p.rounds →
    ScriptFails s
poller-fails s p starts fails = record {
  rounds = p.rounds;
  given = sym starts.rounds;
  fails = subst (λ (q : Queues). PollerFails q s.sessions p.rounds) starts.script
      (subst (λ (sessions : List Session). PollerFails p.scene.script sessions p.rounds) starts.sessions fails);
}

pub runs-out : (s : Script) (p : Played) → IsOf s p → RunsOut p.scene.script p.sessions.items p.tick p.timer p.rounds →
    ScriptRunsOut s
runs-out s p starts out = record {
  rounds = p.rounds;
  given = sym starts.rounds;
  out = subst (λ (timer : ℕ). RunsOut (queues (length s.sessions) s.answers) s.sessions (start_of s.start).tick timer p.rounds)
      starts.timer
      (subst (λ (tick : ℕ). RunsOut (queues (length s.sessions) s.answers) s.sessions tick p.timer p.rounds) starts.tick
      (subst (λ (q : Queues). RunsOut q s.sessions p.tick p.timer p.rounds) starts.script
      (subst (λ (sessions : List Session). RunsOut p.scene.script sessions p.tick p.timer p.rounds) starts.sessions out)));
}

-- Bytes that were read to their end are those that there were.
read-all : (bytes : List ℕ) (old new : Option (List ℕ)) (text : List ℕ) → old ≡ Some bytes → Consumes old new text →
    IsAtEnd new → text ≡ bytes
read-all bytes old None text holds taken end =
    let C : Option (List ℕ) → Type 0 = λ o. Consumes o None text in absurd (subst C holds taken)
read-all bytes old (Some left) text holds taken end =
    let C : Option (List ℕ) → Type 0 = λ o. Consumes o (Some left) text in
    let all : bytes ≡ text ++ left = subst C holds taken in
    sym (all ∙ (ap (λ x. text ++ x) end ∙ append-nil text))

err-not-ok : {X Y : Type 0} (r : X) (s : Y) → Err r ≡ Ok s → ⊥
err-not-ok r s e = absurd (cc)

-- What was read as a script is no text that is refused.
pub not-refused : (form : ScriptForm) (bytes : List ℕ) (r : Refused) (old new : Option (List ℕ)) (text : List ℕ) (s : Script) →
    Consumes old new text → (length text ≤ 16777216 → IsAtEnd new) → script form text ≡ Ok s → old ≡ Some bytes →
    script form bytes ≡ Err r → ⊥
not-refused form bytes r old new text s taken whole is holds refused =
    let same : text ≡ bytes = read-all bytes old new text holds taken (whole (is_short form text s is)) in
    err-not-ok r s (sym refused ∙ (ap (script form) (sym same) ∙ is))
