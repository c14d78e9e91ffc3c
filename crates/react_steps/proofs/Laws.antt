-- The laws of every list of steps.
use Rattle.std.proofs.Common.{◌≡◌, ◌⊎◌, ℕ, Bool, true, false, true≢false, List, [], ◌∷◌, ◌++◌, Option, Some, None, refl, sym, ap, ◌∙◌, subst, inl, inr, arith}
use Rattle.std.specs.Prelude.{◌==◌, ◌||◌, if◌then◌else◌}
use Rattle.std.proofs.lemmas.Bool.{eq-eqb, eqb-true}
use Rattle.react_core.specs.Places.{Entry}
use Rattle.react_core.specs.Readiness.{fresh_at, stored_task}
use Rattle.react_core.specs.Reports.{without_task}
use Rattle.react_steps.specs.declared.kind.Taken.{Taken}
use Rattle.react_steps.specs.Accounts.{stored_at, contains, follows, is_followed}
use Rattle.react_steps.specs.History.{Run}
use Rattle.react_steps.specs.Interests.{is_task, ReadyExactly, since_interest}
use Rattle.react_steps.specs.Sights.{Place, ThePolled, OfFuture, Spot, Sight, ReadyThere, PendingThere, GivenUp, NewSource, SourceGone, RoundBegins, WaitReturns, RoundEnds, Elsewhere, sight}
use Rattle.react_steps.specs.World.{World, idle}
use Rattle.react_steps.proofs.Agreeing.{cases, agree-step, answer-step, is_task-true}
use Rattle.react_steps.proofs.Moves.{view}
use Rattle.react_steps.proofs.Tidying.{tidy-step}
use Rattle.react_steps.proofs.Turning.{Tidy, step-turn}
use Rattle.react_steps.proofs.Views.{View, Turn, polled_entry, Agree, fresh-calm}

tidy-idle : Tidy idle
tidy-idle = record { sources = tt; futures = λ k e. tt }

agree-idle : (q : Spot) → Agree q [] (view q idle)
agree-idle q = at q.place
  where
    at : (place : Place) → Agree (record { key = q.key; dir = q.dir; place = place }) [] (view (record { key = q.key; dir = q.dir; place = place }) idle)
    at ThePolled = record { told = refl; waits = refl; since = tt; dated = omega arith; empty = λ none. refl }
    at (OfFuture n) = record { told = refl; waits = refl; since = tt; dated = omega arith; empty = λ none. refl }

pub tidy-run : (past : List Taken) (w : World) → Run past w → Tidy w
tidy-run [] w is = subst Tidy (sym is) tidy-idle
tidy-run (t ∷ past) w run = tidy-step run.0 w t.kind t.answer t.woken (tidy-run past run.0 run.2) run.1

pub agree-run : (q : Spot) (past : List Taken) (w : World) → Run past w → Agree q past (view q w)
agree-run q [] w is = subst (λ x. Agree q [] (view q x)) (sym is) (agree-idle q)
agree-run q (t ∷ past) w run =
    agree-step q.key q.dir q.place t past (sight q t) t.woken (view q run.0) (view q w) refl (step-turn q run.0 w t.kind t.answer t.woken (tidy-run past run.0 run.2) run.1)
    (agree-run q past run.0 run.2)

-- each poll that didn't fail answers Ready exactly where a whole round since the begin of its interest named its direction
pub ready-run : (past : List Taken) (w : World) → Run past w → ReadyExactly past
ready-run [] w is = tt
ready-run (t ∷ past) w run = (
  λ q.
      answer-step q.key q.dir q.place past (sight q t) t.woken (view q run.0) (view q w) (step-turn q run.0 w t.kind t.answer t.woken (tidy-run past run.0 run.2) run.1)
      (agree-run q past run.0 run.2),
  ready-run past run.0 run.2,
)

-- ---- what becomes of a Pending poll

or-left : (a b : Bool) → a ≡ true → (a || b) ≡ true
or-left true b h = refl
or-left false b h = absurd (true≢false (sym h))

or-right : (a b : Bool) → b ≡ true → (a || b) ≡ true
or-right true b h = refl
or-right false b h = h

is_task-false : (task other : ℕ) (o : Option ℕ) → o ≡ Some task → is_task other o ≡ (task == other)
is_task-false task other o is = ap (is_task other) is

-- a poll that is Pending stores its task
pending-stored : (place : Place) (task : ℕ) (woken : List ℕ) (old new : View) → Turn place (PendingThere task) woken old new → stored_task new.entry ≡ Some task
pending-stored ThePolled task woken old new turn =
    cases (is_task task (stored_task old.entry)) (λ b. is_task task (stored_task old.entry) ≡ b → stored_task new.entry ≡ Some task)
    (λ same was. ap (λ (v : View). stored_task v.entry) (turn.stays was) ∙ is_task-true task (stored_task old.entry) was)
    (λ other was. ap (λ (v : View). stored_task v.entry) (turn.anew was)) refl
pending-stored (OfFuture n) task woken old new turn = ap (λ (v : View). stored_task v.entry) turn.view ∙ polled old.entry
  where
    polled : (e : Option Entry) → stored_task (polled_entry old.ticker task e) ≡ Some task
    polled None = refl
    polled (Some e) = refl

-- a step leaves the task stored, or accounts for its poll
account-step : (place : Place) (s : Sight) (woken : List ℕ) (task : ℕ) (old new : View) → Turn place s woken old new → (fresh_at old.reported old.entry ≡ true → stored_task old.entry ≡ None) →
    stored_task old.entry ≡ Some task → ((contains task woken || follows place task s) ≡ true) ⊎ (stored_task new.entry ≡ Some task)
account-step ThePolled (ReadyThere other) woken task old new turn calm stored = absurd (let none = calm turn.due in some-none (sym stored ∙ none))
  where
    some-none : {x : ℕ} → Some x ≡ None → ⊥
    some-none e = absurd (cc)
account-step (OfFuture n) (ReadyThere other) woken task old new turn calm stored = inl (or-right (contains task woken) true refl)
account-step ThePolled (PendingThere other) woken task old new turn calm stored =
    cases (other == task) (λ b. (other == task) ≡ b → ((contains task woken || b) ≡ true) ⊎ (stored_task new.entry ≡ Some task))
    (λ same was. inl (or-right (contains task woken) true refl))
    (λ differs was. inl (or-left (contains task woken) false (turn.wakes task stored (flip was))))
    refl
  where
    flip : (other == task) ≡ false → (task == other) ≡ false
    flip unlike = cases (task == other) (λ b. (task == other) ≡ b → b ≡ false) (λ same was. absurd (true≢false (sym (eq-eqb other task (sym (eqb-true task other was))) ∙ unlike))) (λ u v. refl) refl
account-step (OfFuture n) (PendingThere other) woken task old new turn calm stored = inl (or-right (contains task woken) true refl)
account-step place GivenUp woken task old new turn calm stored = inl (or-right (contains task woken) true refl)
account-step place NewSource woken task old new turn calm stored = inr (ap (λ (v : View). stored_task v.entry) turn.view ∙ stored)
account-step place SourceGone woken task old new turn calm stored = inl (or-right (contains task woken) true refl)
account-step place RoundBegins woken task old new turn calm stored = inr (ap (λ (v : View). stored_task v.entry) turn.view ∙ stored)
account-step place (WaitReturns named) woken task old new turn calm stored = inr (ap (λ (v : View). stored_task v.entry) turn ∙ stored)
account-step place RoundEnds woken task old new turn calm stored =
    cases old.named (λ b. old.named ≡ b → ((contains task woken || false) ≡ true) ⊎ (stored_task new.entry ≡ Some task))
    (λ named was. inl (or-left (contains task woken) false (turn.wakes was task stored)))
    (λ unnamed was. inr (ap (λ (v : View). stored_task v.entry) turn.view ∙ ap (λ b. stored_task (if b then without_task old.entry else old.entry)) was ∙ stored))
    refl
account-step place Elsewhere woken task old new turn calm stored = inr (ap (λ (v : View). stored_task v.entry) turn ∙ stored)

-- each poll that was Pending has its task stored, or a later step accounts for it
pub polls-run : (q : Spot) (task : ℕ) (t : Taken) (later earlier : List Taken) (w : World) → Run (later ++ t ∷ earlier) w → sight q t ≡ PendingThere task →
    (is_followed q task later ≡ true) ⊎ (stored_at w.core q ≡ Some task)
polls-run q task t [] earlier w run is =
    inr (pending-stored q.place task t.woken (view q run.0) (view q w)
    (subst (λ s. Turn q.place s t.woken (view q run.0) (view q w)) is (step-turn q run.0 w t.kind t.answer t.woken (tidy-run earlier run.0 run.2) run.1)))
polls-run q task t (s ∷ later) earlier w run is = elim (polls-run q task t later earlier run.0 run.2 is) [
  | inl followed ↦ inl (or-right (contains task s.woken || follows q.place task (sight q s)) (is_followed q task later) followed)
  | inr stored ↦
      let past = later ++ t ∷ earlier in
      let a = agree-run q past run.0 run.2 in
      let v = view q run.0 in
      elim (account-step q.place (sight q s) s.woken task v (view q w) (step-turn q run.0 w s.kind s.answer s.woken (tidy-run past run.0 run.2) run.1)
      (fresh-calm q (since_interest q past) v.entry v.reported v.ticker v.is_open v.named a.since) stored) [
        | inl now ↦ inl (or-left (contains task s.woken || follows q.place task (sight q s)) (is_followed q task later) now)
        | inr still ↦ inr still
      ]
]
