-- What the steps tell of a place, and what the world holds there.
use Rattle.std.proofs.Common.{◌≡◌, ℕ, ◌+◌, ◌≤◌, Bool, true, false, true≢false, List, [], ◌∷◌, Option, Some, None, is_some, refl, sym, ap, ◌∙◌, arith}
use Rattle.std.specs.Prelude.{◌==◌, nat_lt, ◌&&◌, ◌||◌, if◌then◌else◌}
use Rattle.std.proofs.lemmas.Bool.{le-ltb}
use Rattle.react_core.specs.Places.{Entry, round_number}
use Rattle.react_core.specs.Readiness.{fresh_at, stored_task}
use Rattle.react_core.specs.Reports.{without_task}
use Rattle.react_steps.specs.declared.kind.Taken.{Taken}
use Rattle.react_steps.specs.Accounts.{contains}
use Rattle.react_steps.specs.Interests.{told, waiting, is_task, and_since, since_interest}
use Rattle.react_steps.specs.Interests.{has_begun, begun_by, has_named, named_by, has_round, is_end, is_due}
use Rattle.react_steps.specs.Sights.{Place, ThePolled, OfFuture, Spot, Sight, ReadyThere, PendingThere, GivenUp, NewSource, SourceGone, RoundBegins, WaitReturns, RoundEnds, Elsewhere, sight}

-- what the world holds at a place, and of the open round
pub record View : Type 0 where
  pub entry : Option Entry
  pub reported : Option ℕ
  pub ticker : ℕ
  pub is_open : Bool
  -- its wait returned and named the direction
  pub named : Bool
  -- the key has a source
  pub has : Bool

abbrev pub polled_entry : ℕ → ℕ → Option Entry → Option Entry
polled_entry ticker task None = Some (record { since = ticker; task = Some task })
polled_entry ticker task (Some e) = Some (record e { task = Some task })

-- what a step that is seen so does to the view
abbrev pub Turn : Place → Sight → List ℕ → View → View → Type 0
Turn ThePolled (ReadyThere task) woken old new = record {
  due : fresh_at old.reported old.entry ≡ true;
  view : new ≡ record old { entry = None };
}
Turn (OfFuture n) (ReadyThere task) woken old new = record { due : fresh_at old.reported old.entry ≡ true; view : new ≡ old }
Turn ThePolled (PendingThere task) woken old new = record {
  known : old.has ≡ true;
  due : fresh_at old.reported old.entry ≡ false;
  stays : is_task task (stored_task old.entry) ≡ true → new ≡ old;
  anew : is_task task (stored_task old.entry) ≡ false → new ≡ record old { entry = Some (record { since = old.ticker; task = Some task }) };
  wakes : (other : ℕ) → stored_task old.entry ≡ Some other → (other == task) ≡ false → contains other woken ≡ true;
}
Turn (OfFuture n) (PendingThere task) woken old new = record {
  known : old.has ≡ true;
  due : fresh_at old.reported old.entry ≡ false;
  view : new ≡ record old { entry = polled_entry old.ticker task old.entry };
}
Turn place GivenUp woken old new = new ≡ record old { entry = None }
Turn place NewSource woken old new = record { free : old.entry ≡ None; view : new ≡ record old { has = true } }
Turn place SourceGone woken old new = new ≡ record old { entry = None; reported = None; has = false }
Turn place RoundBegins woken old new = record {
  closed : old.is_open ≡ false;
  view : new ≡ record old { ticker = old.ticker + 1; is_open = true; named = false };
}
Turn place (WaitReturns named) woken old new = new ≡ record old { named = named }
Turn place RoundEnds woken old new = record {
  running : old.is_open ≡ true;
  view : new ≡ record old {
    entry = if old.named then without_task old.entry else old.entry;
    reported = if old.named && old.has then Some old.ticker else old.reported;
    is_open = false;
    named = false;
  };
  wakes : old.named ≡ true → (task : ℕ) → stored_task old.entry ≡ Some task → contains task woken ≡ true;
}
Turn place Elsewhere woken old new = new ≡ old

-- an entry of the polled place or of a future, and what the steps since its interest's begin tell
pub record Interested (q : Spot) (steps : List Taken) (e : Entry) (reported : Option ℕ) (ticker : ℕ) (is_open named : Bool) : Type 0 where
  pub due : has_round q steps ≡ fresh_at reported (Some e)
  pub past : e.since ≤ ticker
  pub begun : has_begun q steps ≡ (is_open && nat_lt e.since ticker)
  pub told : has_named q steps ≡ (has_begun q steps && named)
  pub calm : is_some e.task ≡ true → fresh_at reported (Some e) ≡ false

abbrev pub Since : Spot → Option (List Taken) → Option Entry → Option ℕ → ℕ → Bool → Bool → Type 0
Since q None None reported ticker is_open named = Unit {0}
Since q None (Some e) reported ticker is_open named = ⊥
Since q (Some steps) None reported ticker is_open named = ⊥
Since q (Some steps) (Some e) reported ticker is_open named = Interested q steps e reported ticker is_open named

-- the steps and the view agree
pub record Agree (q : Spot) (past : List Taken) (v : View) : Type 0 where
  pub told : told q past ≡ v.named
  pub waits : waiting q past ≡ stored_task v.entry
  pub since : Since q (since_interest q past) v.entry v.reported v.ticker v.is_open v.named
  pub dated : round_number v.reported ≤ v.ticker
  pub empty : v.has ≡ false → v.entry ≡ None

-- ---- a step

module _ (q : Spot) (t : Taken) (s : Sight) (is : sight q t ≡ s) where
  pub begun-is : (steps : List Taken) → has_begun q (t ∷ steps) ≡ begun_by s (has_begun q steps)
  begun-is steps = ap (λ x. begun_by x (has_begun q steps)) is

  pub named-is : (steps : List Taken) → has_named q (t ∷ steps) ≡ named_by s (has_begun q steps) (has_named q steps)
  named-is steps = ap (λ x. named_by x (has_begun q steps) (has_named q steps)) is

  pub round-is : (steps : List Taken) → has_round q (t ∷ steps) ≡ ((is_end s && has_named q steps) || has_round q steps)
  round-is steps = ap (λ x. (is_end x && has_named q steps) || has_round q steps) is

  -- a step that tells nothing of rounds
  module _ (begun : (b : Bool) → begun_by s b ≡ b) (named : (a b : Bool) → named_by s a b ≡ b) (end_ : is_end s ≡ false) where
    same-begun : (steps : List Taken) → has_begun q (t ∷ steps) ≡ has_begun q steps
    same-begun steps = begun-is steps ∙ begun (has_begun q steps)

    same-named : (steps : List Taken) → has_named q (t ∷ steps) ≡ has_named q steps
    same-named steps = named-is steps ∙ named (has_begun q steps) (has_named q steps)

    same-round : (steps : List Taken) → has_round q (t ∷ steps) ≡ has_round q steps
    same-round steps = round-is steps ∙ ap (λ b. (b && has_named q steps) || has_round q steps) end_

    pub interested-on : (steps : List Taken) (e : Entry) (reported : Option ℕ) (ticker : ℕ) (is_open n : Bool) → Interested q steps e reported ticker is_open n →
        Interested q (t ∷ steps) e reported ticker is_open n
    interested-on steps e reported ticker is_open n i = record {
      due = same-round steps ∙ i.due;
      past = i.past;
      begun = same-begun steps ∙ i.begun;
      told = same-named steps ∙ i.told ∙ ap (λ b. b && n) (sym (same-begun steps));
      calm = i.calm;
    }

    pub since-on : (since : Option (List Taken)) (entry : Option Entry) (reported : Option ℕ) (ticker : ℕ) (is_open n : Bool) → Since q since entry reported ticker is_open n →
        Since q (and_since t since) entry reported ticker is_open n
    since-on None None reported ticker is_open n i = tt
    since-on None (Some e) reported ticker is_open n i = i
    since-on (Some steps) None reported ticker is_open n i = i
    since-on (Some steps) (Some e) reported ticker is_open n i = interested-on steps e reported ticker is_open n i

-- an interest that begins
pub begins-now : (q : Spot) (task : ℕ) (reported : Option ℕ) (ticker : ℕ) (is_open named : Bool) → round_number reported ≤ ticker →
    Interested q [] (record { since = ticker; task = Some task }) reported ticker is_open named
begins-now q task reported ticker is_open named dated = record {
  due = sym (stale reported dated);
  past = omega arith;
  begun = sym (ap (λ b. is_open && b) (le-ltb ticker ticker (omega arith)) ∙ and-false is_open);
  told = refl;
  calm = λ some. stale reported dated;
}
  where
    stale : (r : Option ℕ) → round_number r ≤ ticker → fresh_at r (Some (record { since = ticker; task = Some task })) ≡ false
    stale None le = refl
    stale (Some r) le = le-ltb ticker r le

    and-false : (b : Bool) → (b && false) ≡ false
    and-false true = refl
    and-false false = refl

-- whether an interest is due is whether its entry is fresh
pub due-is : (q : Spot) (since : Option (List Taken)) (entry : Option Entry) (reported : Option ℕ) (ticker : ℕ) (is_open named : Bool) →
    Since q since entry reported ticker is_open named → is_due q since ≡ fresh_at reported entry
due-is q None None None ticker is_open named i = refl
due-is q None None (Some r) ticker is_open named i = refl
due-is q None (Some e) reported ticker is_open named i = absurd i
due-is q (Some steps) None reported ticker is_open named i = absurd i
due-is q (Some steps) (Some e) reported ticker is_open named i = i.due

-- a fresh entry has no task
pub fresh-calm : (q : Spot) (since : Option (List Taken)) (entry : Option Entry) (reported : Option ℕ) (ticker : ℕ) (is_open named : Bool) →
    Since q since entry reported ticker is_open named → fresh_at reported entry ≡ true → stored_task entry ≡ None
fresh-calm q None None reported ticker is_open named i fresh = refl
fresh-calm q None (Some e) reported ticker is_open named i fresh = absurd i
fresh-calm q (Some steps) None reported ticker is_open named i fresh = refl
fresh-calm q (Some steps) (Some e) reported ticker is_open named i fresh = no-task e.task (λ some. true≢false (sym fresh ∙ i.calm some))
  where
    no-task : (o : Option ℕ) → (is_some o ≡ true → ⊥) → o ≡ None
    no-task None never = refl
    no-task (Some x) never = absurd (never refl)
