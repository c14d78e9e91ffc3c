-- The steps and the views of places agree, step by step.
use Rattle.std.proofs.Common.{◌≡◌, ℕ, ◌+◌, ◌≤◌, Bool, true, false, true≢false, List, ◌∷◌, Option, Some, None, refl, sym, ap, ◌∙◌, subst, arith}
use Rattle.std.specs.Prelude.{nat_lt, ◌&&◌, ◌||◌, if◌then◌else◌}
use Rattle.std.proofs.lemmas.Bool.{lt-ltb, ltb-true, eqb-true}
use Rattle.react_core.specs.declared.reactor.Dir.{Dir}
use Rattle.react_core.specs.Places.{Entry, round_number}
use Rattle.react_core.specs.Readiness.{fresh_at, stored_task}
use Rattle.react_core.specs.Reports.{without_task}
use Rattle.react_steps.specs.declared.kind.Taken.{Taken}
use Rattle.react_steps.specs.Interests.{told, told_by, waiting, waiting_by, is_task, and_since, after_pending, since_by, since_interest}
use Rattle.react_steps.specs.Interests.{has_begun, has_named, has_round, is_due, AnswersBy}
use Rattle.react_steps.specs.Sights.{Place, ThePolled, OfFuture, Spot, Sight, ReadyThere, PendingThere, GivenUp, NewSource, SourceGone, RoundBegins, WaitReturns, RoundEnds, Elsewhere, sight}
use Rattle.react_steps.proofs.Views.{View, Turn, polled_entry, Since, Agree, begun-is, named-is, round-is, interested-on, since-on, begins-now, due-is, fresh-calm}

pub cases : (b : Bool) (P : Bool → Type 0) → (b ≡ true → P true) → (b ≡ false → P false) → P b
cases true P t f = t refl
cases false P t f = f refl

and-false : (b : Bool) → (b && false) ≡ false
and-false true = refl
and-false false = refl

and-true : (b : Bool) → (b && true) ≡ b
and-true true = refl
and-true false = refl

pub is_task-true : (task : ℕ) (o : Option ℕ) → is_task task o ≡ true → o ≡ Some task
is_task-true task None is = absurd (true≢false (sym is))
is_task-true task (Some other) is = ap Some (eqb-true other task is)

stored-without : (e : Option Entry) → stored_task (without_task e) ≡ None
stored-without None = refl
stored-without (Some e) = refl

abbrev at : ℕ → Dir → Place → Spot
at key dir place = record { key = key; dir = dir; place = place }

module _ (key : ℕ) (dir : Dir) where
  -- what agrees by what the step is seen as
  by-sight : (place : Place) (t : Taken) (past : List Taken) (s : Sight) (v : View) → sight (at key dir place) t ≡ s →
      told_by s (told (at key dir place) past) ≡ v.named →
      waiting_by s (told (at key dir place) past) (waiting (at key dir place) past) ≡ stored_task v.entry →
      Since (at key dir place) (since_by s place t (waiting (at key dir place) past) (since_interest (at key dir place) past)) v.entry v.reported v.ticker v.is_open v.named →
      round_number v.reported ≤ v.ticker → (v.has ≡ false → v.entry ≡ None) → Agree (at key dir place) (t ∷ past) v
  by-sight place t past s v is told_ waits since dated empty =
      let q = at key dir place in
      record {
        told = ap (λ x. told_by x (told q past)) is ∙ told_;
        waits = ap (λ x. waiting_by x (told q past) (waiting q past)) is ∙ waits;
        since = let P : Option (List Taken) → Type 0 = λ o. Since q o v.entry v.reported v.ticker v.is_open v.named in
            subst P (sym (ap (λ x. since_by x place t (waiting q past) (since_interest q past)) is)) since;
        dated = dated;
        empty = empty;
      }

  -- the interest's steps, where a round begins
  begin-since : (place : Place) (t : Taken) (since : Option (List Taken)) (e : Option Entry) (reported : Option ℕ) (ticker : ℕ) (is_open named : Bool) →
      sight (at key dir place) t ≡ RoundBegins → Since (at key dir place) since e reported ticker is_open named →
      Since (at key dir place) (and_since t since) e reported (ticker + 1) true false
  begin-since place t None None reported ticker is_open named is i = tt
  begin-since place t None (Some e) reported ticker is_open named is i = i
  begin-since place t (Some steps) None reported ticker is_open named is i = i
  begin-since place t (Some steps) (Some e) reported ticker is_open named is i =
      let q = at key dir place in
      record {
        due = round-is q t RoundBegins is steps ∙ i.due;
        past = omega (arith, i.past);
        begun = begun-is q t RoundBegins is steps ∙ sym (lt-ltb e.since (ticker + 1) (omega (arith, i.past)));
        told = named-is q t RoundBegins is steps ∙ sym (and-false (has_begun q (t ∷ steps)));
        calm = i.calm;
      }

  return-since : (place : Place) (t : Taken) (since : Option (List Taken)) (e : Option Entry) (reported : Option ℕ) (ticker : ℕ) (is_open named n : Bool) →
      sight (at key dir place) t ≡ WaitReturns n → Since (at key dir place) since e reported ticker is_open named →
      Since (at key dir place) (and_since t since) e reported ticker is_open n
  return-since place t None None reported ticker is_open named n is i = tt
  return-since place t None (Some e) reported ticker is_open named n is i = i
  return-since place t (Some steps) None reported ticker is_open named n is i = i
  return-since place t (Some steps) (Some e) reported ticker is_open named n is i =
      let q = at key dir place in
      record {
        due = round-is q t (WaitReturns n) is steps ∙ i.due;
        past = i.past;
        begun = begun-is q t (WaitReturns n) is steps ∙ i.begun;
        told = named-is q t (WaitReturns n) is steps ∙ ap (λ b. b && n) (sym (begun-is q t (WaitReturns n) is steps));
        calm = i.calm;
      }

  -- a round's end that named the direction
  absorbs : (r : Option ℕ) (e : Entry) (ticker : ℕ) → round_number r ≤ ticker → (nat_lt e.since ticker || fresh_at r (Some e)) ≡ nat_lt e.since ticker
  absorbs None e ticker dated = or-false (nat_lt e.since ticker)
    where
      or-false : (b : Bool) → (b || false) ≡ b
      or-false true = refl
      or-false false = refl
  absorbs (Some r) e ticker dated = cases (nat_lt e.since r) (λ b. (nat_lt e.since ticker || b) ≡ nat_lt e.since ticker)
      (λ less. ap (λ b. b || true) (lt-ltb e.since ticker (omega (arith, ltb-true e.since r less, dated))) ∙ sym (lt-ltb e.since ticker (omega (arith, ltb-true e.since r less, dated))))
      (λ more. or-false (nat_lt e.since ticker))
    where
      or-false : (b : Bool) → (b || false) ≡ b
      or-false true = refl
      or-false false = refl

  end-named : (place : Place) (t : Taken) (since : Option (List Taken)) (e : Option Entry) (reported : Option ℕ) (ticker : ℕ) →
      sight (at key dir place) t ≡ RoundEnds → round_number reported ≤ ticker → Since (at key dir place) since e reported ticker true true →
      Since (at key dir place) (and_since t since) (without_task e) (Some ticker) ticker false false
  end-named place t None None reported ticker is dated i = tt
  end-named place t None (Some e) reported ticker is dated i = i
  end-named place t (Some steps) None reported ticker is dated i = i
  end-named place t (Some steps) (Some e) reported ticker is dated i =
      let q = at key dir place in
      let named : has_named q steps ≡ nat_lt e.since ticker = i.told ∙ and-true (has_begun q steps) ∙ i.begun in
      record {
        due = round-is q t RoundEnds is steps ∙ ap (λ b. b || has_round q steps) named ∙ ap (λ b. nat_lt e.since ticker || b) i.due ∙ absorbs reported e ticker dated;
        past = i.past;
        begun = begun-is q t RoundEnds is steps;
        told = named-is q t RoundEnds is steps ∙ sym (and-false (has_begun q (t ∷ steps)));
        calm = λ some. absurd (true≢false (sym some));
      }

  end-unnamed : (place : Place) (t : Taken) (since : Option (List Taken)) (e : Option Entry) (reported : Option ℕ) (ticker : ℕ) →
      sight (at key dir place) t ≡ RoundEnds → Since (at key dir place) since e reported ticker true false →
      Since (at key dir place) (and_since t since) e reported ticker false false
  end-unnamed place t None None reported ticker is i = tt
  end-unnamed place t None (Some e) reported ticker is i = i
  end-unnamed place t (Some steps) None reported ticker is i = i
  end-unnamed place t (Some steps) (Some e) reported ticker is i =
      let q = at key dir place in
      let named : has_named q steps ≡ false = i.told ∙ and-false (has_begun q steps) in
      record {
        due = round-is q t RoundEnds is steps ∙ ap (λ b. b || has_round q steps) named ∙ i.due;
        past = i.past;
        begun = begun-is q t RoundEnds is steps;
        told = named-is q t RoundEnds is steps ∙ sym (and-false (has_begun q (t ∷ steps)));
        calm = i.calm;
      }

  end-at : (place : Place) (t : Taken) (past : List Taken) (old : View) (named has : Bool) → old.named ≡ named → old.has ≡ has → old.is_open ≡ true →
      sight (at key dir place) t ≡ RoundEnds → Agree (at key dir place) past old →
      Agree (at key dir place) (t ∷ past) (record old {
        entry = if named then without_task old.entry else old.entry;
        reported = if named && has then Some old.ticker else old.reported;
        is_open = false;
        named = false;
      })
  end-at place t past old true true n h o is a =
      let q = at key dir place in
      let s : Since q (since_interest q past) old.entry old.reported old.ticker true true =
      subst (λ b. Since q (since_interest q past) old.entry old.reported old.ticker b true) o
      (subst (λ b. Since q (since_interest q past) old.entry old.reported old.ticker old.is_open b) n a.since) in
      by-sight place t past RoundEnds _ is refl (ap (λ b. if b then None else waiting q past) (a.told ∙ n) ∙ sym (stored-without old.entry))
      (end-named place t (since_interest q past) old.entry old.reported old.ticker is a.dated s) (omega arith) (λ none. absurd (true≢false (sym h ∙ none)))
  end-at place t past old true false n h o is a =
      let q = at key dir place in
      let none : old.entry ≡ None = a.empty h in
      let gone : without_task old.entry ≡ None = ap without_task none in
      let s : Since q (since_interest q past) None old.reported old.ticker old.is_open old.named = subst (λ e. Since q (since_interest q past) e old.reported old.ticker old.is_open old.named)
      none a.since in
      by-sight place t past RoundEnds _ is refl (ap (λ b. if b then None else waiting q past) (a.told ∙ n) ∙ sym (stored-without old.entry))
      (subst (λ e. Since q (and_since t (since_interest q past)) e old.reported old.ticker false false) (sym gone)
      (no-entry place t (since_interest q past) old.reported old.ticker old.is_open old.named s))
      a.dated (λ u. gone)
    where
      no-entry : (place : Place) (t : Taken) (since : Option (List Taken)) (reported : Option ℕ) (ticker : ℕ) (is_open named : Bool) →
          Since (at key dir place) since None reported ticker is_open named →
          Since (at key dir place) (and_since t since) None reported ticker false false
      no-entry place t None reported ticker is_open named i = tt
      no-entry place t (Some steps) reported ticker is_open named i = i
  end-at place t past old false has n h o is a =
      let q = at key dir place in
      let s : Since q (since_interest q past) old.entry old.reported old.ticker true false =
      subst (λ b. Since q (since_interest q past) old.entry old.reported old.ticker b false) o
      (subst (λ b. Since q (since_interest q past) old.entry old.reported old.ticker old.is_open b) n a.since) in
      by-sight place t past RoundEnds _ is refl (ap (λ b. if b then None else waiting q past) (a.told ∙ n) ∙ a.waits)
      (end-unnamed place t (since_interest q past) old.entry old.reported old.ticker is s) a.dated a.empty

  -- ---- polls

  pending-polled : (t : Taken) (past : List Taken) (task : ℕ) (woken : List ℕ) (old new : View) (same : Bool) → is_task task (stored_task old.entry) ≡ same →
      sight (at key dir ThePolled) t ≡ PendingThere task → Turn ThePolled (PendingThere task) woken old new → Agree (at key dir ThePolled) past old →
      Agree (at key dir ThePolled) (t ∷ past) new
  pending-polled t past task woken old new true b is turn a =
      let q = at key dir ThePolled in
      let same : is_task task (waiting q past) ≡ true = ap (is_task task) a.waits ∙ b in
      let P : Option (List Taken) → Type 0 = λ o. Since q o old.entry old.reported old.ticker old.is_open old.named in
      subst (Agree q (t ∷ past)) (sym (turn.stays b))
      (by-sight ThePolled t past (PendingThere task) old is a.told (sym (is_task-true task (stored_task old.entry) b))
      (subst P (sym (ap (λ x. after_pending (if x then false else true) t (since_interest q past)) same))
      (since-on q t (PendingThere task) is (λ x. refl) (λ x y. refl) refl (since_interest q past) old.entry old.reported old.ticker old.is_open old.named a.since))
      a.dated a.empty)
  pending-polled t past task woken old new false b is turn a =
      let q = at key dir ThePolled in
      let other : is_task task (waiting q past) ≡ false = ap (is_task task) a.waits ∙ b in
      let e : Entry = record { since = old.ticker; task = Some task } in
      let P : Option (List Taken) → Type 0 = λ o. Since q o (Some e) old.reported old.ticker old.is_open old.named in
      subst (Agree q (t ∷ past)) (sym (turn.anew b))
      (by-sight ThePolled t past (PendingThere task) (record old { entry = Some e }) is a.told refl
      (subst P (sym (ap (λ x. after_pending (if x then false else true) t (since_interest q past)) other)) (begins-now q task old.reported old.ticker old.is_open old.named a.dated))
      a.dated (λ none. absurd (true≢false (sym turn.known ∙ none))))

  future-since : (n : ℕ) (t : Taken) (task : ℕ) (waits : Option ℕ) (since : Option (List Taken)) (e : Option Entry) (reported : Option ℕ) (ticker : ℕ) (is_open named : Bool) →
      sight (at key dir (OfFuture n)) t ≡ PendingThere task → round_number reported ≤ ticker → fresh_at reported e ≡ false →
      Since (at key dir (OfFuture n)) since e reported ticker is_open named →
      Since (at key dir (OfFuture n)) (since_by (PendingThere task) (OfFuture n) t waits since) (polled_entry ticker task e) reported ticker is_open named
  future-since n t task waits None None reported ticker is_open named is dated fresh i = begins-now (at key dir (OfFuture n)) task reported ticker is_open named dated
  future-since n t task waits None (Some e) reported ticker is_open named is dated fresh i = absurd i
  future-since n t task waits (Some steps) None reported ticker is_open named is dated fresh i = absurd i
  future-since n t task waits (Some steps) (Some e) reported ticker is_open named is dated fresh i =
      let next = interested-on (at key dir (OfFuture n)) t (PendingThere task) is (λ x. refl) (λ x y. refl) refl steps e reported ticker is_open named i in
      let same : fresh_at reported (Some (record e { task = Some task })) ≡ fresh_at reported (Some e) = by-round reported in
      record {
        due = next.due ∙ sym same;
        past = next.past;
        begun = next.begun;
        told = next.told;
        calm = λ some. same ∙ fresh;
      }
    where
      by-round : (r : Option ℕ) → fresh_at r (Some (record e { task = Some task })) ≡ fresh_at r (Some e)
      by-round None = refl
      by-round (Some r) = refl

  stored-polled : (ticker task : ℕ) (e : Option Entry) → stored_task (polled_entry ticker task e) ≡ Some task
  stored-polled ticker task None = refl
  stored-polled ticker task (Some e) = refl

  -- ---- each step

  pub agree-step : (place : Place) (t : Taken) (past : List Taken) (s : Sight) (woken : List ℕ) (old new : View) → sight (at key dir place) t ≡ s → Turn place s woken old new →
      Agree (at key dir place) past old → Agree (at key dir place) (t ∷ past) new
  agree-step ThePolled t past (ReadyThere task) woken old new is turn a =
      subst (Agree (at key dir ThePolled) (t ∷ past)) (sym turn.view)
      (by-sight ThePolled t past (ReadyThere task) (record old { entry = None }) is a.told refl tt a.dated (λ none. refl))
  agree-step (OfFuture n) t past (ReadyThere task) woken old new is turn a =
      let q = at key dir (OfFuture n) in
      subst (Agree q (t ∷ past)) (sym turn.view)
      (by-sight (OfFuture n) t past (ReadyThere task) old is a.told (sym (fresh-calm q (since_interest q past) old.entry old.reported old.ticker old.is_open old.named a.since turn.due))
      (since-on q t (ReadyThere task) is (λ x. refl) (λ x y. refl) refl (since_interest q past) old.entry old.reported old.ticker old.is_open old.named a.since) a.dated a.empty)
  agree-step ThePolled t past (PendingThere task) woken old new is turn a = pending-polled t past task woken old new (is_task task (stored_task old.entry)) refl is turn a
  agree-step (OfFuture n) t past (PendingThere task) woken old new is turn a =
      let q = at key dir (OfFuture n) in
      subst (Agree q (t ∷ past)) (sym turn.view)
      (by-sight (OfFuture n) t past (PendingThere task) (record old { entry = polled_entry old.ticker task old.entry }) is a.told (sym (stored-polled old.ticker task old.entry))
      (future-since n t task (waiting q past) (since_interest q past) old.entry old.reported old.ticker old.is_open old.named is a.dated turn.due a.since)
      a.dated (λ none. absurd (true≢false (sym turn.known ∙ none))))
  agree-step place t past GivenUp woken old new is turn a =
      subst (Agree (at key dir place) (t ∷ past)) (sym turn) (by-sight place t past GivenUp (record old { entry = None }) is a.told refl tt a.dated (λ none. refl))
  agree-step place t past NewSource woken old new is turn a =
      let q = at key dir place in
      subst (Agree q (t ∷ past)) (sym turn.view)
      (by-sight place t past NewSource (record old { has = true }) is a.told (sym (ap stored_task turn.free))
      (subst (λ e. Since q None e old.reported old.ticker old.is_open old.named) (sym turn.free) tt) a.dated (λ none. absurd (true≢false none)))
  agree-step place t past SourceGone woken old new is turn a =
      subst (Agree (at key dir place) (t ∷ past)) (sym turn)
      (by-sight place t past SourceGone (record old { entry = None; reported = None; has = false }) is a.told refl tt (omega arith) (λ none. refl))
  agree-step place t past RoundBegins woken old new is turn a =
      let q = at key dir place in
      subst (Agree q (t ∷ past)) (sym turn.view)
      (by-sight place t past RoundBegins (record old { ticker = old.ticker + 1; is_open = true; named = false }) is refl a.waits
      (begin-since place t (since_interest q past) old.entry old.reported old.ticker old.is_open old.named is a.since) (omega (arith, a.dated)) a.empty)
  agree-step place t past (WaitReturns n) woken old new is turn a =
      let q = at key dir place in
      subst (Agree q (t ∷ past)) (sym turn)
      (by-sight place t past (WaitReturns n) (record old { named = n }) is refl a.waits
      (return-since place t (since_interest q past) old.entry old.reported old.ticker old.is_open old.named n is a.since) a.dated a.empty)
  agree-step place t past RoundEnds woken old new is turn a =
      subst (Agree (at key dir place) (t ∷ past)) (sym turn.view) (end-at place t past old old.named old.has refl refl turn.running is a)
  agree-step place t past Elsewhere woken old new is turn a =
      let q = at key dir place in
      subst (Agree q (t ∷ past)) (sym turn)
      (by-sight place t past Elsewhere old is a.told a.waits
      (since-on q t Elsewhere is (λ x. refl) (λ x y. refl) refl (since_interest q past) old.entry old.reported old.ticker old.is_open old.named a.since) a.dated a.empty)

  pub answer-step : (place : Place) (past : List Taken) (s : Sight) (woken : List ℕ) (old new : View) → Turn place s woken old new → Agree (at key dir place) past old →
      AnswersBy s (is_due (at key dir place) (since_interest (at key dir place) past))
  answer-step ThePolled past (ReadyThere task) woken old new turn a =
      due-is (at key dir ThePolled) (since_interest (at key dir ThePolled) past) old.entry old.reported old.ticker old.is_open old.named a.since ∙ turn.due
  answer-step (OfFuture n) past (ReadyThere task) woken old new turn a =
      due-is (at key dir (OfFuture n)) (since_interest (at key dir (OfFuture n)) past) old.entry old.reported old.ticker old.is_open old.named a.since ∙ turn.due
  answer-step ThePolled past (PendingThere task) woken old new turn a =
      due-is (at key dir ThePolled) (since_interest (at key dir ThePolled) past) old.entry old.reported old.ticker old.is_open old.named a.since ∙ turn.due
  answer-step (OfFuture n) past (PendingThere task) woken old new turn a =
      due-is (at key dir (OfFuture n)) (since_interest (at key dir (OfFuture n)) past) old.entry old.reported old.ticker old.is_open old.named a.since ∙ turn.due
  answer-step place past GivenUp woken old new turn a = tt
  answer-step place past NewSource woken old new turn a = tt
  answer-step place past SourceGone woken old new turn a = tt
  answer-step place past RoundBegins woken old new turn a = tt
  answer-step place past (WaitReturns n) woken old new turn a = tt
  answer-step place past RoundEnds woken old new turn a = tt
  answer-step place past Elsewhere woken old new turn a = tt
