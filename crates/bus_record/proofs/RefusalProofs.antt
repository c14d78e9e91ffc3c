-- The wrong records are refused, by computation.
use Rattle.std.proofs.Common.{◌≡◌, ◌<◌, ℕ, true, false, List, [], ◌∷◌, Some, None, ◌⊎◌, inl, inr, refl, sym, ap, length}
use Rattle.std.proofs.Common.{arith}
use Rattle.react_core.specs.declared.reactor.Dir.{Dir}
use Rattle.bus_session.specs.Alone.{Course}
use Rattle.bus_session.specs.Outcomes.{is_ended}
use Rattle.bus_record.specs.Visits.{finished, arming}
use Rattle.bus_record.specs.Refusals.{RefusedVisits, RefusedEndings, RefusedRuns}
use Rattle.bus_record.proofs.RunLemmas.{was_visited, was_turned}
use Rattle.bus_record.proofs.Computes.{computes}

none-not-some : {A : Type 0} {x : A} → None ≡ Some x → ⊥
none-not-some e = cc

some-not-none : {A : Type 0} {x : A} → Some x ≡ None → ⊥
some-not-none e = cc

other_some : {A : Type 0} (x y : A) → (x ≡ y → ⊥) → Some x ≡ Some y → ⊥
other_some x y other e = other cc

false-not-true : false ≡ true → ⊥
false-not-true e = cc

true-not-false : true ≡ false → ⊥
true-not-false e = cc

nil-not-cons : {A : Type 0} (x : A) (xs : List A) → [] ≡ x ∷ xs → ⊥
nil-not-cons x xs e = cc

cons-not-nil : {A : Type 0} (x : A) (xs : List A) → x ∷ xs ≡ [] → ⊥
cons-not-nil x xs e = cc

arming-not-finished : {key : ℕ} {c : Course} {x : Dir} → arming key c x ≡ finished → ⊥
arming-not-finished e = cc

pub refused_visits : RefusedVisits
unfolding computes
refused_visits = record {
  unopened = λ h. none-not-some h;
  unopened_talk = λ h. none-not-some h;
  undialled_talk = λ h. none-not-some h;
  nonce = λ h. none-not-some h;
  another_path = λ h. none-not-some h;
  unarmed = λ h. other_some _ _ arming-not-finished h;
  other = λ h. none-not-some h;
  no_bytes = λ h. none-not-some h;
  clock = λ h. none-not-some h;
  twice = λ h. none-not-some h;
  beyond = λ h. none-not-some h;
  later_clock = λ h. none-not-some h;
  once_more = λ h. none-not-some h;
  woken_well = refl;
  notified = λ h. none-not-some h;
  thrice = λ h. none-not-some h;
  once = λ h. none-not-some h;
  taken = λ h. none-not-some h;
}

heads : (n m : ℕ) (ns ms : List ℕ) → n ∷ ns ≡ m ∷ ms → n ≡ m
heads n m ns ms e = cc

one-not-zero : ◌≡◌ {A = ℕ} 1 0 → ⊥
one-not-zero e = omega arith

pub refused_endings : RefusedEndings
unfolding computes
refused_endings = record {
  swapped = λ h. one-not-zero h.0.on;
  too_few = λ h. h.1;
  too_many = λ h. h.1.1;
  other_moment = λ h. none-not-some h.0.at;
  right_moment = (record { on = refl; at = refl; comes = refl }, tt {0});
  other_ending = λ h. true-not-false (ap is_ended h.0.comes);
}

given_up : {A : Type 0} (x : A) → (x ∷ [] ≡ []) ⊎ (◌≡◌ {A = ℕ} 0 5) → ⊥
given_up x (inl e) = cons-not-nil x [] e
given_up x (inr e) = omega arith

five-not-six : ◌≡◌ {A = ℕ} 5 6 → ⊥
five-not-six e = omega arith

below_zero : 0 < 0 → ⊥
below_zero h = omega arith

pub refused_runs : RefusedRuns
unfolding computes
refused_runs = record {
  zero = λ wires run. some-not-none (was_turned run).is_round.waited;
  too_long = λ wires run. other_some 41 40 (omega arith) (was_turned run).is_round.waited;
  unread = λ wires run. false-not-true (was_turned run).is_round.read;
  overread = λ wires run. true-not-false (was_turned run).is_round.read;
  reread = λ wires run. true-not-false (was_turned run).is_round.read;
  unheld = λ wires run. true-not-false (was_turned run).is_round.read;
  later = λ wires run. other_some 40 20 (omega arith) (was_turned run).is_round.waited;
  another = λ wires run. one-not-zero (sym (heads _ _ _ _ (was_turned (was_visited run).run).left));
  not_due = λ wires run. cons-not-nil _ _ (was_turned (was_visited run).run).left;
  left_out = λ run. nil-not-cons _ _ (was_turned run).left;
  unheard = λ run. nil-not-cons _ _ (was_turned run).left;
  not_rearmed = λ wires run. nil-not-cons _ _ (was_turned run).is_round.rearmed;
  nobody = λ wires run. (was_turned run).some refl;
  too_many = λ wires run. below_zero (was_turned run).fewer;
  gives_up = λ events settled. given_up _ settled.spent;
  unclosed = λ settled. five-not-six (ap length settled.whole);
}
