-- The small records that were cut off, by computation.
use Rattle.std.proofs.Common.{◌≡◌, ℕ, true, false, List, [], ◌∷◌, None, refl, inl, inr, lit<, arith}
use Rattle.react_core.specs.declared.outside.Event.TheVariants as event
use Rattle.react_core.specs.declared.outside.WaitAnswer.TheVariants as wait_answer
use Rattle.bus_record.specs.Pieces.{nothing}
use Rattle.bus_record.specs.Settled.{start, visited}
use Rattle.bus_record.specs.Failing.{in_visit, in_round, at_end}
use Rattle.bus_record.specs.FailingRows as row
use Rattle.bus_record.specs.Rows.{one_waits, some_report, removed}
use Rattle.bus_record.proofs.Computes.{computes}
use Rattle.bus_record.proofs.RowProofs.{cons-not-nil}

nil-not-cons : {A : Type 0} (x : A) (xs : List A) → [] ≡ x ∷ xs → ⊥
nil-not-cons x xs e = cc

no-rounds : (n : ℕ) → n ≡ 0 → n ≡ 5 → ⊥
no-rounds n none five = omega (arith, none, five)

true-not-false : true ≡ false → ⊥
true-not-false e = cc

pub small_failures : row.SmallFailures
unfolding computes
small_failures = record {
  registration = in_visit nothing 0 row.unregistered []
      (record {
        wires = [];
        session = _;
        front = _ ∷ [];
        call = event.Add 0 0 false;
        own = [];
        run = start;
        at = refl;
        goes = refl;
        failed = refl;
        removed = refl;
        whole = refl;
      })
      refl refl;
  arming = in_visit nothing 0 row.unarmed []
      (record {
        wires = [];
        session = _;
        front = _ ∷ _ ∷ _ ∷ _ ∷ [];
        call = event.Modify 0 0 true false false;
        own = row.unremoved;
        run = start;
        at = refl;
        goes = refl;
        failed = refl;
        removed = inl (event.Delete 0 0 false, [], refl, refl, refl);
        whole = refl;
      })
      refl refl;
  second = in_visit one_waits 1 (_ ∷ event.Add 1 1 false ∷ []) removed
      (record {
        wires = [];
        session = _;
        front = _ ∷ [];
        call = event.Add 1 1 false;
        own = [];
        run = visited _ _ _ _ _ start refl refl;
        at = refl;
        goes = refl;
        failed = refl;
        removed = refl;
        whole = refl;
      })
      (inl (event.Delete 0 0 true, [], refl, refl, refl)) refl;
  wait = in_round one_waits
      (record { first = 0; timeout = None; answer = wait_answer.Failed; second = None; rearmed = [] }) removed
      (record {
        run = visited _ _ _ _ _ start refl refl;
        rest = refl;
        sleeper = cons-not-nil _ _;
        left = lit< tt;
        waited = refl;
        read = refl;
        rearmed = refl;
        failed = refl;
      })
      (inl (event.Delete 0 0 true, [], refl, refl, refl)) refl;
  rearming = in_round one_waits
      (record {
        first = 0;
        timeout = None;
        answer = wait_answer.Reported (some_report false true ∷ []);
        second = None;
        rearmed = event.Modify 0 0 true false false ∷ [];
      })
      removed
      (record {
        run = visited _ _ _ _ _ start refl refl;
        rest = refl;
        sleeper = cons-not-nil _ _;
        left = lit< tt;
        waited = refl;
        read = refl;
        rearmed = inl (event.Modify 0 0 true false false, [], refl, refl, refl);
        failed = refl;
      })
      (inl (event.Delete 0 0 true, [], refl, refl, refl)) refl;
  removal = at_end one_waits row.unremoved
      (record {
        run = visited _ _ _ _ _ start refl refl;
        rest = refl;
        spent = inr refl;
        made = inl (event.Delete 0 0 false, [], refl, refl, refl);
        failed = refl;
      })
      refl;
}

pub refused_failures : row.RefusedFailures
unfolding computes
refused_failures = record {
  round_left = λ f. elim f.spent [ inl none ↦ cons-not-nil _ _ none | inr all ↦ no-rounds _ refl all ];
  left_out = λ made. elim made [
    | inl m ↦ nil-not-cons _ _ m.2
    | inr m ↦ true-not-false m.0
  ];
}
