-- The rows are settled, by computation.
use Rattle.std.proofs.Common.{◌≡◌, List, [], ◌∷◌, refl, inl, inr, lit<}
use Rattle.react_core.specs.declared.outside.Report.{Report}
use Rattle.react_core.specs.declared.outside.WaitAnswer.TheVariants as wait_answer
use Rattle.bus_record.specs.Settled.{start, visited, turned}
use Rattle.bus_record.specs.Rows as row
use Rattle.bus_record.proofs.Computes.{computes}

pub cons-not-nil : {A : Type 0} (x : A) (xs : List A) → x ∷ xs ≡ [] → ⊥
cons-not-nil x xs e = cc

reported-not-failed : (reports : List Report) → wait_answer.Reported reports ≡ wait_answer.Failed → ⊥
reported-not-failed reports e = cc

interrupted-not-failed : wait_answer.Interrupted ≡ wait_answer.Failed → ⊥
interrupted-not-failed e = cc

pub both_open : row.BothOpen
unfolding computes
both_open = (
  record {
    run = visited _ _ _ _ _ (visited _ _ _ _ _ start refl refl) refl refl;
    rest = refl;
    spent = inl refl;
    whole = refl;
  },
  refl,
  refl,
)

pub both_promised : row.BothPromised
unfolding computes
both_promised = record {
  each = (
    record { on = refl; at = refl; comes = refl },
    (record { on = refl; at = refl; comes = refl }, tt {0}),
  );
  settled = both_open.0;
}

pub one_waits : row.OneWaits
unfolding computes
one_waits = (record { run = visited _ _ _ _ _ start refl refl; rest = refl; spent = inr refl; whole = refl }, refl)

pub wire_comes_first : row.WireComesFirst
unfolding computes
wire_comes_first =
    (record { run = visited _ _ _ _ _ start refl refl; rest = refl; spent = inl refl; whole = refl }, refl, refl)

pub late_at_once : row.LateAtOnce
unfolding computes
late_at_once =
    (record { run = visited _ _ _ _ _ start refl refl; rest = refl; spent = inl refl; whole = refl }, refl, refl)

pub reached_in_round : row.ReachedInRound
unfolding computes
reached_in_round = (
  record {
    run = visited _ _ _ _ _
        (turned _ _ _ (visited _ _ _ _ _ start refl refl) refl (cons-not-nil _ _) (lit< tt)
        (record { waited = refl; answered = reported-not-failed _; read = refl; rearmed = refl }) refl)
        refl refl;
    rest = refl;
    spent = inl refl;
    whole = refl;
  },
  refl,
  refl,
)

pub missed_in_round : row.MissedInRound
unfolding computes
missed_in_round = (
  record {
    run = turned _ _ _ (visited _ _ _ _ _ start refl refl) refl (cons-not-nil _ _) (lit< tt)
        (record { waited = refl; answered = reported-not-failed _; read = refl; rearmed = refl }) refl;
    rest = refl;
    spent = inr refl;
    whole = refl;
  },
  refl,
  refl,
)

pub wrong_direction : row.WrongDirection
unfolding computes
wrong_direction = (
  record {
    run = turned _ _ _ (visited _ _ _ _ _ start refl refl) refl (cons-not-nil _ _) (lit< tt)
        (record { waited = refl; answered = reported-not-failed _; read = refl; rearmed = refl }) refl;
    rest = refl;
    spent = inr refl;
    whole = refl;
  },
  refl,
)

pub easily_missed : row.EasilyMissed
unfolding computes
easily_missed = record {
  wins = record {
    run = visited _ _ _ _ _
        (turned _ _ _ (visited _ _ _ _ _ start refl refl) refl (cons-not-nil _ _) (lit< tt)
        (record { waited = refl; answered = reported-not-failed _; read = refl; rearmed = refl }) refl)
        refl refl;
    rest = refl;
    spent = inl refl;
    whole = refl;
  };
  wins_open = refl;
  unread = refl;
  first = record {
    run = visited _ _ _ _ _
        (turned _ _ _ (visited _ _ _ _ _ start refl refl) refl (cons-not-nil _ _) (lit< tt)
        (record { waited = refl; answered = reported-not-failed _; read = refl; rearmed = refl }) refl)
        refl refl;
    rest = refl;
    spent = inl refl;
    whole = refl;
  };
  first_late = refl;
  twice = record {
    run = turned _ _ _ (visited _ _ _ _ _ start refl refl) refl (cons-not-nil _ _) (lit< tt)
        (record { waited = refl; answered = reported-not-failed _; read = refl; rearmed = refl }) refl;
    rest = refl;
    spent = inr refl;
    whole = refl;
  };
  never = refl;
  stays = record {
    run = visited _ _ _ _ _
        (turned _ _ _
        (visited _ _ _ _ _
        (turned _ _ _ (visited _ _ _ _ _ start refl refl) refl (cons-not-nil _ _) (lit< tt)
        (record { waited = refl; answered = reported-not-failed _; read = refl; rearmed = refl }) refl)
        refl refl)
        refl (cons-not-nil _ _) (lit< tt)
        (record { waited = refl; answered = reported-not-failed _; read = refl; rearmed = refl }) refl)
        refl refl;
    rest = refl;
    spent = inr refl;
    whole = refl;
  };
  stays_waiting = refl;
}

pub servers : row.Servers
unfolding computes
servers = record {
  refuses = record { run = visited _ _ _ _ _ start refl refl; rest = refl; spent = inl refl; whole = refl };
  handshake = refl;
  fails = record { run = visited _ _ _ _ _ start refl refl; rest = refl; spent = inl refl; whole = refl };
  connection = refl;
}

pub further_rounds : row.FurtherRounds
unfolding computes
further_rounds = record {
  no_session = record { run = start; rest = refl; spent = inl refl; whole = refl };
  interrupted_once = record {
    run = turned _ _ _ (visited _ _ _ _ _ start refl refl) refl (cons-not-nil _ _) (lit< tt)
        (record { waited = refl; answered = interrupted-not-failed; read = refl; rearmed = refl }) refl;
    rest = refl;
    spent = inr refl;
    whole = refl;
  };
  unknown = record {
    run = turned _ _ _ (visited _ _ _ _ _ start refl refl) refl (cons-not-nil _ _) (lit< tt)
        (record { waited = refl; answered = reported-not-failed _; read = refl; rearmed = refl }) refl;
    rest = refl;
    spent = inr refl;
    whole = refl;
  };
  both_closed = record {
    run = visited _ _ _ _ _ (visited _ _ _ _ _ start refl refl) refl refl;
    rest = refl;
    spent = inr refl;
    whole = refl;
  };
  nearer = record {
    run = visited _ _ _ _ _
        (turned _ _ _ (visited _ _ _ _ _ (visited _ _ _ _ _ start refl refl) refl refl)
        refl (cons-not-nil _ _) (lit< tt)
        (record { waited = refl; answered = reported-not-failed _; read = refl; rearmed = refl }) refl)
        refl refl;
    rest = refl;
    spent = inr refl;
    whole = refl;
  };
  nearer_late = refl;
  other_waits = refl;
  fails = record { run = visited _ _ _ _ _ start refl refl; rest = refl; spent = inl refl; whole = refl };
  fails_so = refl;
}
