-- What the calls of an exchange do.
use Rattle.std.proofs.Common.{◌≡◌, ℕ, ◌<◌, ◌≤◌, Bool, List, [], ◌∷◌, ◌++◌, length, take, Option, Some, Result, Ok, Err, refl, sym, ap, subst, ◌∙◌, arith, length-append, inl, inr}
use Rattle.std.specs.Prelude.{sum_by, IfOk}
use Rattle.std.specs.List.{flat_map}
use Rattle.std.proofs.lemmas.List.{append-nil, length-take}
use Rattle.std.proofs.lemmas.List.Sums.{sum_by-cons}
use Rattle.react_core.specs.declared.outside.Event.{Event}
use Rattle.react_core.specs.declared.outside.Event.TheVariants as event
use Rattle.react_core.specs.declared.outside.RecvAnswer.{RecvAnswer}
use Rattle.react_core.specs.declared.outside.RecvAnswer.TheVariants as recv_answer
use Rattle.react_core.specs.declared.outside.Sent.{Sent}
use Rattle.react_core.specs.declared.outside.Sent.TheVariants as sent
use Rattle.react_core.specs.declared.outside.Fault.{Fault}
use Rattle.react_core.specs.declared.outside.Fault.TheVariants as fault
use Rattle.react_core.specs.declared.outside.Received.{Received}
use Rattle.react_core.specs.declared.outside.Received.TheVariants as received
use Rattle.react_core.specs.Told.{told, recv_told, send_told, Counted, IsReceived, IsSent}
use Rattle.bus_opening.specs.Limits.{line_limit, read_size}
use Rattle.bus_opening.specs.Talk.{Said, Turn, Ask, ask, left, send, recv}
use Rattle.bus_opening.specs.Parts.{Place, turn_of}
use Rattle.bus_opening.specs.declared.exchange.Stage.{Stage}
use Rattle.bus_opening.specs.declared.exchange.Stage.TheVariants as stage
use Rattle.bus_opening.specs.declared.verdict.Step.{Step}
use Rattle.bus_opening.specs.declared.verdict.Step.TheVariants as step
use Rattle.bus_opening.specs.declared.verdict.Verdict.TheVariants as verdict
use Rattle.bus_opening.specs.Outboxes.{Sending, first_piece}
use Rattle.bus_opening.specs.AfterSent.{after_sent, SendsLess}
use Rattle.react_core.specs.Outer.{Outer, Keeps, keeps-then}
use Rattle.react_core.specs.Outer as part
use Rattle.bus_opening.specs.Standing.{rests, cut, pieces_of, Stands, asks}
use Rattle.bus_opening.specs.Openings.{Opening, standing, StandsIn, MovesOpening, RunsOpening, PollsOpening, written_of, rest_of, left_over}
use Rattle.bus_opening.specs.Polling.{bytes_got, bytes_taken, AreAsked, Concludes, Asks, FollowsLooked, Leaves, IoCounted}
use Rattle.bus_opening.proofs.StandLemmas.{asked, stands_taken, stands_got, rests-left}
use Rattle.bus_opening.proofs.LeftLemmas.{left_is}
use Rattle.bus_opening.proofs.Moving.{runs_then, polls_then}

pub asked_in : (talks : List (List ℕ) → Said) (b : List ℕ) (o : Opening) (a : Ask) → StandsIn talks b o → asks (standing o) ≡ Some a → ask talks b (length o.written) ≡ a
asked_in talks b o a st e = rw st.talks_so (asked st.side b (standing o) a st.stands e)

asks_send : (s : Stage) (ws : List (List ℕ)) (k : ℕ) (y w : List ℕ) → 0 < length ws → asks (record { turn = turn_of s ws; count = k; rest = y; written = w }) ≡ Some (send (first_piece ws))
asks_send s [] k y w h = absurd (omega (arith, h))
asks_send (stage.Client c) (p ∷ ps) k y w h = refl
asks_send (stage.Server c) (p ∷ ps) k y w h = refl
asks_send (stage.Done g f) (p ∷ ps) k y w h = refl
asks_send stage.Refused (p ∷ ps) k y w h = refl

pub turn_cut : (s : Stage) (ws : List (List ℕ)) (n : ℕ) → turn_of s (rests n ws) ≡ cut n (turn_of s ws)
turn_cut (stage.Client c) ws n = refl
turn_cut (stage.Server c) ws n = refl
turn_cut (stage.Done g f) ws n = refl
turn_cut stage.Refused ws n = refl

turn_pieces : (s : Stage) (ws : List (List ℕ)) → pieces_of (turn_of s ws) ≡ ws
turn_pieces (stage.Client c) ws = refl
turn_pieces (stage.Server c) ws = refl
turn_pieces (stage.Done g f) ws = refl
turn_pieces stage.Refused ws = refl

first_within : (ws : List (List ℕ)) → length (first_piece ws) ≤ sum_by length ws
first_within [] = omega arith
first_within (p ∷ ps) = omega (arith, sum_by-cons length p ps)

-- so many bytes of the first piece were taken
abbrev taken_by : Opening → ℕ → Opening
taken_by o n = record o { waiting = rests n o.waiting; written = o.written ++ take n (first_piece o.waiting) }

stands_after : (talks : List (List ℕ) → Said) (b : List ℕ) (o : Opening) (n : ℕ) → n ≤ length (first_piece o.waiting) → StandsIn talks b o → StandsIn talks b (taken_by o n)
stands_after talks b o n le st =
    let bytes = take n (first_piece o.waiting) in
    let len : length bytes ≡ n = omega (arith, length-take n (first_piece o.waiting), le) in
    let s = stands_taken st.side b (standing o) bytes (omega (arith, len, le, first_within o.waiting, ap (sum_by length) (turn_pieces o.stage o.waiting))) st.stands in
    record {
      side = st.side;
      talks_so = st.talks_so;
      steps_so = st.steps_so;
      stands =
          subst (λ (t : Turn Place).
          Stands Place st.side b (record (standing o) { turn = t; written = o.written ++ bytes }))
          (ap (λ (i : ℕ). cut i (turn_of o.stage o.waiting)) len ∙ sym (turn_cut o.stage o.waiting n)) s;
    }

same_place : (talks : List (List ℕ) → Said) (b : List ℕ) (o : Opening) → StandsIn talks b o → StandsIn talks (b ++ []) o
same_place talks b o st = subst (λ (x : List ℕ). StandsIn talks x o) (sym (append-nil b)) st

abbrev sending_of : Opening → Sending
sending_of o = record { waiting = o.waiting; written = o.written }

abbrev with_sending : Opening → Sending → Opening
with_sending o s = record o { waiting = s.waiting; written = s.written }

moves_sent : (wire : ℕ) (o : Opening) (r s : Option (List Event)) (x : Result Sent Fault) → 0 < length o.waiting → IfOk x (IsSent (length (first_piece o.waiting)))
    → s ≡ told r (send_told wire (first_piece o.waiting) x) → MovesOpening wire o (with_sending o (after_sent (sending_of o) x)) r s (send_told wire (first_piece o.waiting) x)
moves_sent wire o r s (Ok (sent.Took n)) h bound gained = record {
  gained = gained;
  asked = λ talks b st. ((asked_in talks b o (send (first_piece o.waiting)) st (asks_send o.stage o.waiting o.count o.rest o.written h), refl), tt);
  stays = λ talks b st. same_place talks b (taken_by o n) (stands_after talks b o n bound.1 st);
  taken = ap (λ (x : List ℕ). o.written ++ x) (sym (append-nil (take n (first_piece o.waiting))));
}
moves_sent wire o r s (Ok sent.NotReady) h bound gained = record {
  gained = gained;
  asked = λ talks b st. ((asked_in talks b o (send (first_piece o.waiting)) st (asks_send o.stage o.waiting o.count o.rest o.written h), refl), tt);
  stays = λ talks b st. same_place talks b o st;
  taken = sym (append-nil o.written);
}
moves_sent wire o r s (Err fault.Failed) h bound gained = record {
  gained = gained;
  asked = λ talks b st. ((asked_in talks b o (send (first_piece o.waiting)) st (asks_send o.stage o.waiting o.count o.rest o.written h), refl), tt);
  stays = λ talks b st. same_place talks b o st;
  taken = sym (append-nil o.written);
}
moves_sent wire o r s (Err fault.OutOfMemory) h bound gained = record {
  gained = gained;
  asked = λ talks b st. tt;
  stays = λ talks b st. same_place talks b o st;
  taken = sym (append-nil o.written);
}

pub opening_sent : (wire : ℕ) (o p : Opening) (z : Sending) (r s : Option (List Event)) (x : Result Sent Fault) → o ≡ p → 0 < length p.waiting → IfOk x (IsSent (length (first_piece o.waiting)))
    → s ≡ told r (send_told wire (first_piece o.waiting) x) → z ≡ after_sent (sending_of o) x → MovesOpening wire p (with_sending o z) r s (send_told wire (first_piece p.waiting) x)
opening_sent wire o p z r s x e h bound gained f =
    let m = moves_sent wire o r s x (subst (λ (q : Opening). 0 < length q.waiting) (sym e) h) bound gained in
    subst (λ (q : Opening). MovesOpening wire q (with_sending o z) r s (send_told wire (first_piece q.waiting) x)) e
    (subst (λ (y : Sending). MovesOpening wire o (with_sending o y) r s (send_told wire (first_piece o.waiting) x)) (sym f) m)

sends_less : (z : Sending) (x : Result Sent Fault) → 0 < length z.waiting → 0 < length (first_piece z.waiting)
    → IfOk x (IsSent (length (first_piece z.waiting))) → SendsLess z.waiting (after_sent z x).waiting x
sends_less z (Ok (sent.Took n)) h some bound = omega (arith, rests-left z.waiting n, bound.0, first_within z.waiting, some)
sends_less z (Ok sent.NotReady) h some bound = h
sends_less z (Err e) h some bound = h

pub opening_less : (o p : Opening) (z : Sending) (x : Result Sent Fault) → o ≡ p → 0 < length p.waiting
    → 0 < length (first_piece o.waiting) → IfOk x (IsSent (length (first_piece o.waiting)))
    → z ≡ after_sent (sending_of o) x → SendsLess p.waiting z.waiting x
opening_less o p z x e h some bound f = subst (λ (q : Opening). SendsLess q.waiting z.waiting x) e
    (subst (λ (y : Sending). SendsLess o.waiting y.waiting x) (sym f) (sends_less (sending_of o) x (subst (λ (q : Opening). 0 < length q.waiting) (sym e) h) some bound))

pub same_then : (a b c : Opening) → b ≡ record a { waiting = b.waiting; written = b.written }
    → c ≡ record b { waiting = c.waiting; written = c.written }
    → c ≡ record a { waiting = c.waiting; written = c.written }
same_then a b c p q = q ∙ ap (λ (x : Opening). record x { waiting = c.waiting; written = c.written }) p

-- what is left over, where something is asked
pub leaves_by : (o : Opening) (a : Ask) → asks (standing o) ≡ Some a → (talks : List (List ℕ) → Said) (b : List ℕ) → StandsIn talks b o → o.rest ≡ left talks b (length o.written)
leaves_by o a e talks b st = rw st.talks_so (sym (left_is st.side b (standing o) a st.stands e))

-- wherever it stands, it follows lines that were looked at
pub leaves_looked : (o : Opening) (talks : List (List ℕ) → Said) (b : List ℕ) → StandsIn talks b o → FollowsLooked talks b (length o.written) o.rest
leaves_looked o talks b st = rw st.talks_so (record { looked = o.count; few = st.stands.few; came = st.stands.came; passed = st.stands.passed; follows = st.stands.rest })

module _ (Origin : Type 0) (wire : ℕ) where
  pub runs_on : (a b c : Opening) (u v x : Outer Origin) → RunsOpening Origin wire a b u v → RunsOpening Origin wire b c v x → RunsOpening Origin wire a c u x
  runs_on a b c u v x p q = record {
    runs = runs_then Opening StandsIn written_of wire a b c u.events v.events x.events p.runs q.runs;
    count_stays = q.count_stays ∙ p.count_stays;
    keeps = keeps-then (part.Wire wire) u v x p.keeps q.keeps;
  }

  pub polls_on : (a b c : Opening) (u v x : Outer Origin) (answer : Step) → RunsOpening Origin wire a b u v → PollsOpening Origin wire b c v x answer → PollsOpening Origin wire a c u x answer
  polls_on a b c u v x answer p q = record {
    polls = polls_then Opening StandsIn written_of wire a b c u.events v.events x.events answer p.runs q.polls;
    leaves = q.leaves;
    cause = subst (λ (n : ℕ). IoCounted answer n (x.wire_faults wire)) p.count_stays q.cause;
    keeps = keeps-then (part.Wire wire) u v x p.keeps q.keeps;
  }

  -- one last move, and the answer
  pub alone : (o p : Opening) (u v : Outer Origin) (fs : List Event) (answer : Step) → MovesOpening wire o p u.events v.events fs → Concludes (Asks Opening StandsIn written_of p) wire answer fs
      → Leaves Opening StandsIn written_of rest_of p answer → IoCounted answer (u.wire_faults wire) (v.wire_faults wire) → Keeps (part.Wire wire) u v → PollsOpening Origin wire o p u v answer
  alone o p u v fs answer m end rest cause keeps = record { polls = record { events = []; final = fs; moved = tt; moves = m; concludes = end }; leaves = rest; cause = cause; keeps = keeps }

  -- where such an answer to a send leaves the poll
  abbrev pub SentOn : Opening → Opening → Outer Origin → Outer Origin → Result Sent Fault → Type 0
  SentOn o p u v (Ok (sent.Took n)) = RunsOpening Origin wire o p u v
  SentOn o p u v (Ok sent.NotReady) = PollsOpening Origin wire o p u v step.WantWrite
  SentOn o p u v (Err fault.Failed) = PollsOpening Origin wire o p u v (step.Done verdict.Io)
  SentOn o p u v (Err fault.OutOfMemory) = PollsOpening Origin wire o p u v step.OutOfMemory

  still_sends : (o : Opening) → 0 < length o.waiting → asks (standing o) ≡ Some (send (first_piece o.waiting))
  still_sends o h = asks_send o.stage o.waiting o.count o.rest o.written h

  sent_alone : (o p : Opening) (u v : Outer Origin) (piece : List ℕ) (x : Result Sent Fault) → 0 < length piece
      → IfOk x (IsSent (length piece)) → MovesOpening wire o p u.events v.events (send_told wire piece x)
      → SendsLess o.waiting p.waiting x
      → Counted x (u.wire_faults wire) (v.wire_faults wire) → Keeps (part.Wire wire) u v → SentOn o p u v x
  sent_alone o p u v piece (Ok (sent.Took n)) some amount m less cause keeps = record {
    runs = record {
      events = send_told wire piece (Ok (sent.Took n));
      moved = ((omega (arith, amount.0, some), amount.1), tt);
      moves = m;
    };
    count_stays = cause;
    keeps = keeps;
  }
  sent_alone o p u v piece (Ok sent.NotReady) some amount m less cause keeps = alone o p u v _ step.WantWrite m (piece, refl) (leaves_by p _ (still_sends p less)) cause keeps
  sent_alone o p u v piece (Err fault.Failed) some amount m less cause keeps = alone o p u v _ (step.Done verdict.Io) m (inr (piece, refl)) (leaves_by p _ (still_sends p less)) cause keeps
  sent_alone o p u v piece (Err fault.OutOfMemory) some amount m less cause keeps = alone o p u v _ step.OutOfMemory m refl (leaves_looked p) cause keeps

  after_run : (a b c : Opening) (u v x : Outer Origin) (r : Result Sent Fault) → RunsOpening Origin wire a b u v → SentOn b c v x r → SentOn a c u x r
  after_run a b c u v x (Ok (sent.Took n)) p q = runs_on a b c u v x p q
  after_run a b c u v x (Ok sent.NotReady) p q = polls_on a b c u v x _ p q
  after_run a b c u v x (Err fault.Failed) p q = polls_on a b c u v x _ p q
  after_run a b c u v x (Err fault.OutOfMemory) p q = polls_on a b c u v x _ p q

  pub sent_on : (a b c : Opening) (u v x : Outer Origin) (piece : List ℕ) (r : Result Sent Fault)
      → RunsOpening Origin wire a b u v → 0 < length piece → IfOk r (IsSent (length piece))
      → MovesOpening wire b c v.events x.events (send_told wire piece r)
      → SendsLess b.waiting c.waiting r → Counted r (v.wire_faults wire) (x.wire_faults wire) → Keeps (part.Wire wire) v x → SentOn a c u x r
  sent_on a b c u v x piece r p some amount m less cause keeps = after_run a b c u v x r p (sent_alone b c v x piece r some amount m less cause keeps)

-- bytes came
stands_read : (talks : List (List ℕ) → Said) (b x : List ℕ) (o : Opening) → StandsIn talks b o → StandsIn talks (b ++ x) (record o { rest = o.rest ++ x })
stands_read talks b x o st = record { side = st.side; talks_so = st.talks_so; steps_so = st.steps_so; stands = stands_got st.side b x (standing o) st.stands }

moves_read : (wire : ℕ) (o p : Opening) (r s : Option (List Event)) (into : List ℕ) (x : Result Received Fault) → length into ≡ read_size → asks (standing o) ≡ Some recv
    → s ≡ told r (recv_told wire into x) → p ≡ record o { rest = o.rest ++ flat_map bytes_got (recv_told wire into x) } → MovesOpening wire o p r s (recv_told wire into x)
moves_read wire o p r s into x len e gained f = subst (λ (q : Opening). MovesOpening wire o q r s (recv_told wire into x)) (sym f) (record {
  gained = gained;
  asked = λ talks b st. asked_read x talks b (asked_in talks b o recv st e);
  stays = λ talks b st. stands_read talks b (flat_map bytes_got (recv_told wire into x)) o st;
  taken = nothing_taken x;
})
  where
    asked_read : (x : Result Received Fault) (talks : List (List ℕ) → Said) (b : List ℕ) → ask talks b (length o.written) ≡ recv → AreAsked talks wire b (length o.written) (recv_told wire into x)
    asked_read (Ok (received.Got n)) talks b h = ((h, refl, len), tt)
    asked_read (Ok received.End) talks b h = ((h, refl, len), tt)
    asked_read (Ok received.NotReady) talks b h = ((h, refl, len), tt)
    asked_read (Err fault.Failed) talks b h = ((h, refl, len), tt)
    asked_read (Err fault.OutOfMemory) talks b h = tt

    nothing_taken : (x : Result Received Fault) → o.written ≡ o.written ++ flat_map bytes_taken (recv_told wire into x)
    nothing_taken (Ok (received.Got n)) = sym (append-nil o.written)
    nothing_taken (Ok received.End) = sym (append-nil o.written)
    nothing_taken (Ok received.NotReady) = sym (append-nil o.written)
    nothing_taken (Err fault.Failed) = sym (append-nil o.written)
    nothing_taken (Err fault.OutOfMemory) = sym (append-nil o.written)

less_left : (o p : Opening) (bytes : List ℕ) → length o.rest ≤ line_limit → 0 < length bytes → p ≡ record o { rest = o.rest ++ bytes } → left_over p < left_over o
less_left o p bytes few some f = rw f (omega (arith, length-append o.rest bytes, few, some))

still_reads : (o p : Opening) → p ≡ record o { rest = o.rest ++ [] } → asks (standing o) ≡ Some recv → asks (standing p) ≡ Some recv
still_reads o p f e = rw (f, append-nil o.rest) e

module _ (Origin : Type 0) (wire : ℕ) where
  -- where such an answer to a read leaves the poll
  abbrev pub ReadOn : Opening → Opening → Outer Origin → Outer Origin → Result Received Fault → Type 0
  ReadOn o p u v (Ok (received.Got n)) = RunsOpening Origin wire o p u v × (left_over p < left_over o)
  ReadOn o p u v (Ok received.End) = PollsOpening Origin wire o p u v (step.Done verdict.Handshake)
  ReadOn o p u v (Ok received.NotReady) = PollsOpening Origin wire o p u v step.WantRead
  ReadOn o p u v (Err fault.Failed) = PollsOpening Origin wire o p u v (step.Done verdict.Io)
  ReadOn o p u v (Err fault.OutOfMemory) = PollsOpening Origin wire o p u v step.OutOfMemory

  sized : (into : List ℕ) (a : RecvAnswer) → length into ≡ read_size → event.Recv wire (length into) a ∷ [] ≡ event.Recv wire read_size a ∷ []
  sized into a len = ap (λ (n : ℕ). event.Recv wire n a ∷ []) len

  read_on : (o p : Opening) (u v : Outer Origin) (into : List ℕ) (x : Result Received Fault) → length into ≡ read_size
      → length o.rest ≤ line_limit → IfOk x (IsReceived read_size) → asks (standing o) ≡ Some recv
      → v.events ≡ told u.events (recv_told wire into x) → p ≡ record o { rest = o.rest ++ flat_map bytes_got (recv_told wire into x) }
      → Counted x (u.wire_faults wire) (v.wire_faults wire) → Keeps (part.Wire wire) u v → ReadOn o p u v x
  read_on o p u v into (Ok (received.Got n)) len few bound e gained f cause keeps = (
    record {
      runs = record {
        events = recv_told wire into (Ok (received.Got n));
        moved = (
          (
            omega (arith, length-take n into, bound.0, bound.1, len),
            omega (arith, length-take n into, bound.1),
          ),
          tt,
        );
        moves = moves_read wire o p u.events v.events into (Ok (received.Got n)) len e gained f;
      };
      count_stays = cause;
      keeps = keeps;
    },
    less_left o p (take n into ++ []) few (omega (arith, ap length (append-nil (take n into)), length-take n into, bound.1, bound.0, len)) f,
  )
  read_on o p u v into (Ok received.End) len few bound e gained f cause keeps =
      alone Origin wire o p u v _ (step.Done verdict.Handshake)
      (moves_read wire o p u.events v.events into (Ok received.End) len e gained f)
      (inr (sized into recv_answer.End len)) (leaves_by p recv (still_reads o p f e)) cause keeps
  read_on o p u v into (Ok received.NotReady) len few bound e gained f cause keeps =
      alone Origin wire o p u v _ step.WantRead
      (moves_read wire o p u.events v.events into (Ok received.NotReady) len e gained f)
      (sized into recv_answer.NotReady len) (leaves_by p recv (still_reads o p f e)) cause keeps
  read_on o p u v into (Err fault.Failed) len few bound e gained f cause keeps =
      alone Origin wire o p u v _ (step.Done verdict.Io)
      (moves_read wire o p u.events v.events into (Err fault.Failed) len e gained f)
      (inl (sized into recv_answer.Failed len)) (leaves_by p recv (still_reads o p f e)) cause keeps
  read_on o p u v into (Err fault.OutOfMemory) len few bound e gained f cause keeps =
      alone Origin wire o p u v _ step.OutOfMemory (moves_read wire o p u.events v.events into (Err fault.OutOfMemory) len e gained f) refl (leaves_looked p) cause keeps

  pub read_told : (o p : Opening) (u v : Outer Origin) (x : Result Received Fault) → length o.rest ≤ line_limit → IfOk x (IsReceived read_size) → asks (standing o) ≡ Some recv
      → (into : List ℕ) × (length into ≡ read_size) × (v.events ≡ told u.events (recv_told wire into x)) × (p ≡ record o { rest = o.rest ++ flat_map bytes_got (recv_told wire into x) })
      → Counted x (u.wire_faults wire) (v.wire_faults wire) → Keeps (part.Wire wire) u v → ReadOn o p u v x
  read_told o p u v x few bound e gained cause keeps = read_on o p u v gained.0 x gained.1 few bound e gained.2 gained.3 cause keeps

  -- the end is marked
  pub polls_marked : (o p : Opening) (u v : Outer Origin) (answer : Step) (ended : Bool) → PollsOpening Origin wire o p u v answer → PollsOpening Origin wire o (record p { ended = ended }) u v answer
  polls_marked o p u v answer ended q = record {
    polls = record {
      events = q.polls.events;
      final = q.polls.final;
      moved = q.polls.moved;
      moves = record { gained = q.polls.moves.gained; asked = q.polls.moves.asked; stays = q.polls.moves.stays; taken = q.polls.moves.taken };
      concludes = q.polls.concludes;
    };
    leaves = leaves_marked answer q.leaves;
    cause = q.cause;
    keeps = q.keeps;
  }
    where
      leaves_marked : (answer : Step) → Leaves Opening StandsIn written_of rest_of p answer → Leaves Opening StandsIn written_of rest_of (record p { ended = ended }) answer
      leaves_marked (step.Done d) l = l
      leaves_marked step.WantRead l = l
      leaves_marked step.WantWrite l = l
      leaves_marked step.OutOfMemory l = l
