-- How often a conversation asks its wire.
use Rattle.std.proofs.Common.{◌≡◌, ℕ, zero, suc, ◌+◌, ◌*◌, ◌-◌, ◌≤◌, ◌<◌, Bool, true, false, List, [], ◌∷◌, ◌++◌}
use Rattle.std.proofs.Common.{length, take, drop, Option, Some, None, refl, ap, subst, ◌∙◌, arith, eqb}
use Rattle.std.specs.Prelude.{nat_le, ◌==◌, ◌&&◌, if◌then◌else◌, sum_by}
use Rattle.std.specs.Option.{option_map}
use Rattle.std.specs.Str.{bytes_eq}
use Rattle.std.proofs.lemmas.Bool.{and_parts, ltb-true, ltb-false, lt-ltb}
use Rattle.std.proofs.lemmas.List.{length-append, length-take-le}
use Rattle.std.proofs.lemmas.List.Sums.{sum_by-cons}
use Rattle.react_core.specs.declared.outside.Event.{Event}
use Rattle.react_core.specs.declared.outside.Event.TheVariants as event
use Rattle.react_core.specs.declared.outside.RecvAnswer.{RecvAnswer}
use Rattle.react_core.specs.declared.outside.RecvAnswer.TheVariants as recv_answer
use Rattle.react_core.specs.declared.outside.SendAnswer.{SendAnswer}
use Rattle.react_core.specs.declared.outside.SendAnswer.TheVariants as send_answer
use Rattle.react_core.specs.declared.reactor.Dir.TheVariants.{Read, Write}
use Rattle.bus_opening.specs.Limits.{line_limit, command_limit}
use Rattle.bus_opening.specs.Lines.{lines, onto_line, long, has_feed, feed_at, following}
use Rattle.bus_opening.specs.Talk.{Said, Ask, send, recv}
use Rattle.bus_session.specs.declared.session.Party.{Party}
use Rattle.bus_session.specs.declared.session.Session.{Session}
use Rattle.bus_session.specs.Dialling.{Dialling}
use Rattle.bus_session.specs.Outcomes.{Outcome}
use Rattle.bus_session.specs.Alone.{Talked, Progress, dials, converses, over, Course, asked_next, after_asked, after_recv}
use Rattle.bus_session.specs.Alone.{after_send, after_in, goes_through, course, first_course}
use Rattle.bus_cutting.specs.Calls.{Goes, reads, sends, pauses, ends, is_call, is_pause, one_if, counted}
use Rattle.bus_cutting.proofs.Asked.{AskedAt, asked_at}
use Rattle.bus_cutting.proofs.LineLemmas.{line_follows}

-- ---- one call

-- it goes so, and is counted
pub record Went (talk : List (List ℕ) → Said) (t : Talked) (e : Event) (next : Progress) : Type 0 where
  pub goes : Goes talk t next
  pub counts : (further : Talked) → next ≡ converses talk further →
      one_if (is_call e) + (length t.got + length t.written)
      ≤ length further.got + length further.written + one_if (is_pause e)

the-talked : (talk : List (List ℕ) → Said) (t further : Talked) → converses talk t ≡ converses talk further → t ≡ further
the-talked talk t further e = cc

some-same : (a b : Progress) → Some a ≡ Some b → a ≡ b
some-same a b e = cc

le-true : (a b : ℕ) → nat_le a b ≡ true → a ≤ b
le-true a b test = grind (arith, test)

module _ (talk : List (List ℕ) → Said) (t : Talked) where
  some-is : (e : Event) (a next : Progress) → Some a ≡ Some next → Went talk t e a → Went talk t e next
  some-is e a next same went = subst (λ (n : Progress). Went talk t e n) (some-same a next same) went

  went-ends : (e : Event) (came : Outcome) → Went talk t e (over came)
  went-ends e came = record { goes = ends came; counts = λ further same. absurd (cc) }

  -- it counts as one, and moves or pauses as much
  counts-by : (call pause : Bool) (now further : Talked) → converses talk now ≡ converses talk further →
      one_if call + (length t.got + length t.written)
      ≤ length now.got + length now.written + one_if pause →
      one_if call + (length t.got + length t.written)
      ≤ length further.got + length further.written + one_if pause
  counts-by call pause now further same le =
      subst (λ (x : Talked). one_if call + (length t.got + length t.written)
      ≤ length x.got + length x.written + one_if pause) (the-talked talk now further same) le

  went-reads : (wire asked : ℕ) (bytes : List ℕ) → 1 ≤ length bytes →
      Went talk t (event.Recv wire asked (recv_answer.Got bytes)) (converses talk (record t { got = t.got ++ bytes; paused = None }))
  went-reads wire asked bytes some = record {
    goes = reads bytes some;
    counts = λ further same. counts-by true false (record t { got = t.got ++ bytes; paused = None }) further same
        (omega (arith, length-append t.got bytes, some));
  }

  went-sends : (wire : ℕ) (offered : List ℕ) (n : ℕ) (piece : List ℕ) → 1 ≤ n → n ≤ length piece →
      Went talk t (event.Send wire offered (send_answer.Took n)) (converses talk (record t { written = t.written ++ take n piece; paused = None }))
  went-sends wire offered n piece some within =
      let taken : length (take n piece) ≡ n = length-take-le n piece within in
      record {
        goes = sends (take n piece) (omega (arith, taken, some));
        counts = λ further same. counts-by true false (record t { written = t.written ++ take n piece; paused = None }) further same
            (omega (arith, length-append t.written (take n piece), taken, some));
      }

  got-by : (ok : Bool) (wire asked : ℕ) (bytes : List ℕ) (next : Progress) → (ok ≡ true → 1 ≤ length bytes) →
      (if ok then Some (converses talk (record t { got = t.got ++ bytes; paused = None })) else None) ≡ Some next →
      Went talk t (event.Recv wire asked (recv_answer.Got bytes)) next
  got-by true wire asked bytes next some e =
      some-is (event.Recv wire asked (recv_answer.Got bytes)) _ next e (went-reads wire asked bytes (some refl))
  got-by false wire asked bytes next some e = absurd (cc)

  took-by : (ok : Bool) (wire : ℕ) (offered : List ℕ) (n : ℕ) (piece : List ℕ) (next : Progress) →
      (ok ≡ true → (1 ≤ n) × (n ≤ length piece)) →
      (if ok then Some (converses talk (record t { written = t.written ++ take n piece; paused = None })) else None) ≡ Some next →
      Went talk t (event.Send wire offered (send_answer.Took n)) next
  took-by true wire offered n piece next some e =
      some-is (event.Send wire offered (send_answer.Took n)) _ next e
      (went-sends wire offered n piece (some refl).0 (some refl).1)
  took-by false wire offered n piece next some e = absurd (cc)

  recv-goes : (wire asked : ℕ) (answer : RecvAnswer) (next : Progress) → after_recv talk t answer ≡ Some next →
      Went talk t (event.Recv wire asked answer) next
  recv-goes wire asked (recv_answer.Got bytes) next e =
      got-by (nat_le 1 (length bytes) && nat_le (length bytes) 1024) wire asked bytes next
      (λ ok. le-true 1 (length bytes) (and_parts (nat_le 1 (length bytes)) (nat_le (length bytes) 1024) ok).0) e
  recv-goes wire asked recv_answer.End next e =
      some-is (event.Recv wire asked recv_answer.End) _ next e (went-ends (event.Recv wire asked recv_answer.End) _)
  recv-goes wire asked recv_answer.NotReady next e =
      some-is (event.Recv wire asked recv_answer.NotReady) _ next e (record {
        goes = pauses Read;
        counts = λ further same. counts-by true true (record t { paused = Some Read }) further same (omega arith);
      })
  recv-goes wire asked recv_answer.Failed next e =
      some-is (event.Recv wire asked recv_answer.Failed) _ next e (went-ends (event.Recv wire asked recv_answer.Failed) _)

  send-goes : (wire : ℕ) (offered piece : List ℕ) (answer : SendAnswer) (next : Progress) →
      after_send talk t piece answer ≡ Some next → Went talk t (event.Send wire offered answer) next
  send-goes wire offered piece (send_answer.Took n) next e =
      took-by (nat_le 1 n && nat_le n (length piece)) wire offered n piece next
      (λ ok. let both = and_parts (nat_le 1 n) (nat_le n (length piece)) ok in
      (le-true 1 n both.0, le-true n (length piece) both.1)) e
  send-goes wire offered piece send_answer.NotReady next e =
      some-is (event.Send wire offered send_answer.NotReady) _ next e (record {
        goes = pauses Write;
        counts = λ further same. counts-by true true (record t { paused = Some Write }) further same (omega arith);
      })
  send-goes wire offered piece send_answer.Failed next e =
      some-is (event.Send wire offered send_answer.Failed) _ next e (went-ends (event.Send wire offered send_answer.Failed) _)

  read-asked : (ok : Bool) (wire asked : ℕ) (answer : RecvAnswer) (next : Progress) →
      (if ok then after_recv talk t answer else None) ≡ Some next → Went talk t (event.Recv wire asked answer) next
  read-asked true wire asked answer next e = recv-goes wire asked answer next e
  read-asked false wire asked answer next e = absurd (cc)

  send-asked : (ok : Bool) (wire : ℕ) (offered piece : List ℕ) (answer : SendAnswer) (next : Progress) →
      (if ok then after_send talk t piece answer else None) ≡ Some next → Went talk t (event.Send wire offered answer) next
  send-asked true wire offered piece answer next e = send-goes wire offered piece answer next e
  send-asked false wire offered piece answer next e = absurd (cc)

  -- whatever is asked
  pub call-goes : (a : Ask) (e : Event) (next : Progress) → after_asked talk t a e ≡ Some next → Went talk t e next
  call-goes recv (event.Recv wire asked answer) next e = read-asked (asked == 1024) wire asked answer next e
  call-goes (send piece) (event.Send wire offered answer) next e =
      send-asked (bytes_eq offered piece) wire offered piece answer next e
  call-goes a e next is = absurd (cc)

-- ---- all calls of a course

abbrev moved : Progress → ℕ
moved (dials d) = 0
moved (converses talk t) = length t.got + length t.written
moved (over came) = 0

none-goes : (events : List Event) (c : Course) → goes_through None events ≡ Some c → ⊥
none-goes [] c e = absurd (cc)
none-goes (x ∷ events) c e = none-goes events c e

the-course : (a b : Course) → Some a ≡ Some b → a ≡ b
the-course a b e = cc

-- an ended course asks nothing more
over-stays : (p : Party) (came : Outcome) (events : List Event) (talk : List (List ℕ) → Said) (t : Talked) →
    goes_through (Some (record { party = p; progress = over came })) events
    ≡ Some (record { party = p; progress = converses talk t }) → ⊥
over-stays p came [] talk t e =
    let same : over came ≡ converses talk t = ap (λ (c : Course). c.progress) (the-course _ _ e) in absurd (cc)
over-stays p came (x ∷ events) talk t e = none-goes events _ e

-- what comes of one event, and that it counts
abbrev Counts : Progress → Event → Progress → Type 0
Counts before e (over came) = Unit {0}
Counts before e (dials d) = one_if (is_call e) + moved before ≤ one_if (is_pause e)
Counts before e (converses talk t) =
    one_if (is_call e) + moved before ≤ length t.got + length t.written + one_if (is_pause e)

counts-dial : (e : Event) (d : Dialling) (next : Progress) → one_if (is_call e) ≡ 0 → Counts (dials d) e next
counts-dial e d (dials other) no-call = omega (arith, no-call)
counts-dial e d (converses talk t) no-call = omega (arith, no-call)
counts-dial e d (over came) no-call = tt

counts-call : (talk : List (List ℕ) → Said) (t : Talked) (e : Event) (next : Progress) → Goes talk t next →
    ((further : Talked) → next ≡ converses talk further → one_if (is_call e) + (length t.got + length t.written)
    ≤ length further.got + length further.written + one_if (is_pause e)) → Counts (converses talk t) e next
counts-call talk t e _ (reads bytes some) counts = counts (record t { got = t.got ++ bytes; paused = None }) refl
counts-call talk t e _ (sends bytes some) counts = counts (record t { written = t.written ++ bytes; paused = None }) refl
counts-call talk t e _ (pauses dir) counts = counts (record t { paused = Some dir }) refl
counts-call talk t e _ (ends came) counts = tt

counts : (p : Party) (before : Progress) (e : Event) (next : Progress) → after_in p before e ≡ Some next →
    Counts before e next
counts p (dials d) (event.Dial wire question answer) next is =
    counts-dial (event.Dial wire question answer) d next refl
counts p (dials d) e next is = absurd (cc)
counts p (converses talk t) e next is =
    let went = call-goes talk t (asked_next talk t) e next is in counts-call talk t e next went.goes went.counts
counts p (over came) e next is = absurd (cc)

-- what holds of the calls behind a progress
abbrev CallsBehind : Party → List Event → (List (List ℕ) → Said) → Talked → Progress → Type 0
CallsBehind p events talk t before =
    goes_through (Some (record { party = p; progress = before })) events
    ≡ Some (record { party = p; progress = converses talk t }) →
    counted is_call events + moved before ≤ length t.got + length t.written + counted is_pause events

calls-next : (p : Party) (before next : Progress) (e : Event) (events : List Event) (talk : List (List ℕ) → Said)
    (t : Talked) → Counts before e next → ((n : Progress) → CallsBehind p events talk t n) →
    goes_through (Some (record { party = p; progress = next })) events
    ≡ Some (record { party = p; progress = converses talk t }) →
    one_if (is_call e) + counted is_call events + moved before
    ≤ length t.got + length t.written + (one_if (is_pause e) + counted is_pause events)
calls-next p before (dials d) e events talk t one others rest = omega (arith, one, others (dials d) rest)
calls-next p before (converses other further) e events talk t one others rest =
    omega (arith, one, others (converses other further) rest)
calls-next p before (over came) e events talk t one others rest = absurd (over-stays p came events talk t rest)

calls-on : (o : Option Progress) (p : Party) (before : Progress) (e : Event) (events : List Event)
    (talk : List (List ℕ) → Said) (t : Talked) → after_in p before e ≡ o →
    ((n : Progress) → CallsBehind p events talk t n) →
    goes_through (option_map (λ n. record { party = p; progress = n }) o) events
    ≡ Some (record { party = p; progress = converses talk t }) →
    one_if (is_call e) + counted is_call events + moved before
    ≤ length t.got + length t.written + (one_if (is_pause e) + counted is_pause events)
calls-on None p before e events talk t is others rest = absurd (none-goes events _ rest)
calls-on (Some next) p before e events talk t is others rest =
    calls-next p before next e events talk t (counts p before e next is) others rest

-- from any progress on
calls-from : (p : Party) (before : Progress) (events : List Event) (talk : List (List ℕ) → Said) (t : Talked) →
    CallsBehind p events talk t before
calls-from p before [] talk t e =
    let same : before ≡ converses talk t = ap (λ (c : Course). c.progress) (the-course _ _ e) in
    rw same (omega arith)
calls-from p before (x ∷ events) talk t e =
    calls-on (after_in p before x) p before x events talk t refl (λ n rest. calls-from p n events talk t rest) e

pub few-calls : (s : Session) (events : List Event) (talk : List (List ℕ) → Said) (t : Talked) →
    course s events ≡ Some (record { party = s.party; progress = converses talk t }) →
    counted is_call events ≤ length t.got + length t.written + counted is_pause events
unfolding course
few-calls s events talk t e =
    let all = calls-from s.party (first_course s).progress events talk t e in omega (arith, all)

-- ---- how much comes

-- the bytes behind the first line, and how long that line is
record FirstLine (b : List ℕ) : Type 0 where
  after : List ℕ
  count : length b ≡ suc (feed_at b) + length after
  later : (i : ℕ) → following (suc i) b ≡ following i after

-- a line with a byte more
onto-longer : (c : ℕ) (whole : List (List ℕ)) (rest : List ℕ) (i : ℕ) → 0 < length whole →
    sum_by length (take (suc i) (onto_line c whole rest).whole) ≡ suc (sum_by length (take (suc i) whole))
onto-longer c [] rest i some = absurd (omega (arith, some))
onto-longer c (line ∷ whole) rest i some =
    omega (arith, sum_by-cons length (c ∷ line) (take i whole), sum_by-cons length line (take i whole))

bare-first : (others : List (List ℕ)) → sum_by length ((10 ∷ []) ∷ others) ≡ suc (sum_by length others)
bare-first others = omega (arith, sum_by-cons length (10 ∷ []) others)

line-by : (here : Bool) (c : ℕ) (b : List ℕ) → eqb c 10 ≡ here → has_feed (c ∷ b) ≡ true →
    (has_feed b ≡ true → FirstLine b) → FirstLine (c ∷ b)
line-by true c b is fed others = record {
  after = b;
  count = rw is (omega arith);
  later = λ i. rw is (ap (λ n. drop n (c ∷ b)) (bare-first (take i (lines b).whole)));
}
line-by false c b is fed others =
    let below = ltb-true _ _ (rw is at fed) in
    let fed' : has_feed b ≡ true = lt-ltb (feed_at b) (length b) (omega (arith, below)) in
    let first = others fed' in
    let some = line_follows 0 b fed' in
    record {
      after = first.after;
      count = rw is (omega (arith, first.count));
      later = λ i. rw is
          (ap (λ n. drop n (c ∷ b)) (onto-longer c (lines b).whole (lines b).rest i (omega (arith, some))) ∙ first.later i);
    }

first-line : (b : List ℕ) → has_feed b ≡ true → FirstLine b
first-line [] fed = absurd (cc)
first-line (c ∷ b) fed = line-by (eqb c 10) c b refl fed (first-line b)

-- lines that were looked at are no longer than they may be
looked-at : (j : ℕ) (b : List ℕ) → ((i : ℕ) → i < j → (has_feed (following i b) ≡ true) × (long (following i b) ≡ false)) →
    length b ≤ j * (line_limit + 1) + length (following j b)
looked-at zero b passed = omega arith
looked-at (suc j) b passed =
    let here = passed 0 (omega arith) in
    let first = first-line b here.0 in
    let short : feed_at b ≤ line_limit = ltb-false _ _ here.1 in
    let behind : length first.after ≤ j * (line_limit + 1) + length (following j first.after) =
    looked-at j first.after (λ i lt.
    let next = passed (suc i) (omega (arith, lt)) in
    let same : following (suc i) b ≡ following i first.after = first.later i in (rw same at next.0, rw same at next.1)) in
    rw (first.later j) (omega (arith, first.count, short, behind))

asked-to-read : (talk : List (List ℕ) → Said) (b : List ℕ) (w : ℕ) → AskedAt talk b w recv →
    length b < command_limit * (line_limit + 1)
asked-to-read talk b w at =
    let rest = following at.count b in
    let more : 0 < command_limit - at.count = at.because.2 in
    let short : feed_at rest ≤ line_limit = ltb-false _ _ at.because.3 in
    let unfed : length rest ≤ feed_at rest = ltb-false _ _ at.because.4 in
    let all = looked-at at.count b (λ i lt. let p = at.passed i lt in (p.fed, p.short)) in
    omega (arith, more, short, unfed, all)

pub short-reads : (talk : List (List ℕ) → Said) (t : Talked) → asked_next talk t ≡ recv →
    length t.got < command_limit * (line_limit + 1)
short-reads talk t is =
    asked-to-read talk t.got (length t.written)
    (subst (λ (a : Ask). AskedAt talk t.got (length t.written) a) is (asked_at talk t.got (length t.written)))
