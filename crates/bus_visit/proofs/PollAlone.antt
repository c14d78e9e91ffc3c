-- How the events of one poll go through for the session alone, from any history at which its conversation stands.
use Rattle.std.proofs.Common.{◌≡◌, ℕ, ◌+◌, Bool, true, false, eq-eqb, List, [], ◌∷◌, ◌++◌, Option, Some, None, Ok, length, refl, sym, ◌∙◌, ap, subst, inl, inr, arith, nat_le, ◌&&◌}
use Rattle.std.specs.List.{flat_map}
use Rattle.std.specs.Option.{option_map, option_and_then}
use Rattle.std.specs.Str.{bytes_eq}
use Rattle.std.proofs.lemmas.List.{append_assoc, append-nil, length-append}
use Rattle.std.proofs.lemmas.Bool.Decides.{nat_tests}
use Rattle.react_core.specs.declared.outside.Event.{Event}
use Rattle.react_core.specs.declared.outside.Event.TheVariants as event
use Rattle.react_core.specs.declared.outside.RecvAnswer.{RecvAnswer}
use Rattle.react_core.specs.declared.outside.RecvAnswer.TheVariants as recv_answer
use Rattle.react_core.specs.declared.outside.SendAnswer.{SendAnswer}
use Rattle.react_core.specs.declared.outside.SendAnswer.TheVariants as send_answer
use Rattle.react_core.specs.declared.reactor.Dir.{Dir}
use Rattle.react_core.specs.declared.reactor.Dir.TheVariants.{Read, Write}
use Rattle.bus_opening.specs.Talk.{Said, Ask, ask, left}
use Rattle.bus_opening.specs.Openings.{Opening, StandsIn, written_of, rest_of}
use Rattle.bus_opening.specs.Polling.{IsAsked, AreAsked, Moved, AllMoved, bytes_got, bytes_taken, Asks, Concludes, Polls, Leaves, IoCounted}
use Rattle.bus_opening.specs.declared.verdict.Verdict.{Verdict}
use Rattle.bus_opening.specs.declared.verdict.Verdict.TheVariants as verdict
use Rattle.bus_opening.specs.declared.verdict.Step.{Step}
use Rattle.bus_opening.specs.declared.verdict.Step.TheVariants as step
use Rattle.bus_session.specs.declared.ended.Ending.{Ending}
use Rattle.bus_session.specs.declared.ended.Ending.TheVariants as ending
use Rattle.bus_session.specs.declared.session.Party.{Party}
use Rattle.bus_session.specs.Alone.{Progress, Course, converses, after, after_recv, after_send, concluded, goes_through, outcome_of}
use Rattle.bus_visit.specs.Asking.{asks}
use Rattle.bus_visit.specs.Calls.{IsCall, AreCalls, AllAnswered, StopsAt}
use Rattle.bus_visit.specs.Conversed.{stands_at, ending_of, is_awake, CallsOf, Ends, Stops, ConversesTo, IsInterrupted, ConversedCounted}
use Rattle.bus_visit.specs.declared.conversing.Conversed.TheVariants as conversed
use Rattle.bus_visit.specs.laws.Records.{goes-append, answered-append}

pub bytes_eq-refl : (bytes : List ℕ) → bytes_eq bytes bytes ≡ true
bytes_eq-refl [] = refl
bytes_eq-refl (b ∷ bytes) = rw (eq-eqb b b refl) (bytes_eq-refl bytes)

-- ---- the events that moved bytes

asked-call : (a : Ask) (wire : ℕ) (e : Event) → IsAsked a wire e → IsCall wire e
asked-call a wire (event.Recv on size answer) (asked, same, sized) = same
asked-call a wire (event.Send on offered answer) (asked, same) = same
asked-call a wire e h = absurd h

asked-calls : (talk : List (List ℕ) → Said) (wire : ℕ) (b : List ℕ) (w : ℕ) (events : List Event) → AreAsked talk wire b w events → AreCalls wire events
asked-calls talk wire b w [] h = tt {0}
asked-calls talk wire b w (e ∷ events) (h, hs) = (asked-call _ wire e h, asked-calls talk wire (b ++ bytes_got e) (w + length (bytes_taken e)) events hs)

moved-answered : (events : List Event) → AllMoved events → AllAnswered events
moved-answered [] m = tt {0}
moved-answered (event.Recv on size (recv_answer.Got bytes) ∷ events) (m, ms) = (tt {0}, moved-answered events ms)
moved-answered (event.Send on offered (send_answer.Took n) ∷ events) (m, ms) = (tt {0}, moved-answered events ms)
moved-answered (e ∷ events) (m, ms) = absurd m

-- a conversation at which these bytes came and those were taken
abbrev at : Party → (List (List ℕ) → Said) → List ℕ → List ℕ → Option Dir → Course
at p talk b w paused = record { party = p; progress = converses talk (record { got = b; written = w; paused = paused }) }

-- an event that moves bytes ends a pause
abbrev paused-after : Option Dir → List Event → Option Dir
paused-after paused [] = paused
paused-after paused (e ∷ events) = paused-after None events

moved-one : (p : Party) (talk : List (List ℕ) → Said) (b w : List ℕ) (paused : Option Dir) (wire : ℕ) (e : Event) → Moved e → IsAsked (ask talk b (length w)) wire e →
    after (at p talk b w paused) e ≡ Some (at p talk (b ++ bytes_got e) (w ++ bytes_taken e) None)
moved-one p talk b w paused wire (event.Recv on size (recv_answer.Got bytes)) (low, high) (asked, same, sized) =
    let fits : (nat_le 1 (length bytes) && nat_le (length bytes) 1024) ≡ true = grind (arith, nat_tests) in
    rw (asked, sized, fits, append-nil w) refl
moved-one p talk b w paused wire (event.Send on offered (send_answer.Took n)) (low, high) (asked, same) =
    let fits : (nat_le 1 n && nat_le n (length offered)) ≡ true = grind (arith, nat_tests) in
    rw (asked, bytes_eq-refl offered, fits, append-nil b) refl
moved-one p talk b w paused wire e m a = absurd m

moved-on : (p : Party) (talk : List (List ℕ) → Said) (b w : List ℕ) (paused : Option Dir) (wire : ℕ) (events : List Event) → AllMoved events → AreAsked talk wire b (length w) events →
    goes_through (Some (at p talk b w paused)) events ≡ Some (at p talk (b ++ flat_map bytes_got events) (w ++ flat_map bytes_taken events) (paused-after paused events))
moved-on p talk b w paused wire [] m a = rw (append-nil b, append-nil w) refl
moved-on p talk b w paused wire (e ∷ events) (m, ms) (a, more) =
    let longer : length w + length (bytes_taken e) ≡ length (w ++ bytes_taken e) = sym (length-append w (bytes_taken e)) in
    let onward : AreAsked talk wire (b ++ bytes_got e) (length (w ++ bytes_taken e)) events = subst (λ n. AreAsked talk wire (b ++ bytes_got e) n events) longer more in
    ap (λ reached. goes_through reached events) (moved-one p talk b w paused wire e m a)
    ∙ (moved-on p talk (b ++ bytes_got e) (w ++ bytes_taken e) None wire events ms onward
    ∙ rw (append_assoc b (bytes_got e) (flat_map bytes_got events), append_assoc w (bytes_taken e) (flat_map bytes_taken events)) refl)

-- ---- the last event

asked-first : (talk : List (List ℕ) → Said) (wire : ℕ) (b : List ℕ) (w : ℕ) (es fs : List Event) → AreAsked talk wire b w (es ++ fs) → AreAsked talk wire b w es
asked-first talk wire b w [] fs h = tt {0}
asked-first talk wire b w (e ∷ es) fs (h, hs) = (h, asked-first talk wire (b ++ bytes_got e) (w + length (bytes_taken e)) es fs hs)

asked-last : (talk : List (List ℕ) → Said) (wire : ℕ) (b w : List ℕ) (es fs : List Event) → AreAsked talk wire b (length w) (es ++ fs) →
    AreAsked talk wire (b ++ flat_map bytes_got es) (length (w ++ flat_map bytes_taken es)) fs
asked-last talk wire b w [] fs h = rw (append-nil b, append-nil w) h
asked-last talk wire b w (e ∷ es) fs (h, hs) =
    let longer : length w + length (bytes_taken e) ≡ length (w ++ bytes_taken e) = sym (length-append w (bytes_taken e)) in
    let onward : AreAsked talk wire (b ++ bytes_got e) (length (w ++ bytes_taken e)) (es ++ fs) = subst (λ n. AreAsked talk wire (b ++ bytes_got e) n (es ++ fs)) longer hs in
    let later : AreAsked talk wire (b ++ bytes_got e ++ flat_map bytes_got es)
    (length (w ++ bytes_taken e ++ flat_map bytes_taken es)) fs =
    asked-last talk wire (b ++ bytes_got e) (w ++ bytes_taken e) es fs onward in
    rw (← append_assoc b (bytes_got e) (flat_map bytes_got es), ← append_assoc w (bytes_taken e) (flat_map bytes_taken es)) later

flat-append : (f : Event → List ℕ) (es fs : List Event) → flat_map f (es ++ fs) ≡ flat_map f es ++ flat_map f fs
flat-append f [] fs = refl
flat-append f (e ∷ es) fs = ap (λ x. f e ++ x) (flat-append f es fs) ∙ sym (append_assoc (f e) (flat_map f es) (flat_map f fs))

-- it moves no bytes
quiet-got : (asks : Ask → Type 0) (wire : ℕ) (s : Step) (final : List Event) → Concludes asks wire s final → flat_map bytes_got final ≡ []
quiet-got asks wire (step.Done (verdict.Authenticated settled)) final (f, h) = rw f refl
quiet-got asks wire (step.Done verdict.Handshake) final (inl (f, h)) = rw f refl
quiet-got asks wire (step.Done verdict.Handshake) final (inr f) = rw f refl
quiet-got asks wire (step.Done verdict.Io) final (inl f) = rw f refl
quiet-got asks wire (step.Done verdict.Io) final (inr (offered, f)) = rw f refl
quiet-got asks wire (step.Done verdict.LineTooLong) final (f, h) = rw f refl
quiet-got asks wire (step.Done verdict.TooManyCommands) final (f, h) = rw f refl
quiet-got asks wire step.WantRead final f = rw f refl
quiet-got asks wire step.WantWrite final (offered, f) = rw f refl
quiet-got asks wire step.OutOfMemory final f = rw f refl

quiet-taken : (asks : Ask → Type 0) (wire : ℕ) (s : Step) (final : List Event) → Concludes asks wire s final → flat_map bytes_taken final ≡ []
quiet-taken asks wire (step.Done (verdict.Authenticated settled)) final (f, h) = rw f refl
quiet-taken asks wire (step.Done verdict.Handshake) final (inl (f, h)) = rw f refl
quiet-taken asks wire (step.Done verdict.Handshake) final (inr f) = rw f refl
quiet-taken asks wire (step.Done verdict.Io) final (inl f) = rw f refl
quiet-taken asks wire (step.Done verdict.Io) final (inr (offered, f)) = rw f refl
quiet-taken asks wire (step.Done verdict.LineTooLong) final (f, h) = rw f refl
quiet-taken asks wire (step.Done verdict.TooManyCommands) final (f, h) = rw f refl
quiet-taken asks wire step.WantRead final f = rw f refl
quiet-taken asks wire step.WantWrite final (offered, f) = rw f refl
quiet-taken asks wire step.OutOfMemory final f = rw f refl

concludes-map : (asks asks' : Ask → Type 0) (wire : ℕ) (s : Step) (final : List Event) → ((a : Ask) → asks a → asks' a) → Concludes asks wire s final → Concludes asks' wire s final
concludes-map asks asks' wire (step.Done (verdict.Authenticated settled)) final g (f, h) = (f, g _ h)
concludes-map asks asks' wire (step.Done verdict.Handshake) final g (inl (f, h)) = inl (f, g _ h)
concludes-map asks asks' wire (step.Done verdict.Handshake) final g (inr f) = inr f
concludes-map asks asks' wire (step.Done verdict.Io) final g h = h
concludes-map asks asks' wire (step.Done verdict.LineTooLong) final g (f, h) = (f, g _ h)
concludes-map asks asks' wire (step.Done verdict.TooManyCommands) final g (f, h) = (f, g _ h)
concludes-map asks asks' wire step.WantRead final g f = f
concludes-map asks asks' wire step.WantWrite final g f = f
concludes-map asks asks' wire step.OutOfMemory final g f = f

final-answered : (asked : Ask → Type 0) (wire : ℕ) (v : Verdict) (final : List Event) →
    Concludes asked wire (step.Done v) final → AllAnswered final
final-answered asked wire (verdict.Authenticated settled) final (f, h) = rw f (tt {0})
final-answered asked wire verdict.Handshake final (inl (f, h)) = rw f (tt {0})
final-answered asked wire verdict.Handshake final (inr f) = rw f (tt {0}, tt {0})
final-answered asked wire verdict.Io final (inl f) = rw f (tt {0}, tt {0})
final-answered asked wire verdict.Io final (inr (offered, f)) = rw f (tt {0}, tt {0})
final-answered asked wire verdict.LineTooLong final (f, h) = rw f (tt {0})
final-answered asked wire verdict.TooManyCommands final (f, h) = rw f (tt {0})

-- a conversation at which these bytes came and those were taken ends so
abbrev EndsAt : (List (List ℕ) → Said) → List ℕ → List ℕ → Option Dir → Bool → Ending → Option Course → Type 0
EndsAt talk b w paused late e reached = option_and_then (outcome_of late) reached ≡ Some (concluded talk (record { got = b; written = w; paused = paused }) e)

-- the session at this progress
abbrev led : Party → Progress → Course
led p progress = record { party = p; progress = progress }

got-last : (p : Party) (talk : List (List ℕ) → Said) (b w : List ℕ) (paused : Option Dir) (wire : ℕ) (answer : RecvAnswer) → AreAsked talk wire b (length w) (event.Recv wire 1024 answer ∷ []) →
    goes_through (Some (at p talk b w paused)) (event.Recv wire 1024 answer ∷ []) ≡ option_map (led p) (after_recv talk (record { got = b; written = w; paused = paused }) answer)
got-last p talk b w paused wire answer ((asked, same, sized), more) = rw (asked) refl

sent-last : (p : Party) (talk : List (List ℕ) → Said) (b w : List ℕ) (paused : Option Dir) (wire : ℕ)
    (offered : List ℕ) (answer : SendAnswer) → AreAsked talk wire b (length w) (event.Send wire offered answer ∷ []) →
    goes_through (Some (at p talk b w paused)) (event.Send wire offered answer ∷ []) ≡ option_map (led p) (after_send talk (record { got = b; written = w; paused = paused }) offered answer)
sent-last p talk b w paused wire offered answer ((asked, same), more) = rw (asked, bytes_eq-refl offered) refl

final-ends : (p : Party) (late : Bool) (talk : List (List ℕ) → Said) (b w : List ℕ) (paused : Option Dir) (wire : ℕ) (v : Verdict) (final : List Event) →
    AreAsked talk wire b (length w) final → Concludes (λ a. ask talk b (length w) ≡ a) wire (step.Done v) final →
    EndsAt talk b w paused late (ending_of v) (goes_through (Some (at p talk b w paused)) final)
final-ends p late talk b w paused wire (verdict.Authenticated settled) final a (f, asked) = rw (f, asked) refl
final-ends p late talk b w paused wire verdict.Handshake final a (inl (f, asked)) = rw (f, asked) refl
final-ends p late talk b w paused wire verdict.Handshake final a (inr f) = let a' = rw f at a in rw f (ap (option_and_then (outcome_of late)) (got-last p talk b w paused wire _ a'))
final-ends p late talk b w paused wire verdict.Io final a (inl f) = let a' = rw f at a in rw f (ap (option_and_then (outcome_of late)) (got-last p talk b w paused wire _ a'))
final-ends p late talk b w paused wire verdict.Io final a (inr (offered, f)) = let a' = rw f at a in rw f (ap (option_and_then (outcome_of late)) (sent-last p talk b w paused wire offered _ a'))
final-ends p late talk b w paused wire verdict.LineTooLong final a (f, asked) = rw (f, asked) refl
final-ends p late talk b w paused wire verdict.TooManyCommands final a (f, asked) = rw (f, asked) refl

-- the answer of a poll that stopped at this direction
abbrev pub stop_step : Dir → Step
stop_step Read = step.WantRead
stop_step Write = step.WantWrite

-- at a stop it is the NotReady
final-stops : (asked : Ask → Type 0) (wire : ℕ) (dir : Dir) (events final : List Event) → AllMoved events →
    Concludes asked wire (stop_step dir) final → StopsAt wire dir (events ++ final)
final-stops asked wire Read events final m f = record {
  answered = events;
  last = event.Recv wire 1024 recv_answer.NotReady;
  all = moved-answered events m;
  stop = refl;
  whole = ap (λ x. events ++ x) f;
}
final-stops asked wire Write events final m (offered, f) = record {
  answered = events;
  last = event.Send wire offered send_answer.NotReady;
  all = moved-answered events m;
  stop = refl;
  whole = ap (λ x. events ++ x) f;
}

stop-through : (p : Party) (talk : List (List ℕ) → Said) (b w : List ℕ) (paused : Option Dir) (wire : ℕ) (dir : Dir) (final : List Event) →
    AreAsked talk wire b (length w) final → Concludes (λ a. ask talk b (length w) ≡ a) wire (stop_step dir) final → goes_through (Some (at p talk b w paused)) final ≡ Some (at p talk b w (Some dir))
stop-through p talk b w paused wire Read final a f = let a' = rw f at a in rw f (got-last p talk b w paused wire _ a')
stop-through p talk b w paused wire Write final a (offered, f) = let a' = rw f at a in rw f (sent-last p talk b w paused wire offered _ a')

stop-waiting : (p : Party) (talk : List (List ℕ) → Said) (b w : List ℕ) (wire : ℕ) (dir : Dir) (final : List Event) →
    AreAsked talk wire b (length w) final → Concludes (λ a. ask talk b (length w) ≡ a) wire (stop_step dir) final →
    outcome_of false (at p talk b w (Some dir)) ≡ Some (record { ending = ending.Waiting; written = w; leftover = left talk b (length w) })
stop-waiting p talk b w wire Read final a f = let a' = rw f at a in rw (a'.0.0) refl
stop-waiting p talk b w wire Write final a (offered, f) = let a' = rw f at a in rw (a'.0.0) refl

-- ---- a poll

-- the events of any poll, over a history at which the opening stood
pub record Polled (wire : ℕ) (old new : Opening) (events final : List Event) (answer : Step) (talk : List (List ℕ) → Said) (b b' w' : List ℕ) : Type 0 where
  pub stands : StandsIn talk b' new
  pub written : new.written ≡ w'
  pub last : AreAsked talk wire b' (length w') final
  pub concludes : Concludes (λ a. ask talk b' (length w') ≡ a) wire answer final
  pub through : (paused : Option Dir) (p : Party) →
      goes_through (Some (stands_at p talk b old paused)) (events ++ final) ≡ goes_through (Some (at p talk b' w' (paused-after paused events))) final

awake-ending : (v : Verdict) → is_awake (ending_of v) ≡ true
awake-ending (verdict.Authenticated settled) = refl
awake-ending verdict.Handshake = refl
awake-ending verdict.Io = refl
awake-ending verdict.LineTooLong = refl
awake-ending verdict.TooManyCommands = refl

module _ (wire : ℕ) (before after' : Option (List Event)) (old new : Opening) where
  -- the same questions, where a history is known at which they are asked
  polled : (answer : Step) (polls : Polls Opening StandsIn written_of wire old new before after' answer) (talk : List (List ℕ) → Said) (b : List ℕ) → StandsIn talk b old →
      Polled wire old new polls.events polls.final answer talk b (b ++ flat_map bytes_got polls.events) (old.written ++ flat_map bytes_taken polls.events)
  polled answer polls talk b stands =
      let calls : List Event = polls.events ++ polls.final in
      let got : List ℕ = flat_map bytes_got polls.events in
      let taken : List ℕ = flat_map bytes_taken polls.events in
      let asked : AreAsked talk wire b (length old.written) calls = polls.moves.asked talk b stands in
      let first : AreAsked talk wire b (length old.written) polls.events = asked-first talk wire b (length old.written) polls.events polls.final asked in
      let got-so : flat_map bytes_got calls ≡ got =
      flat-append bytes_got polls.events polls.final ∙
      (ap (λ x. got ++ x) (quiet-got (Asks Opening StandsIn written_of new) wire answer polls.final polls.concludes) ∙
      append-nil got) in
      let taken-so : flat_map bytes_taken calls ≡ taken =
      flat-append bytes_taken polls.events polls.final ∙
      (ap (λ x. taken ++ x)
      (quiet-taken (Asks Opening StandsIn written_of new) wire answer polls.final polls.concludes) ∙
      append-nil taken) in
      let writes : new.written ≡ old.written ++ taken = polls.moves.taken ∙ ap (λ x. old.written ++ x) taken-so in
      let stands' : StandsIn talk (b ++ got) new = subst (λ x. StandsIn talk (b ++ x) new) got-so (polls.moves.stays talk b stands) in
      record {
        stands = stands';
        written = writes;
        last = asked-last talk wire b old.written polls.events polls.final asked;
        concludes =
            concludes-map (Asks Opening StandsIn written_of new)
            (λ a. ask talk (b ++ got) (length (old.written ++ taken)) ≡ a)
            wire answer polls.final (λ a h. subst (λ x. ask talk (b ++ got) (length x) ≡ a) writes
            (h talk (b ++ got) stands')) polls.concludes;
        through = λ paused p. goes-append (Some (stands_at p talk b old paused)) polls.events polls.final
            ∙ ap (λ t. goes_through t polls.final) (moved-on p talk b old.written paused wire polls.events polls.moved first);
      }

  poll-calls : (answer : Step) (polls : Polls Opening StandsIn written_of wire old new before after' answer) → CallsOf wire old (polls.events ++ polls.final)
  poll-calls answer polls talk b stands = asked-calls talk wire b (length old.written) (polls.events ++ polls.final) (polls.moves.asked talk b stands)

  leaves-end : (v : Verdict) → Leaves Opening StandsIn written_of rest_of new (step.Done v) →
      (talk : List (List ℕ) → Said) (b : List ℕ) → StandsIn talk b new → new.rest ≡ left talk b (length new.written)
  leaves-end v h = h

  poll-ended : (v : Verdict) (polls : Polls Opening StandsIn written_of wire old new before after' (step.Done v)) → Leaves Opening StandsIn written_of rest_of new (step.Done v) →
      Ends wire before after' old new (ending_of v) (polls.events ++ polls.final)
  poll-ended v polls leaves = record {
    gained = polls.moves.gained;
    own = poll-calls (step.Done v) polls;
    answered = answered-append polls.events polls.final (moved-answered polls.events polls.moved)
        (final-answered (Asks Opening StandsIn written_of new) wire v polls.final polls.concludes);
    awake = awake-ending v;
    ends = λ talk b paused p late stands.
        let at' = polled (step.Done v) polls talk b stands in
        let got : List ℕ = b ++ flat_map bytes_got polls.events in
        let taken : List ℕ = old.written ++ flat_map bytes_taken polls.events in
        let left-so : new.rest ≡ left talk got (length taken) = leaves-end v leaves talk got at'.stands ∙ ap (λ x. left talk got (length x)) at'.written in
        ap (option_and_then (outcome_of late)) (at'.through paused p)
        ∙ (final-ends p late talk got taken (paused-after paused polls.events) wire v polls.final at'.last at'.concludes
        ∙ rw (at'.written, left-so) refl);
  }

  leaves-stop : (dir : Dir) → Leaves Opening StandsIn written_of rest_of new (stop_step dir) →
      (talk : List (List ℕ) → Said) (b : List ℕ) → StandsIn talk b new → new.rest ≡ left talk b (length new.written)
  leaves-stop Read h = h
  leaves-stop Write h = h

  poll-stopped : (dir : Dir) (polls : Polls Opening StandsIn written_of wire old new before after' (stop_step dir)) → Leaves Opening StandsIn written_of rest_of new (stop_step dir) →
      new.ended ≡ false → Stops wire before after' old new dir (polls.events ++ polls.final)
  poll-stopped dir polls leaves unended = record {
    gained = polls.moves.gained;
    own = poll-calls (stop_step dir) polls;
    stops = final-stops (Asks Opening StandsIn written_of new) wire dir polls.events polls.final polls.moved polls.concludes;
    unended = unended;
    pauses = λ talk b stands.
        let at' = polled (stop_step dir) polls talk b stands in
        let got : List ℕ = b ++ flat_map bytes_got polls.events in
        let taken : List ℕ = old.written ++ flat_map bytes_taken polls.events in
        let left-so : new.rest ≡ left talk got (length taken) = leaves-stop dir leaves talk got at'.stands ∙ ap (λ x. left talk got (length x)) at'.written in
        let stood : (p : Party) → at p talk got taken (Some dir) ≡ stands_at p talk got new (Some dir) = λ p. ap (λ w. at p talk got w (Some dir)) (sym at'.written) in (
          got,
          record {
            stands = at'.stands;
            dir = dir;
            through = λ paused p. at'.through paused p
                ∙ (stop-through p talk got taken (paused-after paused polls.events) wire dir polls.final at'.last at'.concludes
                ∙ ap Some (stood p));
            waiting = λ p. ap (outcome_of false) (sym (stood p)) ∙ (stop-waiting p talk got taken wire dir polls.final at'.last at'.concludes ∙ rw (at'.written, left-so) refl);
          },
          refl,
        );
  }

  -- ---- what a poll's answer is for the session

  pub converses-over : (v : Verdict) (e : Ending) → Polls Opening StandsIn written_of wire old new before after' (step.Done v) →
      Leaves Opening StandsIn written_of rest_of new (step.Done v) → e ≡ ending_of v →
      ConversesTo wire before after' old new (conversed.Over e)
  converses-over v e polls leaves is =
      subst (λ x. ConversesTo wire before after' old new (conversed.Over x)) (sym is)
      (polls.events ++ polls.final, poll-ended v polls leaves)

  pub converses-paused : (dir : Dir) → Polls Opening StandsIn written_of wire old new before after' (stop_step dir) →
      Leaves Opening StandsIn written_of rest_of new (stop_step dir) → new.ended ≡ false →
      ConversesTo wire before after' old new (conversed.Paused dir)
  converses-paused dir polls leaves unended = (polls.events ++ polls.final, poll-stopped dir polls leaves unended)

  pub converses-interrupted : Polls Opening StandsIn written_of wire old new before after' step.OutOfMemory →
      new.ended ≡ false → IsInterrupted wire before after' old new
  converses-interrupted polls unended = (
    polls.events ++ polls.final,
    record {
      gained = polls.moves.gained;
      own = poll-calls step.OutOfMemory polls;
      answered = answered-append polls.events polls.final (moved-answered polls.events polls.moved)
          (subst AllAnswered (sym polls.concludes) (tt {0}));
      unended = unended;
      stands = λ talk b stands. (b ++ flat_map bytes_got (polls.events ++ polls.final), polls.moves.stays talk b stands);
    },
  )

verdict-counted : (v : Verdict) (a b : ℕ) → IoCounted (step.Done v) a b →
    ConversedCounted (Ok (conversed.Over (ending_of v))) a b
verdict-counted (verdict.Authenticated settled) a b counted = counted
verdict-counted verdict.Handshake a b counted = counted
verdict-counted verdict.Io a b counted = counted
verdict-counted verdict.LineTooLong a b counted = counted
verdict-counted verdict.TooManyCommands a b counted = counted

pub over-counted : (v : Verdict) (e : Ending) (a b : ℕ) → e ≡ ending_of v → IoCounted (step.Done v) a b →
    ConversedCounted (Ok (conversed.Over e)) a b
over-counted v e a b is counted =
    subst (λ x. ConversedCounted (Ok (conversed.Over x)) a b) (sym is) (verdict-counted v a b counted)
