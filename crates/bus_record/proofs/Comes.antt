-- Each session of a settled record comes to something.
use Rattle.std.proofs.Common.{◌≡◌, ℕ, ◌+◌, Bool, true, false, not, ◌&&◌, ◌||◌, ◌==◌, ◌⊎◌, inl, inr, if◌then◌else◌, List}
use Rattle.std.proofs.Common.{[], ◌∷◌, ◌++◌, Option, Some, None, refl, sym, ◌∙◌, ap, subst, zero, suc, arith}
use Rattle.std.proofs.lemmas.Bool.{and_parts, eqb-true}
use Rattle.std.specs.Prelude.{slice_get, is_none, is_some}
use Rattle.std.specs.Str.{bytes_eq}
use Rattle.react_core.specs.declared.outside.Question.{Question}
use Rattle.react_core.specs.declared.outside.DialAnswer.{DialAnswer}
use Rattle.std.specs.Option.{option_and_then}
use Rattle.std.specs.List.{list_all}
use Rattle.react_core.specs.declared.outside.Event.{Event}
use Rattle.react_core.specs.declared.outside.Event.TheVariants as event
use Rattle.react_core.specs.declared.outside.RecvAnswer.TheVariants as recv_answer
use Rattle.react_core.specs.declared.outside.SendAnswer.TheVariants as send_answer
use Rattle.react_core.specs.declared.reactor.Dir.{Dir}
use Rattle.react_core.specs.declared.reactor.Dir.TheVariants.{Read, Write}
use Rattle.bus_opening.specs.Talk.{Said, Ask, send, recv, opens, handshake, too_many_commands, line_too_long}
use Rattle.bus_session.specs.declared.session.Session.{Session}
use Rattle.bus_session.specs.declared.ended.Ending.TheVariants as ending
use Rattle.bus_session.specs.declared.session.Party.{Party}
use Rattle.bus_session.specs.Parts.{is_of, part}
use Rattle.bus_record.specs.Pieces.{Round, visit, round, Pieces, nothing, ◌▸◌, events_of, told}
use Rattle.bus_session.specs.Outcomes.{Outcome, is_ended, is_waiting}
use Rattle.bus_session.specs.Alone.{Progress, dials, converses, over, Talked, asked_next, concluded, Course, course}
use Rattle.bus_session.specs.Alone.{first_course, after, after_in, after_asked, goes_through, rests, outcome_in}
use Rattle.bus_session.specs.Alone.{outcome_of, has_reached}
use Rattle.react_core.specs.declared.outside.Report.{Report}
use Rattle.bus_record.specs.Pieces.{reading_told}
use Rattle.react_core.specs.Round.{reports_of}
use Rattle.bus_record.specs.Places.{key_of, holder, waits, named, stop_of, last_stop, last_stop_by, last_reading}
use Rattle.bus_record.specs.Places.{paused, moment, is_before, is_early, stays_armed, sleeps, sleeps_in, has_ended}
use Rattle.bus_record.specs.Settled.{Run, Numbered, numbered, rearming, rearming_of, arming_of, comes_to}
use Rattle.bus_record.specs.Laws.{EachComesToSomething}
use Rattle.bus_record.proofs.RunLemmas.{was_visited, was_turned}
use Rattle.bus_record.specs.Visits.{Here, here, here_by, starts, starts_at, was_visited as visited_before, Stage}
use Rattle.bus_record.specs.Visits.{dialling, registering, conversing, arming, reading, notifying, leaving, finished}
use Rattle.bus_record.specs.Visits.{next, goes_on, asked, after_call, after_dial, after_dial_to, after_reading}
use Rattle.bus_record.specs.Visits.{then_reads, limit, ended_so, is_bool, is_armed_with, Visit}
use Rattle.bus_record.proofs.Unique.{none-not-some}
use Rattle.bus_record.proofs.Waiting.{stepped, mapped, guarded, some-inj, nowhere, false-not-true}

-- ---- a NotReady leaves the session waiting

-- the session would wait
record Pausing (c : Course) : Type 0 where
  outcome : Outcome
  comes : outcome_in false c.progress ≡ Some outcome
  waiting : is_waiting outcome.ending ≡ true

some-if : {A : Type 0} (b : Bool) (a c : A) → (if b then Some a else None) ≡ Some c → a ≡ c
some-if b a c e = (guarded b a c e).1

-- with this reading at NotReady it waits
waits_so : (c : Course) (talk : List (List ℕ) → Said) (t : Talked) (a : Ask) (x : Dir) → asked_next talk t ≡ a →
    rests false talk (record t { paused = Some x }) a
    ≡ Some (concluded talk (record t { paused = Some x }) ending.Waiting) →
    Pausing (record c { progress = converses talk (record t { paused = Some x }) })
waits_so c talk t a x is r = record {
  outcome = concluded talk (record t { paused = Some x }) ending.Waiting;
  comes = ap (rests false talk (record t { paused = Some x })) is ∙ r;
  waiting = refl;
}

-- after NotReady in a conversation that asks this
paused_go : (c : Course) (talk : List (List ℕ) → Said) (t : Talked) (a : Ask) (e : Event) (x : Dir) (p : Progress) →
    asked_next talk t ≡ a → stop_of e ≡ Some x →
    after_asked talk t a e ≡ Some p → Pausing (record c { progress = p })
paused_go c talk t recv (event.Recv w n recv_answer.NotReady) x p is stop g =
    subst (λ z. Pausing (record c { progress = z }))
    (some-if (n == 1024) (converses talk (record t { paused = Some Read })) p g) (waits_so c talk t recv Read is refl)
paused_go c talk t recv (event.Recv w n (recv_answer.Got bytes)) x p is stop g = absurd (none-not-some x stop)
paused_go c talk t recv (event.Recv w n recv_answer.End) x p is stop g = absurd (none-not-some x stop)
paused_go c talk t recv (event.Recv w n recv_answer.Failed) x p is stop g = absurd (none-not-some x stop)
paused_go c talk t recv _ x p is stop g = absurd (none-not-some p g)
paused_go c talk t (send piece) (event.Send w bytes send_answer.NotReady) x p is stop g =
    subst (λ z. Pausing (record c { progress = z }))
    (some-if (bytes_eq bytes piece) (converses talk (record t { paused = Some Write })) p g)
    (waits_so c talk t (send piece) Write is refl)
paused_go c talk t (send piece) (event.Send w bytes (send_answer.Took n)) x p is stop g = absurd (none-not-some x stop)
paused_go c talk t (send piece) (event.Send w bytes send_answer.Failed) x p is stop g = absurd (none-not-some x stop)
paused_go c talk t (send piece) _ x p is stop g = absurd (none-not-some p g)
paused_go c talk t (opens guid flag) e x p is stop g = absurd (none-not-some p g)
paused_go c talk t handshake e x p is stop g = absurd (none-not-some p g)
paused_go c talk t too_many_commands e x p is stop g = absurd (none-not-some p g)
paused_go c talk t line_too_long e x p is stop g = absurd (none-not-some p g)

paused_in : (c : Course) (now : Progress) (e : Event) (x : Dir) (p : Progress) → stop_of e ≡ Some x →
    after_in c.party now e ≡ Some p → Pausing (record c { progress = p })
paused_in c (converses talk t) e x p stop g = paused_go c talk t (asked_next talk t) e x p refl stop g
paused_in c (dials d) (event.Dial w question answer) x p stop g = absurd (none-not-some x stop)
paused_in c (dials d) _ x p stop g = absurd (none-not-some p g)
paused_in c (over o) e x p stop g = absurd (none-not-some p g)

pausing : (c : Course) (e : Event) (x : Dir) (c' : Course) → stop_of e ≡ Some x → after c e ≡ Some c' → Pausing c'
pausing c e x c' stop g =
    let m = mapped (λ p. record c { progress = p }) (after_in c.party c.progress e) c' g in
    subst Pausing m.2 (paused_in c c.progress e x m.0 stop m.1)

-- a Dial comes where the session dials, and does not wait
dials_not : (p : Party) (now : Progress) (w : ℕ) (question : Question) (answer : DialAnswer) (p' : Progress) →
    after_in p now (event.Dial w question answer) ≡ Some p' → outcome_in false now ≡ None
dials_not p (dials d) w question answer p' g = refl
dials_not p (converses talk t) w question answer p' g = no_dial talk t (asked_next talk t) w question answer p' g
  where
    no_dial : (talk : List (List ℕ) → Said) (t : Talked) (a : Ask) (w : ℕ) (question : Question) (answer : DialAnswer)
        (p' : Progress) → after_asked talk t a (event.Dial w question answer) ≡ Some p' →
        outcome_in false (converses talk t) ≡ None
    no_dial talk t recv w question answer p' g = absurd (none-not-some p' g)
    no_dial talk t (send piece) w question answer p' g = absurd (none-not-some p' g)
    no_dial talk t (opens guid flag) w question answer p' g = absurd (none-not-some p' g)
    no_dial talk t handshake w question answer p' g = absurd (none-not-some p' g)
    no_dial talk t too_many_commands w question answer p' g = absurd (none-not-some p' g)
    no_dial talk t line_too_long w question answer p' g = absurd (none-not-some p' g)
dials_not p (over o) w question answer p' g = absurd (none-not-some p' g)

not_waiting : (c : Course) (w : ℕ) (question : Question) (answer : DialAnswer) (c' : Course) →
    after c (event.Dial w question answer) ≡ Some c' → Pausing c → ⊥
not_waiting c w question answer c' g p =
    let m = mapped (λ z. record c { progress = z }) (after_in c.party c.progress (event.Dial w question answer)) c' g in
    none-not-some p.outcome (sym (dials_not c.party c.progress w question answer m.0 m.1) ∙ p.comes)

-- ---- a visit moves the session by its own events

-- the stage is that of this course, where it has one
abbrev Carries : Stage → Course → Type 0
Carries (dialling d) c = d ≡ c
Carries (registering d) c = d ≡ c
Carries (conversing key d) c = d ≡ c
Carries (arming key d x) c = d ≡ c
Carries (reading key d) c = d ≡ c
Carries notifying c = Unit {0}
Carries (leaving key d) c = d ≡ c
Carries finished c = Unit {0}

carries-dial : (c : Course) (p : Progress) → Carries (after_dial_to c p) c
carries-dial c (dials d) = refl
carries-dial c (converses talk t) = refl
carries-dial c (over o) = tt {0}

carries-call : (s : Session) (h : Here) (key : ℕ) (so : Option Dir) (c : Course) → Carries (after_call s h key so c) c
carries-call s h key None c = ends (is_ended (outcome_in false c.progress))
  where
    ends : (b : Bool) → Carries (if b then leaving key c else conversing key c) c
    ends true = refl
    ends false = refl
carries-call s h key (Some x) c = stops (h.was_reported x) (h.is_waiting x) (is_none (limit s h c))
  where
    stops : (rep wait none : Bool) →
        Carries (if rep then conversing key c else if wait then (if none then finished else reading key c)
        else arming key c x) c
    stops true wait none = refl
    stops false true true = tt {0}
    stops false true false = refl
    stops false false none = refl

carries-reads : (none : Bool) (key : ℕ) (c : Course) → Carries (if none then finished else reading key c) c
carries-reads true key c = tt {0}
carries-reads false key c = refl

carries-reading : (late was : Bool) (key : ℕ) (c : Course) →
    Carries (if late then leaving key c else if was then finished else notifying) c
carries-reading true was key c = refl
carries-reading false true key c = tt {0}
carries-reading false false key c = tt {0}

-- the session so far would wait where this is the direction that paused it
abbrev Waits : Option Dir → Course → Type 0
Waits last c = (x : Dir) → last ≡ Some x → Pausing c

-- one event of a visit: the session moves by it, or it is no event of its own
record Moves (wire : ℕ) (c : Course) (e : Event) (last : Option Dir) (to : Stage) : Type 0 where
  course : Course
  through : (events : List Event) →
      goes_through (Some c) (part wire (e ∷ events)) ≡ goes_through (Some course) (part wire events)
  carries : Carries to course
  waits : Waits (last_stop_by last e) course

own_through : (wire : ℕ) (c c' : Course) (e : Event) → is_of wire e ≡ true → after c e ≡ Some c' →
    (events : List Event) →
    goes_through (Some c) (part wire (e ∷ events)) ≡ goes_through (Some c') (part wire events)
own_through wire c c' e own g events =
    ap (λ b. goes_through (Some c) (if b then e ∷ part wire events else part wire events)) own
    ∙ ap (λ z. goes_through z (part wire events)) g

asked-own : (own : Bool) (c : Course) (e : Event) (c' : Course) → asked own c e ≡ Some c' →
    (own ≡ true) × (after c e ≡ Some c')
asked-own true c e c' g = (refl, g)
asked-own false c e c' g = absurd (none-not-some c' g)

-- an event that is none of the session's own
stays_so : (wire : ℕ) (c : Course) (e : Event) (last : Option Dir) (to : Stage) → is_of wire e ≡ false →
    last_stop_by last e ≡ last → Carries to c → Waits last c → Moves wire c e last to
stays_so wire c e last to none same carries waits = record {
  course = c;
  through = λ events. ap (λ b. goes_through (Some c) (if b then e ∷ part wire events else part wire events)) none;
  carries = carries;
  waits = λ x is. waits x (sym same ∙ is);
}

moves : (s : Session) (wire : ℕ) (h : Here) (stage to : Stage) (c : Course) (e : Event) (last : Option Dir) →
    Carries stage c → Waits last c → next s wire h stage e ≡ Some to →
    Moves wire c e last to
moves s wire h (dialling d) to c (event.Dial w question answer) last carries waits g =
    let e : Event = event.Dial w question answer in
    let m = mapped after_dial (asked (w == wire) d e) to g in
    let own = asked-own (w == wire) d e m.0 m.1 in
    let moved : after c e ≡ Some m.0 = subst (λ z. after z e ≡ Some m.0) carries own.1 in
    record {
      course = m.0;
      through = own_through wire c m.0 e own.0 moved;
      carries = subst (λ z. Carries z m.0) m.2 (carries-dial m.0 m.0.progress);
      waits = λ x is. absurd (not_waiting c w question answer m.0 moved (waits x is));
    }
moves s wire h (dialling d) to c _ last carries waits g = absurd (none-not-some to g)
moves s wire h (registering d) to c (event.Add w key true) last carries waits g =
    stays_so wire c (event.Add w key true) last to refl refl
    (subst (λ z. Carries z c) (guarded ((w == wire) && is_none (h.holder_of key)) (conversing key d) to g).1 carries)
    waits
moves s wire h (registering d) to c _ last carries waits g = absurd (none-not-some to g)
moves s wire h (conversing key d) to c (event.Recv w n answer) last carries waits g =
    let e : Event = event.Recv w n answer in
    let m = mapped (after_call s h key (stop_of e)) (asked (w == wire) d e) to g in
    let own = asked-own (w == wire) d e m.0 m.1 in
    let moved : after c e ≡ Some m.0 = subst (λ z. after z e ≡ Some m.0) carries own.1 in
    record {
      course = m.0;
      through = own_through wire c m.0 e own.0 moved;
      carries = subst (λ z. Carries z m.0) m.2 (carries-call s h key (stop_of e) m.0);
      waits = λ x is. pausing c e x m.0 is moved;
    }
moves s wire h (conversing key d) to c (event.Send w bytes answer) last carries waits g =
    let e : Event = event.Send w bytes answer in
    let m = mapped (after_call s h key (stop_of e)) (asked (w == wire) d e) to g in
    let own = asked-own (w == wire) d e m.0 m.1 in
    let moved : after c e ≡ Some m.0 = subst (λ z. after z e ≡ Some m.0) carries own.1 in
    record {
      course = m.0;
      through = own_through wire c m.0 e own.0 moved;
      carries = subst (λ z. Carries z m.0) m.2 (carries-call s h key (stop_of e) m.0);
      waits = λ x is. pausing c e x m.0 is moved;
    }
moves s wire h (conversing key d) to c _ last carries waits g = absurd (none-not-some to g)
moves s wire h (arming key d x) to c (event.Modify w k read write true) last carries waits g =
    let cond : Bool =
    (w == wire) && ((k == key) && (is_bool read (is_armed_with h x Read) && is_bool write (is_armed_with h x Write))) in
    stays_so wire c (event.Modify w k read write true) last to refl refl
    (subst (λ z. Carries z c) (guarded cond (then_reads s h key d) to g).1
    (subst (Carries (then_reads s h key d)) carries (carries-reads (is_none (limit s h d)) key d))) waits
moves s wire h (arming key d x) to c _ last carries waits g = absurd (none-not-some to g)
moves s wire h (reading key d) to c (event.Now moment) last carries waits g =
    stays_so wire c (event.Now moment) last to refl refl
    (subst (λ z. Carries z c) (some-inj (after_reading s h key d moment) to g)
    (subst (Carries (after_reading s h key d moment)) carries
    (carries-reading (has_reached (limit s h d) (Some moment)) h.was_notified key d))) waits
moves s wire h (reading key d) to c _ last carries waits g = absurd (none-not-some to g)
moves s wire h notifying to c (event.Notify true) last carries waits g =
    stays_so wire c (event.Notify true) last to refl refl (subst (λ z. Carries z c) (some-inj finished to g) (tt {0}))
    waits
moves s wire h notifying to c _ last carries waits g = absurd (none-not-some to g)
moves s wire h (leaving key d) to c (event.Delete w k true) last carries waits g =
    stays_so wire c (event.Delete w k true) last to refl refl
    (subst (λ z. Carries z c) (guarded ((w == wire) && (k == key)) (ended_so d) to g).1 (tt {0})) waits
moves s wire h (leaving key d) to c _ last carries waits g = absurd (none-not-some to g)
moves s wire h finished to c e last carries waits g = absurd (none-not-some to g)

-- a whole visit
record Came (wire : ℕ) (c : Course) (events : List Event) (last : Option Dir) : Type 0 where
  course : Course
  through : goes_through (Some c) (part wire events) ≡ Some course
  waits : Waits (last_stop last events) course

came : (s : Session) (wire : ℕ) (h : Here) (stage : Stage) (c : Course) (events : List Event) (last : Option Dir) →
    Carries stage c → Waits last c →
    goes_on s wire h (Some stage) events ≡ Some finished → Came wire c events last
came s wire h stage c [] last carries waits g = record { course = c; through = refl; waits = waits }
came s wire h stage c (e ∷ events) last carries waits g =
    let step = stepped s wire h stage e events g in
    let m = moves s wire h stage step.after c e last carries waits step.by in
    let later =
    came s wire (here_by h e) step.after m.course events (last_stop_by last e) m.carries m.waits step.rest in
    record { course = later.course; through = m.through events ∙ later.through; waits = later.waits }

-- ---- what is another's

-- a visit's event is none of another wire's
other-event : (s : Session) (u wire : ℕ) (h : Here) (stage to : Stage) (e : Event) → (u == wire) ≡ false →
    next s u h stage e ≡ Some to → is_of wire e ≡ false
other-event s u wire h (dialling d) to (event.Dial w question answer) other g =
    let m = mapped after_dial (asked (w == u) d (event.Dial w question answer)) to g in
    ap (λ z. z == wire) (eqb-true w u (asked-own (w == u) d (event.Dial w question answer) m.0 m.1).0) ∙ other
other-event s u wire h (dialling d) to _ other g = absurd (none-not-some to g)
other-event s u wire h (conversing key d) to (event.Recv w n answer) other g =
    let e : Event = event.Recv w n answer in
    let m = mapped (after_call s h key (stop_of e)) (asked (w == u) d e) to g in
    ap (λ z. z == wire) (eqb-true w u (asked-own (w == u) d e m.0 m.1).0) ∙ other
other-event s u wire h (conversing key d) to (event.Send w bytes answer) other g =
    let e : Event = event.Send w bytes answer in
    let m = mapped (after_call s h key (stop_of e)) (asked (w == u) d e) to g in
    ap (λ z. z == wire) (eqb-true w u (asked-own (w == u) d e m.0 m.1).0) ∙ other
other-event s u wire h (conversing key d) to _ other g = absurd (none-not-some to g)
other-event s u wire h (registering d) to (event.Add w key ok) other g = refl
other-event s u wire h (registering d) to _ other g = absurd (none-not-some to g)
other-event s u wire h (arming key d x) to (event.Modify w k read write ok) other g = refl
other-event s u wire h (arming key d x) to _ other g = absurd (none-not-some to g)
other-event s u wire h (reading key d) to (event.Now moment) other g = refl
other-event s u wire h (reading key d) to _ other g = absurd (none-not-some to g)
other-event s u wire h notifying to (event.Notify ok) other g = refl
other-event s u wire h notifying to _ other g = absurd (none-not-some to g)
other-event s u wire h (leaving key d) to (event.Delete w k ok) other g = refl
other-event s u wire h (leaving key d) to _ other g = absurd (none-not-some to g)
other-event s u wire h finished to e other g = absurd (none-not-some to g)

skips : (wire : ℕ) (e : Event) (events : List Event) → is_of wire e ≡ false → part wire events ≡ [] →
    part wire (e ∷ events) ≡ []
skips wire e events none rest = ap (λ b. if b then e ∷ part wire events else part wire events) none ∙ rest

other-part : (s : Session) (u wire : ℕ) (h : Here) (stage : Option Stage) (events : List Event) → (u == wire) ≡ false →
    goes_on s u h stage events ≡ Some finished → part wire events ≡ []
other-part s u wire h stage [] other g = refl
other-part s u wire h None (e ∷ events) other g = absurd (nowhere s u (here_by h e) events g)
other-part s u wire h (Some stage) (e ∷ events) other g =
    let step = stepped s u h stage e events g in
    skips wire e events (other-event s u wire h stage step.after e other step.by)
    (other-part s u wire (here_by h e) (Some step.after) events other step.rest)

pub part-append : (wire : ℕ) (xs ys : List Event) → part wire (xs ++ ys) ≡ part wire xs ++ part wire ys
part-append wire [] ys = refl
part-append wire (e ∷ xs) ys = kept (is_of wire e) (part-append wire xs ys)
  where
    kept : (b : Bool) → part wire (xs ++ ys) ≡ part wire xs ++ part wire ys →
        (if b then e ∷ part wire (xs ++ ys) else part wire (xs ++ ys)) ≡ (if b then e ∷ part wire xs else part wire xs)
        ++ part wire ys
    kept true ih = ap (λ z. e ∷ z) ih
    kept false ih = ih

arming-part : (wire w key : ℕ) (read write : Bool) → part wire (arming_of w key read write) ≡ []
arming-part wire w key true true = refl
arming-part wire w key true false = refl
arming-part wire w key false true = refl
arming-part wire w key false false = refl

rearming_of-part : (wire : ℕ) (past : Pieces) (seen : List Report) (key : ℕ) (h : Option ℕ) →
    part wire (rearming_of past seen key h) ≡ []
rearming_of-part wire past seen key None = refl
rearming_of-part wire past seen key (Some w) =
    arming-part wire w key (waits Read w past && not (named Read key seen)) (waits Write w past
    && not (named Write key seen))

rearming-part : (wire : ℕ) (past : Pieces) (seen reported : List Report) → part wire (rearming past seen reported) ≡ []
rearming-part wire past seen [] = refl
rearming-part wire past seen (t ∷ reported) =
    part-append wire (rearming_of past (t ∷ seen) t.key (holder t.key past)) (rearming past (t ∷ seen) reported)
    ∙ rw (
      rearming_of-part wire past (t ∷ seen) t.key (holder t.key past),
      rearming-part wire past (t ∷ seen) reported,
    ) refl

reading-part : (wire : ℕ) (second : Option ℕ) → part wire (reading_told second) ≡ []
reading-part wire None = refl
reading-part wire (Some t) = refl

round-part : {sessions : List Session} {n : ℕ} (wire : ℕ) (past : Pieces) (r : Round) {wires : List ℕ} →
    Run sessions n (past ▸ round r) wires → part wire (events_of (round r)) ≡ []
round-part wire past r run =
    part-append wire (reading_told r.second) r.rearmed
    ∙ rw (
      reading-part wire r.second,
      ap (part wire) (was_turned run).is_round.rearmed
          ∙ rearming-part wire past [] (reports_of r.answer),
    ) refl

-- ---- over all pieces

goes-append : (c : Option Course) (xs ys : List Event) → goes_through c (xs ++ ys) ≡ goes_through (goes_through c xs) ys
goes-append c [] ys = refl
goes-append c (e ∷ xs) ys = goes-append (option_and_then (λ reached. after reached e) c) xs ys

course-append : (s : Session) (wire : ℕ) (xs ys : List Event) →
    course s (part wire (xs ++ ys)) ≡ goes_through (course s (part wire xs)) (part wire ys)
unfolding course
course-append s wire xs ys =
    ap (goes_through (Some (first_course s))) (part-append wire xs ys)
    ∙ goes-append (Some (first_course s)) (part wire xs) (part wire ys)

course-same : (s : Session) (wire : ℕ) (xs ys : List Event) → part wire ys ≡ [] →
    course s (part wire (xs ++ ys)) ≡ course s (part wire xs)
course-same s wire xs ys none = course-append s wire xs ys ∙ ap (goes_through (course s (part wire xs))) none

-- the session stands in a conversation that waits
record Slept (s : Session) (wire : ℕ) (pieces : Pieces) : Type 0 where
  course_so : Course
  comes : course s (part wire (told pieces)) ≡ Some course_so
  pauses : Pausing course_so

visit_came : (s : Session) (wire : ℕ) (h : Here) (c : Course) (was : Bool) (key : Option ℕ) (events : List Event)
    (last : Option Dir) → Waits last c →
    goes_on s wire h (starts_at was key c) events ≡ Some finished → Came wire c events last
visit_came s wire h c false key events last waits g =
    came s wire h (after_dial c) c events last (carries-dial c c.progress) waits g
visit_came s wire h c true None events last waits g = absurd (nowhere s wire h events g)
visit_came s wire h c true (Some key) events last waits g = came s wire h (conversing key c) c events last refl waits g

own_slept : (s : Session) (wire : ℕ) (past : Pieces) (events : List Event) (x : Dir) (c : Option Course) →
    course s (part wire (told past)) ≡ c →
    ((y : Dir) → paused wire past ≡ Some y → Slept s wire past) →
    goes_on s wire (here wire past) (option_and_then (starts_at (visited_before wire past) (key_of wire past)) c) events
    ≡ Some finished →
    last_stop (paused wire past) events ≡ Some x →
    (d : Course) × (course s (part wire (told past ++ events)) ≡ Some d) × Pausing d
own_slept s wire past events x None is ih g stop = absurd (nowhere s wire (here wire past) events g)
own_slept s wire past events x (Some c) is ih g stop =
    let before : Waits (paused wire past) c = λ y at. let slept = ih y at in
    subst Pausing (some-inj slept.course_so c (sym slept.comes ∙ is)) slept.pauses in
    let visit =
    visit_came s wire (here wire past) c (visited_before wire past) (key_of wire past) events (paused wire past)
    before g in (
      visit.course,
      course-append s wire (told past) events
          ∙ (ap (λ z. goes_through z (part wire events)) is ∙ visit.through),
      visit.waits x stop,
    )

slept_visit : {sessions : List Session} {n : ℕ} (s : Session) (wire u : ℕ) (past : Pieces) (events : List Event)
    {wires : List ℕ} (x : Dir) (b : Bool) → (u == wire) ≡ b →
    Run sessions n (past ▸ visit u events) wires → slice_get sessions wire ≡ Some s →
    ((y : Dir) → paused wire past ≡ Some y → Slept s wire past) →
    (if b then last_stop (paused wire past) events else paused wire past) ≡ Some x →
    Slept s wire (past ▸ visit u events)
slept_visit {sessions} s wire u past events x true own run at ih stop =
    let v = was_visited run in
    let same : u ≡ wire = eqb-true u wire own in
    let session : v.session ≡ s = some-inj v.session s (sym v.is_there ∙ (ap (slice_get sessions) same ∙ at)) in
    let g : Visit s wire past events =
    subst (λ z. Visit z wire past events) session (subst (λ z. Visit v.session z past events) same v.visits) in
    let r = own_slept s wire past events x (course s (part wire (told past))) refl ih g stop in
    record { course_so = r.0; comes = r.1; pauses = r.2 }
slept_visit s wire u past events x false other run at ih stop =
    let v = was_visited run in
    let before = ih x stop in
    record {
      course_so = before.course_so;
      comes = course-same s wire (told past) events
          (other-part v.session u wire (here u past) (starts v.session u past) events other v.visits) ∙ before.comes;
      pauses = before.pauses;
    }

slept : {sessions : List Session} {n : ℕ} (s : Session) (wire : ℕ) (pieces : Pieces) {wires : List ℕ} (x : Dir) →
    Run sessions n pieces wires → slice_get sessions wire ≡ Some s →
    paused wire pieces ≡ Some x → Slept s wire pieces
slept s wire nothing x run at stop = absurd (none-not-some x stop)
slept s wire (past ▸ visit u events) x run at stop =
    slept_visit s wire u past events x (u == wire) refl run at
    (λ y before. slept s wire past y (was_visited run).run at before) stop
slept s wire (past ▸ round r) x run at stop =
    let before = slept s wire past x (was_turned run).run at stop in
    record {
      course_so = before.course_so;
      comes = course-same s wire (told past) (events_of (round r)) (round-part wire past r run) ∙ before.comes;
      pauses = before.pauses;
    }

-- ---- the last reading of a sleeper

not-true : (b : Bool) → not b ≡ true → b ≡ false
not-true true e = absurd (false-not-true e)
not-true false e = refl

unread : (deadline : Option ℕ) → has_reached deadline None ≡ false
unread None = refl
unread (Some d) = refl

early_visit : (deadline : Option ℕ) (own : Bool) (here_at before : Option ℕ) (early : Bool) →
    (early ≡ true → has_reached deadline before ≡ false) →
    (if own then is_before deadline here_at else early) ≡ true →
    has_reached deadline (if own then here_at else before) ≡ false
early_visit deadline true here_at before early ih h = not-true (has_reached deadline here_at) h
early_visit deadline false here_at before early ih h = ih h

early-moment : (deadline : Option ℕ) (wire : ℕ) (pieces : Pieces) → is_early deadline wire pieces ≡ true →
    has_reached deadline (moment wire pieces) ≡ false
early-moment deadline wire nothing h = unread deadline
early-moment deadline wire (past ▸ visit u events) h =
    early_visit deadline (u == wire) (last_reading None events) (moment wire past) (is_early deadline wire past)
    (early-moment deadline wire past) h
early-moment deadline wire (past ▸ round r) h =
    early-moment deadline wire past
    (and_parts (is_before deadline r.second) (is_early deadline wire past)
    (and_parts (is_before deadline (Some r.first)) (is_before deadline r.second && is_early deadline wire past) h).1).1

-- ---- what each comes to

-- what a settled record says of one session
abbrev Comes : Session → ℕ → Pieces → Type 0
Comes s wire pieces =
    (o : Outcome) × (comes_to s wire pieces ≡ Some o)
    × ((is_waiting o.ending ≡ false) ⊎ ((is_waiting o.ending ≡ true) × (sleeps s wire pieces ≡ true)))

ended-comes : (s : Session) (wire : ℕ) (pieces : Pieces) (o : Option Outcome) → comes_to s wire pieces ≡ o →
    is_ended o ≡ true → Comes s wire pieces
ended-comes s wire pieces None is h = absurd (false-not-true h)
ended-comes s wire pieces (Some o) is h = (o, is, inl (not-true (is_waiting o.ending) h))

asleep-comes : {sessions : List Session} {n : ℕ} (s : Session) (wire : ℕ) (pieces : Pieces) {wires : List ℕ}
    (stop : Option Dir) → Run sessions n pieces wires → slice_get sessions wire ≡ Some s →
    paused wire pieces ≡ stop → sleeps_in s wire pieces stop ≡ true → sleeps s wire pieces ≡ true → Comes s wire pieces
asleep-comes s wire pieces None run at stop h asleep = absurd (false-not-true h)
asleep-comes s wire pieces (Some x) run at stop h asleep =
    let one =
    (and_parts (waits x wire pieces) (stays_armed x wire pieces
    && (is_some (key_of wire pieces) && is_early s.deadline wire pieces)) h).1 in
    let two =
    (and_parts (stays_armed x wire pieces) (is_some (key_of wire pieces) && is_early s.deadline wire pieces) one).1 in
    let early = (and_parts (is_some (key_of wire pieces)) (is_early s.deadline wire pieces) two).1 in
    let r = slept s wire pieces x run at stop in (
      r.pauses.outcome,
      ap (λ b. option_and_then (outcome_of b) (course s (part wire (told pieces))))
          (early-moment s.deadline wire pieces early)
          ∙ (ap (option_and_then (outcome_of false)) r.comes ∙ r.pauses.comes),
      inr (r.pauses.waiting, asleep),
    )

either-comes : {sessions : List Session} {n : ℕ} (s : Session) (wire : ℕ) (pieces : Pieces) {wires : List ℕ}
    (ended : Bool) → Run sessions n pieces wires → slice_get sessions wire ≡ Some s →
    has_ended s wire pieces ≡ ended → (ended || sleeps s wire pieces) ≡ true → Comes s wire pieces
either-comes s wire pieces true run at is h = ended-comes s wire pieces (comes_to s wire pieces) refl is
either-comes s wire pieces false run at is h = asleep-comes s wire pieces (paused wire pieces) run at refl h h

-- what holds of all numbered sessions holds of each
each-at : (f : Numbered → Bool) (low : ℕ) (sessions : List Session) (n : ℕ) (s : Session) →
    list_all f (numbered low sessions) ≡ true → slice_get sessions n ≡ Some s →
    f (record { wire = low + n; session = s }) ≡ true
each-at f low [] n s h at = absurd (none-not-some s at)
each-at f low (z ∷ sessions) zero s h at =
    let both = and_parts (f (record { wire = low; session = z })) (list_all f (numbered (low + 1) sessions)) h in
    let index : low + 0 ≡ low = omega arith in
    subst (λ w. f (record { wire = w; session = s }) ≡ true) (sym index)
    (subst (λ q. f (record { wire = low; session = q }) ≡ true) (some-inj z s at) both.0)
each-at f low (z ∷ sessions) (suc n) s h at =
    let both = and_parts (f (record { wire = low; session = z })) (list_all f (numbered (low + 1) sessions)) h in
    let index : (low + 1) + n ≡ low + suc n = omega arith in
    subst (λ w. f (record { wire = w; session = s }) ≡ true) index (each-at f (low + 1) sessions n s both.1 at)

pub each_comes : (sessions : List Session) → EachComesToSomething sessions
each_comes sessions rounds pieces events wire s settled at =
    let index : 0 + wire ≡ wire = omega arith in
    let rests_so : (has_ended s wire pieces || sleeps s wire pieces) ≡ true =
    subst (λ w. (has_ended s w pieces || sleeps s w pieces) ≡ true) index
    (each-at (λ n. has_ended n.session n.wire pieces || sleeps n.session n.wire pieces)
    0 sessions wire s settled.rest at) in
    either-comes s wire pieces (has_ended s wire pieces) settled.run at refl rests_so
