-- A direction waits exactly where the whole record shows it.
use Rattle.std.proofs.Common.{◌≡◌, ◌≤◌, ℕ, ◌+◌, Bool, true, false, not, ◌&&◌, ◌||◌, ◌==◌, if◌then◌else◌, List, [], ◌∷◌}
use Rattle.std.proofs.Common.{◌++◌, Option, Some, None, refl, sym, ◌∙◌, ap, subst, map, arith}
use Rattle.std.proofs.lemmas.Bool.{and_parts, eqb-true, eq-eqb}
use Rattle.std.specs.Prelude.{filter, is_none}
use Rattle.std.specs.Option.{option_map, option_and_then}
use Rattle.std.specs.List.{list_any, list_all}
use Rattle.react_core.specs.declared.outside.Event.{Event}
use Rattle.react_core.specs.declared.outside.Event.TheVariants as event
use Rattle.react_core.specs.declared.outside.Report.{Report}
use Rattle.react_core.specs.declared.reactor.Dir.{Dir}
use Rattle.react_core.specs.declared.reactor.Dir.TheVariants.{Read, Write}
use Rattle.bus_record.specs.Pieces.{reading_told}
use Rattle.react_core.specs.Round.{reports_of}
use Rattle.bus_session.specs.declared.session.Session.{Session}
use Rattle.bus_record.specs.Pieces.{Round, visit, round, Pieces, nothing, ◌▸◌, events_of, told}
use Rattle.bus_session.specs.Parts.{part}
use Rattle.bus_session.specs.Outcomes.{is_ended}
use Rattle.bus_session.specs.Alone.{Course, course, outcome_in, has_reached}
use Rattle.bus_record.specs.Places.{key_by, key_through, key_of, holder, waits, named, reports, named_of, stops}
use Rattle.bus_record.specs.Places.{stop_of, sleeps, deadline_at}
use Rattle.bus_record.specs.Visits.{Here, here, here_by, Stage, dialling, registering, conversing, arming, reading}
use Rattle.bus_record.specs.Visits.{notifying, leaving, finished, next, goes_on, is_call, asked, after_call}
use Rattle.bus_record.specs.Visits.{after_reading, then_reads, limit, ended_so, is_bool, is_armed_with, starts}
use Rattle.bus_record.specs.Visits.{starts_at, was_visited as visited_before}
use Rattle.bus_record.specs.Settled.{Run, Numbered, numbered, rearming, rearming_of, arming_of, sleepers, is_woken}
use Rattle.bus_record.specs.Settled.{is_late}
use Rattle.bus_record.specs.Laws.{begins_with_call, is_delete, is_left, left_after, was_left, stops_on, call_first}
use Rattle.bus_record.specs.Laws.{wait_names, is_left_in, WaitsInRecord}
use Rattle.bus_record.proofs.RunLemmas.{was_visited, was_turned}
use Rattle.bus_record.proofs.Unique.{goes_on-none, none-not-some, was_started}
use Rattle.bus_record.proofs.Waiting.{stepped, waits_left, false-not-true, mapped, guarded, some-inj, nowhere}

-- ---- the events of a visit are of its own wire

-- a call of the wire, or neither a call nor a Wait
abbrev belongs : ℕ → Event → Bool
belongs wire (event.Recv w n answer) = w == wire
belongs wire (event.Send w bytes answer) = w == wire
belongs wire (event.Wait timeout answer) = false
belongs wire e = true

if-some : {A B : Type 0} (f : A → B) (b : Bool) (o : Option A) (c : B) → option_map f (if b then o else None) ≡ Some c →
    b ≡ true
if-some f true o c h = refl
if-some f false o c h = absurd (none-not-some c h)

belongs-next : (s : Session) (wire : ℕ) (h : Here) (stage after : Stage) (e : Event) →
    next s wire h stage e ≡ Some after → belongs wire e ≡ true
belongs-next s wire h (conversing key c) after (event.Recv w n answer) g =
    if-some (after_call s h key (stop_of (event.Recv w n answer))) (w == wire) _ after g
belongs-next s wire h (conversing key c) after (event.Send w bytes answer) g =
    if-some (after_call s h key (stop_of (event.Send w bytes answer))) (w == wire) _ after g
belongs-next s wire h (conversing key c) after (event.Wait timeout answer) g = absurd (none-not-some after g)
belongs-next s wire h (conversing key c) after _ g = refl
belongs-next s wire h (dialling c) after (event.Recv w n answer) g = absurd (none-not-some after g)
belongs-next s wire h (dialling c) after (event.Send w bytes answer) g = absurd (none-not-some after g)
belongs-next s wire h (dialling c) after (event.Wait timeout answer) g = absurd (none-not-some after g)
belongs-next s wire h (dialling c) after _ g = refl
belongs-next s wire h (registering c) after (event.Recv w n answer) g = absurd (none-not-some after g)
belongs-next s wire h (registering c) after (event.Send w bytes answer) g = absurd (none-not-some after g)
belongs-next s wire h (registering c) after (event.Wait timeout answer) g = absurd (none-not-some after g)
belongs-next s wire h (registering c) after _ g = refl
belongs-next s wire h (arming key c x) after (event.Recv w n answer) g = absurd (none-not-some after g)
belongs-next s wire h (arming key c x) after (event.Send w bytes answer) g = absurd (none-not-some after g)
belongs-next s wire h (arming key c x) after (event.Wait timeout answer) g = absurd (none-not-some after g)
belongs-next s wire h (arming key c x) after _ g = refl
belongs-next s wire h (reading key c) after (event.Recv w n answer) g = absurd (none-not-some after g)
belongs-next s wire h (reading key c) after (event.Send w bytes answer) g = absurd (none-not-some after g)
belongs-next s wire h (reading key c) after (event.Wait timeout answer) g = absurd (none-not-some after g)
belongs-next s wire h (reading key c) after _ g = refl
belongs-next s wire h notifying after (event.Recv w n answer) g = absurd (none-not-some after g)
belongs-next s wire h notifying after (event.Send w bytes answer) g = absurd (none-not-some after g)
belongs-next s wire h notifying after (event.Wait timeout answer) g = absurd (none-not-some after g)
belongs-next s wire h notifying after _ g = refl
belongs-next s wire h (leaving key c) after (event.Recv w n answer) g = absurd (none-not-some after g)
belongs-next s wire h (leaving key c) after (event.Send w bytes answer) g = absurd (none-not-some after g)
belongs-next s wire h (leaving key c) after (event.Wait timeout answer) g = absurd (none-not-some after g)
belongs-next s wire h (leaving key c) after _ g = refl
belongs-next s wire h finished after e g = absurd (none-not-some after g)

and-both : (a b : Bool) → a ≡ true → b ≡ true → (a && b) ≡ true
and-both a b e f = rw (e, f) refl

all-belong : (s : Session) (wire : ℕ) (h : Here) (stage : Option Stage) (events : List Event) →
    goes_on s wire h stage events ≡ Some finished → list_all (belongs wire) events ≡ true
all-belong s wire h stage [] g = refl
all-belong s wire h None (e ∷ events) g =
    absurd (none-not-some finished (sym (goes_on-none s wire (here_by h e) events) ∙ g))
all-belong s wire h (Some stage) (e ∷ events) g =
    let step = stepped s wire h stage e events g in
    and-both (belongs wire e) (list_all (belongs wire) events) (belongs-next s wire h stage step.after e step.by)
    (all-belong s wire (here_by h e) (Some step.after) events step.rest)

-- ---- a key that is there was neither added nor removed in a later visit

-- stages behind the registration
abbrev is_registered : Stage → Bool
is_registered (dialling c) = false
is_registered (registering c) = false
is_registered (conversing key c) = true
is_registered (arming key c x) = true
is_registered (reading key c) = true
is_registered notifying = true
is_registered (leaving key c) = true
is_registered finished = true

call-registered : (s : Session) (h : Here) (key : ℕ) (c : Course) (so : Option Dir) →
    is_registered (after_call s h key so c) ≡ true
call-registered s h key c None = ended_go (is_ended (outcome_in false c.progress))
  where
    ended_go : (b : Bool) → is_registered (if b then leaving key c else conversing key c) ≡ true
    ended_go true = refl
    ended_go false = refl
call-registered s h key c (Some x) = stop_go (h.was_reported x) (h.is_waiting x) (is_none (limit s h c))
  where
    stop_go : (rep wait none : Bool) →
        is_registered (if rep then conversing key c else if wait then (if none then finished else reading key c)
        else arming key c x) ≡ true
    stop_go true wait none = refl
    stop_go false true true = refl
    stop_go false true false = refl
    stop_go false false none = refl

reads-registered : (none : Bool) (key : ℕ) (c : Course) →
    is_registered (if none then finished else reading key c) ≡ true
reads-registered true key c = refl
reads-registered false key c = refl

reading-registered : (late was : Bool) (key : ℕ) (c : Course) →
    is_registered (if late then leaving key c else if was then finished else notifying) ≡ true
reading-registered true was key c = refl
reading-registered false true key c = refl
reading-registered false false key c = refl

-- behind the registration the key changes by a Delete alone
record KeepsKey (e : Event) (after : Stage) : Type 0 where
  key_is : (k : Option ℕ) → key_by k e ≡ (if is_delete e then None else k)
  stage : is_registered after ≡ true

registered-next : (s : Session) (wire : ℕ) (h : Here) (stage after : Stage) (e : Event) → is_registered stage ≡ true →
    next s wire h stage e ≡ Some after → KeepsKey e after
registered-next s wire h (conversing key c) after (event.Recv w n answer) q g =
    let e : Event = event.Recv w n answer in
    let m = mapped (after_call s h key (stop_of e)) (asked (w == wire) c e) after g in
    record {
      key_is = λ k. refl;
      stage = subst (λ z. is_registered z ≡ true) m.2 (call-registered s h key m.0 (stop_of e));
    }
registered-next s wire h (conversing key c) after (event.Send w bytes answer) q g =
    let e : Event = event.Send w bytes answer in
    let m = mapped (after_call s h key (stop_of e)) (asked (w == wire) c e) after g in
    record {
      key_is = λ k. refl;
      stage = subst (λ z. is_registered z ≡ true) m.2 (call-registered s h key m.0 (stop_of e));
    }
registered-next s wire h (conversing key c) after _ q g = absurd (none-not-some after g)
registered-next s wire h (arming key c x) after (event.Modify w k read write true) q g = record {
  key_is = λ z. refl;
  stage = subst (λ z. is_registered z ≡ true)
      (guarded ((w == wire)
      && ((k == key)
      && (is_bool read (is_armed_with h x Read)
      && is_bool write (is_armed_with h x Write)))) (then_reads s h key c) after g).1
      (reads-registered (is_none (limit s h c)) key c);
}
registered-next s wire h (arming key c x) after _ q g = absurd (none-not-some after g)
registered-next s wire h (reading key c) after (event.Now moment) q g = record {
  key_is = λ k. refl;
  stage = subst (λ z. is_registered z ≡ true) (some-inj (after_reading s h key c moment) after g)
      (reading-registered (has_reached (limit s h c) (Some moment)) h.was_notified key c);
}
registered-next s wire h (reading key c) after _ q g = absurd (none-not-some after g)
registered-next s wire h notifying after (event.Notify true) q g =
    record { key_is = λ k. refl; stage = subst (λ z. is_registered z ≡ true) (some-inj finished after g) refl }
registered-next s wire h notifying after _ q g = absurd (none-not-some after g)
registered-next s wire h (leaving key c) after (event.Delete w k true) q g =
    record {
      key_is = λ z. refl;
      stage = subst (λ z. is_registered z ≡ true) (guarded ((w == wire) && (k == key)) (ended_so c) after g).1 refl;
    }
registered-next s wire h (leaving key c) after _ q g = absurd (none-not-some after g)
registered-next s wire h finished after e q g = absurd (none-not-some after g)
registered-next s wire h (dialling c) after e q g = absurd (false-not-true q)
registered-next s wire h (registering c) after e q g = absurd (false-not-true q)

key_go : (first more : Bool) (k by : Option ℕ) → by ≡ (if first then None else k) →
    (if more then None else by) ≡ (if first || more then None else k)
key_go true true k by e = refl
key_go true false k by e = e
key_go false more k by e = rw e refl

keyed : (s : Session) (wire : ℕ) (h : Here) (stage : Stage) (events : List Event) (k : Option ℕ) →
    is_registered stage ≡ true →
    goes_on s wire h (Some stage) events ≡ Some finished →
    key_through k events ≡ (if list_any is_delete events then None else k)
keyed s wire h stage [] k q g = refl
keyed s wire h stage (e ∷ events) k q g =
    let step = stepped s wire h stage e events g in
    let now = registered-next s wire h stage step.after e q step.by in
    keyed s wire (here_by h e) step.after events (key_by k e) now.stage step.rest
    ∙ key_go (is_delete e) (list_any is_delete events) k (key_by k e) (now.key_is k)

new-next : (s : Session) (wire : ℕ) (h : Here) (stage after : Stage) (e : Event) → is_registered stage ≡ false →
    next s wire h stage e ≡ Some after → is_delete e ≡ false
new-next s wire h (dialling c) after (event.Delete w k ok) q g = absurd (none-not-some after g)
new-next s wire h (dialling c) after _ q g = refl
new-next s wire h (registering c) after (event.Delete w k ok) q g = absurd (none-not-some after g)
new-next s wire h (registering c) after _ q g = refl
new-next s wire h (conversing key c) after e q g = absurd (false-not-true (sym q))
new-next s wire h (arming key c x) after e q g = absurd (false-not-true (sym q))
new-next s wire h (reading key c) after e q g = absurd (false-not-true (sym q))
new-next s wire h notifying after e q g = absurd (false-not-true (sym q))
new-next s wire h (leaving key c) after e q g = absurd (false-not-true (sym q))
new-next s wire h finished after e q g = absurd (false-not-true (sym q))

-- a visit with a removal leaves no key
gone : (s : Session) (wire : ℕ) (h : Here) (stage : Stage) (events : List Event) (k : Option ℕ) (b : Bool) →
    is_registered stage ≡ b →
    goes_on s wire h (Some stage) events ≡ Some finished → list_any is_delete events ≡ true →
    key_through k events ≡ None
gone s wire h stage events k true q g d = keyed s wire h stage events k q g ∙ ap (λ z. if z then None else k) d
gone s wire h stage [] k false q g d = absurd (false-not-true d)
gone s wire h stage (e ∷ events) k false q g d =
    let step = stepped s wire h stage e events g in
    let later : list_any is_delete events ≡ true =
    sym (ap (λ z. z || list_any is_delete events) (new-next s wire h stage step.after e q step.by)) ∙ d in
    gone s wire (here_by h e) step.after events (key_by k e) (is_registered step.after) refl step.rest later

gone_from : (s : Session) (wire : ℕ) (h : Here) (stage : Option Stage) (events : List Event) (k : Option ℕ) →
    goes_on s wire h stage events ≡ Some finished →
    list_any is_delete events ≡ true → key_through k events ≡ None
gone_from s wire h None events k g d = absurd (nowhere s wire h events g)
gone_from s wire h (Some stage) events k g d = gone s wire h stage events k (is_registered stage) refl g d

-- ---- lists of events

any-append : {A : Type 0} (f : A → Bool) (xs ys : List A) → list_any f (xs ++ ys) ≡ (list_any f xs || list_any f ys)
any-append f [] ys = refl
any-append f (x ∷ xs) ys = ap (λ b. f x || b) (any-append f xs ys) ∙ or_assoc_go (f x) (list_any f xs) (list_any f ys)
  where
    or_assoc_go : (a b c : Bool) → (a || (b || c)) ≡ ((a || b) || c)
    or_assoc_go true b c = refl
    or_assoc_go false b c = refl

or-true : (b : Bool) → (b || true) ≡ true
or-true true = refl
or-true false = refl

or-false : (b : Bool) → (b || false) ≡ b
or-false true = refl
or-false false = refl

pub or-parts : (a b : Bool) → (a || b) ≡ false → (a ≡ false) × (b ≡ false)
or-parts true b e = absurd (false-not-true (sym e))
or-parts false b e = (refl, e)

-- no NotReady, nothing is left
none-left : (x : Dir) (wire key : ℕ) (events : List Event) → list_any (stops_on x wire) events ≡ false →
    is_left_in x wire key events ≡ false
none-left x wire key [] none = refl
none-left x wire key (e ∷ events) none =
    let both = or-parts (stops_on x wire e) (list_any (stops_on x wire) events) none in
    rw (both.1, both.0) refl

-- where a NotReady stands in the later events, they alone count
pub later-left : (x : Dir) (wire key : ℕ) (xs ys : List Event) → list_any (stops_on x wire) ys ≡ true →
    is_left_in x wire key (xs ++ ys) ≡ is_left_in x wire key ys
later-left x wire key [] ys some = refl
later-left x wire key (e ∷ xs) ys some =
    let any : list_any (stops_on x wire) (xs ++ ys) ≡ true =
    any-append (stops_on x wire) xs ys
    ∙ (ap (λ b. list_any (stops_on x wire) xs || b) some ∙ or-true (list_any (stops_on x wire) xs)) in
    ap (λ b. if b then is_left_in x wire key (xs ++ ys)
    else (stops_on x wire e && (not (call_first wire (xs ++ ys)) && not (list_any (wait_names x key) (xs ++ ys))))) any
    ∙ later-left x wire key xs ys some

-- whether the last event is a call of the wire
last_call : ℕ → Bool → List Event → Bool
last_call wire was [] = was
last_call wire was (e ∷ events) = last_call wire (is_call wire e) events

last_call-append : (wire : ℕ) (was : Bool) (xs ys : List Event) →
    last_call wire was (xs ++ ys) ≡ last_call wire (last_call wire was xs) ys
unfolding last_call
last_call-append wire was [] ys = refl
last_call-append wire was (e ∷ xs) ys = last_call-append wire (is_call wire e) xs ys

last-none : (wire : ℕ) (events : List Event) → list_any (is_call wire) events ≡ false →
    last_call wire false events ≡ false
unfolding last_call
last-none wire [] none = refl
last-none wire (e ∷ events) none =
    let both = or-parts (is_call wire e) (list_any (is_call wire) events) none in
    ap (λ b. last_call wire b events) both.0 ∙ last-none wire events both.1

one_go : (se cf ny : Bool) → (se ≡ true → cf ≡ false) → (se && (not cf && not ny)) ≡ ((se && (true && true)) && not ny)
one_go true cf ny f = rw (f refl) refl
one_go false cf ny f = refl

more_go : (se cf nx ny : Bool) → (se && (not cf && not (nx || ny))) ≡ ((se && (not cf && not nx)) && not ny)
more_go false cf nx ny = refl
more_go true true nx ny = refl
more_go true false true ny = refl
more_go true false false ny = refl

-- the last event of one list and the first of the next are not both calls of the wire
abbrev Parted : ℕ → Bool → List Event → List Event → Type 0
Parted wire was xs ys = last_call wire was xs ≡ true → call_first wire ys ≡ false

front_go : (x : Dir) (wire key : ℕ) (e : Event) (xs ys : List Event) → Parted wire (is_call wire e) xs ys →
    (stops_on x wire e && (not (call_first wire (xs ++ ys)) && not (list_any (wait_names x key) (xs ++ ys))))
    ≡ ((stops_on x wire e && (not (call_first wire xs) && not (list_any (wait_names x key) xs)))
    && not (list_any (wait_names x key) ys))
unfolding last_call
front_go x wire key e [] ys parted =
    one_go (stops_on x wire e) (call_first wire ys) (list_any (wait_names x key) ys)
    (λ se. parted (and_parts (is_call wire e) (stops x e) se).0)
front_go x wire key e (z ∷ xs) ys parted =
    ap (λ b. stops_on x wire e && (not (is_call wire z) && not b)) (any-append (wait_names x key) (z ∷ xs) ys)
    ∙ more_go (stops_on x wire e) (is_call wire z) (list_any (wait_names x key) (z ∷ xs))
    (list_any (wait_names x key) ys)

choose_go : (any some la a h r ny : Bool) → any ≡ some → la ≡ (a && not ny) → h ≡ (r && not ny) →
    (if any then la else h) ≡ ((if some then a else r) && not ny)
choose_go any true la a h r ny e f g = rw e f
choose_go any false la a h r ny e f g = rw e g

-- where none stands in the later events, they only report
earlier-left : (x : Dir) (wire key : ℕ) (was : Bool) (xs ys : List Event) → list_any (stops_on x wire) ys ≡ false →
    Parted wire was xs ys →
    is_left_in x wire key (xs ++ ys) ≡ (is_left_in x wire key xs && not (list_any (wait_names x key) ys))
unfolding last_call
earlier-left x wire key was [] ys none parted = none-left x wire key ys none
earlier-left x wire key was (e ∷ xs) ys none parted =
    choose_go (list_any (stops_on x wire) (xs ++ ys)) (list_any (stops_on x wire) xs) (is_left_in x wire key (xs ++ ys))
    (is_left_in x wire key xs)
    (stops_on x wire e && (not (call_first wire (xs ++ ys)) && not (list_any (wait_names x key) (xs ++ ys))))
    (stops_on x wire e && (not (call_first wire xs) && not (list_any (wait_names x key) xs)))
    (list_any (wait_names x key) ys)
    (any-append (stops_on x wire) xs ys
    ∙ (ap (λ b. list_any (stops_on x wire) xs || b) none ∙ or-false (list_any (stops_on x wire) xs)))
    (earlier-left x wire key (is_call wire e) xs ys none parted)
    (front_go x wire key e xs ys parted)

-- ---- what belongs to a wire

-- an event that belongs to the wire
record Own (x : Dir) (wire key : ℕ) (e : Event) : Type 0 where
  stops_same : stops_on x wire e ≡ stops x e
  call_same : is_call wire e ≡ begins_with_call (e ∷ [])
  names_none : wait_names x key e ≡ false

own : (x : Dir) (wire key : ℕ) (e : Event) → belongs wire e ≡ true → Own x wire key e
own x wire key (event.Recv w n answer) b = record { stops_same = rw b refl; call_same = b; names_none = refl }
own x wire key (event.Send w bytes answer) b = record { stops_same = rw b refl; call_same = b; names_none = refl }
own x wire key (event.Wait timeout answer) b = absurd (false-not-true b)
own x wire key _ b = record { stops_same = refl; call_same = refl; names_none = refl }

-- events that belong to the wire
record AllOwn (x : Dir) (wire key : ℕ) (events : List Event) : Type 0 where
  stops_same : list_any (stops_on x wire) events ≡ list_any (stops x) events
  call_same : call_first wire events ≡ begins_with_call events
  names_none : list_any (wait_names x key) events ≡ false
  left_same : is_left_in x wire key events ≡ is_left x events

and-true : (b c : Bool) → c ≡ false → (b && not c) ≡ b
and-true true c e = rw e refl
and-true false c e = refl

first-call : (e : Event) (events : List Event) → begins_with_call (e ∷ events) ≡ begins_with_call (e ∷ [])
first-call (event.Recv wire n answer) events = refl
first-call (event.Send wire bytes answer) events = refl
first-call _ events = refl

all-own : (x : Dir) (wire key : ℕ) (events : List Event) → list_all (belongs wire) events ≡ true →
    AllOwn x wire key events
all-own x wire key [] b = record { stops_same = refl; call_same = refl; names_none = refl; left_same = refl }
all-own x wire key (e ∷ events) b =
    let both = and_parts (belongs wire e) (list_all (belongs wire) events) b in
    let now = own x wire key e both.0 in
    let later = all-own x wire key events both.1 in
    record {
      stops_same = cc (now.stops_same, later.stops_same);
      call_same = now.call_same ∙ sym (first-call e events);
      names_none = rw (now.names_none, later.names_none) refl;
      left_same =
          left_go (list_any (stops_on x wire) events) (list_any (stops x) events) (is_left_in x wire key events)
          (is_left x events) (stops_on x wire e) (stops x e)
          (call_first wire events) (begins_with_call events) (list_any (wait_names x key) events)
          later.stops_same later.left_same now.stops_same later.call_same later.names_none;
    }
  where
    left_go : (s s' l l' e e' c c' n : Bool) → s ≡ s' → l ≡ l' → e ≡ e' → c ≡ c' → n ≡ false →
        (if s then l else (e && (not c && not n))) ≡ (if s' then l' else (e' && not c'))
    left_go s s' l l' e e' c c' n ss ll ee cc' nn =
        ap (λ z. if z then l else (e && (not c && not n))) ss
        ∙ (ap (λ z. if s' then z else (e && (not c && not n))) ll
        ∙ (ap (λ z. if s' then l' else (z && (not c && not n))) ee
        ∙ (ap (λ z. if s' then l' else (e' && (not z && not n))) cc'
        ∙ ap (λ z. if s' then l' else (e' && z)) (and-true (not c') n nn))))

-- what belongs to another wire is no call of this one
other-call : (wire u : ℕ) (e : Event) → (u == wire) ≡ false → belongs u e ≡ true → is_call wire e ≡ false
other-call wire u (event.Recv w n answer) other b = ap (λ z. z == wire) (eqb-true w u b) ∙ other
other-call wire u (event.Send w bytes answer) other b = ap (λ z. z == wire) (eqb-true w u b) ∙ other
other-call wire u (event.Wait timeout answer) other b = refl
other-call wire u _ other b = refl

no-names : (x : Dir) (u key : ℕ) (events : List Event) → list_all (belongs u) events ≡ true →
    list_any (wait_names x key) events ≡ false
no-names x u key [] b = refl
no-names x u key (e ∷ events) b =
    let both = and_parts (belongs u e) (list_all (belongs u) events) b in
    rw ((own x u key e both.0).names_none, no-names x u key events both.1) refl

no-calls : (wire u : ℕ) (events : List Event) → (u == wire) ≡ false → list_all (belongs u) events ≡ true →
    list_any (is_call wire) events ≡ false
no-calls wire u [] other b = refl
no-calls wire u (e ∷ events) other b =
    let both = and_parts (belongs u e) (list_all (belongs u) events) b in
    rw (other-call wire u e other both.0, no-calls wire u events other both.1) refl

no-stops : (x : Dir) (wire : ℕ) (events : List Event) → list_any (is_call wire) events ≡ false →
    list_any (stops_on x wire) events ≡ false
no-stops x wire [] none = refl
no-stops x wire (e ∷ events) none =
    let both = or-parts (is_call wire e) (list_any (is_call wire) events) none in
    rw (both.0, no-stops x wire events both.1) refl

not-first : (wire : ℕ) (events : List Event) → list_any (is_call wire) events ≡ false → call_first wire events ≡ false
not-first wire [] none = refl
not-first wire (e ∷ events) none = (or-parts (is_call wire e) (list_any (is_call wire) events) none).0

-- ---- a round's events

-- neither a call nor a Wait
abbrev is_silent : Event → Bool
is_silent (event.Recv w n answer) = false
is_silent (event.Send w bytes answer) = false
is_silent (event.Wait timeout answer) = false
is_silent e = true

all-append : {A : Type 0} (f : A → Bool) (xs ys : List A) → list_all f xs ≡ true → list_all f ys ≡ true →
    list_all f (xs ++ ys) ≡ true
all-append f [] ys a b = b
all-append f (x ∷ xs) ys a b = let both = and_parts (f x) (list_all f xs) a in
    and-both (f x) (list_all f (xs ++ ys)) both.0 (all-append f xs ys both.1 b)

arming-silent : (wire key : ℕ) (read write : Bool) → list_all is_silent (arming_of wire key read write) ≡ true
arming-silent wire key true true = refl
arming-silent wire key true false = refl
arming-silent wire key false true = refl
arming-silent wire key false false = refl

rearming_of-silent : (past : Pieces) (seen : List Report) (key : ℕ) (h : Option ℕ) →
    list_all is_silent (rearming_of past seen key h) ≡ true
rearming_of-silent past seen key None = refl
rearming_of-silent past seen key (Some wire) =
    arming-silent wire key (waits Read wire past && not (named Read key seen)) (waits Write wire past
    && not (named Write key seen))

rearming-silent : (past : Pieces) (seen reported : List Report) →
    list_all is_silent (rearming past seen reported) ≡ true
rearming-silent past seen [] = refl
rearming-silent past seen (t ∷ reported) =
    all-append is_silent (rearming_of past (t ∷ seen) t.key (holder t.key past)) (rearming past (t ∷ seen) reported)
    (rearming_of-silent past (t ∷ seen) t.key (holder t.key past)) (rearming-silent past (t ∷ seen) reported)

reading-silent : (second : Option ℕ) → list_all is_silent (reading_told second) ≡ true
reading-silent None = refl
reading-silent (Some t) = refl

silent-call : (wire : ℕ) (e : Event) → is_silent e ≡ true → is_call wire e ≡ false
silent-call wire (event.Recv w n answer) b = absurd (false-not-true b)
silent-call wire (event.Send w bytes answer) b = absurd (false-not-true b)
silent-call wire _ b = refl

silent-names : (x : Dir) (key : ℕ) (e : Event) → is_silent e ≡ true → wait_names x key e ≡ false
silent-names x key (event.Wait timeout answer) b = absurd (false-not-true b)
silent-names x key _ b = refl

silent-calls : (wire : ℕ) (events : List Event) → list_all is_silent events ≡ true →
    list_any (is_call wire) events ≡ false
silent-calls wire [] b = refl
silent-calls wire (e ∷ events) b =
    let both = and_parts (is_silent e) (list_all is_silent events) b in
    rw (silent-call wire e both.0, silent-calls wire events both.1) refl

silent-all : (x : Dir) (key : ℕ) (events : List Event) → list_all is_silent events ≡ true →
    list_any (wait_names x key) events ≡ false
silent-all x key [] b = refl
silent-all x key (e ∷ events) b =
    let both = and_parts (is_silent e) (list_all is_silent events) b in
    rw (silent-names x key e both.0, silent-all x key events both.1) refl

-- a round has no calls, and its Wait alone reports
record RoundShows (x : Dir) (wire key : ℕ) (r : Round) : Type 0 where
  calls : list_any (is_call wire) (events_of (round r)) ≡ false
  names_it : list_any (wait_names x key) (events_of (round r)) ≡ named x key (reports_of r.answer)

round-shows : {sessions : List Session} {n : ℕ} (x : Dir) (wire key : ℕ) (past : Pieces) (r : Round) {wires : List ℕ} →
    Run sessions n (past ▸ round r) wires → RoundShows x wire key r
round-shows x wire key past r run =
    let is = (was_turned run).is_round in
    let silent : list_all is_silent (reading_told r.second ++ r.rearmed) ≡ true =
    all-append is_silent (reading_told r.second) r.rearmed (reading-silent r.second)
    (ap (list_all is_silent) is.rearmed ∙ rearming-silent past [] (reports_of r.answer)) in
    record {
      calls = silent-calls wire (reading_told r.second ++ r.rearmed) silent;
      names_it =
          ap (λ b. named x key (reports_of r.answer) || b)
          (silent-all x key (reading_told r.second ++ r.rearmed) silent)
          ∙ or-false (named x key (reports_of r.answer));
    }

-- ---- the wires left rise

abbrev Rises : ℕ → List ℕ → Type 0
Rises low [] = Unit {0}
Rises low (n ∷ numbers) = (low ≤ n) × Rises (n + 1) numbers

lower : (low high : ℕ) (numbers : List ℕ) → low ≤ high → Rises high numbers → Rises low numbers
lower low high [] le r = tt {0}
lower low high (n ∷ numbers) le r = (omega (arith, r.0), r.1)

numbered-rises : (low : ℕ) (sessions : List Session) → Rises low (map (λ n. n.wire) (numbered low sessions))
numbered-rises low [] = tt {0}
numbered-rises low (s ∷ sessions) = (omega arith, numbered-rises (low + 1) sessions)

filter-rises : (f : Numbered → Bool) (low : ℕ) (ns : List Numbered) → Rises low (map (λ n. n.wire) ns) →
    Rises low (map (λ n. n.wire) (filter f ns))
filter-rises f low [] r = tt {0}
filter-rises f low (n ∷ ns) r = kept (f n) (filter-rises f (n.wire + 1) ns r.1)
  where
    kept : (b : Bool) → Rises (n.wire + 1) (map (λ z. z.wire) (filter f ns)) →
        Rises low (map (λ z. z.wire) (if b then n ∷ filter f ns else filter f ns))
    kept true later = (r.0, later)
    kept false later = lower low (n.wire + 1) (map (λ z. z.wire) (filter f ns)) (omega (arith, r.0)) later

run-rises : {sessions : List Session} {n : ℕ} (pieces : Pieces) {wires : List ℕ} → Run sessions n pieces wires →
    Rises 0 wires
run-rises {sessions} nothing run = subst (Rises 0) (sym (was_started run)) (numbered-rises 0 sessions)
run-rises (past ▸ visit u events) {wires} run =
    let before = run-rises past (was_visited run).run in
    lower 0 (u + 1) wires (omega arith) before.1
run-rises {sessions} (past ▸ round r) run =
    subst (Rises 0) (sym (was_turned run).left)
    (filter-rises (λ n. is_woken past r n.wire || is_late r (deadline_at n.session n.wire past)) 0
    (sleepers sessions past)
    (filter-rises (λ n. sleeps n.session n.wire past) 0 (numbered 0 sessions) (numbered-rises 0 sessions)))

is_in : ℕ → List ℕ → Bool
is_in wire wires = list_any (λ u. u == wire) wires

above_go : (low wire u : ℕ) (b rest : Bool) → (u == wire) ≡ b → low ≤ u → (rest ≡ true → u + 1 ≤ wire) →
    (b || rest) ≡ true → low ≤ wire
above_go low wire u true rest e le later is = let same : u ≡ wire = eqb-true u wire e in omega (arith, le)
above_go low wire u false rest e le later is = let more = later is in omega (arith, le, more)

in-above : (low wire : ℕ) (wires : List ℕ) → Rises low wires → is_in wire wires ≡ true → low ≤ wire
unfolding is_in
in-above low wire [] r is = absurd (false-not-true is)
in-above low wire (u ∷ wires) r is =
    above_go low wire u (u == wire) (list_any (λ z. z == wire) wires) refl r.0
    (λ later. in-above (u + 1) wire wires r.1 later) is

-- a wire that comes later is another
other-wire : (wire u : ℕ) (wires : List ℕ) (b : Bool) → (u == wire) ≡ b → Rises (u + 1) wires →
    is_in wire wires ≡ true → b ≡ false
other-wire wire u wires true e r is =
    let same : u ≡ wire = eqb-true u wire e in
    let above : u + 1 ≤ wire = in-above (u + 1) wire wires r is in
    absurd (omega (arith, same, above))
other-wire wire u wires false e r is = refl

belong : {sessions : List Session} {n : ℕ} (past : Pieces) (u : ℕ) (events : List Event) {wires : List ℕ} →
    Run sessions n (past ▸ visit u events) wires → list_all (belongs u) events ≡ true
belong past u events run =
    let v = was_visited run in
    all-belong v.session u (here u past) (starts v.session u past) events v.visits

-- before a wire is visited the record's last event is no call of it
last_free : {sessions : List Session} {n : ℕ} (wire : ℕ) (pieces : Pieces) {wires : List ℕ} →
    Run sessions n pieces wires → is_in wire wires ≡ true → last_call wire false (told pieces) ≡ false
unfolding last_call is_in
last_free wire nothing run is = refl
last_free wire (past ▸ visit u events) {wires} run is =
    let before = (was_visited run).run in
    let other : (u == wire) ≡ false = other-wire wire u wires (u == wire) refl (run-rises past before).1 is in
    let earlier : last_call wire false (told past) ≡ false =
    last_free wire past before (ap (λ b. (u == wire) || b) is ∙ or-true (u == wire)) in
    last_call-append wire false (told past) events
    ∙ (ap (λ b. last_call wire b events) earlier
    ∙ last-none wire events (no-calls wire u events other (belong past u events run)))
last_free wire (past ▸ round r) run is =
    last_call-append wire false (told past) (events_of (round r))
    ∙ last-none wire (event.Wait r.timeout r.answer ∷ (reading_told r.second ++ r.rearmed))
    (round-shows Read wire 0 past r run).calls

-- ---- a session that was not visited yet

record Unvisited (x : Dir) (wire : ℕ) (pieces : Pieces) : Type 0 where
  calls : list_any (is_call wire) (told pieces) ≡ false
  left : was_left x wire pieces ≡ false
  key : key_of wire pieces ≡ None

unvisited : {sessions : List Session} {n : ℕ} (x : Dir) (wire : ℕ) (pieces : Pieces) {wires : List ℕ} →
    Run sessions n pieces wires → visited_before wire pieces ≡ false → Unvisited x wire pieces
unvisited x wire nothing run none = record { calls = refl; left = refl; key = refl }
unvisited x wire (past ▸ visit u events) run none =
    let both = or-parts (u == wire) (visited_before wire past) none in
    let before = unvisited x wire past (was_visited run).run both.1 in
    record {
      calls = any-append (is_call wire) (told past) events
          ∙ rw (before.calls, no-calls wire u events both.0 (belong past u events run)) refl;
      left = rw both.0 before.left;
      key = rw both.0 before.key;
    }
unvisited x wire (past ▸ round r) run none =
    let before = unvisited x wire past (was_turned run).run none in
    record {
      calls = any-append (is_call wire) (told past) (events_of (round r))
          ∙ rw (before.calls, (round-shows x wire 0 past r run).calls) refl;
      left = rw before.left refl;
      key = before.key;
    }

-- ---- over all pieces

-- a later visit finds the key that it leaves
key_before : (s : Session) (wire : ℕ) (h : Here) (c : Option Course) (k : Option ℕ) (events : List Event) (key : ℕ) →
    goes_on s wire h (option_and_then (starts_at true k) c) events ≡ Some finished → list_any is_delete events ≡ false →
    key_through k events ≡ Some key → k ≡ Some key
key_before s wire h None k events key g del is = absurd (nowhere s wire h events g)
key_before s wire h (Some c) None events key g del is = absurd (nowhere s wire h events g)
key_before s wire h (Some c) (Some k) events key g del is =
    let same : key_through (Some k) events ≡ Some k =
    keyed s wire h (conversing k c) events (Some k) refl g ∙ ap (λ b. if b then None else Some k) del in
    sym same ∙ is

in_front : (own rest : Bool) → own ≡ true → (own || rest) ≡ true
in_front own rest e = rw e refl

left-is : (del some l was : Bool) → del ≡ false →
    (if del then false else if some then l else was) ≡ (if some then l else was)
left-is del some l was e = rw e refl

none-deleted : (s : Session) (wire : ℕ) (h : Here) (stage : Option Stage) (events : List Event) (k : Option ℕ) (key : ℕ)
    (b : Bool) → list_any is_delete events ≡ b →
    goes_on s wire h stage events ≡ Some finished → key_through k events ≡ Some key → b ≡ false
none-deleted s wire h stage events k key true e g is =
    absurd (none-not-some key (sym (gone_from s wire h stage events k g e) ∙ is))
none-deleted s wire h stage events k key false e g is = refl

module _ (x : Dir) (wire key : ℕ) where
  -- what a record shows of the direction is what its pieces show
  abbrev Agrees : Pieces → Type 0
  Agrees pieces = key_of wire pieces ≡ Some key → was_left x wire pieces ≡ is_left_in x wire key (told pieces)

  -- whether the session was visited before, or not
  before-visit : {sessions : List Session} {n : ℕ} (past : Pieces) (events : List Event) {wires : List ℕ} →
      Run sessions n (past ▸ visit wire events) wires → Agrees past →
      list_any is_delete events ≡ false → key_through (key_of wire past) events ≡ Some key → (b : Bool) →
      visited_before wire past ≡ b →
      was_left x wire past ≡ is_left_in x wire key (told past)
  before-visit past events run ih del is true was =
      let v = was_visited run in
      let g : goes_on v.session wire (here wire past)
      (option_and_then (starts_at true (key_of wire past)) (course v.session (part wire (told past)))) events
      ≡ Some finished =
      subst (λ b. goes_on v.session wire (here wire past)
      (option_and_then (starts_at b (key_of wire past)) (course v.session (part wire (told past)))) events
      ≡ Some finished) was v.visits in
      ih (key_before v.session wire (here wire past) (course v.session (part wire (told past))) (key_of wire past)
      events key g del is)
  before-visit past events run ih del is false was =
      let u = unvisited x wire past (was_visited run).run was in
      u.left ∙ sym (none-left x wire key (told past) (no-stops x wire (told past) u.calls))

  own-visit : {sessions : List Session} {n : ℕ} (past : Pieces) (events : List Event) {wires : List ℕ} →
      Run sessions n (past ▸ visit wire events) wires → Agrees past →
      key_through (key_of wire past) events ≡ Some key → (b : Bool) → list_any (stops x) events ≡ b →
      left_after x (was_left x wire past) events ≡ is_left_in x wire key (told past ++ events)
  unfolding is_in
  own-visit past events {wires} run ih is b some =
      let v = was_visited run in
      let o = all-own x wire key events (belong past wire events run) in
      let del : list_any is_delete events ≡ false =
      none-deleted v.session wire (here wire past) (starts v.session wire past) events (key_of wire past) key
      (list_any is_delete events) refl v.visits is in
      left-is (list_any is_delete events) (list_any (stops x) events) (is_left x events) (was_left x wire past) del
      ∙ by_stops b some o del
    where
      last : last_call wire false (told past) ≡ false
      last = last_free wire past (was_visited run).run
          (in_front (wire == wire) (list_any (λ u. u == wire) wires) (eq-eqb wire wire refl))

      by_stops : (b : Bool) → list_any (stops x) events ≡ b → AllOwn x wire key events →
          list_any is_delete events ≡ false →
          (if list_any (stops x) events then is_left x events else was_left x wire past)
          ≡ is_left_in x wire key (told past ++ events)
      by_stops true e o del =
          ap (λ z. if z then is_left x events else was_left x wire past) e
          ∙ (sym o.left_same ∙ sym (later-left x wire key (told past) events (o.stops_same ∙ e)))
      by_stops false e o del =
          ap (λ z. if z then is_left x events else was_left x wire past) e
          ∙ (before-visit past events run ih del is (visited_before wire past) refl
          ∙ (sym (and-true (is_left_in x wire key (told past)) (list_any (wait_names x key) events) o.names_none)
          ∙ sym (earlier-left x wire key false (told past) events (o.stops_same
          ∙ e) (λ called. absurd (false-not-true (sym last ∙ called))))))

  other-visit : {sessions : List Session} {n : ℕ} (past : Pieces) (u : ℕ) (events : List Event) {wires : List ℕ} →
      Run sessions n (past ▸ visit u events) wires →
      (u == wire) ≡ false → was_left x wire past ≡ is_left_in x wire key (told past) →
      was_left x wire past ≡ is_left_in x wire key (told past ++ events)
  other-visit past u events run other same =
      let b = belong past u events run in
      let calls = no-calls wire u events other b in
      same
      ∙ (sym (and-true (is_left_in x wire key (told past)) (list_any (wait_names x key) events)
      (no-names x u key events b))
      ∙ sym (earlier-left x wire key false (told past) events (no-stops x wire events calls)
      (λ called. not-first wire events calls)))

  either-visit : {sessions : List Session} {n : ℕ} (past : Pieces) (u : ℕ) (events : List Event) {wires : List ℕ} →
      Run sessions n (past ▸ visit u events) wires → Agrees past →
      (b : Bool) → (u == wire) ≡ b →
      (if b then key_through (key_of wire past) events else key_of wire past) ≡ Some key →
      (if b then left_after x (was_left x wire past) events else was_left x wire past)
      ≡ is_left_in x wire key (told past ++ events)
  either-visit {sessions} {n} past u events {wires} run ih true same is =
      own-visit past events (subst (λ z. Run sessions n (past ▸ visit z events) wires) (eqb-true u wire same) run) ih is
      (list_any (stops x) events) refl
  either-visit past u events run ih false other is = other-visit past u events run other (ih is)

  agrees : {sessions : List Session} {n : ℕ} (pieces : Pieces) {wires : List ℕ} → Run sessions n pieces wires →
      Agrees pieces
  agrees nothing run is = refl
  agrees (past ▸ visit u events) run is =
      either-visit past u events run (agrees past (was_visited run).run) (u == wire) refl is
  agrees (past ▸ round r) run is =
      let shows = round-shows x wire key past r run in
      let names_so : list_any (wait_names x key) (events_of (round r)) ≡ reports x wire past r =
      shows.names_it ∙ ap (λ k. named_of x k (reports_of r.answer)) (sym is) in
      ap (λ b. b && not (reports x wire past r)) (agrees past (was_turned run).run is)
      ∙ (ap (λ b. is_left_in x wire key (told past) && not b) (sym names_so)
      ∙ sym (earlier-left x wire key false (told past) (events_of (round r))
      (no-stops x wire (events_of (round r)) shows.calls)
      (λ called. not-first wire (events_of (round r)) shows.calls)))

pub waits_in_record : (sessions : List Session) → WaitsInRecord sessions
waits_in_record sessions n pieces wires x wire key run is =
    waits_left x wire pieces run ∙ agrees x wire key pieces run is
