-- A direction waits exactly where its last NotReady was left.
use Rattle.std.proofs.Common.{◌≡◌, ℕ, Bool, true, false, not, ◌&&◌, ◌||◌, ◌==◌, if◌then◌else◌, List, [], ◌∷◌, Option}
use Rattle.std.proofs.Common.{Some, None, refl, sym, ◌∙◌, ap, subst}
use Rattle.std.proofs.lemmas.Bool.{and_parts, eqb-true}
use Rattle.std.specs.Option.{option_map, option_and_then}
use Rattle.std.specs.List.{list_any}
use Rattle.std.specs.Prelude.{is_none}
use Rattle.react_core.specs.declared.outside.Event.{Event}
use Rattle.react_core.specs.declared.outside.Event.TheVariants as event
use Rattle.react_core.specs.declared.reactor.Dir.{Dir}
use Rattle.react_core.specs.declared.reactor.Dir.TheVariants.{Read, Write}
use Rattle.bus_session.specs.declared.session.Session.{Session}
use Rattle.bus_record.specs.Pieces.{visit, round, Pieces, nothing, ◌▸◌, told}
use Rattle.bus_session.specs.Parts.{part}
use Rattle.bus_session.specs.Outcomes.{is_ended}
use Rattle.bus_session.specs.Alone.{Progress, dials, converses, over, Course, course, after, has_reached, outcome_in}
use Rattle.bus_record.specs.Places.{key_of, names, stops, stop_of, is_dir, waits, waits_by, waits_through, reported}
use Rattle.bus_record.specs.Places.{reported_by, reported_through, reports}
use Rattle.bus_record.specs.Visits.{Here, here, here_by, Stage, dialling, registering, conversing, arming, reading}
use Rattle.bus_record.specs.Visits.{notifying, leaving, finished, next, goes_on, starts_at}
use Rattle.bus_record.specs.Visits.{was_visited as was_visited_before, Visit, is_bool, is_armed_with, after_reading}
use Rattle.bus_record.specs.Visits.{after_dial, after_dial_to, after_call, asked, then_reads, limit, ended_so}
use Rattle.bus_record.specs.Settled.{Run}
use Rattle.bus_record.specs.Laws.{begins_with_call, is_delete, is_left, left_after, was_left, WaitsWhereLeft}
use Rattle.bus_record.proofs.RunLemmas.{was_visited}
use Rattle.bus_record.proofs.Unique.{goes_on-none, none-not-some, run-back}

-- ---- what is quiet

-- no arming, no NotReady, and no call at the front; only a removal ends a wait
pub record Quiet (x : Dir) (events : List Event) : Type 0 where
  keeps : (was : Bool) → waits_through x was events ≡ (if list_any is_delete events then false else was)
  pub stops_none : list_any (stops x) events ≡ false
  calls_none : begins_with_call events ≡ false

-- stages after which only the clock, a Notify and a Delete come
abbrev pub is_quiet_stage : Stage → Bool
is_quiet_stage (reading key c) = true
is_quiet_stage notifying = true
is_quiet_stage (leaving key c) = true
is_quiet_stage finished = true
is_quiet_stage (dialling c) = false
is_quiet_stage (registering c) = false
is_quiet_stage (conversing key c) = false
is_quiet_stage (arming key c x) = false

-- an event that is no arming, no NotReady and no call
record IsQuiet (x : Dir) (e : Event) (after : Stage) : Type 0 where
  keeps_it : (was : Bool) → waits_by x was e ≡ (if is_delete e then false else was)
  stops_not : stops x e ≡ false
  calls_not : begins_with_call (e ∷ []) ≡ false
  stage : is_quiet_stage after ≡ true

pub guarded : {A : Type 0} (b : Bool) (a c : A) → (if b then Some a else None) ≡ Some c → (b ≡ true) × (a ≡ c)
guarded true a c e = (refl, cc)
guarded false a c e = absurd (none-not-some c e)

pub false-not-true : false ≡ true → ⊥
false-not-true e = cc

pub some-inj : {A : Type 0} (x y : A) → Some x ≡ Some y → x ≡ y
some-inj x y e = cc

reading-quiet : (late was : Bool) (key : ℕ) (c : Course) →
    is_quiet_stage (if late then leaving key c else if was then finished else notifying) ≡ true
reading-quiet true was key c = refl
reading-quiet false true key c = refl
reading-quiet false false key c = refl

quiet-next : (s : Session) (wire : ℕ) (h : Here) (x : Dir) (stage after : Stage) (e : Event) →
    is_quiet_stage stage ≡ true →
    next s wire h stage e ≡ Some after → IsQuiet x e after
quiet-next s wire h x (reading key c) after (event.Now moment) q g = record {
  keeps_it = λ was. refl;
  stops_not = refl;
  calls_not = refl;
  stage = subst (λ z. is_quiet_stage z ≡ true) (some-inj (after_reading s h key c moment) after g)
      (reading-quiet (has_reached (limit s h c) (Some moment)) h.was_notified key c);
}
quiet-next s wire h x (reading key c) after _ q g = absurd (none-not-some after g)
quiet-next s wire h x notifying after (event.Notify true) q g = record {
  keeps_it = λ was. refl;
  stops_not = refl;
  calls_not = refl;
  stage = subst (λ z. is_quiet_stage z ≡ true) (some-inj finished after g) refl;
}
quiet-next s wire h x notifying after _ q g = absurd (none-not-some after g)
quiet-next s wire h x (leaving key c) after (event.Delete w k true) q g = record {
  keeps_it = λ was. refl;
  stops_not = refl;
  calls_not = refl;
  stage = subst (λ z. is_quiet_stage z ≡ true) (guarded ((w == wire) && (k == key)) (ended_so c) after g).1 refl;
}
quiet-next s wire h x (leaving key c) after _ q g = absurd (none-not-some after g)
quiet-next s wire h x finished after e q g = absurd (none-not-some after g)
quiet-next s wire h x (dialling c) after e q g = absurd (false-not-true q)
quiet-next s wire h x (registering c) after e q g = absurd (false-not-true q)
quiet-next s wire h x (conversing key c) after e q g = absurd (false-not-true q)
quiet-next s wire h x (arming key c y) after e q g = absurd (false-not-true q)

first-call : (e : Event) (events : List Event) → begins_with_call (e ∷ events) ≡ begins_with_call (e ∷ [])
first-call (event.Recv wire n answer) events = refl
first-call (event.Send wire bytes answer) events = refl
first-call _ events = refl

-- one event of a visit that comes to its end
pub record Stepped (s : Session) (wire : ℕ) (h : Here) (stage : Stage) (e : Event) (events : List Event) : Type 0 where
  pub after : Stage
  pub by : next s wire h stage e ≡ Some after
  pub rest : goes_on s wire (here_by h e) (Some after) events ≡ Some finished

step_to : (s : Session) (wire : ℕ) (h : Here) (stage : Stage) (e : Event) (events : List Event) (o : Option Stage) →
    next s wire h stage e ≡ o →
    goes_on s wire (here_by h e) o events ≡ Some finished → Stepped s wire h stage e events
step_to s wire h stage e events None is g =
    absurd (none-not-some finished (sym (goes_on-none s wire (here_by h e) events) ∙ g))
step_to s wire h stage e events (Some after) is g = record { after = after; by = is; rest = g }

pub stepped : (s : Session) (wire : ℕ) (h : Here) (stage : Stage) (e : Event) (events : List Event) →
    goes_on s wire h (Some stage) (e ∷ events) ≡ Some finished →
    Stepped s wire h stage e events
stepped s wire h stage e events g = step_to s wire h stage e events (next s wire h stage e) refl g

-- no visit begins with this event
pub nowhere : (s : Session) (wire : ℕ) (h : Here) (events : List Event) → goes_on s wire h None events ≡ Some finished →
    ⊥
nowhere s wire h events g = none-not-some finished (sym (goes_on-none s wire h events) ∙ g)

or-none : (a b : Bool) → a ≡ false → b ≡ false → (a || b) ≡ false
or-none a b e f = rw (e, f)

keeps_go : (first more was by : Bool) → by ≡ (if first then false else was) →
    (if more then false else by) ≡ (if first || more then false else was)
keeps_go true true was by e = refl
keeps_go true false was by e = e
keeps_go false more was by e = rw e refl

-- what comes after a quiet stage is quiet
pub quiet : (s : Session) (wire : ℕ) (h : Here) (x : Dir) (stage : Stage) (events : List Event) →
    is_quiet_stage stage ≡ true →
    goes_on s wire h (Some stage) events ≡ Some finished → Quiet x events
quiet s wire h x stage [] q g = record { keeps = λ was. refl; stops_none = refl; calls_none = refl }
quiet s wire h x stage (e ∷ events) q g =
    let step = stepped s wire h stage e events g in
    let now = quiet-next s wire h x stage step.after e q step.by in
    let later = quiet s wire (here_by h e) x step.after events now.stage step.rest in
    record {
      keeps = λ was. later.keeps (waits_by x was e)
          ∙ keeps_go (is_delete e) (list_any is_delete events) was (waits_by x was e) (now.keeps_it was);
      stops_none = or-none (stops x e) (list_any (stops x) events) now.stops_not later.stops_none;
      calls_none = first-call e events ∙ now.calls_not;
    }

-- ---- an arming

is-bool : (a b : Bool) → is_bool a b ≡ true → a ≡ b
is-bool true true e = refl
is-bool true false e = sym e
is-bool false true e = e
is-bool false false e = refl

named-so : (x : Dir) (read write : Bool) (f : Dir → Bool) → read ≡ f Read → write ≡ f Write → names x read write ≡ f x
named-so Read read write f e g = e
named-so Write read write f e g = g

pub reads-quiet : (none : Bool) (key : ℕ) (c : Course) →
    is_quiet_stage (if none then finished else reading key c) ≡ true
reads-quiet true key c = refl
reads-quiet false key c = refl

-- an arming, and what follows it: the direction waits then that stopped or waited already
pub record Armed (x y : Dir) (waiting : Bool) (events : List Event) : Type 0 where
  arms_it : waits_through x waiting events
      ≡ (if list_any is_delete events then false else (is_dir x (Some y) || waiting))
  pub stops_none : list_any (stops x) events ≡ false
  calls_none : begins_with_call events ≡ false

or-or : (d wt : Bool) → (wt || (d || wt)) ≡ (d || wt)
or-or true true = refl
or-or true false = refl
or-or false true = refl
or-or false false = refl

pub armed : (s : Session) (wire : ℕ) (h : Here) (x y : Dir) (key : ℕ) (c : Course) (events : List Event) →
    goes_on s wire h (Some (arming key c y)) events ≡ Some finished →
    Armed x y (h.is_waiting x) events
armed s wire h x y key c [] g = absurd (unfinished key c y g)
  where
    unfinished : (key : ℕ) (c : Course) (y : Dir) → Some (arming key c y) ≡ Some finished → ⊥
    unfinished key c y e = cc
armed s wire h x y key c (event.Modify w k read write true ∷ events) g =
    let wt : Bool = h.is_waiting x in
    let bool : Bool = is_bool read (is_armed_with h y Read) && is_bool write (is_armed_with h y Write) in
    let step = stepped s wire h (arming key c y) (event.Modify w k read write true) events g in
    let met = guarded ((w == wire) && ((k == key) && bool)) (then_reads s h key c) step.after step.by in
    let inner = and_parts (w == wire) ((k == key) && bool) met.0 in
    let bools =
    and_parts (is_bool read (is_armed_with h y Read)) (is_bool write (is_armed_with h y Write))
    (and_parts (k == key) bool inner.1).1 in
    let names_it : names x read write ≡ is_armed_with h y x =
    named-so x read write (is_armed_with h y) (is-bool read (is_armed_with h y Read) bools.0)
    (is-bool write (is_armed_with h y Write) bools.1) in
    let later = quiet s wire (here_by h (event.Modify w k read write true)) x step.after events
    (subst (λ z. is_quiet_stage z ≡ true) met.1 (reads-quiet (is_none (limit s h c)) key c)) step.rest in
    record {
      arms_it = later.keeps (wt || names x read write)
          ∙ ap (λ z. if list_any is_delete events then false else z) (ap (λ z. wt || z) names_it
          ∙ or-or (is_dir x (Some y)) wt);
      stops_none = later.stops_none;
      calls_none = refl;
    }
armed s wire h x y key c (e ∷ events) g = absurd (nowhere s wire (here_by h e) events g)

-- ---- a conversation

-- a conversation goes on with a call
calls_first : (s : Session) (wire : ℕ) (h : Here) (key : ℕ) (c : Course) (events : List Event) →
    goes_on s wire h (Some (conversing key c)) events ≡ Some finished → begins_with_call events ≡ true
calls_first s wire h key c [] g = absurd (unfinished key c g)
  where
    unfinished : (key : ℕ) (c : Course) → Some (conversing key c) ≡ Some finished → ⊥
    unfinished key c e = cc
calls_first s wire h key c (event.Recv w n answer ∷ events) g = refl
calls_first s wire h key c (event.Send w bytes answer ∷ events) g = refl
calls_first s wire h key c (e ∷ events) g = absurd (nowhere s wire (here_by h e) events g)

-- ---- what events of a visit show of a direction that waits before them, or doesn't

abbrev Shows : Dir → Bool → List Event → Type 0
Shows x waiting events = waits_through x waiting events ≡ left_after x waiting events

-- what an event does before others: whether it is a removal, a NotReady of the direction, and whether a call follows
abbrev front : Bool → Bool → Bool → Bool → Bool → Bool → Bool → Bool
front de del se st r c wt = if de || del then false else if se || st then (if st then r else se && not c) else wt

quiet-shows : (x : Dir) (wt : Bool) (events : List Event) → Quiet x events → Shows x wt events
quiet-shows x wt events q =
    q.keeps wt
    ∙ ap (λ st. if list_any is_delete events then false else if st then is_left x events else wt) (sym q.stops_none)

neutral_go : (l de del se st r c wt : Bool) → de ≡ false → se ≡ false →
    l ≡ (if del then false else if st then r else wt) → l ≡ front de del se st r c wt
neutral_go l de true se st r c wt d e h = rw d h
neutral_go l de false se true r c wt d e h = rw (d, e) h
neutral_go l de false se false r c wt d e h = rw (d, e) h

again_go : (l de del se st r c wt : Bool) → de ≡ false → c ≡ true → (se ≡ true → wt ≡ false) →
    l ≡ (if del then false else if st then r else wt) →
    l ≡ front de del se st r c wt
again_go l de true se st r c wt d ce f h = rw d h
again_go l de false true true r c wt d ce f h = rw d h
again_go l de false true false r c wt d ce f h = rw d (h ∙ (f refl ∙ rw ce refl))
again_go l de false false true r c wt d ce f h = rw d h
again_go l de false false false r c wt d ce f h = rw d h

waits_go : (l de del se st r c wt : Bool) → de ≡ false → st ≡ false → c ≡ false → (se ≡ true → wt ≡ true) →
    l ≡ (if del then false else wt) → l ≡ front de del se st r c wt
waits_go l de true se st r c wt d q ce f h = rw d h
waits_go l de false true st r c wt d q ce f h = rw (d, q, ce) (h ∙ f refl)
waits_go l de false false st r c wt d q ce f h = rw (d, q) h

armed_go : (l de del se st r c wt : Bool) → de ≡ false → st ≡ false → c ≡ false →
    l ≡ (if del then false else (se || wt)) → l ≡ front de del se st r c wt
armed_go l de true se st r c wt d q ce h = rw d h
armed_go l de false true st r c wt d q ce h = rw (d, q, ce) h
armed_go l de false false st r c wt d q ce h = rw (d, q) h

dir-same : (x y : Dir) → is_dir x (Some y) ≡ true → x ≡ y
dir-same Read Read e = refl
dir-same Read Write e = cc
dir-same Write Read e = cc
dir-same Write Write e = refl

pub mapped : {A B : Type 0} (f : A → B) (o : Option A) (b : B) → option_map f o ≡ Some b →
    (a : A) × (o ≡ Some a) × (f a ≡ b)
mapped f None b e = absurd (none-not-some b e)
mapped f (Some a) b e = (a, refl, some-inj (f a) b e)

-- an event that is no removal and no arming
record IsPlain (x : Dir) (e : Event) : Type 0 where
  keeps_it : (was : Bool) → waits_by x was e ≡ was
  deletes_not : is_delete e ≡ false

by_it : (x : Dir) (was : Bool) (e : Event) →
    reported_by x was e ≡ (if is_delete e then false else (was && not (stops x e)))
by_it x was (event.Delete wire key ok) = refl
by_it x was _ = refl

-- a direction that was reported doesn't wait
abbrev Apart : Dir → Here → Type 0
Apart x h = h.was_reported x ≡ true → h.is_waiting x ≡ false

apart-by : (x : Dir) (h : Here) (e : Event) → IsPlain x e → Apart x h → Apart x (here_by h e)
apart-by x h e plain apart r =
    let was : Bool = h.was_reported x in
    let both : (was && not (stops x e)) ≡ true =
    sym (ap (λ d. if d then false else (was && not (stops x e))) plain.deletes_not) ∙ (sym (by_it x was e) ∙ r) in
    plain.keeps_it (h.is_waiting x) ∙ apart (and_parts was (not (stops x e)) both).0

module _ (s : Session) (wire : ℕ) (x : Dir) where
  -- a conversation that goes on with these events shows it
  abbrev GoesOn : List Event → Type 0
  GoesOn events =
      (h : Here) (key : ℕ) (c : Course) → Apart x h →
      goes_on s wire h (Some (conversing key c)) events ≡ Some finished → Shows x (h.is_waiting x) events

  neutral : (h : Here) (e : Event) (events : List Event) → IsPlain x e → stops x e ≡ false →
      Shows x ((here_by h e).is_waiting x) events → Shows x (h.is_waiting x) (e ∷ events)
  neutral h e events plain b g =
      let wt : Bool = h.is_waiting x in
      neutral_go (waits_through x (waits_by x wt e) events) (is_delete e) (list_any is_delete events) (stops x e)
      (list_any (stops x) events) (is_left x events)
      (begins_with_call events) wt plain.deletes_not b (g ∙ ap (λ z. left_after x z events) (plain.keeps_it wt))

  -- after a NotReady of y
  stop-shows : (y : Dir) (h : Here) (key : ℕ) (c : Course) (e : Event) (events : List Event) (is w : Bool) →
      h.was_reported y ≡ is → h.is_waiting y ≡ w →
      IsPlain x e → stops x e ≡ is_dir x (Some y) → GoesOn events → Apart x h →
      goes_on s wire (here_by h e)
      (Some (if is then conversing key c else if w then then_reads s h key c else arming key c y)) events
      ≡ Some finished →
      Shows x (h.is_waiting x) (e ∷ events)
  stop-shows y h key c e events true w r v plain se ih apart g =
      let wt : Bool = h.is_waiting x in
      again_go (waits_through x (waits_by x wt e) events) (is_delete e) (list_any is_delete events) (stops x e)
      (list_any (stops x) events) (is_left x events)
      (begins_with_call events) wt plain.deletes_not (calls_first s wire (here_by h e) key c events g)
      (λ so. apart (subst (λ d. h.was_reported d ≡ true) (sym (dir-same x y (sym se ∙ so))) r))
      (ih (here_by h e) key c (apart-by x h e plain apart) g ∙ ap (λ z. left_after x z events) (plain.keeps_it wt))
  stop-shows y h key c e events false true r v plain se ih apart g =
      let wt : Bool = h.is_waiting x in
      let q = quiet s wire (here_by h e) x (then_reads s h key c) events (reads-quiet (is_none (limit s h c)) key c)
      g in
      waits_go (waits_through x (waits_by x wt e) events) (is_delete e) (list_any is_delete events) (stops x e)
      (list_any (stops x) events) (is_left x events)
      (begins_with_call events) wt plain.deletes_not q.stops_none q.calls_none
      (λ so. subst (λ d. h.is_waiting d ≡ true) (sym (dir-same x y (sym se ∙ so))) v)
      (q.keeps (waits_by x wt e) ∙ ap (λ z. if list_any is_delete events then false else z) (plain.keeps_it wt))
  stop-shows y h key c e events false false r v plain se ih apart g =
      let wt : Bool = h.is_waiting x in
      let q = armed s wire (here_by h e) x y key c events g in
      armed_go (waits_through x (waits_by x wt e) events) (is_delete e) (list_any is_delete events) (stops x e)
      (list_any (stops x) events) (is_left x events)
      (begins_with_call events) wt plain.deletes_not q.stops_none q.calls_none
      (q.arms_it
      ∙ (ap (λ z. if list_any is_delete events then false else (is_dir x (Some y) || z)) (plain.keeps_it wt)
      ∙ ap (λ z. if list_any is_delete events then false else (z || wt)) (sym se)))

  -- after another answer
  other-shows : (h : Here) (key : ℕ) (c : Course) (e : Event) (events : List Event) (b : Bool) → IsPlain x e →
      stops x e ≡ false → GoesOn events → Apart x h →
      goes_on s wire (here_by h e) (Some (if b then leaving key c else conversing key c)) events ≡ Some finished →
      Shows x (h.is_waiting x) (e ∷ events)
  other-shows h key c e events true plain se ih apart g =
      neutral h e events plain se
      (quiet-shows x ((here_by h e).is_waiting x) events (quiet s wire (here_by h e) x (leaving key c) events refl g))
  other-shows h key c e events false plain se ih apart g =
      neutral h e events plain se (ih (here_by h e) key c (apart-by x h e plain apart) g)

  call-shows : (h : Here) (key : ℕ) (c : Course) (e : Event) (events : List Event) (so : Option Dir) → stop_of e ≡ so →
      IsPlain x e → GoesOn events → Apart x h →
      goes_on s wire (here_by h e) (Some (after_call s h key so c)) events ≡ Some finished →
      Shows x (h.is_waiting x) (e ∷ events)
  call-shows h key c e events None is plain ih apart g =
      other-shows h key c e events (is_ended (outcome_in false c.progress)) plain (ap (is_dir x) is) ih apart g
  call-shows h key c e events (Some y) is plain ih apart g =
      stop-shows y h key c e events (h.was_reported y) (h.is_waiting y) refl refl plain (ap (is_dir x) is) ih apart g

  conversing-shows : (events : List Event) → GoesOn events
  conversing-shows [] h key c apart g = refl
  conversing-shows (event.Recv w n answer ∷ events) h key c apart g =
      let e : Event = event.Recv w n answer in
      let step = stepped s wire h (conversing key c) e events g in
      let m = mapped (after_call s h key (stop_of e)) (asked (w == wire) c e) step.after step.by in
      call-shows h key m.0 e events (stop_of e) refl (record { keeps_it = λ was. refl; deletes_not = refl })
      (conversing-shows events) apart
      (subst (λ z. goes_on s wire (here_by h e) (Some z) events ≡ Some finished) (sym m.2) step.rest)
  conversing-shows (event.Send w bytes answer ∷ events) h key c apart g =
      let e : Event = event.Send w bytes answer in
      let step = stepped s wire h (conversing key c) e events g in
      let m = mapped (after_call s h key (stop_of e)) (asked (w == wire) c e) step.after step.by in
      call-shows h key m.0 e events (stop_of e) refl (record { keeps_it = λ was. refl; deletes_not = refl })
      (conversing-shows events) apart
      (subst (λ z. goes_on s wire (here_by h e) (Some z) events ≡ Some finished) (sym m.2) step.rest)
  conversing-shows (e ∷ events) h key c apart g = absurd (nowhere s wire (here_by h e) events g)

  registering-shows : (h : Here) (c : Course) (events : List Event) → Apart x h →
      goes_on s wire h (Some (registering c)) events ≡ Some finished → Shows x (h.is_waiting x) events
  registering-shows h c [] apart g = refl
  registering-shows h c (event.Add w key true ∷ events) apart g =
      let e : Event = event.Add w key true in
      let plain : IsPlain x e = record { keeps_it = λ was. refl; deletes_not = refl } in
      let step = stepped s wire h (registering c) e events g in
      let met = guarded ((w == wire) && is_none (h.holder_of key)) (conversing key c) step.after step.by in
      neutral h e events plain refl
      (conversing-shows events (here_by h e) key c (apart-by x h e plain apart)
      (subst (λ z. goes_on s wire (here_by h e) (Some z) events ≡ Some finished) (sym met.1) step.rest))
  registering-shows h c (e ∷ events) apart g = absurd (nowhere s wire (here_by h e) events g)

  opened-shows : (h : Here) (c : Course) (p : Progress) (events : List Event) → Apart x h →
      (goes_on s wire h (Some (dialling c)) events ≡ Some finished → Shows x (h.is_waiting x) events) →
      goes_on s wire h (Some (after_dial_to c p)) events ≡ Some finished → Shows x (h.is_waiting x) events
  opened-shows h c (dials d) events apart ih g = ih g
  opened-shows h c (converses talk t) events apart ih g = registering-shows h c events apart g
  opened-shows h c (over o) events apart ih g =
      quiet-shows x (h.is_waiting x) events (quiet s wire h x finished events refl g)

  dialling-shows : (events : List Event) (h : Here) (c : Course) → Apart x h →
      goes_on s wire h (Some (dialling c)) events ≡ Some finished → Shows x (h.is_waiting x) events
  dialling-shows [] h c apart g = refl
  dialling-shows (event.Dial w question answer ∷ events) h c apart g =
      let e : Event = event.Dial w question answer in
      let plain : IsPlain x e = record { keeps_it = λ was. refl; deletes_not = refl } in
      let later = apart-by x h e plain apart in
      let step = stepped s wire h (dialling c) e events g in
      let m = mapped after_dial (asked (w == wire) c e) step.after step.by in
      neutral h e events plain refl
      (opened-shows (here_by h e) m.0 m.0.progress events later (λ k. dialling-shows events (here_by h e) m.0 later k)
      (subst (λ z. goes_on s wire (here_by h e) (Some z) events ≡ Some finished) (sym m.2) step.rest))
  dialling-shows (e ∷ events) h c apart g = absurd (nowhere s wire (here_by h e) events g)

  visit_from : (h : Here) (c : Option Course) (was : Bool) (key : Option ℕ) (events : List Event) → Apart x h →
      goes_on s wire h (option_and_then (starts_at was key) c) events ≡ Some finished → Shows x (h.is_waiting x) events
  visit_from h None was key events apart g = absurd (nowhere s wire h events g)
  visit_from h (Some c) false key events apart g =
      opened-shows h c c.progress events apart (λ k. dialling-shows events h c apart k) g
  visit_from h (Some c) true None events apart g = absurd (nowhere s wire h events g)
  visit_from h (Some c) true (Some key) events apart g = conversing-shows events h key c apart g

visit-shows : (s : Session) (wire : ℕ) (past : Pieces) (x : Dir) (events : List Event) →
    (reported x wire past ≡ true → waits x wire past ≡ false) → Visit s wire past events →
    Shows x (waits x wire past) events
visit-shows s wire past x events apart v =
    visit_from s wire x (here wire past) (course s (part wire (told past))) (was_visited_before wire past)
    (key_of wire past) events apart v

-- ---- what a visit leaves of a report

reported_go : (de del se st was : Bool) (e : Event) (by : Bool) → by ≡ (if de then false else (was && not se)) →
    (if del then false else (by && not st)) ≡ (if de || del then false else (was && not (se || st)))
reported_go true true se st was e by h = refl
reported_go true false se st was e by h = rw h refl
reported_go false true se st was e by h = refl
reported_go false false true st true e by h = rw h refl
reported_go false false true st false e by h = rw h refl
reported_go false false false st true e by h = rw h refl
reported_go false false false st false e by h = rw h refl

reported-after : (x : Dir) (was : Bool) (events : List Event) →
    reported_through x was events
    ≡ (if list_any is_delete events then false else (was && not (list_any (stops x) events)))
reported-after x true [] = refl
reported-after x false [] = refl
reported-after x was (e ∷ events) =
    reported-after x (reported_by x was e) events
    ∙ reported_go (is_delete e) (list_any is_delete events) (stops x e) (list_any (stops x) events) was e
    (reported_by x was e) (by_it x was e)

-- ---- over all pieces

round_go : (rep wt named : Bool) → (rep ≡ true → wt ≡ false) → (rep || (wt && named)) ≡ true → (wt && not named) ≡ false
round_go true wt named apart h = rw (apart refl) refl
round_go false true true apart h = refl
round_go false true false apart h = absurd (false-not-true h)
round_go false false named apart h = refl

apart_visit : (del st r wt rep l : Bool) → l ≡ (if del then false else if st then r else wt) →
    (rep ≡ true → wt ≡ false) →
    (if del then false else (rep && not st)) ≡ true → l ≡ false
apart_visit true st r wt rep l e apart h = e
apart_visit false true r wt true l e apart h = absurd (false-not-true h)
apart_visit false true r wt false l e apart h = absurd (false-not-true h)
apart_visit false false r wt true l e apart h = e ∙ apart refl
apart_visit false false r wt false l e apart h = absurd (false-not-true h)

own_or_not : (own a b c : Bool) → (own ≡ true → a ≡ b) → c ≡ b → (if own then a else c) ≡ b
own_or_not true a b c f e = f refl
own_or_not false a b c f e = e

own_alike : (own a b c d : Bool) → (own ≡ true → a ≡ b) → c ≡ d → (if own then a else c) ≡ (if own then b else d)
own_alike true a b c d f e = f refl
own_alike false a b c d f e = e

module _ (x : Dir) (wire : ℕ) where
  shows-own : {sessions : List Session} {n : ℕ} (past : Pieces) (w : ℕ) (events : List Event) {wires : List ℕ} →
      (reported x wire past ≡ true → waits x wire past ≡ false) → Run sessions n (past ▸ visit w events) wires →
      (w == wire) ≡ true → Shows x (waits x wire past) events
  shows-own past w events apart run own =
      let v = was_visited run in
      visit-shows v.session wire past x events apart
      (subst (λ u. Visit v.session u past events) (eqb-true w wire own) v.visits)

  apart_either : (own : Bool) (past : Pieces) (events : List Event) →
      (own ≡ true → Shows x (waits x wire past) events) → (reported x wire past ≡ true → waits x wire past ≡ false) →
      (if own then reported_through x (reported x wire past) events else reported x wire past) ≡ true →
      (if own then waits_through x (waits x wire past) events else waits x wire past) ≡ false
  apart_either true past events shows apart h =
      apart_visit (list_any is_delete events) (list_any (stops x) events) (is_left x events) (waits x wire past)
      (reported x wire past)
      (waits_through x (waits x wire past) events) (shows refl) apart
      (sym (reported-after x (reported x wire past) events) ∙ h)
  apart_either false past events shows apart h = apart h

  -- a direction that was reported doesn't wait
  apart : {sessions : List Session} {n : ℕ} (pieces : Pieces) {wires : List ℕ} → Run sessions n pieces wires →
      reported x wire pieces ≡ true → waits x wire pieces ≡ false
  apart nothing run h = refl
  apart (past ▸ visit w events) run h =
      let before = apart past (run-back past (visit w events) run).1 in
      apart_either (w == wire) past events (shows-own past w events before run) before h
  apart (past ▸ round r) run h =
      round_go (reported x wire past) (waits x wire past) (reports x wire past r)
      (apart past (run-back past (round r) run).1) h

  pub waits_left : {sessions : List Session} {n : ℕ} (pieces : Pieces) {wires : List ℕ} → Run sessions n pieces wires →
      waits x wire pieces ≡ was_left x wire pieces
  waits_left nothing run = refl
  waits_left (past ▸ visit w events) run =
      let before = (run-back past (visit w events) run).1 in
      let same : waits x wire past ≡ was_left x wire past = waits_left past before in
      own_alike (w == wire) (waits_through x (waits x wire past) events) (left_after x (was_left x wire past) events)
      (waits x wire past) (was_left x wire past)
      (λ own. shows-own past w events (apart past before) run own ∙ ap (λ b. left_after x b events) same) same
  waits_left (past ▸ round r) run =
      ap (λ b. b && not (reports x wire past r)) (waits_left past (run-back past (round r) run).1)

pub waits_where_left : (sessions : List Session) → WaitsWhereLeft sessions
waits_where_left sessions n pieces wires x wire run = waits_left x wire pieces run
