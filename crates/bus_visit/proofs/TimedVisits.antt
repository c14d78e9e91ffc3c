-- What a visit over a registered wire leaves of the sources, by the session's deadline.
use Rattle.std.proofs.Common.{◌≡◌, ◌≢◌, ◌<◌, ◌≤◌, ◌+◌, ◌-◌, ◌^◌, ℕ, Bool, true, false, List, [], ◌∷◌, ◌++◌, Option}
use Rattle.std.proofs.Common.{inl, inr, Some, None, Result, Ok, Err, IfOk, refl, sym, ◌∙◌, ap, subst, arith}
use Rattle.react_core.specs.declared.outside.Event.{Event}
use Rattle.react_core.specs.declared.outside.Event.TheVariants as event
use Rattle.react_core.specs.declared.reactor.ReactError.{ReactError}
use Rattle.react_core.specs.declared.reactor.ReactError.TheVariants as react_error
use Rattle.react_core.specs.Causes.{RemoveTold, OnReactLack}
use Rattle.react_core.specs.Core.{Core, removed}
use Rattle.react_core.specs.Round.{OnExhausted}
use Rattle.react_core.specs.Sources.{source_of}
use Rattle.react_core.specs.Timing.{drawn, insertion_refused, insertion_told}
use Rattle.react_core.specs.Told.{told, told-told, told-nothing}
use Rattle.bus_opening.specs.Openings.{Opening}
use Rattle.bus_visit.specs.declared.timing.Limit.{Limit}
use Rattle.bus_visit.specs.declared.visiting.Sleeper.{Sleeper}
use Rattle.bus_visit.specs.declared.visiting.Slot.{Slot}
use Rattle.bus_visit.specs.declared.visiting.Slot.TheVariants as slot
use Rattle.bus_visit.specs.declared.timing.Alarm.{Alarm}
use Rattle.bus_visit.specs.declared.timing.Look.TheVariants as look
use Rattle.bus_visit.specs.Counts.{numbered_in}
use Rattle.bus_visit.specs.Failing.{RemovalTold, VisitFails, unnotified, unremoved, FailsVisit, RunsOutOfVisit}
use Rattle.bus_visit.specs.Noted.{Holds, arms_told}
use Rattle.bus_visit.specs.Shown.{IsBetweenCalls, Tags, tags, tag_at, without_tag}
use Rattle.bus_visit.specs.Visited.{tags_after, KeepsCall, MakesRegisteredVisit}
use Rattle.bus_visit.specs.Timed.{forgotten, timed_out, Looked, NoticeFails, TimerRunsOut, EndsVisit, GoesForward}
use Rattle.bus_visit.specs.Timed.{TimedVisit, over, untimed, late, early, MakesVisit}
use Rattle.bus_visit.specs.laws.Records.{unnumbered-waits, unnumbered-notices}
use Rattle.bus_visit.specs.laws.Tags.{tags-without, tag-held, held-tag}
use Rattle.bus_visit.specs.laws.Timers.{same-placed, timed-sources, forgotten-sources}
use Rattle.bus_visit.proofs.StayLemmas.{held-removal}
use Rattle.bus_visit.proofs.TurnLemmas.{keeps-unnumbered}

module _ (wire key : ℕ) (limit : Option Limit) (before after : Option (List Event)) (old : Core) (c : Opening) where
  forgets-tags : (last new : Core) → new ≡ forgotten limit last → tags new.sources ≡ tags last.sources
  forgets-tags last new is = ap (λ x. tags x.sources) is ∙ ap tags (forgotten-sources limit last)

  ended-tags : (e : _) (last : Core) → TimedVisit wire key limit before after old last c (slot.Ended e) →
      tags last.sources ≡ tags_after key (slot.Ended e) (tags old.sources)
  ended-tags e last (over d (h, h', calls, o, x)) = x.tags
  ended-tags e last (late l s mid there moment limited (h, h', calls, o, x) reached gained core) =
      ap (λ y. tags y.sources) core ∙ (tags-without mid.sources key ∙ ap (λ ts. without_tag ts key) x.tags)

  asleep-tags : (s : Sleeper) (last : Core) → TimedVisit wire key limit before after old last c (slot.Asleep s) →
      tags last.sources ≡ tags old.sources
  asleep-tags s last (untimed t none (h, h', calls, o, x)) = x.tags
  asleep-tags s last (early l s0 mid there a limited (h, h', calls, o, x) looked) =
      ap (λ y. tags y.sources) looked.core
      ∙ (ap tags (timed-sources l.number l.deadline wire mid) ∙ x.tags)

  asleep-key : (s : Sleeper) (last : Core) → TimedVisit wire key limit before after old last c (slot.Asleep s) →
      s.key ≡ key
  asleep-key s last (untimed t none (h, h', calls, o, x)) = x.stays.at
  asleep-key s last (early l s0 mid there a limited (h, h', calls, o, x) looked) = x.stays.at

  slot-not-refused : (s : Slot) (last : Core) → TimedVisit wire key limit before after old last c s →
      s ≡ slot.Refused → ⊥
  slot-not-refused s last (over e visits) is = absurd (cc)
  slot-not-refused s last (untimed sl none visits) is = absurd (cc)
  slot-not-refused s last (late l sl mid there moment limited visits reached gained core) is = absurd (cc)
  slot-not-refused s last (early l sl mid there a limited visits looked) is = absurd (cc)

  -- no visit comes to a refused slot
  unkept : (last : Core) → TimedVisit wire key limit before after old last c slot.Refused → ⊥
  unkept last v = slot-not-refused slot.Refused last v refl

-- which wires have keys after it
pub visit-tags : (wire key : ℕ) (limit : Option Limit) (before after : Option (List Event)) (old new : Core)
    (c : Opening) (s : Slot) → MakesVisit wire key limit before after old new c s →
    tags new.sources ≡ tags_after key s (tags old.sources)
visit-tags wire key limit before after old new c (slot.Ended e) (last, v, is) =
    forgets-tags wire key limit before after old c last new is
    ∙ ended-tags wire key limit before after old c e last v
visit-tags wire key limit before after old new c (slot.Asleep s) (last, v, is) =
    ap (λ x. tags x.sources) is ∙ asleep-tags wire key limit before after old c s last v
visit-tags wire key limit before after old new c slot.Refused (last, v, is) =
    absurd (unkept wire key limit before after old c last v)

-- a session that sleeps has the key
pub visit-key : (wire key : ℕ) (limit : Option Limit) (before after : Option (List Event)) (old new : Core)
    (c : Opening) (s : Sleeper) → MakesVisit wire key limit before after old new c (slot.Asleep s) → s.key ≡ key
visit-key wire key limit before after old new c s (last, v, is) =
    asleep-key wire key limit before after old c s last v

pub visit-kept : (wire key : ℕ) (limit : Option Limit) (before after : Option (List Event)) (old new : Core)
    (c : Opening) → MakesVisit wire key limit before after old new c slot.Refused → ⊥
visit-kept wire key limit before after old new c (last, v, is) = unkept wire key limit before after old c last v

-- ---- a look at the clock that was refused

-- the timer could not be made
pub insertion-keeps : (T : Type 0) (e : ReactError) (r0 r1 r2 : Option (List Event)) (moment : ℕ) (old new : Core) →
    IsBetweenCalls old → r1 ≡ told r0 (event.Now moment ∷ []) → r2 ≡ told r1 (insertion_told {T = T} (Err e)) →
    new ≡ insertion_refused {T = T} old (Err e) → KeepsCall (tags old.sources) r0 r2 old new
insertion-keeps T react_error.Poller r0 r1 r2 moment old new rests read gained core = (
  event.Now moment ∷ event.Notify false ∷ [],
  record {
    gained = gained ∙ (ap (λ r. told r (event.Notify false ∷ [])) read
        ∙ told-told r0 (event.Now moment ∷ []) (event.Notify false ∷ []));
    waits = refl;
    ticker = ap (λ c. c.ticker) core ∙ same-placed (λ c. c.ticker) (drawn old) refl;
    made = ap (λ c. c.made) core ∙ same-placed (λ c. c.made) (drawn old) refl;
    tags = ap (λ c. tags c.sources) core ∙ same-placed (λ c. tags c.sources) (drawn old) refl;
    closed = ap (λ c. c.hands) core ∙ (same-placed (λ c. c.hands) (drawn old) refl ∙ rests.idle);
  },
)
insertion-keeps T react_error.OutOfMemory r0 r1 r2 moment old new rests read gained core = (
  event.Now moment ∷ [],
  record {
    gained = gained ∙ (sym (told-nothing r1) ∙ read);
    waits = refl;
    ticker = ap (λ c. c.ticker) core ∙ same-placed (λ c. c.ticker) old refl;
    made = omega (arith, ap (λ c. c.made) core ∙ same-placed (λ c. c.made) old refl);
    tags = ap (λ c. tags c.sources) core ∙ same-placed (λ c. tags c.sources) old refl;
    closed = ap (λ c. c.hands) core ∙ (same-placed (λ c. c.hands) old refl ∙ rests.idle);
  },
)
insertion-keeps T (react_error.Exhausted c value) r0 r1 r2 moment old new rests read gained core = (
  event.Now moment ∷ [],
  record {
    gained = gained ∙ (sym (told-nothing r1) ∙ read);
    waits = refl;
    ticker = ap (λ c. c.ticker) core;
    made = omega (arith, ap (λ c. c.made) core);
    tags = ap (λ c. tags c.sources) core;
    closed = ap (λ c. c.hands) core ∙ rests.idle;
  },
)

-- ---- what is told behind a visit that left the session waiting for its wire

-- the source is still there where no tag changed
pub kept-holds : (old mid : Core) (key wire : ℕ) → Holds old key wire → tags mid.sources ≡ tags old.sources →
    Holds mid key wire
kept-holds old mid key wire (h, at, wired) same =
    tag-held mid.sources key wire
    (ap (λ ts. tag_at ts key) same ∙ (held-tag old.sources key h at ∙ ap Some wired))

removal-unnumbered : (ample : Bool) (wire key : ℕ) (own : List Event) → RemovalTold ample wire key own →
    numbered_in own ≡ 0
removal-unnumbered ample wire key own (inl (ok, is)) = ap numbered_in is
removal-unnumbered ample wire key own (inr (lack, is)) = ap numbered_in is

-- the deadline has come, and the source was taken out
pub late-keeps : (ample : Bool) (wire key : ℕ) (own : List Event) (r0 r1 r2 : Option (List Event)) (moment : ℕ)
    (old mid new : Core) → IsBetweenCalls old → r1 ≡ told r0 (event.Now moment ∷ []) → mid ≡ old →
    RemovalTold ample wire key own → r2 ≡ told r1 own → new ≡ removed mid key →
    KeepsCall (without_tag (tags old.sources) key) r0 r2 old new
late-keeps ample wire key own r0 r1 r2 moment old mid new rests read same removal gained core =
    let gone : new ≡ removed old key = core ∙ ap (λ c. removed c key) same in
    let none : numbered_in own ≡ 0 = removal-unnumbered ample wire key own removal in (
      event.Now moment ∷ own,
      record {
        gained = gained ∙ (ap (λ r. told r own) read ∙ told-told r0 (event.Now moment ∷ []) own);
        waits = unnumbered-waits own none;
        ticker = ap (λ c. c.ticker) gone;
        made = omega (arith, ap (λ c. c.made) gone, unnumbered-notices own none);
        tags = ap (λ c. tags c.sources) gone ∙ tags-without old.sources key;
        closed = ap (λ c. c.hands) gone ∙ rests.idle;
      },
    )

-- the same at Poller: the removal failed
pub late-fails : (ample : Bool) (wire : ℕ) (limit : Limit) (s : Sleeper) (r0 r1 r2 : Option (List Event)) (moment : ℕ)
    (mid : Core) → limit.deadline ≤ moment → r1 ≡ told r0 (event.Now moment ∷ []) →
    r2 ≡ told r1 (event.Delete wire s.key false ∷ []) → FailsVisit wire limit s ample r0 r2 mid
late-fails ample wire limit s r0 r1 r2 moment mid reached read gained = λ before old c visits.
    unremoved limit s mid r0 moment refl visits reached
    (gained ∙ (ap (λ r. told r (event.Delete wire s.key false ∷ [])) read
    ∙ told-told r0 (event.Now moment ∷ []) (event.Delete wire s.key false ∷ [])))

-- the session timed out
pub late-ends : (wire : ℕ) (limit : Limit) (s : Sleeper) (r0 r1 r2 : Option (List Event)) (moment : ℕ)
    (mid here new : Core) (then_ : Slot) → limit.deadline ≤ moment → r1 ≡ told r0 (event.Now moment ∷ []) →
    here ≡ mid → then_ ≡ slot.Ended (timed_out s wire moment) → r2 ≡ told r1 (event.Delete wire s.key true ∷ []) →
    new ≡ removed here s.key → EndsVisit wire limit s r0 r2 mid new then_
late-ends wire limit s r0 r1 r2 moment mid here new then_ reached read same is gained core = λ before old c visits.
    let V : Slot → Type 0 = λ x. TimedVisit wire s.key (Some limit) before r2 old new c x in
    subst V (sym is) (late limit s mid r0 moment refl visits reached
    (gained ∙ (ap (λ r. told r (event.Delete wire s.key true ∷ [])) read
    ∙ told-told r0 (event.Now moment ∷ []) (event.Delete wire s.key true ∷ [])))
    (core ∙ ap (λ x. removed x s.key) same))

-- the session sleeps on
pub early-ends : (wire : ℕ) (limit : Limit) (s : Sleeper) (r0 r1 : Option (List Event)) (mid new : Core) (a : Alarm) →
    Looked wire limit r0 r1 mid new (look.Early a) →
    EndsVisit wire limit s r0 r1 mid new (slot.Asleep (record s { alarm = Some a }))
early-ends wire limit s r0 r1 mid new a looked = λ before old c visits. early limit s mid r0 a refl visits looked

-- the notice failed, and the source was taken out
pub notice-fails : {T : Type 0} (ample : Bool) (wire : ℕ) (limit : Limit) (s : Sleeper)
    (r0 r1 r2 : Option (List Event)) (mid here : Core) (r : Result T ReactError) → Holds here s.key wire →
    OnReactLack r (ample ≡ false) → RemoveTold (source_of here.sources s.key) s.key r r1 r2 →
    NoticeFails limit r0 r1 → FailsVisit wire limit s ample r0 r2 mid
notice-fails ample wire limit s r0 r1 r2 mid here r holds lack gone f = λ before old c visits.
    let own = held-removal ample wire s.key here r r1 r2 holds lack gone in
    unnotified limit s mid r0 f.moment own.0 refl visits f.early f.unmade own.1
    (own.2 ∙ (ap (λ x. told x own.0) f.gained
    ∙ told-told r0 (event.Now f.moment ∷ event.Notify false ∷ []) own.0))

-- there was no number, and the source was taken out
pub timer-runs-out : {T : Type 0} (ample : Bool) (wire : ℕ) (limit : Limit) (s : Sleeper)
    (r0 r1 r2 : Option (List Event)) (mid here : Core) (r : Result T ReactError) → Holds here s.key wire →
    OnReactLack r (ample ≡ false) → RemoveTold (source_of here.sources s.key) s.key r r1 r2 →
    TimerRunsOut limit r0 r1 mid → RunsOutOfVisit wire limit s ample r0 r2 mid
timer-runs-out ample wire limit s r0 r1 r2 mid here r holds lack gone f = λ before old c visits.
    let own = held-removal ample wire s.key here r r1 r2 holds lack gone in
    record {
      of = limit;
      sleeper = s;
      mid = mid;
      there = r0;
      moment = f.moment;
      own = own.0;
      limited = refl;
      visits = visits;
      early = f.early;
      unmade = f.unmade;
      last = sym visits.4.made ∙ f.last;
      removal = own.1;
      gained = own.2 ∙ (ap (λ x. told x own.0) f.gained ∙ told-told r0 (event.Now f.moment ∷ []) own.0);
    }

-- where one thing holds at Exhausted, so does what follows from it
pub on-exhausted-by : (T U P Q : Type 0) (e : ReactError) → (P → Q) → OnExhausted {T = T} (Err e) P →
    OnExhausted {T = U} (Err e) Q
on-exhausted-by T U P Q react_error.Poller f p = tt
on-exhausted-by T U P Q react_error.OutOfMemory f p = tt
on-exhausted-by T U P Q (react_error.Exhausted c value) f p = f p

-- what a visit told up to there, and what came then
pub asleep-keeps : (wire key : ℕ) (s : Sleeper) (r0 r1 r2 : Option (List Event)) (old mid new : Core) (c : Opening) →
    MakesRegisteredVisit wire key r0 r1 old mid c (slot.Asleep s) →
    KeepsCall (without_tag (tags mid.sources) s.key) r1 r2 mid new →
    KeepsCall (without_tag (tags old.sources) key) r0 r2 old new
asleep-keeps wire key s r0 r1 r2 old mid new c (h, h', calls, o, x) kept =
    let K : Tags → Type 0 = λ ts. KeepsCall ts r1 r2 mid new in
    keeps-unnumbered (without_tag (tags old.sources) key) r0 r1 r2 old mid new (calls ++ arms_told o) x.gained
    x.unnumbered x.ticker x.made
    (subst K (ap (without_tag (tags mid.sources)) x.stays.at ∙ ap (λ ts. without_tag ts key) x.tags) kept)

pub asleep-fails : (wire key : ℕ) (limit : Limit) (s : Sleeper) (ample : Bool) (r0 r1 r2 : Option (List Event))
    (old mid : Core) (c : Opening) → MakesRegisteredVisit wire key r0 r1 old mid c (slot.Asleep s) →
    FailsVisit wire limit s ample r1 r2 mid → VisitFails wire key (Some limit) ample r0 r2 old c
asleep-fails wire key limit s ample r0 r1 r2 old mid c (h, h', calls, o, x) fails =
    let V : ℕ → Type 0 = λ k. MakesRegisteredVisit wire k r0 r1 old mid c (slot.Asleep s) in
    let F : ℕ → Type 0 = λ k. VisitFails wire k (Some limit) ample r0 r2 old c in
    subst F x.stays.at (fails r0 old c (subst V (sym x.stays.at) (h, h', calls, o, x)))

pub if-ok-both : {T E : Type 0} {P Q R : T → Type 0} (r : Result T E) → IfOk r P → IfOk r Q →
    ((x : T) → P x → Q x → R x) → IfOk r R
if-ok-both (Ok x) p q f = f x p q
if-ok-both (Err e) p q f = p

pub on-exhausted-map : (T P Q : Type 0) (r : Result T ReactError) → (P → Q) → OnExhausted r P → OnExhausted r Q
on-exhausted-map T P Q (Ok v) f p = tt
on-exhausted-map T P Q (Err react_error.Poller) f p = tt
on-exhausted-map T P Q (Err react_error.OutOfMemory) f p = tt
on-exhausted-map T P Q (Err (react_error.Exhausted c value)) f p = f p

-- the clock stood until then
pub forward-from : (a b : ℕ) (s : Slot) (now : ℕ) → b ≡ a → GoesForward b s now → GoesForward a s now
forward-from a b s now same forward = let G : ℕ → Type 0 = λ x. GoesForward x s now in subst G same forward
