-- A first visit: a wire was opened, and its source is added.
use Rattle.std.proofs.Common.{◌≡◌, ◌<◌, ◌^◌, ℕ, Bool, true, false, nat_lt, List, [], ◌∷◌, map, Option, Some, None, ◌≢◌, Result, Ok, Err, IfOk, OnErr, refl, sym, ◌∙◌, ap, subst, arith}
use Rattle.std.specs.Option.{option_map}
use Rattle.react_core.specs.Places.{Source}
use Rattle.react_core.specs.declared.outside.Event.{Event}
use Rattle.react_core.specs.declared.outside.Event.TheVariants as event
use Rattle.react_core.specs.declared.reactor.ReactError.{ReactError}
use Rattle.react_core.specs.declared.reactor.ReactError.TheVariants as react_error
use Rattle.react_core.specs.Causes.{InsertTold}
use Rattle.react_core.specs.Core.{Core, inserted, timers_applied}
use Rattle.react_core.specs.Sources.{source_of, with_new, new_source}
use Rattle.react_core.specs.Told.{told, told-nothing}
use Rattle.bus_opening.specs.Talk.{Said}
use Rattle.bus_opening.specs.Openings.{Opening, StandsIn}
use Rattle.bus_session.specs.declared.ended.Ending.{Ending}
use Rattle.bus_session.specs.declared.ended.Ended.{Ended}
use Rattle.bus_session.specs.declared.session.Session.{Session}
use Rattle.bus_visit.specs.declared.visiting.Slot.{Slot}
use Rattle.bus_visit.specs.declared.visiting.Slot.TheVariants as slot
use Rattle.bus_session.specs.Dialling.{conversation}
use Rattle.bus_session.specs.Dialling as dialling
use Rattle.bus_visit.specs.declared.dialling.OpenWire.{OpenWire}
use Rattle.bus_visit.specs.declared.dialling.Dialled.{Dialled}
use Rattle.bus_visit.specs.declared.dialling.Dialled.TheVariants as dialleds
use Rattle.bus_visit.specs.declared.dialling.Reached.{Reached}
use Rattle.bus_visit.specs.Conversed.{is_awake}
use Rattle.bus_visit.specs.Dialled.{Answered, dials_of, DialsTo, as_opened, as_dialling}
use Rattle.bus_visit.specs.Registry.{Idle, held_at, with_held}
use Rattle.bus_visit.specs.Shown.{AllSane, IsBetweenCalls, shown, Tags, tags, tag_at, without_tag, has_wire, Single}
use Rattle.bus_visit.specs.declared.timing.Limit.{Limit}
use Rattle.bus_visit.specs.Visited.{KeepsCall}
use Rattle.bus_visit.specs.Timed.{limit_of, MakesVisit}
use Rattle.bus_visit.specs.First.{Registers, FirstTags, FirstVisits, undialled, dialled}
use Rattle.bus_visit.specs.Failing.{IfPoller, VisitFails, VisitRunsOut, RegisteredThen, RegisteredRunsOut, OpenedFails}
use Rattle.bus_visit.specs.Failing.{unregistered, registered, FirstVisitFails, FirstVisitRunsOut}
use Rattle.bus_visit.proofs.TimedVisits.{visit-tags, visit-key, visit-kept}
use Rattle.bus_visit.specs.Noted.{Holds}
use Rattle.bus_visit.specs.laws.Dials.{dials-unnumbered}
use Rattle.bus_visit.specs.laws.Sources.{held_at-shown, with_new-shown}
use Rattle.bus_visit.specs.laws.Records.{unnumbered-waits, unnumbered-notices}
use Rattle.bus_visit.proofs.TurnLemmas.{keeps-after, keeps-unnumbered}
use Rattle.bus_visit.proofs.NewTags.{with_tag, tags-with_new, source-no_tag, tag_at-with, other_tag-with, other_wire-with, single-with, without-with}
use Rattle.bus_visit.specs.laws.Tags.{tag-held, single-distinct, distinct-single}

pub if-ok : {T E : Type 0} {P Q : T → Type 0} (r : Result T E) → ((x : T) → P x → Q x) → IfOk r P → IfOk r Q
if-ok (Ok x) f h = f x h
if-ok (Err e) f h = h

pub refused-by : {T E : Type 0} {P Q : Type 0} (r : Result T E) → (P → Q) → OnErr r P → OnErr r Q
refused-by (Ok x) f h = h
refused-by (Err e) f h = f h

-- ---- a new source

sane_go : (r l key wire : ℕ) (x : ℕ × Source) (sources : List (ℕ × Source)) (b : Bool) → nat_lt key x.0 ≡ b →
    AllSane r l (x ∷ sources) → AllSane r l (with_new sources key (new_source wire)) →
    AllSane r l (with_new (x ∷ sources) key (new_source wire))
sane_go r l key wire x sources true e sane ih = rw e (((omega arith, tt, refl), (omega arith, tt, refl)), sane)
sane_go r l key wire x sources false e sane ih = rw e (sane.0, ih)

pub sane-new : (r l key wire : ℕ) (sources : List (ℕ × Source)) → AllSane r l sources → AllSane r l (with_new sources key (new_source wire))
sane-new r l key wire [] sane = (((omega arith, tt, refl), (omega arith, tt, refl)), tt)
sane-new r l key wire (x ∷ sources) sane = sane_go r l key wire x sources (nat_lt key x.0) refl sane (sane-new r l key wire sources sane.1)

module _ (old mid : Core) (wire key : ℕ) (free : source_of old.sources key ≡ None) (is : mid ≡ inserted old key wire) where
  tags-inserted : tags mid.sources ≡ with_tag (tags old.sources) key wire
  tags-inserted = ap (λ x. tags x.sources) is ∙ tags-with_new old.sources key (new_source wire)

  pub inserted-free : held_at (map shown old.sources) key ≡ None
  inserted-free = held_at-shown old.sources key ∙ ap (option_map _) free

  pub inserted-shows : with_held (map shown old.sources) (record { key = key; wire = wire; read = Idle; write = Idle }) ≡ map shown mid.sources
  inserted-shows = sym (ap (λ x. map shown x.sources) is ∙ with_new-shown old.sources key (new_source wire))

  pub inserted-holds : Holds mid key wire
  inserted-holds = tag-held mid.sources key wire (ap (λ ts. tag_at ts key) tags-inserted ∙ tag_at-with (tags old.sources) key wire (source-no_tag old.sources key free))

  pub inserted-rests : has_wire wire (tags old.sources) ≡ false → IsBetweenCalls old → IsBetweenCalls mid
  inserted-rests new rests =
      let S : Tags → Type 0 = λ ts. Single ts in
      let R : Core → Type 0 = λ x. AllSane x.ticker x.ticker x.sources in
      let F : Core → Type 0 = λ x. x.begun < 2 ^ 64 in
      record {
        sane = subst R (sym is) (sane-new old.ticker old.ticker key wire old.sources rests.sane);
        distinct = single-distinct mid.sources (subst S (sym tags-inserted) (single-with (tags old.sources) key wire new (distinct-single old.sources rests.distinct)));
        idle = ap (λ x. x.hands) is ∙ rests.idle;
        fits = subst F (sym is) rests.fits;
      }

  -- the key's removal is that of its insertion
  tags-back : without_tag (tags mid.sources) key ≡ tags old.sources
  tags-back = ap (λ ts. without_tag ts key) tags-inserted ∙ without-with (tags old.sources) key wire (source-no_tag old.sources key free)

  -- the visit was refused, and the source taken out
  pub inserted-keeps : (r0 r1 r2 : Option (List Event)) (new : Core) → r1 ≡ told r0 (event.Add wire key true ∷ []) →
      KeepsCall (without_tag (tags mid.sources) key) r1 r2 mid new → KeepsCall (tags old.sources) r0 r2 old new
  inserted-keeps r0 r1 r2 new added keeps =
      let K : Tags → Type 0 = λ ts. KeepsCall ts r1 r2 mid new in
      keeps-after (tags old.sources) r0 r1 r2 old mid new (event.Add wire key true ∷ []) added refl (ap (λ c. c.ticker) is)
      (omega (arith, ap (λ c. c.made) is)) (subst K tags-back keeps)

  tags-asleep : (key' : ℕ) (new : Core) → key' ≡ key → has_wire wire (tags old.sources) ≡ false →
      tags new.sources ≡ tags mid.sources → (tag_at (tags old.sources) key' ≡ None)
      × (tag_at (tags new.sources) key' ≡ Some wire)
      × ((k : ℕ) → k ≢ key' → tag_at (tags new.sources) k ≡ tag_at (tags old.sources) k)
      × ((w : ℕ) → w ≢ wire → has_wire w (tags new.sources) ≡ has_wire w (tags old.sources))
      × (Single (tags old.sources) → Single (tags new.sources))
  tags-asleep key' new at new_wire same =
      let ts : Tags = tags old.sources in
      let no_tag : tag_at ts key ≡ None = source-no_tag old.sources key free in
      let now : tags new.sources ≡ with_tag ts key wire = same ∙ tags-inserted in
      let S : Tags → Type 0 = λ t. Single t in (
        ap (tag_at ts) at ∙ no_tag,
        ap (tag_at (tags new.sources)) at ∙ (ap (λ t. tag_at t key) now ∙ tag_at-with ts key wire no_tag),
        λ k other. ap (λ t. tag_at t k) now ∙ other_tag-with ts key wire k (λ e. other (e ∙ sym at)),
        λ w other. ap (has_wire w) now ∙ other_wire-with ts key wire w other,
        λ single. subst S (sym now) (single-with ts key wire new_wire single),
      )

  pub inserted-tags : (limit : Option Limit) (r1 r2 : Option (List Event)) (new : Core) (client : Opening) (c : Slot) →
      has_wire wire (tags old.sources) ≡ false → MakesVisit wire key limit r1 r2 mid new client c →
      FirstTags wire (tags old.sources) (tags new.sources) c
  inserted-tags limit r1 r2 new client (slot.Ended e) new_wire v =
      visit-tags wire key limit r1 r2 mid new client (slot.Ended e) v ∙ tags-back
  inserted-tags limit r1 r2 new client (slot.Asleep sl) new_wire v =
      tags-asleep sl.key new (visit-key wire key limit r1 r2 mid new client sl v) new_wire
      (visit-tags wire key limit r1 r2 mid new client (slot.Asleep sl) v)
  inserted-tags limit r1 r2 new client slot.Refused new_wire v = absurd (visit-kept wire key limit r1 r2 mid new client v)

  pub inserted-registers : (s : Session) (wired : dialling.Opened) (r0 r1 r2 : Option (List Event)) (new : Core)
      (client : Opening) (c : Slot) → (talk : List (List ℕ) → Said) × (conversation s.party wired ≡ talk) × StandsIn
      talk [] client → client.written ≡ [] →
      r1 ≡ told r0 (event.Add wire key true ∷ []) → MakesVisit wire key (limit_of s.deadline) r1 r2 mid new client c →
      Registers s wire wired r0 r2 old new c
  inserted-registers s wired r0 r1 r2 new client c (talk, begun, stands) unwritten added stays =
      let S : Option (List Event) → Type 0 = λ r. MakesVisit wire key (limit_of s.deadline) r r2 mid new client c in (
        talk,
        client,
        key,
        mid,
        record {
          begins = begun;
          stands = stands;
          unwritten = unwritten;
          free = inserted-free;
          core = is;
          shows = inserted-shows;
          visits = subst S added stays;
        },
      )

  -- this came of the visit
  inserted-then : (s : Session) (wired : dialling.Opened) (client : Opening) (P : ℕ → Core → Opening → Type 0) →
      StandsIn (conversation s.party wired) [] client → client.written ≡ [] → P key mid client →
      RegisteredThen s wire wired old P
  inserted-then s wired client P stands unwritten comes = record {
    talk = conversation s.party wired;
    client = client;
    key = key;
    mid = mid;
    begins = refl;
    stands = stands;
    unwritten = unwritten;
    free = inserted-free;
    core = is;
    shows = inserted-shows;
    comes = comes;
  }

  -- a call of the poller failed in it
  pub inserted-fails : (s : Session) (wired : dialling.Opened) (ample : Bool) (r0 r1 r2 : Option (List Event))
      (client : Opening) → StandsIn (conversation s.party wired) [] client → client.written ≡ [] →
      r1 ≡ told r0 (event.Add wire key true ∷ []) →
      VisitFails wire key (limit_of s.deadline) ample r1 r2 mid client → OpenedFails s wire wired ample r0 r2 old
  inserted-fails s wired ample r0 r1 r2 client stands unwritten added fails =
      let F : Option (List Event) → Type 0 = λ r. VisitFails wire key (limit_of s.deadline) ample r r2 mid client in
      registered (inserted-then s wired client (λ k m c. VisitFails wire k (limit_of s.deadline) ample
      (told r0 (event.Add wire k true ∷ [])) r2 m c) stands unwritten (subst F added fails))

  -- its timer had no number
  pub inserted-runs-out : (s : Session) (wired : dialling.Opened) (ample : Bool) (r0 r1 r2 : Option (List Event))
      (client : Opening) → StandsIn (conversation s.party wired) [] client → client.written ≡ [] →
      r1 ≡ told r0 (event.Add wire key true ∷ []) →
      VisitRunsOut wire key (limit_of s.deadline) ample r1 r2 mid client →
      RegisteredRunsOut s wire wired ample r0 r2 old
  inserted-runs-out s wired ample r0 r1 r2 client stands unwritten added out =
      let F : Option (List Event) → Type 0 = λ r. VisitRunsOut wire key (limit_of s.deadline) ample r r2 mid client in
      inserted-then s wired client (λ k m c. VisitRunsOut wire k (limit_of s.deadline) ample
      (told r0 (event.Add wire k true ∷ [])) r2 m c) stands unwritten (subst F added out)

-- the registration failed
pub insert-fails : (s : Session) (wire : ℕ) (wired : dialling.Opened) (ample : Bool) (e : ReactError)
    (r0 r1 : Option (List Event)) (old : Core) → InsertTold old wire (Err e) r0 r1 →
    IfPoller e (OpenedFails s wire wired ample r0 r1 old)
insert-fails s wire wired ample react_error.Poller r0 r1 old (key, free, gained) =
    unregistered key (held_at-shown old.sources key ∙ ap (option_map _) free) gained
insert-fails s wire wired ample react_error.OutOfMemory r0 r1 old gained = tt
insert-fails s wire wired ample (react_error.Exhausted counter value) r0 r1 old gained = tt

-- the insertion was refused
pub insert-keeps : (wire : ℕ) (e : ReactError) (r0 r1 : Option (List Event)) (old new : Core) → IsBetweenCalls old →
    InsertTold old wire (Err e) r0 r1 → new ≡ old → KeepsCall (tags old.sources) r0 r1 old new
insert-keeps wire react_error.Poller r0 r1 old new rests (key, free, gained) same = (
  event.Add wire key false ∷ [],
  record { gained = gained; waits = refl; ticker = ap (λ c. c.ticker) same; made = omega (arith, ap (λ c. c.made) same); tags = ap (λ c. tags c.sources) same; closed = ap (λ c. c.hands) same ∙ rests.idle },
)
insert-keeps wire react_error.OutOfMemory r0 r1 old new rests gained same = (
  [],
  record {
    gained = gained ∙ told-nothing r0;
    waits = refl;
    ticker = ap (λ c. c.ticker) same;
    made = omega (arith, ap (λ c. c.made) same);
    tags = ap (λ c. tags c.sources) same;
    closed = ap (λ c. c.hands) same ∙ rests.idle;
  },
)
insert-keeps wire (react_error.Exhausted counter value) r0 r1 old new rests gained same = absurd gained

-- ---- the dialling

pub first-undialled : (s : Session) (wire : ℕ) (reached : Reached) (failure : Ending) (r0 r1 : Option (List Event)) (core : Core) (e : Ended) →
    (dials : List Answered) × DialsTo wire (dialling.begins s.party) (as_dialling reached.dialled) r0 r1 dials → reached.dialled ≡ dialleds.Failed failure →
    is_awake failure ≡ true → e ≡ record { ending = failure; written = []; leftover = []; wire = wire; moment = None } → FirstVisits s wire r0 r1 core core (slot.Ended e)
first-undialled s wire reached failure r0 r1 core e (dials, to) is awake says =
    let T : Dialled → Type 0 = λ d. DialsTo wire (dialling.begins s.party) (as_dialling d) r0 r1 dials in
    undialled dials failure e (subst T is to) awake refl refl says

pub first-dialled : (s : Session) (wire : ℕ) (reached : Reached) (wired : OpenWire) (r0 r1 r2 : Option (List Event)) (old new : Core) (c : Slot) →
    (dials : List Answered) × DialsTo wire (dialling.begins s.party) (as_dialling reached.dialled) r0 r1 dials → reached.dialled ≡ dialleds.Opened wired →
    Registers s wire (as_opened wired) r1 r2 old new c → FirstVisits s wire r0 r2 old new c
first-dialled s wire reached wired r0 r1 r2 old new c (dials, to) is registers =
    let T : Dialled → Type 0 = λ d. DialsTo wire (dialling.begins s.party) (as_dialling d) r0 r1 dials in
    dialled dials (as_opened wired) r1 (subst T is to) registers

-- the dialling told its Dials, and the call is refused after it
pub dials-keep : (wire : ℕ) (dials : List Answered) (r0 r1 : Option (List Event)) (core : Core) → IsBetweenCalls core → r1 ≡ told r0 (dials_of wire dials) →
    KeepsCall (tags core.sources) r0 r1 core core
dials-keep wire dials r0 r1 core rests gained =
    (dials_of wire dials, record { gained = gained; waits = unnumbered-waits (dials_of wire dials) (dials-unnumbered wire dials); ticker = refl; made = omega (arith, unnumbered-notices (dials_of wire dials) (dials-unnumbered wire dials)); tags = refl; closed = rests.idle })

pub dialled-keeps : (wire : ℕ) (dials : List Answered) (r0 r1 r2 : Option (List Event)) (old new : Core) → r1 ≡ told r0 (dials_of wire dials) →
    KeepsCall (tags old.sources) r1 r2 old new → KeepsCall (tags old.sources) r0 r2 old new
dialled-keeps wire dials r0 r1 r2 old new gained keeps =
    keeps-unnumbered (tags old.sources) r0 r1 r2 old old new (dials_of wire dials) gained (dials-unnumbered wire dials) refl refl keeps

-- a call of the poller failed behind the dialling
pub dialled-fails : (s : Session) (wire : ℕ) (reached : Reached) (wired : OpenWire) (ample : Bool)
    (r0 r1 r2 : Option (List Event)) (old : Core) → (dials : List Answered) ×
    DialsTo wire (dialling.begins s.party) (as_dialling reached.dialled) r0 r1 dials →
    reached.dialled ≡ dialleds.Opened wired → OpenedFails s wire (as_opened wired) ample r1 r2 old →
    FirstVisitFails s wire ample r0 r2 old
dialled-fails s wire reached wired ample r0 r1 r2 old (dials, to) is fails =
    let T : Dialled → Type 0 = λ d. DialsTo wire (dialling.begins s.party) (as_dialling d) r0 r1 dials in
    record { dials = dials; opened = as_opened wired; mid = r1; dialled = subst T is to; comes = fails }

-- its timer had no number
pub dialled-runs-out : (s : Session) (wire : ℕ) (reached : Reached) (wired : OpenWire) (ample : Bool)
    (r0 r1 r2 : Option (List Event)) (old : Core) → (dials : List Answered) ×
    DialsTo wire (dialling.begins s.party) (as_dialling reached.dialled) r0 r1 dials →
    reached.dialled ≡ dialleds.Opened wired → RegisteredRunsOut s wire (as_opened wired) ample r1 r2 old →
    FirstVisitRunsOut s wire ample r0 r2 old
dialled-runs-out s wire reached wired ample r0 r1 r2 old (dials, to) is out =
    let T : Dialled → Type 0 = λ d. DialsTo wire (dialling.begins s.party) (as_dialling d) r0 r1 dials in
    record { dials = dials; opened = as_opened wired; mid = r1; dialled = subst T is to; comes = out }
