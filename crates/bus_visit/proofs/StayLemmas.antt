-- The end of a visit: a session that sleeps, or whose source is taken out.
use Rattle.std.proofs.Common.{◌≡◌, inl, inr, ℕ, Bool, true, false, ◌==◌, List, [], ◌∷◌, ◌++◌, map, Option, Some, None, Result, Ok, Err, refl, sym, ◌∙◌, ap, subst, arith}
use Rattle.std.proofs.lemmas.List.{append-nil, append_assoc}
use Rattle.react_core.specs.Told.{told, told-told, told-nothing}
use Rattle.react_core.specs.Core.{Core, HasSource, removed}
use Rattle.react_core.specs.Causes.{RemoveTold, OnReactLack}
use Rattle.react_core.specs.Sources.{source_of, without}
use Rattle.react_core.specs.Places.{Source}
use Rattle.react_core.specs.declared.reactor.ReactError.{ReactError}
use Rattle.react_core.specs.declared.reactor.ReactError.TheVariants as react_error
use Rattle.react_core.specs.declared.outside.Event.{Event}
use Rattle.react_core.specs.declared.outside.Event.TheVariants as event
use Rattle.bus_opening.specs.Openings.{Opening}
use Rattle.bus_session.specs.declared.ended.Ending.{Ending}
use Rattle.bus_session.specs.declared.ended.Ended.{Ended}
use Rattle.bus_visit.specs.Visited as turn_end
use Rattle.bus_visit.specs.declared.visiting.Slot.TheVariants as slot
use Rattle.bus_visit.specs.Registry.{Held, held_at, registry, without_held}
use Rattle.bus_visit.specs.Counts.{numbered_in}
use Rattle.bus_visit.specs.Shown.{IsBetweenCalls, shown, tags, tag_at, without_tag}
use Rattle.bus_visit.specs.Visited.{TurnEnd, KeepsCall, Turns, RegisteredVisit, MakesRegisteredVisit}
use Rattle.bus_visit.specs.Failing.{TurnsFail, RemovalTold, EndFails, unarmed, undeleted, RegisteredVisitFails}
use Rattle.bus_visit.specs.Noted.{Holds, arms_told}
use Rattle.bus_visit.specs.laws.Records.{registry-append, numbered_in-append, unnumbered-waits, unnumbered-notices}
use Rattle.bus_visit.specs.laws.Sources.{without-shown}
use Rattle.bus_visit.proofs.NotReadyNotes.{held-source}
use Rattle.bus_visit.proofs.OtherWiresStay.{without-keeps, two-keys}
use Rattle.bus_visit.specs.laws.Tags.{tags-without, tag-has_source, tag-held, held-tag}
use Rattle.bus_visit.specs.laws.Removals.{rests-removed}
use Rattle.bus_visit.proofs.FailureLemmas.{told-instead}
use Rattle.bus_visit.proofs.TurnLemmas.{keeps-after}

-- ---- a source is taken out

-- a removal tells of its Delete at most
pub removed-told : {T : Type 0} (found : Option Source) (key : ℕ) (r : Result T ReactError) (before after : Option (List Event)) → RemoveTold found key r before after →
    (more : List Event) × (after ≡ told before more) × (numbered_in more ≡ 0)
removed-told None key r before after h = absurd h
removed-told (Some s) key (Ok v) before after h = (event.Delete s.wire key true ∷ [], h, refl)
removed-told (Some s) key (Err react_error.Poller) before after h = (event.Delete s.wire key false ∷ [], h, refl)
removed-told (Some s) key (Err react_error.OutOfMemory) before after h = ([], h ∙ told-nothing before, refl)
removed-told (Some s) key (Err (react_error.Exhausted counter value)) before after h = absurd h

-- the key's source is still there where no tag changed
pub kept-source : (old mid : Core) (key wire : ℕ) → Holds old key wire → tags mid.sources ≡ tags old.sources → HasSource mid key
kept-source old mid key wire (h, at, own) same = tag-has_source mid.sources key h.wire (ap (λ ts. tag_at ts key) same ∙ held-tag old.sources key h at)

-- what was told so far, and a removal
pub keeps-removed : {T : Type 0} (key : ℕ) (r : Result T ReactError) (r0 r1 r2 : Option (List Event)) (old mid new : Core) → KeepsCall (tags old.sources) r0 r1 old mid → new ≡ removed mid key →
    RemoveTold (source_of mid.sources key) key r r1 r2 → KeepsCall (without_tag (tags old.sources) key) r0 r2 old new
keeps-removed key r r0 r1 r2 old mid new (first, k) is gone =
    let more = removed-told (source_of mid.sources key) key r r1 r2 gone in
    keeps-after (without_tag (tags old.sources) key) r0 r1 r2 old mid new first k.gained k.waits k.ticker k.made (
      more.0,
      record {
        gained = more.1;
        waits = unnumbered-waits more.0 more.2;
        ticker = ap (λ x. x.ticker) is;
        made = omega (arith, ap (λ x. x.made) is, unnumbered-notices more.0 more.2);
        tags = ap (λ x. tags x.sources) is ∙ (tags-without mid.sources key ∙ ap (λ ts. without_tag ts key) k.tags);
        closed = ap (λ x. x.hands) is ∙ k.closed;
      },
    )

pub kept-turns : (wire key : ℕ) (r0 r1 : Option (List Event)) (old mid : Core) (c c' : Opening) (t : TurnEnd) → Turns wire key r0 r1 old mid c c' t → KeepsCall (tags old.sources) r0 r1 old mid
kept-turns wire key r0 r1 old mid c c' t (h, h', es, o, a) = (
  es ++ arms_told o,
  record {
    gained = a.gained;
    waits = unnumbered-waits (es ++ arms_told o) a.unnumbered;
    ticker = a.ticker;
    made = omega (arith, a.made, unnumbered-notices (es ++ arms_told o) a.unnumbered);
    tags = a.tags;
    closed = a.rests.idle;
  },
)

pub turns-source : (wire key : ℕ) (r0 r1 : Option (List Event)) (old mid : Core) (c c' : Opening) (t : TurnEnd) → Holds old key wire → Turns wire key r0 r1 old mid c c' t → HasSource mid key
turns-source wire key r0 r1 old mid c c' t holds (h, h', es, o, a) = kept-source old mid key wire holds a.tags

-- ---- what a visit comes to

pub stays-asleep : (wire key : ℕ) (r0 r1 : Option (List Event)) (old new : Core) (c c' : Opening) → Turns wire key r0 r1 old new c c' turn_end.Asleep →
    MakesRegisteredVisit wire key r0 r1 old new c (slot.Asleep (record { key = key; client = c'; alarm = None }))
stays-asleep wire key r0 r1 old new c c' (h, h', es, o, a) = (
  h,
  h',
  es,
  o,
  record {
    was = a.was;
    wired = a.wired;
    wired' = a.wired';
    gained = a.gained;
    own = a.own;
    asked = a.asked;
    shows = registry-append (map shown old.sources) es (arms_told o) ∙ (a.quiet (registry (map shown old.sources) es) ∙ a.shows);
    apart = a.apart;
    unnumbered = a.unnumbered;
    keeps = a.keeps;
    rests = a.rests;
    ticker = a.ticker;
    made = a.made;
    timers = a.timers;
    begun = a.begun;
    tags = a.tags;
    stays = record { over = a.turned.0; at = refl; open_ = a.turned.1; untimed = refl; goes = a.turned.2; held = a.now };
  },
)

pub removed-at : {T : Type 0} (wire key : ℕ) (sources : List (ℕ × Source)) (h : Held) (v : T) (before after : Option (List Event)) → h.wire ≡ wire → held_at (map shown sources) key ≡ Some h →
    RemoveTold (source_of sources key) key (Ok v) before after → after ≡ told before (event.Delete wire key true ∷ [])
removed-at wire key sources h v before after own at gone =
    let found = held-source sources key h at in
    let told-so : after ≡ told before (event.Delete found.0.wire key true ∷ []) = subst (λ x. RemoveTold x key (Ok v) before after) found.1 gone in
    told-so ∙ ap (λ w. told before (event.Delete w key true ∷ [])) (ap (λ y. y.wire) found.2 ∙ own)

over-nil : (es tail : List Event) (o : Option (List Event)) → o ≡ None → (es ++ arms_told o) ++ tail ≡ es ++ tail
over-nil es tail o e = ap (λ x. (es ++ arms_told x) ++ tail) e ∙ ap (λ x. x ++ tail) (append-nil es)

no-tail : (es : List Event) (o : Option (List Event)) → o ≡ None → numbered_in (es ++ arms_told o) ≡ 0 → numbered_in es ≡ 0
no-tail es o e none = ap numbered_in (sym (append-nil es)) ∙ (ap (λ x. numbered_in (es ++ arms_told x)) (sym e) ∙ none)

stays-over : (wire key : ℕ) (r0 r1 r2 : Option (List Event)) (old mid : Core) (c c' : Opening) (e : Ending) →
    Turns wire key r0 r1 old mid c c' (turn_end.Over e) → r2 ≡ told r1 (event.Delete wire key true ∷ []) →
    MakesRegisteredVisit wire key r0 r2 old (removed mid key) c (slot.Ended (record { ending = e; written = c'.written; leftover = c'.rest; wire = wire; moment = None }))
stays-over wire key r0 r1 r2 old mid c c' e (h, h', es, o, a) gone =
    let tail : List Event = event.Delete wire key true ∷ [] in
    let shows' : map shown (without mid.sources key) ≡ without_held (map shown mid.sources) key = without-shown mid.sources key in (
      h,
      h',
      es,
      o,
      record {
        was = a.was;
        wired = a.wired;
        wired' = a.wired';
        gained = gone ∙ (ap (λ x. told x tail) a.gained ∙ (told-told r0 (es ++ arms_told o) tail ∙ ap (told r0) (over-nil es tail o a.turned.0)));
        own = a.own;
        asked = a.asked;
        shows = registry-append (map shown old.sources) es tail ∙ (ap (λ x. without_held x key) a.shows ∙ sym shows');
        apart = λ w. refl;
        unnumbered = numbered_in-append es tail ∙ rw (no-tail es o a.turned.0 a.unnumbered) refl;
        keeps = λ k x there other. ap (λ y. held_at y k) shows'
            ∙ without-keeps (map shown mid.sources) key k x (a.keeps k x there other) (two-keys (map shown mid.sources) key k x h' wire a.now a.wired' (a.keeps k x there other) other);
        rests = rests-removed mid key a.rests;
        ticker = a.ticker;
        made = a.made;
        timers = a.timers;
        begun = a.begun;
        tags = tags-without mid.sources key ∙ ap (λ ts. without_tag ts key) a.tags;
        stays = record { over = a.turned.0; wired = refl; unread = refl; awake = a.turned.1; ends = a.turned.2 };
      },
    )

pub stays-ended : {T : Type 0} (wire key : ℕ) (r0 r1 r2 : Option (List Event)) (old mid new : Core) (c c' : Opening) (e : Ending) (v : T) (ended : Ended) →
    Turns wire key r0 r1 old mid c c' (turn_end.Over e) → new ≡ removed mid key → RemoveTold (source_of mid.sources key) key (Ok v) r1 r2 →
    ended ≡ record { ending = e; written = c'.written; leftover = c'.rest; wire = wire; moment = None } → MakesRegisteredVisit wire key r0 r2 old new c (slot.Ended ended)
stays-ended wire key r0 r1 r2 old mid new c c' e v ended (h, h', es, o, a) is gone value =
    let gone' : r2 ≡ told r1 (event.Delete wire key true ∷ []) = removed-at wire key mid.sources h' v r1 r2 a.wired' a.now gone in
    subst (λ x. MakesRegisteredVisit wire key r0 r2 old x c (slot.Ended ended)) (sym is) (subst (λ x. MakesRegisteredVisit wire key r0 r2 old (removed mid key) c (slot.Ended x)) (sym value)
    (stays-over wire key r0 r1 r2 old mid c c' e (h, h', es, o, a) gone'))

-- ---- a call of the poller that failed

-- what the removal of the wire's source told
pub removal-told : {T : Type 0} (ample : Bool) (wire key : ℕ) (sources : List (ℕ × Source)) (h : Held) (r : Result T ReactError)
    (before after : Option (List Event)) → h.wire ≡ wire → held_at (map shown sources) key ≡ Some h →
    OnReactLack r (ample ≡ false) → RemoveTold (source_of sources key) key r before after →
    (own : List Event) × RemovalTold ample wire key own × (after ≡ told before own)
removal-told ample wire key sources h r before after wired at lack gone =
    let found = held-source sources key h at in
    told_by found.0 r (ap (λ y. y.wire) found.2 ∙ wired) lack (subst (λ x. RemoveTold x key r before after) found.1 gone)
  where
    told_by : {T : Type 0} (s : Source) (r : Result T ReactError) → s.wire ≡ wire → OnReactLack r (ample ≡ false) →
        RemoveTold (Some s) key r before after →
        (own : List Event) × RemovalTold ample wire key own × (after ≡ told before own)
    told_by s (Ok v) is lack gone =
        (event.Delete wire key true ∷ [], inl (true, refl), gone ∙ ap (λ w. told before (event.Delete w key true ∷ [])) is)
    told_by s (Err react_error.Poller) is lack gone =
        (event.Delete wire key false ∷ [], inl (false, refl), gone ∙ ap (λ w. told before (event.Delete w key false ∷ [])) is)
    told_by s (Err react_error.OutOfMemory) is lack gone = ([], inr (lack, refl), gone ∙ told-nothing before)
    told_by s (Err (react_error.Exhausted c value)) is lack gone = absurd gone

-- what the removal of the source that the wire holds told
pub held-removal : {T : Type 0} (ample : Bool) (wire key : ℕ) (core : Core) (r : Result T ReactError)
    (before after : Option (List Event)) → Holds core key wire → OnReactLack r (ample ≡ false) →
    RemoveTold (source_of core.sources key) key r before after →
    (own : List Event) × RemovalTold ample wire key own × (after ≡ told before own)
held-removal ample wire key core r before after (h, at, wired) lack gone =
    removal-told ample wire key core.sources h r before after wired at lack gone

pub held-removed : {T : Type 0} (wire key : ℕ) (core : Core) (v : T) (before after : Option (List Event)) →
    Holds core key wire → RemoveTold (source_of core.sources key) key (Ok v) before after →
    after ≡ told before (event.Delete wire key true ∷ [])
held-removed wire key core v before after (h, at, wired) gone =
    removed-at wire key core.sources h v before after wired at gone

pub held-unremoved : (T : Type 0) (wire key : ℕ) (core : Core) (before after : Option (List Event)) →
    Holds core key wire → RemoveTold {T = T} (source_of core.sources key) key (Err react_error.Poller) before after →
    after ≡ told before (event.Delete wire key false ∷ [])
held-unremoved T wire key core before after (h, at, wired) gone =
    let found = held-source core.sources key h at in
    subst (λ x. RemoveTold {T = T} x key (Err react_error.Poller) before after) found.1 gone
    ∙ ap (λ w. told before (event.Delete w key false ∷ [])) (ap (λ y. y.wire) found.2 ∙ wired)

-- the arming failed, and the source was taken out
pub visit-unarmed : {T : Type 0} (ample : Bool) (wire key : ℕ) (r0 r1 r2 : Option (List Event)) (old mid : Core) (c : Opening)
    (r : Result T ReactError) → Holds old key wire → tags mid.sources ≡ tags old.sources → TurnsFail wire key r0 r1 old c →
    OnReactLack r (ample ≡ false) → RemoveTold (source_of mid.sources key) key r r1 r2 →
    RegisteredVisitFails wire key ample r0 r2 old c
unfolding stays-asleep
visit-unarmed ample wire key r0 r1 r2 old mid c r holds same f lack gone =
    let there = tag-held mid.sources key wire (ap (λ ts. tag_at ts key) same ∙ held_tag holds) in
    let own = removal-told ample wire key mid.sources there.0 r r1 r2 there.2 there.1 lack gone in
    let stays = stays-asleep wire key r0 (told r0 (f.calls ++ arms_told f.arms)) old f.would c f.client
    (f.held, f.then_held, f.calls, f.arms, f.turned) in
    let E : List Event → Type 0 = λ tail. EndFails wire key ample tail (event.Modify wire key f.read f.write false) own.0 in
    record {
      would = f.would;
      slot = slot.Asleep (record { key = key; client = f.client; alarm = None });
      held = f.held;
      then_held = f.then_held;
      calls = f.calls;
      arms = f.arms;
      call = event.Modify wire key f.read f.write false;
      own = own.0;
      visits = stays.4;
      fails = subst E (sym f.armed) (unarmed f.read f.write own.0 own.1);
      gained = own.2
          ∙ (ap (λ x. told x own.0) f.gained
          ∙ (told-told r0 (f.calls ++ event.Modify wire key f.read f.write false ∷ []) own.0
          ∙ ap (told r0) (append_assoc f.calls (event.Modify wire key f.read f.write false ∷ []) own.0)));
    }
  where
    held_tag : Holds old key wire → tag_at (tags old.sources) key ≡ Some wire
    held_tag (h, at, wired) = held-tag old.sources key h at ∙ ap Some wired

-- the session has ended, and the removal of its source failed
pub visit-undeleted : (T : Type 0) (ample : Bool) (wire key : ℕ) (r0 r1 r2 : Option (List Event)) (old mid : Core)
    (c c' : Opening) (e : Ending) → Turns wire key r0 r1 old mid c c' (turn_end.Over e) →
    RemoveTold {T = T} (source_of mid.sources key) key (Err react_error.Poller) r1 r2 →
    RegisteredVisitFails wire key ample r0 r2 old c
unfolding stays-over
visit-undeleted T ample wire key r0 r1 r2 old mid c c' e (h, h', es, o, a) gone =
    let good : Event = event.Delete wire key true in
    let bad : Event = event.Delete wire key false in
    let ended : Ended = record { ending = e; written = c'.written; leftover = c'.rest; wire = wire; moment = None } in
    let stays = stays-over wire key r0 r1 (told r1 (good ∷ [])) old mid c c' e (h, h', es, o, a) refl in
    let V : Option (List Event) → Type 0 =
    λ x. RegisteredVisit wire key r0 x old (removed mid key) c (slot.Ended ended) h h' es o in
    let found = held-source mid.sources key h' a.now in
    let told_so : r2 ≡ told r1 (bad ∷ []) =
    subst (λ x. RemoveTold {T = T} x key (Err react_error.Poller) r1 r2) found.1 gone
    ∙ ap (λ w. told r1 (event.Delete w key false ∷ [])) (ap (λ y. y.wire) found.2 ∙ a.wired') in
    record {
      would = removed mid key;
      slot = slot.Ended ended;
      held = h;
      then_held = h';
      calls = es;
      arms = o;
      call = bad;
      own = [];
      visits = subst V stays.4.gained stays.4;
      fails = undeleted;
      gained = told_so ∙ told-instead r1 r0 es good stays.4.gained (bad ∷ []);
    }
