-- A stop, as the reactor's poll notes it.
use Rattle.std.proofs.Common.{◌≡◌, ◌<◌, ◌+◌, ◌-◌, ◌^◌, ℕ, Bool, true, false, ◌||◌, ◌==◌, if◌then◌else◌, List, [], ◌∷◌, length, map, min, Option, Some, None, Ok, Err, refl, sym, ◌∙◌, ap, subst, arith}
use Rattle.std.proofs.lemmas.Bool.{eq-eqb}
use Rattle.std.specs.Option.{option_map}
use Rattle.futures.specs.declared.task.Poll.{Poll}
use Rattle.futures.specs.declared.task.Poll.TheVariants.{Pending}
use Rattle.react_core.specs.declared.outside.Event.{Event}
use Rattle.react_core.specs.declared.outside.Event.TheVariants as event
use Rattle.react_core.specs.declared.reactor.Dir.{Dir}
use Rattle.react_core.specs.declared.reactor.Dir.TheVariants.{Read, Write}
use Rattle.react_core.specs.declared.reactor.ReactError.{ReactError}
use Rattle.react_core.specs.declared.reactor.ReactError.TheVariants as react_error
use Rattle.react_core.specs.Places.{Direction, Source}
use Rattle.react_core.specs.Told.{told}
use Rattle.react_core.specs.Core.{Core, HasSource, timers_applied}
use Rattle.react_core.specs.Sources as sources_of
use Rattle.react_core.specs.Sources.{source_of, side, with_side}
use Rattle.react_core.specs.Readiness.{Outcome, direction_outcome, source_outcome, poll_outcome, poll_answer}
use Rattle.react_core.specs.Readiness.{poll_told, woken_by, arms, after_source_poll, after_poll, armed}
use Rattle.react_core.specs.Readiness.{is_ready, is_read, is_write}
use Rattle.react_core.specs.Step.{Step, PolledPoll, Polled}
use Rattle.bus_visit.specs.Counts.{after_begun}
use Rattle.bus_visit.specs.Registry.{Side, Idle, Waits, Reported, waits, side_held, Held, held_at, arming, noted, stopped_held, Apart, Distinct}
use Rattle.bus_visit.specs.Asking.{arms_at}
use Rattle.bus_visit.specs.Shown.{shown, side_of, poll_of, Sane, SaneSource, AllSane, IsBetweenCalls, tags}
use Rattle.bus_visit.specs.Failing.{IfPoller, NoteFails}
use Rattle.bus_visit.specs.Noted.{Holds, NotReadyNoted, arms_told, asks_again}
use Rattle.bus_visit.specs.laws.Sources.{shown_at, waits-side, held_at-shown}
use Rattle.bus_visit.specs.laws.Tags.{tags-with_source}
use Rattle.bus_visit.proofs.PollChangesSources.{poll-by, poll-noted}
use Rattle.bus_visit.specs.laws.Sanity.{sane-at, sane-with}
use Rattle.bus_visit.specs.laws.Interests.{begun-still}

sane-side : (round last : ℕ) (dir : Dir) (s : Source) → SaneSource round last s → Sane round last s.wire (side dir s)
sane-side round last Read s sane = sane.0
sane-side round last Write s sane = sane.1

sane-begins : (t : ℕ) (dir : Dir) (s : Source) → SaneSource t t s → SaneSource t t (with_side dir s (record (side dir s) { polled = Some (record { since = t; task = Some s.wire }) }))
sane-begins t Read s (r, w) = ((r.0, (omega arith, (refl, r.0)), r.2), w)
sane-begins t Write s (r, w) = (r, (w.0, (omega arith, (refl, w.0)), w.2))

sane-fires : (t : ℕ) (dir : Dir) (s : Source) → SaneSource t t s → SaneSource t t (with_side dir s (record (side dir s) { polled = None }))
sane-fires t Read s (r, w) = ((r.0, tt, r.2), w)
sane-fires t Write s (r, w) = (r, (w.0, tt, w.2))

sane-poll : (core : Core) (key : ℕ) (dir : Dir) (s : Source) (b : Side) → AllSane core.ticker core.ticker core.sources → source_of core.sources key ≡ Some s →
    AllSane core.ticker core.ticker (after_source_poll core key (Some s) dir s.wire (poll_of b)).sources
sane-poll core key dir s Idle sane is = sane-with core.ticker core.ticker core.sources key _ sane (sane-begins core.ticker dir s (sane-at core.ticker core.ticker core.sources key s sane is))
sane-poll core key dir s Waits sane is = sane
sane-poll core key dir s Reported sane is = sane-with core.ticker core.ticker core.sources key _ sane (sane-fires core.ticker dir s (sane-at core.ticker core.ticker core.sources key s sane is))

pub stopped-wire : (dir : Dir) (h : Held) → (stopped_held dir h).wire ≡ h.wire
stopped-wire Read h = refl
stopped-wire Write h = refl

pub stopped-key : (dir : Dir) (h : Held) → (stopped_held dir h).key ≡ h.key
stopped-key Read h = refl
stopped-key Write h = refl

pub note-key : (dir : Dir) (h : Held) (b : Bool) → (if b then stopped_held dir h else h).key ≡ h.key
note-key dir h true = stopped-key dir h
note-key dir h false = refl

pub note-wire : (wire : ℕ) (dir : Dir) (h : Held) (b : Bool) → (if b then stopped_held dir h else h).wire ≡ h.wire
note-wire wire dir h true = stopped-wire dir h
note-wire wire dir h false = refl

pub apart-noted : (w wire : ℕ) (dir : Dir) (held : List Held) → Apart w held → Apart w (noted wire dir held)
apart-noted w wire dir [] apart = tt
apart-noted w wire dir (h ∷ held) apart = (rw (note-wire wire dir h (h.wire == wire)) apart.0, apart-noted w wire dir held apart.1)

pub distinct-noted : (wire : ℕ) (dir : Dir) (held : List Held) → Distinct held → Distinct (noted wire dir held)
distinct-noted wire dir [] distinct = tt
distinct-noted wire dir (h ∷ held) distinct = (rw (note-wire wire dir h (h.wire == wire)) (apart-noted h.wire wire dir held distinct.0), distinct-noted wire dir held distinct.1)

poll-ticker : (core : Core) (key : ℕ) (dir : Dir) (s : Source) (task : ℕ) (b : Side) → (after_source_poll core key (Some s) dir task (poll_of b)).ticker ≡ core.ticker
poll-ticker core key dir s task Idle = refl
poll-ticker core key dir s task Waits = refl
poll-ticker core key dir s task Reported = refl

poll-timers : (core : Core) (key : ℕ) (dir : Dir) (s : Source) (task : ℕ) (b : Side) → timers_applied (after_source_poll core key (Some s) dir task (poll_of b)) ≡ timers_applied core
poll-timers core key dir s task Idle = refl
poll-timers core key dir s task Waits = refl
poll-timers core key dir s task Reported = refl

poll-hands : (core : Core) (key : ℕ) (dir : Dir) (s : Source) (task : ℕ) (b : Side) → (after_source_poll core key (Some s) dir task (poll_of b)).hands ≡ core.hands
poll-hands core key dir s task Idle = refl
poll-hands core key dir s task Waits = refl
poll-hands core key dir s task Reported = refl

poll-made : (core : Core) (key : ℕ) (dir : Dir) (s : Source) (task : ℕ) (b : Side) → (after_source_poll core key (Some s) dir task (poll_of b)).made ≡ core.made
poll-made core key dir s task Idle = refl
poll-made core key dir s task Waits = refl
poll-made core key dir s task Reported = refl

begun-fits : (n : ℕ) → min (n + 1) (2 ^ 64 - 1) < 2 ^ 64
begun-fits n = omega arith

length-or_true : (wire key : ℕ) (b : Bool) → length (if b || true then event.Modify wire key b true true ∷ [] else []) ≡ 1
length-or_true wire key true = refl
length-or_true wire key false = refl

arming-stopped : (dir : Dir) (h : Held) → side_held dir h ≡ Idle → length (arming (stopped_held dir h)) ≡ 1
arming-stopped Read h e = rw e refl
arming-stopped Write h e = rw e (length-or_true h.wire h.key (waits h.read))

poll-begun : (core : Core) (key : ℕ) (dir : Dir) (s : Source) (task : ℕ) (h : Held) (b : Side) → side_held dir h ≡ b → core.begun < 2 ^ 64 →
    (after_source_poll core key (Some s) dir task (poll_of b)).begun ≡ after_begun core.begun (length (arms_told (arms_at dir h b)))
poll-begun core key dir s task h Idle e fits = ap (after_begun core.begun) (sym (arming-stopped dir h e))
poll-begun core key dir s task h Waits e fits = begun-still core.begun fits
poll-begun core key dir s task h Reported e fits = begun-still core.begun fits

poll-fits : (core : Core) (key : ℕ) (dir : Dir) (s : Source) (task : ℕ) (b : Side) → core.begun < 2 ^ 64 → (after_source_poll core key (Some s) dir task (poll_of b)).begun < 2 ^ 64
poll-fits core key dir s task Idle fits = begun-fits core.begun
poll-fits core key dir s task Waits fits = fits
poll-fits core key dir s task Reported fits = fits

side-wire : (dir : Dir) (s : Source) (i : Direction) → (with_side dir s i).wire ≡ s.wire
side-wire Read s i = refl
side-wire Write s i = refl

poll-tags : (core : Core) (key : ℕ) (dir : Dir) (s : Source) (task : ℕ) (b : Side) →
    source_of core.sources key ≡ Some s → tags (after_source_poll core key (Some s) dir task (poll_of b)).sources ≡
    tags core.sources
poll-tags core key dir s task Idle is = tags-with_source core.sources key s _ is (side-wire dir s _)
poll-tags core key dir s task Waits is = refl
poll-tags core key dir s task Reported is = tags-with_source core.sources key s _ is (side-wire dir s _)

side-shown : (dir : Dir) (key : ℕ) (s : Source) → side_of (side dir s) ≡ side_held dir (shown_at key s)
side-shown Read key s = refl
side-shown Write key s = refl

or_true : (wire key : ℕ) (b : Bool) → event.Modify wire key b true true ∷ [] ≡ (if b || true then event.Modify wire key b true true ∷ [] else [])
or_true wire key true = refl
or_true wire key false = refl

armed-shown : (round last : ℕ) (dir : Dir) (key : ℕ) (s : Source) → SaneSource round last s →
    side_held dir (shown_at key s) ≡ Idle → armed (Some s) key dir true ≡ arming (stopped_held dir (shown_at key s))
armed-shown round last Read key s sane e = rw (waits-side s.write sane.1.2, e) refl
armed-shown round last Write key s sane e = rw (waits-side s.read sane.0.2, e) (or_true s.wire key (waits (side_of s.read)))

poll-told : (round last : ℕ) (dir : Dir) (key : ℕ) (s : Source) (b : Side) → SaneSource round last s →
    side_held dir (shown_at key s) ≡ b →
    (if arms (poll_of b) then armed (Some s) key dir true else []) ≡ arms_told (arms_at dir (shown_at key s) b)
poll-told round last dir key s Idle sane e = armed-shown round last dir key s sane e
poll-told round last dir key s Waits sane e = refl
poll-told round last dir key s Reported sane e = refl

poll-again : (dir : Dir) (h : Held) (b : Side) → is_ready (poll_answer (poll_of b)) ≡ asks_again (arms_at dir h b)
poll-again dir h Idle = refl
poll-again dir h Waits = refl
poll-again dir h Reported = refl

held_noted_go : (wire key : ℕ) (dir : Dir) (x : Held) (held : List Held) (h : Held) (b : Bool) → (x.key == key) ≡ b → held_at (x ∷ held) key ≡ Some h → h.wire ≡ wire →
    (held_at held key ≡ Some h → held_at (noted wire dir held) key ≡ Some (stopped_held dir h)) → held_at (noted wire dir (x ∷ held)) key ≡ Some (stopped_held dir h)
held_noted_go wire key dir x held h true e is own ih =
    let here : Some x ≡ Some h = rw e at is in
    let f : x ≡ h = cc in
    let g : (x.wire == wire) ≡ true = eq-eqb x.wire wire (ap (λ y. y.wire) f ∙ own) in
    rw (g, stopped-key dir x, e, f) refl
held_noted_go wire key dir x held h false e is own ih =
    rw (note-key dir x (x.wire == wire), e) (ih (rw e at is))

pub held-noted : (wire key : ℕ) (dir : Dir) (held : List Held) (h : Held) → held_at held key ≡ Some h → h.wire ≡ wire → held_at (noted wire dir held) key ≡ Some (stopped_held dir h)
held-noted wire key dir [] h is own = cc
held-noted wire key dir (x ∷ held) h is own = held_noted_go wire key dir x held h (x.key == key) refl is own (λ there. held-noted wire key dir held h there own)

source_shown : (key : ℕ) (o : Option Source) (h : Held) → option_map (shown_at key) o ≡ Some h → (s : Source) × (o ≡ Some s) × (shown_at key s ≡ h)
source_shown key None h e = cc
source_shown key (Some s) h e = (s, refl, cc)

pub held-source : (sources : List (ℕ × Source)) (key : ℕ) (h : Held) → held_at (map shown sources) key ≡ Some h → (s : Source) × (source_of sources key ≡ Some s) × (shown_at key s ≡ h)
held-source sources key h is = source_shown key (source_of sources key) h (sym (held_at-shown sources key) ∙ is)

pub holds-source : (core : Core) (key wire : ℕ) → Holds core key wire → HasSource core key
holds-source core key wire (h, is, own) = let (s, at, e) = held-source core.sources key h is in rw at refl

readied-at : (old new : Core) (wire key : ℕ) (dir : Dir) (answer : Poll (Unit {0})) (r0 r1 : Option (List Event))
    (s : Source) → IsBetweenCalls old → source_of old.sources key ≡ Some s → s.wire ≡ wire →
    Step old (PolledPoll key dir wire) (Polled answer) (woken_by (poll_outcome old key dir wire)) new →
    r1 ≡ told r0 (poll_told old key dir wire (Ok answer)) →
    NotReadyNoted wire key dir r0 r1 old new (is_ready answer) (shown_at key s)
readied-at old new wire key dir answer r0 r1 s rests is own step gained =
    let b : Side = side_held dir (shown_at key s) in
    let at : held_at (map shown old.sources) key ≡ Some (shown_at key s) = held_at-shown old.sources key ∙ ap (option_map (shown_at key)) is in
    let sane : SaneSource old.ticker old.ticker s = sane-at old.ticker old.ticker old.sources key s rests.sane is in
    let by : direction_outcome s.wire (side dir s) ≡ poll_of b = poll-by old.ticker old.ticker s.wire (side dir s) (sane-side old.ticker old.ticker dir s sane) ∙ ap poll_of (side-shown dir key s) in
    let P : ℕ → Type 0 = λ w. direction_outcome w (side dir s) ≡ poll_of b in
    let out : poll_outcome old key dir wire ≡ poll_of b = ap (λ o. source_outcome o dir wire) is ∙ subst P own by in
    let C : Option Source → Outcome → ℕ → Core = λ o p w. after_source_poll old key o dir w p in
    let core : new ≡ after_source_poll old key (Some s) dir s.wire (poll_of b) =
    step.core ∙
    (ap (λ p. C (source_of old.sources key) p wire) out ∙
    (ap (λ o. C o (poll_of b) wire) is ∙ ap (λ w. C (Some s) (poll_of b) w) (sym own))) in
    let answered : answer ≡ poll_answer (poll_of b) = step.answered ∙ ap poll_answer out in
    let G : Option Source → Outcome → Option (List Event) = λ o p. told r0 (if arms p then armed o key dir true else []) in
    let told' : r1 ≡ told r0 (if arms (poll_of b) then armed (Some s) key dir true else []) = gained ∙ (ap (λ p. G (source_of old.sources key) p) out ∙ ap (λ o. G o (poll_of b)) is) in
    let shows' : map shown new.sources ≡ noted wire dir (map shown old.sources) =
    ap (λ c. map shown c.sources) core ∙
    (poll-noted old key dir s s.wire b refl is rests.distinct ∙ ap (λ w. noted w dir (map shown old.sources)) own) in
    record {
      was = at;
      wired = own;
      now = rw shows' (held-noted wire key dir (map shown old.sources) (shown_at key s) at own);
      gained = told' ∙ ap (told r0) (poll-told old.ticker old.ticker dir key s b sane refl);
      again_so = ap is_ready answered ∙ poll-again dir (shown_at key s) b;
      shows = shows';
      rests = record {
        sane = rw (core, poll-ticker) (sane-poll old key dir s b rests.sane is);
        distinct = rw shows' (distinct-noted wire dir (map shown old.sources) rests.distinct);
        idle = rw (core, poll-hands) rests.idle;
        fits = rw core (poll-fits old key dir s s.wire b rests.fits);
      };
      ticker = ap (λ c. c.ticker) core ∙ poll-ticker old key dir s s.wire b;
      made = ap (λ c. c.made) core ∙ poll-made old key dir s s.wire b;
      timers = ap timers_applied core ∙ poll-timers old key dir s s.wire b;
      begun = ap (λ c. c.begun) core ∙ poll-begun old key dir s s.wire (shown_at key s) b refl rests.fits;
      tags = ap (λ c. tags c.sources) core ∙ poll-tags old key dir s s.wire b is;
    }

readied-found : (old new : Core) (wire key : ℕ) (dir : Dir) (answer : Poll (Unit {0})) (r0 r1 : Option (List Event)) (h : Held) → IsBetweenCalls old → h.wire ≡ wire →
    (s : Source) × (source_of old.sources key ≡ Some s) × (shown_at key s ≡ h) →
    Step old (PolledPoll key dir wire) (Polled answer) (woken_by (poll_outcome old key dir wire)) new →
    r1 ≡ told r0 (poll_told old key dir wire (Ok answer)) →
    (h : Held) × NotReadyNoted wire key dir r0 r1 old new (is_ready answer) h
readied-found old new wire key dir answer r0 r1 h rests wired (s, is, show) step gained =
    (shown_at key s, readied-at old new wire key dir answer r0 r1 s rests is (ap (λ y. y.wire) show ∙ wired) step gained)

pub readied : (old new : Core) (wire key : ℕ) (dir : Dir) (answer : Poll (Unit {0})) (r0 r1 : Option (List Event)) → IsBetweenCalls old → Holds old key wire →
    Step old (PolledPoll key dir wire) (Polled answer) (woken_by (poll_outcome old key dir wire)) new →
    r1 ≡ told r0 (poll_told old key dir wire (Ok answer)) →
    (h : Held) × NotReadyNoted wire key dir r0 r1 old new (is_ready answer) h
readied old new wire key dir answer r0 r1 rests (h, at, wired) step gained =
    readied-found old new wire key dir answer r0 r1 h rests wired (held-source old.sources key h at) step gained

-- ---- an arming that failed

-- only a direction that neither waits nor was reported is armed
arms-idle : (b : Side) → arms (poll_of b) ≡ true → b ≡ Idle
arms-idle Idle up = refl
arms-idle Waits up = absurd (cc)
arms-idle Reported up = absurd (cc)

failed-at : (old : Core) (wire key : ℕ) (dir : Dir) (r0 r1 : Option (List Event)) (s : Source) → IsBetweenCalls old →
    source_of old.sources key ≡ Some s → s.wire ≡ wire → arms (poll_outcome old key dir wire) ≡ true →
    r1 ≡ told r0 (armed (source_of old.sources key) key dir false) → NoteFails wire key dir r0 r1 old
failed-at old wire key dir r0 r1 s rests is own up gained =
    let h : Held = shown_at key s in
    let b : Side = side_held dir h in
    let sane : SaneSource old.ticker old.ticker s = sane-at old.ticker old.ticker old.sources key s rests.sane is in
    let by : direction_outcome s.wire (side dir s) ≡ poll_of b =
    poll-by old.ticker old.ticker s.wire (side dir s) (sane-side old.ticker old.ticker dir s sane)
    ∙ ap poll_of (side-shown dir key s) in
    let P : ℕ → Type 0 = λ w. direction_outcome w (side dir s) ≡ poll_of b in
    let out : poll_outcome old key dir wire ≡ poll_of b = ap (λ o. source_outcome o dir wire) is ∙ subst P own by in
    let idle : b ≡ Idle = arms-idle b (sym (ap arms out) ∙ up) in
    let read : Bool = is_read dir || sources_of.waits s.read in
    let write : Bool = is_write dir || sources_of.waits s.write in
    let arming_so : Bool → List Event = λ ok. event.Modify wire key read write ok ∷ [] in
    let one : (ok : Bool) → armed (source_of old.sources key) key dir ok ≡ arming_so ok =
    λ ok. ap (λ o. armed o key dir ok) is ∙ ap (λ w. event.Modify w key read write ok ∷ []) own in
    let would : Core = after_poll old key dir wire in
    let step : Step old (PolledPoll key dir wire) (Polled Pending) (woken_by (poll_outcome old key dir wire)) would =
    record {
      known = rw is refl;
      answered = sym (ap poll_answer (out ∙ ap poll_of idle));
      wakes = refl;
      core = refl;
    } in
    let told-so : told r0 (arming_so true) ≡ told r0 (poll_told old key dir wire (Ok Pending)) =
    ap (told r0) (sym (ap (λ a. if a then armed (source_of old.sources key) key dir true else []) up ∙ one true)) in
    record {
      would = would;
      held = h;
      read = read;
      write = write;
      arms = ap (λ x. arms_told (arms_at dir h x)) idle
          ∙ (sym (armed-shown old.ticker old.ticker dir key s sane idle)
          ∙ ap (λ w. event.Modify w key read write true ∷ []) own);
      noted = readied-at old would wire key dir Pending r0 (told r0 (arming_so true)) s rests is own step told-so;
      gained = gained ∙ ap (told r0) (one false);
    }

failed-found : (old : Core) (wire key : ℕ) (dir : Dir) (r0 r1 : Option (List Event)) (h : Held) → IsBetweenCalls old →
    h.wire ≡ wire → (s : Source) × (source_of old.sources key ≡ Some s) × (shown_at key s ≡ h) →
    arms (poll_outcome old key dir wire) ≡ true → r1 ≡ told r0 (armed (source_of old.sources key) key dir false) →
    NoteFails wire key dir r0 r1 old
failed-found old wire key dir r0 r1 h rests wired (s, is, show) up gained =
    failed-at old wire key dir r0 r1 s rests is (ap (λ y. y.wire) show ∙ wired) up gained

note-fails : (old : Core) (wire key : ℕ) (dir : Dir) (r0 r1 : Option (List Event)) → IsBetweenCalls old →
    Holds old key wire → arms (poll_outcome old key dir wire) ≡ true →
    r1 ≡ told r0 (armed (source_of old.sources key) key dir false) → NoteFails wire key dir r0 r1 old
note-fails old wire key dir r0 r1 rests (h, at, wired) up gained =
    failed-found old wire key dir r0 r1 h rests wired (held-source old.sources key h at) up gained

-- the poll was for the task of this wire
pub refused-note : (old : Core) (wire task key : ℕ) (dir : Dir) (e : ReactError) (r0 r1 : Option (List Event)) →
    task ≡ wire → IsBetweenCalls old → Holds old key wire → arms (poll_outcome old key dir task) ≡ true →
    r1 ≡ told r0 (poll_told old key dir task (Err e)) → IfPoller e (NoteFails wire key dir r0 r1 old)
refused-note old wire task key dir react_error.Poller r0 r1 same rests holds up gained =
    note-fails old wire key dir r0 r1 rests holds (ap (λ t. arms (poll_outcome old key dir t)) (sym same) ∙ up) gained
refused-note old wire task key dir react_error.OutOfMemory r0 r1 same rests holds up gained = tt
refused-note old wire task key dir (react_error.Exhausted c value) r0 r1 same rests holds up gained = tt
