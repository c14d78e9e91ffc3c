-- A turn of a visit: a poll of the conversation, and the note of its stop; and one turn after another.
use Rattle.std.proofs.Common.{◌≡◌, ◌⊎◌, inl, inr, ℕ, Bool, true, false, List, [], ◌∷◌, ◌++◌, map, length, Option, Some}
use Rattle.std.proofs.Common.{◌+◌, None, Result, Ok, Err, OnErr, ◌<◌, ◌^◌, if◌then◌else◌, arith, refl, sym, ◌∙◌, ap, subst}
use Rattle.std.specs.Option.{option_and_then}
use Rattle.std.proofs.lemmas.List.{append_assoc, append-nil}
use Rattle.react_core.specs.Told.{told, told-told}
use Rattle.react_core.specs.Core.{Core}
use Rattle.react_core.specs.declared.outside.Event.{Event}
use Rattle.react_core.specs.declared.outside.Event.TheVariants as event
use Rattle.react_core.specs.declared.reactor.Dir.{Dir}
use Rattle.react_core.specs.declared.reactor.Dir.TheVariants.{Read, Write}
use Rattle.bus_opening.specs.Openings.{Opening}
use Rattle.bus_session.specs.declared.ended.Ending.{Ending}
use Rattle.bus_visit.specs.Visited as turn_end
use Rattle.bus_visit.specs.declared.conversing.Conversed.TheVariants as conversed
use Rattle.bus_session.specs.Parts.{part}
use Rattle.bus_session.specs.Alone.{goes_through, outcome_of}
use Rattle.bus_session.specs.Counts.{waits_in, notices_in}
use Rattle.bus_visit.specs.Counts.{numbered_in}
use Rattle.bus_visit.specs.Counts.{after_begun}
use Rattle.bus_visit.specs.Registry.{Held, Side, Idle, Waits, Reported, stopped, side_held, stopped_held, held_at, registry}
use Rattle.bus_visit.specs.Asking.{asks, begins, arms_at}
use Rattle.bus_visit.specs.Shown.{IsBetweenCalls, shown, Tags, tags}
use Rattle.bus_visit.specs.Conversed.{stands_at, GoesOn, PausesAt, Stops, ConversesTo, IsInterrupted}
use Rattle.bus_visit.specs.Visited.{TurnEnd, KeepsCall, TurnEndsAs, Turned, Turns, may_ask, OnAgain}
use Rattle.bus_visit.specs.Noted.{Holds, arms_told, asks_again, NotReadyNoted}
use Rattle.bus_visit.specs.laws.Records.{registry-append, asks-append, goes-append, numbered_in-append, AreCalls-append}
use Rattle.bus_visit.specs.laws.Records.{waits_in-append, notices_in-append, unnumbered-waits, unnumbered-notices}
use Rattle.bus_visit.specs.laws.Records.{answered-asks, answered-shows, answered-unnumbered, stops-asks, stops-shows}
use Rattle.bus_visit.specs.laws.Records.{stops-unnumbered}
use Rattle.bus_visit.specs.Failing.{NoteFails, TurnsFail}
use Rattle.bus_visit.proofs.FailureLemmas.{told-instead}
use Rattle.bus_visit.proofs.NotReadyNotes.{stopped-wire}
use Rattle.bus_visit.proofs.OtherWiresStay.{noted-keeps}
use Rattle.bus_visit.specs.laws.Armings.{arming-quiet, arming-apart, arming-unnumbered}

-- ---- what was told so far, at a refusal

pub on-err : {T E : Type 0} {P : Type 0} (r : Result T E) → P → OnErr r P
on-err (Ok v) p = tt {0}
on-err (Err e) p = p

unnumbered-append : (a b : List Event) → numbered_in a ≡ 0 → numbered_in b ≡ 0 → numbered_in (a ++ b) ≡ 0
unnumbered-append a b none none' = numbered_in-append a b ∙ rw (none, none') refl

pub keeps-after : (expected : Tags) (r0 r1 r2 : Option (List Event)) (old mid new : Core) (first : List Event) →
    r1 ≡ told r0 first → waits_in first ≡ 0 → mid.ticker ≡ old.ticker → mid.made ≡ old.made + notices_in first →
    KeepsCall expected r1 r2 mid new → KeepsCall expected r0 r2 old new
keeps-after expected r0 r1 r2 old mid new first gained none ticker made (more, k) = (
  first ++ more,
  record {
    gained = k.gained ∙ (ap (λ r. told r more) gained ∙ told-told r0 first more);
    waits = omega (arith, none, k.waits, waits_in-append first more);
    ticker = k.ticker ∙ ticker;
    made = omega (arith, k.made, made, notices_in-append first more);
    tags = k.tags;
    closed = k.closed;
  },
)

-- the same behind events that use no number
pub keeps-unnumbered : (expected : Tags) (r0 r1 r2 : Option (List Event)) (old mid new : Core) (first : List Event) →
    r1 ≡ told r0 first → numbered_in first ≡ 0 → mid.ticker ≡ old.ticker → mid.made ≡ old.made →
    KeepsCall expected r1 r2 mid new → KeepsCall expected r0 r2 old new
keeps-unnumbered expected r0 r1 r2 old mid new first gained none ticker made kept =
    keeps-after expected r0 r1 r2 old mid new first gained (unnumbered-waits first none) ticker
    (omega (arith, made, unnumbered-notices first none)) kept

pub keeps-lack : (wire : ℕ) (r0 r1 : Option (List Event)) (core : Core) (c c' : Opening) → IsBetweenCalls core →
    IsInterrupted wire r0 r1 c c' → KeepsCall (tags core.sources) r0 r1 core core
keeps-lack wire r0 r1 core c c' rests (calls, x) = (
  calls,
  record {
    gained = x.gained;
    waits = unnumbered-waits calls (answered-unnumbered calls x.answered);
    ticker = refl;
    made = omega (arith, unnumbered-notices calls (answered-unnumbered calls x.answered));
    tags = refl;
    closed = rests.idle;
  },
)

pub keeps-stop : (wire : ℕ) (dir : Dir) (r0 r1 r2 : Option (List Event)) (old new : Core) (c c' : Opening) →
    ConversesTo wire r0 r1 c c' (conversed.Paused dir) → KeepsCall (tags old.sources) r1 r2 old new →
    KeepsCall (tags old.sources) r0 r2 old new
keeps-stop wire dir r0 r1 r2 old new c c' (calls, x) =
    keeps-unnumbered (tags old.sources) r0 r1 r2 old old new calls x.gained (stops-unnumbered wire dir calls x.stops) refl refl

-- ---- a turn that ends

none-begun : (n : ℕ) → n < 2 ^ 64 → n ≡ after_begun n 0
none-begun n fits = omega arith

more-begun : (x y z n : ℕ) → y ≡ after_begun x 0 → z ≡ after_begun y n → z ≡ after_begun x n
more-begun x y z n e f = omega arith

pub turned-over : (wire key : ℕ) (r0 r1 : Option (List Event)) (core : Core) (c c' : Opening) (e : Ending) →
    Holds core key wire → IsBetweenCalls core → ConversesTo wire r0 r1 c c' (conversed.Over e) →
    Turns wire key r0 r1 core core c c' (turn_end.Over e)
turned-over wire key r0 r1 core c c' e (h, at, own) rests (calls, es) = (
  h,
  h,
  calls,
  None,
  record {
    was = at;
    wired = own;
    now = at;
    wired' = own;
    gained = es.gained ∙ ap (told r0) (sym (append-nil calls));
    own = es.own;
    asked = answered-asks h calls es.answered;
    shows = answered-shows (map shown core.sources) calls es.answered;
    quiet = λ held. refl;
    apart = λ w. refl;
    unnumbered = ap numbered_in (append-nil calls) ∙ answered-unnumbered calls es.answered;
    keeps = λ k x there other. there;
    rests = rests;
    ticker = refl;
    made = refl;
    timers = refl;
    begun = none-begun core.begun rests.fits;
    tags = refl;
    turned = (refl, es.awake, es.ends);
  },
)

-- ---- a turn that stops

arms_quiet : (dir : Dir) (h : Held) (b : Side) → (held : List Held) → registry held (arms_told (arms_at dir h b)) ≡ held
arms_quiet dir h Idle = λ held. arming-quiet (stopped_held dir h) held
arms_quiet dir h Waits = λ held. refl
arms_quiet dir h Reported = λ held. refl

arms_apart : (dir : Dir) (h : Held) (w : ℕ) (b : Side) → part w (arms_told (arms_at dir h b)) ≡ []
arms_apart dir h w Idle = arming-apart (stopped_held dir h) w
arms_apart dir h w Waits = refl
arms_apart dir h w Reported = refl

arms_unnumbered : (dir : Dir) (h : Held) (b : Side) → numbered_in (arms_told (arms_at dir h b)) ≡ 0
arms_unnumbered dir h Idle = arming-unnumbered (stopped_held dir h)
arms_unnumbered dir h Waits = refl
arms_unnumbered dir h Reported = refl

side-stopped : (dir : Dir) (h : Held) → side_held dir (stopped_held dir h) ≡ stopped (side_held dir h)
side-stopped Read h = refl
side-stopped Write h = refl

-- how the turn ends, by how the direction stood
turn-cases : (dir : Dir) (c c' : Opening) (calls : List Event) (h : Held) (t : TurnEnd) (b : Side) → t ≡ (if asks_again (arms_at dir h b) then turn_end.Again else turn_end.Asleep) →
    c'.ended ≡ false → GoesOn c c' calls → TurnEndsAs c c' calls (arms_at dir h b) (stopped_held dir h) t
turn-cases dir c c' calls h t Idle is open_ goes =
    let o : Option (List Event) = arms_at dir h Idle in subst (λ x. TurnEndsAs c c' calls o (stopped_held dir h) x) (sym is) (refl, open_, goes)
turn-cases dir c c' calls h t Waits is open_ goes =
    let o : Option (List Event) = arms_at dir h Waits in subst (λ x. TurnEndsAs c c' calls o (stopped_held dir h) x) (sym is) (refl, open_, goes)
turn-cases dir c c' calls h t Reported is open_ goes =
    let o : Option (List Event) = arms_at dir h Reported in subst (λ x. TurnEndsAs c c' calls o (stopped_held dir h) x) (sym is) (refl, open_, goes)

goes-on : (dir : Dir) (c c' : Opening) (calls : List Event) → PausesAt dir c c' calls → GoesOn c c' calls
goes-on dir c c' calls pauses talk b stands = let x = pauses talk b stands in (x.0, x.1)

stopped-turn : (wire key : ℕ) (dir : Dir) (r0 r1 r2 : Option (List Event)) (old new : Core) (c c' : Opening) (again : Bool) (t : TurnEnd) (calls : List Event) (h : Held) →
    Stops wire r0 r1 c c' dir calls → NotReadyNoted wire key dir r1 r2 old new again h → t ≡ (if again then turn_end.Again else turn_end.Asleep) → Turns wire key r0 r2 old new c c' t
stopped-turn wire key dir r0 r1 r2 old new c c' again t calls h es r is =
    let o : Option (List Event) = arms_at dir h (side_held dir h) in (
      h,
      stopped_held dir h,
      calls,
      o,
      record {
        was = r.was;
        wired = r.wired;
        now = r.now;
        wired' = stopped-wire dir h ∙ r.wired;
        gained = r.gained ∙ (ap (λ x. told x (arms_told o)) es.gained ∙ told-told r0 calls (arms_told o));
        own = es.own;
        asked = stops-asks wire dir calls es.stops h;
        shows = stops-shows wire dir calls es.stops (map shown old.sources) ∙ sym r.shows;
        quiet = arms_quiet dir h (side_held dir h);
        apart = λ w. arms_apart dir h w (side_held dir h);
        unnumbered = unnumbered-append calls (arms_told o) (stops-unnumbered wire dir calls es.stops) (arms_unnumbered dir h (side_held dir h));
        keeps = λ k x there other. ap (λ y. held_at y k) r.shows ∙ noted-keeps wire dir (map shown old.sources) k x there other;
        rests = r.rests;
        ticker = r.ticker;
        made = r.made;
        timers = r.timers;
        begun = r.begun;
        tags = r.tags;
        turned = turn-cases dir c c' calls h t (side_held dir h) (is ∙ ap (λ x. if x then turn_end.Again else turn_end.Asleep) r.again_so) es.unended (goes-on dir c c' calls es.pauses);
      },
    )

pub turned-stop : (wire key : ℕ) (dir : Dir) (r0 r1 r2 : Option (List Event)) (old new : Core) (c c' : Opening)
    (again : Bool) (t : TurnEnd) → ConversesTo wire r0 r1 c c' (conversed.Paused dir) →
    (h : Held) × NotReadyNoted wire key dir r1 r2 old new again h → t ≡ (if again then turn_end.Again else turn_end.Asleep) →
    Turns wire key r0 r2 old new c c' t
turned-stop wire key dir r0 r1 r2 old new c c' again t (calls, es) (h, r) is =
    stopped-turn wire key dir r0 r1 r2 old new c c' again t calls h es r is

-- a stop that asks again leaves less to ask
onward_go : (dir : Dir) (h : Held) (b : Side) → side_held dir h ≡ b →
    OnAgain (may_ask (Some (stopped_held dir h))) (may_ask (Some h))
    (if asks_again (arms_at dir h b) then turn_end.Again else turn_end.Asleep)
onward_go dir h Idle e = tt {0}
onward_go dir h Waits e = tt {0}
onward_go Read h Reported e = rw e (omega arith)
onward_go Write h Reported e = rw e (omega arith)

pub readied-onward : (wire key : ℕ) (dir : Dir) (r1 r2 : Option (List Event)) (old new : Core) (again : Bool)
    (t : TurnEnd) → (h : Held) × NotReadyNoted wire key dir r1 r2 old new again h →
    t ≡ (if again then turn_end.Again else turn_end.Asleep) →
    OnAgain (may_ask (held_at (map shown new.sources) key)) (may_ask (held_at (map shown old.sources) key)) t
readied-onward wire key dir r1 r2 old new again t (h, r) is = rw (r.now, r.was, is, r.again_so) (onward_go dir h (side_held dir h) refl)

-- ---- one turn after another

GoesOn-more : (c c1 c2 : Opening) (es es2 : List Event) → GoesOn c c1 es → GoesOn c1 c2 es2 → GoesOn c c2 (es ++ es2)
GoesOn-more c c1 c2 es es2 first next = λ talk b stands.
    let one = first talk b stands in
    let two = next talk one.0 one.1.stands in (
      two.0,
      record {
        stands = two.1.stands;
        dir = two.1.dir;
        through = λ paused p. goes-append (Some (stands_at p talk b c paused)) es es2
            ∙ (ap (λ t. goes_through t es2) (one.1.through paused p) ∙ two.1.through (Some one.1.dir) p);
        waiting = two.1.waiting;
      },
    )

TurnsTo-more : (c c1 c2 : Opening) (es es2 : List Event) (o : Option (List Event)) (h : Held) (t : TurnEnd) → GoesOn c c1 es → TurnEndsAs c1 c2 es2 o h t → TurnEndsAs c c2 (es ++ es2) o h t
TurnsTo-more c c1 c2 es es2 o h (turn_end.Over e) goes (none, awake, ends) = (
  none,
  awake,
  λ talk b paused p late stands.
      let one = goes talk b stands in
      ap (option_and_then (outcome_of late)) (goes-append (Some (stands_at p talk b c paused)) es es2 ∙ ap (λ t. goes_through t es2) (one.1.through paused p))
      ∙ ends talk one.0 (Some one.1.dir) p late one.1.stands,
)
TurnsTo-more c c1 c2 es es2 o h turn_end.Again goes (none, open_, more) = (none, open_, GoesOn-more c c1 c2 es es2 goes more)
TurnsTo-more c c1 c2 es es2 o h turn_end.Asleep goes (some, open_, more) = (some, open_, GoesOn-more c c1 c2 es es2 goes more)

assoc_arms : (es es2 ms : List Event) → (es ++ []) ++ (es2 ++ ms) ≡ (es ++ es2) ++ ms
assoc_arms es es2 ms = ap (λ x. x ++ (es2 ++ ms)) (append-nil es) ∙ sym (append_assoc es es2 ms)

pub turns-more : (wire key : ℕ) (r0 r1 r2 : Option (List Event)) (old mid new : Core) (c c1 c2 : Opening) (t : TurnEnd) →
    Turns wire key r0 r1 old mid c c1 turn_end.Again → Turns wire key r1 r2 mid new c1 c2 t → Turns wire key r0 r2 old new c c2 t
turns-more wire key r0 r1 r2 old mid new c c1 c2 t (h, h', es, o, a) (k, k', es2, o2, b) =
    let e : Some k ≡ Some h' = sym b.was ∙ a.now in
    let same : k ≡ h' = cc in
    let none : o ≡ None = a.turned.0 in
    let goes : GoesOn c c1 es = a.turned.2 in
    let still : numbered_in es ≡ 0 = ap numbered_in (sym (append-nil es)) ∙ (ap (λ x. numbered_in (es ++ arms_told x)) (sym none) ∙ a.unnumbered) in (
      h,
      k',
      es ++ es2,
      o2,
      record {
        was = a.was;
        wired = a.wired;
        now = b.now;
        wired' = b.wired';
        gained = b.gained ∙
            (ap (λ x. told x (es2 ++ arms_told o2)) (a.gained ∙ ap (λ y. told r0 (es ++ arms_told y)) none) ∙
            (told-told r0 (es ++ []) (es2 ++ arms_told o2) ∙ ap (told r0) (assoc_arms es es2 (arms_told o2))));
        own = λ talk heard stands. let one = goes talk heard stands in AreCalls-append wire es es2 (a.own talk heard stands) (b.own talk one.0 one.1.stands);
        asked = asks-append (Some (begins h)) es es2 ∙
            (ap (λ x. asks x es2) a.asked ∙
            (ap (λ y. asks (Some (record { held = h'; over = y })) es2) none ∙
            (ap (λ y. asks (Some (begins y)) es2) (sym same) ∙ b.asked)));
        shows = registry-append (map shown old.sources) es es2 ∙ (ap (λ x. registry x es2) a.shows ∙ b.shows);
        quiet = b.quiet;
        apart = b.apart;
        unnumbered = ap numbered_in (append_assoc es es2 (arms_told o2)) ∙ unnumbered-append es (es2 ++ arms_told o2) still b.unnumbered;
        keeps = λ k x there other. b.keeps k x (a.keeps k x there other) other;
        rests = b.rests;
        ticker = b.ticker ∙ a.ticker;
        made = b.made ∙ a.made;
        timers = b.timers ∙ a.timers;
        begun = more-begun old.begun mid.begun new.begun (length (arms_told o2)) (a.begun ∙ ap (λ y. after_begun old.begun (length (arms_told y))) none) b.begun;
        tags = b.tags ∙ a.tags;
        turned = TurnsTo-more c c1 c2 es es2 o2 k' t goes b.turned;
      },
    )

pub keeps-turns : (expected : Tags) (wire key : ℕ) (r0 r1 r2 : Option (List Event)) (old mid new : Core) (c c' : Opening) (t : TurnEnd) →
    Turns wire key r0 r1 old mid c c' t → KeepsCall expected r1 r2 mid new → KeepsCall expected r0 r2 old new
keeps-turns expected wire key r0 r1 r2 old mid new c c' t (h, h', es, o, a) kept = keeps-unnumbered expected r0 r1 r2 old mid new (es ++ arms_told o) a.gained a.unnumbered a.ticker a.made kept

-- some turns that each asked again, or none so far
abbrev pub Turning : ℕ → ℕ → Option (List Event) → Option (List Event) → Core → Core → Opening → Opening → Type 0
Turning wire key r0 r1 old new c c' = ((r1 ≡ r0) × (new ≡ old) × (c' ≡ c)) ⊎ Turns wire key r0 r1 old new c c' turn_end.Again

pub turning-more : (wire key : ℕ) (r0 r1 r2 : Option (List Event)) (old mid new : Core) (c c1 c2 : Opening) (t : TurnEnd) →
    Turning wire key r0 r1 old mid c c1 → Turns wire key r1 r2 mid new c1 c2 t → Turns wire key r0 r2 old new c c2 t
turning-more wire key r0 r1 r2 old mid new c c1 c2 t (inl (r, core, client)) turns =
    subst (λ x. Turns wire key r0 r2 x new c c2 t) core (subst (λ x. Turns wire key x r2 mid new c c2 t) r (subst (λ x. Turns wire key r1 r2 mid new x c2 t) client turns))
turning-more wire key r0 r1 r2 old mid new c c1 c2 t (inr first) turns = turns-more wire key r0 r1 r2 old mid new c c1 c2 t first turns

pub turning-keeps : (wire key : ℕ) (r0 r1 r2 : Option (List Event)) (old mid new : Core) (c c1 : Opening) →
    Turning wire key r0 r1 old mid c c1 → KeepsCall (tags mid.sources) r1 r2 mid new →
    KeepsCall (tags old.sources) r0 r2 old new
turning-keeps wire key r0 r1 r2 old mid new c c1 (inl (r, core, client)) kept =
    subst (λ x. KeepsCall (tags x.sources) r0 r2 x new) core (subst (λ x. KeepsCall (tags mid.sources) x r2 mid new) r kept)
turning-keeps wire key r0 r1 r2 old mid new c c1 (inr (h, h', es, o, a)) kept =
    let kept' : KeepsCall (tags old.sources) r1 r2 mid new = subst (λ x. KeepsCall x r1 r2 mid new) a.tags kept in
    keeps-turns (tags old.sources) wire key r0 r1 r2 old mid new c c1 turn_end.Again (h, h', es, o, a) kept'

pub turning-holds : (wire key : ℕ) (r0 r1 : Option (List Event)) (old mid : Core) (c c1 : Opening) → Holds old key wire → Turning wire key r0 r1 old mid c c1 → Holds mid key wire
turning-holds wire key r0 r1 old mid c c1 holds (inl (r, core, client)) = subst (λ x. Holds x key wire) (sym core) holds
turning-holds wire key r0 r1 old mid c c1 holds (inr (h, h', es, o, a)) = (h', a.now, a.wired')

pub turning-rests : (wire key : ℕ) (r0 r1 : Option (List Event)) (old mid : Core) (c c1 : Opening) → IsBetweenCalls old → Turning wire key r0 r1 old mid c c1 → IsBetweenCalls mid
turning-rests wire key r0 r1 old mid c c1 rests (inl (r, core, client)) = subst IsBetweenCalls (sym core) rests
turning-rests wire key r0 r1 old mid c c1 rests (inr (h, h', es, o, a)) = a.rests

pub turning-open : (wire key : ℕ) (r0 r1 : Option (List Event)) (old mid : Core) (c c1 : Opening) → c.ended ≡ false → Turning wire key r0 r1 old mid c c1 → c1.ended ≡ false
turning-open wire key r0 r1 old mid c c1 open_ (inl (r, core, client)) = ap (λ x. x.ended) client ∙ open_
turning-open wire key r0 r1 old mid c c1 open_ (inr (h, h', es, o, a)) = a.turned.1

-- ---- how a turn that was noted ends

pub ends-asleep : (again : Bool) → again ≡ false → turn_end.Asleep ≡ (if again then turn_end.Again else turn_end.Asleep)
ends-asleep true is = cc
ends-asleep false is = refl

pub ends-again : (again : Bool) → again ≡ true → turn_end.Again ≡ (if again then turn_end.Again else turn_end.Asleep)
ends-again true is = refl
ends-again false is = cc

-- ---- an arming that failed

-- turns that end with these armings
TurnsSo : (Option (List Event) → Type 0) → ℕ → ℕ → Option (List Event) → Option (List Event) → Core → Core → Opening →
    Opening → Type 0
TurnsSo P wire key r0 r1 old new c c' =
    (h : Held) × (h' : Held) × (calls : List Event) × (o : Option (List Event)) ×
    Turned wire key r0 r1 old new c c' turn_end.Asleep h h' calls o × P o

turns-so-more : (P : Option (List Event) → Type 0) (wire key : ℕ) (r0 r1 r2 : Option (List Event)) (old mid new : Core)
    (c c1 c2 : Opening) → Turns wire key r0 r1 old mid c c1 turn_end.Again → TurnsSo P wire key r1 r2 mid new c1 c2 →
    TurnsSo P wire key r0 r2 old new c c2
unfolding TurnsSo turns-more
turns-so-more P wire key r0 r1 r2 old mid new c c1 c2 (h, h', es, o, a) (k, k', es2, o2, b, p) =
    let t = turns-more wire key r0 r1 r2 old mid new c c1 c2 turn_end.Asleep (h, h', es, o, a) (k, k', es2, o2, b) in
    (t.0, t.1, t.2, t.3, t.4, p)

turning-so-more : (P : Option (List Event) → Type 0) (wire key : ℕ) (r0 r1 r2 : Option (List Event)) (old mid new : Core)
    (c c1 c2 : Opening) → Turning wire key r0 r1 old mid c c1 → TurnsSo P wire key r1 r2 mid new c1 c2 →
    TurnsSo P wire key r0 r2 old new c c2
turning-so-more P wire key r0 r1 r2 old mid new c c1 c2 (inl (r, core, client)) turns =
    let A : Core → Type 0 = λ x. TurnsSo P wire key r0 r2 x new c c2 in
    let B : Option (List Event) → Type 0 = λ x. TurnsSo P wire key x r2 mid new c c2 in
    let C : Opening → Type 0 = λ x. TurnsSo P wire key r1 r2 mid new x c2 in
    subst A core (subst B r (subst C client turns))
turning-so-more P wire key r0 r1 r2 old mid new c c1 c2 (inr first) turns =
    turns-so-more P wire key r0 r1 r2 old mid new c c1 c2 first turns

-- one turn, which would end with the arming
turn-so : (wire key : ℕ) (dir : Dir) (r1 r2 r3 : Option (List Event)) (mid : Core) (c1 c2 : Opening)
    (f : NoteFails wire key dir r2 r3 mid) → ConversesTo wire r1 r2 c1 c2 (conversed.Paused dir) →
    TurnsSo (λ o. arms_told o ≡ event.Modify wire key f.read f.write true ∷ []) wire key r1
    (told r2 (event.Modify wire key f.read f.write true ∷ [])) mid f.would c1 c2
unfolding TurnsSo turned-stop stopped-turn
turn-so wire key dir r1 r2 r3 mid c1 c2 f (calls, es) =
    let t =
    turned-stop wire key dir r1 r2 (told r2 (event.Modify wire key f.read f.write true ∷ [])) mid f.would c1 c2 false
    turn_end.Asleep (calls, es) (f.held, f.noted) refl in
    (t.0, t.1, t.2, t.3, t.4, f.arms)

turns-failed : (wire key : ℕ) (dir : Dir) (r0 r2 r3 : Option (List Event)) (old mid : Core) (c c2 : Opening)
    (f : NoteFails wire key dir r2 r3 mid) →
    TurnsSo (λ o. arms_told o ≡ event.Modify wire key f.read f.write true ∷ []) wire key r0
    (told r2 (event.Modify wire key f.read f.write true ∷ [])) old f.would c c2 → TurnsFail wire key r0 r3 old c
unfolding TurnsSo
turns-failed wire key dir r0 r2 r3 old mid c c2 f (h, h', calls, o, t, armed) =
    let T : Option (List Event) → Type 0 =
    λ x. Turned wire key r0 x old f.would c c2 turn_end.Asleep h h' calls o in
    let good : told r2 (event.Modify wire key f.read f.write true ∷ [])
    ≡ told r0 (calls ++ event.Modify wire key f.read f.write true ∷ []) =
    t.gained ∙ ap (λ x. told r0 (calls ++ x)) armed in
    record {
      would = f.would;
      client = c2;
      held = h;
      then_held = h';
      calls = calls;
      arms = o;
      read = f.read;
      write = f.write;
      armed = armed;
      turned = subst T t.gained t;
      gained = f.gained
          ∙ told-instead r2 r0 calls (event.Modify wire key f.read f.write true) good
          (event.Modify wire key f.read f.write false ∷ []);
    }

-- turns that each asked again, and one whose arming failed
pub turns-fail : (wire key : ℕ) (dir : Dir) (r0 r1 r2 r3 : Option (List Event)) (old mid : Core) (c c1 c2 : Opening) →
    Turning wire key r0 r1 old mid c c1 → ConversesTo wire r1 r2 c1 c2 (conversed.Paused dir) →
    NoteFails wire key dir r2 r3 mid → TurnsFail wire key r0 r3 old c
turns-fail wire key dir r0 r1 r2 r3 old mid c c1 c2 turning stops f =
    turns-failed wire key dir r0 r2 r3 old mid c c2 f
    (turning-so-more _ wire key r0 r1 _ old mid f.would c c1 c2 turning
    (turn-so wire key dir r1 r2 r3 mid c1 c2 f stops))
