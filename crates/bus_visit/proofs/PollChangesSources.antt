-- A poll changes the sources exactly as the record shows.
use Rattle.std.proofs.Common.{◌≡◌, ◌≢◌, ℕ, Bool, true, false, ◌==◌, if◌then◌else◌, List, [], ◌∷◌, map, Option, Some, None, refl, sym, ◌∙◌, ap, subst, arith}
use Rattle.std.proofs.lemmas.Bool.{eq-eqb, eqb-true, le-ltb, lt-ltb, ne_eqb}
use Rattle.std.proofs.lemmas.Grind.{common_steps}
use Rattle.react_core.specs.declared.reactor.Dir.{Dir}
use Rattle.react_core.specs.declared.reactor.Dir.TheVariants.{Read, Write}
use Rattle.react_core.specs.Places.{Entry, Direction, Source, round_number}
use Rattle.react_core.specs.Core.{Core}
use Rattle.react_core.specs.Sources.{source_of, with_source, side, with_side, some_task}
use Rattle.react_core.specs.Readiness.{Outcome, Fires, fresh_at, stored_task, direction_outcome, waiting_outcome, after_source_poll}
use Rattle.bus_visit.specs.Registry.{Side, Idle, Waits, Reported, side_held, Held, noted, stopped_held, Apart, Distinct}
use Rattle.bus_visit.specs.Shown.{shown, side_of, place_side, task_side, poll_of, Sane, SanePlace, SaneTask}
use Rattle.bus_visit.specs.laws.Sources.{shown_at}

-- what a poll does where no future waits
abbrev lone_outcome : ℕ → Option ℕ → Option Entry → Outcome
lone_outcome task reported polled = if fresh_at reported polled then Fires else waiting_outcome task false (stored_task polled)

poll_task : (task since : ℕ) (reported task' : Option ℕ) → SaneTask task (round_number reported) since task' →
    lone_outcome task reported (Some (record { since = since; task = task' })) ≡ poll_of (task_side task')
poll_task task since None None lt = absurd (omega (arith, lt))
poll_task task since None (Some stored) (is, le) = rw (eq-eqb stored task is) refl
poll_task task since (Some round) None lt = rw (lt-ltb since round lt) refl
poll_task task since (Some round) (Some stored) (is, le) = rw (le-ltb since round le, eq-eqb stored task is) refl

poll_place : (task last : ℕ) (reported : Option ℕ) (polled : Option Entry) → SanePlace task (round_number reported) last polled → lone_outcome task reported polled ≡ poll_of (place_side polled)
poll_place task last reported None sane = refl
poll_place task last reported (Some w) sane = poll_task task w.since reported w.task sane.1

pub poll-by : (round last task : ℕ) (d : Direction) → Sane round last task d → direction_outcome task d ≡ poll_of (side_of d)
poll-by round last task d sane =
    ap (λ futures. if fresh_at d.reported d.polled then Fires else waiting_outcome task (some_task futures) (stored_task d.polled)) sane.2
    ∙ poll_place task last d.reported d.polled sane.1

-- ---- one source by its key is the one by its wire

noted-apart : (wire : ℕ) (dir : Dir) (held : List Held) → Apart wire held → noted wire dir held ≡ held
noted-apart wire dir [] apart = refl
noted-apart wire dir (h ∷ held) apart =
    let here : h.wire ≢ wire = apart.0 in
    let ih : noted wire dir held ≡ held = noted-apart wire dir held apart.1 in
    grind (arith, common_steps)

apart_other : (wire : ℕ) (x : ℕ × Source) (sources : List (ℕ × Source)) (key : ℕ) (s : Source) (b : Bool) → (x.0 == key) ≡ b → x.1.wire ≢ wire →
    source_of (x ∷ sources) key ≡ Some s → (source_of sources key ≡ Some s → s.wire ≢ wire) → s.wire ≢ wire
apart_other wire x sources key s true e other is ih = let here : Some x.1 ≡ Some s = rw e at is in let f : x.1 ≡ s = cc in rw f at other
apart_other wire x sources key s false e other is ih = ih (rw e at is)

pub apart-source : (wire : ℕ) (sources : List (ℕ × Source)) (key : ℕ) (s : Source) → Apart wire (map shown sources) → source_of sources key ≡ Some s → s.wire ≢ wire
apart-source wire [] key s apart is = cc
apart-source wire (x ∷ sources) key s apart is = apart_other wire x sources key s (x.0 == key) refl apart.0 is (apart-source wire sources key s apart.1)

go : (dir : Dir) (x : ℕ × Source) (sources : List (ℕ × Source)) (key : ℕ) (s new : Source) (b : Bool) →
    (x.0 == key) ≡ b → source_of (x ∷ sources) key ≡ Some s → shown_at key new ≡ stopped_held dir (shown_at key s) →
    Distinct (map shown (x ∷ sources)) →
    (source_of sources key ≡ Some s → map shown (with_source sources key new) ≡ noted s.wire dir (map shown sources)) →
    map shown (with_source (x ∷ sources) key new) ≡ noted s.wire dir (map shown (x ∷ sources))
go dir x sources key s new true e is same distinct ih =
    let here : Some x.1 ≡ Some s = rw e at is in
    let f : x.1 ≡ s = cc in
    let apart : Apart s.wire (map shown sources) = subst (λ y. Apart y.wire (map shown sources)) f distinct.0 in
    let hit : (x.1.wire == s.wire) ≡ true = eq-eqb x.1.wire s.wire (ap (λ y. y.wire) f) in
    let at : shown_at key s ≡ shown x = ap (λ k. shown (k, s)) (sym (eqb-true x.0 key e)) ∙ ap (λ y. shown (x.0, y)) (sym f) in
    let now : shown_at key new ≡ stopped_held dir (shown x) = same ∙ ap (stopped_held dir) at in
    rw (e, hit, noted-apart s.wire dir (map shown sources) apart) (ap (λ h. h ∷ map shown sources) now)
go dir x sources key s new false e is same distinct ih =
    let there : source_of sources key ≡ Some s = rw e at is in
    let other : s.wire ≢ x.1.wire = apart-source x.1.wire sources key s distinct.0 there in
    let off : (x.1.wire == s.wire) ≡ false = ne_eqb x.1.wire s.wire (λ f. other (sym f)) in
    rw (e, ih there, off) refl

pub with_source-noted : (dir : Dir) (sources : List (ℕ × Source)) (key : ℕ) (s new : Source) → source_of sources key ≡ Some s → shown_at key new ≡ stopped_held dir (shown_at key s) →
    Distinct (map shown sources) → map shown (with_source sources key new) ≡ noted s.wire dir (map shown sources)
with_source-noted dir [] key s new is same distinct = cc
with_source-noted dir (x ∷ sources) key s new is same distinct =
    go dir x sources key s new (x.0 == key) refl is same distinct (λ there. with_source-noted dir sources key s new there same distinct.1)

go_self : (x : ℕ × Source) (sources : List (ℕ × Source)) (key : ℕ) (s : Source) (b : Bool) → (x.0 == key) ≡ b → source_of (x ∷ sources) key ≡ Some s →
    (source_of sources key ≡ Some s → with_source sources key s ≡ sources) → with_source (x ∷ sources) key s ≡ x ∷ sources
go_self x sources key s true e is ih =
    let here : Some x.1 ≡ Some s = rw e at is in
    let f : x.1 ≡ s = cc in
    rw e (ap (λ k. (k, s) ∷ sources) (sym (eqb-true x.0 key e)) ∙ ap (λ y. (x.0, y) ∷ sources) (sym f))
go_self x sources key s false e is ih = rw (e, ih (rw e at is)) refl

pub with_source-self : (sources : List (ℕ × Source)) (key : ℕ) (s : Source) → source_of sources key ≡ Some s → with_source sources key s ≡ sources
with_source-self [] key s is = refl
with_source-self (x ∷ sources) key s is = go_self x sources key s (x.0 == key) refl is (with_source-self sources key s)

begins_shows : (dir : Dir) (key : ℕ) (s : Source) (since task : ℕ) → side_held dir (shown_at key s) ≡ Idle →
    shown_at key (with_side dir s (record (side dir s) { polled = Some (record { since = since; task = Some task }) })) ≡ stopped_held dir (shown_at key s)
begins_shows Read key s since task e = rw e refl
begins_shows Write key s since task e = rw e refl

stays_shows : (dir : Dir) (key : ℕ) (s : Source) → side_held dir (shown_at key s) ≡ Waits → shown_at key s ≡ stopped_held dir (shown_at key s)
stays_shows Read key s e = rw e refl
stays_shows Write key s e = rw e refl

fires_shows : (dir : Dir) (key : ℕ) (s : Source) → side_held dir (shown_at key s) ≡ Reported →
    shown_at key (with_side dir s (record (side dir s) { polled = None })) ≡ stopped_held dir (shown_at key s)
fires_shows Read key s e = rw e refl
fires_shows Write key s e = rw e refl

-- a poll notes the stop
pub poll-noted : (core : Core) (key : ℕ) (dir : Dir) (s : Source) (task : ℕ) (b : Side) → side_held dir (shown_at key s) ≡ b → source_of core.sources key ≡ Some s → Distinct (map shown core.sources) →
    map shown (after_source_poll core key (Some s) dir task (poll_of b)).sources ≡ noted s.wire dir (map shown core.sources)
poll-noted core key dir s task Idle e is distinct = with_source-noted dir core.sources key s _ is (begins_shows dir key s core.ticker task e) distinct
poll-noted core key dir s task Waits e is distinct =
    (ap (map shown) (sym (with_source-self core.sources key s is))) ∙ with_source-noted dir core.sources key s s is (stays_shows dir key s e) distinct
poll-noted core key dir s task Reported e is distinct = with_source-noted dir core.sources key s _ is (fires_shows dir key s e) distinct
