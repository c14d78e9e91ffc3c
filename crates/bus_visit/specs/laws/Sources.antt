-- The reactor's sources and the registry that the record shows are the same.
use Rattle.std.proofs.Common.{◌≡◌, ℕ, Bool, true, false, ◌||◌, nat_lt, ◌==◌, if◌then◌else◌, List, [], ◌∷◌, map}
use Rattle.std.proofs.Common.{Option, Some, None, is_some, refl, sym, ◌∙◌, ap, arith}
use Rattle.std.proofs.lemmas.Bool.{eqb-true}
use Rattle.std.proofs.lemmas.Grind.{common_steps}
use Rattle.std.specs.Option.{option_map}
use Rattle.react_core.specs.declared.outside.Report.{Report}
use Rattle.react_core.specs.Places.{Entry, Direction, Source}
use Rattle.react_core.specs.Sources.{has_task, some_task, source_of, without, with_new}
use Rattle.react_core.specs.Sources as sources_of
use Rattle.react_core.specs.Reports.{marked, without_task, without_tasks, reported, after_report, after_report_of}
use Rattle.react_core.specs.Reports.{after_reports, arming_of, armed_told}
use Rattle.bus_visit.specs.Registry.{Reported, told_of, waits, arming, Held, held_at, with_held, without_held}
use Rattle.bus_visit.specs.Registry.{after_report_held, after_reports_held, reported_held}
use Rattle.bus_visit.specs.Shown.{side_of, place_side, task_side, shown}

-- the source under this key, as the record shows it
abbrev pub shown_at : ℕ → Source → Held
shown_at key s = shown (key, s)

held_go : (s : ℕ × Source) (sources : List (ℕ × Source)) (key : ℕ) (b : Bool) → (s.0 == key) ≡ b →
    held_at (map shown sources) key ≡ option_map (shown_at key) (source_of sources key) →
    held_at (map shown (s ∷ sources)) key ≡ option_map (shown_at key) (source_of (s ∷ sources) key)
held_go s sources key true e ih = rw e (ap (λ k. Some (shown (k, s.1))) (eqb-true s.0 key e))
held_go s sources key false e ih = rw e ih

pub held_at-shown : (sources : List (ℕ × Source)) (key : ℕ) →
    held_at (map shown sources) key ≡ option_map (shown_at key) (source_of sources key)
held_at-shown [] key = refl
held_at-shown (s ∷ sources) key = held_go s sources key (s.0 == key) refl (held_at-shown sources key)

pub without-shown : (sources : List (ℕ × Source)) (key : ℕ) →
    map shown (without sources key) ≡ without_held (map shown sources) key
without-shown [] key = refl
without-shown (s ∷ sources) key = grind (arith, common_steps, without-shown sources key)

new_go : (s : ℕ × Source) (sources : List (ℕ × Source)) (key : ℕ) (new : Source) (b : Bool) → nat_lt key s.0 ≡ b →
    map shown (with_new sources key new) ≡ with_held (map shown sources) (shown (key, new)) →
    map shown (with_new (s ∷ sources) key new) ≡ with_held (map shown (s ∷ sources)) (shown (key, new))
new_go s sources key new true e ih = rw e refl
new_go s sources key new false e ih = rw (e, ih) refl

pub with_new-shown : (sources : List (ℕ × Source)) (key : ℕ) (new : Source) →
    map shown (with_new sources key new) ≡ with_held (map shown sources) (shown (key, new))
with_new-shown [] key new = refl
with_new-shown (s ∷ sources) key new = new_go s sources key new (nat_lt key s.0) refl (with_new-shown sources key new)

side-marked_task : (o : Option ℕ) → Reported ≡ told_of true (task_side o)
side-marked_task None = refl
side-marked_task (Some task) = refl

side-marked_place : (w : Option Entry) → place_side (without_task w) ≡ told_of true (place_side w)
side-marked_place None = refl
side-marked_place (Some w) = side-marked_task w.task

pub side-marked : (b : Bool) (t : ℕ) (d : Direction) → side_of (marked b t d) ≡ told_of b (side_of d)
side-marked true t d = side-marked_place d.polled
side-marked false t d = refl

-- a report leaves no future where there was none
pub lone-marked : (b : Bool) (t : ℕ) (d : Direction) → d.futures ≡ [] → (marked b t d).futures ≡ []
lone-marked true t d none = ap without_tasks none
lone-marked false t d none = none

pub reported-shown : (t : ℕ) (r : Report) (key : ℕ) (s : Source) →
    shown_at key (reported t r s) ≡ reported_held (shown_at key s) r
reported-shown t r key s = rw (side-marked r.read t s.read, side-marked r.write t s.write) refl

waits_task : (o : Option ℕ) → is_some o ≡ waits (task_side o)
waits_task None = refl
waits_task (Some task) = refl

pub waits_place : (w : Option Entry) → has_task w ≡ waits (place_side w)
waits_place None = refl
waits_place (Some w) = waits_task w.task

-- a task waits for a direction exactly where its side waits
pub waits-side : (d : Direction) → d.futures ≡ [] → sources_of.waits d ≡ waits (side_of d)
waits-side d none = ap (λ futures. some_task futures || has_task d.polled) none ∙ waits_place d.polled

arming_go : (key : ℕ) (s : Source) (b c : Bool) →
    map armed_told (if b || c then (record { wire = s.wire; key = key; read = b; write = c }) ∷ [] else []) ≡
    (if b || c then armed_told (record { wire = s.wire; key = key; read = b; write = c }) ∷ [] else [])
arming_go key s true c = refl
arming_go key s false true = refl
arming_go key s false false = refl

pub arming-shown : (key : ℕ) (s : Source) → s.read.futures ≡ [] → s.write.futures ≡ [] →
    map armed_told (arming_of key s) ≡ arming (shown_at key s)
arming-shown key s read write =
    rw (waits-side s.read read, waits-side s.write write)
    (arming_go key s (waits (side_of s.read)) (waits (side_of s.write)))

later : (t : ℕ) (s : ℕ × Source) (sources : List (ℕ × Source)) (r : Report) (o : Option Source) →
    (s.0 == r.key) ≡ false →
    after_report_of t (s ∷ sources) r o ≡ s ∷ after_report_of t sources r o
later t s sources r None e = refl
later t s sources r (Some x) e = rw e refl

here_or_later : (t : ℕ) (s : ℕ × Source) (sources : List (ℕ × Source)) (r : Report) (b : Bool) → (s.0 == r.key) ≡ b →
    map shown (after_report t sources r) ≡ after_report_held (map shown sources) r →
    map shown (after_report t (s ∷ sources) r) ≡ after_report_held (map shown (s ∷ sources)) r
here_or_later t s sources r true e ih =
    let at : shown_at r.key s.1 ≡ shown s = ap (λ k. shown (k, s.1)) (sym (eqb-true s.0 r.key e)) in
    let here : shown_at r.key (reported t r s.1) ≡ reported_held (shown s) r =
    reported-shown t r r.key s.1 ∙ ap (λ h. reported_held h r) at in
    rw (e, e, here) refl
here_or_later t s sources r false e ih = rw (e, later t s sources r (source_of sources r.key) e, ih) refl

pub after_report-shown : (t : ℕ) (sources : List (ℕ × Source)) (r : Report) →
    map shown (after_report t sources r) ≡ after_report_held (map shown sources) r
after_report-shown t [] r = refl
after_report-shown t (s ∷ sources) r = here_or_later t s sources r (s.0 == r.key) refl (after_report-shown t sources r)

pub after_reports-shown : (t : ℕ) (sources : List (ℕ × Source)) (reports : List Report) →
    map shown (after_reports t sources reports) ≡ after_reports_held (map shown sources) reports
after_reports-shown t sources [] = refl
after_reports-shown t sources (r ∷ reports) =
    rw (after_reports-shown t (after_report t sources r) reports, after_report-shown t sources r) refl
