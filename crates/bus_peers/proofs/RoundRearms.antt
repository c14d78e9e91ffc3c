-- The re-arming of a round is the same of the sources and of the pieces.
use Rattle.std.proofs.Common.{◌≡◌, ℕ, Bool, true, false, not, ◌&&◌, ◌||◌, ◌==◌, if◌then◌else◌, List, [], ◌∷◌, ◌++◌}
use Rattle.std.proofs.Common.{Option, Some, None, refl, sym, ◌∙◌, ap, subst}
use Rattle.std.proofs.lemmas.Bool.{both_ways, ne_eqb, eq-eqb, eqb-true}
use Rattle.std.proofs.lemmas.Option.{none-some, same_Some}
use Rattle.std.specs.Option.{option_map}
use Rattle.react_core.specs.declared.outside.Event.{Event}
use Rattle.react_core.specs.declared.outside.Event.TheVariants as event
use Rattle.react_core.specs.declared.outside.Report.{Report}
use Rattle.react_core.specs.declared.reactor.Dir.{Dir}
use Rattle.react_core.specs.declared.reactor.Dir.TheVariants.{Read, Write}
use Rattle.bus_record.specs.Pieces.{Pieces}
use Rattle.bus_record.specs.Places.{holder, names, named, waits}
use Rattle.bus_record.specs.Visits.{here}
use Rattle.bus_record.specs.Settled.{arming_of}
use Rattle.bus_record.specs.Settled as settled
use Rattle.bus_visit.specs.Registry.{Side, Idle, Waits, Reported, Held, told_of, held_at, side_held, reported_held}
use Rattle.bus_visit.specs.Registry.{after_report_held, arming}
use Rattle.bus_visit.specs.Registry as registry
use Rattle.bus_peers.specs.inside.Shows.{Shows}
use Rattle.bus_peers.proofs.HeldLists.{if-then, reported_one, report-at}
use Rattle.bus_peers.proofs.Sides.{side-at, side-waits, and_true}
use Rattle.bus_peers.specs.inside.RoundEvents as round_events

-- ---- one report

-- the flag of a report for the direction
abbrev pub flag : Dir → Report → Bool
flag x r = names x r.read r.write

told-waits : (b : Bool) (side : Side) → registry.waits (told_of b side) ≡ (registry.waits side && not b)
told-waits true Idle = refl
told-waits true Waits = refl
told-waits true Reported = refl
told-waits false Idle = refl
told-waits false Waits = refl
told-waits false Reported = refl

pub reported-side : (x : Dir) (h : Held) (r : Report) →
    side_held x (reported_held h r) ≡ told_of (flag x r) (side_held x h)
reported-side Read h r = refl
reported-side Write h r = refl

pub eqb-flip : (a b : ℕ) (c : Bool) → (a == b) ≡ c → (b == a) ≡ c
eqb-flip a b true e = eq-eqb b a (sym (eqb-true a b e))
eqb-flip a b false e = ne_eqb b a (λ f. both_ways (a == b) e (eq-eqb a b (sym f)))

one_go : (x : Dir) (h : Held) (r : Report) (b : Bool) → (h.key == r.key) ≡ b →
    registry.waits (side_held x (if b then reported_held h r else h))
    ≡ (registry.waits (side_held x h) && not ((r.key == h.key) && flag x r))
one_go x h r true is =
    ap registry.waits (reported-side x h r) ∙ (told-waits (flag x r) (side_held x h)
    ∙ ap (λ b. registry.waits (side_held x h) && not (b && flag x r)) (sym (eqb-flip h.key r.key true is)))
one_go x h r false is =
    sym (ap (λ b. registry.waits (side_held x h) && not (b && flag x r)) (eqb-flip h.key r.key false is)
    ∙ and_true (registry.waits (side_held x h)))

-- a direction still waits behind a report that doesn't name it
pub one-waits : (x : Dir) (h : Held) (r : Report) →
    registry.waits (side_held x (reported_one r h))
    ≡ (registry.waits (side_held x h) && not ((r.key == h.key) && flag x r))
one-waits x h r = one_go x h r (h.key == r.key) refl

pub one-key : (r : Report) (h : Held) → (reported_one r h).key ≡ h.key
one-key r h = go (h.key == r.key)
  where
    go : (b : Bool) → (if b then reported_held h r else h).key ≡ h.key
    go true = refl
    go false = refl

pub one-wire : (r : Report) (h : Held) → (reported_one r h).wire ≡ h.wire
one-wire r h = go (h.key == r.key)
  where
    go : (b : Bool) → (if b then reported_held h r else h).wire ≡ h.wire
    go true = refl
    go false = refl

-- ---- the reports so far

-- a source behind these reports, as the pieces before them show it
pub record SeenSource (past : Pieces) (seen : List Report) (key : ℕ) (h : Held) : Type 0 where
  pub key_so : h.key ≡ key
  pub holds : holder key past ≡ Some h.wire
  pub waits : (x : Dir) → registry.waits (side_held x h) ≡ (waits x h.wire past && not (named x key seen))

-- the sources behind these reports
pub record Seen (past : Pieces) (seen : List Report) (sources : List Held) : Type 0 where
  pub each : (key : ℕ) (h : Held) → held_at sources key ≡ Some h → SeenSource past seen key h
  pub free : (key : ℕ) → held_at sources key ≡ None → holder key past ≡ None

seen-none : (past : Pieces) (sources : List Held) → Shows past sources → Seen past [] sources
seen-none past sources shows = record {
  each = λ key h at.
      let was = shows.each key h at in
      record {
        key_so = was.0;
        holds = ap (λ k. holder k past) (sym was.0) ∙ was.1.holds;
        waits = λ x. sym (side-waits (waits x h.wire past) ((here h.wire past).was_reported x) (side_held x h)
            (side-at (here h.wire past) h x was.1.stands)) ∙ sym (and_true (waits x h.wire past));
      };
  free = shows.free;
}

not-or : (w a b : Bool) → ((w && not b) && not a) ≡ (w && not (a || b))
not-or false a b = refl
not-or true true true = refl
not-or true true false = refl
not-or true false true = refl
not-or true false false = refl

seen-source : (past : Pieces) (seen : List Report) (key : ℕ) (h : Held) (r : Report) → SeenSource past seen key h →
    SeenSource past (r ∷ seen) key (reported_one r h)
seen-source past seen key h r was = record {
  key_so = one-key r h ∙ was.key_so;
  holds = was.holds ∙ ap Some (sym (one-wire r h));
  waits = λ x. one-waits x h r
      ∙ (ap (λ w. w && not ((r.key == h.key) && flag x r)) (was.waits x)
      ∙ (not-or (waits x h.wire past) ((r.key == h.key) && flag x r) (named x key seen)
      ∙ (ap (λ k. waits x h.wire past && not (((r.key == k) && flag x r) || named x key seen)) was.key_so
      ∙ ap (λ w. waits x w past && not (named x key (r ∷ seen))) (sym (one-wire r h)))));
}

found : (past : Pieces) (seen : List Report) (key : ℕ) (r : Report) (o : Option Held) →
    ((h : Held) → o ≡ Some h → SeenSource past seen key h) → (h : Held) → option_map (reported_one r) o ≡ Some h →
    SeenSource past (r ∷ seen) key h
found past seen key r None each h at = absurd (none-some h at)
found past seen key r (Some x) each h at =
    subst (SeenSource past (r ∷ seen) key) (same_Some (reported_one r x) h at)
    (seen-source past seen key x r (each x refl))

pub mapped-none : {A B : Type 0} (f : A → B) (o : Option A) → option_map f o ≡ None → o ≡ None
mapped-none f None e = refl
mapped-none f (Some x) e = absurd (none-some (f x) (sym e))

-- one more report
seen-next : (past : Pieces) (seen : List Report) (sources : List Held) (r : Report) → Seen past seen sources →
    Seen past (r ∷ seen) (after_report_held sources r)
seen-next past seen sources r s = record {
  each = λ key h at. found past seen key r (held_at sources key) (s.each key) h (sym (report-at sources r key) ∙ at);
  free = λ key none. s.free key
      (mapped-none (reported_one r) (held_at sources key) (sym (report-at sources r key) ∙ none));
}

-- ---- the re-arming

arming-of : (wire key : ℕ) (read write : Bool) →
    arming_of wire key read write ≡ (if read || write then event.Modify wire key read write true ∷ [] else [])
arming-of wire key true true = refl
arming-of wire key true false = refl
arming-of wire key false true = refl
arming-of wire key false false = refl

-- what is armed for a source of which so much waits
arming-waits : (h : Held) (wire key : ℕ) (read write : Bool) → h.wire ≡ wire → h.key ≡ key →
    registry.waits h.read ≡ read → registry.waits h.write ≡ write → arming h ≡ arming_of wire key read write
arming-waits h wire key read write ew ek er ed =
    let so : ℕ → ℕ → Bool → Bool → List Event = λ w k r d. if r || d then event.Modify w k r d true ∷ [] else [] in
    let rs : Bool = registry.waits h.read in
    let ws : Bool = registry.waits h.write in
    ap (λ w. so w h.key rs ws) ew
    ∙ (ap (λ k. so wire k rs ws) ek
    ∙ (ap (λ r. so wire key r ws) er ∙ (ap (so wire key read) ed ∙ sym (arming-of wire key read write))))

-- the re-arming after one report
rearming_of-same : (past : Pieces) (seen : List Report) (sources : List Held) (r : Report) (o : Option Held) →
    held_at sources r.key ≡ o → Seen past seen sources →
    settled.rearming_of past (r ∷ seen) r.key (holder r.key past) ≡ round_events.rearming_of o r
rearming_of-same past seen sources r None at s =
    ap (settled.rearming_of past (r ∷ seen) r.key) (s.free r.key at)
rearming_of-same past seen sources r (Some h) at s =
    let was = s.each r.key h at in
    let now : SeenSource past (r ∷ seen) r.key (reported_held h r) =
    subst (SeenSource past (r ∷ seen) r.key)
    (if-then (h.key == r.key) (reported_held h r) h (eq-eqb h.key r.key was.key_so))
    (seen-source past seen r.key h r was) in
    ap (settled.rearming_of past (r ∷ seen) r.key) was.holds
    ∙ sym (arming-waits (reported_held h r) h.wire r.key
    (waits Read h.wire past && not (named Read r.key (r ∷ seen)))
    (waits Write h.wire past && not (named Write r.key (r ∷ seen))) refl was.key_so (now.waits Read) (now.waits Write))

rearming-seen : (past : Pieces) (seen : List Report) (sources : List Held) (reports : List Report) →
    Seen past seen sources → settled.rearming past seen reports ≡ round_events.rearming sources reports
rearming-seen past seen sources [] s = refl
rearming-seen past seen sources (r ∷ reports) s =
    ap (λ events. events ++ settled.rearming past (r ∷ seen) reports)
    (rearming_of-same past seen sources r (held_at sources r.key) refl s)
    ∙ ap (λ events. round_events.rearming_of (held_at sources r.key) r ++ events)
    (rearming-seen past (r ∷ seen) (after_report_held sources r) reports (seen-next past seen sources r s))

-- the re-arming of the pieces is that of the sources
pub rearming-same : (past : Pieces) (sources : List Held) (reports : List Report) → Shows past sources →
    settled.rearming past [] reports ≡ round_events.rearming sources reports
rearming-same past sources reports shows = rearming-seen past [] sources reports (seen-none past sources shows)
