-- What visits and rounds keep of the outside, and which counts they raise.
use Rattle.std.proofs.Common.{◌≡◌, ◌+◌, ℕ, List, [], ◌∷◌, ◌++◌, length, Option, Result, Ok, Err, slice_set, zero, suc, sym, ap, ◌∙◌, subst, arith}
use Rattle.std.specs.Prelude.{IfOk, OnErr}
use Rattle.react_core.specs.Core.{Core}
use Rattle.react_core.specs.Outer.{Outer, Keeps, visit-in-all, round-in-all}
use Rattle.react_core.specs.Outer as part
use Rattle.react_core.specs.Told.{told, told-told, told-nothing}
use Rattle.bus_session.specs.declared.ended.Ended.{Ended}
use Rattle.bus_visit.specs.declared.visiting.Slot.{Slot}
use Rattle.bus_visit.specs.declared.visiting.Slot.TheVariants as slot
use Rattle.bus_opening.specs.Openings.{Opening}
use Rattle.react_core.specs.declared.outside.Event.{Event}
use Rattle.bus_session.specs.declared.session.Session.{Session}
use Rattle.bus_visit.specs.Shown.{Tags}
use Rattle.bus_session.specs.Counts.{notices_in}
use Rattle.bus_visit.specs.declared.timing.Limit.{Limit}
use Rattle.bus_visit.specs.Visited.{KeepsCall}
use Rattle.bus_visit.specs.First.{FirstVisits}
use Rattle.bus_visit.specs.Timed.{MakesVisit}
use Rattle.bus_visit.specs.laws.Records.{notices_in-append}
use Rattle.bus_peers.specs.Headline.{MadeTold}
use Rattle.bus_peers.proofs.VisitTells.{visit-told, first-told}
use Rattle.bus_peers.specs.inside.Rounds.{EndsIn, AllEnd}
use Rattle.bus_visit.specs.Faults.{EndingCounted, SlotCounted}
use Rattle.bus_peers.specs.Faults.{EndedsCounted}
use Rattle.bus_peers.specs.inside.SlotFaults.{NoneFell, AllCounted, CountsOn}
use Rattle.bus_visit.specs.laws.Faults.{Rises, rises-same, slot-within}

module _ {Origin : Type 0} where
  rises-all : (wire : ℕ) (a b : Outer Origin) → NoneFell a b → Rises wire a b
  rises-all wire a b k = record { wires = k.wires wire; dials = k.dials wire }

  pub fell-all : (room : ℕ) (a b : Outer Origin) → Keeps (part.All room) a b → NoneFell a b
  fell-all room a b k = record { wires = k.wires; dials = k.dials }

  pub fell-round : (room : ℕ) (a b : Outer Origin) → Keeps (part.Round room) a b → NoneFell a b
  fell-round room a b k = fell-all room a b (round-in-all room a b k)

  fell-visit : (wire : ℕ) (a b : Outer Origin) → Keeps (part.Visit wire) a b → NoneFell a b
  fell-visit wire a b k = fell-all 0 a b (visit-in-all wire 0 a b k)

  fell-then : (a b c : Outer Origin) → NoneFell a b → NoneFell b c → NoneFell a c
  fell-then a b c k l = record {
    wires = λ w. omega (arith, k.wires w, l.wires w);
    dials = λ w. omega (arith, k.dials w, l.dials w);
  }

  -- ---- the slots

  pub all-later : (wire : ℕ) (slots : List Slot) (a b c : Outer Origin) → NoneFell b c → AllCounted wire slots a b → AllCounted wire slots a c
  all-later wire [] a b c k all = tt
  all-later wire (s ∷ slots) a b c k all = (slot-within wire s a a b c (rises-same wire a) (rises-all wire b c k) all.0, all-later (wire + 1) slots a b c k all.1)

  pub all-none : (slots : List Slot) (a b : Outer Origin) → slots ≡ [] → AllCounted 0 slots a b
  all-none slots a b none = let C : List Slot → Type 0 = λ x. AllCounted 0 x a b in subst C (sym none) tt

  -- one slot more
  all-append : (wire at : ℕ) (slots : List Slot) (s : Slot) (a b : Outer Origin) → at ≡ wire + length slots → AllCounted wire slots a b → SlotCounted at s a b → AllCounted wire (slots ++ s ∷ []) a b
  all-append wire at [] s a b is all counted = let C : ℕ → Type 0 = λ w. SlotCounted w s a b in let here : at ≡ wire = omega (arith, is) in (subst C here counted, tt)
  all-append wire at (x ∷ slots) s a b is all counted = (all.0, all-append (wire + 1) at slots s a b (omega (arith, is)) all.1 counted)

  pub all-more : (wire : ℕ) (slots : List Slot) (s : Slot) (a b c : Outer Origin) → wire ≡ length slots →
      NoneFell a b → Keeps (part.Visit wire) b c → AllCounted 0 slots a b → SlotCounted wire s b c →
      AllCounted 0 (slots ++ s ∷ []) a c
  all-more wire slots s a b c is k l all counted =
      all-append 0 wire slots s a c (omega (arith, is)) (all-later 0 slots a b c (fell-visit wire b c l) all) (slot-within wire s a b c c (rises-all wire a b k) (rises-same wire c) counted)

  all-set : (wire at : ℕ) (slots : List Slot) (i : ℕ) (s : Slot) (a b : Outer Origin) → at ≡ wire + i → AllCounted wire slots a b → SlotCounted at s a b → AllCounted wire (slice_set slots i s) a b
  all-set wire at [] i s a b is all counted = tt
  all-set wire at (x ∷ slots) zero s a b is all counted = let C : ℕ → Type 0 = λ w. SlotCounted w s a b in let here : at ≡ wire = omega (arith, is) in (subst C here counted, all.1)
  all-set wire at (x ∷ slots) (suc i) s a b is all counted = (all.0, all-set (wire + 1) at slots i s a b (omega (arith, is)) all.1 counted)

  -- a visit of this wire's session
  pub counts-set : (wire : ℕ) (slots : List Slot) (s : Slot) (a b : Outer Origin) → Keeps (part.Visit wire) a b → SlotCounted wire s a b → CountsOn slots (slice_set slots wire s) a b
  counts-set wire slots s a b k counted = λ start before all.
      all-set 0 wire slots wire s start b (omega arith) (all-later 0 slots start a b (fell-visit wire a b k) all)
      (slot-within wire s start a b b (rises-all wire start a before) (rises-same wire b) counted)

  pub counts-same : (slots : List Slot) (a b : Outer Origin) → NoneFell a b → CountsOn slots slots a b
  counts-same slots a b k = λ start before all. all-later 0 slots start a b k all

  pub counts-none : (slots : List Slot) (a : Outer Origin) → CountsOn slots slots a a
  counts-none slots a = λ start before all. all

  pub counts-then : (slots slots1 slots2 : List Slot) (a b c : Outer Origin) → NoneFell a b → CountsOn slots slots1 a b → CountsOn slots1 slots2 b c → CountsOn slots slots2 a c
  counts-then slots slots1 slots2 a b c k first second = λ start before all. second start (fell-then start a b before k) (first start before all)

  -- ---- the endings

  slot-ended : (wire : ℕ) (s : Slot) (e : Ended) (a b : Outer Origin) → EndsIn wire s e → SlotCounted wire s a b → EndingCounted wire e.ending a b
  slot-ended wire (slot.Ended d) e a b is counted = let C : Ended → Type 0 = λ x. EndingCounted wire x.ending a b in subst C (sym is) counted
  slot-ended wire (slot.Asleep s) e a b is counted = let C : Ended → Type 0 = λ x. EndingCounted wire x.ending a b in subst C (sym is) tt
  slot-ended wire slot.Refused e a b is counted = absurd is

  pub all-ended : (wire : ℕ) (slots : List Slot) (endeds : List Ended) (a b : Outer Origin) → AllEnd wire slots endeds → AllCounted wire slots a b → EndedsCounted wire endeds a b
  all-ended wire [] [] a b ends all = tt
  all-ended wire (s ∷ slots) (e ∷ endeds) a b ends all = (slot-ended wire s e a b ends.0 all.0, all-ended (wire + 1) slots endeds a b ends.1 all.1)
  all-ended wire [] (e ∷ endeds) a b ends all = absurd ends
  all-ended wire (s ∷ slots) [] a b ends all = absurd ends

-- ---- each timer that is made is told

pub made-none : (r : Option (List Event)) (core : Core) → MadeTold core core r r
made-none r core = ([], told-nothing r, omega arith)

pub made-then : (r0 r1 r2 : Option (List Event)) (old mid new : Core) → MadeTold old mid r0 r1 → MadeTold mid new r1 r2 →
    MadeTold old new r0 r2
made-then r0 r1 r2 old mid new (a, x, m) (b, y, n) = (
  a ++ b,
  y ∙ (ap (λ r. told r b) x ∙ told-told r0 a b),
  omega (arith, m, n, notices_in-append a b),
)

-- nothing was made, and something may have been told without a notice
pub made-quiet : (r0 r1 : Option (List Event)) (old new : Core) (more : List Event) → r1 ≡ told r0 more →
    new.made ≡ old.made → notices_in more ≡ 0 → MadeTold old new r0 r1
made-quiet r0 r1 old new more told-so same none = (more, told-so, omega (arith, same, none))

kept-made : (ts : Tags) (r0 r1 : Option (List Event)) (old new : Core) → KeepsCall ts r0 r1 old new → MadeTold old new r0 r1
kept-made ts r0 r1 old new (more, k) = (more, k.gained, k.made)

pub visit-made : {E : Type 0} (result : Result Slot E) (wire key : ℕ) (limit : Option Limit) (r0 r1 : Option (List Event))
    (old new : Core) (c : Opening) (ts : Tags) → IfOk result (λ s. MakesVisit wire key limit r0 r1 old new c s) →
    OnErr result (KeepsCall ts r0 r1 old new) → MadeTold old new r0 r1
visit-made (Ok s) wire key limit r0 r1 old new c ts visits refused =
    let (more, t) = visit-told wire key limit r0 r1 old new c s visits in (more, t.gained, t.made)
visit-made (Err e) wire key limit r0 r1 old new c ts visits refused = kept-made ts r0 r1 old new refused

pub first-made : {E : Type 0} (result : Result Slot E) (s : Session) (wire : ℕ) (r0 r1 : Option (List Event))
    (old new : Core) (ts : Tags) → IfOk result (λ c. FirstVisits s wire r0 r1 old new c) →
    OnErr result (KeepsCall ts r0 r1 old new) → MadeTold old new r0 r1
first-made (Ok c) s wire r0 r1 old new ts visits refused = first-told s wire r0 r1 old new c visits
first-made (Err e) s wire r0 r1 old new ts visits refused = kept-made ts r0 r1 old new refused
