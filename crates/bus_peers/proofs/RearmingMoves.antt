-- The re-arming of a round moves nothing, and leaves armed what still waits.
use Rattle.std.proofs.Common.{◌≡◌, ℕ, Bool, true, false, not, ◌&&◌, ◌||◌, ◌==◌, if◌then◌else◌, List, [], ◌∷◌, ◌++◌}
use Rattle.std.proofs.Common.{Option, Some, None, refl, ◌∙◌, ap}
use Rattle.std.proofs.lemmas.Bool.{eqb-true, and_parts, or_parts, and_from, or_right}
use Rattle.std.specs.List.{list_all}
use Rattle.react_core.specs.declared.outside.Event.{Event}
use Rattle.react_core.specs.declared.outside.Event.TheVariants as event
use Rattle.react_core.specs.declared.outside.Report.{Report}
use Rattle.react_core.specs.declared.reactor.Dir.{Dir}
use Rattle.react_core.specs.declared.reactor.Dir.TheVariants.{Read, Write}
use Rattle.bus_session.specs.Parts.{is_of, part}
use Rattle.bus_record.specs.Pieces.{Round, round, Pieces, ◌▸◌, reading_told, events_of}
use Rattle.bus_record.specs.Places.{key_by, key_through, holder, holder_by, holder_through, names, named}
use Rattle.bus_record.specs.Places.{waits}
use Rattle.bus_record.specs.Places.{keeps_armed, last_reading_by, last_reading}
use Rattle.bus_record.specs.Settled.{arming_of, rearming_of, rearming}
use Rattle.bus_visit.specs.Registry.{Side, Idle, Waits, Reported, Held, told_of, held_at, side_held, reported_held}
use Rattle.bus_visit.specs.Registry.{after_report_held, after_reports_held}
use Rattle.bus_visit.specs.Registry as registry
use Rattle.bus_peers.proofs.CallSources.{MovesNothing, nothing-moves}
use Rattle.bus_peers.proofs.HeldLists.{registry-append}
use Rattle.bus_peers.proofs.RoundRearms.{flag}
use Rattle.bus_peers.proofs.Sides.{and_true}

-- ---- the re-arming moves nothing

key-append : (one two : List Event) (k : Option ℕ) → key_through k (one ++ two) ≡ key_through (key_through k one) two
key-append [] two k = refl
key-append (e ∷ one) two k = key-append one two (key_by k e)

holder-append : (k : ℕ) (one two : List Event) (h : Option ℕ) →
    holder_through k h (one ++ two) ≡ holder_through k (holder_through k h one) two
holder-append k [] two h = refl
holder-append k (e ∷ one) two h = holder-append k one two (holder_by k h e)

reading-append : (one two : List Event) (last : Option ℕ) →
    last_reading last (one ++ two) ≡ last_reading (last_reading last one) two
reading-append [] two last = refl
reading-append (e ∷ one) two last = reading-append one two (last_reading_by last e)

kept-append : (b : Bool) (e : Event) (both one two : List Event) → both ≡ one ++ two →
    (if b then e ∷ both else both) ≡ (if b then e ∷ one else one) ++ two
kept-append true e both one two ih = ap (λ z. e ∷ z) ih
kept-append false e both one two ih = ih

pub part-append : (w : ℕ) (one two : List Event) → part w (one ++ two) ≡ part w one ++ part w two
part-append w [] two = refl
part-append w (e ∷ one) two =
    kept-append (is_of w e) e (part w (one ++ two)) (part w one) (part w two) (part-append w one two)

moves-append : (one two : List Event) → MovesNothing one → MovesNothing two → MovesNothing (one ++ two)
moves-append one two a b = record {
  keys = λ k. key-append one two k ∙ (ap (λ z. key_through z two) (a.keys k) ∙ b.keys k);
  holders = λ k h. holder-append k one two h ∙ (ap (λ z. holder_through k z two) (a.holders k h) ∙ b.holders k h);
  sources = λ held. registry-append held one two
      ∙ (ap (λ z. registry.registry z two) (a.sources held) ∙ b.sources held);
  parts = λ w. part-append w one two ∙ (ap (λ z. z ++ part w two) (a.parts w) ∙ b.parts w);
  readings = λ last. reading-append one two last ∙ (ap (λ z. last_reading z two) (a.readings last) ∙ b.readings last);
}

modify_moves : (wire key : ℕ) (read write : Bool) → MovesNothing (event.Modify wire key read write true ∷ [])
modify_moves wire key read write = record {
  keys = λ k. refl;
  holders = λ k h. refl;
  sources = λ held. refl;
  parts = λ w. refl;
  readings = λ last. refl;
}

arming_of-moves : (wire key : ℕ) (read write : Bool) → MovesNothing (arming_of wire key read write)
arming_of-moves wire key true true = modify_moves wire key true true
arming_of-moves wire key true false = modify_moves wire key true false
arming_of-moves wire key false true = modify_moves wire key false true
arming_of-moves wire key false false = nothing-moves

rearming_of-moves : (past : Pieces) (seen : List Report) (key : ℕ) (h : Option ℕ) →
    MovesNothing (rearming_of past seen key h)
rearming_of-moves past seen key None = nothing-moves
rearming_of-moves past seen key (Some wire) =
    arming_of-moves wire key (waits Read wire past && not (named Read key seen))
    (waits Write wire past && not (named Write key seen))

pub rearming-moves : (past : Pieces) (seen rs : List Report) → MovesNothing (rearming past seen rs)
rearming-moves past seen [] = nothing-moves
rearming-moves past seen (r ∷ rs) =
    moves-append (rearming_of past (r ∷ seen) r.key (holder r.key past)) (rearming past (r ∷ seen) rs)
    (rearming_of-moves past (r ∷ seen) r.key (holder r.key past)) (rearming-moves past (r ∷ seen) rs)

reading-holders : (k : ℕ) (h : Option ℕ) (second : Option ℕ) (rest : List Event) →
    holder_through k h (reading_told second ++ rest) ≡ holder_through k h rest
reading-holders k h None rest = refl
reading-holders k h (Some moment) rest = refl

-- a round moves no key's holder
pub round-holder : (k : ℕ) (past : Pieces) (r : Round) → MovesNothing r.rearmed →
    holder k (past ▸ round r) ≡ holder k past
round-holder k past r moves = reading-holders k (holder k past) r.second r.rearmed ∙ moves.holders k (holder k past)

reading-parts : (w : ℕ) (second : Option ℕ) (rest : List Event) → part w (reading_told second ++ rest) ≡ part w rest
reading-parts w None rest = refl
reading-parts w (Some moment) rest = refl

-- a round is no wire's own
pub round-part : (w : ℕ) (r : Round) → MovesNothing r.rearmed → part w (events_of (round r)) ≡ []
round-part w r moves = reading-parts w r.second r.rearmed ∙ moves.parts w

-- ---- what still waits stays armed

-- an arming of another wire, or of the direction
armed-of : (d : Dir) (wire w key : ℕ) (read write : Bool) → (not (w == wire) || names d read write) ≡ true →
    list_all (keeps_armed d wire) (arming_of w key read write) ≡ true
armed-of d wire w key true true is = and_true (not (w == wire) || names d true true) ∙ is
armed-of d wire w key true false is = and_true (not (w == wire) || names d true false) ∙ is
armed-of d wire w key false true is = and_true (not (w == wire) || names d false true) ∙ is
armed-of d wire w key false false is = refl

all-append : (f : Event → Bool) (one two : List Event) → list_all f one ≡ true → list_all f two ≡ true →
    list_all f (one ++ two) ≡ true
all-append f [] two a b = b
all-append f (e ∷ one) two a b =
    let both = and_parts (f e) (list_all f one) a in
    and_from (f e) (list_all f (one ++ two)) both.0 (all-append f one two both.1 b)

names-two : (d : Dir) (f : Dir → Bool) → names d (f Read) (f Write) ≡ f d
names-two Read f = refl
names-two Write f = refl

module _ (past : Pieces) (wire key : ℕ) (d : Dir) (waiting : waits d wire past ≡ true)
    (single : (k : ℕ) → holder k past ≡ Some wire → k ≡ key) where
  -- the arming after a report that doesn't name the direction
  own-armed : (seen : List Report) (k w : ℕ) (b : Bool) → (w == wire) ≡ b → holder k past ≡ Some w →
      named d key seen ≡ false → list_all (keeps_armed d wire) (rearming_of past seen k (Some w)) ≡ true
  own-armed seen k w false is holds none =
      armed-of d wire w k (waits Read w past && not (named Read k seen))
      (waits Write w past && not (named Write k seen))
      (ap (λ b. not b || names d (waits Read w past && not (named Read k seen))
      (waits Write w past && not (named Write k seen))) is)
  own-armed seen k w true is holds none =
      let same : w ≡ wire = eqb-true w wire is in
      let keyed : k ≡ key = single k (holds ∙ ap Some same) in
      let so : (waits d w past && not (named d k seen)) ≡ true =
      ap (λ v. waits d v past && not (named d k seen)) same
      ∙ (ap (λ z. waits d wire past && not (named d z seen)) keyed
      ∙ (ap (λ b. b && not (named d key seen)) waiting ∙ ap not none)) in
      armed-of d wire w k (waits Read w past && not (named Read k seen))
      (waits Write w past && not (named Write k seen))
      (or_right (not (w == wire)) _ (names-two d (λ x. waits x w past && not (named x k seen)) ∙ so))

  of-armed : (seen : List Report) (k : ℕ) (o : Option ℕ) → holder k past ≡ o → named d key seen ≡ false →
      list_all (keeps_armed d wire) (rearming_of past seen k o) ≡ true
  of-armed seen k None holds none = refl
  of-armed seen k (Some w) holds none = own-armed seen k w (w == wire) refl holds none

  -- the re-arming keeps the direction armed, where no report names it
  pub rearming-armed : (seen rs : List Report) → named d key seen ≡ false → named d key rs ≡ false →
      list_all (keeps_armed d wire) (rearming past seen rs) ≡ true
  rearming-armed seen [] none later = refl
  rearming-armed seen (r ∷ rs) none later =
      let both = or_parts ((r.key == key) && flag d r) (named d key rs) later in
      let now : named d key (r ∷ seen) ≡ false =
      ap (λ b. b || named d key seen) both.0 ∙ none in
      all-append (keeps_armed d wire) (rearming_of past (r ∷ seen) r.key (holder r.key past))
      (rearming past (r ∷ seen) rs) (of-armed (r ∷ seen) r.key (holder r.key past) refl now)
      (rearming-armed (r ∷ seen) rs now both.1)
