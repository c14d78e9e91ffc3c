-- What a change of one count keeps of the whole.
use Rattle.std.specs.Prelude.{◌≡◌, ℕ, Result, Ok, Err}
use Rattle.std.proofs.Common.{refl, sym, ap, subst, inl, arith}
use Rattle.react_core.specs.declared.outside.Fault.{Fault}
use Rattle.react_core.specs.declared.outside.Fault.TheVariants as fault
use Rattle.react_core.specs.Told.{Counted, SameBut}
use Rattle.react_core.specs.Outer.{Keeps, keeps-same}
use Rattle.react_core.specs.Outer as part
use Rattle.bus_edges.specs.declared.counts.Counts.{Counts}
use Rattle.bus_edges.specs.Seen.{capped, seen_of, outer_seen, outer_of}

-- a count that rose has risen as one that fits its type
pub counted_capped : {T : Type 0} (r : Result T Fault) (a b : ℕ) → Counted r a b → Counted r (capped a) (capped b)
counted_capped (Ok v) a b same = ap capped same
counted_capped (Err fault.Failed) a b rose = omega (arith, rose)
counted_capped (Err fault.OutOfMemory) a b same = ap capped same

pub keeps_itself : (p : part.Part) (a : Counts) → Keeps p (outer_of a) (outer_of a)
keeps_itself p a = keeps-same p (outer_of a)

pub clock_keeps : (a b : Counts) → (seen_of b).poller ≡ (seen_of a).poller → (seen_of b).wires ≡ (seen_of a).wires → (seen_of b).dials ≡ (seen_of a).dials →
    Keeps part.Clock (outer_of a) (outer_of b)
clock_keeps a b poller wires dials = record {
  origin = refl;
  moment = tt;
  poller = ap capped poller;
  rooms = refl;
  wires = ap (λ f wire. capped (f wire)) wires;
  dials = ap (λ f wire. capped (f wire)) dials;
  doors = refl;
  ample = refl;
}

pub poller_keeps : (a b : Counts) → (seen_of b).moment ≡ (seen_of a).moment → (seen_of b).wires ≡ (seen_of a).wires → (seen_of b).dials ≡ (seen_of a).dials →
    Keeps part.Poller (outer_of a) (outer_of b)
poller_keeps a b moment wires dials = record {
  origin = refl;
  moment = moment;
  poller = tt;
  rooms = refl;
  wires = ap (λ f wire. capped (f wire)) wires;
  dials = ap (λ f wire. capped (f wire)) dials;
  doors = refl;
  ample = refl;
}

pub wait_keeps : (room : ℕ) (a b : Counts) → Keeps part.Poller (outer_of a) (outer_of b) →
    Keeps (part.Wait room) (outer_of a) (outer_of b)
wait_keeps room a b k = record {
  origin = refl;
  moment = k.moment;
  poller = tt;
  rooms = inl refl;
  wires = k.wires;
  dials = k.dials;
  doors = refl;
  ample = refl;
}

pub wire_keeps : (wire : ℕ) (a b : Counts) → (seen_of b).moment ≡ (seen_of a).moment → (seen_of b).poller ≡ (seen_of a).poller →
    SameBut wire (seen_of a).wires (seen_of b).wires → (seen_of b).dials ≡ (seen_of a).dials → Keeps (part.Wire wire) (outer_of a) (outer_of b)
wire_keeps wire a b moment poller wires dials = record {
  origin = refl;
  moment = moment;
  poller = ap capped poller;
  rooms = refl;
  wires = λ w differs. ap capped (wires w differs);
  dials = ap (λ f w. capped (f w)) dials;
  doors = refl;
  ample = refl;
}

pub dial_keeps : (wire : ℕ) (a b : Counts) → (seen_of b).moment ≡ (seen_of a).moment → (seen_of b).poller ≡ (seen_of a).poller →
    (seen_of b).wires ≡ (seen_of a).wires → SameBut wire (seen_of a).dials (seen_of b).dials → Keeps (part.Dial wire) (outer_of a) (outer_of b)
dial_keeps wire a b moment poller wires dials = record {
  origin = refl;
  moment = moment;
  poller = ap capped poller;
  rooms = refl;
  wires = ap (λ f w. capped (f w)) wires;
  dials = λ w differs. ap capped (dials w differs);
  doors = refl;
  ample = refl;
}

-- what follows a call that changed nothing that is seen
pub keeps_after_same : (p : part.Part) (a b c : Counts) → seen_of b ≡ seen_of a → Keeps p (outer_of b) (outer_of c) →
    Keeps p (outer_of a) (outer_of c)
keeps_after_same p a b c same k = subst (λ s. Keeps p (outer_seen s) (outer_of c)) same k

pub same_keeps : (p : part.Part) (a b : Counts) → seen_of b ≡ seen_of a → Keeps p (outer_of a) (outer_of b)
same_keeps p a b same = subst (λ s. Keeps p (outer_of a) (outer_seen s)) (sym same) (keeps-same p (outer_of a))
