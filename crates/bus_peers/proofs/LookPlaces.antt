-- A look at the clock leaves the sources as the pieces showed them.
use Rattle.std.proofs.Common.{◌≡◌, ℕ, Bool, true, false, ◌==◌, if◌then◌else◌, List, ◌∷◌, ◌++◌, Option, Some, None}
use Rattle.std.proofs.Common.{refl, sym, ◌∙◌, ap}
use Rattle.std.specs.List.{fold}
use Rattle.std.proofs.lemmas.List.Sums.{fold-append}
use Rattle.react_core.specs.declared.outside.Event.{Event}
use Rattle.react_core.specs.declared.outside.Event.TheVariants as event
use Rattle.react_core.specs.declared.reactor.Dir.{Dir}
use Rattle.bus_record.specs.Pieces.{visit, Pieces, ◌▸◌}
use Rattle.bus_record.specs.Places.{key_of, key_by, holder, holder_by, waits, waits_by, reported, reported_by}
use Rattle.bus_record.specs.Places.{stays_armed, armed_by, paused, last_stop_by}
use Rattle.bus_record.specs.Visits.{here}
use Rattle.bus_visit.specs.Registry.{Held}
use Rattle.bus_visit.specs.Timed.{notice_by}
use Rattle.bus_peers.specs.inside.Shows.{Shows}
use Rattle.bus_peers.proofs.Sides.{and_true}
use Rattle.bus_peers.proofs.VisitShows.{stands-same}

-- each wire and each key stands there as it stood before
pub record SamePlaces (before after : Pieces) : Type 0 where
  pub key : (w : ℕ) → key_of w after ≡ key_of w before
  pub holder : (k : ℕ) → holder k after ≡ holder k before
  pub waits : (x : Dir) (w : ℕ) → waits x w after ≡ waits x w before
  pub reported : (x : Dir) (w : ℕ) → reported x w after ≡ reported x w before
  pub armed : (x : Dir) (w : ℕ) → stays_armed x w after ≡ stays_armed x w before
  pub paused : (w : ℕ) → paused w after ≡ paused w before

pub shows-same : (before after : Pieces) (sources : List Held) → SamePlaces before after → Shows before sources →
    Shows after sources
shows-same before after sources same shows = record {
  rise = shows.rise;
  each = λ key h at.
      let was = shows.each key h at in (
        was.0,
        record {
          keyed = same.key h.wire ∙ was.1.keyed;
          holds = same.holder h.key ∙ was.1.holds;
          stands = stands-same (here h.wire before) (here h.wire after) h (λ x. same.waits x h.wire)
              (λ x. same.reported x h.wire) was.1.stands;
          armed = λ d up. same.armed d h.wire ∙ was.1.armed d (sym (same.waits d h.wire) ∙ up);
        },
      );
  free = λ key at. same.holder key ∙ shows.free key at;
  keyed = λ wire key at. shows.keyed wire key (sym (same.key wire) ∙ at);
}

-- ---- the events of a look

-- what a look at the clock tells that ends no session
abbrev pub look_told : ℕ → Option ℕ → List Event
look_told moment number = event.Now moment ∷ notice_by number

-- what no such event changes is the same behind a look
pub look-fold : {X : Type 0} (by : X → Event → X) → ((x : X) (m : ℕ) → by x (event.Now m) ≡ x) →
    ((x : X) → by x (event.Notify true) ≡ x) → (x : X) (v : List Event) (moment : ℕ) (number : Option ℕ) →
    fold by x (v ++ look_told moment number) ≡ fold by x v
look-fold by reading notice x v moment None =
    fold-append by x v (look_told moment None)
    ∙ (ap (λ y. by y (event.Notify true)) (reading (fold by x v) moment) ∙ notice (fold by x v))
look-fold by reading notice x v moment (Some number) =
    fold-append by x v (look_told moment (Some number)) ∙ reading (fold by x v) moment

-- a visit with a look behind it leaves the places as without
pub look-same : (wire : ℕ) (past : Pieces) (v : List Event) (moment : ℕ) (number : Option ℕ) →
    SamePlaces (past ▸ visit wire v) (past ▸ visit wire (v ++ look_told moment number))
look-same wire past v moment number = record {
  key = λ w. ap (λ x. if wire == w then x else key_of w past)
      (look-fold key_by (λ x m. refl) (λ x. refl) (key_of w past) v moment number);
  holder = λ k. look-fold (holder_by k) (λ x m. refl) (λ x. refl) (holder k past) v moment number;
  waits = λ x w. ap (λ y. if wire == w then y else waits x w past)
      (look-fold (waits_by x) (λ y m. refl) (λ y. refl) (waits x w past) v moment number);
  reported = λ x w. ap (λ y. if wire == w then y else reported x w past)
      (look-fold (reported_by x) (λ y m. and_true y) (λ y. and_true y) (reported x w past) v moment number);
  armed = λ x w. ap (λ y. if wire == w then y else stays_armed x w past)
      (look-fold (armed_by x) (λ y m. refl) (λ y. refl) (stays_armed x w past) v moment number);
  paused = λ w. ap (λ x. if wire == w then x else paused w past)
      (look-fold last_stop_by (λ x m. refl) (λ x. refl) (paused w past) v moment number);
}

-- ---- one visit told in two parts

-- the fold of a wire's events over both parts is that over the second from where the first leads
joined_go : {X : Type 0} (by : X → Event → X) (b : Bool) (x : X) (v w : List Event) →
    (if b then fold by x (v ++ w) else x) ≡ (if b then fold by (if b then fold by x v else x) w else (if b then fold by x v else x))
joined_go by true x v w = fold-append by x v w
joined_go by false x v w = refl

pub joined-same : (wire : ℕ) (past : Pieces) (v w : List Event) →
    SamePlaces (past ▸ visit wire v ▸ visit wire w) (past ▸ visit wire (v ++ w))
joined-same wire past v w = record {
  key = λ u. joined_go key_by (wire == u) (key_of u past) v w;
  holder = λ k. fold-append (holder_by k) (holder k past) v w;
  waits = λ x u. joined_go (waits_by x) (wire == u) (waits x u past) v w;
  reported = λ x u. joined_go (reported_by x) (wire == u) (reported x u past) v w;
  armed = λ x u. joined_go (armed_by x) (wire == u) (stays_armed x u past) v w;
  paused = λ u. joined_go last_stop_by (wire == u) (paused u past) v w;
}
