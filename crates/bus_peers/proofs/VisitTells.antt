-- What a visit does to the reactor and tells, whatever the record was before it.
use Rattle.std.proofs.Common.{◌≡◌, ◌≤◌, ◌+◌, ℕ, true, not, List, [], ◌∷◌, ◌++◌, Option, Some, None, refl, sym, ◌∙◌}
use Rattle.std.proofs.Common.{ap, subst, arith}
use Rattle.react_core.specs.declared.outside.Event.{Event}
use Rattle.react_core.specs.declared.outside.Event.TheVariants as event
use Rattle.react_core.specs.Core.{Core, removed}
use Rattle.react_core.specs.Told.{told, told-told}
use Rattle.bus_opening.specs.Openings.{Opening}
use Rattle.bus_session.specs.declared.session.Session.{Session}
use Rattle.bus_session.specs.Counts.{waits_in, notices_in}
use Rattle.bus_visit.specs.declared.visiting.Slot.{Slot}
use Rattle.bus_visit.specs.declared.visiting.Slot.TheVariants as slot
use Rattle.bus_visit.specs.declared.visiting.Sleeper.{Sleeper}
use Rattle.bus_visit.specs.declared.timing.Limit.{Limit}
use Rattle.bus_visit.specs.Dialled.{dials_of, opening}
use Rattle.bus_visit.specs.First.{FirstVisits, undialled, dialled}
use Rattle.bus_visit.specs.Shown.{IsBetweenCalls, tags, without_tag}
use Rattle.bus_visit.specs.laws.Removals.{rests-removed}
use Rattle.bus_visit.specs.laws.Timers.{rests-timed, rests-forgotten}
use Rattle.bus_visit.specs.Timed.{forgotten, timed_by, notice_by, timed_out, left_by, SleepsOn, TimedVisit, over, untimed, late}
use Rattle.bus_visit.specs.Timed.{early, MakesVisit}
use Rattle.bus_visit.specs.Visited.{MakesRegisteredVisit, tail_of, tags_after}
use Rattle.bus_visit.specs.laws.Dials.{dials-unnumbered}
use Rattle.bus_visit.specs.laws.Records.{notices_in-append, unnumbered-notices, unnumbered-waits}
use Rattle.bus_visit.specs.laws.Records.{waits_in-append}
use Rattle.bus_visit.specs.laws.Tags.{tags-without}
use Rattle.bus_visit.specs.laws.Timers.{forgotten-same, forgotten-sources, removed-ticker, removed-made, removed-hands}
use Rattle.bus_visit.specs.laws.Timers.{timed-same, timed-sources, inserted-ticker, inserted-made, inserted-hands}
use Rattle.bus_peers.specs.inside.Slots.{is_open_slot, Told}

-- a session that sleeps has this key
abbrev pub KeyAt : ℕ → Slot → Type 0
KeyAt key (slot.Ended e) = Unit {0}
KeyAt key (slot.Asleep s) = s.key ≡ key
KeyAt key slot.Refused = ⊥

pub record VisitDoes (key : ℕ) (before after : Option (List Event)) (old new : Core) (c : Slot) : Type 0 where
  pub more : List Event
  pub tells : Told before after old new more
  pub tags : tags new.sources ≡ tags_after key c (tags old.sources)
  pub open_ : is_open_slot c ≡ true
  pub at : KeyAt key c
  pub rests : IsBetweenCalls new

-- ---- up to the look at the clock

registered-tells : (wire key : ℕ) (r0 r1 : Option (List Event)) (old new : Core) (c : Opening) (s : Slot)
    (x : MakesRegisteredVisit wire key r0 r1 old new c s) →
    (more : List Event) × Told r0 r1 old new more × (notices_in more ≡ 0)
registered-tells wire key r0 r1 old new c s (h, h', calls, o, x) =
    let more : List Event = calls ++ tail_of wire key o s in
    let none = unnumbered-notices more x.unnumbered in (
      more,
      record {
        gained = x.gained;
        made = omega (arith, x.made, none);
        closed = x.rests.idle;
        ticker = omega (arith, x.ticker, unnumbered-waits more x.unnumbered);
      },
      none,
    )

ended-does : (wire key : ℕ) (r0 r1 : Option (List Event)) (old new : Core) (c : Opening) (e : _) →
    MakesRegisteredVisit wire key r0 r1 old new c (slot.Ended e) → VisitDoes key r0 r1 old new (slot.Ended e)
ended-does wire key r0 r1 old new c e x =
    let t = registered-tells wire key r0 r1 old new c (slot.Ended e) x in
    record { more = t.0; tells = t.1; tags = x.4.tags; open_ = refl; at = tt; rests = x.4.rests }

asleep-does : (wire key : ℕ) (r0 r1 : Option (List Event)) (old new : Core) (c : Opening) (s : Sleeper) →
    MakesRegisteredVisit wire key r0 r1 old new c (slot.Asleep s) → VisitDoes key r0 r1 old new (slot.Asleep s)
asleep-does wire key r0 r1 old new c s x =
    let t = registered-tells wire key r0 r1 old new c (slot.Asleep s) x in
    record {
      more = t.0;
      tells = t.1;
      tags = x.4.tags;
      open_ = ap not x.4.stays.open_;
      at = x.4.stays.at;
      rests = x.4.rests;
    }

-- ---- the look

late-does : (wire key moment : ℕ) (r0 r1 r2 : Option (List Event)) (old mid : Core) (s : Sleeper) (e : _) →
    VisitDoes key r0 r1 old mid (slot.Asleep s) →
    r2 ≡ told r1 (event.Now moment ∷ event.Delete wire key true ∷ []) →
    VisitDoes key r0 r2 old (removed mid key) (slot.Ended e)
late-does wire key moment r0 r1 r2 old mid s e x gained =
    let gone : List Event = event.Now moment ∷ event.Delete wire key true ∷ [] in
    record {
      more = x.more ++ gone;
      tells = record {
        gained = gained ∙ (ap (λ r. told r gone) x.tells.gained ∙ told-told r0 x.more gone);
        made = omega (arith, x.tells.made, notices_in-append x.more gone);
        closed = x.tells.closed;
        ticker = omega (arith, x.tells.ticker, waits_in-append x.more gone);
      };
      tags = tags-without mid.sources key ∙ ap (λ ts. without_tag ts key) x.tags;
      open_ = refl;
      at = tt;
      rests = rests-removed mid key x.rests;
    }

notice-waits : (moment : ℕ) (number : Option ℕ) → waits_in (event.Now moment ∷ notice_by number) ≡ 0
notice-waits moment None = refl
notice-waits moment (Some number) = refl

timed-made : (number : Option ℕ) (moment deadline wire : ℕ) (core : Core) →
    (timed_by number deadline wire core).made ≡ core.made + notices_in (event.Now moment ∷ notice_by number)
timed-made None moment deadline wire core = inserted-made core deadline wire
timed-made (Some number) moment deadline wire core = omega arith

looked-same : {X : Type 0} (f : Core → X) (wire : ℕ) (l : Limit) (r1 r2 : Option (List Event)) (mid new : Core) (a : _) →
    SleepsOn wire l r1 r2 mid new a → f (timed_by l.number l.deadline wire mid) ≡ f mid → f new ≡ f mid
looked-same f wire l r1 r2 mid new a looked is = ap f looked.core ∙ is

early-does : (wire key : ℕ) (l : Limit) (r0 r1 r2 : Option (List Event)) (old mid new : Core) (s : Sleeper) (a : _) →
    VisitDoes key r0 r1 old mid (slot.Asleep s) → SleepsOn wire l r1 r2 mid new a →
    VisitDoes key r0 r2 old new (slot.Asleep (record s { alarm = Some a }))
early-does wire key l r0 r1 r2 old mid new s a x looked =
    let tail : List Event = event.Now a.moment ∷ notice_by l.number in
    let made : new.made ≡ mid.made + notices_in tail =
    ap (λ k. k.made) looked.core ∙ timed-made l.number a.moment l.deadline wire mid in
    let ticker : new.ticker ≡ mid.ticker = looked-same (λ k. k.ticker) wire l r1 r2 mid new a looked
    (timed-same (λ k. k.ticker) l.number l.deadline wire mid (inserted-ticker mid l.deadline wire)) in
    record {
      more = x.more ++ tail;
      tells = record {
        gained = looked.gained ∙ (ap (λ r. told r tail) x.tells.gained ∙ told-told r0 x.more tail);
        made = omega (arith, made, x.tells.made, notices_in-append x.more tail);
        closed = looked-same (λ k. k.hands) wire l r1 r2 mid new a looked
            (timed-same (λ k. k.hands) l.number l.deadline wire mid (inserted-hands mid l.deadline wire)) ∙ x.tells.closed;
        ticker = omega (arith, ticker, x.tells.ticker, waits_in-append x.more tail, notice-waits a.moment l.number);
      };
      tags = ap tags (looked-same (λ k. k.sources) wire l r1 r2 mid new a looked (timed-sources l.number l.deadline wire mid)) ∙ x.tags;
      open_ = x.open_;
      at = x.at;
      rests = subst IsBetweenCalls (sym looked.core) (rests-timed l.number l.deadline wire mid x.rests);
    }

-- the timer of a session that has ended is taken out
forgets-does : (key : ℕ) (limit : Option Limit) (r0 r1 : Option (List Event)) (old new : Core) (c : Slot) →
    VisitDoes key r0 r1 old new c → VisitDoes key r0 r1 old (forgotten limit new) c
forgets-does key limit r0 r1 old new c x = record {
  more = x.more;
  tells = record {
    gained = x.tells.gained;
    made = forgotten-same (λ k. k.made) limit new (λ d n. removed-made new d n) ∙ x.tells.made;
    closed = forgotten-same (λ k. k.hands) limit new (λ d n. removed-hands new d n) ∙ x.tells.closed;
    ticker = forgotten-same (λ k. k.ticker) limit new (λ d n. removed-ticker new d n) ∙ x.tells.ticker;
  };
  tags = ap tags (forgotten-sources limit new) ∙ x.tags;
  open_ = x.open_;
  at = x.at;
  rests = rests-forgotten limit new x.rests;
}

-- ---- a visit

timed-does : (wire key : ℕ) (limit : Option Limit) (r0 r1 : Option (List Event)) (old new last : Core) (c : Opening)
    (s : Slot) → TimedVisit wire key limit r0 r1 old last c s → new ≡ left_by s limit last → VisitDoes key r0 r1 old new s
timed-does wire key limit r0 r1 old new last c s (over e x) is =
    subst (λ k. VisitDoes key r0 r1 old k (slot.Ended e)) (sym is)
    (forgets-does key limit r0 r1 old last (slot.Ended e) (ended-does wire key r0 r1 old last c e x))
timed-does wire key limit r0 r1 old new last c s (untimed sl none x) is =
    subst (λ k. VisitDoes key r0 r1 old k (slot.Asleep sl)) (sym is) (asleep-does wire key r0 r1 old last c sl x)
timed-does wire key limit r0 r1 old new last c s (late l sl mid there moment at x le gained core) is =
    let e : _ = timed_out sl wire moment in
    subst (λ k. VisitDoes key r0 r1 old k (slot.Ended e)) (sym (is ∙ ap (forgotten limit) core))
    (forgets-does key limit r0 r1 old (removed mid key) (slot.Ended e)
    (late-does wire key moment r0 there r1 old mid sl e (asleep-does wire key r0 there old mid c sl x) gained))
timed-does wire key limit r0 r1 old new last c s (early l sl mid there a at x looked) is =
    subst (λ k. VisitDoes key r0 r1 old k (slot.Asleep (record sl { alarm = Some a }))) (sym is)
    (early-does wire key l r0 there r1 old mid last sl a (asleep-does wire key r0 there old mid c sl x) looked)

pub visit-does : (wire key : ℕ) (limit : Option Limit) (r0 r1 : Option (List Event)) (old new : Core) (c : Opening)
    (s : Slot) → MakesVisit wire key limit r0 r1 old new c s → VisitDoes key r0 r1 old new s
visit-does wire key limit r0 r1 old new c s (last, x, is) = timed-does wire key limit r0 r1 old new last c s x is

pub visit-told : (wire key : ℕ) (limit : Option Limit) (r0 r1 : Option (List Event)) (old new : Core) (c : Opening)
    (s : Slot) → MakesVisit wire key limit r0 r1 old new c s → (more : List Event) × Told r0 r1 old new more
visit-told wire key limit r0 r1 old new c s visits =
    let x = visit-does wire key limit r0 r1 old new c s visits in (x.more, x.tells)

-- ---- a first visit

opening-notices : (wire key : ℕ) (dials : _) → notices_in (opening wire key dials) ≡ 0
opening-notices wire key dials =
    notices_in-append (dials_of wire dials) (event.Add wire key true ∷ [])
    ∙ omega (arith, unnumbered-notices (dials_of wire dials) (dials-unnumbered wire dials))

pub first-told : (s : Session) (wire : ℕ) (r0 r1 : Option (List Event)) (old new : Core) (c : Slot) →
    FirstVisits s wire r0 r1 old new c →
    (more : List Event) × (r1 ≡ told r0 more) × (new.made ≡ old.made + notices_in more)
first-told s wire r0 r1 old new c (undialled dials failure e to awake still is says) = (
  dials_of wire dials,
  to.gained,
  omega (arith, ap (λ k. k.made) still, unnumbered-notices (dials_of wire dials) (dials-unnumbered wire dials)),
)
first-told s wire r0 r1 old new c (dialled dials wired on to (talk, client, key, mid, r)) =
    let x = visit-does wire key _ _ r1 mid new client c r.visits in
    let begun : mid.made ≡ old.made = ap (λ k. k.made) r.core in (
      opening wire key dials ++ x.more,
      x.tells.gained
          ∙ (ap (λ y. told (told y (event.Add wire key true ∷ [])) x.more) to.gained
          ∙ (ap (λ y. told y x.more) (told-told r0 (dials_of wire dials) (event.Add wire key true ∷ []))
          ∙ told-told r0 (opening wire key dials) x.more)),
      omega (arith, x.tells.made, begun, notices_in-append (opening wire key dials) x.more, opening-notices wire key dials),
    )

-- it makes one timer at most

notice-one : (number : Option ℕ) (moment : ℕ) → notices_in (event.Now moment ∷ notice_by number) ≤ 1
notice-one None moment = omega arith
notice-one (Some number) moment = omega arith

timed-one : (wire key : ℕ) (limit : Option Limit) (r0 r1 : Option (List Event)) (old new last : Core) (c : Opening)
    (s : Slot) → TimedVisit wire key limit r0 r1 old last c s → new ≡ left_by s limit last → new.made ≤ old.made + 1
timed-one wire key limit r0 r1 old new last c s (over e x) is =
    let same : new.made ≡ last.made =
    ap (λ k. k.made) is ∙ forgotten-same (λ k. k.made) limit last (λ d n. removed-made last d n) in
    omega (arith, same, x.4.made)
timed-one wire key limit r0 r1 old new last c s (untimed sl none x) is =
    omega (arith, ap (λ k. k.made) is, x.4.made)
timed-one wire key limit r0 r1 old new last c s (late l sl mid there moment at x le gained core) is =
    let same : new.made ≡ last.made =
    ap (λ k. k.made) is ∙ forgotten-same (λ k. k.made) limit last (λ d n. removed-made last d n) in
    omega (arith, same, ap (λ k. k.made) core, x.4.made)
timed-one wire key limit r0 r1 old new last c s (early l sl mid there a at x looked) is =
    let made : last.made ≡ mid.made + notices_in (event.Now a.moment ∷ notice_by l.number) =
    ap (λ k. k.made) looked.core ∙ timed-made l.number a.moment l.deadline wire mid in
    omega (arith, ap (λ k. k.made) is, made, x.4.made, notice-one l.number a.moment)

pub made-first : (s : Session) (wire : ℕ) (r0 r1 : Option (List Event)) (old new : Core) (c : Slot) →
    FirstVisits s wire r0 r1 old new c → new.made ≤ old.made + 1
made-first s wire r0 r1 old new c (undialled dials failure e to awake still is says) =
    omega (arith, ap (λ k. k.made) still)
made-first s wire r0 r1 old new c (dialled dials wired on to (talk, client, key, mid, r)) =
    let (last, x, is) = r.visits in
    omega (arith, timed-one wire key _ _ r1 mid new last client c x is, ap (λ k. k.made) r.core)
