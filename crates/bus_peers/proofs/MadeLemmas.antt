-- Calls of the poller that were made, each with an answer of its own.
use Rattle.std.proofs.Common.{◌≡◌, inl, inr, Bool, true, false, not, ◌||◌, List, [], ◌∷◌, ◌++◌, Result, Ok, Err, refl}
use Rattle.std.proofs.Common.{ℕ, Option, IsErrAnd, sym, ◌∙◌, ap, subst, arith}
use Rattle.std.specs.List.{list_any, list_all}
use Rattle.std.proofs.lemmas.Bool.{and_parts, both_ways}
use Rattle.react_core.specs.declared.outside.Event.{Event}
use Rattle.react_core.specs.declared.outside.Event.TheVariants as event
use Rattle.bus_record.specs.Failing.{Made, mended, is_failed}
use Rattle.bus_session.specs.Counts.{is_wait, waits_in, is_notice, notices_in}
use Rattle.bus_peers.specs.declared.open.OpenError.{OpenError}
use Rattle.bus_peers.specs.declared.open.OpenError.TheVariants as open_err
use Rattle.react_core.specs.declared.reactor.ReactError.{ReactError}
use Rattle.react_core.specs.declared.reactor.ReactError.TheVariants as react_err
use Rattle.bus_visit.specs.Failing as visit
use Rattle.bus_peers.specs.Headline.{open_error, OpenCounted}
use Rattle.react_core.specs.Core.{Core}
use Rattle.react_core.specs.Round as round
use Rattle.react_core.specs.Told.{Rose}
use Rattle.bus_visit.specs.Shown.{Tags}
use Rattle.bus_visit.specs.Timed.{TimedCounted}
use Rattle.bus_visit.specs.Visited.{KeepsCall}
use Rattle.bus_peers.specs.inside.SlotFaults.{VisitsCounted}
use Rattle.bus_peers.specs.inside.Slots.{LastRound, Told, RefusedAt, Refuses}
use Rattle.bus_peers.specs.inside.Failures.{IfPoller, OnPoller, OnTimerExhausted}

pub made-append : (ample : Bool) (calls calls' events events' : List Event) → Made ample calls events →
    Made ample calls' events' → Made ample (calls ++ calls') (events ++ events')
made-append ample [] calls' events events' none more =
    let M : List Event → Type 0 = λ x. Made ample calls' (x ++ events') in subst M (sym none) more
made-append ample (call ∷ calls) calls' events events' (inl (e, rest, is, so, made)) more =
    inl (e, rest ++ events', ap (λ x. x ++ events') is, so, made-append ample calls calls' rest events' made more)
made-append ample (call ∷ calls) calls' events events' (inr (lack, made)) more =
    inr (lack, made-append ample calls calls' events events' made more)

-- one call, with its answer
pub made-one : (ample : Bool) (call e : Event) → mended e ≡ call → Made ample (call ∷ []) (e ∷ [])
made-one ample call e so = inl (e, [], refl, so, refl)

-- ---- whether one failed

any-left : (a b : Bool) → a ≡ true → (a || b) ≡ true
any-left true b is = refl
any-left false b is = absurd (both_ways false refl is)

pub failed-before : (a b : List Event) → list_any is_failed a ≡ true → list_any is_failed (a ++ b) ≡ true
failed-before [] b is = absurd (both_ways false refl is)
failed-before (e ∷ a) b is = go (is_failed e) is (failed-before a b) where
  go : (one : Bool) → (one || list_any is_failed a) ≡ true →
      (list_any is_failed a ≡ true → list_any is_failed (a ++ b) ≡ true) → (one || list_any is_failed (a ++ b)) ≡ true
  go true is ih = refl
  go false is ih = ih is

pub failed-after : (a b : List Event) → list_any is_failed b ≡ true → list_any is_failed (a ++ b) ≡ true
failed-after [] b is = is
failed-after (e ∷ a) b is = go (is_failed e) (failed-after a b is) where
  go : (one : Bool) → list_any is_failed (a ++ b) ≡ true → (one || list_any is_failed (a ++ b)) ≡ true
  go true ih = refl
  go false ih = ih

-- ---- no wait is among calls without one

same-wait : (e : Event) → is_wait (mended e) ≡ is_wait e
same-wait (event.Add wire key ok) = refl
same-wait (event.Modify wire key read write ok) = refl
same-wait (event.Delete wire key ok) = refl
same-wait (event.Notify ok) = refl
same-wait e = refl

abbrev pub is_quiet_call : Event → Bool
is_quiet_call e = not (is_wait e)

quiet-false : (b : Bool) → not b ≡ true → b ≡ false
quiet-false true is = absurd (both_ways false refl is)
quiet-false false is = refl

pub made-waits : (ample : Bool) (calls events : List Event) → list_all is_quiet_call calls ≡ true →
    Made ample calls events → waits_in events ≡ 0
made-waits ample [] events quiet none = ap waits_in none
made-waits ample (call ∷ calls) events quiet (inl (e, rest, is, so, made)) =
    let both = and_parts (is_quiet_call call) (list_all is_quiet_call calls) quiet in
    let off : is_wait e ≡ false =
    sym (same-wait e) ∙ (ap is_wait so ∙ quiet-false (is_wait call) both.0) in
    let later : waits_in rest ≡ 0 = made-waits ample calls rest both.1 made in
    let here : waits_in (e ∷ rest) ≡ 0 = rw off later in
    ap waits_in is ∙ here
made-waits ample (call ∷ calls) events quiet (inr (lack, made)) =
    made-waits ample calls events (and_parts (is_quiet_call call) (list_all is_quiet_call calls) quiet).1 made

-- ---- nor a notice

same-notice : (e : Event) → is_notice (mended e) ≡ is_notice e
same-notice (event.Add wire key ok) = refl
same-notice (event.Modify wire key read write ok) = refl
same-notice (event.Delete wire key ok) = refl
same-notice (event.Notify ok) = refl
same-notice e = refl

abbrev pub is_unnoticed : Event → Bool
is_unnoticed e = not (is_notice e)

pub unnoticed : (events : List Event) → list_all is_unnoticed events ≡ true → notices_in events ≡ 0
unnoticed [] quiet = refl
unnoticed (e ∷ events) quiet =
    let both = and_parts (is_unnoticed e) (list_all is_unnoticed events) quiet in
    rw (quiet-false (is_notice e) both.0) (unnoticed events both.1)

pub made-notices : (ample : Bool) (calls events : List Event) → list_all is_unnoticed calls ≡ true →
    Made ample calls events → notices_in events ≡ 0
made-notices ample [] events quiet none = ap notices_in none
made-notices ample (call ∷ calls) events quiet (inl (e, rest, is, so, made)) =
    let both = and_parts (is_unnoticed call) (list_all is_unnoticed calls) quiet in
    let off : is_notice e ≡ false =
    sym (same-notice e) ∙ (ap is_notice so ∙ quiet-false (is_notice call) both.0) in
    let later : notices_in rest ≡ 0 = made-notices ample calls rest both.1 made in
    let here : notices_in (e ∷ rest) ≡ 0 = rw off later in
    ap notices_in is ∙ here
made-notices ample (call ∷ calls) events quiet (inr (lack, made)) =
    made-notices ample calls events (and_parts (is_unnoticed call) (list_all is_unnoticed calls) quiet).1 made

-- ---- the answer

-- behind a `?` the answer is the inner refusal
pub on-poller : {T : Type 0} (P : Type 0) (result : Result T OpenError) (e : OpenError) →
    IsErrAnd result (λ y. y ≡ e) → IfPoller e P → OnPoller result P
on-poller P (Ok v) e is p = absurd is
on-poller P (Err y) e is p = let Q : OpenError → Type 0 = λ x. IfPoller x P in subst Q (sym is) p

pub if-poller-by : (P Q : Type 0) (e : OpenError) → (P → Q) → IfPoller e P → IfPoller e Q
if-poller-by P Q open_err.Poller f p = f p
if-poller-by P Q open_err.OutOfMemory f p = tt
if-poller-by P Q (open_err.Exhausted c value) f p = tt

pub on-poller-by : {T : Type 0} (P Q : Type 0) (r : Result T OpenError) → (P → Q) → OnPoller r P → OnPoller r Q
on-poller-by P Q (Ok v) f p = tt
on-poller-by P Q (Err e) f p = if-poller-by P Q e f p

-- from a visit's refusal to the call's
pub from-visit : (P Q : Type 0) (e : ReactError) → (P → Q) → visit.IfPoller e P → IfPoller (open_error e) Q
from-visit P Q react_err.Poller f p = f p
from-visit P Q react_err.OutOfMemory f p = tt
from-visit P Q (react_err.Exhausted c value) f p = tt

-- ---- a visit's refusal

-- what was told counts, whatever was refused
pub visit-refuses : {T : Type 0} (result : Result T OpenError) (e : ReactError) (ts : Tags) (n0 n1 : ℕ)
    (r0 r1 : Option (List Event)) (old new : Core) → IsErrAnd result (λ y. y ≡ open_error e) →
    TimedCounted {T = Unit {0}} (Err e) n0 n1 → KeepsCall ts r0 r1 old new → Refuses result r0 r1 old new
visit-refuses (Ok v) e ts n0 n1 r0 r1 old new is counted k = absurd is
visit-refuses (Err y) e ts n0 n1 r0 r1 old new is counted (more, k) =
    let R : OpenError → Type 0 = λ x. RefusedAt x r0 r1 old new in subst R (sym is) (go e counted)
  where
    tells : Told r0 r1 old new more
    tells = record {
      gained = k.gained;
      made = k.made;
      closed = k.closed;
      ticker = omega (arith, k.ticker, k.waits);
    }

    go : (e : ReactError) → TimedCounted {T = Unit {0}} (Err e) n0 n1 → RefusedAt (open_error e) r0 r1 old new
    go react_err.Poller counted = (more, tells)
    go react_err.OutOfMemory counted = (k.closed, (more, k.gained))
    go (react_err.Exhausted c value) counted =
        (counted.1, subst (λ x. LastRound x new) (sym counted.0) tt, (more, tells))

pub visit-counts : {T : Type 0} (result : Result T OpenError) (e : ReactError) (n n0 n1 : ℕ) →
    IsErrAnd result (λ y. y ≡ open_error e) → TimedCounted {T = Unit {0}} (Err e) n0 n1 → n0 ≡ n →
    OpenCounted result n n1
visit-counts (Ok v) e n n0 n1 is counted same = absurd is
visit-counts (Err y) e n n0 n1 is counted same =
    let C : OpenError → Type 0 = λ x. OpenCounted {T = Unit {0}} (Err x) n n1 in subst C (sym is) (go e counted)
  where
    go : (e : ReactError) → TimedCounted {T = Unit {0}} (Err e) n0 n1 →
        OpenCounted {T = Unit {0}} (Err (open_error e)) n n1
    go react_err.Poller counted = subst (λ (k : ℕ). Rose k n1) same counted
    go react_err.OutOfMemory counted = omega (arith, counted, same)
    go (react_err.Exhausted c value) counted = omega (arith, counted.2, same)

-- a timer's number ran out
pub visit-exhausts : {T : Type 0} (P Q : Type 0) (result : Result T OpenError) (e : ReactError) (n0 n1 : ℕ) →
    IsErrAnd result (λ y. y ≡ open_error e) → TimedCounted {T = Unit {0}} (Err e) n0 n1 → (P → Q) →
    round.OnExhausted {T = Unit {0}} (Err e) P → OnTimerExhausted result Q
visit-exhausts P Q (Ok v) e n0 n1 is counted f p = absurd is
visit-exhausts P Q (Err y) e n0 n1 is counted f p =
    let X : OpenError → Type 0 = λ x. OnTimerExhausted {T = Unit {0}} (Err x) Q in subst X (sym is) (go e counted p)
  where
    go : (e : ReactError) → TimedCounted {T = Unit {0}} (Err e) n0 n1 → round.OnExhausted {T = Unit {0}} (Err e) P →
        OnTimerExhausted {T = Unit {0}} (Err (open_error e)) Q
    go react_err.Poller counted p = tt
    go react_err.OutOfMemory counted p = tt
    go (react_err.Exhausted c value) counted p = (counted.0, f p)

-- a visit of a session whose timer was made needs no number
pub again-counts : {T : Type 0} (P : Type 0) (result : Result T OpenError) (e : ReactError) (n0 n1 : ℕ) →
    IsErrAnd result (λ y. y ≡ open_error e) → TimedCounted {T = Unit {0}} (Err e) n0 n1 → (P → ⊥) →
    round.OnExhausted {T = Unit {0}} (Err e) P → VisitsCounted result n0 n1
again-counts P (Ok v) e n0 n1 is counted none p = absurd is
again-counts P (Err y) e n0 n1 is counted none p =
    let C : OpenError → Type 0 = λ x. VisitsCounted {T = Unit {0}} (Err x) n0 n1 in subst C (sym is) (go e counted p)
  where
    go : (e : ReactError) → TimedCounted {T = Unit {0}} (Err e) n0 n1 → round.OnExhausted {T = Unit {0}} (Err e) P →
        VisitsCounted {T = Unit {0}} (Err (open_error e)) n0 n1
    go react_err.Poller counted p = counted
    go react_err.OutOfMemory counted p = counted
    go (react_err.Exhausted c value) counted p = none p
