-- Where the sessions stand: one that is not visited stands where it stood, and all of them rest.
use Rattle.std.proofs.Common.{◌≡◌, ◌≢◌, ◌≤◌, ◌<◌, ◌⊎◌, inl, inr, ℕ, ◌+◌, zero, suc, Bool, true, not, ◌||◌}
use Rattle.std.proofs.Common.{List, [], ◌∷◌, ◌++◌, length, take, Some, None, is_some, slice_get}
use Rattle.std.proofs.Common.{Option, slice_set, refl, sym, ◌∙◌, ap, subst, arith}
use Rattle.std.specs.List.{list_all}
use Rattle.std.proofs.lemmas.Bool.{both_ways, or_left, or_right, and_from}
use Rattle.std.proofs.lemmas.Option.{none-some, same_Some}
use Rattle.react_core.specs.declared.reactor.Dir.{Dir}
use Rattle.bus_session.specs.declared.session.Session.{Session}
use Rattle.bus_session.specs.declared.ended.Ended.{Ended}
use Rattle.bus_session.specs.Parts.{part}
use Rattle.bus_session.specs.Outcomes.{is_ended}
use Rattle.bus_session.specs.Alone.{alone, course}
use Rattle.bus_record.specs.Pieces as pieces
use Rattle.bus_record.specs.Pieces.{Pieces, nothing, ◌▸◌, visit, round}
use Rattle.bus_record.specs.Places.{key_of, waits, paused, moment, notified, is_early, stays_armed, sleeps, sleeps_in}
use Rattle.bus_record.specs.Places.{has_ended}
use Rattle.bus_record.specs.Settled.{AllRest, numbered, comes_to}
use Rattle.bus_visit.specs.declared.visiting.Slot.{Slot}
use Rattle.bus_visit.specs.declared.visiting.Slot.TheVariants as slot
use Rattle.bus_visit.specs.declared.visiting.Sleeper.{Sleeper}
use Rattle.bus_peers.specs.inside.Due.{is_in}
use Rattle.bus_visit.specs.Registry.{Held}
use Rattle.bus_peers.specs.inside.Shows.{Shows}
use Rattle.bus_peers.specs.inside.Slots.{Paused, Stands, AllStand}
use Rattle.bus_peers.proofs.VisitsInRecord.{awake-ends}

-- ---- a session that is not visited

-- the session of the wire has neither said nor heard anything since, and its places stand
pub record Still (wire : ℕ) (before after : Pieces) : Type 0 where
  pub key : key_of wire after ≡ key_of wire before
  pub paused : paused wire after ≡ paused wire before
  pub moment : moment wire after ≡ moment wire before
  pub notified : notified wire after ≡ notified wire before
  pub own : part wire (pieces.told after) ≡ part wire (pieces.told before)

-- a direction that waits still does, or its session is to be visited
abbrev pub WaitsOn : ℕ → List ℕ → List ℕ → Pieces → Pieces → Type 0
WaitsOn wire pending pending' before after =
    (dir : Dir) → (waits dir wire before ≡ true) ⊎ (is_in wire pending ≡ true) → (waits dir wire after ≡ true) ⊎ (is_in wire pending' ≡ true)

-- no reading has reached its deadline, or its session is to be visited
abbrev pub EarlyOn : Option ℕ → ℕ → List ℕ → List ℕ → Pieces → Pieces → Type 0
EarlyOn deadline wire pending pending' before after =
    (is_early deadline wire before ≡ true) ⊎ (is_in wire pending ≡ true) →
    (is_early deadline wire after ≡ true) ⊎ (is_in wire pending' ≡ true)

comes-still : (s : Session) (wire : ℕ) (before after : Pieces) → Still wire before after → comes_to s wire after ≡ comes_to s wire before
comes-still s wire before after still =
    ap (λ x. alone s x (moment wire after)) still.own ∙ ap (λ m. alone s (part wire (pieces.told before)) m) still.moment

pub stands-move : (s : Session) (wire : ℕ) (pending pending' : List ℕ) (before after : Pieces) (c : Slot) → Still wire before after → WaitsOn wire pending pending' before after →
    ((sl : Sleeper) → c ≡ slot.Asleep sl → EarlyOn s.deadline wire pending pending' before after) →
    Stands s wire pending before c → Stands s wire pending' after c
stands-move s wire pending pending' before after (slot.Ended e) still moves early is = record {
  comes = record { on = is.comes.on; at = is.comes.at ∙ sym still.moment; comes = comes-still s wire before after still ∙ is.comes.comes };
  awake = is.awake;
  gone = still.key ∙ is.gone;
}
stands-move s wire pending pending' before after (slot.Asleep c) still moves early is = record {
  open_ = is.open_;
  read = still.moment ∙ is.read;
  limited = is.limited;
  early = is.early;
  notified = still.notified ∙ is.notified;
  comes = comes-still s wire before after still ∙ is.comes;
  talking = record {
    talk = is.talking.talk;
    got = is.talking.got;
    dir = is.talking.dir;
    stands = is.talking.stands;
    through = ap (course s) still.own ∙ is.talking.through;
  };
  paused = record {
    registered = still.key ∙ is.paused.registered;
    dir = is.paused.dir;
    last = still.paused ∙ is.paused.last;
    waits_or_due = moves is.paused.dir is.paused.waits_or_due;
    early_or_due = early c refl is.paused.early_or_due;
  };
}
stands-move s wire pending pending' before after slot.Refused still moves early is = absurd is

-- ---- all sessions, one of them, and one more

pub stand-at : (n i w : ℕ) (pending : List ℕ) (sessions : List Session) (slots : List Slot) (past : Pieces)
    (c : Slot) → w ≡ n + i → slice_get slots i ≡ Some c → AllStand n pending sessions slots past →
    (s : Session) × (slice_get sessions i ≡ Some s) × Stands s w pending past c
stand-at n i w pending [] [] past c here at all = absurd (none-some c at)
stand-at n i w pending (s ∷ sessions) [] past c here at all = absurd all
stand-at n i w pending [] (d ∷ slots) past c here at all = absurd all
stand-at n zero w pending (s ∷ sessions) (d ∷ slots) past c here at all =
    let place : n ≡ w = omega (arith, here) in
    let P : Slot → Type 0 = λ x. Stands s n pending past x in
    let Q : ℕ → Type 0 = λ k. Stands s k pending past c in
    (s, refl, subst Q place (subst P (same_Some d c at) all.0))
stand-at n (suc i) w pending (s ∷ sessions) (d ∷ slots) past c here at all = stand-at (n + 1) i w pending sessions slots past c (omega (arith, here)) at all.1

pub stand-of : (n i w : ℕ) (pending : List ℕ) (sessions : List Session) (slots : List Slot) (past : Pieces)
    (s : Session) → w ≡ n + i → slice_get sessions i ≡ Some s → AllStand n pending sessions slots past →
    (c : Slot) × Stands s w pending past c
stand-of n i w pending [] slots past s here at all = absurd (none-some s at)
stand-of n i w pending (t ∷ sessions) [] past s here at all = absurd all
stand-of n zero w pending (t ∷ sessions) (d ∷ slots) past s here at all =
    let place : n ≡ w = omega (arith, here) in
    let P : Session → Type 0 = λ x. Stands x n pending past d in
    let Q : ℕ → Type 0 = λ k. Stands s k pending past d in
    (d, subst Q place (subst P (same_Some t s at) all.0))
stand-of n (suc i) w pending (t ∷ sessions) (d ∷ slots) past s here at all = stand-of (n + 1) i w pending sessions slots past s (omega (arith, here)) at all.1

pub stand-move : (n : ℕ) (pending pending' : List ℕ) (sessions : List Session) (slots : List Slot) (past past' : Pieces) →
    ((s : Session) (w : ℕ) (c : Slot) → n ≤ w → w < n + length slots → Stands s w pending past c →
    Stands s w pending' past' c) → AllStand n pending sessions slots past → AllStand n pending' sessions slots past'
stand-move n pending pending' [] [] past past' moves all = tt
stand-move n pending pending' (s ∷ sessions) (c ∷ slots) past past' moves all =
    (moves s n c (omega arith) (omega arith) all.0, stand-move (n + 1) pending pending' sessions slots past past' (λ t w d low high. moves t w d (omega (arith, low)) (omega (arith, high))) all.1)
stand-move n pending pending' [] (c ∷ slots) past past' moves all = all
stand-move n pending pending' (s ∷ sessions) [] past past' moves all = all

-- the same, by their places
pub stand-move-at : (n : ℕ) (pending pending' : List ℕ) (sessions : List Session) (slots : List Slot)
    (past past' : Pieces) → ((s : Session) (i w : ℕ) (c : Slot) → w ≡ n + i → slice_get sessions i ≡ Some s →
    slice_get slots i ≡ Some c → Stands s w pending past c → Stands s w pending' past' c) →
    AllStand n pending sessions slots past → AllStand n pending' sessions slots past'
stand-move-at n pending pending' [] [] past past' moves all = tt
stand-move-at n pending pending' (s ∷ sessions) (c ∷ slots) past past' moves all = (
  moves s 0 n c (omega arith) refl refl all.0,
  stand-move-at (n + 1) pending pending' sessions slots past past'
      (λ t i w d here at at'. moves t (suc i) w d (omega (arith, here)) at at') all.1,
)
stand-move-at n pending pending' [] (c ∷ slots) past past' moves all = all
stand-move-at n pending pending' (s ∷ sessions) [] past past' moves all = all

-- the slot of a session
pub stand-there : (n i w : ℕ) (pending : List ℕ) (sessions : List Session) (slots : List Slot) (past : Pieces)
    (s : Session) → w ≡ n + i → slice_get sessions i ≡ Some s → AllStand n pending sessions slots past →
    (c : Slot) × (slice_get slots i ≡ Some c) × Stands s w pending past c
stand-there n i w pending [] slots past s here at all = absurd (none-some s at)
stand-there n i w pending (t ∷ sessions) [] past s here at all = absurd all
stand-there n zero w pending (t ∷ sessions) (d ∷ slots) past s here at all =
    let place : n ≡ w = omega (arith, here) in
    let P : Session → Type 0 = λ x. Stands x n pending past d in
    let Q : ℕ → Type 0 = λ k. Stands s k pending past d in
    (d, refl, subst Q place (subst P (same_Some t s at) all.0))
stand-there n (suc i) w pending (t ∷ sessions) (d ∷ slots) past s here at all =
    stand-there (n + 1) i w pending sessions slots past s (omega (arith, here)) at all.1

-- where there is no session there is no slot
pub none-there : (n i : ℕ) (pending : List ℕ) (sessions : List Session) (slots : List Slot) (past : Pieces) →
    slice_get sessions i ≡ None → AllStand n pending sessions slots past → slice_get slots i ≡ None
none-there n i pending [] [] past none all = refl
none-there n i pending [] (c ∷ slots) past none all = absurd all
none-there n i pending (s ∷ sessions) [] past none all = absurd all
none-there n zero pending (s ∷ sessions) (c ∷ slots) past none all = absurd (none-some s (sym none))
none-there n (suc i) pending (s ∷ sessions) (c ∷ slots) past none all =
    none-there (n + 1) i pending sessions slots past none all.1

pub stand-set : (n i w : ℕ) (pending pending' : List ℕ) (sessions : List Session) (slots : List Slot) (past past' : Pieces) (s : Session) (c : Slot) → w ≡ n + i → slice_get sessions i ≡ Some s →
    ((t : Session) (v : ℕ) (d : Slot) → v ≢ w → Stands t v pending past d → Stands t v pending' past' d) →
    Stands s w pending' past' c → AllStand n pending sessions slots past →
    AllStand n pending' sessions (slice_set slots i c) past'
stand-set n i w pending pending' [] slots past past' s c here at moves is all = absurd (none-some s at)
stand-set n i w pending pending' (t ∷ sessions) [] past past' s c here at moves is all = absurd all
stand-set n zero w pending pending' (t ∷ sessions) (d ∷ slots) past past' s c here at moves is all =
    let place : w ≡ n = omega (arith, here) in
    let P : Session → Type 0 = λ x. Stands x n pending' past' c in
    let Q : ℕ → Type 0 = λ k. Stands s k pending' past' c in (
      subst P (sym (same_Some t s at)) (subst Q place is),
      stand-move (n + 1) pending pending' sessions slots past
          past' (λ u v x low high. let ne : v ≢ w = λ e. omega (arith, low, here, e) in moves u v x ne) all.1,
    )
stand-set n (suc i) w pending pending' (t ∷ sessions) (d ∷ slots) past past' s c here at moves is all =
    let ne : n ≢ w = λ e. omega (arith, here, e) in
    (moves t n d ne all.0, stand-set (n + 1) i w pending pending' sessions slots past past' s c (omega (arith, here)) at moves is all.1)

pub stand-more : (n w : ℕ) (pending : List ℕ) (sessions : List Session) (slots : List Slot) (past : Pieces)
    (s : Session) (c : Slot) → w ≡ n + length slots → AllStand n pending sessions slots past →
    Stands s w pending past c →
    AllStand n pending (sessions ++ s ∷ []) (slots ++ c ∷ []) past
stand-more n w pending [] [] past s c here all is =
    let place : w ≡ n = omega (arith, here) in
    let Q : ℕ → Type 0 = λ k. Stands s k pending past c in (subst Q place is, tt)
stand-more n w pending (x ∷ sessions) (y ∷ slots) past s c here all is = (all.0, stand-more (n + 1) w pending sessions slots past s c (omega (arith, here)) all.1 is)
stand-more n w pending [] (y ∷ slots) past s c here all is = absurd all
stand-more n w pending (x ∷ sessions) [] past s c here all is = absurd all

-- the first of some sessions
pub get-take : {X : Type 0} (n i : ℕ) (xs : List X) (x : X) → slice_get (take n xs) i ≡ Some x → slice_get xs i ≡ Some x
get-take zero i [] x at = at
get-take (suc n) i [] x at = at
get-take zero i (y ∷ xs) x at = absurd (none-some x at)
get-take (suc n) zero (y ∷ xs) x at = at
get-take (suc n) (suc i) (y ∷ xs) x at = get-take n i xs x at

-- the first of some sessions are all of them
pub whole : {X Y : Type 0} (xs : List X) (ys : List Y) → length ys ≡ length xs → take (length ys) xs ≡ xs
whole [] [] len = refl
whole (x ∷ xs) (y ∷ ys) len = ap (λ zs. x ∷ zs) (whole xs ys (omega (arith, len)))
whole [] (y ∷ ys) len = absurd (omega (arith, len))
whole (x ∷ xs) [] len = absurd (omega (arith, len))

-- ---- all rest

waits-now : (w : ℕ) (b : Bool) → (b ≡ true) ⊎ (is_in w [] ≡ true) → b ≡ true
waits-now w b (inl up) = up
waits-now w b (inr due) = absurd (both_ways (is_in w []) refl due)

-- it has ended
pub ended-now : (s : Session) (w : ℕ) (past : Pieces) (e : Ended) → Stands s w [] past (slot.Ended e) → has_ended s w past ≡ true
ended-now s w past e is = ap is_ended is.comes.comes ∙ ap not (awake-ends e.ending is.awake)

-- it sleeps
pub sleeps-now : (s : Session) (w : ℕ) (past : Pieces) (sources : List Held) (c : _) → Shows past sources → Stands s w [] past (slot.Asleep c) → sleeps s w past ≡ true
sleeps-now s w past sources c shows is =
    let p : Paused w s.deadline past c.key [] = is.paused in
    let here = shows.keyed w c.key p.registered in
    let source = shows.each c.key here.0 here.1 in
    let up : waits p.dir w past ≡ true = waits-now w (waits p.dir w past) p.waits_or_due in
    let W : ℕ → Type 0 = λ v. waits p.dir v past ≡ true → stays_armed p.dir v past ≡ true in
    let armed : stays_armed p.dir w past ≡ true = subst W here.2 (source.1.armed p.dir) up in
    ap (sleeps_in s w past) p.last
    ∙ and_from (waits p.dir w past) _ up
    (and_from (stays_armed p.dir w past) _ armed
    (and_from (is_some (key_of w past)) _ (ap is_some p.registered)
    (waits-now w (is_early s.deadline w past) p.early_or_due)))

rest-of : (s : Session) (w : ℕ) (past : Pieces) (sources : List Held) (c : Slot) → Shows past sources → Stands s w [] past c →
    (has_ended s w past || sleeps s w past) ≡ true
rest-of s w past sources (slot.Ended e) shows is = or_left (has_ended s w past) (sleeps s w past) (ended-now s w past e is)
rest-of s w past sources (slot.Asleep c) shows is = or_right (has_ended s w past) (sleeps s w past) (sleeps-now s w past sources c shows is)
rest-of s w past sources slot.Refused shows is = absurd is

rest-all : (n : ℕ) (sessions : List Session) (slots : List Slot) (past : Pieces) (sources : List Held) → Shows past sources → AllStand n [] sessions slots past →
    list_all (λ m. has_ended m.session m.wire past || sleeps m.session m.wire past) (numbered n sessions) ≡ true
rest-all n [] [] past sources shows all = refl
rest-all n (s ∷ sessions) (c ∷ slots) past sources shows all =
    and_from (has_ended s n past || sleeps s n past) _ (rest-of s n past sources c shows all.0)
    (rest-all (n + 1) sessions slots past sources shows all.1)
rest-all n [] (c ∷ slots) past sources shows all = absurd all
rest-all n (s ∷ sessions) [] past sources shows all = absurd all

pub all-rest : (sessions : List Session) (slots : List Slot) (past : Pieces) (sources : List Held) → length slots ≡ length sessions → Shows past sources →
    AllStand 0 [] (take (length slots) sessions) slots past → AllRest sessions past
all-rest sessions slots past sources len shows all =
    let A : List Session → Type 0 = λ x. AllStand 0 [] x slots past in rest-all 0 sessions slots past sources shows (subst A (whole sessions slots len) all)
