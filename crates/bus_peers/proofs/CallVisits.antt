-- The call under way: its start, a first visit, and a visit of a session that sleeps.
use Rattle.std.proofs.Common.{◌≡◌, ◌≢◌, ◌≤◌, ◌<◌, ◌^◌, inl, inr, ℕ, ◌+◌, ◌-◌, suc, min, true, false, ◌==◌, List, []}
use Rattle.std.proofs.Common.{◌∷◌, ◌++◌, length, take, map, Option, Some, slice_get, slice_set, refl, sym, ◌∙◌, ap}
use Rattle.std.proofs.Common.{subst, arith}
use Rattle.std.specs.Prelude.{count_by}
use Rattle.std.proofs.lemmas.Bool.{ne_eqb}
use Rattle.std.proofs.lemmas.Option.{none-some, slice_get_within, get_or_from_slice_get}
use Rattle.std.proofs.lemmas.List.{take_more, length-set, length-append}
use Rattle.react_core.specs.declared.outside.Event.{Event}
use Rattle.react_core.specs.Core.{Core}
use Rattle.react_core.specs.Told.{told, told-told, told-nothing}
use Rattle.bus_session.specs.declared.session.Session.{Session}
use Rattle.bus_session.specs.Parts.{part}
use Rattle.bus_record.specs.Pieces as pieces
use Rattle.bus_record.specs.Pieces.{Pieces, nothing, ◌▸◌, visit, rounds_in, armings_in, is_modify}
use Rattle.bus_record.specs.Settled.{numbered, start, visited}
use Rattle.bus_visit.specs.declared.visiting.Slot.{Slot}
use Rattle.bus_visit.specs.declared.visiting.Slot.TheVariants as slot
use Rattle.bus_visit.specs.declared.visiting.Sleeper.{Sleeper}
use Rattle.bus_peers.specs.inside.Closing.{counting}
use Rattle.bus_peers.specs.inside.Due.{is_in}
use Rattle.bus_visit.specs.Counts.{after_begun}
use Rattle.bus_visit.specs.Registry.{Held}
use Rattle.bus_peers.specs.inside.Shows.{Shows}
use Rattle.bus_visit.specs.Shown.{IsBetweenCalls, shown}
use Rattle.bus_visit.specs.First.{FirstVisits}
use Rattle.bus_visit.specs.Timed.{MakesVisit, limit_after}
use Rattle.bus_peers.specs.inside.Slots.{Stands, AllStand, IsNew, CallStands, CallStandsAfter, VisitsKeepCall, VisitInRecord, Told}
use Rattle.bus_visit.specs.laws.Records.{waits_in-append, notices_in-append}
use Rattle.bus_peers.proofs.TimedVisits.{goes-again, goes-first}
use Rattle.bus_peers.proofs.VisitsInRecord.{part-quiet}
use Rattle.bus_peers.proofs.OtherWires.{others-still}
use Rattle.bus_peers.proofs.Standing.{Still, WaitsOn, EarlyOn, stands-move, stand-at, stand-move, stand-set, stand-more, get-take}

-- ---- the start

min-none : (b top : ℕ) → b ≤ top → b ≡ min (b + 0) top
min-none b top le = omega arith

-- the wires of all sessions, in order
wires-counted : (n : ℕ) (sessions : List Session) → map (λ m. m.wire) (numbered n sessions) ≡ counting (length sessions) n
wires-counted n [] = refl
wires-counted n (s ∷ sessions) = ap (λ ws. n ∷ ws) (wires-counted (n + 1) sessions)

shows-nothing : Shows nothing []
shows-nothing = record { rise = tt; each = λ key h at. absurd (none-some h at); free = λ key at. refl; keyed = λ wire key at. absurd (none-some key at) }

pub going-start : (sessions : List Session) (rounds : ℕ) (r : Option (List Event)) (core : Core) (slots : List Slot) → IsBetweenCalls core → core.sources ≡ [] → slots ≡ [] →
    CallStandsAfter sessions rounds (counting (length sessions) 0) 0 core r r core slots
going-start sessions rounds r core slots rests empty none =
    let W : List Slot → List ℕ → Type 0 = λ x ws. CallStandsAfter sessions rounds ws 0 core r r core x in
    let S : List Held → Type 0 = λ x. Shows nothing x in
    subst (λ x. W x (counting (length sessions) 0)) (sym none) (subst (λ ws. W [] ws) (wires-counted 0 sessions) (
      nothing,
      refl,
      record {
        gained = told-nothing r;
        run = start;
        shows = subst S (sym (ap (map shown) empty)) shows-nothing;
        rests = rests;
        stands = tt;
        unused = λ w le. record { unvisited = refl; unheard = refl };
        counted = refl;
        ticker = omega arith;
        made = omega arith;
        begun = min-none core.begun (2 ^ 64 - 1) (omega (arith, rests.fits));
      },
    ))

-- ---- a visit

min-twice : (b m k top : ℕ) → min (min (b + m) top + k) top ≡ min (b + (m + k)) top
min-twice b m k top = omega arith

begun-more : (b m k : ℕ) → after_begun (after_begun b m) k ≡ after_begun b (m + k)
begun-more b m k = min-twice b m k (2 ^ 64 - 1)

other-pending : (w wire : ℕ) (pending : List ℕ) → w ≢ wire → is_in w (wire ∷ pending) ≡ true → is_in w pending ≡ true
other-pending w wire pending ne is = let off : (wire == w) ≡ false = ne_eqb wire w (λ e. ne (sym e)) in rw off at is

visit-still : (w wire : ℕ) (past : Pieces) (v : List Event) → w ≢ wire → part w v ≡ [] → Still w past (past ▸ visit wire v)
visit-still w wire past v ne none =
    let still = others-still wire w past v (ne_eqb wire w (λ e. ne (sym e))) in
    record { key = still.key; paused = still.paused; moment = still.moment; notified = still.notified; own = part-quiet w (pieces.told past) v none }

visit-waits : (w wire : ℕ) (pending : List ℕ) (past : Pieces) (v : List Event) → w ≢ wire → WaitsOn w (wire ∷ pending) pending past (past ▸ visit wire v)
visit-waits w wire pending past v ne dir (inl up) = inl ((others-still wire w past v (ne_eqb wire w (λ e. ne (sym e)))).waits dir ∙ up)
visit-waits w wire pending past v ne dir (inr is) = inr (other-pending w wire pending ne is)

visit-early : (deadline : Option ℕ) (w wire : ℕ) (pending : List ℕ) (past : Pieces) (v : List Event) → w ≢ wire →
    EarlyOn deadline w (wire ∷ pending) pending past (past ▸ visit wire v)
visit-early deadline w wire pending past v ne (inl up) =
    let off : (wire == w) ≡ false = ne_eqb wire w (λ e. ne (sym e)) in inl (rw off up)
visit-early deadline w wire pending past v ne (inr is) = inr (other-pending w wire pending ne is)

visit-stands : (s : Session) (wire : ℕ) (pending : List ℕ) (past : Pieces) (v : List Event) (r0 r1 : Option (List Event)) (old new : Core) (c : Slot) → VisitInRecord s wire past r0 r1 old new c v →
    (t : Session) (w : ℕ) (d : Slot) → w ≢ wire → Stands t w (wire ∷ pending) past d → Stands t w pending (past ▸ visit wire v) d
visit-stands s wire pending past v r0 r1 old new c g t w d ne is =
    stands-move t w (wire ∷ pending) pending past (past ▸ visit wire v) d (visit-still w wire past v ne (g.others w ne))
    (visit-waits w wire pending past v ne) (λ sl e. visit-early t.deadline w wire pending past v ne) is

visit-new : (w wire : ℕ) (past : Pieces) (v : List Event) → w ≢ wire → part w v ≡ [] → IsNew w past → IsNew w (past ▸ visit wire v)
visit-new w wire past v ne none new = record {
  unvisited = let off : (wire == w) ≡ false = ne_eqb wire w (λ e. ne (sym e)) in rw off new.unvisited;
  unheard = part-quiet w (pieces.told past) v none ∙ new.unheard;
}

-- a visit, up to where the slots stand
visit-more : (sessions : List Session) (rounds n wire : ℕ) (pending : List ℕ) (begin : Core)
    (before r0 r1 : Option (List Event)) (old new : Core) (slots slots' : List Slot) (past : Pieces) (v : List Event)
    (s : Session) (c : Slot) →
    slice_get sessions wire ≡ Some s → rounds_in past ≡ n → AllStand 0 pending (take (length slots') sessions) slots' (past ▸ visit wire v) → length slots ≤ length slots' → wire < length slots' →
    CallStands sessions rounds (wire ∷ pending) begin before r0 old slots past → VisitInRecord s wire past r0 r1 old new c v → CallStandsAfter sessions rounds pending n begin before r1 new slots'
visit-more sessions rounds n wire pending begin before r0 r1 old new slots slots' past v s c at count stands more within g x = (
  past ▸ visit wire v,
  count,
  record {
    gained = x.gained ∙ (ap (λ y. told y v) g.gained ∙ told-told before (pieces.told past) v);
    run = visited past wire pending s v g.run at x.visits;
    shows = x.shows;
    rests = x.rests;
    stands = stands;
    unused = λ w le. let ne : w ≢ wire = λ e. omega (arith, le, within, e) in visit-new w wire past v ne (x.others w ne) (g.unused w (omega (arith, le, more)));
    counted = waits_in-append (pieces.told past) v ∙ omega (arith, x.waits, g.counted);
    ticker = x.ticker ∙ g.ticker;
    made = omega (arith, x.made, g.made, notices_in-append (pieces.told past) v);
    begun = x.begun ∙ (ap (λ b. after_begun b (count_by is_modify v)) g.begun ∙ begun-more begin.begun (armings_in past) (count_by is_modify v));
  },
)

-- ---- a visit of a session that sleeps

again-more : (sessions : List Session) (rounds n wire : ℕ) (pending : List ℕ) (begin : Core)
    (before r0 r1 : Option (List Event)) (old new : Core) (slots : List Slot) (past : Pieces) (s : Session)
    (d c : Slot) →
    slice_get slots wire ≡ Some d → slice_get (take (length slots) sessions) wire ≡ Some s → rounds_in past ≡ n → CallStands sessions rounds (wire ∷ pending) begin before r0 old slots past →
    (v : List Event) × VisitInRecord s wire past r0 r1 old new c v → CallStandsAfter sessions rounds pending n begin before r1 new (slice_set slots wire c)
again-more sessions rounds n wire pending begin before r0 r1 old new slots past s d c was at count g (v, x) =
    let len : length (slice_set slots wire c) ≡ length slots = length-set slots wire c in
    let within : wire < length slots = slice_get_within slots wire d was in
    let A : ℕ → Type 0 = λ k. AllStand 0 pending (take k sessions) (slice_set slots wire c) (past ▸ visit wire v) in
    visit-more sessions rounds n wire pending begin before r0 r1 old new slots (slice_set slots wire c) past v s c (get-take (length slots) wire sessions s at) count
    (subst A (sym len) (stand-set 0 wire wire (wire ∷ pending) pending (take (length slots) sessions) slots past (past ▸ visit wire v) s c (omega arith) at
    (visit-stands s wire pending past v r0 r1 old new c x) (x.stands pending) g.stands))
    (omega (arith, len)) (omega (arith, len, within)) g x

again-at : (sessions : List Session) (rounds n wire : ℕ) (pending : List ℕ) (begin : Core)
    (before r0 r1 : Option (List Event)) (old new : Core) (slots : List Slot) (past : Pieces) (sl : Sleeper)
    (c : Slot) →
    slice_get slots wire ≡ Some (slot.Asleep sl) →
    MakesVisit wire sl.key (limit_after sl.alarm) r0 r1 old new sl.client c →
    rounds_in past ≡ n → CallStands sessions rounds (wire ∷ pending) begin before r0 old slots past →
    (s : Session) × (slice_get (take (length slots) sessions) wire ≡ Some s) ×
    Stands s wire (wire ∷ pending) past (slot.Asleep sl) →
    CallStandsAfter sessions rounds pending n begin before r1 new (slice_set slots wire c)
again-at sessions rounds n wire pending begin before r0 r1 old new slots past sl c was stays count g (s, at, is) =
    again-more sessions rounds n wire pending begin before r0 r1 old new slots past s (slot.Asleep sl) c was at count g
    (goes-again s wire past r0 r1 old new sl (wire ∷ pending) c g.shows is stays)

again-from : (sessions : List Session) (rounds n wire : ℕ) (pending : List ℕ) (begin : Core)
    (before r0 r1 : Option (List Event)) (old new : Core) (slots : List Slot) (sl : Sleeper) (c : Slot) →
    slice_get slots wire ≡ Some (slot.Asleep sl) →
    MakesVisit wire sl.key (limit_after sl.alarm) r0 r1 old new sl.client c →
    CallStandsAfter sessions rounds (wire ∷ pending) n begin before r0 old slots →
    CallStandsAfter sessions rounds pending n begin before r1 new (slice_set slots wire c)
again-from sessions rounds n wire pending begin before r0 r1 old new slots sl c was stays (past, count, g) =
    again-at sessions rounds n wire pending begin before r0 r1 old new slots past sl c was stays count g
    (stand-at 0 wire wire (wire ∷ pending) (take (length slots) sessions) slots past (slot.Asleep sl) (omega arith) was g.stands)

pub going-again : (wire : ℕ) (pending : List ℕ) (r0 r1 : Option (List Event)) (old new : Core) (slots : List Slot) (sl : Sleeper) (c : Slot) →
    slice_get slots wire ≡ Some (slot.Asleep sl) →
    MakesVisit wire sl.key (limit_after sl.alarm) r0 r1 old new sl.client c →
    VisitsKeepCall (wire ∷ pending) pending r0 r1 old new slots (slice_set slots wire c)
going-again wire pending r0 r1 old new slots sl c was stays = λ sessions rounds n begin before w.
    again-from sessions rounds n wire pending begin before r0 r1 old new slots sl c was stays w

-- ---- a first visit

counting-step : (n i : ℕ) → i < n → counting (n - i) i ≡ i ∷ counting (n - (i + 1)) (i + 1)
counting-step n i lt = let e : n - i ≡ suc (n - (i + 1)) = omega (arith, lt) in ap (λ k. counting k i) e

first-more : (sessions : List Session) (rounds wire : ℕ) (pending : List ℕ) (begin : Core)
    (before r0 r1 : Option (List Event)) (old new : Core) (slots : List Slot) (past : Pieces) (s : Session)
    (c : Slot) →
    wire ≡ length slots → slice_get sessions wire ≡ Some s → rounds_in past ≡ 0 → CallStands sessions rounds (wire ∷ pending) begin before r0 old slots past →
    (v : List Event) × VisitInRecord s wire past r0 r1 old new c v → CallStandsAfter sessions rounds pending 0 begin before r1 new (slots ++ c ∷ [])
first-more sessions rounds wire pending begin before r0 r1 old new slots past s c here at count g (v, x) =
    let after : Pieces = past ▸ visit wire v in
    let len : length (slots ++ c ∷ []) ≡ length slots + 1 = length-append slots (c ∷ []) in
    let within : wire < length sessions = slice_get_within sessions wire s at in
    let last : take (wire + 1) sessions ≡ take wire sessions ++ s ∷ [] = take_more sessions wire s within ∙ ap (λ y. take wire sessions ++ y ∷ []) (get_or_from_slice_get sessions wire s s at) in
    let place : take (length (slots ++ c ∷ [])) sessions ≡ take (length slots) sessions ++ s ∷ [] =
    ap (λ k. take k sessions) (len ∙ ap (λ k. k + 1) (sym here)) ∙ (last ∙ ap (λ k. take k sessions ++ s ∷ []) here) in
    let A : List Session → Type 0 = λ y. AllStand 0 pending y (slots ++ c ∷ []) after in
    let moved : AllStand 0 pending (take (length slots) sessions) slots after = stand-move 0 (wire ∷ pending) pending (take (length slots) sessions) slots past after
    (λ t w d low high. let ne : w ≢ wire = λ e. omega (arith, high, here, e) in visit-stands s wire pending past v r0 r1 old new c x t w d ne) g.stands in
    visit-more sessions rounds 0 wire pending begin before r0 r1 old new slots (slots ++ c ∷ []) past v s c at count
    (subst A (sym place) (stand-more 0 wire pending (take (length slots) sessions) slots after s c (omega (arith, here)) moved (x.stands pending)))
    (omega (arith, len)) (omega (arith, len, here)) g x

first-at : (sessions : List Session) (rounds wire : ℕ) (pending : List ℕ) (begin : Core)
    (before r0 r1 : Option (List Event)) (old new : Core) (slots : List Slot) (s : Session) (c : Slot) →
    wire ≡ length slots → slice_get sessions wire ≡ Some s → FirstVisits s wire r0 r1 old new c →
    CallStandsAfter sessions rounds (wire ∷ pending) 0 begin before r0 old slots → CallStandsAfter sessions rounds pending 0 begin before r1 new (slots ++ c ∷ [])
first-at sessions rounds wire pending begin before r0 r1 old new slots s c here at visits (past, count, g) =
    first-more sessions rounds wire pending begin before r0 r1 old new slots past s c here at count g
    (goes-first s wire past r0 r1 old new c g.shows (g.unused wire (omega (arith, here))) g.rests visits)

pub going-first : (sessions : List Session) (rounds wire : ℕ) (begin : Core) (before r0 r1 : Option (List Event)) (old new : Core) (slots : List Slot) (s : Session) (c : Slot) →
    wire ≡ length slots → slice_get sessions wire ≡ Some s → FirstVisits s wire r0 r1 old new c →
    CallStandsAfter sessions rounds (counting (length sessions - wire) wire) 0 begin before r0 old slots →
    CallStandsAfter sessions rounds (counting (length sessions - (wire + 1)) (wire + 1)) 0 begin before r1 new (slots ++ c ∷ [])
going-first sessions rounds wire begin before r0 r1 old new slots s c here at visits w =
    let W : List ℕ → Type 0 = λ x. CallStandsAfter sessions rounds x 0 begin before r0 old slots in
    first-at sessions rounds wire (counting (length sessions - (wire + 1)) (wire + 1)) begin before r0 r1 old new slots s c here at visits
    (subst W (counting-step (length sessions) wire (slice_get_within sessions wire s at)) w)

pub went-told : (sessions : List Session) (rounds n : ℕ) (pending : List ℕ) (begin : Core) (before after : Option (List Event)) (core : Core) (slots : List Slot) →
    CallStandsAfter sessions rounds pending n begin before after core slots → (m : List Event) × Told before after begin core m
went-told sessions rounds n pending begin before after core slots (past, count, g) =
    (pieces.told past, record { gained = g.gained; made = g.made; closed = g.rests.idle; ticker = g.ticker ∙ ap (λ k. begin.ticker + k) (sym g.counted) })
