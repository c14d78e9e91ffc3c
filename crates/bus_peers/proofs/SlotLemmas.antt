-- The slots of the sessions: which keys they own, one of them, one replaced, and one more; and what was told, in all cases.
use Rattle.std.proofs.Common.{◌≡◌, ◌≢◌, ◌≤◌, ◌<◌, ◌⊎◌, inl, inr, ℕ, ◌+◌, zero, suc, Bool, true, false, ◌&&◌}
use Rattle.std.proofs.Common.{nat_lt, ◌==◌, List, [], ◌∷◌, ◌++◌, length, Option, Some, None, slice_get}
use Rattle.std.proofs.Common.{slice_set, refl, sym, ◌∙◌, ap, subst, arith}
use Rattle.std.specs.List.{list_all}
use Rattle.std.proofs.lemmas.Bool.{both_ways, and_parts, and_from, or_parts, eq-eqb, ne_eqb, ltb-true, lt-ltb}
use Rattle.std.proofs.lemmas.Option.{none-some, same_Some}
use Rattle.std.proofs.lemmas.List.Folds.{list_all-append}
use Rattle.bus_visit.specs.declared.visiting.Slot.{Slot}
use Rattle.bus_visit.specs.declared.visiting.Slot.TheVariants as slot
use Rattle.bus_visit.specs.declared.visiting.Sleeper.{Sleeper}
use Rattle.std.specs.Prelude.{Result, Ok, Err}
use Rattle.std.proofs.lemmas.List.{length-set, length-append}
use Rattle.react_core.specs.declared.outside.Event.{Event}
use Rattle.react_core.specs.Core.{Core}
use Rattle.react_core.specs.Told.{told, told-told, told-nothing}
use Rattle.bus_peers.specs.declared.open.OpenError.{OpenError}
use Rattle.bus_peers.specs.declared.open.OpenError.TheVariants as open_err
use Rattle.bus_session.specs.declared.session.Session.{Session}
use Rattle.bus_peers.specs.inside.Due.{RisesFrom}
use Rattle.bus_visit.specs.Shown.{Tags, tags, tag_at, without_tag, has_wire, Single, are_below}
use Rattle.bus_visit.specs.Visited.{tags_after}
use Rattle.bus_visit.specs.First.{FirstTags, FirstVisits, undialled, dialled}
use Rattle.bus_peers.proofs.VisitTells.{KeyAt, VisitDoes, visit-does}
use Rattle.bus_peers.specs.inside.Rounds.{HaveWires}
use Rattle.bus_peers.specs.inside.Slots.{Owns, AllOwn, Owned, is_open_slot, CallStandsAfter, VisitsKeepCall, Told, RefusedAt, Refuses}
use Rattle.bus_visit.specs.laws.Records.{waits_in-append, notices_in-append}
use Rattle.bus_visit.specs.laws.Tags.{has_wire-below, no_wire-without, has_wire-without, other_wire-without, tag_at-without, single-without, below-without, below-weaker}

-- ---- any list and a test

pub test-at : {X : Type 0} (p : X → Bool) (xs : List X) (i : ℕ) (x : X) → list_all p xs ≡ true → slice_get xs i ≡ Some x → p x ≡ true
test-at p [] i x all at = absurd (none-some x at)
test-at p (y ∷ xs) zero x all at = ap p (sym (same_Some y x at)) ∙ (and_parts (p y) (list_all p xs) all).0
test-at p (y ∷ xs) (suc i) x all at = test-at p xs i x (and_parts (p y) (list_all p xs) all).1 at

pub test-set : {X : Type 0} (p : X → Bool) (xs : List X) (i : ℕ) (x : X) → list_all p xs ≡ true → p x ≡ true → list_all p (slice_set xs i x) ≡ true
test-set p [] i x all is = refl
test-set p (y ∷ xs) zero x all is = and_from (p x) (list_all p xs) is (and_parts (p y) (list_all p xs) all).1
test-set p (y ∷ xs) (suc i) x all is =
    let h : (p y ≡ true) × (list_all p xs ≡ true) = and_parts (p y) (list_all p xs) all in
    and_from (p y) (list_all p (slice_set xs i x)) h.0 (test-set p xs i x h.1 is)

pub test-more : {X : Type 0} (p : X → Bool) (xs : List X) (x : X) → list_all p xs ≡ true → p x ≡ true → list_all p (xs ++ x ∷ []) ≡ true
test-more p xs x all is = list_all-append p xs (x ∷ []) ∙ and_from (list_all p xs) (p x && true) all (and_from (p x) true is refl)

pub set-set : {X : Type 0} (xs : List X) (i : ℕ) (x y : X) → slice_set (slice_set xs i x) i y ≡ slice_set xs i y
set-set [] i x y = refl
set-set (z ∷ xs) zero x y = refl
set-set (z ∷ xs) (suc i) x y = ap (λ ys. z ∷ ys) (set-set xs i x y)

-- ---- the wires below a number

pub no_wire-above : (n w : ℕ) (ts : Tags) → are_below n ts ≡ true → n ≤ w → has_wire w ts ≡ false
no_wire-above n w [] below le = refl
no_wire-above n w (t ∷ ts) below le =
    let h : (nat_lt t.1 n ≡ true) × (are_below n ts ≡ true) = and_parts (nat_lt t.1 n) (are_below n ts) below in
    let less : t.1 < n = ltb-true t.1 n h.0 in
    let off : (t.1 == w) ≡ false = ne_eqb t.1 w (λ e. omega (arith, less, e)) in
    rw off (no_wire-above n w ts h.1 le)

pub below-from : (n : ℕ) (ts : Tags) → ((w : ℕ) → n ≤ w → has_wire w ts ≡ false) → are_below n ts ≡ true
below-from n [] none = refl
below-from n (t ∷ ts) none =
    let here : (n ≤ t.1) → ⊥ = λ le. both_ways (t.1 == t.1) (or_parts (t.1 == t.1) (has_wire t.1 ts) (none t.1 le)).0 (eq-eqb t.1 t.1 refl) in
    let less : t.1 < n = omega (arith, here) in
    and_from (nat_lt t.1 n) (are_below n ts) (lt-ltb t.1 n less) (below-from n ts (λ w le. (or_parts (t.1 == w) (has_wire w ts) (none w le)).1))

below-same : (n : ℕ) (old new : Tags) → are_below n old ≡ true → ((w : ℕ) → n ≤ w → has_wire w new ≡ has_wire w old) → are_below n new ≡ true
below-same n old new below same = below-from n new (λ w le. same w le ∙ no_wire-above n w old below le)

-- ---- one slot

pub owns-at : (n i w : ℕ) (slots : List Slot) (ts : Tags) (c : Slot) → w ≡ n + i → slice_get slots i ≡ Some c → AllOwn n slots ts → Owns w c ts
owns-at n i w [] ts c here at own = absurd (none-some c at)
owns-at n zero w (d ∷ slots) ts c here at own =
    let place : n ≡ w = omega (arith, here) in
    let P : Slot → Type 0 = λ x. Owns n x ts in
    let Q : ℕ → Type 0 = λ k. Owns k c ts in
    subst Q place (subst P (same_Some d c at) own.0)
owns-at n (suc i) w (d ∷ slots) ts c here at own = owns-at (n + 1) i w slots ts c (omega (arith, here)) at own.1

-- a wire that has a key is that of a session that sleeps
asleep : (w : ℕ) (slots : List Slot) (ts : Tags) (c : Slot) → slice_get slots w ≡ Some c → Owns w c ts → has_wire w ts ≡ true →
    (sl : Sleeper) × (slice_get slots w ≡ Some (slot.Asleep sl)) × (tag_at ts sl.key ≡ Some w)
asleep w slots ts (slot.Ended e) at owns has = absurd (both_ways (has_wire w ts) owns has)
asleep w slots ts (slot.Asleep sl) at owns has = (sl, at, owns)
asleep w slots ts slot.Refused at owns has = absurd (both_ways (has_wire w ts) owns has)

asleep-go : (w : ℕ) (slots : List Slot) (ts : Tags) → Owned slots ts → has_wire w ts ≡ true →
    ((x : Slot) × (w < length slots) × (slice_get slots w ≡ Some x)) ⊎ (length slots ≤ w) →
    (sl : Sleeper) × (slice_get slots w ≡ Some (slot.Asleep sl)) × (tag_at ts sl.key ≡ Some w)
asleep-go w slots ts owned has (inl (c, less, at)) = asleep w slots ts c at (owns-at 0 w w slots ts c (omega arith) at owned.each) has
asleep-go w slots ts owned has (inr le) = absurd (both_ways (has_wire w ts) (no_wire-above (length slots) w ts owned.below le) has)

place-of : {X : Type 0} (xs : List X) (i : ℕ) → ((x : X) × (i < length xs) × (slice_get xs i ≡ Some x)) ⊎ (length xs ≤ i)
place-of [] i = inr (omega arith)
place-of (x ∷ xs) zero = inl (x, omega arith, refl)
place-of {X} (x ∷ xs) (suc i) = elim (place-of xs i) as (λ o. ((y : X) × (suc i < length (x ∷ xs)) × (slice_get xs i ≡ Some y)) ⊎ (length (x ∷ xs) ≤ suc i)) [
  | inl h ↦ inl (h.0, omega (arith, h.1), h.2)
  | inr le ↦ inr (omega (arith, le))
]

pub asleep-at : (w : ℕ) (slots : List Slot) (ts : Tags) → Owned slots ts → has_wire w ts ≡ true →
    (sl : Sleeper) × (slice_get slots w ≡ Some (slot.Asleep sl)) × (tag_at ts sl.key ≡ Some w)
asleep-at w slots ts owned has = asleep-go w slots ts owned has (place-of slots w)

-- ---- one slot replaced, or one more

own-move : (n : ℕ) (slots : List Slot) (old new : Tags) → ((v : ℕ) (d : Slot) → n ≤ v → v < n + length slots → Owns v d old → Owns v d new) → AllOwn n slots old → AllOwn n slots new
own-move n [] old new moves own = tt
own-move n (d ∷ slots) old new moves own = (moves n d (omega arith) (omega arith) own.0, own-move (n + 1) slots old new (λ v x low high. moves v x (omega (arith, low)) (omega (arith, high))) own.1)

own-set : (n i w : ℕ) (slots : List Slot) (old new : Tags) (c : Slot) → w ≡ n + i → ((v : ℕ) (d : Slot) → v ≢ w → Owns v d old → Owns v d new) → Owns w c new →
    AllOwn n slots old → AllOwn n (slice_set slots i c) new
own-set n i w [] old new c here moves is own = tt
own-set n zero w (d ∷ slots) old new c here moves is own =
    let place : w ≡ n = omega (arith, here) in
    let Q : ℕ → Type 0 = λ k. Owns k c new in
    (subst Q place is, own-move (n + 1) slots old new (λ v x low high. let ne : v ≢ w = λ e. omega (arith, low, here, e) in moves v x ne) own.1)
own-set n (suc i) w (d ∷ slots) old new c here moves is own =
    let ne : n ≢ w = λ e. omega (arith, here, e) in
    (moves n d ne own.0, own-set (n + 1) i w slots old new c (omega (arith, here)) moves is own.1)

own-more : (n w : ℕ) (slots : List Slot) (ts : Tags) (c : Slot) → w ≡ n + length slots → AllOwn n slots ts → Owns w c ts → AllOwn n (slots ++ c ∷ []) ts
own-more n w [] ts c here own is =
    let place : w ≡ n = omega (arith, here) in
    let Q : ℕ → Type 0 = λ k. Owns k c ts in (subst Q place is, tt)
own-more n w (d ∷ slots) ts c here own is = (own.0, own-more (n + 1) w slots ts c (omega (arith, here)) own.1 is)

-- ---- after a visit of a session that sleeps

other-key : (ts : Tags) (key k wire w : ℕ) → tag_at ts key ≡ Some wire → tag_at ts k ≡ Some w → w ≢ wire → k ≢ key
other-key ts key k wire w at there ne = λ e. ne (same_Some w wire (sym there ∙ (ap (tag_at ts) e ∙ at)))

out-others : (ts : Tags) (wire key : ℕ) → tag_at ts key ≡ Some wire → (w : ℕ) (d : Slot) → w ≢ wire → Owns w d ts → Owns w d (without_tag ts key)
out-others ts wire key at w (slot.Ended e) ne owns = no_wire-without ts key w owns
out-others ts wire key at w (slot.Asleep s) ne owns = tag_at-without ts key s.key (other-key ts key s.key wire w at owns ne) ∙ owns
out-others ts wire key at w slot.Refused ne owns = no_wire-without ts key w owns

owned-out : (wire key : ℕ) (slots : List Slot) (ts : Tags) (c : Slot) → Owned slots ts → tag_at ts key ≡ Some wire →
    Owns wire c (without_tag ts key) → Owned (slice_set slots wire c) (without_tag ts key)
owned-out wire key slots ts c owned at is =
    let B : ℕ → Type 0 = λ n. are_below n (without_tag ts key) ≡ true in
    record {
      each = own-set 0 wire wire slots ts (without_tag ts key) c (omega arith) (out-others ts wire key at) is owned.each;
      below = subst B (sym (length-set slots wire c)) (below-without (length slots) ts key owned.below);
      single = single-without ts key owned.single;
    }

-- its visit was refused, and its source taken out
pub owned-refused : (wire key : ℕ) (slots : List Slot) (ts new : Tags) (d : Slot) → Owned slots ts →
    tag_at ts key ≡ Some wire → d ≡ slot.Refused → new ≡ without_tag ts key → Owned (slice_set slots wire d) new
owned-refused wire key slots ts new d owned at is out =
    let P : Slot → Type 0 = λ x. Owned (slice_set slots wire x) new in
    let Q : Tags → Type 0 = λ x. Owned (slice_set slots wire slot.Refused) x in
    subst P (sym is) (subst Q (sym out) (owned-out wire key slots ts slot.Refused owned at (has_wire-without ts key wire owned.single at)))

owned-visited : (wire key : ℕ) (slots : List Slot) (ts : Tags) (c : Slot) → Owned slots ts → tag_at ts key ≡ Some wire →
    KeyAt key c → Owned (slice_set slots wire c) (tags_after key c ts)
owned-visited wire key slots ts (slot.Ended e) owned at is =
    owned-out wire key slots ts (slot.Ended e) owned at (has_wire-without ts key wire owned.single at)
owned-visited wire key slots ts (slot.Asleep s) owned at is =
    let B : ℕ → Type 0 = λ n. are_below n ts ≡ true in
    record {
      each = own-set 0 wire wire slots ts ts (slot.Asleep s) (omega arith) (λ w d ne own. own) (ap (tag_at ts) is ∙ at)
          owned.each;
      below = subst B (sym (length-set slots wire (slot.Asleep s))) owned.below;
      single = owned.single;
    }
owned-visited wire key slots ts slot.Refused owned at is = absurd is

pub owned-stays : (wire key : ℕ) (r0 r1 : Option (List Event)) (old new : Core) (slots : List Slot)
    (c : Slot) → Owned slots (tags old.sources) → tag_at (tags old.sources) key ≡ Some wire →
    VisitDoes key r0 r1 old new c → Owned (slice_set slots wire c) (tags new.sources)
owned-stays wire key r0 r1 old new slots c owned at x =
    let P : Tags → Type 0 = λ ts. Owned (slice_set slots wire c) ts in
    subst P (sym x.tags) (owned-visited wire key slots (tags old.sources) c owned at x.at)

other-wires : (wire key : ℕ) (ts : Tags) (c : Slot) → tag_at ts key ≡ Some wire → (w : ℕ) → w ≢ wire → has_wire w (tags_after key c ts) ≡ has_wire w ts
other-wires wire key ts (slot.Ended e) at w ne = other_wire-without ts key wire w at ne
other-wires wire key ts (slot.Asleep s) at w ne = refl
other-wires wire key ts slot.Refused at w ne = refl

pub others-stay : (wire key : ℕ) (r0 r1 : Option (List Event)) (old new : Core) (c : Slot) →
    tag_at (tags old.sources) key ≡ Some wire → VisitDoes key r0 r1 old new c →
    (w : ℕ) → w ≢ wire → has_wire w (tags new.sources) ≡ has_wire w (tags old.sources)
others-stay wire key r0 r1 old new c at x = λ w ne. ap (has_wire w) x.tags ∙ other-wires wire key (tags old.sources) c at w ne

-- ---- after a first visit

first-others : (wire : ℕ) (old new : Tags) (c : Slot) → FirstTags wire old new c → (w : ℕ) (d : Slot) → w ≢ wire → Owns w d old → Owns w d new
first-others wire old new (slot.Ended e) first w d ne owns = let P : Tags → Type 0 = λ x. Owns w d x in subst P (sym first) owns
first-others wire old new (slot.Asleep s) first w (slot.Ended e) ne owns = first.3 w ne ∙ owns
first-others wire old new (slot.Asleep s) first w (slot.Asleep t) ne owns =
    let other : t.key ≢ s.key = λ e. none-some w (sym first.0 ∙ (ap (tag_at old) (sym e) ∙ owns)) in first.2 t.key other ∙ owns
first-others wire old new (slot.Asleep s) first w slot.Refused ne owns = first.3 w ne ∙ owns
first-others wire old new slot.Refused first w d ne owns = absurd first

first-owns : (wire : ℕ) (old new : Tags) (c : Slot) → FirstTags wire old new c → has_wire wire old ≡ false → Owns wire c new
first-owns wire old new (slot.Ended e) first none = ap (has_wire wire) first ∙ none
first-owns wire old new (slot.Asleep s) first none = first.1
first-owns wire old new slot.Refused first none = absurd first

first-below : (wire : ℕ) (old new : Tags) (c : Slot) → FirstTags wire old new c → are_below wire old ≡ true → are_below (wire + 1) new ≡ true
first-below wire old new (slot.Ended e) first below = ap (are_below (wire + 1)) first ∙ below-weaker wire (wire + 1) old (omega arith) below
first-below wire old new (slot.Asleep s) first below =
    below-same (wire + 1) old new (below-weaker wire (wire + 1) old (omega arith) below) (λ w le. let ne : w ≢ wire = λ e. omega (arith, le, e) in first.3 w ne)
first-below wire old new slot.Refused first below = absurd first

first-single : (wire : ℕ) (old new : Tags) (c : Slot) → FirstTags wire old new c → Single old → Single new
first-single wire old new (slot.Ended e) first single = let P : Tags → Type 0 = λ x. Single x in subst P (sym first) single
first-single wire old new (slot.Asleep s) first single = first.4 single
first-single wire old new slot.Refused first single = absurd first

pub owned-first : (wire : ℕ) (slots : List Slot) (old new : Tags) (c : Slot) → wire ≡ length slots → FirstTags wire old new c → Owned slots old → Owned (slots ++ c ∷ []) new
owned-first wire slots old new c here first owned =
    let below : are_below wire old ≡ true = ap (λ n. are_below n old) here ∙ owned.below in
    let len : wire + 1 ≡ length (slots ++ c ∷ []) = ap (λ n. n + 1) here ∙ sym (length-append slots (c ∷ [])) in
    let B : ℕ → Type 0 = λ n. are_below n new ≡ true in
    record {
      each = own-more 0 wire slots new c (omega (arith, here))
          (own-move 0 slots old new (λ w d low high owns. let ne : w ≢ wire = λ e. omega (arith, high, here, e) in first-others wire old new c first w d ne owns) owned.each)
          (first-owns wire old new c first (no_wire-above wire wire old below (omega arith)));
      below = subst B len (first-below wire old new c first below);
      single = first-single wire old new c first owned.single;
    }

pub owned-none : (slots : List Slot) (ts : Tags) → slots ≡ [] → ts ≡ [] → Owned slots ts
owned-none slots ts none empty =
    let P : List Slot → Type 0 = λ x. Owned x ts in
    let Q : Tags → Type 0 = λ x. Owned [] x in
    subst P (sym none) (subst Q (sym empty) (record { each = tt; below = refl; single = tt }))

pub first-open : (s : Session) (wire : ℕ) (r0 r1 : Option (List Event)) (old new : Core) (c : Slot) →
    FirstVisits s wire r0 r1 old new c → is_open_slot c ≡ true
first-open s wire r0 r1 old new c (undialled dials failure e to awake still is says) = ap is_open_slot is
first-open s wire r0 r1 old new c (dialled dials wired mid to (talk, client, key, begun, x)) =
    (visit-does wire key _ _ r1 begun new client c x.visits).open_

-- ---- what was told, whatever came of it

pub told-none : (r : Option (List Event)) (core : Core) → core.hands ≡ None → Told r r core core []
told-none r core idle = record { gained = told-nothing r; made = omega arith; closed = idle; ticker = omega arith }

pub told-more : (r0 r1 r2 : Option (List Event)) (old mid new : Core) (a b : List Event) → Told r0 r1 old mid a → Told r1 r2 mid new b → Told r0 r2 old new (a ++ b)
told-more r0 r1 r2 old mid new a b x y = record {
  gained = y.gained ∙ (ap (λ r. told r b) x.gained ∙ told-told r0 a b);
  made = omega (arith, notices_in-append a b, x.made, y.made);
  closed = y.closed;
  ticker = omega (arith, waits_in-append a b, x.ticker, y.ticker);
}

pub told-both : (r0 r1 r2 : Option (List Event)) (old mid new : Core) → (a : List Event) × Told r0 r1 old mid a → (b : List Event) × Told r1 r2 mid new b → (m : List Event) × Told r0 r2 old new m
told-both r0 r1 r2 old mid new (a, x) (b, y) = (a ++ b, told-more r0 r1 r2 old mid new a b x y)

grown-both : (r0 r1 r2 : Option (List Event)) (a : List Event) → r1 ≡ told r0 a → (b : List Event) × (r2 ≡ told r1 b) → (m : List Event) × (r2 ≡ told r0 m)
grown-both r0 r1 r2 a x (b, y) = (a ++ b, y ∙ (ap (λ r. told r b) x ∙ told-told r0 a b))

refused-more : (e : OpenError) (r0 r1 r2 : Option (List Event)) (old mid new : Core) (a : List Event) → Told r0 r1 old mid a → RefusedAt e r1 r2 mid new → RefusedAt e r0 r2 old new
refused-more open_err.OutOfMemory r0 r1 r2 old mid new a x (closed, grown) = (closed, grown-both r0 r1 r2 a x.gained grown)
refused-more open_err.Poller r0 r1 r2 old mid new a x y = told-both r0 r1 r2 old mid new (a, x) y
refused-more (open_err.Exhausted counter value) r0 r1 r2 old mid new a x (is, last, y) = (is, last, told-both r0 r1 r2 old mid new (a, x) y)

pub refuses-more : {T : Type 0} (result : Result T OpenError) (r0 r1 r2 : Option (List Event)) (old mid new : Core) →
    (a : List Event) × Told r0 r1 old mid a → Refuses result r1 r2 mid new → Refuses result r0 r2 old new
refuses-more (Ok v) r0 r1 r2 old mid new x y = tt
refuses-more (Err e) r0 r1 r2 old mid new (a, x) y = refused-more e r0 r1 r2 old mid new a x y

-- ---- the wires that are still to be visited

have-next : (w low : ℕ) (rest : List ℕ) (old new : Tags) → w < low → RisesFrom low rest → ((v : ℕ) → v ≢ w → has_wire v new ≡ has_wire v old) → HaveWires rest old → HaveWires rest new
have-next w low [] old new less rise same have = refl
have-next w low (v ∷ rest) old new less rise same have =
    let h : (has_wire v old ≡ true) × HaveWires rest old = and_parts (has_wire v old) (list_all (λ x. has_wire x old) rest) have in
    let ne : v ≢ w = λ e. omega (arith, less, rise.0, e) in
    and_from (has_wire v new) (list_all (λ x. has_wire x new) rest) (same v ne ∙ h.0) (have-next w (v + 1) rest old new (omega (arith, less, rise.0)) rise.1 same h.1)

pub wires-next : (w low : ℕ) (rest : List ℕ) (old new : Tags) → RisesFrom low (w ∷ rest) → ((v : ℕ) → v ≢ w → has_wire v new ≡ has_wire v old) → HaveWires (w ∷ rest) old → HaveWires rest new
wires-next w low rest old new rise same have = have-next w (w + 1) rest old new (omega arith) rise.1 same (and_parts (has_wire w old) (list_all (λ x. has_wire x old) rest) have).1

pub wires-here : (w : ℕ) (rest : List ℕ) (ts : Tags) → HaveWires (w ∷ rest) ts → has_wire w ts ≡ true
wires-here w rest ts have = (and_parts (has_wire w ts) (list_all (λ x. has_wire x ts) rest) have).0

pub rise-next : (w : ℕ) (wires rest : List ℕ) → wires ≡ w ∷ rest → (low : ℕ) × RisesFrom low wires → (low : ℕ) × RisesFrom low rest
rise-next w wires rest next (low, rise) = let P : List ℕ → Type 0 = λ x. RisesFrom low x in let h : RisesFrom low (w ∷ rest) = subst P next rise in (w + 1, h.1)

pub have-rest : (w : ℕ) (wires rest : List ℕ) (old new : Tags) → wires ≡ w ∷ rest → (low : ℕ) × RisesFrom low wires →
    ((v : ℕ) → v ≢ w → has_wire v new ≡ has_wire v old) → HaveWires wires old → HaveWires rest new
have-rest w wires rest old new next (low, rise) same have =
    let P : List ℕ → Type 0 = λ x. RisesFrom low x in
    let Q : List ℕ → Type 0 = λ x. HaveWires x old in
    wires-next w low rest old new (subst P next rise) same (subst Q next have)

pub wire-below : (w n : ℕ) (wires rest : List ℕ) (slots : List Slot) (ts : Tags) → wires ≡ w ∷ rest → HaveWires wires ts → Owned slots ts → length slots ≡ n → w < n
wire-below w n wires rest slots ts next have owned len =
    let Q : List ℕ → Type 0 = λ x. HaveWires x ts in
    let less : w < length slots = has_wire-below (length slots) w ts (wires-here w rest ts (subst Q next have)) owned.below in
    omega (arith, less, len)

pub goes-next : (w : ℕ) (all wires rest : List ℕ) (r0 r1 r2 : Option (List Event)) (old mid new : Core)
    (slots slots' slots'' : List Slot) → wires ≡ w ∷ rest → VisitsKeepCall all wires r0 r1 old mid slots slots' →
    ((pending : List ℕ) → VisitsKeepCall (w ∷ pending) pending r1 r2 mid new slots' slots'') → VisitsKeepCall all rest r0 r2 old new slots slots''
goes-next w all wires rest r0 r1 r2 old mid new slots slots' slots'' next goes visits = λ sessions rounds n begin before went.
    let W : List ℕ → Type 0 = λ x. CallStandsAfter sessions rounds x n begin before r1 mid slots' in
    visits rest sessions rounds n begin before (subst W next (goes sessions rounds n begin before went))

pub goes-all : (all wires : List ℕ) (r0 r1 : Option (List Event)) (old new : Core) (slots slots' : List Slot) →
    wires ≡ [] → VisitsKeepCall all wires r0 r1 old new slots slots' →
    VisitsKeepCall all [] r0 r1 old new slots slots'
goes-all all wires r0 r1 old new slots slots' none goes = let G : List ℕ → Type 0 = λ x. VisitsKeepCall all x r0 r1 old new slots slots' in subst G none goes
