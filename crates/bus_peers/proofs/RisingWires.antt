-- Rising lists of wires, and the wires of numbered sessions.
use Rattle.std.proofs.Common.{◌≡◌, ◌≢◌, ◌<◌, ◌≤◌, ◌+◌, ℕ, zero, suc, Bool, true, false, ◌&&◌, ◌||◌, ◌==◌}
use Rattle.std.proofs.Common.{if◌then◌else◌}
use Rattle.std.proofs.Common.{List, [], ◌∷◌, Some, None, map, refl, sym, ◌∙◌, ap, subst, arith}
use Rattle.std.proofs.lemmas.Bool.{both_ways, ne_eqb, eq-eqb, eqb-true}
use Rattle.std.proofs.lemmas.Option.{none-some, same_Some}
use Rattle.std.specs.Prelude.{filter, slice_get}
use Rattle.bus_session.specs.declared.session.Session.{Session}
use Rattle.bus_record.specs.Settled.{Numbered, numbered}
use Rattle.bus_peers.specs.inside.Due.{RisesFrom}
use Rattle.bus_peers.specs.inside.Due.{is_in}

-- ---- rising lists

pub rises-weaker : (low lower : ℕ) (ns : List ℕ) → lower ≤ low → RisesFrom low ns → RisesFrom lower ns
rises-weaker low lower [] le up = tt
rises-weaker low lower (n ∷ ns) le up = let more : low ≤ n = up.0 in (omega (arith, le, more), up.1)

in_rising_go : (low w n : ℕ) (ns : List ℕ) (b : Bool) → (n == w) ≡ b → low ≤ n → (is_in w ns ≡ true → n + 1 ≤ w) →
    (b || is_in w ns) ≡ true → low ≤ w
in_rising_go low w n ns true is le ih there = let same : n ≡ w = eqb-true n w is in omega (arith, le, same)
in_rising_go low w n ns false is le ih there = let more : n + 1 ≤ w = ih there in omega (arith, le, more)

-- what is in a rising list is not below its first number
pub in-rising : (low w : ℕ) (ns : List ℕ) → RisesFrom low ns → is_in w ns ≡ true → low ≤ w
in-rising low w [] up there = absurd (both_ways true (sym there) refl)
in-rising low w (n ∷ ns) up there =
    in_rising_go low w n ns (n == w) refl up.0 (λ later. in-rising (n + 1) w ns up.1 later) there

not_in_go : (low w : ℕ) (ns : List ℕ) (b : Bool) → is_in w ns ≡ b → RisesFrom low ns → w < low → b ≡ false
not_in_go low w ns true is up lt = let le : low ≤ w = in-rising low w ns up is in absurd (omega (arith, le, lt))
not_in_go low w ns false is up lt = refl

pub below-rising : (low w : ℕ) (ns : List ℕ) → RisesFrom low ns → w < low → is_in w ns ≡ false
below-rising low w ns up lt = not_in_go low w ns (is_in w ns) refl up lt

first-in : (n : ℕ) (ns : List ℕ) → is_in n (n ∷ ns) ≡ true
first-in n ns = ap (λ b. b || is_in n ns) (eq-eqb n n refl)

other-in : (n w : ℕ) (ns : List ℕ) → n ≢ w → is_in w (n ∷ ns) ≡ is_in w ns
other-in n w ns off = ap (λ b. b || is_in w ns) (ne_eqb n w off)

later_first_go : (n m : ℕ) (ms : List ℕ) (b : Bool) → (m == n) ≡ b → RisesFrom (m + 1) ms →
    (b || is_in n ms) ≡ true → m ≤ n
later_first_go n m ms true is up there = let same : m ≡ n = eqb-true m n is in omega (arith, same)
later_first_go n m ms false is up there = let le : m + 1 ≤ n = in-rising (m + 1) n ms up there in omega (arith, le)

-- the first of a rising list is not above what is in it
first-least : (n m : ℕ) (ms : List ℕ) → RisesFrom (m + 1) ms → is_in n (m ∷ ms) ≡ true → m ≤ n
first-least n m ms up there = later_first_go n m ms (m == n) refl up there

tails_go : (n w : ℕ) (ns ms : List ℕ) (b : Bool) → (n == w) ≡ b → RisesFrom (n + 1) ns → RisesFrom (n + 1) ms →
    is_in w (n ∷ ns) ≡ is_in w (n ∷ ms) → is_in w ns ≡ is_in w ms
tails_go n w ns ms true is up vp same =
    let lt : w < n + 1 = let e : n ≡ w = eqb-true n w is in omega (arith, e) in
    below-rising (n + 1) w ns up lt ∙ sym (below-rising (n + 1) w ms vp lt)
tails_go n w ns ms false is up vp same =
    let off : n ≢ w = λ e. both_ways (n == w) is (eq-eqb n w e) in
    sym (other-in n w ns off) ∙ (same ∙ other-in n w ms off)

-- two rising lists of the same numbers are one
pub rising-same : (low : ℕ) (ns ms : List ℕ) → RisesFrom low ns → RisesFrom low ms →
    ((w : ℕ) → is_in w ns ≡ is_in w ms) → ns ≡ ms
rising-same low [] [] up vp same = refl
rising-same low [] (m ∷ ms) up vp same = absurd (both_ways true (sym (first-in m ms) ∙ sym (same m)) refl)
rising-same low (n ∷ ns) [] up vp same = absurd (both_ways true (sym (first-in n ns) ∙ same n) refl)
rising-same low (n ∷ ns) (m ∷ ms) up vp same =
    let above : m ≤ n = first-least n m ms vp.1 (sym (same n) ∙ first-in n ns) in
    let below : n ≤ m = first-least m n ns up.1 (same m ∙ first-in m ms) in
    let first : n ≡ m = omega (arith, above, below) in
    let there : RisesFrom (n + 1) ms = subst (λ k. RisesFrom (k + 1) ms) (sym first) vp.1 in
    let so : (w : ℕ) → is_in w (n ∷ ns) ≡ is_in w (n ∷ ms) =
    subst (λ k. (w : ℕ) → is_in w (n ∷ ns) ≡ is_in w (k ∷ ms)) (sym first) same in
    let rest : ns ≡ ms =
    rising-same (n + 1) ns ms up.1 there (λ w. tails_go n w ns ms (n == w) refl up.1 there (so w)) in
    ap (λ k. k ∷ ns) first ∙ ap (λ ks. m ∷ ks) rest

-- ---- the wires of numbered sessions

-- the wires of those that pass the test
abbrev pub wires_of : (Numbered → Bool) → ℕ → List Session → List ℕ
wires_of f low sessions = map (λ n. n.wire) (filter f (numbered low sessions))

wires_rise_go : (low : ℕ) (rest : List Numbered) (n : Numbered) (b : Bool) → n.wire ≡ low →
    RisesFrom (low + 1) (map (λ n. n.wire) rest) → RisesFrom low (map (λ n. n.wire) (if b then n ∷ rest else rest))
wires_rise_go low rest n true is up =
    (omega (arith, is), subst (λ k. RisesFrom (k + 1) (map (λ n. n.wire) rest)) (sym is) up)
wires_rise_go low rest n false is up = rises-weaker (low + 1) low (map (λ n. n.wire) rest) (omega arith) up

pub wires-rise : (f : Numbered → Bool) (low : ℕ) (sessions : List Session) → RisesFrom low (wires_of f low sessions)
wires-rise f low [] = tt
wires-rise f low (s ∷ sessions) =
    let n : Numbered = record { wire = low; session = s } in
    wires_rise_go low (filter f (numbered (low + 1) sessions)) n (f n) refl (wires-rise f (low + 1) sessions)

-- the first session has this wire
first_go : (w : ℕ) (n : Numbered) (rest : List Numbered) (b : Bool) → n.wire ≡ w →
    is_in w (map (λ n. n.wire) rest) ≡ false → is_in w (map (λ n. n.wire) (if b then n ∷ rest else rest)) ≡ b
first_go w n rest true is none = ap (λ b. b || is_in w (map (λ n. n.wire) rest)) (eq-eqb n.wire w is)
first_go w n rest false is none = none

-- the first session has another wire
later_go : (w : ℕ) (n : Numbered) (rest : List Numbered) (b : Bool) → n.wire ≢ w →
    is_in w (map (λ n. n.wire) (if b then n ∷ rest else rest)) ≡ is_in w (map (λ n. n.wire) rest)
later_go w n rest true off = other-in n.wire w (map (λ n. n.wire) rest) off
later_go w n rest false off = refl

-- the wire of a session is there exactly where the session passes
pub wire-in : (f : Numbered → Bool) (low i w : ℕ) (sessions : List Session) (s : Session) → w ≡ low + i →
    slice_get sessions i ≡ Some s → is_in w (wires_of f low sessions) ≡ f (record { wire = w; session = s })
wire-in f low i w [] s at there = absurd (none-some s there)
wire-in f low zero w (x ∷ sessions) s at there =
    let n : Numbered = record { wire = low; session = x } in
    let is : low ≡ w = omega (arith, at) in
    first_go w n (filter f (numbered (low + 1) sessions)) (f n) is
    (below-rising (low + 1) w (wires_of f (low + 1) sessions) (wires-rise f (low + 1) sessions) (omega (arith, at)))
    ∙ (ap (λ k. f (record { wire = k; session = x })) is
    ∙ ap (λ z. f (record { wire = w; session = z })) (same_Some x s there))
wire-in f low (suc i) w (x ∷ sessions) s at there =
    let n : Numbered = record { wire = low; session = x } in
    later_go w n (filter f (numbered (low + 1) sessions)) (f n) (omega (arith, at))
    ∙ wire-in f (low + 1) i w sessions s (omega (arith, at)) there

-- a wire without a session is not
pub no-wire-in : (f : Numbered → Bool) (low i w : ℕ) (sessions : List Session) → w ≡ low + i →
    slice_get sessions i ≡ None → is_in w (wires_of f low sessions) ≡ false
no-wire-in f low i w [] at there = refl
no-wire-in f low zero w (x ∷ sessions) at there = absurd (none-some x (sym there))
no-wire-in f low (suc i) w (x ∷ sessions) at there =
    let n : Numbered = record { wire = low; session = x } in
    later_go w n (filter f (numbered (low + 1) sessions)) (f n) (omega (arith, at))
    ∙ no-wire-in f (low + 1) i w sessions (omega (arith, at)) there

both_go : (f g : Numbered → Bool) (n : Numbered) (rest both : List Numbered) (b : Bool) → filter g rest ≡ both →
    filter g (if b then n ∷ rest else rest) ≡ (if b && g n then n ∷ both else both)
both_go f g n rest both true ih = ap (λ z. if g n then n ∷ z else z) ih
both_go f g n rest both false ih = ih

-- one test after the other
pub filter-both : (f g : Numbered → Bool) (ns : List Numbered) →
    filter g (filter f ns) ≡ filter (λ n. f n && g n) ns
filter-both f g [] = refl
filter-both f g (n ∷ ns) = both_go f g n (filter f ns) (filter (λ n. f n && g n) ns) (f n) (filter-both f g ns)
