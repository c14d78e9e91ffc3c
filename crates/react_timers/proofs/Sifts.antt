-- Steps that bring a heap in order.
use Rattle.std.proofs.Common.{◌≡◌, ◌+◌, ◌*◌, ◌/◌, ◌≢◌, ℕ, zero, suc, ◌<◌, ◌≤◌, true, false, List, [], ◌∷◌, ◌++◌, length}
use Rattle.std.proofs.Common.{get_or, refl, ap, sym, ◌∙◌, inl, inr, arith}
use Rattle.std.specs.Prelude.{All, Contains}
use Rattle.std.specs.List.{SwappedAt}
use Rattle.std.proofs.Math.ListN.{get_or-append}
use Rattle.std.proofs.lemmas.List.{get_or_default}
use Rattle.std.proofs.lemmas.Bool.{cases_eq}
use Rattle.std.proofs.lemmas.Bool.Decides.{nat_tests}
use Rattle.react_timers.specs.declared.entry.Entry.{Entry}
use Rattle.react_timers.specs.Heaped.{is_sooner}
use Rattle.react_timers.specs.Ordered.{IsChild, KeepsBelow, IsOrdered, IsOrderedAbove, IsOrderedBelow}

itself : (x : Entry) → is_sooner x x ≡ false
itself x = grind (arith, nat_tests)

one_way : (x y : Entry) → is_sooner x y ≡ true → is_sooner y x ≡ false
one_way x y h = grind (arith, nat_tests)

chain : (x y z : Entry) → is_sooner y x ≡ false → is_sooner z y ≡ false → is_sooner z x ≡ false
chain x y z p q = grind (arith, nat_tests)

-- a test at other names of its two entries
by : (a b x y : Entry) → a ≡ x → b ≡ y → is_sooner x y ≡ false → is_sooner a b ≡ false
by a b x y p q h = (λ i. is_sooner (p i) (q i)) ∙ h

pub rise-step : (xs ys : List Entry) (j q n : ℕ) → IsChild q j → j < n → SwappedAt xs ys j q →
    ((d : Entry) → is_sooner (get_or xs j d) (get_or xs q d) ≡ true) → IsOrderedAbove xs j n → IsOrderedAbove ys q n
rise-step xs ys j q n up lt s first h = record {
  pair = λ p k c in' other d. elim (cases_eq k j) [
    | inl kj ↦
        let pq : p ≡ q = omega (arith, kj, c, up) in
        by _ _ _ _ (ap (λ m. get_or ys m d) kj ∙ s.0 d) (ap (λ m. get_or ys m d) pq ∙ s.1 d) (one_way (get_or xs j d) (get_or xs q d) (first d))
    | inr kj ↦
        let k-is = s.2 k d kj other in
        elim (cases_eq p q) [
          | inl pq ↦
              let c' : IsChild q k = (omega (arith, pq, c), omega (arith, pq, c)) in
              by _ _ _ _ k-is (ap (λ m. get_or ys m d) pq ∙ s.1 d) (chain (get_or xs j d) (get_or xs q d) (get_or xs k d) (one_way (get_or xs j d) (get_or xs q d) (first d)) (h.pair q k c' in' kj d))
          | inr pq ↦ elim (cases_eq p j) [
            | inl pj ↦
                let c' : IsChild j k = (omega (arith, pj, c), omega (arith, pj, c)) in
                by _ _ _ _ k-is (ap (λ m. get_or ys m d) pj ∙ s.0 d) (h.across q k up c' in' d)
            | inr pj ↦ by _ _ _ _ k-is (s.2 p d pj pq) (h.pair p k c in' kj d)
          ]
        ]
  ];
  across = λ p k over c in' d.
      let p-is = s.2 p d (λ e. omega (arith, e, over, up)) (λ e. omega (arith, e, over)) in
      let qj : q ≡ j → ⊥ = λ e. omega (arith, e, up) in
      let q-over = h.pair p q over (omega (arith, up, lt)) qj d in
      elim (cases_eq k j) [
        | inl kj ↦ by _ _ _ _ (ap (λ m. get_or ys m d) kj ∙ s.0 d) p-is q-over
        | inr kj ↦
            by _ _ _ _ (s.2 k d kj (λ e. omega (arith, e, c))) p-is (chain (get_or xs p d) (get_or xs q d) (get_or xs k d) q-over (h.pair q k c in' kj d))
      ];
}

pub rise-top : (xs : List Entry) (j n : ℕ) → j ≡ 0 → IsOrderedAbove xs j n → IsOrdered xs 0 n
rise-top xs j n top h = record { pair = λ p k low c in'. h.pair p k c in' (λ e. omega (arith, e, top, c)) }

pub rise-rest : (xs : List Entry) (j q n : ℕ) → IsChild q j → KeepsBelow xs q j → IsOrderedAbove xs j n →
    IsOrdered xs 0 n
rise-rest xs j q n up rest h = record {
  pair = λ p k low c in' d. elim (cases_eq k j) [
    | inl kj ↦
        let pq : p ≡ q = omega (arith, kj, c, up) in
        by _ _ _ _ (ap (λ m. get_or xs m d) kj) (ap (λ m. get_or xs m d) pq) (rest d)
    | inr kj ↦ h.pair p k c in' kj d
  ];
}

pub sink-begin : (xs : List Entry) (j n : ℕ) → IsOrdered xs (j + 1) n → IsOrderedBelow xs j j n
sink-begin xs j n h = record {
  pair = λ p k low c in' other. h.pair p k (omega (arith, low, other)) c in';
  across = λ p k low over c in'. absurd (omega (arith, low, over));
}

pub sink-step : (xs ys : List Entry) (low j c n : ℕ) → low ≤ j → IsChild j c → c < n → SwappedAt xs ys j c →
    ((d : Entry) → is_sooner (get_or xs c d) (get_or xs j d) ≡ true) →
    ((k : ℕ) → IsChild j k → k < n → KeepsBelow xs c k) → IsOrderedBelow xs low j n → IsOrderedBelow ys low c n
sink-step xs ys low j c n le down lt s first best h = record {
  pair = λ p k lo ch in' other d. elim (cases_eq p j) [
    | inl pj ↦
        let p-is = ap (λ m. get_or ys m d) pj ∙ s.0 d in
        elim (cases_eq k c) [
          | inl kc ↦
              by _ _ _ _ (ap (λ m. get_or ys m d) kc ∙ s.1 d) p-is (one_way (get_or xs c d) (get_or xs j d) (first d))
          | inr kc ↦
              let ch' : IsChild j k = (omega (arith, pj, ch), omega (arith, pj, ch)) in
              by _ _ _ _ (s.2 k d (λ e. omega (arith, e, ch')) kc) p-is (best k ch' in' d)
        ]
    | inr pj ↦
        let p-is = s.2 p d pj other in
        elim (cases_eq k j) [
          | inl kj ↦
              let over : IsChild p j = (omega (arith, kj, ch), omega (arith, kj, ch)) in
              by _ _ _ _ (ap (λ m. get_or ys m d) kj ∙ s.0 d) p-is (h.across p c lo over down lt d)
          | inr kj ↦ by _ _ _ _ (s.2 k d kj (λ e. pj (omega (arith, e, ch, down)))) p-is (h.pair p k lo ch in' pj d)
        ]
  ];
  across = λ p k lo over ch in' d.
      let pj : p ≡ j = omega (arith, over, down) in
      by _ _ _ _ (s.2 k d (λ e. omega (arith, e, ch, down)) (λ e. omega (arith, e, ch))) (ap (λ m. get_or ys m d) pj ∙ s.0 d)
      (h.pair c k (omega (arith, le, down)) ch in' (λ e. omega (arith, e, down)) d);
}

pub sink-leaf : (xs : List Entry) (low j n : ℕ) → n ≤ j * 2 + 1 → IsOrderedBelow xs low j n → IsOrdered xs low n
sink-leaf xs low j n leaf h =
    record { pair = λ p k lo c in'. h.pair p k lo c in' (λ e. omega (arith, e, leaf, c, in')) }

pub sink-rest : (xs : List Entry) (low j c n : ℕ) → KeepsBelow xs j c →
    ((k : ℕ) → IsChild j k → k < n → KeepsBelow xs c k) → IsOrderedBelow xs low j n → IsOrdered xs low n
sink-rest xs low j c n rest best h = record {
  pair = λ p k lo ch in' d. elim (cases_eq p j) [
    | inl pj ↦
        let ch' : IsChild j k = (omega (arith, pj, ch), omega (arith, pj, ch)) in
        by _ _ _ _ refl (ap (λ m. get_or xs m d) pj) (chain (get_or xs j d) (get_or xs c d) (get_or xs k d) (rest d) (best k ch' in' d))
    | inr pj ↦ h.pair p k lo ch in' pj d
  ];
}

pub leaves : (xs : List Entry) (n : ℕ) → IsOrdered xs (n / 2) n
leaves xs n = record { pair = λ p k lo c in'. absurd (omega (arith, lo, c, in')) }

-- the entry on top is the soonest
below_top : (xs : List Entry) (n : ℕ) → IsOrdered xs 0 n → (fuel k : ℕ) → k ≤ fuel → k < n → KeepsBelow xs 0 k
below_top xs n h fuel zero le lt d = itself (get_or xs 0 d)
below_top xs n h zero (suc k) le lt d = absurd (omega arith)
below_top xs n h (suc fuel) (suc k) le lt d =
    let above = below_top xs n h fuel (k / 2) (omega arith) (omega arith) d in
    chain (get_or xs 0 d) (get_or xs (k / 2) d) (get_or xs (suc k) d) above (h.pair (k / 2) (suc k) (omega arith) (omega arith, omega arith) lt d)

pub soonest-all : (xs : List Entry) (n : ℕ) (e : Entry) → n ≡ length xs → e ≡ get_or xs 0 e → IsOrdered xs 0 n →
    All (λ (x : Entry). is_sooner x e ≡ false) xs
soonest-all xs n e len is h k d lt =
    let l : k < n = omega (arith, len, lt) in
    let first : e ≡ get_or xs 0 d = is ∙ get_or_default xs 0 e d (omega (arith, lt)) in
    by (get_or xs k d) e (get_or xs k d) (get_or xs 0 d) refl first (below_top xs n h k k (omega arith) l d)

pub contains_top : (xs : List Entry) (e : Entry) → 0 < length xs → e ≡ get_or xs 0 e → Contains xs e
contains_top xs e lt is = (0, lt, sym is)

-- one more at the end
pub push-above : (xs : List Entry) (e : Entry) (n m : ℕ) → n ≡ length xs → m ≡ n + 1 → IsOrdered xs 0 n →
    IsOrderedAbove (xs ++ e ∷ []) n m
push-above xs e n m len more h = record {
  pair = λ p k c in' other d.
      let kn : k < n = omega (arith, in', other, more) in
      by _ _ _ _ (get_or-append xs (e ∷ []) d k (omega (arith, kn, len))) (get_or-append xs (e ∷ []) d p (omega (arith, kn, len, c))) (h.pair p k (omega arith) c kn d);
  across = λ p k over c in'. absurd (omega (arith, over, c, in', more));
}

-- the last entry stands on top
pub top_replaced : (xs ys : List Entry) (n m : ℕ) → m + 1 ≡ n →
    ((k : ℕ) (d : Entry) → k ≢ 0 → k + 1 < n → get_or ys k d ≡ get_or xs k d) → IsOrdered xs 0 n → IsOrdered ys 1 m
top_replaced xs ys n m len same h = record {
  pair = λ p k low c in' d.
      by _ _ _ _ (same k d (λ e. omega (arith, e, low, c)) (omega (arith, in', len))) (same p d (λ e. omega (arith, e, low)) (omega (arith, in', len, c)))
      (h.pair p k (omega arith) c (omega (arith, in', len)) d);
}

-- a test of two entries that were read
pub reads : (xs : List Entry) (i j : ℕ) (a b : Entry) → i < length xs → j < length xs → a ≡ get_or xs i a →
    b ≡ get_or xs j b → is_sooner a b ≡ true → (d : Entry) → is_sooner (get_or xs i d) (get_or xs j d) ≡ true
reads xs i j a b i-lt j-lt a-is b-is h d =
    sym (λ k. is_sooner ((a-is ∙ get_or_default xs i a d i-lt) k) ((b-is ∙ get_or_default xs j b d j-lt) k)) ∙ h
