-- What is left to be sent, once more bytes were taken.
use Rattle.std.proofs.Common.{◌≡◌, ℕ, ◌+◌, ◌-◌, ◌<◌, ◌≤◌, Bool, true, false, ltb, List, [], ◌∷◌, ◌++◌, length, take, drop, refl, sym, ap, subst, ◌∙◌, arith, take-add, length-drop}
use Rattle.std.proofs.lemmas.Bool.{ltb-false, ltb-true, le-ltb, lt-ltb}
use Rattle.std.proofs.lemmas.List.{length-take, drop-drop, drop-take, take-take}
use Rattle.bus_opening.specs.Client.{piece}
use Rattle.bus_opening.specs.Standing.{rests}
use Rattle.bus_opening.specs.Outboxes.{waiting_of, first_piece}

pub piece_some : (ys : List ℕ) → 0 < length ys → piece ys ≡ ys ∷ []
piece_some [] h = absurd (omega (arith, h))
piece_some (c ∷ ys) h = refl

pub piece_none : (ys : List ℕ) → length ys ≡ 0 → piece ys ≡ []
piece_none [] h = refl
piece_none (c ∷ ys) h = absurd (omega (arith, h))

pub rests-piece : (ys : List ℕ) (n : ℕ) → n ≤ length ys → rests n (piece ys) ≡ piece (drop n ys)
rests-piece [] n le =
    let e : n ≡ 0 = omega arith in
    rw e refl
rests-piece (c ∷ ys) n le = by_test (ltb n (length (c ∷ ys))) refl
  where
    by_test : (b : Bool) → ltb n (length (c ∷ ys)) ≡ b → rests n (piece (c ∷ ys)) ≡ piece (drop n (c ∷ ys))
    by_test true e = rw e (sym (piece_some (drop n (c ∷ ys)) (omega (arith, length-drop n (c ∷ ys), ltb-true _ _ e))))
    by_test false e = rw e (sym (piece_none (drop n (c ∷ ys)) (omega (arith, length-drop n (c ∷ ys), ltb-false _ _ e))))

pub record Marked (said : List ℕ) (t n e : ℕ) (ws : List (List ℕ)) : Type 0 where
  pub waiting : waiting_of said (t + n) e ≡ rests n ws
  pub written : take (t + n) said ≡ take t said ++ take n (first_piece ws)
  pub room : t + n ≤ length said

first_of_piece : (ys : List ℕ) → first_piece (piece ys) ≡ ys
first_of_piece [] = refl
first_of_piece (c ∷ ys) = refl

marked_by : (said : List ℕ) (t n e : ℕ) → e ≤ length said → t ≤ length said → (b d : Bool) → ltb t e ≡ b
    → ltb (t + n) e ≡ d → n ≤ length (first_piece (waiting_of said t e)) → Marked said t n e (waiting_of said t e)
marked_by said t n e le tl true true f g bound =
    let m : length (take (e - t) (drop t said)) ≡ e - t = omega (arith, length-take (e - t) (drop t said), length-drop t said, le) in
    let lt : ltb n (length (take (e - t) (drop t said))) ≡ true = lt-ltb _ _ (omega (arith, m, ltb-true _ _ g)) in
    let k : e - t ≡ n + (e - (t + n)) = omega (arith, ltb-true _ _ g) in
    let cutting : take (e - (t + n)) (drop (t + n) said) ≡ drop n (take (e - t) (drop t said)) =
    ap (take (e - (t + n))) (sym (drop-drop n t said)) ∙ sym (drop-take n (e - (t + n)) (drop t said)) ∙ ap (λ (i : ℕ). drop n (take i (drop t said))) (sym k) in
    record {
      waiting = rw (f, g, lt) (ap (λ (p : List ℕ). p ∷ piece (drop e said)) cutting);
      written = rw f (take-add t n said ∙ ap (λ (p : List ℕ). take t said ++ p) (sym (take-take n (e - t) (drop t said) (omega (arith, ltb-true _ _ g)))));
      room = omega (arith, ltb-true _ _ g, le);
    }
marked_by said t n e le tl true false f g bound =
    let m : length (take (e - t) (drop t said)) ≡ e - t = omega (arith, length-take (e - t) (drop t said), length-drop t said, le) in
    let small : n ≤ e - t = subst (λ (i : ℕ). n ≤ i) m (rw f at bound) in
    let lt : ltb n (length (take (e - t) (drop t said))) ≡ false = le-ltb _ _ (omega (arith, m, ltb-false _ _ g)) in
    let same : t + n ≡ e = omega (arith, small, ltb-false _ _ g, ltb-true _ _ f) in
    let none : n - length (take (e - t) (drop t said)) ≡ 0 = omega (arith, m, small) in
    record {
      waiting = rw (f, g, lt, none) (ap (λ (i : ℕ). piece (drop i said)) same ∙ sym (rests-piece (drop e said) 0 (omega arith)));
      written = rw f (take-add t n said ∙ ap (λ (p : List ℕ). take t said ++ p) (sym (take-take n (e - t) (drop t said) small)));
      room = omega (arith, same, le);
    }
marked_by said t n e le tl false true f g bound = absurd (omega (arith, ltb-false _ _ f, ltb-true _ _ g))
marked_by said t n e le tl false false f g bound =
    let small : n ≤ length (drop t said) = subst (λ (p : List ℕ). n ≤ length p) (first_of_piece (drop t said)) (rw f at bound) in
    record {
      waiting = rw (f, g) (ap piece (sym (drop-drop n t said)) ∙ sym (rests-piece (drop t said) n small));
      written = rw f (take-add t n said ∙ ap (λ (p : List ℕ). take t said ++ take n p) (sym (first_of_piece (drop t said))));
      room = omega (arith, small, length-drop t said, tl);
    }

pub marked : (said : List ℕ) (t n e : ℕ) (ws : List (List ℕ)) → waiting_of said t e ≡ ws → e ≤ length said → t ≤ length said → n ≤ length (first_piece ws) → Marked said t n e ws
marked said t n e ws same le tl bound = subst (λ (us : List (List ℕ)). Marked said t n e us) same
    (marked_by said t n e le tl (ltb t e) (ltb (t + n) e) refl refl (subst (λ (us : List (List ℕ)). n ≤ length (first_piece us)) (sym same) bound))
