-- Where the next question is looked for.
use Rattle.std.proofs.Common.{◌≡◌, ℕ, zero, suc, ◌+◌, ◌-◌, ◌<◌, ◌≤◌, Bool, true, false, cond, ltb, List, length, take, Option, Some, None, refl, ◌∙◌, arith}
use Rattle.std.specs.Prelude.{sum_by}
use Rattle.std.proofs.lemmas.Bool.{ltb-false, le-ltb}
use Rattle.bus_opening.specs.Lines.{lines, following}
use Rattle.bus_opening.specs.Talk.{Said, Ask, send, piece_rest, ask_now, ask_by, ask_from}

none_else : {A : Type 0} (b : Bool) (x : A) (o : Option A) → cond b (Some x) o ≡ None → (b ≡ false) × (o ≡ None)
none_else true x o e = absurd cc
none_else false x o e = (refl, e)

-- what asked for nothing asks for nothing once more bytes are taken
pub ask_now-later : (talk : List (List ℕ) → Said) (b : List ℕ) (w v k j : ℕ) → w ≤ v → ask_now talk b w k j ≡ None → ask_now talk b v k j ≡ None
ask_now-later talk b w v k j le e =
    let said = talk (take j (lines b).whole) in
    let p = none_else (ltb w (sum_by length said.pieces)) (send (piece_rest w said.pieces)) (ask_by said.status k (following j b)) e in
    let low : sum_by length said.pieces ≤ w = ltb-false _ _ p.0 in
    rw (le-ltb v (sum_by length said.pieces) (omega arith)) p.1

pub ask_from-now : (talk : List (List ℕ) → Said) (b : List ℕ) (w k j : ℕ) (a : Ask) → ask_now talk b w k j ≡ Some a → ask_from talk b w k j ≡ a
unfolding ask_from
ask_from-now talk b w zero j a e = rw e refl
ask_from-now talk b w (suc k) j a e = rw e refl

-- lines that ask for nothing are passed over
pub ask_from-skip : (m : ℕ) (talk : List (List ℕ) → Said) (b : List ℕ) (w k j : ℕ) → m ≤ k
    → ((i : ℕ) → i < m → ask_now talk b w (k - i) (j + i) ≡ None)
    → ask_from talk b w k j ≡ ask_from talk b w (k - m) (j + m)
unfolding ask_from
ask_from-skip zero talk b w k j le none =
    let e1 : k - 0 ≡ k = omega arith in
    let e2 : j + 0 ≡ j = omega arith in
    rw (e1, e2) refl
ask_from-skip (suc m) talk b w zero j le none = absurd (omega arith)
ask_from-skip (suc m) talk b w (suc k) j le none =
    let here : ask_now talk b w (suc k) j ≡ None =
    let e1 : suc k - 0 ≡ suc k = omega arith in
    let e2 : j + 0 ≡ j = omega arith in
    (rw (e1, e2) at (none 0 (omega arith))) in
    let one : ask_from talk b w (suc k) j ≡ ask_from talk b w k (j + 1) = rw here refl in
    let rest = ask_from-skip m talk b w k (j + 1) (omega arith) (λ i lt.
    let e1 : suc k - (i + 1) ≡ k - i = omega arith in
    let e2 : j + (i + 1) ≡ (j + 1) + i = omega arith in
    (rw (e1, e2) at (none (i + 1) (omega arith)))) in
    let e3 : suc k - suc m ≡ k - m = omega arith in
    let e4 : j + suc m ≡ (j + 1) + m = omega arith in
    one ∙ rest ∙ rw (e3, e4) refl
