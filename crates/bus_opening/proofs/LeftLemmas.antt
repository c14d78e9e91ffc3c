-- Where an opening begins, and what it leaves over.
use Rattle.std.proofs.Common.{◌≡◌, ℕ, zero, suc, ◌+◌, ◌-◌, ◌<◌, ◌≤◌, List, [], length, Some, None, refl, sym, ap, ◌∙◌, arith}
use Rattle.bus_opening.specs.Limits.{command_limit}
use Rattle.bus_opening.specs.Lines.{following}
use Rattle.bus_opening.specs.Talk.{Said, goes, onto, Side, talk, Ask, ask_now, looked_from, left}
use Rattle.bus_opening.specs.Standing.{cut, Standing, Stands, asks}
use Rattle.bus_opening.proofs.StandLemmas.{here_is}

looked_from-now : (talks : List (List ℕ) → Said) (b : List ℕ) (w k j : ℕ) (a : Ask) → ask_now talks b w k j ≡ Some a → looked_from talks b w k j ≡ j
unfolding looked_from
looked_from-now talks b w zero j a e = refl
looked_from-now talks b w (suc k) j a e = rw e refl

looked_from-skip : (m : ℕ) (talks : List (List ℕ) → Said) (b : List ℕ) (w k j : ℕ) → m ≤ k
    → ((i : ℕ) → i < m → ask_now talks b w (k - i) (j + i) ≡ None)
    → looked_from talks b w k j ≡ looked_from talks b w (k - m) (j + m)
unfolding looked_from
looked_from-skip zero talks b w k j le none =
    let e1 : k - 0 ≡ k = omega arith in
    let e2 : j + 0 ≡ j = omega arith in
    rw (e1, e2) refl
looked_from-skip (suc m) talks b w zero j le none = absurd (omega arith)
looked_from-skip (suc m) talks b w (suc k) j le none =
    let here : ask_now talks b w (suc k) j ≡ None =
    let e1 : suc k - 0 ≡ suc k = omega arith in
    let e2 : j + 0 ≡ j = omega arith in
    (rw (e1, e2) at (none 0 (omega arith))) in
    let one : looked_from talks b w (suc k) j ≡ looked_from talks b w k (j + 1) = rw here refl in
    let rest = looked_from-skip m talks b w k (j + 1) (omega arith) (λ i lt.
    let e1 : suc k - (i + 1) ≡ k - i = omega arith in
    let e2 : j + (i + 1) ≡ (j + 1) + i = omega arith in
    (rw (e1, e2) at (none (i + 1) (omega arith)))) in
    let e3 : suc k - suc m ≡ k - m = omega arith in
    let e4 : j + suc m ≡ (j + 1) + m = omega arith in
    one ∙ rest ∙ rw (e3, e4) refl

-- what is left over where something is asked is what was not looked at
pub left_is : {Phase : Type 0} (side : Side Phase) (b : List ℕ) (o : Standing Phase) (a : Ask) → Stands Phase side b o → asks o ≡ Some a → left (talk side) b (length o.written) ≡ o.rest
unfolding left
left_is side b o a s e =
    let skip = looked_from-skip o.count (talk side) b (length o.written) command_limit 0 s.few (λ i h. let z : 0 + i ≡ i = omega arith in rw z (s.passed i h)) in
    let z : 0 + o.count ≡ o.count = omega arith in
    ap (λ (j : ℕ). following j b)
    (skip ∙ ap (λ (j : ℕ). looked_from (talk side) b (length o.written) (command_limit - o.count) j) z
    ∙ looked_from-now (talk side) b (length o.written) (command_limit - o.count) o.count a
    (here_is side b o s ∙ e))
    ∙ sym s.rest

-- before any byte came it stands at its first pieces
pub stands_first : {Phase : Type 0} (side : Side Phase) → Stands Phase side [] (record { turn = cut 0 (onto side.opening (goes [] side.start)); count = 0; rest = []; written = [] })
stands_first side = record { few = omega arith; came = omega arith; rest = refl; turn = refl; said = omega arith; passed = λ i h. absurd (omega (arith, h)) }
