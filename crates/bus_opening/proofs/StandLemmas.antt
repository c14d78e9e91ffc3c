-- An opening that stands: what is asked, and where it stands next.
use Rattle.std.proofs.Common.{◌≡◌, ℕ, suc, ◌+◌, ◌-◌, ◌<◌, ◌≤◌, Bool, true, false, cond, ltb, List}
use Rattle.std.proofs.Common.{[], ◌∷◌, ◌++◌, length, take, drop, Option, Some, None, refl, sym, ap}
use Rattle.std.proofs.Common.{◌∙◌, arith, append_assoc, length-append, length-drop, ◌⊎◌, inl, inr}
use Rattle.std.specs.Prelude.{sum_by}
use Rattle.std.proofs.lemmas.Bool.{ltb-false, ltb-true, le-ltb, lt-ltb}
use Rattle.std.proofs.lemmas.List.{length-take, drop-drop, append-nil}
use Rattle.std.proofs.lemmas.List.Sums.{sum_by-cons, sum_by-append}
use Rattle.bus_opening.specs.Limits.{command_limit}
use Rattle.bus_opening.specs.Lines.{lines, long, has_feed, feed_at, following}
use Rattle.bus_opening.specs.Talk.{Status, Turn, goes, ends, onto, then_turn, turn_from, said_of, Side, turn_after, talk, Ask, send, piece_rest, ask_more, ask_by, ask_now, ask}
use Rattle.bus_opening.specs.Standing.{rests, cut, pieces_of, Standing, Stands, ask_turn, asks}
use Rattle.bus_opening.proofs.AskLemmas.{ask_from-now, ask_from-skip, ask_now-later}
use Rattle.bus_opening.proofs.LineLemmas.{lines_stay, lines_first, following-more, ask_now-more}
use Rattle.bus_opening.proofs.Feeds.{next_line}

-- what is left of pieces
rests_by : (w n : ℕ) (p : List ℕ) (ps : List (List ℕ)) → ((w n : ℕ) → rests (w + n) ps ≡ rests n (rests w ps))
    → (c d : Bool) → ltb w (length p) ≡ c → ltb (w + n) (length p) ≡ d → rests (w + n) (p ∷ ps) ≡ rests n (rests w (p ∷ ps))
rests_by w n p ps others false d e f =
    let e1 : ltb (w + n) (length p) ≡ false = le-ltb (w + n) (length p) (omega (arith, ltb-false _ _ e)) in
    let e2 : (w + n) - length p ≡ (w - length p) + n = omega (arith, ltb-false _ _ e) in
    rw (e, e1, e2) (others (w - length p) n)
rests_by w n p ps others true true e f =
    let len : length (drop w p) ≡ length p - w = length-drop w p in
    let e1 : ltb n (length (drop w p)) ≡ true = lt-ltb _ _ (omega (arith, len, ltb-true _ _ f)) in
    rw (e, f, e1) (ap (λ (q : List ℕ). q ∷ ps) (sym (drop-drop n w p)))
rests_by w n p ps others true false e f =
    let len : length (drop w p) ≡ length p - w = length-drop w p in
    let e1 : ltb n (length (drop w p)) ≡ false = le-ltb _ _ (omega (arith, len, ltb-false _ _ f)) in
    let e2 : (w + n) - length p ≡ n - length (drop w p) = omega (arith, len, ltb-true _ _ e) in
    rw (e, f, e1, e2) refl

pub rests-more : (ps : List (List ℕ)) (w n : ℕ) → rests (w + n) ps ≡ rests n (rests w ps)
rests-more [] w n = refl
rests-more (p ∷ ps) w n = rests_by w n p ps (rests-more ps) (ltb w (length p)) (ltb (w + n) (length p)) refl refl

-- with nothing left, what comes behind is left whole
behind_by : (w : ℕ) (p : List ℕ) (ps qs : List (List ℕ)) → ((w : ℕ) → rests w ps ≡ [] → w ≤ sum_by length ps → rests w (ps ++ qs) ≡ rests 0 qs)
    → (c : Bool) → ltb w (length p) ≡ c → rests w (p ∷ ps) ≡ [] → w ≤ sum_by length (p ∷ ps) → rests w ((p ∷ ps) ++ qs) ≡ rests 0 qs
behind_by w p ps qs others true e none le = absurd (let x : drop w p ∷ ps ≡ [] = (rw e at none) in cc)
behind_by w p ps qs others false e none le = rw e (others (w - length p) (rw e at none) (omega (arith, le, sum_by-cons length p ps)))

pub rests-behind : (ps qs : List (List ℕ)) (w : ℕ) → rests w ps ≡ [] → w ≤ sum_by length ps → rests w (ps ++ qs) ≡ rests 0 qs
rests-behind [] qs w none le =
    let e : w ≡ 0 = omega arith in
    rw e refl
rests-behind (p ∷ ps) qs w none le = behind_by w p ps qs (rests-behind ps qs) (ltb w (length p)) refl none le

-- what is left is at most what was there
left_by : (w : ℕ) (p : List ℕ) (ps : List (List ℕ)) → ((w : ℕ) → sum_by length (rests w ps) ≡ sum_by length ps - w)
    → (c : Bool) → ltb w (length p) ≡ c → sum_by length (rests w (p ∷ ps)) ≡ sum_by length (p ∷ ps) - w
left_by w p ps others true e = rw e (omega (arith, sum_by-cons length (drop w p) ps, sum_by-cons length p ps, length-drop w p, ltb-true _ _ e))
left_by w p ps others false e = rw e (omega (arith, others (w - length p), sum_by-cons length p ps, ltb-false _ _ e))

pub rests-left : (ps : List (List ℕ)) (w : ℕ) → sum_by length (rests w ps) ≡ sum_by length ps - w
rests-left [] w = omega arith
rests-left (p ∷ ps) w = left_by w p ps (rests-left ps) (ltb w (length p)) refl

-- the question, by what is left
first_or : List (List ℕ) → Option Ask → Option Ask
first_or [] o = o
first_or (p ∷ ps) o = Some (send p)

pieces_by : (w : ℕ) (p : List ℕ) (ps : List (List ℕ)) (o : Option Ask) → ((w : ℕ) → cond (ltb w (sum_by length ps)) (Some (send (piece_rest w ps))) o ≡ first_or (rests w ps) o)
    → (c : Bool) → ltb w (length p) ≡ c → cond (ltb w (sum_by length (p ∷ ps))) (Some (send (piece_rest w (p ∷ ps)))) o ≡ first_or (rests w (p ∷ ps)) o
unfolding first_or
pieces_by w p ps o others true e =
    let lt : ltb w (sum_by length (p ∷ ps)) ≡ true = lt-ltb _ _ (omega (arith, sum_by-cons length p ps, ltb-true _ _ e)) in
    rw (lt, e) refl
pieces_by w p ps o others false e = rw e (same_test (ltb w (sum_by length (p ∷ ps))) (ltb (w - length p) (sum_by length ps)) refl refl)
  where
    same_test : (c d : Bool) → ltb w (sum_by length (p ∷ ps)) ≡ c → ltb (w - length p) (sum_by length ps) ≡ d
        → cond (ltb w (sum_by length (p ∷ ps))) (Some (send (piece_rest (w - length p) ps))) o
        ≡ first_or (rests (w - length p) ps) o
    same_test true true f g = rw f ((rw g at (others (w - length p))))
    same_test false false f g = rw f ((rw g at (others (w - length p))))
    same_test true false f g = absurd (omega (arith, ltb-true _ _ f, ltb-false _ _ g, ltb-false _ _ e, sum_by-cons length p ps))
    same_test false true f g = absurd (omega (arith, ltb-false _ _ f, ltb-true _ _ g, ltb-false _ _ e, sum_by-cons length p ps))

ask_pieces : (ps : List (List ℕ)) (o : Option Ask) (w : ℕ) → cond (ltb w (sum_by length ps)) (Some (send (piece_rest w ps))) o ≡ first_or (rests w ps) o
unfolding first_or
ask_pieces [] o w = rw (le-ltb w 0 (omega arith)) refl
ask_pieces (p ∷ ps) o w = pieces_by w p ps o (ask_pieces ps o) (ltb w (length p)) refl

first_goes : {Phase : Type 0} (ps : List (List ℕ)) (phase : Phase) (k : ℕ) (y : List ℕ) → first_or ps (ask_more k y) ≡ ask_turn (goes ps phase) k y
unfolding first_or
first_goes [] phase k y = refl
first_goes (p ∷ ps) phase k y = refl

first_ends : (Phase : Type 0) (ps : List (List ℕ)) (s : Status) (k : ℕ) (y : List ℕ) → first_or ps (ask_by s k y) ≡ ask_turn {Phase = Phase} (ends ps s) k y
unfolding first_or
first_ends Phase [] s k y = refl
first_ends Phase (p ∷ ps) s k y = refl

ask_of_turn : {Phase : Type 0} (t : Turn Phase) (w k : ℕ) (y : List ℕ)
    → cond (ltb w (sum_by length (said_of t).pieces)) (Some (send (piece_rest w (said_of t).pieces)))
    (ask_by (said_of t).status k y)
    ≡ ask_turn (cut w t) k y
ask_of_turn (goes ps phase) w k y = ask_pieces ps (ask_more k y) w ∙ first_goes (rests w ps) phase k y
ask_of_turn {Phase = Phase} (ends ps s) w k y = ask_pieces ps (ask_by s k y) w ∙ first_ends Phase (rests w ps) s k y

pub ask_now_is : {Phase : Type 0} (side : Side Phase) (b : List ℕ) (w k j : ℕ) → ask_now (talk side) b w k j ≡ ask_turn (cut w (turn_after side (take j (lines b).whole))) k (following j b)
unfolding talk
ask_now_is side b w k j = ask_of_turn (turn_after side (take j (lines b).whole)) w k (following j b)

pub here_is : {Phase : Type 0} (side : Side Phase) (b : List ℕ) (o : Standing Phase) → Stands Phase side b o → ask_now (talk side) b (length o.written) (command_limit - o.count) o.count ≡ asks o
here_is side b o s = ask_now_is side b (length o.written) (command_limit - o.count) o.count ∙ rw (s.turn, s.rest) refl

-- what a standing opening asks is what the definition asks
pub asked : {Phase : Type 0} (side : Side Phase) (b : List ℕ) (o : Standing Phase) (a : Ask) → Stands Phase side b o → asks o ≡ Some a → ask (talk side) b (length o.written) ≡ a
unfolding ask
asked side b o a s e =
    let skip = ask_from-skip o.count (talk side) b (length o.written) command_limit 0 s.few (λ i h. let z : 0 + i ≡ i = omega arith in rw z (s.passed i h)) in
    let z : 0 + o.count ≡ o.count = omega arith in
    rw (skip, z) (ask_from-now (talk side) b (length o.written) (command_limit - o.count) o.count a (here_is side b o s ∙ e))

-- more bytes were taken
cut-more : {Phase : Type 0} (t : Turn Phase) (w n : ℕ) → cut (w + n) t ≡ cut n (cut w t)
cut-more (goes ps phase) w n = ap (λ (qs : List (List ℕ)). goes qs phase) (rests-more ps w n)
cut-more (ends ps status) w n = ap (λ (qs : List (List ℕ)). ends qs status) (rests-more ps w n)

cut-left : {Phase : Type 0} (t : Turn Phase) (w : ℕ) → sum_by length (pieces_of (cut w t)) ≡ sum_by length (pieces_of t) - w
cut-left (goes ps phase) w = rests-left ps w
cut-left (ends ps status) w = rests-left ps w

pub stands_taken : {Phase : Type 0} (side : Side Phase) (b : List ℕ) (o : Standing Phase) (bytes : List ℕ) → length bytes ≤ sum_by length (pieces_of o.turn)
    → Stands Phase side b o → Stands Phase side b (record o { turn = cut (length bytes) o.turn; written = o.written ++ bytes })
stands_taken side b o bytes le s =
    let t = turn_after side (take o.count (lines b).whole) in
    let n : length (o.written ++ bytes) ≡ length o.written + length bytes = length-append o.written bytes in
    record {
      few = s.few;
      came = s.came;
      rest = s.rest;
      turn = rw n (ap (cut (length bytes)) s.turn ∙ sym (cut-more t (length o.written) (length bytes)));
      said = omega (arith, n, le, ap (λ (u : Turn _). sum_by length (pieces_of u)) s.turn, cut-left t (length o.written), s.said);
      passed = λ i h. ask_now-later (talk side) b (length o.written) (length (o.written ++ bytes)) (command_limit - i) i (omega (arith, n)) (s.passed i h);
    }

-- more bytes came
more_lines : (b x : List ℕ) → length (lines b).whole ≤ length (lines (b ++ x)).whole
more_lines b x = omega (arith, ap length (lines_stay b x), length-take (length (lines b).whole) (lines (b ++ x)).whole)

pub stands_got : {Phase : Type 0} (side : Side Phase) (b x : List ℕ) (o : Standing Phase) → Stands Phase side b o → Stands Phase side (b ++ x) (record o { rest = o.rest ++ x })
stands_got side b x o s =
    let first : take o.count (lines (b ++ x)).whole ≡ take o.count (lines b).whole = lines_first o.count b x s.came in
    record {
      few = s.few;
      came = omega (arith, s.came, more_lines b x);
      rest = ap (λ (y : List ℕ). y ++ x) s.rest ∙ sym (following-more o.count b x s.came);
      turn = rw first s.turn;
      said = rw first s.said;
      passed = λ i h. ask_now-more (talk side) b x (length o.written) (command_limit - i) i (omega (arith, s.came)) (s.passed i h);
    }

-- a line was looked at
onto-onto : {Phase : Type 0} (ps qs : List (List ℕ)) (t : Turn Phase) → onto ps (onto qs t) ≡ onto (ps ++ qs) t
onto-onto ps qs (goes rs phase) = ap (λ (us : List (List ℕ)). goes us phase) (sym (append_assoc ps qs rs))
onto-onto ps qs (ends rs status) = ap (λ (us : List (List ℕ)). ends us status) (sym (append_assoc ps qs rs))

onto-then : {Phase : Type 0} (ps : List (List ℕ)) (t : Turn Phase) (next : Phase → Turn Phase) → onto ps (then_turn t next) ≡ then_turn (onto ps t) next
onto-then ps (goes qs phase) next = onto-onto ps qs (next phase)
onto-then ps (ends qs status) next = refl

onto-none : {Phase : Type 0} (t : Turn Phase) → onto [] t ≡ t
onto-none (goes ps phase) = refl
onto-none (ends ps status) = refl

then-none : {Phase : Type 0} (t : Turn Phase) → then_turn t (λ next. goes [] next) ≡ t
then-none (goes ps phase) = ap (λ (us : List (List ℕ)). goes us phase) (append-nil ps)
then-none (ends ps status) = refl

then-then : {Phase : Type 0} (t : Turn Phase) (f g : Phase → Turn Phase) (h : Phase → Turn Phase) → ((p : Phase) → g p ≡ then_turn (f p) h) → then_turn t g ≡ then_turn (then_turn t f) h
then-then (goes ps phase) f g h e = ap (onto ps) (e phase) ∙ onto-then ps (f phase) h
then-then (ends ps status) f g h e = refl

turn_from-append : {Phase : Type 0} (step : Phase → List ℕ → Turn Phase) (ls : List (List ℕ)) (l : List ℕ)
    (phase : Phase)
    → turn_from step phase (ls ++ (l ∷ [])) ≡ then_turn (turn_from step phase ls) (λ p. step p l)
turn_from-append step [] l phase = then-none (step phase l) ∙ sym (onto-none (step phase l))
turn_from-append step (x ∷ ls) l phase = then-then (step phase x) (λ n. turn_from step n ls) (λ n. turn_from step n (ls ++ (l ∷ []))) (λ p. step p l) (turn_from-append step ls l)

turn_after-append : {Phase : Type 0} (side : Side Phase) (ls : List (List ℕ)) (l : List ℕ) → turn_after side (ls ++ (l ∷ [])) ≡ then_turn (turn_after side ls) (λ p. side.step p l)
turn_after-append side ls l = ap (onto side.opening) (turn_from-append side.step ls l side.start) ∙ onto-then side.opening (turn_from side.step side.start ls) (λ p. side.step p l)

cut-onto : {Phase : Type 0} (ps : List (List ℕ)) (w : ℕ) (t : Turn Phase) → rests w ps ≡ [] → w ≤ sum_by length ps → (cut w (onto ps t) ≡ cut 0 t) × (w ≤ sum_by length (pieces_of (onto ps t)))
cut-onto ps w (goes qs phase) none le = (ap (λ (us : List (List ℕ)). goes us phase) (rests-behind ps qs w none le), omega (arith, le, sum_by-append length ps qs))
cut-onto ps w (ends qs status) none le = (ap (λ (us : List (List ℕ)). ends us status) (rests-behind ps qs w none le), omega (arith, le, sum_by-append length ps qs))

cut-then : {Phase : Type 0} (t : Turn Phase) (w : ℕ) (phase : Phase) (next : Phase → Turn Phase) → goes [] phase ≡ cut w t → w ≤ sum_by length (pieces_of t)
    → (cut w (then_turn t next) ≡ cut 0 (next phase)) × (w ≤ sum_by length (pieces_of (then_turn t next)))
cut-then (goes ps q) w phase next e le =
    let none : rests w ps ≡ [] = cc in
    let same : q ≡ phase = cc in
    rw same (cut-onto ps w (next phase) none le)
cut-then (ends ps status) w phase next e le = absurd cc

before_or_last : (i j : ℕ) → i < j + 1 → (i < j) ⊎ (i ≡ j)
before_or_last i j h = by_test (ltb i j) refl
  where
    by_test : (c : Bool) → ltb i j ≡ c → (i < j) ⊎ (i ≡ j)
    by_test true e = inl (ltb-true _ _ e)
    by_test false e = inr (omega (arith, ltb-false _ _ e, h))

looks : {Phase : Type 0} (t : Turn Phase) (phase : Phase) (count : ℕ) (rest : List ℕ) → t ≡ goes [] phase
    → count < command_limit → long rest ≡ false → has_feed rest ≡ true → ask_turn t (command_limit - count) rest ≡ None
looks t phase count rest e few short feed =
    let k : command_limit - count ≡ suc (63 - count) = omega arith in
    rw (e, k, short, feed) refl

by_place : {Phase : Type 0} (side : Side Phase) (b : List ℕ) (w i j : ℕ) → (i < j) ⊎ (i ≡ j)
    → ask_now (talk side) b w (command_limit - j) j ≡ None
    → ((i : ℕ) → i < j → ask_now (talk side) b w (command_limit - i) i ≡ None)
    → ask_now (talk side) b w (command_limit - i) i ≡ None
by_place side b w i j (inl lt) here before = before i lt
by_place side b w i j (inr e) here before = rw e here

pub stands_looked : {Phase : Type 0} (side : Side Phase) (b : List ℕ) (o : Standing Phase) (phase : Phase)
    → o.turn ≡ goes [] phase → o.count < command_limit → long o.rest ≡ false → has_feed o.rest ≡ true
    → Stands Phase side b o → Stands Phase side b (record o { turn = cut 0 (side.step phase (take (feed_at o.rest + 1) o.rest)); count = o.count + 1; rest = drop (feed_at o.rest + 1) o.rest })
stands_looked side b o phase e few short feed s =
    let n = next_line o.count b o.rest s.rest s.came (ltb-true _ _ feed) in
    let line = take (suc (feed_at o.rest)) o.rest in
    let t = turn_after side (take o.count (lines b).whole) in
    let k : o.count + 1 ≡ suc o.count = omega arith in
    let m : feed_at o.rest + 1 ≡ suc (feed_at o.rest) = omega arith in
    let after : turn_after side (take (suc o.count) (lines b).whole) ≡ then_turn t (λ p. side.step p line) =
    ap (turn_after side) n.first ∙ turn_after-append side (take o.count (lines b).whole) line in
    let c = cut-then t (length o.written) phase (λ p. side.step p line) (sym e ∙ s.turn) s.said in
    let here : ask_now (talk side) b (length o.written) (command_limit - o.count) o.count ≡ None = here_is side b o s ∙ looks o.turn phase o.count o.rest e few short feed in
    record {
      few = omega arith;
      came = omega (arith, n.within);
      rest = rw (k, m) (sym n.then_on);
      turn = rw (k, m, after) (sym c.0);
      said = rw (k, after) c.1;
      passed = λ i h. by_place side b (length o.written) i o.count (before_or_last i o.count h) here s.passed;
    }
