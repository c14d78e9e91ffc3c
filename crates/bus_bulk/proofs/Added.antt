-- Sessions and answers, added line by line.
use Rattle.std.proofs.Common.{◌≡◌, ℕ, zero, suc, ◌<◌, ◌≤◌, Bool, true, false, List, [], ◌∷◌, ◌++◌, map, length}
use Rattle.std.proofs.Common.{Some, None, Ok, refl, sym, ◌∙◌, subst, ap, arith, append_assoc, nat_lt, ◌==◌}
use Rattle.std.specs.List.{list_all, flat_map}
use Rattle.std.proofs.Math.Nat.{le_refl}
use Rattle.std.proofs.lemmas.Bool.{and_parts, eqb-true}
use Rattle.std.proofs.lemmas.List.{append-nil}
use Rattle.std.proofs.lemmas.List.Sums.{fold-append}
use Rattle.bus_session.specs.declared.session.Session.{Session}
use Rattle.bus_script.specs.Words.{◌>>=◌}
use Rattle.bus_script.specs.Laws.{IsForward}
use Rattle.bus_script.specs.Script.{Script, add, names_sessions, later, latest}
use Rattle.bus_script.specs.declared.line.Answer.{Answer}
use Rattle.bus_script.specs.declared.line.Answer.TheVariants as answers
use Rattle.bus_script.specs.declared.line.Line.{Line}
use Rattle.bus_script.specs.declared.line.Line.TheVariants as lines
use Rattle.bus_printed.proofs.Cuts.{all_both}
use Rattle.bus_bulk.specs.Bulk.{numbers}
use Rattle.bus_bulk.proofs.Spelled.{added, one_more}

-- one round, and so far these sessions and these answers
abbrev pub so_far : List Session → List Answer → Script
so_far sessions done = record { rounds = Some 1; start = None; sessions = sessions; answers = done }

pub sessions_added : (before sessions : List Session) (rest : List Line) →
    added (so_far before []) (map lines.Session sessions ++ rest) ≡ added (so_far (before ++ sessions) []) rest
unfolding add
sessions_added before [] rest = ap (λ v. added (so_far v []) rest) (sym (append-nil before))
sessions_added before (session ∷ sessions) rest =
    sessions_added (before ++ session ∷ []) sessions rest
    ∙ ap (λ v. added (so_far v []) rest) (append_assoc before (session ∷ []) sessions)

not_before : (a b : ℕ) → a ≤ b → nat_lt b a ≡ false
not_before a b h = grind arith

answer_added : (sessions : List Session) (done : List Answer) (a : Answer) →
    names_sessions (length sessions) a ≡ true → latest done ≤ later (latest done) a →
    add (so_far sessions done) (lines.Answer a) ≡ Ok (so_far sessions (done ++ a ∷ []))
unfolding add
answer_added sessions done a named forward =
    rw (named, not_before (latest done) (later (latest done) a) forward) refl

forward_step : (t : ℕ) (a : Answer) (more : List Answer) → IsForward t (a ∷ more) →
    (t ≤ later t a) × IsForward (later t a) more
forward_step t (answers.Now u) more h = h
forward_step t _ more h = (le_refl t, h)

pub answers_added : (sessions : List Session) (done more : List Answer) →
    list_all (names_sessions (length sessions)) more ≡ true → IsForward (latest done) more →
    added (so_far sessions done) (map lines.Answer more) ≡ Ok (so_far sessions (done ++ more))
answers_added sessions done [] named forward = ap (λ v. Ok (so_far sessions v)) (sym (append-nil done))
answers_added sessions done (a ∷ more) named forward =
    let count = length sessions in
    let names = and_parts (names_sessions count a) (list_all (names_sessions count) more) named in
    let onward = forward_step (latest done) a more forward in
    let gained : latest (done ++ a ∷ []) ≡ later (latest done) a = fold-append later 0 done (a ∷ []) in
    ap (λ r. r >>= λ v. added v (map lines.Answer more)) (answer_added sessions done a names.0 onward.0)
    ∙ (answers_added sessions (done ++ a ∷ []) more names.1 (subst (λ v. IsForward v more) (sym gained) onward.1)
    ∙ ap (λ v. Ok (so_far sessions v)) (append_assoc done (a ∷ []) more))

-- ---- what holds of each answer

pub all_numbers : {Y : Type 0} (p : Y → Bool) (g : ℕ → List Y) (n : ℕ) →
    ((i : ℕ) → i < n → list_all p (g i) ≡ true) → list_all p (flat_map g (numbers n)) ≡ true
all_numbers p g zero each = refl
all_numbers p g (suc n) each =
    ap (list_all p) (one_more g n)
    ∙ all_both p (flat_map g (numbers n)) (g n) (all_numbers p g n (λ i h. each i (omega arith))) (each n (omega arith))

-- the clock does not move
abbrev pub rests : Answer → Bool
rests (answers.Now t) = t == 0
rests _ = true

pub forward_on : (before after : List Answer) → list_all rests before ≡ true → IsForward 0 after →
    IsForward 0 (before ++ after)
forward_on [] after h k = k
forward_on (answers.Now t ∷ before) after h k =
    let parts = and_parts (t == 0) (list_all rests before) h in
    let none : t ≡ 0 = eqb-true t 0 parts.0 in
    (omega arith, subst (λ v. IsForward v (before ++ after)) (sym none) (forward_on before after parts.1 k))
forward_on (_ ∷ before) after h k = forward_on before after h k
