-- Events one after another.
use Rattle.std.proofs.Common.{◌≡◌, ℕ, ◌+◌, List, [], ◌∷◌, ◌++◌, length, Option, sym, ap, subst, ◌∙◌, arith, append_assoc, length-append}
use Rattle.std.specs.List.{flat_map}
use Rattle.std.proofs.lemmas.List.{append-nil}
use Rattle.std.proofs.lemmas.List.Concat.{flat_map-append}
use Rattle.bus_opening.specs.Talk.{Said}
use Rattle.react_core.specs.declared.outside.Event.{Event}
use Rattle.bus_opening.specs.declared.verdict.Step.{Step}
use Rattle.react_core.specs.Told.{told, told-told, told-nothing}
use Rattle.bus_opening.specs.Polling.{AreAsked, bytes_got, bytes_taken, Moves, AllMoved, Runs, Polls, Concludes, Asks}

asked_then : (talk : List (List ℕ) → Said) (wire : ℕ) (b : List ℕ) (w : ℕ) (es fs : List Event) → AreAsked talk wire b w es
    → AreAsked talk wire (b ++ flat_map bytes_got es) (w + length (flat_map bytes_taken es)) fs → AreAsked talk wire b w (es ++ fs)
asked_then talk wire b w [] fs p q =
    let e : w + 0 ≡ w = omega arith in
    rw (append-nil, e) at q
asked_then talk wire b w (e ∷ es) fs p q =
    let n : w + length (flat_map bytes_taken (e ∷ es)) ≡ (w + length (bytes_taken e)) + length (flat_map bytes_taken es) = omega (arith, length-append (bytes_taken e) (flat_map bytes_taken es)) in
    let g : b ++ flat_map bytes_got (e ∷ es) ≡ (b ++ bytes_got e) ++ flat_map bytes_got es = sym (append_assoc b (bytes_got e) (flat_map bytes_got es)) in
    (p.0, asked_then talk wire (b ++ bytes_got e) (w + length (bytes_taken e)) es fs p.1 (rw (n, g) at q))

module _ (O : Type 0) (stands : (List (List ℕ) → Said) → List ℕ → O → Type 0) (written : O → List ℕ) (wire : ℕ) where
  pub moves_then : (a b c : O) (r s t : Option (List Event)) (es fs : List Event)
      → Moves O stands written wire a b r s es → Moves O stands written wire b c s t fs
      → Moves O stands written wire a c r t (es ++ fs)
  moves_then a b c r s t es fs p q = record {
    gained = q.gained ∙ ap (λ (x : Option (List Event)). told x fs) p.gained ∙ told-told r es fs;
    asked = λ talk h st. asked_then talk wire h (length (written a)) es fs (p.asked talk h st)
        (subst (λ (n : ℕ). AreAsked talk wire (h ++ flat_map bytes_got es) n fs)
        (ap length p.taken ∙ length-append (written a) (flat_map bytes_taken es))
        (q.asked talk (h ++ flat_map bytes_got es) (p.stays talk h st)));
    stays = λ talk h st. subst (λ (x : List ℕ). stands talk x c) (append_assoc h (flat_map bytes_got es) (flat_map bytes_got fs) ∙ ap (λ (x : List ℕ). h ++ x) (sym (flat_map-append bytes_got es fs)))
        (q.stays talk (h ++ flat_map bytes_got es) (p.stays talk h st));
    taken = q.taken ∙ ap (λ (x : List ℕ). x ++ flat_map bytes_taken fs) p.taken ∙ append_assoc (written a) (flat_map bytes_taken es) (flat_map bytes_taken fs)
        ∙ ap (λ (x : List ℕ). written a ++ x) (sym (flat_map-append bytes_taken es fs));
  }

  pub moves_nothing : (a : O) (r : Option (List Event)) → Moves O stands written wire a a r r []
  moves_nothing a r = record {
    gained = told-nothing r;
    asked = λ talk h st. tt;
    stays = λ talk h st. subst (λ (x : List ℕ). stands talk x a) (sym (append-nil h)) st;
    taken = sym (append-nil (written a));
  }

  all_then : (es fs : List Event) → AllMoved es → AllMoved fs → AllMoved (es ++ fs)
  all_then [] fs p q = q
  all_then (e ∷ es) fs p q = (p.0, all_then es fs p.1 q)

  pub runs_nothing : (a : O) (r : Option (List Event)) → Runs O stands written wire a a r r
  runs_nothing a r = record { events = []; moved = tt; moves = moves_nothing a r }

  pub runs_more : (a b c : O) (r s t : Option (List Event)) (fs : List Event) → Runs O stands written wire a b r s
      → AllMoved fs → Moves O stands written wire b c s t fs → Runs O stands written wire a c r t
  runs_more a b c r s t fs p all q = record { events = p.events ++ fs; moved = all_then p.events fs p.moved all; moves = moves_then a b c r s t p.events fs p.moves q }

  pub runs_then : (a b c : O) (r s t : Option (List Event)) → Runs O stands written wire a b r s → Runs O stands written wire b c s t → Runs O stands written wire a c r t
  runs_then a b c r s t p q = runs_more a b c r s t q.events p q.moved q.moves

  -- a run, and then the last event
  pub polls_by : (a b c : O) (r s t : Option (List Event)) (fs : List Event) (answer : Step) → Runs O stands written wire a b r s → Moves O stands written wire b c s t fs
      → Concludes (Asks O stands written c) wire answer fs → Polls O stands written wire a c r t answer
  polls_by a b c r s t fs answer p q end = record { events = p.events; final = fs; moved = p.moved; moves = moves_then a b c r s t p.events fs p.moves q; concludes = end }

  pub polls_then : (a b c : O) (r s t : Option (List Event)) (answer : Step) → Runs O stands written wire a b r s
      → Polls O stands written wire b c s t answer → Polls O stands written wire a c r t answer
  polls_then a b c r s t answer p q = record {
    events = p.events ++ q.events;
    final = q.final;
    moved = all_then p.events q.events p.moved q.moved;
    moves = subst (λ (es : List Event). Moves O stands written wire a c r t es) (sym (append_assoc p.events q.events q.final)) (moves_then a b c r s t p.events (q.events ++ q.final) p.moves q.moves);
    concludes = q.concludes;
  }
