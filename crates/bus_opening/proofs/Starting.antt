-- Either side at its start.
use Rattle.std.proofs.Common.{◌≡◌, ℕ, List, [], ◌∷◌, ◌++◌, length, refl, sym, ap, ◌∙◌, arith}
use Rattle.std.proofs.lemmas.Bool.{lt-ltb}
use Rattle.bus_opening.specs.Talk.{Turn, goes, ends, onto, then_turn, turn_from, said_of, Side, talk}
use Rattle.bus_opening.specs.Client.{Terms, Settings, settings_of, Phase, first, step, opening, auth_line, end, piece, client}
use Rattle.bus_opening.specs.Server.{ServerTerms, ServerPhase, start, server, server_step}
use Rattle.bus_opening.specs.declared.exchange.ClientStage.TheVariants as client_stage
use Rattle.bus_opening.specs.declared.exchange.ServerStage.TheVariants as server_stage
use Rattle.bus_opening.specs.declared.exchange.Stage.{Stage}
use Rattle.bus_opening.specs.declared.exchange.Stage.TheVariants as stage
use Rattle.bus_opening.specs.declared.part.ClientPart.{ClientPart}
use Rattle.bus_opening.specs.declared.part.ServerPart.{ServerPart}
use Rattle.bus_opening.specs.declared.part.Part.TheVariants as part
use Rattle.bus_opening.specs.Parts.{Place, at_client, at_server, placed, settings_in, terms_in, step_at, turn_of}
use Rattle.bus_opening.specs.Standing.{rests}
use Rattle.bus_opening.specs.Openings.{Opening, StandsIn}
use Rattle.bus_opening.proofs.LeftLemmas.{stands_first}
use Rattle.bus_opening.proofs.Looking.{same_standing}

-- one side's conversation, told as one of either side
module _ (P Q : Type 0) (f : P → Q) (st : P → List ℕ → Turn P) (su : Q → List ℕ → Turn Q) (same : (p : P) (line : List ℕ) → su (f p) line ≡ placed f (st p line)) where
  placed_onto : (pieces : List (List ℕ)) (t : Turn P) → onto pieces (placed f t) ≡ placed f (onto pieces t)
  placed_onto pieces (goes more p) = refl
  placed_onto pieces (ends more status) = refl

  then_placed : (t : Turn P) (g : P → Turn P) (h : Q → Turn Q) → ((p : P) → h (f p) ≡ placed f (g p)) → then_turn (placed f t) h ≡ placed f (then_turn t g)
  then_placed (goes pieces p) g h e = ap (onto pieces) (e p) ∙ placed_onto pieces (g p)
  then_placed (ends pieces status) g h e = refl

  turns_placed : (ls : List (List ℕ)) (p : P) → turn_from su (f p) ls ≡ placed f (turn_from st p ls)
  turns_placed [] p = refl
  turns_placed (line ∷ ls) p =
      ap (λ (t : Turn Q). then_turn t (λ next. turn_from su next ls)) (same p line) ∙ then_placed (st p line) (λ next. turn_from st next ls) (λ next. turn_from su next ls) (λ q. turns_placed ls q)

  said_placed : (pieces : List (List ℕ)) (t : Turn P) → said_of (onto pieces (placed f t)) ≡ said_of (onto pieces t)
  said_placed pieces (goes more p) = refl
  said_placed pieces (ends more status) = refl

  talks_placed : (pieces : List (List ℕ)) (p : P) (ls : List (List ℕ)) → talk (record { opening = pieces; start = p; step = st }) ls ≡ talk (record { opening = pieces; start = f p; step = su }) ls
  unfolding talk
  talks_placed pieces p ls = sym (ap (λ (t : Turn Q). said_of (onto pieces t)) (turns_placed ls p) ∙ said_placed pieces (turn_from st p ls))

  pub talk_placed : (pieces : List (List ℕ)) (p : P) → talk (record { opening = pieces; start = p; step = st }) ≡ talk (record { opening = pieces; start = f p; step = su })
  talk_placed pieces p = λ i ls. talks_placed pieces p ls i

-- the first pieces of a side whose own piece comes behind one that may be empty
first_by : (nonce : List ℕ) (c : ℕ) (line : List ℕ) → rests 0 ((piece nonce ++ (c ∷ line) ∷ []) ++ []) ≡ piece nonce ++ (c ∷ line) ∷ []
first_by [] c line = rw (lt-ltb 0 (length (c ∷ line)) (omega arith)) refl
first_by (d ∷ nonce) c line = rw (lt-ltb 0 (length (d ∷ nonce)) (omega arith)) refl

pub client_starts : (t : Terms) (p : ClientPart) (o : Opening) → settings_in p ≡ settings_of t → o.part ≡ part.Client p
    → o.stage ≡ stage.Client client_stage.First → o.waiting ≡ opening t → o.count ≡ 0 → o.rest ≡ [] → o.written ≡ []
    → StandsIn (client t) [] o
unfolding client
client_starts t p o s e f g h k l =
    let side : Side Place = record { opening = opening t; start = at_client first; step = step_at (part.Client p) } in
    record {
      side = side;
      talks_so =
          talk_placed Phase Place at_client (step (settings_of t)) (step_at (part.Client p))
          (λ phase line. ap (λ (settings : Settings). placed at_client (step settings phase line)) s) (opening t)
          first;
      steps_so = ap step_at (sym e);
      stands =
          same_standing side [] _ _ _ _ _ _ _ _
          (ap (λ (ps : List (List ℕ)). goes ps (at_client first))
          (first_by t.nonce 0 (auth_line t.mechanism t.user ++ end) ∙ sym g)
          ∙ ap (λ (s : Stage). turn_of s o.waiting) (sym f))
          (sym h) (sym k) (sym l) (stands_first side);
    }

pub server_starts : (t : ServerTerms) (p : ServerPart) (o : Opening) → terms_in p ≡ t → o.part ≡ part.Server p
    → o.stage ≡ stage.Server server_stage.Start → o.waiting ≡ [] → o.count ≡ 0 → o.rest ≡ [] → o.written ≡ []
    → StandsIn (server t) [] o
unfolding server
server_starts t p o s e f g h k l =
    let side : Side Place = record { opening = []; start = at_server start; step = step_at (part.Server p) } in
    record {
      side = side;
      talks_so =
          talk_placed ServerPhase Place at_server (server_step t) (step_at (part.Server p))
          (λ phase line. ap (λ (terms : ServerTerms). placed at_server (server_step terms phase line)) s) [] start;
      steps_so = ap step_at (sym e);
      stands =
          same_standing side [] _ _ _ _ _ _ _ _
          (ap (λ (ps : List (List ℕ)). goes ps (at_server start)) (sym g)
          ∙ ap (λ (s : Stage). turn_of s o.waiting) (sym f))
          (sym h) (sym k) (sym l) (stands_first side);
    }
