-- What the loops over words keep.
use Rattle.std.proofs.Common.{◌≡◌, ℕ, suc, ◌+◌, ◌<◌, ◌≤◌, List, [], ◌∷◌, ◌++◌, map, length, take, drop, get_or, Result, Ok, Err, refl, sym, ◌∙◌, ap, arith, append_assoc, add-one, drop-cons, Bor}
use Rattle.std.specs.List.{join_with_byte}
use Rattle.std.proofs.lemmas.List.{take_more, map-append, drop_all, append-nil}
use Rattle.bus_script.specs.Words.{◌>>=◌}
use Rattle.react_core.specs.declared.outside.Peer.{Peer}
use Rattle.bus_script.specs.Forms.{readies, ready, peer, peer_words}
use Rattle.bus_script.specs.Reading.{Fails}
use Rattle.bus_script.specs.declared.line.LineError.{LineError}
use Rattle.bus_script.specs.declared.line.LineError.TheVariants as errors
use Rattle.bus_script.specs.declared.line.Reason.{Reason}
use Rattle.bus_script.specs.declared.line.Ready.{Ready}

-- One more piece, joined.
pub join_more : (c : ℕ) (ys : List (List ℕ)) (x : List ℕ) → 0 < length ys →
    join_with_byte c (ys ++ x ∷ []) ≡ join_with_byte c ys ++ c ∷ x
join_more c [] x l = absurd (omega arith)
join_more c (y ∷ []) x l = refl
join_more c (y ∷ z ∷ ys) x l = ap (λ v. y ++ c ∷ v) (join_more c (z ∷ ys) x (omega arith))
    ∙ sym (append_assoc y (c ∷ join_with_byte c (z ∷ ys)) (c ∷ x))

pub joined_on : (first : List ℕ) (ws : List (Bor (List ℕ))) (i : ℕ) (d : Bor (List ℕ)) (text new : List ℕ) →
    i < length ws → text ≡ join_with_byte 32 (first ∷ map (λ x. x.now) (take i ws)) →
    new ≡ text ++ 32 ∷ (get_or ws i d).now → new ≡ join_with_byte 32 (first ∷ map (λ x. x.now) (take (i + 1) ws))
joined_on first ws i d text new below was extend =
    let more = join_more 32 (first ∷ map (λ x. x.now) (take i ws)) (get_or ws i d).now (omega arith) in
    let back : map (λ (x : Bor (List ℕ)). x.now) (take i ws ++ get_or ws i d ∷ []) ≡ map (λ x. x.now) (take i ws)
    ++ (get_or ws i d).now ∷ [] = map-append (λ (x : Bor (List ℕ)). x.now) (take i ws) (get_or ws i d ∷ []) in
    rw (extend, was, take_more ws i d below, back) (sym more)

-- What is read so far, before what is still to be read.
abbrev pub with_front : {X : Type 0} → List X → Result (List X) Reason → Result (List X) Reason
with_front front read = read >>= λ xs. Ok (front ++ xs)

fronted : {X : Type 0} (front : List X) (r : X) (read : Result (List X) Reason) →
    with_front (front ++ r ∷ []) read ≡ with_front front (read >>= λ others. Ok (r ∷ others))
fronted front r (Ok xs) = ap (λ v. Ok v) (append_assoc front (r ∷ []) xs)
fronted front r (Err e) = refl

-- Words that are read one after another, each by one reader, as a list.
module _ {X : Type 0} (one : List ℕ → Result X Reason) (all : List (List ℕ) → Result (List X) Reason)
    (none : all [] ≡ Ok []) (more : (w : List ℕ) (ws : List (List ℕ)) →
    all (w ∷ ws) ≡ (one w >>= λ first. (all ws >>= λ others. Ok (first ∷ others)))) where
  step_of : (ws : List (Bor (List ℕ))) (i : ℕ) (d : Bor (List ℕ)) → i < length ws →
      all (map (λ x. x.now) (drop i ws)) ≡ (one (get_or ws i d).now >>= λ first.
      (all (map (λ x. x.now) (drop (i + 1) ws)) >>= λ others. Ok (first ∷ others)))
  step_of ws i d below = rw (add-one, drop-cons ws i d below)
      (more (get_or ws i d).now (map (λ x. x.now) (drop (suc i) ws)))

  all_on : (ws : List (Bor (List ℕ))) (i : ℕ) (d : Bor (List ℕ)) (front new : List X) (r : X) → i < length ws →
      one (get_or ws i d).now ≡ Ok r → new ≡ front ++ r ∷ [] →
      with_front front (all (map (λ x. x.now) (drop i ws))) ≡ all (map (λ x. x.now) ws) →
      with_front new (all (map (λ x. x.now) (drop (i + 1) ws))) ≡ all (map (λ x. x.now) ws)
  all_on ws i d front new r below is push inv = rw push (fronted front r (all (map (λ x. x.now) (drop (i + 1) ws)))
      ∙ sym (ap (λ v. with_front front v) (step_of ws i d below ∙ rw is refl)) ∙ inv)

  all_stops : (ws : List (Bor (List ℕ))) (i : ℕ) (d : Bor (List ℕ)) (front : List X) (e : Reason) → i < length ws →
      one (get_or ws i d).now ≡ Err e → with_front front (all (map (λ x. x.now) (drop i ws)))
      ≡ all (map (λ x. x.now) ws) → all (map (λ x. x.now) ws) ≡ Err e
  all_stops ws i d front e below is inv =
      let read : with_front front (all (map (λ x. x.now) (drop i ws))) ≡ Err e = rw (step_of ws i d below, is) refl in
      sym inv ∙ read

  all_done : (ws : List (Bor (List ℕ))) (i : ℕ) (front : List X) → length ws ≤ i →
      with_front front (all (map (λ x. x.now) (drop i ws))) ≡ all (map (λ x. x.now) ws) →
      all (map (λ x. x.now) ws) ≡ Ok front
  all_done ws i front past inv = let gone : drop i ws ≡ [] =
      drop_all i ws past in sym inv ∙ rw (gone, none) (ap (λ v. Ok v) (append-nil front))

no_readies : readies [] ≡ Ok []
unfolding readies
no_readies = refl

more_readies : (w : List ℕ) (ws : List (List ℕ)) → readies (w ∷ ws)
    ≡ (ready w >>= λ first. (readies ws >>= λ others. Ok (first ∷ others)))
unfolding readies
more_readies w ws = refl

no_peers : peer_words [] ≡ Ok []
unfolding peer_words
no_peers = refl

more_peers : (w : List ℕ) (ws : List (List ℕ)) → peer_words (w ∷ ws)
    ≡ (peer w >>= λ first. (peer_words ws >>= λ others. Ok (first ∷ others)))
unfolding peer_words
more_peers w ws = refl

pub readies_on : (ws : List (Bor (List ℕ))) (i : ℕ) (d : Bor (List ℕ)) (front new : List Ready) (r : Ready) →
    i < length ws → ready (get_or ws i d).now ≡ Ok r → new ≡ front ++ r ∷ [] →
    with_front front (readies (map (λ x. x.now) (drop i ws))) ≡ readies (map (λ x. x.now) ws) →
    with_front new (readies (map (λ x. x.now) (drop (i + 1) ws))) ≡ readies (map (λ x. x.now) ws)
readies_on = all_on ready readies no_readies more_readies

pub readies_stop : (ws : List (Bor (List ℕ))) (i : ℕ) (d : Bor (List ℕ)) (front : List Ready) (e : Reason) →
    i < length ws → ready (get_or ws i d).now ≡ Err e → with_front front (readies (map (λ x. x.now) (drop i ws)))
    ≡ readies (map (λ x. x.now) ws) → readies (map (λ x. x.now) ws) ≡ Err e
readies_stop = all_stops ready readies no_readies more_readies

pub readies_done : (ws : List (Bor (List ℕ))) (i : ℕ) (front : List Ready) → length ws ≤ i →
    with_front front (readies (map (λ x. x.now) (drop i ws))) ≡ readies (map (λ x. x.now) ws) →
    readies (map (λ x. x.now) ws) ≡ Ok front
readies_done = all_done ready readies no_readies more_readies

pub peers_on : (ws : List (Bor (List ℕ))) (i : ℕ) (d : Bor (List ℕ)) (front new : List Peer) (p : Peer) →
    i < length ws → peer (get_or ws i d).now ≡ Ok p → new ≡ front ++ p ∷ [] →
    with_front front (peer_words (map (λ x. x.now) (drop i ws))) ≡ peer_words (map (λ x. x.now) ws) →
    with_front new (peer_words (map (λ x. x.now) (drop (i + 1) ws))) ≡ peer_words (map (λ x. x.now) ws)
peers_on = all_on peer peer_words no_peers more_peers

pub peers_stop : (ws : List (Bor (List ℕ))) (i : ℕ) (d : Bor (List ℕ)) (front : List Peer) (e : LineError) →
    i < length ws → Fails e (peer (get_or ws i d).now) → with_front front (peer_words (map (λ x. x.now) (drop i ws)))
    ≡ peer_words (map (λ x. x.now) ws) → Fails e (peer_words (map (λ x. x.now) ws))
peers_stop ws i d front errors.OutOfMemory below is inv = tt
peers_stop ws i d front (errors.Refused e) below is inv =
    all_stops peer peer_words no_peers more_peers ws i d front e below is inv

pub peers_done : (ws : List (Bor (List ℕ))) (i : ℕ) (front : List Peer) → length ws ≤ i →
    with_front front (peer_words (map (λ x. x.now) (drop i ws))) ≡ peer_words (map (λ x. x.now) ws) →
    peer_words (map (λ x. x.now) ws) ≡ Ok front
peers_done = all_done peer peer_words no_peers more_peers
