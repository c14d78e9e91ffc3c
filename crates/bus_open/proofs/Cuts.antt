-- Bytes that went before and bytes that are left.
use Rattle.std.proofs.Common.{◌≡◌, ℕ, ◌+◌, List, ◌++◌, length, take, drop, Option, Some, None, refl, sym, ◌∙◌, subst, ap, append_assoc}
use Rattle.std.specs.Io.KnownBytes.{Appends, Consumes, Keeps}
use Rattle.std.proofs.lemmas.List.{take-append-drop, drop-drop}
use Rattle.std.proofs.Math.Seq.{take-append_seam}
use Rattle.bus_open.specs.Streams.{Tells}

-- Two pieces that were written are one.
pub appends_on : (old mid new : Option (List ℕ)) (a b : List ℕ) → Tells old mid → Appends old mid a → Appends mid new b → Appends old new (a ++ b)
appends_on None mid new a b t h k = tt
appends_on (Some xs) None new a b t h k = absurd h
appends_on (Some xs) (Some ys) None a b t h k = absurd k
appends_on (Some xs) (Some ys) (Some zs) a b t h k = k ∙ ap (λ v. v ++ b) h ∙ append_assoc xs a b

-- Two pieces that were read are one.
pub consumes_on : (old mid new : Option (List ℕ)) (a b : List ℕ) → Tells old mid → Consumes old mid a → Consumes mid new b → Consumes old new (a ++ b)
consumes_on None mid new a b t h k = tt
consumes_on (Some xs) None new a b t h k = absurd h
consumes_on (Some xs) (Some ys) None a b t h k = absurd k
consumes_on (Some xs) (Some ys) (Some zs) a b t h k = h ∙ ap (λ v. a ++ v) k ∙ sym (append_assoc a b zs)

-- A read that fails leaves what was read before it.
pub consumes_kept : (old mid new : Option (List ℕ)) (a : List ℕ) → Consumes old mid a → Keeps mid new → Consumes old new a
consumes_kept None mid new a h k = tt
consumes_kept (Some xs) None new a h k = absurd h
consumes_kept (Some xs) (Some ys) None a h k = absurd k
consumes_kept (Some xs) (Some ys) (Some zs) a h k = h ∙ ap (λ v. a ++ v) (sym k)

-- What was written grows by what the sink took of the rest.
pub wrote : (bytes front rest : List ℕ) (n : ℕ) → bytes ≡ front ++ rest → bytes ≡ (front ++ take n rest) ++ drop n rest
wrote bytes front rest n e = e ∙ ap (λ v. front ++ v) (sym (take-append-drop n rest)) ∙ sym (append_assoc front (take n rest) (drop n rest))

-- What was put at the front of a slice stands there.
pub copied : (front into : List ℕ) (n : ℕ) → length front ≡ n → take n (front ++ drop n into) ≡ front
copied front into n len = subst (λ (k : ℕ). take k (front ++ drop n into) ≡ front) len (take-append_seam front (drop n into))

-- What a source gives is what it loses.
pub given : (bytes new : List ℕ) (at n : ℕ) → take n new ≡ take n (drop at bytes) → drop at bytes ≡ take n new ++ drop (at + n) bytes
given bytes new at n e = rw e (sym (take-append-drop n (drop at bytes)) ∙ ap (λ v. take n (drop at bytes) ++ v) (drop-drop n at bytes))

-- What isn't touched is kept.
pub keeps_same : (o : Option (List ℕ)) → Keeps o o
keeps_same None = tt
keeps_same (Some xs) = refl
