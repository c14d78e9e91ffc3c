-- The sources of a reactor between two calls, one by one.
use Rattle.std.proofs.Common.{◌≡◌, ℕ, Bool, true, false, ◌==◌, List, [], ◌∷◌, Some, refl, subst}
use Rattle.react_core.specs.Places.{Source}
use Rattle.react_core.specs.Sources.{source_of, with_source}
use Rattle.bus_visit.specs.Shown.{SaneSource, AllSane}

go_sane : (round last : ℕ) (x : ℕ × Source) (sources : List (ℕ × Source)) (key : ℕ) (s : Source) (b : Bool) →
    (x.0 == key) ≡ b → SaneSource round last x.1 → source_of (x ∷ sources) key ≡ Some s →
    (source_of sources key ≡ Some s → SaneSource round last s) → SaneSource round last s
go_sane round last x sources key s true e sane is ih = let here : Some x.1 ≡ Some s =
    rw e at is in let f : x.1 ≡ s = cc in let P : Source → Type 0 = λ y. SaneSource round last y in subst P f sane
go_sane round last x sources key s false e sane is ih = ih (rw e at is)

pub sane-at : (round last : ℕ) (sources : List (ℕ × Source)) (key : ℕ) (s : Source) → AllSane round last sources →
    source_of sources key ≡ Some s → SaneSource round last s
sane-at round last [] key s sane is = cc
sane-at round last (x ∷ sources) key s sane is =
    go_sane round last x sources key s (x.0 == key) refl sane.0 is (sane-at round last sources key s sane.1)

go_with : (round last : ℕ) (x : ℕ × Source) (sources : List (ℕ × Source)) (key : ℕ) (new : Source) (b : Bool) →
    (x.0 == key) ≡ b → SaneSource round last x.1 → AllSane round last sources → SaneSource round last new →
    AllSane round last (with_source sources key new) → AllSane round last (with_source (x ∷ sources) key new)
go_with round last x sources key new true e here rest sane ih = rw e (sane, rest)
go_with round last x sources key new false e here rest sane ih = rw e (here, ih)

pub sane-with : (round last : ℕ) (sources : List (ℕ × Source)) (key : ℕ) (new : Source) →
    AllSane round last sources → SaneSource round last new → AllSane round last (with_source sources key new)
sane-with round last [] key new sane is = tt
sane-with round last (x ∷ sources) key new sane is =
    go_with round last x sources key new (x.0 == key) refl sane.0 sane.1 is
    (sane-with round last sources key new sane.1 is)
