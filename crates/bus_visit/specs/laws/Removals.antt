-- What the removal of a source leaves of a core.
use Rattle.std.proofs.Common.{◌≡◌, ℕ, Bool, true, false, ◌==◌, List, [], ◌∷◌, refl, sym, subst}
use Rattle.react_core.specs.Core.{Core, removed}
use Rattle.react_core.specs.Sources.{without}
use Rattle.react_core.specs.Places.{Source}
use Rattle.bus_visit.specs.Shown.{IsBetweenCalls, tags, AllSane, Single}
use Rattle.bus_visit.specs.laws.Tags.{tags-without, distinct-single, single-distinct, single-without}

sane_without_go : (r l : ℕ) (x : ℕ × Source) (sources : List (ℕ × Source)) (key : ℕ) (b : Bool) → (x.0 == key) ≡ b →
    AllSane r l (x ∷ sources) → AllSane r l (without sources key) → AllSane r l (without (x ∷ sources) key)
sane_without_go r l x sources key true e sane ih = rw e sane.1
sane_without_go r l x sources key false e sane ih = rw e (sane.0, ih)

sane-without : (r l : ℕ) (sources : List (ℕ × Source)) (key : ℕ) → AllSane r l sources →
    AllSane r l (without sources key)
sane-without r l [] key sane = tt {0}
sane-without r l (x ∷ sources) key sane =
    sane_without_go r l x sources key (x.0 == key) refl sane (sane-without r l sources key sane.1)

pub rests-removed : (core : Core) (key : ℕ) → IsBetweenCalls core → IsBetweenCalls (removed core key)
rests-removed core key rests = record {
  sane = sane-without core.ticker core.ticker core.sources key rests.sane;
  distinct = single-distinct (without core.sources key)
      (subst Single (sym (tags-without core.sources key))
      (single-without (tags core.sources) key (distinct-single core.sources rests.distinct)));
  idle = rests.idle;
  fits = rests.fits;
}
