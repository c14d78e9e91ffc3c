-- A direction of a source in the table is looked up, and written back.
use Rattle.std.proofs.Common.{◌≡◌, ◌+◌, ℕ, List, Option, Some, is_some, length, refl, sym, ap, ◌∙◌, arith}
use Rattle.std.proofs.lemmas.Bool.Decides.{nat_tests}
use Rattle.std.specs.Prelude.{◌==◌, if◌then◌else◌}
use Rattle.slab.specs.Slab.{Slab, entries, get, with_value}
use Rattle.react_core.specs.declared.reactor.Dir.{Dir}
use Rattle.react_core.specs.declared.reactor.Dir.TheVariants.{Read, Write}
use Rattle.react_core.specs.Core.{Core, ReactorState}
use Rattle.react_core.specs.Futures.{direction_of}
use Rattle.react_core.specs.Places.{Direction, Source}
use Rattle.react_core.specs.Sources.{source_of, with_source, side, with_side, all_places, IsDated, IsDatedSource, AllDated}
use Rattle.react_core.proofs.Dated.{dated-side, dated-with_side}
use Rattle.react_core.proofs.Keyed.{length-with_at, at_key-with_at}
use Rattle.react_core.proofs.Looking.{found-in, written-in}
use Rattle.react_core.proofs.Places.{places-side}
use Rattle.react_core.proofs.Totals.{with_at-same, Each-at_key, Each-with_at}

with_side-same : (dir : Dir) (s : Source) → with_side dir s (side dir s) ≡ s
with_side-same Read s = refl
with_side-same Write s = refl

-- the sources of a table, after this direction of the source under a key was written
abbrev pub turned : Slab Source → ℕ → Source → Dir → Direction → List (ℕ × Source)
turned table key s dir d = entries (with_value table key (with_side dir s d))

abbrev whole : Core → ℕ → ReactorState
whole core events = record { core = core; events = events }

-- a reactor whose core is this, by its parts
pub state-is : (old : ReactorState) (core next : Core) (events : ℕ) (new : ReactorState) → new ≡ whole core events → core ≡ next → events ≡ old.events → new ≡ record old { core = next }
state-is old core next events new is are stay = is ∙ ap (λ k. whole k events) are ∙ ap (whole next) stay

module _ (table : Slab Source) (key : ℕ) (s : Source) (dir : Dir) (at : Some s ≡ get table key) where
  pub found-at : source_of (entries table) key ≡ Some s
  found-at = found-in table key (Some s) at

  pub turned-is : (d : Direction) → turned table key s dir d ≡ with_source (entries table) key (with_side dir s d)
  turned-is d = written-in table key s (with_side dir s d) (sym at)

  pub turned-same : (d : Direction) → d ≡ side dir s → turned table key s dir d ≡ entries table
  turned-same d is =
      turned-is d ∙ ap (λ x. with_source (entries table) key (with_side dir s x)) is ∙ ap (with_source (entries table) key) (with_side-same dir s)
      ∙ with_at-same (entries table) key s found-at

  pub length-turned : (d : Direction) → length (turned table key s dir d) ≡ length (entries table)
  length-turned d = ap length (turned-is d) ∙ length-with_at (entries table) key (with_side dir s d)

  pub places-turned : (d : Direction) → all_places (turned table key s dir d) + length (side dir s).futures ≡ all_places (entries table) + length d.futures
  places-turned d = omega (arith, ap all_places (turned-is d), places-side (entries table) key s dir d found-at)

  pub dated-at : (ticker : ℕ) → AllDated ticker (entries table) → IsDated ticker (side dir s)
  dated-at ticker dated = dated-side ticker dir s (Each-at_key (IsDatedSource ticker) (entries table) key s dated found-at)

  pub dated-turned : (ticker : ℕ) (d : Direction) → AllDated ticker (entries table) → IsDated ticker d → AllDated ticker (turned table key s dir d)
  dated-turned ticker d dated one =
      let here = Each-at_key (IsDatedSource ticker) (entries table) key s dated found-at in
      rw (turned-is d) (Each-with_at (IsDatedSource ticker) (entries table) key (with_side dir s d) dated (dated-with_side ticker dir s d here one))

  -- a direction that a function of it was written to
  pub turned-to : (f : Direction → Direction) (d next : Direction) → d ≡ side dir s → next ≡ f d → turned table key s dir next ≡ with_source (entries table) key (with_side dir s (f (side dir s)))
  turned-to f d next is to = turned-is next ∙ ap (λ x. with_source (entries table) key (with_side dir s x)) (to ∙ ap f is)

  -- what stands there then
  pub direction-turned : (d : Direction) → direction_of (source_of (turned table key s dir d) key) dir ≡ d
  direction-turned d =
      let there = at_key-with_at (entries table) key key (with_side dir s d) (ap is_some found-at) in
      let here : source_of (turned table key s dir d) key ≡ Some (with_side dir s d) = ap (λ ss. source_of ss key) (turned-is d) ∙ there ∙ same-key key (Some (with_side dir s d)) _ in
      ap (λ o. direction_of o dir) here ∙ side-with dir
    where
      same-key : (k : ℕ) (x y : Option Source) → (if k == k then x else y) ≡ x
      same-key k x y = grind (arith, nat_tests)

      side-with : (e : Dir) → side e (with_side e s d) ≡ d
      side-with Read = refl
      side-with Write = refl
