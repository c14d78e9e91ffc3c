-- The end of a future leaves the sources where they are.
use Rattle.std.proofs.Common.{◌≡◌, ℕ, Option, Some, None, IsSome, is_some, refl, ap, ◌∙◌, arith}
use Rattle.std.proofs.lemmas.Bool.Decides.{nat_tests}
use Rattle.std.specs.Prelude.{◌==◌, if◌then◌else◌}
use Rattle.react_core.specs.declared.reactor.Dir.{Dir}
use Rattle.react_core.specs.Core.{Core, HasSource}
use Rattle.react_core.specs.Futures.{after_source_cancel, without_future}
use Rattle.react_core.specs.Places.{Source}
use Rattle.react_core.specs.Sources.{source_of, side, with_side}
use Rattle.react_core.proofs.Keyed.{at_key-with_at}
use Rattle.react_async.specs.Waits.{given_up_at}

same-key : (k : ℕ) (x y : Option Source) → (if k == k then x else y) ≡ x
same-key k x y = grind (arith, nat_tests)

source-after_cancel : (core : Core) (key : ℕ) (dir : Dir) (place : ℕ) (found : Option Source) →
    source_of core.sources key ≡ found → IsSome found →
    IsSome (source_of (after_source_cancel core key found dir place).sources key)
source-after_cancel core key dir place None is known = absurd (cc)
source-after_cancel core key dir place (Some s) is known =
    let new = with_side dir s (without_future (side dir s) place) in
    let there = at_key-with_at core.sources key key new (ap is_some is) ∙ same-key key (Some new) (source_of core.sources key) in
    let P : Option Source → Type 0 = λ o. IsSome o in
    rw there known

-- a source that was there stays there
pub has_source-given_up : (core : Core) (key : ℕ) (dir : Dir) (place : Option ℕ) → HasSource core key →
    HasSource (given_up_at core dir key place) key
has_source-given_up core key dir None known = known
has_source-given_up core key dir (Some place) known =
    source-after_cancel core key dir place (source_of core.sources key) refl known
