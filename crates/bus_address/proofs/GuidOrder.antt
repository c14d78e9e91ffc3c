-- GUIDs are ordered as their digits.
use Rattle.std.proofs.Common.{◌≡◌, ℕ, List, [], ◌∷◌, Option, Some, refl}
use Rattle.std.specs.declared.cmp.Ordering.{Ordering}
use Rattle.std.specs.declared.cmp.Ordering.TheVariants.{Less, Equal, Greater}
use Rattle.std.specs.Ordering.{nat_cmp, ordering_then, partial_ordering_then}
use Rattle.std.specs.Cmp.Lexicographic.{slice_cmp}
use Rattle.bus_address.specs.contracts.guid.GuidPartialOrd.TheImpl as GuidOrder

then_some : (o : Ordering) (p : Option Ordering) (q : Ordering) → p ≡ Some q → partial_ordering_then (Some o) p ≡ Some (ordering_then o q)
then_some Less p q e = refl
then_some Equal p q e = e
then_some Greater p q e = refl

pub guid_order : (a b : List ℕ) → (GuidOrder.ghosts).partial_cmp a b ≡ Some (slice_cmp nat_cmp a b)
guid_order [] [] = refl
guid_order [] (y ∷ ys) = refl
guid_order (x ∷ xs) [] = refl
guid_order (x ∷ xs) (y ∷ ys) = then_some (nat_cmp x y) _ (slice_cmp nat_cmp xs ys) (guid_order xs ys)
