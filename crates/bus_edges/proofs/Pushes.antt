-- A count that is added at the end as 0 changes no count.
use Rattle.std.specs.Prelude.{◌≡◌, ℕ, List, [], ◌∷◌, ◌++◌, zero, suc}
use Rattle.std.proofs.Common.{refl}
use Rattle.bus_edges.specs.Seen.{count_at}
use mathlib.Core.Path.{fun_ext}

pub push_changes_none : (xs : List ℕ) (w : ℕ) → count_at (xs ++ 0 ∷ []) w ≡ count_at xs w
push_changes_none [] zero = refl
push_changes_none [] (suc w) = refl
push_changes_none (x ∷ xs) zero = refl
push_changes_none (x ∷ xs) (suc w) = push_changes_none xs w

-- counts that are the same at each place are the same
pub same_counts : (xs ys : List ℕ) → ((w : ℕ) → count_at xs w ≡ count_at ys w) → count_at xs ≡ count_at ys
same_counts xs ys same = fun_ext same
