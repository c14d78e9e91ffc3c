-- Futures' tasks, as they are cleared one place after another.
use Rattle.std.proofs.Common.{◌≡◌, ℕ, zero, suc, ◌<◌, ◌≤◌, List, [], ◌∷◌, None, length, get_or, set, refl, ap, arith}
use Rattle.react_core.specs.Places.{Entry}
use Rattle.react_core.specs.Reports.{without_tasks}

abbrev pub Row : Type 0
Row = ℕ × Entry

abbrev pub clear : Row → Row
clear f = (f.0, record f.1 { task = None })

-- the first so many are cleared
abbrev pub cleared : ℕ → List Row → List Row
cleared n [] = []
cleared zero (f ∷ fs) = f ∷ fs
cleared (suc n) (f ∷ fs) = clear f ∷ cleared n fs

pub cleared-none : (fs : List Row) → cleared 0 fs ≡ fs
cleared-none [] = refl
cleared-none (f ∷ fs) = refl

pub cleared-more : (n : ℕ) (fs : List Row) (d : Row) → n < length fs → set (cleared n fs) n (clear (get_or (cleared n fs) n d)) ≡ cleared (suc n) fs
cleared-more n [] d lt = absurd (omega arith)
cleared-more zero (f ∷ fs) d lt = ap (λ (l : List Row). clear f ∷ l) (let e = cleared-none fs in cc)
cleared-more (suc n) (f ∷ fs) d lt = ap (λ (l : List Row). clear f ∷ l) (cleared-more n fs d (omega arith))

pub cleared-all : (n : ℕ) (fs : List Row) → length fs ≤ n → cleared n fs ≡ without_tasks fs
cleared-all n [] le = refl
cleared-all zero (f ∷ fs) le = absurd (omega arith)
cleared-all (suc n) (f ∷ fs) le = ap (λ (l : List Row). clear f ∷ l) (cleared-all n fs (omega arith))
