-- Keys and values as a map holds them.
use Rattle.std.specs.Prelude.{ℕ, List, Option}
use denote.Ref.{Bor}
use Rattle.std.specs.Option.{option_copied}
use Rattle.std.specs.Ordering.{nat_cmp}
use Rattle.std.specs.Cmp.Lexicographic.{slice_cmp}
use Rattle.std.specs.BTreeMap.{BTreeMap, get_by}

-- the value that a map has at a key
abbrev pub found : BTreeMap (Bor (List ℕ)) (Bor (List ℕ)) → List ℕ → Option (List ℕ)
found values key = option_copied (get_by (λ k. slice_cmp nat_cmp key k.now) values)
