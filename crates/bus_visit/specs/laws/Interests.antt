-- The count of interests.
use Rattle.std.proofs.Common.{◌≡◌, ◌<◌, ◌^◌, ℕ, arith}
use Rattle.bus_visit.specs.Counts.{after_begun}

-- none was begun
pub begun-still : (n : ℕ) → n < 2 ^ 64 → n ≡ after_begun n 0
begun-still n lt = omega arith
