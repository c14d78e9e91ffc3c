-- The fields of an inbox.
use Rattle.std.specs.Prelude.{ℕ, ◌≤◌, List, length, drop}
use Rattle.std.specs.Vec.{vec_capacity}
use Rattle.bus_opening.specs.Limits.{buffer_limit}
use Rattle.bus_opening.specs.Lines.{feed_at}
use Rattle.bus_opening.specs.declared.inbox.Inbox.TheInside.{Inside}

abbrev pub rest_of : Inside → List ℕ
rest_of a = drop a.start a.bytes.items

pub record IsSearched (a : Inside) : Type 0 where
  pub start : a.start ≤ length a.bytes.items
  pub searched : a.searched ≤ feed_at (rest_of a)
  pub few : length a.bytes.items ≤ buffer_limit
  pub within : vec_capacity a.bytes ≤ buffer_limit
