-- What a source ends as, where one of its directions is lent.
use Rattle.std.specs.Borrow.{Lends, MutBor, Fml}
use Rattle.react_core.specs.declared.reactor.Dir.{Dir}
use Rattle.react_core.specs.contracts.source.Source.{the_row}
use Rattle.react_core.specs.contracts.interest.Interest.{the_row as interest_row}
use Rattle.react_core.specs.Places.{Direction, Source}
use Rattle.react_core.specs.Sources.{with_side}

-- once the borrow r ends, this direction of the source is the last value written through r
abbrev pub LendsSide : Dir → MutBor Source → MutBor Direction → Fml
LendsSide dir s r = Lends the_row interest_row s r (with_side dir s.now)
