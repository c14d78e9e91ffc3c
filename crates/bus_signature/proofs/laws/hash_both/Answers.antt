use Rattle.std.proofs.Common.{◌∙◌, ap}
use Rattle.std.specs.List.{fold}
use Rattle.bus_signature.proofs.Fed.{hash_input-feed}
use Rattle.bus_signature.proofs.laws.hash_both.Goals as goal

pub returns-clause-own : goal.returns-clause-own
returns-clause-own c c' = hash_input-feed

pub returns-clause-first : goal.returns-clause-first
returns-clause-first c c' = c'.hash.ensures ∙ ap (fold c.H.Hasher.write c'.args.first.now) (hash_input-feed c'.args.a.now)

pub returns-clause-second : goal.returns-clause-second
returns-clause-second c c' = c'.hash-2.ensures ∙ ap (fold c.H.Hasher.write c'.args.second.now) (hash_input-feed c'.args.b.now)
