use Rattle.std.proofs.Common.{Some, ap, ◌∙◌}
use Rattle.std.specs.Option.{option_copied}
use Rattle.std.specs.Str.{bytes_eq}
use Rattle.std.proofs.lemmas.Map.Text.{btree_map_updates_str}
use Rattle.bus_address.proofs.EntryLemmas.{copied_if}
use Rattle.bus_address.proofs.options.Options.insert.Goals as goal

pub returns-clause-ok : goal.returns-clause-ok
returns-clause-ok c = λ asked.
    ap option_copied (btree_map_updates_str c.args.key.now c.args.self.now.values c.insert.new.self (Some c.args.value) c.in_ok-insert.ensures.updates asked)
    ∙ copied_if (bytes_eq c.args.key.now asked) c.args.value _
