use Rattle.std.proofs.Common.{◌∷◌, sym, ◌∙◌}
use Rattle.bus_address.proofs.EscapeLemmas.{run_more, escape_more}
use Rattle.bus_address.proofs.escapes.read_piece.Goals as goal

pub returns-then-not-is_plain-clause-ok : goal.returns-then-not-is_plain-clause-ok
returns-then-not-is_plain-clause-ok c =
    escape_more (c.args.first ∷ c.args.rest.now) c.in-Some.behind.now _ _ c.in-Some.byte c.in-Some.ensures.0 c.in_ok-push.ensures.items

pub returns-clause-ok : goal.returns-clause-ok
returns-clause-ok c =
    run_more c.args.first c.args.rest.now c.split_at.result.0.now c.split_at.result.1.now _ _ _ c.plain_len.result
    (sym c.is_plain.ensures ∙ c.if-not-is_plain.false) c.plain_len.ensures.plain c.split_at.ensures.front c.split_at.ensures.back c.in_ok-push-2.ensures.items c.in_ok-extend_from_slice.ensures.items
