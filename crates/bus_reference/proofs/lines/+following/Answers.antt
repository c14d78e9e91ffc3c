use Rattle.std.proofs.Common.{◌-◌, arith, ap, sym, ◌∙◌}
use Rattle.bus_opening.specs.Lines.{following}
use Rattle.bus_reference.proofs.LineLemmas.{following-none, following-next}
use Rattle.bus_reference.proofs.lines.+following.Goals as goal

pub returns-then-feed-bytes : goal.returns-then-feed-bytes
returns-then-feed-bytes t c = record { value = sym (following-none c.args.count c.args.bytes.now (omega arith)) }

pub returns : goal.returns
returns t c =
    let e = following-next c.args.count c.feed_at-feed.result c.args.bytes.now (omega arith) c.feed_at-feed.ensures.value (omega arith) in
    record { value = c.following.ensures.value ∙ ap (following (c.args.count - 1)) c.split_at.ensures.back ∙ sym e }
