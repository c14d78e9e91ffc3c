use Rattle.std.proofs.Common.{arith, sym, ◌∙◌}
use Rattle.bus_reference.proofs.LineLemmas.{first_none, first_cut}
use Rattle.bus_reference.proofs.lines.+first_lines.Goals as goal

pub returns-then-feed-bytes : goal.returns-then-feed-bytes
returns-then-feed-bytes t c = record { value = c.new-then-feed-bytes.ensures.items ∙ sym (first_none c.args.count c.args.bytes.now (omega arith)) }

pub returns : goal.returns
returns t c =
    let line = c.from_vec.ensures.items ∙ c.in_ok-line.ensures.items ∙ c.split_at.ensures.front in
    record {
      value = first_cut c.args.count c.feed_at-feed.result c.args.bytes.now _ _ _ _ (omega arith)
          c.feed_at-feed.ensures.value (omega arith) line c.split_at.ensures.back c.in_ok-cut.ensures.value
          c.in_ok-insert.ensures.items;
    }
