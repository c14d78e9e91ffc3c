use Rattle.std.proofs.Common.{[]}
use Rattle.std.proofs.lemmas.Result.{err_from_is_err_and}
use Rattle.bus_script.proofs.Loops.{peers_on, peers_stop, peers_done}
use Rattle.bus_script.proofs.forms.peers.Goals as goal

pub returns-in_err-peer : goal.returns-in_err-peer
returns-in_err-peer c =
    let p = err_from_is_err_and c.from_residual-in_err-peer.result c.from_residual-in_err-peer.ensures.1 in
    rw (p.1, p.2) (peers_stop c.args.words.now c.loop-word.word-index (record { ref_ptr = (0, 0); now = [] })
    c.loop-word.found.items c.in_err-peer.field-0.0 c.loop-word-test.true c.in_err-peer.ensures
    c.loop-word.invariant)

pub loop-word-preserved : goal.loop-word-preserved
loop-word-preserved c = peers_on c.args.words.now c.loop-word.word-index (record { ref_ptr = (0, 0); now = [] })
    c.loop-word.found.items c.push.new.self.items c.in_ok-peer.field-0 c.loop-word-test.true c.in_ok-peer.ensures
    c.in_ok-push.ensures.items c.loop-word.invariant

pub returns : goal.returns
returns c = rw c.from_vec.ensures.items (peers_done c.args.words.now c.loop-word.word-index c.loop-word.found.items
    c.loop-word-test.false c.loop-word.invariant)
