use Rattle.bus_opening.proofs.WordLemmas.{word_len_is}
use Rattle.bus_opening.proofs.words.word_len.Goals as goal

pub returns : goal.returns
returns c = rw (c.unwrap_or.ensures, c.first_space.ensures, c.as_bytes.ensures.value) (word_len_is c.args.text.now)
