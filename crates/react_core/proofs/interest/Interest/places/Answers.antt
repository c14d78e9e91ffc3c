use Rattle.std.proofs.Common.{◌∙◌, sym, ap, length}
use Rattle.slab.specs.Slab.{entries}
use Rattle.slab.proofs.SlabLemmas.{length-entries}
use Rattle.react_core.specs.Places.{Direction}
use Rattle.react_core.proofs.Entries.{length-futures_of}
use Rattle.react_core.proofs.interest.Interest.places.Goals as goal

pub returns : goal.returns
returns c =
    c.len.ensures ∙ sym (length-entries c.self.inside.futures) ∙ sym (length-futures_of (entries c.self.inside.futures))
    ∙ ap (λ (d : Direction). length d.futures) c.self.view_is
