-- A session ends alike in two runs.
use Rattle.std.proofs.Common.{◌≡◌, ◌+◌, ℕ, zero, suc, List, [], ◌∷◌, Some, sym, ap, ◌∙◌, arith}
use Rattle.std.specs.Prelude.{slice_get}
use Rattle.react_core.specs.declared.outside.Event.{Event}
use Rattle.bus_session.specs.declared.session.Session.{Session}
use Rattle.bus_session.specs.declared.ended.Ended.{Ended}
use Rattle.bus_session.specs.Alone.{alone}
use Rattle.bus_session.specs.Laws.{IsIsolated}
use Rattle.bus_session.specs.Outcomes.{Outcome, outcome}
use Rattle.bus_session.specs.Parts.{part}
use Rattle.bus_record.specs.Pieces.{Pieces, told}
use Rattle.bus_record.specs.Headline.{Each, IsEnding}
use Rattle.bus_record.specs.Isolation.{Ran, EndsAlike}
use Rattle.bus_record.proofs.Closing.{parts_in_pieces}

-- the ending at a place is that of the session there
each-at : (wire : ℕ) (sessions : List Session) (endeds : List Ended) (pieces : Pieces) → Each wire sessions endeds pieces →
    (i : ℕ) (s : Session) (e : Ended) → slice_get sessions i ≡ Some s → slice_get endeds i ≡ Some e → IsEnding s (wire + i) pieces e
each-at wire [] [] pieces each i s e there here = absurd (cc)
each-at wire [] (y ∷ endeds) pieces each i s e there here = absurd each
each-at wire (x ∷ sessions) [] pieces each i s e there here = absurd each
each-at wire (x ∷ sessions) (y ∷ endeds) pieces each zero s e there here =
    let session : x ≡ s = cc in
    let ending : y ≡ e = cc in
    let at : wire + 0 ≡ wire = omega arith in
    rw (at, ← session, ← ending) each.0
each-at wire (x ∷ sessions) (y ∷ endeds) pieces each (suc i) s e there here =
    let at : wire + suc i ≡ (wire + 1) + i = omega arith in
    rw at (each-at (wire + 1) sessions endeds pieces each.1 i s e there here)

-- what it comes to by its part of the whole record, and its own moment
pub ran-alone : (s : Session) (wire : ℕ) (e : Ended) (events : List Event) → Ran s wire e events → alone s (part wire events) e.moment ≡ Some (outcome e)
ran-alone s wire e events run =
    let ends : IsEnding s (0 + wire) run.pieces e = each-at 0 run.sessions run.endeds run.pieces run.headline.each wire s e run.session run.ending in
    let at : 0 + wire ≡ wire = omega arith in
    let is : IsEnding s wire run.pieces e = rw at at ends in
    ap (λ events. alone s events e.moment) (parts_in_pieces run.sessions run.rounds run.pieces events wire run.headline.settled)
    ∙ ap (alone s (part wire (told run.pieces))) is.at ∙ is.comes

some-same : (a b : Outcome) → Some a ≡ Some b → a ≡ b
some-same a b same = cc

pub ends-alike : (s : Session) → IsIsolated s → EndsAlike s
ends-alike s isolated wire one two e e' events events' run run' same at =
    some-same (outcome e) (outcome e')
    (sym (ran-alone s one e events run)
    ∙ ap (alone s (part one events)) at
    ∙ isolated wire (part one events) (part two events') e'.moment same
    ∙ ran-alone s two e' events' run')
