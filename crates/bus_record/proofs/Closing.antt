-- The removals at the end are no part of a session.
use Rattle.std.proofs.Common.{◌≡◌, ℕ, List, [], ◌∷◌, ◌++◌, Option, Some, None, refl, ◌∙◌, ap}
use Rattle.std.proofs.lemmas.List.{append-nil}
use Rattle.std.specs.Prelude.{flat_map}
use Rattle.bus_session.specs.declared.session.Session.{Session}
use Rattle.bus_session.specs.Parts.{part}
use Rattle.bus_record.specs.Pieces.{Pieces, told}
use Rattle.bus_record.specs.Places.{key_of}
use Rattle.bus_record.specs.Settled.{Numbered, removal, closing, sleepers}
use Rattle.bus_record.specs.Laws.{PartsInPieces}
use Rattle.bus_record.proofs.Comes.{part-append}

removal-part : (wire w : ℕ) (key : Option ℕ) → part wire (removal w key) ≡ []
removal-part wire w None = refl
removal-part wire w (Some key) = refl

removals-part : (wire : ℕ) (past : Pieces) (ns : List Numbered) →
    part wire (flat_map (λ n. removal n.wire (key_of n.wire past)) ns) ≡ []
removals-part wire past [] = refl
removals-part wire past (n ∷ ns) =
    part-append wire (removal n.wire (key_of n.wire past)) (flat_map (λ z. removal z.wire (key_of z.wire past)) ns)
    ∙ rw (removal-part wire n.wire (key_of n.wire past), removals-part wire past ns) refl

pub parts_in_pieces : (sessions : List Session) → PartsInPieces sessions
parts_in_pieces sessions rounds pieces events wire settled =
    ap (part wire) settled.whole
    ∙ (part-append wire (told pieces) (closing sessions pieces)
    ∙ (ap (λ z. part wire (told pieces) ++ z) (removals-part wire pieces (sleepers sessions pieces))
    ∙ append-nil (part wire (told pieces))))
