-- What is folded over the events of a visit passes its Dials by.
use Rattle.std.proofs.Common.{◌≡◌, ◌≢◌, ℕ, true, List, [], ◌∷◌, ◌++◌, refl, sym, ◌∙◌, ap}
use Rattle.std.proofs.lemmas.Bool.{eq-eqb, ne_eqb}
use Rattle.std.proofs.lemmas.List.{append_assoc, append-nil}
use Rattle.std.specs.List.{fold}
use Rattle.react_core.specs.declared.outside.Event.{Event}
use Rattle.react_core.specs.declared.outside.Event.TheVariants as event
use Rattle.react_core.specs.declared.outside.Question.{Question}
use Rattle.react_core.specs.declared.outside.DialAnswer.{DialAnswer}
use Rattle.bus_session.specs.Parts.{part}
use Rattle.bus_visit.specs.Counts.{numbered_in}
use Rattle.bus_visit.specs.Dialled.{Answered, dials_of, opening}
use Rattle.bus_visit.specs.Registry.{Held, idle, registry, with_held}

-- ---- any fold that Dials do not move

module _ {S : Type 0} (by : S → Event → S)
    (quiet : (s : S) (wire : ℕ) (question : Question) (answer : DialAnswer) →
    by s (event.Dial wire question answer) ≡ s) where
  pub dials-fold : (wire : ℕ) (dials : List Answered) (rest : List Event) (s : S) →
      fold by s (dials_of wire dials ++ rest) ≡ fold by s rest
  dials-fold wire [] rest s = refl
  dials-fold wire (a ∷ dials) rest s =
      ap (λ x. fold by x (dials_of wire dials ++ rest)) (quiet s wire a.question a.answer)
      ∙ dials-fold wire dials rest s

  -- the Dials alone
  pub dials-still : (wire : ℕ) (dials : List Answered) (s : S) → fold by s (dials_of wire dials) ≡ s
  dials-still wire dials s =
      ap (fold by s) (sym (append-nil (dials_of wire dials))) ∙ dials-fold wire dials [] s

  -- the Dials and the registration
  pub opening-fold : (wire key : ℕ) (dials : List Answered) (rest : List Event) (s : S) →
      fold by s (opening wire key dials ++ rest) ≡ fold by (by s (event.Add wire key true)) rest
  opening-fold wire key dials rest s =
      ap (fold by s) (append_assoc (dials_of wire dials) (event.Add wire key true ∷ []) rest)
      ∙ dials-fold wire dials (event.Add wire key true ∷ rest) s

-- ---- the sources

pub opening-sources : (wire key : ℕ) (dials : List Answered) (rest : List Event) (held : List Held) →
    registry held (opening wire key dials ++ rest) ≡ registry (with_held held (idle wire key)) rest
opening-sources wire key [] rest held = refl
opening-sources wire key (a ∷ dials) rest held = opening-sources wire key dials rest held

pub dials-sources : (wire : ℕ) (dials : List Answered) (held : List Held) → registry held (dials_of wire dials) ≡ held
dials-sources wire [] held = refl
dials-sources wire (a ∷ dials) held = dials-sources wire dials held

-- ---- what is counted

pub dials-unnumbered : (wire : ℕ) (dials : List Answered) → numbered_in (dials_of wire dials) ≡ 0
dials-unnumbered wire [] = refl
dials-unnumbered wire (a ∷ dials) = dials-unnumbered wire dials

pub opening-unnumbered : (wire key : ℕ) (dials : List Answered) (rest : List Event) →
    numbered_in (opening wire key dials ++ rest) ≡ numbered_in rest
opening-unnumbered wire key [] rest = refl
opening-unnumbered wire key (a ∷ dials) rest = opening-unnumbered wire key dials rest

-- ---- the part of a wire

pub opening-part : (wire key : ℕ) (dials : List Answered) (rest : List Event) →
    part wire (opening wire key dials ++ rest) ≡ dials_of wire dials ++ part wire rest
opening-part wire key [] rest = refl
opening-part wire key (a ∷ dials) rest =
    rw (eq-eqb wire wire refl)
    (ap (λ l. event.Dial wire a.question a.answer ∷ l) (opening-part wire key dials rest))

pub dials-part : (wire : ℕ) (dials : List Answered) → part wire (dials_of wire dials) ≡ dials_of wire dials
dials-part wire [] = refl
dials-part wire (a ∷ dials) =
    rw (eq-eqb wire wire refl) (ap (λ l. event.Dial wire a.question a.answer ∷ l) (dials-part wire dials))

pub opening-other : (wire w key : ℕ) (dials : List Answered) (rest : List Event) → w ≢ wire →
    part w (opening wire key dials ++ rest) ≡ part w rest
opening-other wire w key [] rest other = refl
opening-other wire w key (a ∷ dials) rest other =
    rw (ne_eqb wire w (λ e. other (sym e))) (opening-other wire w key dials rest other)

pub dials-other : (wire w : ℕ) (dials : List Answered) → w ≢ wire → part w (dials_of wire dials) ≡ []
dials-other wire w [] other = refl
dials-other wire w (a ∷ dials) other = rw (ne_eqb wire w (λ e. other (sym e))) (dials-other wire w dials other)
