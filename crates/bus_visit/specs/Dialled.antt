-- What the dialling of a session tells.
use Rattle.std.specs.Prelude.{◌≡◌, ⊤, ℕ, false, List, [], ◌∷◌, ◌++◌, true, Option, Some, Result, Ok, Err}
use Rattle.std.specs.Option.{option_and_then}
use Rattle.react_core.specs.declared.outside.Event.{Event}
use Rattle.react_core.specs.declared.outside.Event.TheVariants as event
use Rattle.react_core.specs.declared.outside.Question.{Question}
use Rattle.react_core.specs.declared.outside.DialAnswer.{DialAnswer}
use Rattle.react_core.specs.declared.outside.Fault.{Fault}
use Rattle.react_core.specs.declared.outside.Fault.TheVariants as fault
use Rattle.react_core.specs.declared.outside.Opened.{Opened}
use Rattle.react_core.specs.Told.{told}
use Rattle.bus_session.specs.declared.ended.Ending.TheVariants as ending
use Rattle.bus_session.specs.Dialling.{Dialling, fails, opens, dialled as dialled_by}
use Rattle.bus_session.specs.Dialling as dialling
use Rattle.bus_visit.specs.declared.dialling.OpenWire.{OpenWire}
use Rattle.bus_visit.specs.declared.dialling.Dialled.{Dialled}
use Rattle.bus_visit.specs.declared.dialling.Dialled.TheVariants as dialled
use Rattle.bus_visit.specs.declared.dialling.Reached.{Reached}

-- an open wire, and what a dialling came to, as they are defined
abbrev pub as_opened : OpenWire → dialling.Opened
as_opened w = record { passes = w.passes; tcp = w.tcp; nonce = w.nonce }

abbrev pub as_dialling : Dialled → Dialling
as_dialling (dialled.Opened w) = opens (as_opened w)
as_dialling (dialled.Failed e) = fails e

-- a question and its answer
pub record Answered : Type 0 where
  pub question : Question
  pub answer : DialAnswer

-- the Dials that tell them
abbrev pub dials_of : ℕ → List Answered → List Event
dials_of wire [] = []
dials_of wire (a ∷ answered) = event.Dial wire a.question a.answer ∷ dials_of wire answered

-- what comes before the calls of a first visit: the Dials that opened the wire, and the registration of its source
abbrev pub opening : ℕ → ℕ → List Answered → List Event
opening wire key answered = dials_of wire answered ++ event.Add wire key true ∷ []

-- the dialling after these questions, each of which it asks, and their answers
abbrev pub dials_through : Dialling → List Answered → Option Dialling
dials_through d [] = Some d
dials_through d (a ∷ answered) =
    option_and_then (λ to. dials_through to answered) (dialled_by d a.question a.answer)

-- these were told, and lead a dialling from here to there
pub record DialsTo (wire : ℕ) (from to : Dialling) (before after : Option (List Event)) (answered : List Answered)
    : Type 0 where
  pub gained : after ≡ told before (dials_of wire answered)
  pub through : dials_through from answered ≡ Some to

-- a dialling that stood here told its Dials, up to its end; without memory it may have stopped
abbrev pub DialTold : {E : Type 0} → ℕ → Dialling → Result Dialled E → Option (List Event) → Option (List Event) →
    Type 0
DialTold wire from (Ok d) before after =
    (answered : List Answered) × DialsTo wire from (as_dialling d) before after answered
DialTold wire from (Err e) before after = (answered : List Answered) × (after ≡ told before (dials_of wire answered))

abbrev pub ReachTold : {E : Type 0} → ℕ → Dialling → Result Reached E → Option (List Event) → Option (List Event) →
    Type 0
ReachTold wire from (Ok r) before after =
    (answered : List Answered) × DialsTo wire from (as_dialling r.dialled) before after answered
ReachTold wire from (Err e) before after = (answered : List Answered) × (after ≡ told before (dials_of wire answered))

-- a wire that is none of TCP, or the failure to open it
abbrev pub OpenedAs : {E : Type 0} → Result Opened Fault → Result Dialled E → Type 0
OpenedAs (Ok opened) (Ok d) = d ≡ dialled.Opened (record { passes = opened.passes; tcp = false; nonce = [] })
OpenedAs (Err fault.Failed) (Ok d) = d ≡ dialled.Failed ending.Connection
OpenedAs (Err fault.OutOfMemory) (Err e) = ⊤
OpenedAs answer result = ⊥
