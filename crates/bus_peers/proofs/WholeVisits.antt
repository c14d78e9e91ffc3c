-- A first visit, and a later one.
use Rattle.std.proofs.Common.{◌≡◌, ℕ, Bool, true, false, ◌==◌, ◌&&◌, if◌then◌else◌, List, [], ◌∷◌, ◌++◌, Option}
use Rattle.std.proofs.Common.{Some, None, refl, sym, ◌∙◌, ap}
use Rattle.std.proofs.lemmas.Bool.{eq-eqb}
use Rattle.std.proofs.Math.Path.{fun_ext}
use Rattle.std.proofs.lemmas.List.{append-nil, append_assoc}
use Rattle.std.proofs.lemmas.Option.{none-some}
use Rattle.std.specs.Prelude.{is_none}
use Rattle.std.specs.Option.{option_map, option_and_then}
use Rattle.react_core.specs.declared.outside.Event.{Event}
use Rattle.react_core.specs.declared.outside.Event.TheVariants as event
use Rattle.react_core.specs.declared.outside.Question.{Question}
use Rattle.react_core.specs.declared.outside.DialAnswer.{DialAnswer}
use Rattle.react_core.specs.declared.reactor.Dir.TheVariants.{Read, Write}
use Rattle.bus_session.specs.declared.session.Session.{Session}
use Rattle.bus_session.specs.Parts.{part}
use Rattle.bus_session.specs.Dialling.{Dialling, Opened, asks, fails, opens, begins, dialled}
use Rattle.bus_session.specs.Alone.{came_to, Course, course}
use Rattle.bus_record.specs.Pieces.{Pieces, told}
use Rattle.bus_record.specs.Places.{key_of, holder}
use Rattle.bus_record.specs.Visits.{Here, Stage, here, here_by, registering, conversing, goes_on, after_dial, starts}
use Rattle.bus_record.specs.Visits.{starts_at, was_visited, finished}
use Rattle.bus_visit.specs.Dialled.{Answered, dials_of, dials_through, opening}
use Rattle.bus_visit.specs.Registry.{idle}
use Rattle.bus_peers.specs.inside.Shows.{StandsAt}
use Rattle.bus_peers.specs.inside.RegisteredVisits.{FirstDials, opened_course}
use Rattle.bus_peers.specs.inside.Laws.{StaysEndAsleep, StaysEndOver, StaysLeavePlaces, FirstVisitsFail, FirstVisitsSleep}
use Rattle.bus_peers.specs.inside.Laws.{ComesTo, FirstVisitsEnd, LaterVisitsSleep, LaterVisitsEnd}
use Rattle.bus_peers.proofs.OtherWires.{Unvisited, unvisited, visited-keyed}
use Rattle.bus_peers.proofs.StayPlaces.{leaves-asleep}
use Rattle.bus_peers.proofs.StayVisits.{LeadsTo, rests_at, falls-asleep, ends-stay}

-- ---- a stay

pub stays-end-asleep : (s : Session) → StaysEndAsleep s
stays-end-asleep s wire key h from to calls arm begin end at keyed wired c =
    falls-asleep s wire key calls h from to arm begin end keyed wired c.called at c.asked c.through

pub stays-end-over : (s : Session) → StaysEndOver s
stays-end-over s wire key h from to calls begin end at c over =
    ends-stay s wire key calls h from to begin end c.called at c.asked c.through over.was_open over.ended

pub stays-leave-places : StaysLeavePlaces
stays-leave-places wire h from to calls arm begin end at c =
    leaves-asleep wire calls h from to arm c.called at c.asked

-- ---- the dialling

-- the session dials
abbrev pub dialling_course : Session → Dialling → Course
dialling_course s d = record { party = s.party; progress = came_to s.party d }

-- a first visit begins with the dialling
starts-first : (s : Session) (wire : ℕ) (past : Pieces) → was_visited wire past ≡ false → part wire (told past) ≡ [] →
    starts s wire past ≡ Some (after_dial (dialling_course s (begins s.party)))
unfolding course
starts-first s wire past none own =
    ap (λ b. option_and_then (starts_at b (key_of wire past)) (course s (part wire (told past)))) none
    ∙ ap (λ events. option_and_then (starts_at false (key_of wire past)) (course s events)) own

-- the event is no NotReady
pub and-true : (b : Bool) → (b && true) ≡ b
and-true true = refl
and-true false = refl

-- a Dial leaves the directions and the keys as they were
here-dialled : (h : Here) (wire : ℕ) (question : Question) (answer : DialAnswer) →
    here_by h (event.Dial wire question answer) ≡ h
here-dialled h wire question answer =
    ap (λ reported. record {
      is_waiting = h.is_waiting;
      was_reported = reported;
      was_notified = h.was_notified;
      holder_of = h.holder_of;
    }) (fun_ext (λ x. and-true (h.was_reported x)))

-- a Dial that is asked
dial-next : (s : Session) (wire : ℕ) (h : Here) (d to : Dialling) (question : Question) (answer : DialAnswer)
    (events : List Event) → dialled d question answer ≡ Some to →
    goes_on s wire h (Some (after_dial (dialling_course s d))) (event.Dial wire question answer ∷ events)
    ≡ goes_on s wire h (Some (after_dial (dialling_course s to))) events
dial-next s wire h (asks wanted purpose) to question answer events is =
    ap (λ x. goes_on s wire x (option_map after_dial (if wire == wire
    then option_map (λ p. record { party = s.party; progress = p })
    (option_map (came_to s.party) (dialled (asks wanted purpose) question answer))
    else None)) events) (here-dialled h wire question answer)
    ∙ (ap (λ own. goes_on s wire h (option_map after_dial (if own
    then option_map (λ p. record { party = s.party; progress = p })
    (option_map (came_to s.party) (dialled (asks wanted purpose) question answer))
    else None)) events) (eq-eqb wire wire refl)
    ∙ ap (λ o. goes_on s wire h (option_map after_dial
    (option_map (λ p. record { party = s.party; progress = p }) (option_map (came_to s.party) o))) events) is)
dial-next s wire h (fails e) to question answer events is = absurd (none-some to is)
dial-next s wire h (opens o) to question answer events is = absurd (none-some to is)

dials_at : (s : Session) (wire : ℕ) (h : Here) (d to : Dialling) (a : Answered) (dials : List Answered)
    (events : List Event) (end : Option Stage) (o : Option Dialling) → dialled d a.question a.answer ≡ o →
    ((next : Dialling) → dials_through next dials ≡ Some to →
    goes_on s wire h (Some (after_dial (dialling_course s next))) (dials_of wire dials ++ events) ≡ end) →
    option_and_then (λ next. dials_through next dials) o ≡ Some to →
    goes_on s wire h (Some (after_dial (dialling_course s d))) (dials_of wire (a ∷ dials) ++ events) ≡ end
dials_at s wire h d to a dials events end None is go comes = absurd (none-some to comes)
dials_at s wire h d to a dials events end (Some next) is go comes =
    dial-next s wire h d next a.question a.answer (dials_of wire dials ++ events) is ∙ go next comes

-- Dials that are asked, one after another
dials-next : (s : Session) (wire : ℕ) (h : Here) (d to : Dialling) (dials : List Answered) (events : List Event) →
    dials_through d dials ≡ Some to →
    goes_on s wire h (Some (after_dial (dialling_course s d))) (dials_of wire dials ++ events)
    ≡ goes_on s wire h (Some (after_dial (dialling_course s to))) events
dials-next s wire h d to [] events comes =
    ap (λ o. goes_on s wire h (option_map (λ x. after_dial (dialling_course s x)) o) events) comes
dials-next s wire h d to (a ∷ dials) events comes =
    dials_at s wire h d to a dials events (goes_on s wire h (Some (after_dial (dialling_course s to))) events)
    (dialled d a.question a.answer) refl (λ next then_. dials-next s wire h next to dials events then_) comes

-- a first visit goes on so behind its Dials
first-dials : (s : Session) (wire : ℕ) (past : Pieces) (dials : List Answered) (to : Dialling)
    (events : List Event) → FirstDials s wire past dials to →
    goes_on s wire (here wire past) (starts s wire past) (dials_of wire dials ++ events)
    ≡ goes_on s wire (here wire past) (Some (after_dial (dialling_course s to))) events
first-dials s wire past dials to events f =
    ap (λ o. goes_on s wire (here wire past) o (dials_of wire dials ++ events))
    (starts-first s wire past f.unvisited f.unheard)
    ∙ dials-next s wire (here wire past) (begins s.party) to dials events f.comes

pub first-visits-fail : (s : Session) → FirstVisitsFail s
first-visits-fail s wire past dials e f =
    ap (λ v. goes_on s wire (here wire past) (starts s wire past) v) (sym (append-nil (dials_of wire dials)))
    ∙ first-dials s wire past dials (fails e) [] f

-- ---- the registering

-- the place behind the Dials and the Add
abbrev pub registered_at : ℕ → Pieces → ℕ → Here
registered_at wire past key = here_by (here wire past) (event.Add wire key true)

pub stands-idle : (wire : ℕ) (past : Pieces) (key : ℕ) → Unvisited wire past →
    StandsAt (registered_at wire past key) (idle wire key)
stands-idle wire past key un = record {
  read = (un.waits Read, ap (λ b. b && true) (un.reported Read));
  write = (un.waits Write, ap (λ b. b && true) (un.reported Write));
}

-- the wire is open, and its key is free
add-next : (s : Session) (wire : ℕ) (h : Here) (c : Course) (key : ℕ) (events : List Event) →
    h.holder_of key ≡ None →
    goes_on s wire h (Some (registering c)) (event.Add wire key true ∷ events)
    ≡ goes_on s wire (here_by h (event.Add wire key true)) (Some (conversing key c)) events
add-next s wire h c key events free =
    ap (λ b. goes_on s wire (here_by h (event.Add wire key true))
    (if b && is_none (h.holder_of key) then Some (conversing key c) else None) events) (eq-eqb wire wire refl)
    ∙ ap (λ o. goes_on s wire (here_by h (event.Add wire key true))
    (if is_none o then Some (conversing key c) else None) events) free

-- the Dials that opened a wire, and the registration under a free key
pub registers-next : (s : Session) (wire key : ℕ) (past : Pieces) (dials : List Answered) (o : Opened) →
    FirstDials s wire past dials (opens o) → holder key past ≡ None →
    goes_on s wire (here wire past) (starts s wire past) (dials_of wire dials ++ event.Add wire key true ∷ [])
    ≡ Some (conversing key (opened_course s o))
registers-next s wire key past dials o f free =
    first-dials s wire past dials (opens o) (event.Add wire key true ∷ []) f
    ∙ add-next s wire (here wire past) (opened_course s o) key [] free

-- a first visit over a wire that was opened leads where its conversation does
first-visit : (s : Session) (wire key : ℕ) (past : Pieces) (dials : List Answered) (o : Opened) (events : List Event)
    (stage : Stage) → FirstDials s wire past dials (opens o) → holder key past ≡ None →
    LeadsTo s wire key stage (registered_at wire past key) (opened_course s o) events →
    ComesTo s wire past (opening wire key dials ++ events) stage
first-visit s wire key past dials o events stage f free ends =
    ap (λ v. goes_on s wire (here wire past) (starts s wire past) v)
    (append_assoc (dials_of wire dials) (event.Add wire key true ∷ []) events)
    ∙ (first-dials s wire past dials (opens o) (event.Add wire key true ∷ events) f
    ∙ (add-next s wire (here wire past) (opened_course s o) key events free ∙ ends))

pub first-visits-sleep : (s : Session) → FirstVisitsSleep s
first-visits-sleep s wire key past dials o to calls arm end f free c =
    first-visit s wire key past dials o (calls ++ arm) (rests_at s key end) f free
    (stays-end-asleep s wire key (registered_at wire past key) (idle wire key) to calls arm
    (opened_course s o) end (stands-idle wire past key (unvisited wire past f.unvisited)) refl refl c)

pub first-visits-end : (s : Session) → FirstVisitsEnd s
first-visits-end s wire key past dials o to calls end f free c over =
    first-visit s wire key past dials o (calls ++ event.Delete wire key true ∷ []) finished f free
    (stays-end-over s wire key (registered_at wire past key) (idle wire key) to calls
    (opened_course s o) end (stands-idle wire past key (unvisited wire past f.unvisited)) c over)

-- ---- a later visit

starts-later : (s : Session) (wire : ℕ) (past : Pieces) (key : ℕ) (c : Course) → key_of wire past ≡ Some key →
    course s (part wire (told past)) ≡ Some c → starts s wire past ≡ Some (conversing key c)
starts-later s wire past key c keyed stands =
    ap (λ b. option_and_then (starts_at b (key_of wire past)) (course s (part wire (told past))))
    (visited-keyed wire key past keyed)
    ∙ (ap (λ o. option_and_then (starts_at true (key_of wire past)) o) stands
    ∙ ap (λ k. starts_at true k c) keyed)

later-visit : (s : Session) (wire : ℕ) (past : Pieces) (key : ℕ) (c : Course) (events : List Event) (stage : Stage) →
    key_of wire past ≡ Some key → course s (part wire (told past)) ≡ Some c →
    LeadsTo s wire key stage (here wire past) c events → ComesTo s wire past events stage
later-visit s wire past key c events stage keyed stands ends =
    ap (λ o. goes_on s wire (here wire past) o events) (starts-later s wire past key c keyed stands) ∙ ends

pub later-visits-sleep : (s : Session) → LaterVisitsSleep s
later-visits-sleep s wire past from to calls arm begin end keyed wired at stands c =
    later-visit s wire past from.key begin (calls ++ arm) (rests_at s from.key end) keyed stands
    (stays-end-asleep s wire from.key (here wire past) from to calls arm begin end at refl wired c)

pub later-visits-end : (s : Session) → LaterVisitsEnd s
later-visits-end s wire past from to calls begin end keyed at stands c over =
    later-visit s wire past from.key begin (calls ++ event.Delete wire from.key true ∷ []) finished keyed stands
    (stays-end-over s wire from.key (here wire past) from to calls begin end at c over)
