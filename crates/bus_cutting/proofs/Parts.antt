-- What a session's own part comes to.
use Rattle.std.proofs.Common.{◌≡◌, ℕ, Bool, List, [], ◌∷◌, ◌++◌, Option, Some, None, refl, sym, ap, ◌∙◌, append_assoc}
use Rattle.std.specs.Prelude.{◌≢◌}
use Rattle.std.specs.List.{flat_map}
use Rattle.std.specs.Option.{option_map, option_and_then}
use Rattle.std.proofs.lemmas.List.Concat.{flat_map-append}
use Rattle.react_core.specs.declared.outside.DialAnswer.{DialAnswer}
use Rattle.react_core.specs.declared.outside.Event.{Event}
use Rattle.react_core.specs.declared.outside.Event.TheVariants as event
use Rattle.react_core.specs.declared.outside.Question.{Question}
use Rattle.bus_opening.specs.Polling.{bytes_got, bytes_taken}
use Rattle.bus_session.specs.declared.ended.Ending.TheVariants as ending
use Rattle.bus_session.specs.declared.session.Party.{Party}
use Rattle.bus_session.specs.declared.session.Session.{Session}
use Rattle.bus_session.specs.Dialling.{Opened, Dialling, asks, fails, opens, Purpose, begins, dialled, conversation}
use Rattle.bus_session.specs.Outcomes.{Outcome}
use Rattle.bus_session.specs.Alone.{Course, came_to, goes_through, course, outcome_of, has_reached}
use Rattle.bus_cutting.specs.Opens.{opened_from}
use Rattle.bus_cutting.specs.Converse.{Final, Conversed, conversed, converse}
use Rattle.bus_cutting.specs.Draws.{DrawsFrom}
use Rattle.bus_cutting.specs.Laws.{Concludes, conversed_of, CuttingIsNoMatter, EndsAlike}
use Rattle.bus_cutting.proofs.Growing.{conversation-grows}
use Rattle.bus_cutting.proofs.Courses.{begins_so}

module _ (p : Party) (o : Opened) (inbound : List ℕ) (fin : Final) (room : Option ℕ) (all : List Event)
    (draws : DrawsFrom inbound fin room all) (late : Bool) (end : Course) (came : Outcome)
    (comes : outcome_of late end ≡ Some came) (in_time : came.ending ≢ ending.TimedOut)
    (waits : came.ending ≢ ending.Waiting) where
  abbrev Goal : Type 0
  Goal = conversed (conversation p o) inbound fin room ≡ Some (conversed_of came)

  abbrev at : Dialling → Course
  at d = record { party = p; progress = came_to p d }

  -- behind Dial events alone, which move no bytes
  record Silent (before : List Event) : Type 0 where
    pub none : flat_map bytes_got before ≡ []
    pub nothing : flat_map bytes_taken before ≡ []

  dialled_more : (before : List Event) (wire : ℕ) (question : Question) (answer : DialAnswer) → Silent before →
      Silent (before ++ (event.Dial wire question answer ∷ []))
  dialled_more before wire question answer silent =
      let e = event.Dial wire question answer in
      record {
        none = flat_map-append bytes_got before (e ∷ []) ∙ ap (λ (x : List ℕ). x ++ []) silent.none;
        nothing = flat_map-append bytes_taken before (e ∷ []) ∙ ap (λ (x : List ℕ). x ++ []) silent.nothing;
      }

  opens_so : (before events : List Event) (found : Opened) → all ≡ before ++ events → Silent before → found ≡ o →
      goes_through (Some (at (opens found))) events ≡ Some end → Goal
  opens_so before events found whole silent same e =
      ap (λ (one : Opened). conversed (conversation p one) inbound fin room) (sym same)
      ∙ begins_so p (conversation p found) (conversation-grows p found) inbound fin room all draws late end came comes
      in_time waits before events whole silent.none silent.nothing e

  abbrev Next : List Event → Type 0
  Next events = (before : List Event) (d : Dialling) → all ≡ before ++ events → Silent before →
      opened_from d events ≡ Some o → goes_through (Some (at d)) events ≡ Some end → Goal

  answer_so : (before events : List Event) (d : Option Dialling) → Next events → all ≡ before ++ events →
      Silent before → option_and_then (λ d. opened_from d events) d ≡ Some o →
      goes_through (option_map at d) events ≡ Some end → Goal
  answer_so before events None others whole silent opened e = absurd cc
  answer_so before events (Some d) others whole silent opened e = others before d whole silent opened e

  mapped : (d : Option Dialling) → option_map (λ q. record { party = p; progress = q }) (option_map (came_to p) d)
      ≡ option_map at d
  mapped None = refl
  mapped (Some d) = refl

  asks_so : (before events : List Event) (wanted : Question) (purpose : Purpose) (first : Event) → Next events →
      all ≡ before ++ (first ∷ events) → Silent before → opened_from (asks wanted purpose) (first ∷ events) ≡ Some o →
      goes_through (Some (at (asks wanted purpose))) (first ∷ events) ≡ Some end → Goal
  asks_so before events wanted purpose (event.Dial wire question answer) others whole silent opened e =
      let d = dialled (asks wanted purpose) question answer in
      answer_so (before ++ (event.Dial wire question answer ∷ [])) events d others
      (whole ∙ sym (append_assoc before (event.Dial wire question answer ∷ []) events))
      (dialled_more before wire question answer silent) opened
      (ap (λ (c : Option Course). goes_through c events) (sym (mapped d)) ∙ e)
  asks_so before events wanted purpose first others whole silent opened e = absurd cc

  dials_so : (events : List Event) → Next events
  dials_so events before (opens found) whole silent opened e = opens_so before events found whole silent (cc) e
  dials_so events before (fails reason) whole silent opened e = absurd cc
  dials_so [] before (asks wanted purpose) whole silent opened e = absurd cc
  dials_so (first ∷ events) before (asks wanted purpose) whole silent opened e =
      asks_so before events wanted purpose first (dials_so events) whole silent opened e

course_so : (s : Session) (o : Opened) (inbound : List ℕ) (fin : Final) (room : Option ℕ) (events : List Event)
    (moment : Option ℕ) (came : Outcome) → Concludes s o inbound fin room events moment came → (c : Option Course) →
    course s events ≡ c → option_and_then (outcome_of (has_reached s.deadline moment)) c ≡ Some came →
    converse s.party o inbound fin room ≡ Some (conversed_of came)
unfolding course
course_so s o inbound fin room events moment came h None is e = absurd cc
course_so s o inbound fin room events moment came h (Some end) is e =
    dials_so s.party o inbound fin room events h.draws (has_reached s.deadline moment) end came e h.in_time h.over
    events [] (begins s.party) refl (record { none = refl; nothing = refl }) h.opens is

pub no-matter : (s : Session) → CuttingIsNoMatter s
no-matter s o inbound fin room events moment came h =
    course_so s o inbound fin room events moment came h (course s events) refl h.comes

pub alike : (s : Session) → EndsAlike s
alike s o inbound fin room one two moment later a b h k =
    let same : Some (conversed_of a) ≡ Some (conversed_of b) =
    sym (no-matter s o inbound fin room one moment a h) ∙ no-matter s o inbound fin room two later b k in
    let is : conversed_of a ≡ conversed_of b = cc in
    (ap (λ (c : Conversed). c.ending) is, ap (λ (c : Conversed). c.written) is)
