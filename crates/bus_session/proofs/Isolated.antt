-- What a session comes to depends on no wire's number.
use Rattle.std.proofs.Common.{◌≡◌, ℕ, List, [], ◌∷◌, Option, Some, None, refl, sym, ◌∙◌, ap, map}
use Rattle.std.specs.Option.{option_map, option_and_then}
use Rattle.react_core.specs.declared.outside.Event.{Event}
use Rattle.react_core.specs.declared.outside.Event.TheVariants as event
use Rattle.bus_opening.specs.Talk.{Ask, send, recv, opens, handshake, too_many_commands, line_too_long, Said}
use Rattle.bus_session.specs.declared.session.Party.{Party}
use Rattle.bus_session.specs.declared.session.Session.{Session}
use Rattle.bus_session.specs.Alone.{Progress, dials, converses, over, Talked, Course, first_course, after_in, after}
use Rattle.bus_session.specs.Alone.{after_asked, asked_next, goes_through, course, outcome_of, has_reached}
use Rattle.bus_session.specs.Laws.{on_wire, IsIsolated}

asked-same : (talk : List (List ℕ) → Said) (t : Talked) (asked : Ask) (wire : ℕ) (e : Event) →
    after_asked talk t asked (on_wire wire e) ≡ after_asked talk t asked e
asked-same talk t recv wire (event.Recv w asked answer) = refl
asked-same talk t recv wire _ = refl
asked-same talk t (send piece) wire (event.Send w offered answer) = refl
asked-same talk t (send piece) wire _ = refl
asked-same talk t (opens guid flag) wire e = refl
asked-same talk t handshake wire e = refl
asked-same talk t too_many_commands wire e = refl
asked-same talk t line_too_long wire e = refl

in-same : (p : Party) (now : Progress) (wire : ℕ) (e : Event) → after_in p now (on_wire wire e) ≡ after_in p now e
in-same p (dials d) wire (event.Dial w question answer) = refl
in-same p (dials d) wire _ = refl
in-same p (converses talk t) wire e = asked-same talk t (asked_next talk t) wire e
in-same p (over o) wire e = refl

after-same : (c : Course) (wire : ℕ) (e : Event) → after c (on_wire wire e) ≡ after c e
after-same c wire e = ap (option_map (λ p. record c { progress = p })) (in-same c.party c.progress wire e)

then-same : (now : Option Course) (wire : ℕ) (e : Event) →
    option_and_then (λ reached. after reached (on_wire wire e)) now ≡ option_and_then (λ reached. after reached e) now
then-same None wire e = refl
then-same (Some now) wire e = after-same now wire e

goes-same : (now : Option Course) (wire : ℕ) (events : List Event) →
    goes_through now (map (on_wire wire) events) ≡ goes_through now events
goes-same now wire [] = refl
goes-same now wire (e ∷ events) =
    ap (λ x. goes_through x (map (on_wire wire) events)) (then-same now wire e)
    ∙ goes-same (option_and_then (λ reached. after reached e) now) wire events

course-same : (s : Session) (wire : ℕ) (events : List Event) → course s (map (on_wire wire) events) ≡ course s events
unfolding course
course-same s wire events = goes-same (Some (first_course s)) wire events

pub isolated : (s : Session) → IsIsolated s
isolated s wire one two moment e =
    ap (option_and_then (outcome_of (has_reached s.deadline moment)))
    (sym (course-same s wire one) ∙ (ap (course s) e ∙ course-same s wire two))
