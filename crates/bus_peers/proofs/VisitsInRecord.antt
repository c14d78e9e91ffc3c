-- What a visit over the reactor comes to, in the record.
use Rattle.std.proofs.Common.{◌≡◌, ◌≢◌, ℕ, ◌+◌, ◌<◌, Bool, true, false, not, ◌||◌, nat_lt, if◌then◌else◌, List, []}
use Rattle.std.proofs.Common.{◌∷◌, ◌++◌, map, length, Option, Some, None, is_some, refl, sym, ◌∙◌, ap, subst}
use Rattle.bus_session.specs.Counts.{notices_in}
use Rattle.std.proofs.Common.{arith}
use Rattle.std.specs.Prelude.{count_by, sum_by}
use Rattle.std.specs.Option.{option_map, option_and_then}
use Rattle.std.proofs.lemmas.List.{append-nil}
use Rattle.std.proofs.lemmas.List.Sums.{sum_by-append, fold-append}
use Rattle.std.proofs.lemmas.Bool.{both_ways, eq-eqb, lt-ltb}
use Rattle.std.proofs.lemmas.Option.{none-some, same_Some}
use Rattle.react_core.specs.declared.outside.Event.{Event}
use Rattle.react_core.specs.declared.outside.Event.TheVariants as event
use Rattle.react_core.specs.declared.outside.RecvAnswer.TheVariants as recv_answer
use Rattle.react_core.specs.declared.outside.SendAnswer.TheVariants as send_answer
use Rattle.react_core.specs.declared.reactor.Dir.{Dir}
use Rattle.react_core.specs.declared.reactor.Dir.TheVariants.{Read, Write}
use Rattle.react_core.specs.Core.{Core, inserted}
use Rattle.react_core.specs.Told.{told, told-told}
use Rattle.bus_opening.specs.Talk.{Said, talk, ask, ask_from}
use Rattle.bus_opening.specs.Client.{client, piece, opening as first_pieces, terms_of}
use Rattle.bus_opening.specs.Server.{server}
use Rattle.bus_opening.specs.Openings.{Opening, StandsIn}
use Rattle.bus_session.specs.declared.ended.Ending.{Ending}
use Rattle.bus_session.specs.declared.ended.Ending.TheVariants as ending
use Rattle.bus_session.specs.declared.ended.Ended.{Ended}
use Rattle.bus_session.specs.declared.session.Session.{Session}
use Rattle.bus_session.specs.declared.session.Party.{Party}
use Rattle.bus_session.specs.declared.session.Party.TheVariants as party
use Rattle.bus_address.specs.Reading.{address as address_of}
use Rattle.bus_session.specs.Dialling.{Dialling, Opened, asks as dial_asks, fails, opens, dialled, conversation}
use Rattle.bus_session.specs.Dialling as dialling
use Rattle.bus_session.specs.Parts.{part}
use Rattle.bus_session.specs.Outcomes.{Outcome, outcome, is_waiting, is_ended}
use Rattle.bus_session.specs.Alone.{Course, course, first_course, converses, silence, came_to, goes_through, outcome_of, outcome_in, has_reached}
use Rattle.bus_record.specs.Pieces as pieces
use Rattle.bus_record.specs.Pieces.{Pieces, ◌▸◌, visit, is_modify}
use Rattle.bus_record.specs.Places.{key_of, key_by, key_through, waits, waits_by, waits_through, paused, last_stop, last_stop_by}
use Rattle.bus_record.specs.Places.{moment, last_reading, last_reading_by, notified, notified_by, notified_through}
use Rattle.bus_record.specs.Visits.{Here, here, Stage, finished, Visit}
use Rattle.bus_record.specs.Settled.{comes_to}
use Rattle.bus_visit.specs.declared.visiting.Slot.{Slot}
use Rattle.bus_visit.specs.declared.visiting.Slot.TheVariants as slot
use Rattle.bus_visit.specs.declared.visiting.Sleeper.{Sleeper}
use Rattle.bus_visit.specs.Calls.{AreCalls}
use Rattle.bus_visit.specs.Counts.{after_begun, numbered_in}
use Rattle.bus_visit.specs.Registry.{Held, Idle, Waits, Reported, waits as held_waits, side_held, stopped_held, held_at, with_held, idle, registry}
use Rattle.bus_visit.specs.Asking.{Asking, asks, asking_at, begins, arms_at}
use Rattle.bus_peers.specs.inside.Shows.{StandsAt, Shows}
use Rattle.bus_peers.specs.inside.RegisteredVisits.{FirstDials, opened_course, Converses, Concludes, LeavesAsleep}
use Rattle.bus_visit.specs.Shown.{IsBetweenCalls, shown}
use Rattle.bus_peers.specs.inside.Slots.{IsNew, Stands, Talking, VisitInRecord}
use Rattle.bus_peers.specs.inside.Laws.{ComesTo}
use Rattle.bus_visit.specs.Dialled.{Answered, dials_of, dials_through, opening, DialsTo}
use Rattle.bus_visit.specs.Visited as visited
use Rattle.bus_visit.specs.Conversed.{is_awake, stands_at, Pauses}
use Rattle.bus_visit.specs.Noted.{arms_told}
use Rattle.bus_visit.specs.Visited.{MakesRegisteredVisit, RegisteredVisit}
use Rattle.bus_visit.specs.laws.Records.{part-append, goes-append, part-own, part-other, unnumbered-waits, unnumbered-notices}
use Rattle.bus_peers.proofs.Sides.{side-waits}
use Rattle.bus_peers.proofs.HeldLists.{with-at}
use Rattle.bus_visit.specs.laws.Interests.{begun-still}
use Rattle.bus_peers.proofs.OtherWires.{unvisited}
use Rattle.bus_visit.specs.laws.Dials.{dials-still, opening-fold, opening-sources, opening-unnumbered, opening-part, opening-other}
use Rattle.bus_visit.specs.laws.Dials.{dials-unnumbered, dials-part, dials-other}
use Rattle.bus_peers.specs.inside.Shows.{ShowsAsleep}
use Rattle.bus_peers.proofs.StayShows.{failed-dial-shows, first-asleep-shows, first-over-shows, later-asleep-shows, later-over-shows}
use Rattle.bus_peers.proofs.Readings.{calls-notified}
use Rattle.bus_peers.proofs.StayVisits.{rests_at}
use Rattle.bus_peers.proofs.WholeVisits.{registered_at, stands-idle, first-visits-fail, first-visits-sleep, first-visits-end, later-visits-sleep, later-visits-end, stays-leave-places}

-- ---- what the events of a visit leave as it was

calls-armings : (wire : ℕ) (calls : List Event) → AreCalls wire calls → count_by is_modify calls ≡ 0
calls-armings wire [] h = refl
calls-armings wire (event.Recv on size answer ∷ calls) (h, hs) = calls-armings wire calls hs
calls-armings wire (event.Send on offered answer ∷ calls) (h, hs) = calls-armings wire calls hs
calls-armings wire (e ∷ calls) (h, hs) = absurd h

armings-append : (a b : List Event) → count_by is_modify (a ++ b) ≡ count_by is_modify a + count_by is_modify b
armings-append a b = sum_by-append _ a b

plus_none : (a b : ℕ) → a ≡ 0 → a + b ≡ b
plus_none a b e = omega arith

pub armings-stay : (wire : ℕ) (calls tail : List Event) → AreCalls wire calls → count_by is_modify (calls ++ tail) ≡ count_by is_modify tail
armings-stay wire calls tail own =
    armings-append calls tail ∙ plus_none (count_by is_modify calls) (count_by is_modify tail) (calls-armings wire calls own)

-- nor do its Dials
opening-armings : (wire key : ℕ) (dials : List Answered) (rest : List Event) →
    count_by is_modify (opening wire key dials ++ rest) ≡ count_by is_modify rest
opening-armings wire key [] rest = refl
opening-armings wire key (a ∷ dials) rest = opening-armings wire key dials rest

dials-armings : (wire : ℕ) (dials : List Answered) → count_by is_modify (dials_of wire dials) ≡ 0
dials-armings wire [] = refl
dials-armings wire (a ∷ dials) = dials-armings wire dials

-- the calls of a wire make no reading
calls-reading : (wire : ℕ) (calls tail : List Event) (last : Option ℕ) → AreCalls wire calls → last_reading last (calls ++ tail) ≡ last_reading last tail
calls-reading wire [] tail last h = refl
calls-reading wire (event.Recv on size answer ∷ calls) tail last (h, hs) = calls-reading wire calls tail last hs
calls-reading wire (event.Send on offered answer ∷ calls) tail last (h, hs) = calls-reading wire calls tail last hs
calls-reading wire (e ∷ calls) tail last (h, hs) = absurd h

-- nor do they touch a key
pub calls-key : (wire : ℕ) (calls : List Event) (key : Option ℕ) → AreCalls wire calls → key_through key calls ≡ key
calls-key wire [] key h = refl
calls-key wire (event.Recv on size answer ∷ calls) key (h, hs) = calls-key wire calls key hs
calls-key wire (event.Send on offered answer ∷ calls) key (h, hs) = calls-key wire calls key hs
calls-key wire (e ∷ calls) key (h, hs) = absurd h

key-append : (key : Option ℕ) (a b : List Event) → key_through key (a ++ b) ≡ key_through (key_through key a) b
key-append key a b = fold-append key_by key a b

-- ---- the arming that a visit ends with

-- it is one Modify, or nothing
record IsArming (o : Option (List Event)) : Type 0 where
  counted : count_by is_modify (arms_told o) ≡ length (arms_told o)
  unread : (last : Option ℕ) → last_reading last (arms_told o) ≡ last
  keyless : (key : Option ℕ) → key_through key (arms_told o) ≡ key
  unnoticed : (was : Bool) → notified_through was (arms_told o) ≡ was

one-arming : (c : Bool) (wire key : ℕ) (read write : Bool) → IsArming (Some (if c then event.Modify wire key read write true ∷ [] else []))
one-arming true wire key read write = record { counted = refl; unread = λ last. refl; keyless = λ k. refl; unnoticed = λ was. refl }
one-arming false wire key read write = record { counted = refl; unread = λ last. refl; keyless = λ k. refl; unnoticed = λ was. refl }

no-arming : IsArming None
no-arming = record { counted = refl; unread = λ last. refl; keyless = λ k. refl; unnoticed = λ was. refl }

arms-arming : (dir : Dir) (h : Held) (b : _) → IsArming (arms_at dir h b)
arms-arming dir h Idle =
    let x : Held = stopped_held dir h in one-arming (held_waits x.read || held_waits x.write) x.wire x.key (held_waits x.read) (held_waits x.write)
arms-arming dir h Waits = one-arming false 0 0 false false
arms-arming dir h Reported = no-arming

event-arming : (t : Asking) (e : Event) → IsArming t.over → IsArming (asking_at t e).over
event-arming t (event.Recv w asked recv_answer.NotReady) is = arms-arming Read t.held (side_held Read t.held)
event-arming t (event.Send w offered send_answer.NotReady) is = arms-arming Write t.held (side_held Write t.held)
event-arming t e is = is

asks-none : (calls : List Event) (t : Asking) → asks None calls ≡ Some t → ⊥
asks-none [] t is = none-some t is
asks-none (e ∷ calls) t is = asks-none calls t is

arming-go : (t : Asking) (e : Event) (calls : List Event) (t' : Asking) (b : Bool) → is_some t.over ≡ b → IsArming t.over →
    asks (Some t) (e ∷ calls) ≡ Some t' → (asks (Some (asking_at t e)) calls ≡ Some t' → IsArming t'.over) → IsArming t'.over
arming-go t e calls t' true over is asked ih = absurd (asks-none calls t' (rw over at asked))
arming-go t e calls t' false over is asked ih = ih (rw over at asked)

asks-arming : (t : Asking) (calls : List Event) (t' : Asking) → IsArming t.over → asks (Some t) calls ≡ Some t' → IsArming t'.over
asks-arming t [] t' is asked = subst (λ (x : Asking). IsArming x.over) (same_Some t t' asked) is
asks-arming t (e ∷ calls) t' is asked =
    arming-go t e calls t' (is_some t.over) refl is asked (asks-arming (asking_at t e) calls t' (event-arming t e is))

is-arming : (h h' : Held) (calls : List Event) (o : Option (List Event)) → asks (Some (begins h)) calls ≡ Some (record { held = h'; over = o }) → IsArming o
is-arming h h' calls o asked = asks-arming (begins h) calls (record { held = h'; over = o }) no-arming asked

-- ---- the session alone

pub part-quiet : (w : ℕ) (q v : List Event) → part w v ≡ [] → part w (q ++ v) ≡ part w q
part-quiet w q v none = part-append w q v ∙ (ap (λ x. part w q ++ x) none ∙ append-nil (part w q))

-- an ending that is not Waiting
pub awake-ends : (e : Ending) → is_awake e ≡ true → is_waiting e ≡ false
awake-ends ending.Waiting up = absurd (both_ways false refl up)
awake-ends (ending.Open guid flag) up = refl
awake-ends (ending.Address reason) up = refl
awake-ends ending.Unsupported up = refl
awake-ends ending.Connection up = refl
awake-ends ending.Io up = refl
awake-ends ending.Handshake up = refl
awake-ends ending.LineTooLong up = refl
awake-ends ending.TooManyCommands up = refl
awake-ends ending.TimedOut up = refl

-- a course that came to something is one
came-through : (late : Bool) (c : Option Course) (o : Outcome) → option_and_then (outcome_of late) c ≡ Some o → (d : Course) × (c ≡ Some d) × (outcome_of late d ≡ Some o)
came-through late None o is = absurd (none-some o is)
came-through late (Some d) o is = (d, refl, is)

pub course-more : (s : Session) (a b : List Event) → course s (a ++ b) ≡ goes_through (course s a) b
unfolding course
course-more s a b = goes-append (Some (first_course s)) a b

-- what the session comes to behind a visit in which it goes on so
comes-after : (s : Session) (wire : ℕ) (past : Pieces) (v : List Event) (c d : Course) (own : List Event) (o : Outcome) →
    course s (part wire (pieces.told past)) ≡ Some c → part wire v ≡ own → goes_through (Some c) own ≡ Some d →
    outcome_of (has_reached s.deadline (moment wire (past ▸ visit wire v))) d ≡ Some o → comes_to s wire (past ▸ visit wire v) ≡ Some o
comes-after s wire past v c d own o came mine goes is =
    let at : Option ℕ = moment wire (past ▸ visit wire v) in
    ap (λ x. option_and_then (outcome_of (has_reached s.deadline at)) (course s x)) (part-append wire (pieces.told past) v ∙ ap (λ x. part wire (pieces.told past) ++ x) mine)
    ∙ (ap (option_and_then (outcome_of (has_reached s.deadline at))) (course-more s (part wire (pieces.told past)) own ∙ (ap (λ x. goes_through x own) came ∙ goes)) ∙ is)

pub course-after : (s : Session) (wire : ℕ) (past : Pieces) (v : List Event) (c d : Course) (own : List Event) →
    course s (part wire (pieces.told past)) ≡ Some c → part wire v ≡ own → goes_through (Some c) own ≡ Some d →
    course s (part wire (pieces.told (past ▸ visit wire v))) ≡ Some d
course-after s wire past v c d own came mine goes =
    ap (course s) (part-append wire (pieces.told past) v ∙ ap (λ x. part wire (pieces.told past) ++ x) mine)
    ∙ (course-more s (part wire (pieces.told past)) own ∙ (ap (λ x. goes_through x own) came ∙ goes))

-- no timer was made
made-none : (old new : Core) (v : List Event) → new.made ≡ old.made → numbered_in v ≡ 0 → new.made ≡ old.made + notices_in v
made-none old new v same none = omega (arith, same, unnumbered-notices v none)

-- ---- places behind a visit of the wire

pub key-here : (wire : ℕ) (past : Pieces) (v : List Event) → key_of wire (past ▸ visit wire v) ≡ key_through (key_of wire past) v
key-here wire past v = rw (eq-eqb wire wire refl) refl

pub moment-here : (wire : ℕ) (past : Pieces) (v : List Event) → moment wire (past ▸ visit wire v) ≡ last_reading None v
moment-here wire past v = rw (eq-eqb wire wire refl) refl

pub paused-here : (wire : ℕ) (past : Pieces) (v : List Event) → paused wire (past ▸ visit wire v) ≡ last_stop (paused wire past) v
paused-here wire past v = rw (eq-eqb wire wire refl) refl

pub waits-here : (x : Dir) (wire : ℕ) (past : Pieces) (v : List Event) → waits x wire (past ▸ visit wire v) ≡ waits_through x (waits x wire past) v
waits-here x wire past v = rw (eq-eqb wire wire refl) refl

-- ---- a session that was visited before

others-stay : (wire w : ℕ) (calls tail : List Event) → AreCalls wire calls → part w tail ≡ [] → w ≢ wire → part w (calls ++ tail) ≡ []
others-stay wire w calls tail own none other = part-append w calls tail ∙ (ap (λ x. x ++ part w tail) (part-other wire w calls own other) ∙ none)

own-stay : (wire : ℕ) (calls tail : List Event) → AreCalls wire calls → part wire tail ≡ [] → part wire (calls ++ tail) ≡ calls
own-stay wire calls tail own none =
    part-append wire calls tail ∙ (ap (λ x. x ++ part wire tail) (part-own wire calls own) ∙ (ap (λ x. calls ++ x) none ∙ append-nil calls))

no-arms : (o : Option (List Event)) → o ≡ None → 0 ≡ length (arms_told o)
no-arms None e = refl
no-arms (Some ms) e = cc

some-arms : (o : Option (List Event)) → is_some o ≡ true → (arm : List Event) × (o ≡ Some arm)
some-arms None is = absurd (both_ways false refl is)
some-arms (Some arm) is = (arm, refl)

pub ended-out : (late : Bool) (d : Course) (e : Ended) → is_awake e.ending ≡ true → outcome_of late d ≡ Some (outcome e) → is_ended (outcome_in late d.progress) ≡ true
ended-out late d e awake is = ap is_ended is ∙ ap not (awake-ends e.ending awake)

-- a visit over a registered wire ends with a session that has ended, or comes to its look at the clock
abbrev pub IsReading : Session → ℕ → Slot → Stage → Type 0
IsReading s key (slot.Ended e) stage = stage ≡ finished
IsReading s key (slot.Asleep c) stage = (end : Course) × (stage ≡ rests_at s key end)
IsReading s key slot.Refused stage = ⊥

-- what a session comes to whose conversation waits for its wire
abbrev pub waits_so : Opening → Outcome
waits_so c = record { ending = ending.Waiting; written = c.written; leftover = c.rest }

-- A visit up to its look at the clock, behind which the session waits for its wire.
pub record WaitsInRecord (s : Session) (wire key : ℕ) (past : Pieces) (before after : Option (List Event))
    (old mid : Core) (c : Sleeper) (v : List Event) : Type 0 where
  pub gained : after ≡ told before v
  pub end : Course
  pub comes : ComesTo s wire past v (rests_at s key end)
  pub held : Held
  pub shows : ShowsAsleep (past ▸ visit wire v) (map shown mid.sources) wire key held
  pub others : (w : ℕ) → w ≢ wire → part w v ≡ []
  pub rests : IsBetweenCalls mid
  pub ticker : mid.ticker ≡ old.ticker
  pub made : mid.made ≡ old.made
  pub begun : mid.begun ≡ after_begun old.begun (count_by is_modify v)
  pub unnumbered : numbered_in v ≡ 0
  pub at : c.key ≡ key
  pub open_ : c.client.ended ≡ false
  pub untimed : c.alarm ≡ None
  pub unread : last_reading None v ≡ None
  pub unnoticed : notified_through (notified wire past) v ≡ notified wire past
  pub registered : key_of wire (past ▸ visit wire v) ≡ Some key
  pub talking : Talking s wire (past ▸ visit wire v) c.client
  pub waiting : outcome_of false (stands_at s.party talking.talk talking.got c.client (Some talking.dir)) ≡
      Some (waits_so c.client)
  pub dir : Dir
  pub last : paused wire (past ▸ visit wire v) ≡ Some dir
  pub up : waits dir wire (past ▸ visit wire v) ≡ true

module _ (s : Session) (wire key : ℕ) (past : Pieces) (r0 r1 : Option (List Event)) (old new : Core) (c : Opening) (talk : List (List ℕ) → Said) (b : List ℕ) (paused-so : Option Dir)
    (shows : Shows past (map shown old.sources)) (stands : StandsIn talk b c)
    (came : course s (part wire (pieces.told past)) ≡ Some (stands_at s.party talk b c paused-so))
    (open_ : is_ended (outcome_in false (stands_at s.party talk b c paused-so).progress) ≡ false) where
  again-ended : (e : Ended) (h h' : Held) (calls : List Event) (o : Option (List Event)) → RegisteredVisit wire key r0 r1 old new c (slot.Ended e) h h' calls o →
      VisitInRecord s wire past r0 r1 old new (slot.Ended e) (calls ++ event.Delete wire key true ∷ [])
  again-ended e h h' calls o x =
      let tail : List Event = event.Delete wire key true ∷ [] in
      let v : List Event = calls ++ tail in
      let begin : Course = stands_at s.party talk b c paused-so in
      let own : AreCalls wire calls = x.own talk b stands in
      let late : Bool = has_reached s.deadline (moment wire (past ▸ visit wire v)) in
      let d = came-through false (goes_through (Some begin) calls) (outcome e) (x.stays.ends talk b paused-so s.party false stands) in
      let f = came-through late (goes_through (Some begin) calls) (outcome e) (x.stays.ends talk b paused-so s.party late stands) in
      let source = shows.each key h x.was in
      let conv : Converses wire h begin calls h' None d.0 =
      record { called = own; asked = x.asked ∙ ap (λ y. Some (record { held = h'; over = y })) x.stays.over; through = d.1 } in
      let over : Concludes begin d.0 = record { was_open = open_; ended = ended-out false d.0 e x.stays.awake d.2 } in
      let V : ℕ → Type 0 = λ k. Visit s wire past (calls ++ event.Delete wire k true ∷ []) in
      let G : ℕ → ℕ → Type 0 = λ w k. Shows (past ▸ visit w (calls ++ event.Delete w k true ∷ [])) (registry (map shown old.sources) (calls ++ event.Delete w k true ∷ [])) in
      let g : G h.wire h.key = later-over-shows past (map shown old.sources) h h' calls begin d.0 shows (ap (held_at (map shown old.sources)) source.0 ∙ x.was)
      (subst (λ (w : ℕ). Converses w h begin calls h' None d.0) (sym x.wired) conv) in
      record {
        gained = x.gained;
        visits = subst V source.0
            (later-visits-end s wire past h h' calls begin d.0 (ap (λ w. key_of w past) (sym x.wired) ∙ source.1.keyed)
            (subst (λ (w : ℕ). StandsAt (here w past) h) x.wired source.1.stands) came conv over);
        shows = subst (λ y. Shows (past ▸ visit wire v) y) x.shows (subst (λ (k : ℕ). G wire k) source.0 (subst (λ (w : ℕ). G w h.key) x.wired g));
        others = λ w other. others-stay wire w calls tail own refl other;
        rests = x.rests;
        ticker = x.ticker;
        made = made-none old new v x.made x.unnumbered;
        begun = x.begun ∙ ap (after_begun old.begun) (sym (armings-stay wire calls tail own ∙ no-arms o x.stays.over));
        waits = unnumbered-waits v x.unnumbered;
        stands = λ pending. record {
          comes = record {
            on = x.stays.wired;
            at = x.stays.unread ∙ sym (moment-here wire past v ∙ calls-reading wire calls tail None own);
            comes = comes-after s wire past v begin f.0 calls (outcome e) came (own-stay wire calls tail own refl) f.1 f.2;
          };
          awake = x.stays.awake;
          gone = key-here wire past v ∙ key-append (key_of wire past) calls tail;
        };
      }

  again-asleep : (sl : Sleeper) (h h' : Held) (calls : List Event) (o : Option (List Event)) (b' : List ℕ) → RegisteredVisit wire key r0 r1 old new c (slot.Asleep sl) h h' calls o →
      Pauses talk b c sl.client calls b' → (arm : List Event) → o ≡ Some arm →
      WaitsInRecord s wire key past r0 r1 old new sl (calls ++ arms_told o)
  again-asleep sl h h' calls o b' x goes arm is =
      let tail : List Event = arms_told o in
      let v : List Event = calls ++ tail in
      let begin : Course = stands_at s.party talk b c paused-so in
      let end : Course = stands_at s.party talk b' sl.client (Some goes.dir) in
      let own : AreCalls wire calls = x.own talk b stands in
      let source = shows.each key h x.was in
      let arming : IsArming o = is-arming h h' calls o x.asked in
      let keyed : key_of wire past ≡ Some h.key = ap (λ w. key_of w past) (sym x.wired) ∙ source.1.keyed in
      let sides : StandsAt (here wire past) h = subst (λ (w : ℕ). StandsAt (here w past) h) x.wired source.1.stands in
      let conv : Converses wire h begin calls h' (Some arm) end =
      record { called = own; asked = x.asked ∙ ap (λ y. Some (record { held = h'; over = y })) is; through = goes.through paused-so s.party } in
      let told-so : calls ++ arm ≡ v = ap (λ y. calls ++ arms_told y) (sym is) in
      let G : ℕ → Type 0 = λ w. ShowsAsleep (past ▸ visit w (calls ++ arm)) (registry (map shown old.sources) (calls ++ arm)) w h.key h' in
      let g : G h.wire = later-asleep-shows past (map shown old.sources) h h' calls arm begin end shows (ap (held_at (map shown old.sources)) source.0 ∙ x.was)
      (subst (λ (w : ℕ). Converses w h begin calls h' (Some arm) end) (sym x.wired) conv) in
      let G' : List Event → Type 0 = λ y. ShowsAsleep (past ▸ visit wire y) (registry (map shown old.sources) y) wire h.key h' in
      let leaves : LeavesAsleep (here wire past) h' v = subst (LeavesAsleep (here wire past) h') told-so (stays-leave-places wire (here wire past) h h' calls arm begin end sides conv) in
      record {
        gained = x.gained;
        end = end;
        comes = subst (λ (k : ℕ). ComesTo s wire past v (rests_at s k end)) source.0
            (subst (λ y. ComesTo s wire past y (rests_at s h.key end)) told-so
            (later-visits-sleep s wire past h h' calls arm begin end keyed x.wired sides came conv));
        held = h';
        shows = subst (λ y. ShowsAsleep (past ▸ visit wire v) y wire key h') x.shows
            (subst (λ (k : ℕ). ShowsAsleep (past ▸ visit wire v) (registry (map shown old.sources) v) wire k h') source.0
            (subst G' told-so (subst G x.wired g)));
        others = λ w other. others-stay wire w calls tail own (x.apart w) other;
        rests = x.rests;
        ticker = x.ticker;
        made = x.made;
        begun = x.begun ∙ ap (after_begun old.begun) (sym (armings-stay wire calls tail own ∙ arming.counted));
        unnumbered = x.unnumbered;
        at = x.stays.at;
        open_ = x.stays.open_;
        untimed = x.stays.untimed;
        unread = calls-reading wire calls tail None own ∙ arming.unread None;
        unnoticed = calls-notified wire calls tail (notified wire past) own ∙ arming.unnoticed (notified wire past);
        registered =
            key-here wire past v
            ∙ (key-append (key_of wire past) calls tail
            ∙ (arming.keyless _ ∙ (calls-key wire calls (key_of wire past) own ∙ (keyed ∙ ap Some source.0))));
        talking = record {
          talk = talk;
          got = b';
          dir = goes.dir;
          stands = goes.stands;
          through = course-after s wire past v begin end calls came (own-stay wire calls tail own (x.apart wire)) (goes.through paused-so s.party);
        };
        waiting = goes.waiting s.party;
        dir = leaves.dir;
        last = paused-here wire past v ∙ leaves.stop (paused wire past);
        up = waits-here leaves.dir wire past v ∙ (side-waits _ _ (side_held leaves.dir h') (leaves.sides leaves.dir) ∙ leaves.waits);
      }

-- ---- a session that was not visited before

-- its Dials come to this
pub first-dials : (s : Session) (wire : ℕ) (past : Pieces) (dials : List Answered) (to : Dialling) → IsNew wire past →
    dials_through (dialling.begins s.party) dials ≡ Some to → FirstDials s wire past dials to
first-dials s wire past dials to new comes = record { comes = comes; unvisited = new.unvisited; unheard = new.unheard }

-- a session after its Dials
abbrev dialling_course : Session → Dialling → Course
dialling_course s d = record { party = s.party; progress = came_to s.party d }

course_at : (s : Session) (wire : ℕ) (d to : Dialling) (a : Answered) (dials : List Answered) (o : Option Dialling) →
    dialled d a.question a.answer ≡ o →
    ((next : Dialling) → dials_through next dials ≡ Some to →
    goes_through (Some (dialling_course s next)) (dials_of wire dials) ≡ Some (dialling_course s to)) →
    option_and_then (λ next. dials_through next dials) o ≡ Some to →
    goes_through (Some (dialling_course s d)) (dials_of wire (a ∷ dials)) ≡ Some (dialling_course s to)
course_at s wire d to a dials None is go comes = absurd (none-some (dialling_course s to) (ap (option_map (dialling_course s)) comes))
course_at s wire (dial_asks question purpose) to a dials (Some next) is go comes =
    ap (λ o. goes_through (option_map (λ p. record { party = s.party; progress = p }) (option_map (came_to s.party) o)) (dials_of wire dials)) is
    ∙ go next comes
course_at s wire (fails e) to a dials (Some next) is go comes = absurd (none-some next is)
course_at s wire (opens o) to a dials (Some next) is go comes = absurd (none-some next is)

course-by : (s : Session) (wire : ℕ) (d to : Dialling) (dials : List Answered) → dials_through d dials ≡ Some to →
    goes_through (Some (dialling_course s d)) (dials_of wire dials) ≡ Some (dialling_course s to)
course-by s wire d to [] comes = ap (option_map (dialling_course s)) comes
course-by s wire d to (a ∷ dials) comes =
    course_at s wire d to a dials (dialled d a.question a.answer) refl (λ next then_. course-by s wire next to dials then_) comes

course-dialled : (s : Session) (wire : ℕ) (dials : List Answered) (to : Dialling) →
    dials_through (dialling.begins s.party) dials ≡ Some to → course s (dials_of wire dials) ≡ Some (dialling_course s to)
unfolding course
course-dialled s wire dials to comes = course-by s wire (dialling.begins s.party) to dials comes

pub goes-undialled : (s : Session) (wire : ℕ) (past : Pieces) (r0 r1 : Option (List Event)) (old : Core) (dials : List Answered) (failure : Ending) → IsNew wire past →
    IsBetweenCalls old → DialsTo wire (dialling.begins s.party) (fails failure) r0 r1 dials → is_awake failure ≡ true →
    Shows past (map shown old.sources) →
    VisitInRecord s wire past r0 r1 old old (slot.Ended (record { ending = failure; written = []; leftover = []; wire = wire; moment = None })) (dials_of wire dials)
goes-undialled s wire past r0 r1 old dials failure new rests to awake shows =
    let v : List Event = dials_of wire dials in
    let o : Outcome = record { ending = failure; written = []; leftover = [] } in
    let mine : part wire (pieces.told past ++ v) ≡ v = part-append wire (pieces.told past) v ∙ (ap (λ x. x ++ part wire v) new.unheard ∙ dials-part wire dials) in
    let late : Bool = has_reached s.deadline (moment wire (past ▸ visit wire v)) in
    record {
      gained = to.gained;
      visits = first-visits-fail s wire past dials failure (first-dials s wire past dials (fails failure) new to.through);
      shows = failed-dial-shows wire past (map shown old.sources) dials shows (unvisited wire past new.unvisited).key;
      others = λ w other. dials-other wire w dials other;
      rests = rests;
      ticker = refl;
      made = made-none old old v refl (dials-unnumbered wire dials);
      begun = begun-still old.begun rests.fits ∙ ap (after_begun old.begun) (sym (dials-armings wire dials));
      waits = unnumbered-waits v (dials-unnumbered wire dials);
      stands = λ pending. record {
        comes = record {
          on = refl;
          at = sym (moment-here wire past v ∙ dials-still last_reading_by (λ y w q a. refl) wire dials None);
          comes = ap (λ x. option_and_then (outcome_of late) (course s x)) mine
              ∙ ap (option_and_then (outcome_of late)) (course-dialled s wire dials (fails failure) to.through);
        };
        awake = awake;
        gone = key-here wire past v ∙ (dials-still key_by (λ y w q a. refl) wire dials (key_of wire past) ∙ (unvisited wire past new.unvisited).key);
      };
    }

-- ---- a conversation that begins is asked for something

some-length : (n : List ℕ) (c : ℕ) (l : List ℕ) → 0 < sum_by length ((piece n ++ (c ∷ l) ∷ []) ++ [])
some-length [] c l = omega arith
some-length (x ∷ n) c l = omega arith

begins-open : (p : Party) (o : Opened) → is_ended (outcome_in false (converses (conversation p o) silence)) ≡ false
unfolding client server ask ask_from talk
begins-open (party.Client address config) o =
    let more : nat_lt 0 (sum_by length ((first_pieces (terms_of config (dialling.guid_in (address_of address)) o.passes o.tcp o.nonce)) ++ [])) ≡ true = lt-ltb 0 _ (some-length o.nonce 0 _) in
    rw more refl
begins-open (party.Server config) o = refl

-- ---- a wire was opened

module _ (s : Session) (wire key : ℕ) (past : Pieces) (dials : List Answered) (wired : dialling.Opened) (r0 r1 :
    Option (List Event)) (old mid new : Core) (talk : List (List ℕ) → Said) (client : Opening)
    (fresh : IsNew wire past) (shows : Shows past (map shown old.sources))
    (through : dials_through (dialling.begins s.party) dials ≡ Some (opens wired))
    (begun : conversation s.party wired ≡ talk) (stands : StandsIn talk [] client) (unwritten : client.written ≡ [])
    (free : held_at (map shown old.sources) key ≡ None) (core : mid ≡ inserted old key wire)
    (added : with_held (map shown old.sources) (idle wire key) ≡ map shown mid.sources) where
  -- where the conversation begins in the record
  abbrev begun-at : Option (List Event)
  begun-at = told (told r0 (dials_of wire dials)) (event.Add wire key true ∷ [])

  -- a visit of these calls, behind the Dials and the Add
  abbrev opened-visit : List Event → List Event
  opened-visit v = opening wire key dials ++ v

  abbrev start : Course
  start = opened_course s wired

  start-so : stands_at s.party talk [] client None ≡ start
  start-so = λ i. record { party = s.party; progress = converses (sym begun i) (record { got = []; written = unwritten i; paused = None }) }

  dialled-so : FirstDials s wire past dials (opens wired)
  dialled-so = first-dials s wire past dials (opens wired) fresh through

  idle-here : (h : Held) → held_at (map shown mid.sources) key ≡ Some h → h ≡ idle wire key
  idle-here h was = same_Some h (idle wire key) (sym was ∙ (ap (λ x. held_at x key) (sym added) ∙ with-at (map shown old.sources) (idle wire key) free))

  heard : (v own : List Event) → part wire v ≡ own → part wire (pieces.told past ++ opened-visit v) ≡ dials_of wire dials ++ own
  heard v own mine =
      part-append wire (pieces.told past) (opened-visit v)
      ∙ (ap (λ x. x ++ part wire (opened-visit v)) fresh.unheard ∙ (opening-part wire key dials v ∙ ap (λ x. dials_of wire dials ++ x) mine))

  course-here : (v own : List Event) (d : Course) → part wire v ≡ own → goes_through (Some start) own ≡ Some d →
      course s (part wire (pieces.told (past ▸ visit wire (opened-visit v)))) ≡ Some d
  course-here v own d mine goes =
      ap (course s) (heard v own mine)
      ∙ (course-more s (dials_of wire dials) own
      ∙ (ap (λ x. goes_through x own) (course-dialled s wire dials (opens wired) through)
      ∙ goes))

  comes-here : (v own : List Event) (d : Course) (o : Outcome) → part wire v ≡ own → goes_through (Some start) own ≡ Some d →
      outcome_of (has_reached s.deadline (moment wire (past ▸ visit wire (opened-visit v)))) d ≡ Some o → comes_to s wire (past ▸ visit wire (opened-visit v)) ≡ Some o
  comes-here v own d o mine goes is =
      ap (option_and_then (outcome_of (has_reached s.deadline (moment wire (past ▸ visit wire (opened-visit v)))))) (course-here v own d mine goes) ∙ is

  gains : (v : List Event) → r1 ≡ told begun-at v → r1 ≡ told r0 (opened-visit v)
  gains v gained = gained ∙ (ap (λ r. told r v) (told-told r0 (dials_of wire dials) (event.Add wire key true ∷ [])) ∙ told-told r0 (opening wire key dials) v)

  others-opened : (w : ℕ) (v : List Event) → w ≢ wire → part w v ≡ [] → part w (opened-visit v) ≡ []
  others-opened w v other none = opening-other wire w key dials v other ∙ none

  -- the folds of such a visit begin behind the registration
  key-opened : (v : List Event) → key_of wire (past ▸ visit wire (opened-visit v)) ≡ key_through (Some key) v
  key-opened v = key-here wire past (opened-visit v) ∙ opening-fold key_by (λ y w q a. refl) wire key dials v (key_of wire past)

  moment-opened : (v : List Event) → moment wire (past ▸ visit wire (opened-visit v)) ≡ last_reading None v
  moment-opened v = moment-here wire past (opened-visit v) ∙ opening-fold last_reading_by (λ y w q a. refl) wire key dials v None

  paused-opened : (v : List Event) → paused wire (past ▸ visit wire (opened-visit v)) ≡ last_stop (paused wire past) v
  paused-opened v = paused-here wire past (opened-visit v) ∙ opening-fold last_stop_by (λ y w q a. refl) wire key dials v (paused wire past)

  waits-opened : (x : Dir) (v : List Event) → waits x wire (past ▸ visit wire (opened-visit v)) ≡ waits_through x (waits x wire past) v
  waits-opened x v = waits-here x wire past (opened-visit v) ∙ opening-fold (waits_by x) (λ y w q a. refl) wire key dials v (waits x wire past)

  first-ended : (e : Ended) (h h' : Held) (calls : List Event) (o : Option (List Event)) →
      RegisteredVisit wire key begun-at r1 mid new client (slot.Ended e) h h' calls o →
      VisitInRecord s wire past r0 r1 old new (slot.Ended e) (opened-visit (calls ++ event.Delete wire key true ∷ []))
  first-ended e h h' calls o x =
      let tail : List Event = event.Delete wire key true ∷ [] in
      let v : List Event = calls ++ tail in
      let own : AreCalls wire calls = x.own talk [] stands in
      let late : Bool = has_reached s.deadline (moment wire (past ▸ visit wire (opened-visit v))) in
      let E : Course → Bool → Type 0 = λ c b. option_and_then (outcome_of b) (goes_through (Some c) calls) ≡ Some (outcome e) in
      let d = came-through false (goes_through (Some start) calls) (outcome e) (subst (λ c. E c false) start-so (x.stays.ends talk [] None s.party false stands)) in
      let f = came-through late (goes_through (Some start) calls) (outcome e) (subst (λ c. E c late) start-so (x.stays.ends talk [] None s.party late stands)) in
      let conv : Converses wire (idle wire key) start calls h' None d.0 = record {
        called = own;
        asked = ap (λ y. asks (Some (begins y)) calls) (sym (idle-here h x.was)) ∙ (x.asked ∙ ap (λ y. Some (record { held = h'; over = y })) x.stays.over);
        through = d.1;
      } in
      let over : Concludes start d.0 = record { was_open = begins-open s.party wired; ended = ended-out false d.0 e x.stays.awake d.2 } in
      record {
        gained = gains v x.gained;
        visits = first-visits-end s wire key past dials wired h' calls d.0 dialled-so
            (shows.free key free) conv over;
        shows = subst (λ y. Shows (past ▸ visit wire (opened-visit v)) y) (opening-sources wire key dials v (map shown old.sources) ∙ (ap (λ y. registry y v) added ∙ x.shows))
            (first-over-shows wire key past (map shown old.sources) dials h' calls start d.0 shows fresh.unvisited free conv);
        others = λ w other. others-opened w v other (others-stay wire w calls tail own refl other);
        rests = x.rests;
        ticker = x.ticker ∙ ap (λ y. y.ticker) core;
        made = made-none old new (opened-visit v) (x.made ∙ ap (λ y. y.made) core)
            (opening-unnumbered wire key dials v ∙ x.unnumbered);
        begun = x.begun ∙ (ap (λ y. after_begun y.begun (length (arms_told o))) core ∙ ap (after_begun old.begun)
            (sym (opening-armings wire key dials v ∙ (armings-stay wire calls tail own ∙ no-arms o x.stays.over))));
        waits = unnumbered-waits (opened-visit v) (opening-unnumbered wire key dials v ∙ x.unnumbered);
        stands = λ pending. record {
          comes = record {
            on = x.stays.wired;
            at = x.stays.unread ∙ sym (moment-opened v ∙ calls-reading wire calls tail None own);
            comes = comes-here v calls f.0 (outcome e) (own-stay wire calls tail own refl) f.1 f.2;
          };
          awake = x.stays.awake;
          gone = key-opened v ∙ key-append (Some key) calls tail;
        };
      }

  first-asleep : (sl : Sleeper) (h h' : Held) (calls : List Event) (o : Option (List Event)) (b' : List ℕ) →
      RegisteredVisit wire key begun-at r1 mid new client (slot.Asleep sl) h h' calls o → Pauses talk [] client sl.client calls b' →
      (arm : List Event) → o ≡ Some arm →
      WaitsInRecord s wire key past r0 r1 old new sl (opened-visit (calls ++ arms_told o))
  first-asleep sl h h' calls o b' x goes arm is =
      let tail : List Event = arms_told o in
      let v : List Event = calls ++ tail in
      let here' : Here = registered_at wire past key in
      let end : Course = stands_at s.party talk b' sl.client (Some goes.dir) in
      let own : AreCalls wire calls = x.own talk [] stands in
      let arming : IsArming o = is-arming h h' calls o x.asked in
      let through : goes_through (Some start) calls ≡ Some end = ap (λ c. goes_through (Some c) calls) (sym start-so) ∙ goes.through None s.party in
      let conv : Converses wire (idle wire key) start calls h' (Some arm) end = record {
        called = own;
        asked = ap (λ y. asks (Some (begins y)) calls) (sym (idle-here h x.was)) ∙ (x.asked ∙ ap (λ y. Some (record { held = h'; over = y })) is);
        through = through;
      } in
      let told-so : calls ++ arm ≡ v = ap (λ y. calls ++ arms_told y) (sym is) in
      let sides : StandsAt here' (idle wire key) = stands-idle wire past key (unvisited wire past fresh.unvisited) in
      let leaves : LeavesAsleep here' h' v = subst (LeavesAsleep here' h') told-so (stays-leave-places wire here' (idle wire key) h' calls arm start end sides conv) in
      record {
        gained = gains v x.gained;
        end = end;
        comes = subst (λ y. ComesTo s wire past (opened-visit y) (rests_at s key end)) told-so
            (first-visits-sleep s wire key past dials wired h' calls arm end dialled-so (shows.free key free) conv);
        held = h';
        shows = subst (λ y. ShowsAsleep (past ▸ visit wire (opened-visit v)) y wire key h')
            (opening-sources wire key dials v (map shown old.sources) ∙ (ap (λ y. registry y v) added ∙ x.shows))
            (subst (λ y. ShowsAsleep (past ▸ visit wire (opened-visit y)) (registry (map shown old.sources) (opened-visit y)) wire key h')
            told-so
            (first-asleep-shows wire key past (map shown old.sources) dials h' calls arm start end shows fresh.unvisited free conv));
        others = λ w other. others-opened w v other (others-stay wire w calls tail own (x.apart w) other);
        rests = x.rests;
        ticker = x.ticker ∙ ap (λ y. y.ticker) core;
        made = x.made ∙ ap (λ y. y.made) core;
        begun = x.begun ∙ (ap (λ y. after_begun y.begun (length (arms_told o))) core ∙ ap (after_begun old.begun)
            (sym (opening-armings wire key dials v ∙ (armings-stay wire calls tail own ∙ arming.counted))));
        unnumbered = opening-unnumbered wire key dials v ∙ x.unnumbered;
        at = x.stays.at;
        open_ = x.stays.open_;
        untimed = x.stays.untimed;
        unread = opening-fold last_reading_by (λ y w q a. refl) wire key dials v None
            ∙ (calls-reading wire calls tail None own ∙ arming.unread None);
        unnoticed = opening-fold notified_by (λ y w q a. refl) wire key dials v (notified wire past)
            ∙ (calls-notified wire calls tail (notified wire past) own ∙ arming.unnoticed (notified wire past));
        registered = key-opened v ∙ (key-append (Some key) calls tail ∙ (arming.keyless _ ∙ calls-key wire calls (Some key) own));
        talking = record {
          talk = talk;
          got = b';
          dir = goes.dir;
          stands = goes.stands;
          through = course-here v calls end (own-stay wire calls tail own (x.apart wire)) through;
        };
        waiting = goes.waiting s.party;
        dir = leaves.dir;
        last = paused-opened v ∙ leaves.stop _;
        up = waits-opened leaves.dir v ∙ (side-waits _ _ (side_held leaves.dir h') (leaves.sides leaves.dir) ∙ leaves.waits);
      }

  opened-found : (sl : Sleeper) (h h' : Held) (calls : List Event) (o : Option (List Event)) →
      RegisteredVisit wire key begun-at r1 mid new client (slot.Asleep sl) h h' calls o →
      (b' : List ℕ) × Pauses talk [] client sl.client calls b' → (arm : List Event) × (o ≡ Some arm) →
      WaitsInRecord s wire key past r0 r1 old new sl (opened-visit (calls ++ arms_told o))
  opened-found sl h h' calls o x (b', goes) (arm, is) = first-asleep sl h h' calls o b' x goes arm is

  -- a first visit over a wire that was opened, up to its look at the clock
  pub opened-ends : (e : Ended) → MakesRegisteredVisit wire key begun-at r1 mid new client (slot.Ended e) →
      (v : List Event) × VisitInRecord s wire past r0 r1 old new (slot.Ended e) v
  opened-ends e (h, h', calls, o, x) =
      (opened-visit (calls ++ event.Delete wire key true ∷ []), first-ended e h h' calls o x)

  pub opened-waits : (sl : Sleeper) → MakesRegisteredVisit wire key begun-at r1 mid new client (slot.Asleep sl) →
      (v : List Event) × WaitsInRecord s wire key past r0 r1 old new sl v
  opened-waits sl (h, h', calls, o, x) = (
    opened-visit (calls ++ arms_told o),
    opened-found sl h h' calls o x (x.stays.goes talk [] stands) (some-arms o x.stays.over),
  )

  -- such a visit, by its parts
  pub opened-comes : (c : Slot) (h h' : Held) (calls : List Event) (o : Option (List Event)) →
      RegisteredVisit wire key begun-at r1 mid new client c h h' calls o →
      (stage : Stage) × ComesTo s wire past (opened-visit (calls ++ visited.tail_of wire key o c)) stage
      × IsReading s key c stage
  opened-comes (slot.Ended e) h h' calls o x = (finished, (first-ended e h h' calls o x).visits, refl)
  opened-comes (slot.Asleep sl) h h' calls o x =
      let w = opened-found sl h h' calls o x (x.stays.goes talk [] stands) (some-arms o x.stays.over) in
      (rests_at s key w.end, w.comes, (w.end, refl))
  opened-comes slot.Refused h h' calls o x = absurd x.stays

-- ---- a later visit

module _ (s : Session) (wire key : ℕ) (past : Pieces) (r0 r1 : Option (List Event)) (old new : Core) (c : Opening)
    (talk : List (List ℕ) → Said) (b : List ℕ) (paused-so : Option Dir) (shows : Shows past (map shown old.sources))
    (stands : StandsIn talk b c)
    (came : course s (part wire (pieces.told past)) ≡ Some (stands_at s.party talk b c paused-so))
    (open_ : is_ended (outcome_in false (stands_at s.party talk b c paused-so).progress) ≡ false) where
  again-found : (sl : Sleeper) (h h' : Held) (calls : List Event) (o : Option (List Event)) →
      RegisteredVisit wire key r0 r1 old new c (slot.Asleep sl) h h' calls o →
      (b' : List ℕ) × Pauses talk b c sl.client calls b' → (arm : List Event) × (o ≡ Some arm) →
      WaitsInRecord s wire key past r0 r1 old new sl (calls ++ arms_told o)
  again-found sl h h' calls o x (b', goes) (arm, is) =
      again-asleep s wire key past r0 r1 old new c talk b paused-so shows stands came open_ sl h h' calls o b' x goes
      arm is

  again-ends : (e : Ended) → MakesRegisteredVisit wire key r0 r1 old new c (slot.Ended e) →
      (v : List Event) × VisitInRecord s wire past r0 r1 old new (slot.Ended e) v
  again-ends e (h, h', calls, o, x) = (
    calls ++ event.Delete wire key true ∷ [],
    again-ended s wire key past r0 r1 old new c talk b paused-so shows stands came open_ e h h' calls o x,
  )

  again-waits : (sl : Sleeper) → MakesRegisteredVisit wire key r0 r1 old new c (slot.Asleep sl) →
      (v : List Event) × WaitsInRecord s wire key past r0 r1 old new sl v
  again-waits sl (h, h', calls, o, x) =
      (calls ++ arms_told o, again-found sl h h' calls o x (x.stays.goes talk b stands) (some-arms o x.stays.over))

  again-comes : (c' : Slot) (h h' : Held) (calls : List Event) (o : Option (List Event)) →
      RegisteredVisit wire key r0 r1 old new c c' h h' calls o →
      (stage : Stage) × ComesTo s wire past (calls ++ visited.tail_of wire key o c') stage × IsReading s key c' stage
  again-comes (slot.Ended e) h h' calls o x = (
    finished,
    (again-ended s wire key past r0 r1 old new c talk b paused-so shows stands came open_ e h h' calls o x).visits,
    refl,
  )
  again-comes (slot.Asleep sl) h h' calls o x =
      let w = again-found sl h h' calls o x (x.stays.goes talk b stands) (some-arms o x.stays.over) in
      (rests_at s key w.end, w.comes, (w.end, refl))
  again-comes slot.Refused h h' calls o x = absurd x.stays

module _ (s : Session) (wire : ℕ) (past : Pieces) (r0 r1 : Option (List Event)) (old new : Core)
    (sl : Sleeper) (pending : List ℕ) (shows : Shows past (map shown old.sources))
    (is : Stands s wire pending past (slot.Asleep sl)) where
  abbrev begin-at : Course
  begin-at = stands_at s.party is.talking.talk is.talking.got sl.client (Some is.talking.dir)

  -- it has not ended
  waits-still : is_ended (outcome_in false begin-at.progress) ≡ false
  waits-still =
      let late : has_reached s.deadline (moment wire past) ≡ false = ap (has_reached s.deadline) is.read ∙ is.early in
      ap is_ended (ap (λ l. outcome_of l begin-at) (sym late)
      ∙ (sym (ap (option_and_then (outcome_of (has_reached s.deadline (moment wire past)))) is.talking.through)
      ∙ is.comes))

  -- a later visit, up to its look at the clock
  pub later-ends : (e : Ended) → MakesRegisteredVisit wire sl.key r0 r1 old new sl.client (slot.Ended e) →
      (v : List Event) × VisitInRecord s wire past r0 r1 old new (slot.Ended e) v
  later-ends e visits =
      again-ends s wire sl.key past r0 r1 old new sl.client is.talking.talk is.talking.got (Some is.talking.dir) shows
      is.talking.stands is.talking.through waits-still e visits

  pub later-waits : (c : Sleeper) → MakesRegisteredVisit wire sl.key r0 r1 old new sl.client (slot.Asleep c) →
      (v : List Event) × WaitsInRecord s wire sl.key past r0 r1 old new c v
  later-waits c visits =
      again-waits s wire sl.key past r0 r1 old new sl.client is.talking.talk is.talking.got (Some is.talking.dir) shows
      is.talking.stands is.talking.through waits-still c visits

-- such a visit, by its parts
pub later-comes : (s : Session) (wire : ℕ) (past : Pieces) (r0 r1 : Option (List Event)) (old new : Core)
    (sl : Sleeper) (pending : List ℕ) (c : Slot) (h h' : Held) (calls : List Event) (o : Option (List Event)) →
    Shows past (map shown old.sources) → Stands s wire pending past (slot.Asleep sl) →
    RegisteredVisit wire sl.key r0 r1 old new sl.client c h h' calls o →
    (stage : Stage) × ComesTo s wire past (calls ++ visited.tail_of wire sl.key o c) stage × IsReading s sl.key c stage
later-comes s wire past r0 r1 old new sl pending c h h' calls o shows is x =
    again-comes s wire sl.key past r0 r1 old new sl.client is.talking.talk is.talking.got (Some is.talking.dir) shows
    is.talking.stands is.talking.through (waits-still s wire past r0 r1 old new sl pending shows is) c h h' calls o x
