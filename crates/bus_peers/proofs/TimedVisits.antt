-- What a visit with its look at the clock comes to, in the record.
use Rattle.std.proofs.Common.{◌≡◌, ◌≤◌, ◌<◌, ◌+◌, ℕ, Bool, true, false, not, if◌then◌else◌, List, [], ◌∷◌, ◌++◌}
use Rattle.std.proofs.Common.{map, Option, Some, None, is_some, inl, refl, sym, ◌∙◌, ap, subst, arith, append_assoc}
use Rattle.std.specs.Prelude.{count_by, is_none}
use Rattle.std.specs.Option.{option_map, option_and_then}
use Rattle.std.proofs.lemmas.Bool.{eq-eqb, le-leb}
use Rattle.std.proofs.lemmas.List.{append-nil}
use Rattle.std.proofs.lemmas.List.Sums.{sum_by-append, fold-append}
use Rattle.std.proofs.lemmas.Option.{none-some}
use Rattle.react_core.specs.declared.outside.Event.{Event}
use Rattle.react_core.specs.declared.outside.Event.TheVariants as event
use Rattle.react_core.specs.declared.reactor.Dir.{Dir}
use Rattle.react_core.specs.Core.{Core, removed}
use Rattle.react_core.specs.Told.{told, told-told}
use Rattle.bus_opening.specs.Talk.{Said, Ask}
use Rattle.bus_opening.specs.Talk as talks
use Rattle.bus_opening.specs.Openings.{Opening}
use Rattle.bus_session.specs.declared.ended.Ending.TheVariants as ending
use Rattle.bus_session.specs.declared.ended.Ended.{Ended}
use Rattle.bus_session.specs.declared.session.Session.{Session}
use Rattle.bus_session.specs.Counts.{waits_in, notices_in}
use Rattle.bus_session.specs.Parts.{part}
use Rattle.bus_session.specs.Outcomes.{Outcome}
use Rattle.bus_session.specs.Alone.{Talked, Course, course, concluded, pause_ends, rests, asked_next, outcome_of}
use Rattle.bus_session.specs.Alone.{has_reached}
use Rattle.bus_record.specs.Pieces as pieces
use Rattle.bus_record.specs.Pieces.{Pieces, ◌▸◌, visit, is_modify}
use Rattle.bus_record.specs.Places.{key_of, key_by, moment, last_reading, last_reading_by}
use Rattle.bus_record.specs.Places.{notified, notified_by, notified_through, is_early, is_before}
use Rattle.bus_record.specs.Visits.{finished, reading, Visit}
use Rattle.bus_record.specs.Settled.{comes_to}
use Rattle.bus_visit.specs.declared.visiting.Slot.{Slot}
use Rattle.bus_visit.specs.declared.visiting.Slot.TheVariants as slot
use Rattle.bus_visit.specs.declared.visiting.Sleeper.{Sleeper}
use Rattle.bus_visit.specs.declared.timing.Alarm.{Alarm}
use Rattle.bus_visit.specs.declared.timing.Limit.{Limit}
use Rattle.bus_visit.specs.Counts.{after_begun}
use Rattle.bus_visit.specs.Conversed.{stands_at}
use Rattle.bus_visit.specs.Dialled.{dials_of}
use Rattle.bus_visit.specs.Registry.{Held, held_at, without_held}
use Rattle.bus_visit.specs.Shown.{IsBetweenCalls, shown}
use Rattle.bus_visit.specs.Visited.{MakesRegisteredVisit}
use Rattle.bus_visit.specs.First.{FirstVisits, undialled, dialled}
use Rattle.bus_visit.specs.Timed.{timed_by, forgotten, limit_of, limit_after, moment_after, timed_out}
use Rattle.bus_visit.specs.Timed.{SleepsOn, TimedVisit, over, untimed, late, early, left_by, MakesVisit}
use Rattle.bus_visit.specs.laws.Records.{part-append, unnumbered-waits, unnumbered-notices, waits_in-append}
use Rattle.bus_visit.specs.laws.Records.{notices_in-append}
use Rattle.bus_visit.specs.laws.Removals.{rests-removed}
use Rattle.bus_visit.specs.laws.Sources.{without-shown}
use Rattle.bus_visit.specs.laws.Timers.{inserted-made, rests-timed, rests-forgotten, timed-same, timed-sources}
use Rattle.bus_visit.specs.laws.Timers.{inserted-ticker, inserted-begun, forgotten-same, forgotten-sources, removed-ticker}
use Rattle.bus_visit.specs.laws.Timers.{removed-made, removed-begun}
use Rattle.bus_peers.specs.inside.Laws.{ComesTo}
use Rattle.bus_peers.specs.inside.Shows.{Shows}
use Rattle.bus_peers.specs.inside.Slots.{IsNew, Stands, deadline_after, VisitInRecord}
use Rattle.bus_peers.proofs.LookPlaces.{look_told, look-same, joined-same, shows-same}
use Rattle.bus_peers.proofs.OtherWires.{unvisited}
use Rattle.bus_peers.proofs.Readings.{reads-late, reads-early, notices-first, unreached}
use Rattle.bus_peers.proofs.StayShows.{later-over-shows}
use Rattle.bus_peers.proofs.VisitsInRecord.{WaitsInRecord, waits_so, goes-undialled, opened-ends, opened-waits}
use Rattle.bus_peers.proofs.VisitsInRecord.{later-ends, later-waits, key-here, moment-here}

-- ---- a session that waits for its wire times out

paused_go : (talk : List (List ℕ) → Said) (t : Talked) (p : Option Dir) (written leftover : List ℕ) →
    option_map (λ dir. concluded talk t (pause_ends false)) p
    ≡ Some (record { ending = ending.Waiting; written = written; leftover = leftover }) →
    option_map (λ dir. concluded talk t (pause_ends true)) p
    ≡ Some (record { ending = ending.TimedOut; written = written; leftover = leftover })
paused_go talk t None written leftover is = absurd (none-some _ is)
paused_go talk t (Some dir) written leftover is =
    ap (option_map (λ (o : Outcome). record o { ending = ending.TimedOut })) is

-- behind its deadline it has the same bytes
late_go : (talk : List (List ℕ) → Said) (t : Talked) (a : Ask) (written leftover : List ℕ) →
    rests false talk t a ≡ Some (record { ending = ending.Waiting; written = written; leftover = leftover }) →
    rests true talk t a ≡ Some (record { ending = ending.TimedOut; written = written; leftover = leftover })
late_go talk t (talks.opens guid flag) written leftover is =
    absurd (let e = ap (option_map (λ (o : Outcome). o.ending)) is in cc)
late_go talk t talks.handshake written leftover is =
    absurd (let e = ap (option_map (λ (o : Outcome). o.ending)) is in cc)
late_go talk t talks.too_many_commands written leftover is =
    absurd (let e = ap (option_map (λ (o : Outcome). o.ending)) is in cc)
late_go talk t talks.line_too_long written leftover is =
    absurd (let e = ap (option_map (λ (o : Outcome). o.ending)) is in cc)
late_go talk t (talks.send piece) written leftover is = paused_go talk t t.paused written leftover is
late_go talk t talks.recv written leftover is = paused_go talk t t.paused written leftover is

-- ---- a source that is taken out

-- behind its removal the others are left
gone-shows : (past : Pieces) (sources : List Held) (h : Held) (wire key : ℕ) (begin : Course) → Shows past sources →
    held_at sources key ≡ Some h → h.key ≡ key → h.wire ≡ wire →
    Shows (past ▸ visit wire (event.Delete wire key true ∷ [])) (without_held sources key)
gone-shows past sources h wire key begin shows at keyed wired =
    let S : ℕ → ℕ → Type 0 = λ w k. Shows (past ▸ visit w (event.Delete w k true ∷ [])) (without_held sources k) in
    subst (λ (w : ℕ). S w key) wired (subst (λ (k : ℕ). S h.wire k) keyed
    (later-over-shows past sources h h [] begin begin shows (ap (held_at sources) keyed ∙ at)
    (record { called = tt; asked = refl; through = refl })))

-- ---- what stands behind the end of a visit

part-behind : (wire : ℕ) (past : Pieces) (v tail : List Event) → part wire tail ≡ [] →
    part wire (pieces.told (past ▸ visit wire (v ++ tail))) ≡ part wire (pieces.told (past ▸ visit wire v))
part-behind wire past v tail none =
    part-append wire (pieces.told past) (v ++ tail)
    ∙ (ap (λ x. part wire (pieces.told past) ++ x)
    (part-append wire v tail ∙ (ap (λ x. part wire v ++ x) none ∙ append-nil (part wire v)))
    ∙ sym (part-append wire (pieces.told past) v))

others-behind : (w : ℕ) (v tail : List Event) → part w v ≡ [] → part w tail ≡ [] → part w (v ++ tail) ≡ []
others-behind w v tail none still = part-append w v tail ∙ (ap (λ x. x ++ part w tail) none ∙ still)

comes-at : (s : Session) (wire : ℕ) (past : Pieces) (m : Option ℕ) (e : Course) (o : Outcome) →
    course s (part wire (pieces.told past)) ≡ Some e → moment wire past ≡ m →
    outcome_of (has_reached s.deadline m) e ≡ Some o → comes_to s wire past ≡ Some o
comes-at s wire past m e o came at is =
    ap (λ x. option_and_then (outcome_of (has_reached s.deadline x)) (course s (part wire (pieces.told past)))) at
    ∙ (ap (option_and_then (outcome_of (has_reached s.deadline m))) came ∙ is)

modifies-append : (a b : List Event) → count_by is_modify (a ++ b) ≡ count_by is_modify a + count_by is_modify b
modifies-append a b = sum_by-append _ a b

plus_zero : (a b n : ℕ) → b ≡ 0 → n ≡ a + b → a ≡ n
plus_zero a b n none is = omega (arith, none, is)

modifies-behind : (v tail : List Event) → count_by is_modify tail ≡ 0 →
    count_by is_modify v ≡ count_by is_modify (v ++ tail)
modifies-behind v tail none =
    plus_zero (count_by is_modify v) (count_by is_modify tail) (count_by is_modify (v ++ tail)) none (modifies-append v tail)

notified-here : (wire : ℕ) (past : Pieces) (v : List Event) →
    notified wire (past ▸ visit wire v) ≡ notified_through (notified wire past) v
notified-here wire past v = rw (eq-eqb wire wire refl) refl

early-here : (deadline : Option ℕ) (wire : ℕ) (past : Pieces) (v : List Event) →
    is_early deadline wire (past ▸ visit wire v) ≡ is_before deadline (last_reading None v)
early-here deadline wire past v = rw (eq-eqb wire wire refl) refl

-- ---- the events of a look

look-part : (w moment : ℕ) (number : Option ℕ) → part w (look_told moment number) ≡ []
look-part w moment None = refl
look-part w moment (Some number) = refl

look-modifies : (moment : ℕ) (number : Option ℕ) → count_by is_modify (look_told moment number) ≡ 0
look-modifies moment None = refl
look-modifies moment (Some number) = refl

look-waits : (moment : ℕ) (number : Option ℕ) → waits_in (look_told moment number) ≡ 0
look-waits moment None = refl
look-waits moment (Some number) = refl

look-reading : (moment : ℕ) (number last : Option ℕ) → last_reading last (look_told moment number) ≡ Some moment
look-reading moment None last = refl
look-reading moment (Some number) last = refl

look-notified : (moment : ℕ) (number : Option ℕ) (was : Bool) → was ≡ is_some number →
    notified_through was (look_told moment number) ≡ true
look-notified moment None was is = refl
look-notified moment (Some number) was is = is

look-made : (number : Option ℕ) (moment deadline wire : ℕ) (mid : Core) →
    (timed_by number deadline wire mid).made ≡ mid.made + notices_in (look_told moment number)
look-made None moment deadline wire mid = inserted-made mid deadline wire
look-made (Some number) moment deadline wire mid = omega arith

-- ---- the limit of a visit

abbrev deadline_in : Option Limit → Option ℕ
deadline_in limit = option_map (λ l. l.deadline) limit

abbrev has_number : Option Limit → Bool
has_number None = false
has_number (Some l) = is_some l.number

module _ (s : Session) (wire key : ℕ) (past : Pieces) (r0 r1 : Option (List Event)) (old mid : Core) (c : Sleeper)
    (v : List Event) (w : WaitsInRecord s wire key past r0 r1 old mid c v) where
  abbrev talked : Talked
  talked = record { got = w.talking.got; written = c.client.written; paused = Some w.talking.dir }

  abbrev waits-at : Course
  waits-at = stands_at s.party w.talking.talk w.talking.got c.client (Some w.talking.dir)

  -- the session waits for its wire, and has no deadline
  waits-untimed : s.deadline ≡ None → notified wire past ≡ false →
      VisitInRecord s wire past r0 r1 old mid (slot.Asleep c) v
  waits-untimed free unnoticed = record {
    gained = w.gained;
    visits = w.comes ∙ ap (λ o. Some (if is_none o then finished else reading key w.end)) free;
    shows = w.shows.shows;
    others = w.others;
    rests = w.rests;
    ticker = w.ticker;
    made = omega (arith, w.made, unnumbered-notices v w.unnumbered);
    begun = w.begun;
    waits = unnumbered-waits v w.unnumbered;
    stands = λ pending. record {
      open_ = w.open_;
      read = moment-here wire past v ∙ (w.unread ∙ sym (ap moment_after w.untimed));
      limited = free ∙ sym (ap deadline_after w.untimed);
      early = ap (λ d. has_reached d (moment_after c.alarm)) free;
      notified = notified-here wire past v ∙ (w.unnoticed ∙ (unnoticed ∙ sym (ap is_some w.untimed)));
      comes = comes-at s wire (past ▸ visit wire v) None waits-at (waits_so c.client) w.talking.through
          (moment-here wire past v ∙ w.unread)
          (ap (λ d. outcome_of (has_reached d None) waits-at) free ∙ w.waiting);
      talking = w.talking;
      paused = record {
        registered = w.registered ∙ ap Some (sym w.at);
        dir = w.dir;
        last = w.last;
        waits_or_due = inl w.up;
        early_or_due = inl (early-here s.deadline wire past v
            ∙ (ap (λ m. is_before s.deadline m) w.unread ∙ ap (λ d. is_before d None) free));
      };
    };
  }

  -- where it has a deadline, the clock is read
  module _ (l : Limit) (limited : s.deadline ≡ Some l.deadline) (noticed : notified wire past ≡ is_some l.number) where
    comes-reading : ComesTo s wire past v (reading key w.end)
    comes-reading = w.comes ∙ ap (λ o. Some (if is_none o then finished else reading key w.end)) limited

    was-noticed : notified_through (notified wire past) v ≡ is_some l.number
    was-noticed = w.unnoticed ∙ noticed

    look_visits : (moment : ℕ) (number : Option ℕ) → moment < l.deadline → l.number ≡ number →
        Visit s wire past (v ++ look_told moment number)
    look_visits moment None lt is =
        notices-first s wire key past v w.end l.deadline moment limited comes-reading lt
        (was-noticed ∙ ap is_some is)
    look_visits moment (Some number) lt is =
        reads-early s wire key past v w.end l.deadline moment limited comes-reading lt (was-noticed ∙ ap is_some is)

    module _ (a : Alarm) (r2 : Option (List Event)) (new : Core) (x : SleepsOn wire l r1 r2 mid new a) where
      abbrev looked : List Event
      looked = look_told a.moment l.number

      abbrev after : Pieces
      after = past ▸ visit wire (v ++ looked)

      lt-so : a.moment < l.deadline
      lt-so = omega (arith, x.early, x.at)

      read-so : moment wire after ≡ Some a.moment
      read-so =
          moment-here wire past (v ++ looked)
          ∙ (fold-append last_reading_by None v looked ∙ look-reading a.moment l.number (last_reading None v))

      unreached-so : has_reached s.deadline (Some a.moment) ≡ false
      unreached-so = unreached s.deadline l.deadline a.moment limited lt-so

      through-so : course s (part wire (pieces.told after)) ≡ Some waits-at
      through-so = ap (course s) (part-behind wire past v looked (look-part wire a.moment l.number)) ∙ w.talking.through

      core-same : {X : Type 0} (f : Core → X) → f (timed_by l.number l.deadline wire mid) ≡ f mid → f new ≡ f mid
      core-same f same = ap f x.core ∙ same

      -- it has not come: the session sleeps on
      looked-early : VisitInRecord s wire past r0 r2 old new (slot.Asleep (record c { alarm = Some a })) (v ++ looked)
      looked-early =
          let same = look-same wire past v a.moment l.number in
          record {
            gained = x.gained ∙ (ap (λ r. told r looked) w.gained ∙ told-told r0 v looked);
            visits = look_visits a.moment l.number lt-so refl;
            shows = subst (λ hs. Shows after hs)
                (sym (ap (map shown) (core-same (λ k. k.sources) (timed-sources l.number l.deadline wire mid))))
                (shows-same (past ▸ visit wire v) after (map shown mid.sources) same w.shows.shows);
            others = λ u other. others-behind u v looked (w.others u other) (look-part u a.moment l.number);
            rests = subst IsBetweenCalls (sym x.core) (rests-timed l.number l.deadline wire mid w.rests);
            ticker = core-same (λ k. k.ticker)
                (timed-same (λ k. k.ticker) l.number l.deadline wire mid (inserted-ticker mid l.deadline wire)) ∙ w.ticker;
            made =
                let here : new.made ≡ mid.made + notices_in looked =
                ap (λ k. k.made) x.core ∙ look-made l.number a.moment l.deadline wire mid in
                omega (arith, here, w.made, notices_in-append v looked, unnumbered-notices v w.unnumbered);
            begun = core-same (λ k. k.begun)
                (timed-same (λ k. k.begun) l.number l.deadline wire mid (inserted-begun mid l.deadline wire))
                ∙ (w.begun ∙ ap (after_begun old.begun) (modifies-behind v looked (look-modifies a.moment l.number)));
            waits = omega (arith, waits_in-append v looked, unnumbered-waits v w.unnumbered, look-waits a.moment l.number);
            stands = λ pending. record {
              open_ = w.open_;
              read = read-so;
              limited = limited ∙ ap Some (sym x.at);
              early = unreached-so;
              notified = notified-here wire past (v ++ looked)
                  ∙ (fold-append notified_by (notified wire past) v looked
                  ∙ look-notified a.moment l.number (notified_through (notified wire past) v) was-noticed);
              comes = comes-at s wire after (Some a.moment) waits-at (waits_so c.client) through-so read-so
                  (ap (λ late. outcome_of late waits-at) unreached-so ∙ w.waiting);
              talking = record {
                talk = w.talking.talk;
                got = w.talking.got;
                dir = w.talking.dir;
                stands = w.talking.stands;
                through = through-so;
              };
              paused = record {
                registered = same.key wire ∙ (w.registered ∙ ap Some (sym w.at));
                dir = w.dir;
                last = same.paused wire ∙ w.last;
                waits_or_due = inl (same.waits w.dir wire ∙ w.up);
                early_or_due = inl (early-here s.deadline wire past (v ++ looked)
                    ∙ (ap (λ m. is_before s.deadline m)
                    (fold-append last_reading_by None v looked ∙ look-reading a.moment l.number (last_reading None v))
                    ∙ ap not unreached-so));
              };
            };
          }

    module _ (m : ℕ) (r2 : Option (List Event)) (le : l.deadline ≤ m)
        (gained : r2 ≡ told r1 (event.Now m ∷ event.Delete wire key true ∷ [])) where
      abbrev gone : List Event
      gone = event.Now m ∷ event.Delete wire key true ∷ []

      abbrev left : Pieces
      left = past ▸ visit wire (v ++ gone)

      -- the reading first, and then the removal
      left-shows : Shows left (map shown (removed mid key).sources)
      left-shows =
          let here : Pieces = past ▸ visit wire (v ++ look_told m (Some 0)) in
          let was = w.shows.shows.each key w.held w.shows.held in
          let shows : Shows here (map shown mid.sources) =
          shows-same (past ▸ visit wire v) here (map shown mid.sources) (look-same wire past v m (Some 0)) w.shows.shows in
          let delete : List Event = event.Delete wire key true ∷ [] in
          subst (λ hs. Shows left hs) (sym (without-shown mid.sources key))
          (subst (λ events. Shows (past ▸ visit wire events) (without_held (map shown mid.sources) key))
          (append_assoc v (event.Now m ∷ []) delete)
          (shows-same (here ▸ visit wire delete) (past ▸ visit wire ((v ++ event.Now m ∷ []) ++ delete))
          (without_held (map shown mid.sources) key) (joined-same wire past (v ++ event.Now m ∷ []) delete)
          (gone-shows here (map shown mid.sources) w.held wire key w.end shows w.shows.held was.0 w.shows.wired)))

      read-late : moment wire left ≡ Some m
      read-late = moment-here wire past (v ++ gone) ∙ fold-append last_reading_by None v gone

      late-so : has_reached s.deadline (Some m) ≡ true
      late-so = ap (λ o. has_reached o (Some m)) limited ∙ le-leb l.deadline m le

      -- it has come: the session has ended
      looked-late : VisitInRecord s wire past r0 r2 old (removed mid key) (slot.Ended (timed_out c wire m)) (v ++ gone)
      looked-late = record {
        gained = gained ∙ (ap (λ r. told r gone) w.gained ∙ told-told r0 v gone);
        visits = reads-late s wire key past v w.end l.deadline m limited comes-reading le;
        shows = left-shows;
        others = λ u other. others-behind u v gone (w.others u other) refl;
        rests = rests-removed mid key w.rests;
        ticker = w.ticker;
        made = omega (arith, w.made, notices_in-append v gone, unnumbered-notices v w.unnumbered);
        begun = w.begun ∙ ap (after_begun old.begun) (modifies-behind v gone refl);
        waits = omega (arith, waits_in-append v gone, unnumbered-waits v w.unnumbered);
        stands = λ pending. record {
          comes = record {
            on = refl;
            at = sym read-late;
            comes = comes-at s wire left (Some m) waits-at
                (record { ending = ending.TimedOut; written = c.client.written; leftover = c.client.rest })
                (ap (course s) (part-behind wire past v gone refl) ∙ w.talking.through) read-late
                (ap (λ late. outcome_of late waits-at) late-so
                ∙ late_go w.talking.talk talked (asked_next w.talking.talk talked) c.client.written c.client.rest
                w.waiting);
          };
          awake = refl;
          gone = key-here wire past (v ++ gone) ∙ fold-append key_by (key_of wire past) v gone;
        };
      }

-- ---- the timer of a session that has ended is taken out

forgets : (s : Session) (wire : ℕ) (past : Pieces) (r0 r1 : Option (List Event)) (old new : Core) (c : Slot)
    (v : List Event) (limit : Option Limit) → VisitInRecord s wire past r0 r1 old new c v →
    VisitInRecord s wire past r0 r1 old (forgotten limit new) c v
forgets s wire past r0 r1 old new c v limit x = record {
  gained = x.gained;
  visits = x.visits;
  shows = subst (λ hs. Shows (past ▸ visit wire v) hs) (sym (ap (map shown) (forgotten-sources limit new))) x.shows;
  others = x.others;
  rests = rests-forgotten limit new x.rests;
  ticker = forgotten-same (λ k. k.ticker) limit new (λ d n. removed-ticker new d n) ∙ x.ticker;
  made = forgotten-same (λ k. k.made) limit new (λ d n. removed-made new d n) ∙ x.made;
  begun = forgotten-same (λ k. k.begun) limit new (λ d n. removed-begun new d n) ∙ x.begun;
  waits = x.waits;
  stands = x.stands;
}

-- ---- a visit over a registered wire

module _ (s : Session) (wire key : ℕ) (past : Pieces) (limit : Option Limit) (r0 from : Option (List Event))
    (old begun : Core) (opening : Opening) (limited : s.deadline ≡ deadline_in limit)
    (noticed : notified wire past ≡ has_number limit)
    (ends : (r1 : Option (List Event)) (new : Core) (e : Ended) →
    MakesRegisteredVisit wire key from r1 begun new opening (slot.Ended e) →
    (v : List Event) × VisitInRecord s wire past r0 r1 old new (slot.Ended e) v)
    (waiting : (r1 : Option (List Event)) (new : Core) (c : Sleeper) →
    MakesRegisteredVisit wire key from r1 begun new opening (slot.Asleep c) →
    (v : List Event) × WaitsInRecord s wire key past r0 r1 old new c v) where
  abbrev InRecord : Option (List Event) → Core → Slot → Type 0
  InRecord r1 new c = (v : List Event) × VisitInRecord s wire past r0 r1 old new c v

  forget : (r1 : Option (List Event)) (new last : Core) (e : Ended) → new ≡ forgotten limit last →
      InRecord r1 last (slot.Ended e) → InRecord r1 new (slot.Ended e)
  forget r1 new last e is (v, x) =
      let P : Core → Type 0 = λ k. InRecord r1 k (slot.Ended e) in
      subst P (sym is) (v, forgets s wire past r0 r1 old last (slot.Ended e) v limit x)

  timed-visit : (r1 : Option (List Event)) (new last : Core) (c : Slot) →
      TimedVisit wire key limit from r1 begun last opening c → new ≡ left_by c limit last → InRecord r1 new c
  timed-visit r1 new last c (over e x) is = forget r1 new last e is (ends r1 last e x)
  timed-visit r1 new last c (untimed sl none x) is =
      let P : Core → Type 0 = λ k. InRecord r1 k (slot.Asleep sl) in
      let w = waiting r1 last sl x in
      subst P (sym is) (
        w.0,
        waits-untimed s wire key past r0 r1 old last sl w.0 w.1 (limited ∙ ap deadline_in none)
            (noticed ∙ ap has_number none),
      )
  timed-visit r1 new last c (late l sl mid there moment at x le gained core) is =
      let w = waiting there mid sl x in
      let P : Core → Type 0 = λ k. InRecord r1 k (slot.Ended (timed_out sl wire moment)) in
      forget r1 new last (timed_out sl wire moment) is
      (subst P (sym core) (
        w.0 ++ event.Now moment ∷ event.Delete wire key true ∷ [],
        looked-late s wire key past r0 there old mid sl w.0 w.1 l (limited ∙ ap deadline_in at)
            (noticed ∙ ap has_number at) moment r1 le gained,
      ))
  timed-visit r1 new last c (early l sl mid there a at x looked) is =
      let w = waiting there mid sl x in
      let P : Core → Type 0 = λ k. InRecord r1 k (slot.Asleep (record sl { alarm = Some a })) in
      subst P (sym is) (
        w.0 ++ look_told a.moment l.number,
        looked-early s wire key past r0 there old mid sl w.0 w.1 l (limited ∙ ap deadline_in at)
            (noticed ∙ ap has_number at) a r1 last looked,
      )

  made-visit : (r1 : Option (List Event)) (new : Core) (c : Slot) → MakesVisit wire key limit from r1 begun new opening c →
      InRecord r1 new c
  made-visit r1 new c (last, x, is) = timed-visit r1 new last c x is

-- ---- a first visit, and a later one

limit-of-deadline : (deadline : Option ℕ) → deadline ≡ deadline_in (limit_of deadline)
limit-of-deadline None = refl
limit-of-deadline (Some d) = refl

limit-of-number : (deadline : Option ℕ) → false ≡ has_number (limit_of deadline)
limit-of-number None = refl
limit-of-number (Some d) = refl

pub goes-first : (s : Session) (wire : ℕ) (past : Pieces) (r0 r1 : Option (List Event)) (old new : Core) (c : Slot) →
    Shows past (map shown old.sources) → IsNew wire past → IsBetweenCalls old →
    FirstVisits s wire r0 r1 old new c → (v : List Event) × VisitInRecord s wire past r0 r1 old new c v
goes-first s wire past r0 r1 old new c shows fresh rests (undialled dials failure e to awake still is says) =
    let went = goes-undialled s wire past r0 r1 old dials failure fresh rests to awake shows in
    let Q : Slot → Type 0 = λ y. VisitInRecord s wire past r0 r1 old old y (dials_of wire dials) in
    let R : Core → Type 0 = λ x. VisitInRecord s wire past r0 r1 old x c (dials_of wire dials) in
    (dials_of wire dials, subst R (sym still) (subst Q (sym (is ∙ ap (λ y. slot.Ended y) says)) went))
goes-first s wire past r0 r1 old new c shows fresh rests (dialled dials wired on to (talk, client, key, mid, r)) =
    let M : Option (List Event) → Type 0 =
    λ x. MakesVisit wire key (limit_of s.deadline) (told x (event.Add wire key true ∷ [])) r1 mid new client c in
    let from : Option (List Event) = told (told r0 (dials_of wire dials)) (event.Add wire key true ∷ []) in
    made-visit s wire key past (limit_of s.deadline) r0 from old mid client (limit-of-deadline s.deadline)
    ((unvisited wire past fresh.unvisited).notified ∙ limit-of-number s.deadline)
    (λ r2 core e x. opened-ends s wire key past dials wired r0 r2 old mid core talk client fresh shows to.through r.begins
    r.stands r.unwritten r.free r.core r.shows e x)
    (λ r2 core sl x. opened-waits s wire key past dials wired r0 r2 old mid core talk client fresh shows to.through r.begins
    r.stands r.unwritten r.free r.core r.shows sl x)
    r1 new c (subst M to.gained r.visits)

limit-after-deadline : (alarm : Option Alarm) → deadline_after alarm ≡ deadline_in (limit_after alarm)
limit-after-deadline None = refl
limit-after-deadline (Some a) = refl

limit-after-number : (alarm : Option Alarm) → is_some alarm ≡ has_number (limit_after alarm)
limit-after-number None = refl
limit-after-number (Some a) = refl

pub goes-again : (s : Session) (wire : ℕ) (past : Pieces) (r0 r1 : Option (List Event)) (old new : Core)
    (sl : Sleeper) (pending : List ℕ) (c : Slot) → Shows past (map shown old.sources) →
    Stands s wire pending past (slot.Asleep sl) →
    MakesVisit wire sl.key (limit_after sl.alarm) r0 r1 old new sl.client c →
    (v : List Event) × VisitInRecord s wire past r0 r1 old new c v
goes-again s wire past r0 r1 old new sl pending c shows is visits =
    made-visit s wire sl.key past (limit_after sl.alarm) r0 r0 old old sl.client
    (is.limited ∙ limit-after-deadline sl.alarm) (is.notified ∙ limit-after-number sl.alarm)
    (λ r2 core e x. later-ends s wire past r0 r2 old core sl pending shows is e x)
    (λ r2 core k x. later-waits s wire past r0 r2 old core sl pending shows is k x) r1 new c visits
