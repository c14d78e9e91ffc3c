-- A visit of the call under way in which a call of the poller failed, or whose timer had no number.
use Rattle.std.proofs.Common.{◌≡◌, ◌≤◌, ◌<◌, ◌+◌, ◌-◌, ◌^◌, inl, inr, ℕ, suc, Bool, true, false, List, [], ◌∷◌, ◌++◌}
use Rattle.std.proofs.Common.{length, take, map, if◌then◌else◌, Option, Some, None, slice_get, is_some, refl, sym, ◌∙◌}
use Rattle.std.proofs.Common.{ap, subst, arith}
use Rattle.std.proofs.Common.{append_assoc}
use Rattle.std.specs.Prelude.{is_none}
use Rattle.std.proofs.lemmas.List.Sums.{fold-append}
use Rattle.std.proofs.lemmas.Option.{none-some, same_Some}
use Rattle.react_core.specs.declared.outside.Event.{Event}
use Rattle.react_core.specs.declared.outside.Event.TheVariants as event
use Rattle.react_core.specs.Core.{Core}
use Rattle.react_core.specs.Told.{told, told-told}
use Rattle.bus_session.specs.declared.session.Session.{Session}
use Rattle.bus_session.specs.Counts.{waits_in}
use Rattle.bus_session.specs.Dialling.{opens}
use Rattle.bus_record.specs.Pieces as pieces
use Rattle.bus_record.specs.Pieces.{Pieces, ◌▸◌, visit}
use Rattle.bus_record.specs.Places.{key_of, key_by, key_through, notified, notified_through}
use Rattle.bus_record.specs.Visits.{Stage, finished, reading}
use Rattle.bus_record.specs.Settled.{Run, removal}
use Rattle.bus_record.specs.Failing.{Made, FailsInVisit}
use Rattle.bus_visit.specs.declared.visiting.Slot.{Slot}
use Rattle.bus_visit.specs.declared.visiting.Slot.TheVariants as slot
use Rattle.bus_visit.specs.declared.visiting.Sleeper.{Sleeper}
use Rattle.bus_visit.specs.declared.timing.Alarm.{Alarm}
use Rattle.bus_visit.specs.declared.timing.Limit.{Limit}
use Rattle.bus_visit.specs.Calls.{AreCalls}
use Rattle.bus_visit.specs.Dialled.{dials_of, opening}
use Rattle.bus_visit.specs.Failing.{RemovalTold, EndFails, unarmed, undeleted, RegisteredVisitFails}
use Rattle.bus_visit.specs.Failing.{VisitFails, unlooked, unnotified, unremoved, RegisteredFails}
use Rattle.bus_visit.specs.Failing.{OpenedFails, unregistered, registered, FirstVisitFails, FirstVisitRunsOut}
use Rattle.bus_visit.specs.Registry.{held_at}
use Rattle.bus_visit.specs.Shown.{shown, tags, tag_at, without_tag}
use Rattle.bus_visit.specs.Timed.{limit_of, limit_after}
use Rattle.bus_visit.specs.Visited.{RegisteredVisit, MakesRegisteredVisit, tail_of}
use Rattle.bus_visit.specs.laws.Dials.{dials-still, opening-fold, dials-unnumbered}
use Rattle.bus_visit.specs.laws.Records.{waits_in-append, unnumbered-waits}
use Rattle.bus_peers.specs.inside.Closing.{counting}
use Rattle.bus_peers.specs.inside.Failures.{LeftBut, ToldSince, CallFails, CallRunsOut, in_visit, VisitsFailCall}
use Rattle.bus_peers.specs.inside.Laws.{ComesTo}
use Rattle.bus_peers.specs.inside.Slots.{Owned, CallStands, CallStandsAfter, Stands, IsNew, VisitsKeepCall}
use Rattle.bus_peers.specs.inside.Slots.{deadline_after}
use Rattle.bus_peers.proofs.LeftSources.{left-new, left-without}
use Rattle.bus_peers.proofs.OtherWires.{unvisited}
use Rattle.bus_peers.proofs.Readings.{reads-late, reads-first, notices-first}
use Rattle.bus_peers.proofs.SlotLemmas.{no_wire-above, owns-at}
use Rattle.bus_peers.proofs.Standing.{stand-at, get-take}
use Rattle.bus_peers.proofs.VisitsInRecord.{WaitsInRecord, calls-key, first-dials, key-here, later-comes, later-waits}
use Rattle.bus_peers.proofs.VisitsInRecord.{opened-comes, opened-waits}
use Rattle.bus_peers.proofs.WholeVisits.{registers-next}

-- ---- the end of the visit

removal-made : (ample : Bool) (wire key : ℕ) (own : List Event) → RemovalTold ample wire key own →
    Made ample (event.Delete wire key true ∷ []) own
removal-made ample wire key own (inl (ok, is)) = inl (event.Delete wire key ok, [], is, refl, refl)
removal-made ample wire key own (inr (lack, is)) = inr (lack, is)

removal-waits : (ample : Bool) (wire key : ℕ) (own : List Event) → RemovalTold ample wire key own → waits_in own ≡ 0
removal-waits ample wire key own (inl (ok, is)) = ap waits_in is
removal-waits ample wire key own (inr (lack, is)) = ap waits_in is

-- what a visit was due and was cut off, by the call that would have ended it
fails-by : (sessions : List Session) (rounds : ℕ) (ample : Bool) (past : Pieces) (wire key : ℕ) (wires : List ℕ)
    (s : Session) (front tail : List Event) (call : Event) (own : List Event) (stage : Stage) →
    Run sessions rounds past (wire ∷ wires) → slice_get sessions wire ≡ Some s →
    ComesTo s wire past (front ++ tail) stage → EndFails wire key ample tail call own →
    key_through (key_of wire past) front ≡ Some key → FailsInVisit sessions rounds ample past wire (front ++ call ∷ own)
fails-by sessions rounds ample past wire key wires s front tail call own stage run at visits (unarmed read write own' removal-told) keyed =
    let M : Option ℕ → Type 0 = λ k. Made ample (removal wire k) own in
    record {
      wires = wires;
      session = s;
      front = front;
      call = event.Modify wire key read write false;
      own = own;
      run = run;
      at = at;
      goes = ap is_some visits;
      failed = refl;
      removed = subst M (sym keyed) (removal-made ample wire key own removal-told);
      whole = refl;
    }
fails-by sessions rounds ample past wire key wires s front tail call own stage run at visits undeleted keyed = record {
  wires = wires;
  session = s;
  front = front;
  call = event.Delete wire key false;
  own = [];
  run = run;
  at = at;
  goes = ap is_some visits;
  failed = refl;
  removed = refl;
  whole = refl;
}

-- no round is in it
end-waits : (ample : Bool) (wire key : ℕ) (calls tail : List Event) (call : Event) (own : List Event) →
    waits_in (calls ++ tail) ≡ 0 → EndFails wire key ample tail call own → waits_in (calls ++ call ∷ own) ≡ 0
end-waits ample wire key calls tail call own none (unarmed read write own' removal-told) =
    let none' : waits_in own ≡ 0 = removal-waits ample wire key own removal-told in
    omega (arith, none, none', waits_in-append calls tail, waits_in-append calls (call ∷ own))
end-waits ample wire key calls tail call own none undeleted =
    omega (arith, none, waits_in-append calls tail, waits_in-append calls (call ∷ own))

-- ---- the call

since-told : (start old new : Core) (before r0 r1 : Option (List Event)) (told_so cut : List Event) →
    r0 ≡ told before told_so → r1 ≡ told r0 cut → old.ticker ≡ start.ticker + waits_in told_so →
    new.ticker ≡ old.ticker → waits_in cut ≡ 0 → ToldSince start before r1 new (told_so ++ cut)
since-told start old new before r0 r1 told_so cut first second ticker same none = record {
  gained = second ∙ (ap (λ y. told y cut) first ∙ told-told before told_so cut);
  ticker = omega (arith, waits_in-append told_so cut, ticker, same, none);
}

module _ {sessions : List Session} {rounds : ℕ} {pending : List ℕ} {start : Core} {before after : Option (List Event)}
    {core : Core} {slots : List Slot} {past : Pieces} where
  pub stands-ticker : CallStands sessions rounds pending start before after core slots past →
      core.ticker ≡ start.ticker + waits_in (pieces.told past)
  stands-ticker g = g.ticker ∙ ap (λ n. start.ticker + n) (sym g.counted)

-- ---- behind a reading of the clock

module _ (sessions : List Session) (rounds wire key : ℕ) (pending : List ℕ) (ample : Bool) (start : Core)
    (before r0 there r1 : Option (List Event)) (old new mid : Core) (slots : List Slot) (past : Pieces) (s : Session)
    (c : Sleeper) (v : List Event) (l : Limit) (m : ℕ) (at : slice_get sessions wire ≡ Some s)
    (g : CallStands sessions rounds (wire ∷ pending) start before r0 old slots past) (left : LeftBut wire past new)
    (ticker : new.ticker ≡ old.ticker) (w : WaitsInRecord s wire key past r0 there old mid c v)
    (limited : s.deadline ≡ Some l.deadline) where
  -- up to the reading
  abbrev front : List Event
  front = v ++ event.Now m ∷ []

  comes-reading : ComesTo s wire past v (reading key w.end)
  comes-reading = w.comes ∙ ap (λ o. Some (if is_none o then finished else reading key w.end)) limited

  key-left : key_through (key_of wire past) front ≡ Some key
  key-left =
      fold-append key_by (key_of wire past) v (event.Now m ∷ []) ∙ (sym (key-here wire past v) ∙ w.registered)

  since : (rest : List Event) → waits_in rest ≡ 0 → r1 ≡ told there (event.Now m ∷ rest) →
      ToldSince start before r1 new (pieces.told past ++ (front ++ rest))
  since rest none gained =
      since-told start old new before r0 r1 (pieces.told past) (front ++ rest) g.gained
      (gained ∙ (ap (λ y. told y (event.Now m ∷ rest)) w.gained
      ∙ (told-told r0 v (event.Now m ∷ rest) ∙ ap (told r0) (sym (append_assoc v (event.Now m ∷ []) rest)))))
      (stands-ticker g) ticker
      (omega (
        arith,
        waits_in-append front rest,
        waits_in-append v (event.Now m ∷ []),
        unnumbered-waits v w.unnumbered,
        none,
      ))

  -- the removal of a session whose deadline has come failed
  unremoved-fails : l.deadline ≤ m → r1 ≡ told there (event.Now m ∷ event.Delete wire key false ∷ []) →
      CallFails sessions rounds ample start before r1 new
  unremoved-fails le gained =
      let call : Event = event.Delete wire key false in
      in_visit past wire (front ++ call ∷ [])
      (record {
        wires = pending;
        session = s;
        front = front;
        call = call;
        own = [];
        run = g.run;
        at = at;
        goes = ap is_some (subst (λ y. ComesTo s wire past y finished)
            (sym (append_assoc v (event.Now m ∷ []) (event.Delete wire key true ∷ [])))
            (reads-late s wire key past v w.end l.deadline m limited comes-reading le));
        failed = refl;
        removed = refl;
        whole = refl;
      })
      left (since (call ∷ []) refl gained)

  module _ (lt : m < l.deadline) (new_one : notified_through (notified wire past) v ≡ false) (own : List Event)
      (removal-told : RemovalTold ample wire key own) where
    abbrev own_waits : waits_in own ≡ 0
    own_waits = removal-waits ample wire key own removal-told

    removed-so : Made ample (removal wire (key_through (key_of wire past) front)) own
    removed-so =
        let M : Option ℕ → Type 0 = λ k. Made ample (removal wire k) own in
        subst M (sym key-left) (removal-made ample wire key own removal-told)

    -- the notice of its timer failed
    unnotified-fails : r1 ≡ told there (event.Now m ∷ event.Notify false ∷ own) →
        CallFails sessions rounds ample start before r1 new
    unnotified-fails gained =
        let call : Event = event.Notify false in
        let none : waits_in (call ∷ own) ≡ 0 = own_waits in
        in_visit past wire (front ++ call ∷ own)
        (record {
          wires = pending;
          session = s;
          front = front;
          call = call;
          own = own;
          run = g.run;
          at = at;
          goes = ap is_some (subst (λ y. ComesTo s wire past y finished)
              (sym (append_assoc v (event.Now m ∷ []) (event.Notify true ∷ [])))
              (notices-first s wire key past v w.end l.deadline m limited comes-reading lt new_one));
          failed = refl;
          removed = removed-so;
          whole = refl;
        })
        left (since (call ∷ own) none gained)

    -- there was no number for it
    visit-runs-out : r1 ≡ told there (event.Now m ∷ own) → old.made ≡ 2 ^ 64 - 1 →
        2 ^ 64 ≤ start.made + length sessions → CallRunsOut sessions rounds ample start before r1 new
    visit-runs-out gained last needed = record {
      past = past;
      wire = wire;
      cut = front ++ own;
      visit = record {
        wires = pending;
        session = s;
        front = front;
        own = own;
        run = g.run;
        at = at;
        comes = reads-first s wire key past v w.end l.deadline m limited comes-reading lt new_one;
        removed = removed-so;
        whole = refl;
      };
      last = sym g.made ∙ last;
      needed = needed;
      left = left;
      since = since own own_waits gained;
    }

-- ---- a later visit

limit-deadline : (alarm : Option Alarm) (l : Limit) → limit_after alarm ≡ Some l →
    deadline_after alarm ≡ Some l.deadline
limit-deadline None l is = absurd (none-some l is)
limit-deadline (Some a) l is = ap (λ k. Some k.deadline) (same_Some _ l is)

-- its timer was made before
limit-made : (alarm : Option Alarm) (l : Limit) → limit_after alarm ≡ Some l → l.number ≡ None → ⊥
limit-made None l is none = none-some l is
limit-made (Some a) l is none =
    none-some a.number (sym (ap (λ k. k.number) (same_Some _ l is) ∙ none))

module _ (sessions : List Session) (rounds wire : ℕ) (pending : List ℕ) (ample : Bool) (start : Core)
    (before r0 r1 : Option (List Event)) (old new : Core) (slots : List Slot) (past : Pieces) (sl : Sleeper)
    (s : Session) (owned : Owned slots (tags old.sources)) (tagged : tag_at (tags old.sources) sl.key ≡ Some wire)
    (same : tags new.sources ≡ without_tag (tags old.sources) sl.key) (ticker : new.ticker ≡ old.ticker)
    (g : CallStands sessions rounds (wire ∷ pending) start before r0 old slots past)
    (at : slice_get sessions wire ≡ Some s) (is : Stands s wire (wire ∷ pending) past (slot.Asleep sl)) where
  left-so : LeftBut wire past new
  left-so = left-without past old new slots g.shows owned wire sl.key tagged same

  again-unlooked : RegisteredVisitFails wire sl.key ample r0 r1 old sl.client →
      CallFails sessions rounds ample start before r1 new
  again-unlooked f =
      let own : AreCalls wire f.calls = f.visits.own is.talking.talk is.talking.got is.talking.stands in
      let comes = later-comes s wire past r0 _ old f.would sl (wire ∷ pending) f.slot f.held f.then_held f.calls f.arms
      g.shows is f.visits in
      let keyed : key_through (key_of wire past) f.calls ≡ Some sl.key =
      calls-key wire f.calls (key_of wire past) own ∙ is.paused.registered in
      let none : waits_in (f.calls ++ f.call ∷ f.own) ≡ 0 =
      end-waits ample wire sl.key f.calls (tail_of wire sl.key f.arms f.slot) f.call f.own
      (unnumbered-waits (f.calls ++ tail_of wire sl.key f.arms f.slot) f.visits.unnumbered) f.fails in
      in_visit past wire (f.calls ++ f.call ∷ f.own)
      (fails-by sessions rounds ample past wire sl.key pending s f.calls (tail_of wire sl.key f.arms f.slot) f.call
      f.own comes.0 g.run at comes.1 f.fails keyed)
      left-so
      (since-told start old new before r0 r1 (pieces.told past) (f.calls ++ f.call ∷ f.own) g.gained f.gained
      (stands-ticker g) ticker none)

  again-fails : VisitFails wire sl.key (limit_after sl.alarm) ample r0 r1 old sl.client →
      CallFails sessions rounds ample start before r1 new
  again-fails (unlooked f) = again-unlooked f
  again-fails (unnotified l c mid there m own limited x lt unmade removal-told gained) =
      absurd (limit-made sl.alarm l limited unmade)
  again-fails (unremoved l c mid there m limited x le gained) =
      let w = later-waits s wire past r0 there old mid sl (wire ∷ pending) g.shows is c x in
      unremoved-fails sessions rounds wire sl.key pending ample start before r0 there r1 old new mid slots past s c w.0
      l m at g left-so ticker w.1 (is.limited ∙ limit-deadline sl.alarm l limited) le gained

pub going-again-fails : (wire : ℕ) (pending : List ℕ) (ample : Bool) (r0 r1 : Option (List Event)) (old new : Core)
    (slots : List Slot) (sl : Sleeper) → slice_get slots wire ≡ Some (slot.Asleep sl) → Owned slots (tags old.sources) →
    tags new.sources ≡ without_tag (tags old.sources) sl.key → new.ticker ≡ old.ticker →
    VisitFails wire sl.key (limit_after sl.alarm) ample r0 r1 old sl.client →
    VisitsFailCall ample (wire ∷ pending) r0 r1 old new slots
going-again-fails wire pending ample r0 r1 old new slots sl was owned same ticker f =
    λ sessions rounds n start before w.
    let g = w.2 in
    let t = stand-at 0 wire wire (wire ∷ pending) (take (length slots) sessions) slots w.0 (slot.Asleep sl) (omega arith)
    was g.stands in
    again-fails sessions rounds wire pending ample start before r0 r1 old new slots w.0 sl t.0 owned
    (owns-at 0 wire wire slots (tags old.sources) (slot.Asleep sl) (omega arith) was owned.each) same ticker g
    (get-take (length slots) wire sessions t.0 t.1) t.2 f

-- visits before it went well
pub visits-then-fail : (ample : Bool) (wires pending : List ℕ) (r0 r1 r2 : Option (List Event)) (old mid new : Core)
    (slots slots' : List Slot) → VisitsKeepCall wires pending r0 r1 old mid slots slots' →
    VisitsFailCall ample pending r1 r2 mid new slots' → VisitsFailCall ample wires r0 r2 old new slots
visits-then-fail ample wires pending r0 r1 r2 old mid new slots slots' went fails =
    λ sessions rounds n start before w. fails sessions rounds n start before (went sessions rounds n start before w)

-- ---- a first visit

limit-first : (deadline : Option ℕ) (l : Limit) → limit_of deadline ≡ Some l → deadline ≡ Some l.deadline
limit-first None l is = absurd (none-some l is)
limit-first (Some d) l is = ap (λ k. Some k.deadline) (same_Some _ l is)

module _ (sessions : List Session) (rounds wire : ℕ) (pending : List ℕ) (ample : Bool) (start : Core)
    (before r0 r1 : Option (List Event)) (old new : Core) (slots : List Slot) (past : Pieces) (s : Session)
    (at : slice_get sessions wire ≡ Some s) (owned : Owned slots (tags old.sources))
    (beyond : length slots ≤ wire) (same : tags new.sources ≡ tags old.sources) (ticker : new.ticker ≡ old.ticker)
    (g : CallStands sessions rounds (wire ∷ pending) start before r0 old slots past) where
  fresh : IsNew wire past
  fresh = g.unused wire beyond

  left-first : LeftBut wire past new
  left-first =
      left-new past old new slots g.shows owned wire same
      (no_wire-above (length slots) wire (tags old.sources) owned.below beyond)

  -- the registration failed
  unregistered-fails : (f : FirstVisitFails s wire ample r0 r1 old) (key : ℕ) →
      held_at (map shown old.sources) key ≡ None → r1 ≡ told f.mid (event.Add wire key false ∷ []) →
      CallFails sessions rounds ample start before r1 new
  unregistered-fails f key free gained =
      let front : List Event = dials_of wire f.dials in
      let call : Event = event.Add wire key false in
      let none : key_through (key_of wire past) front ≡ None =
      dials-still key_by (λ y w q a. refl) wire f.dials (key_of wire past) ∙ (unvisited wire past fresh.unvisited).key in
      let M : Option ℕ → Type 0 = λ k. Made ample (removal wire k) [] in
      let waits : waits_in (front ++ call ∷ []) ≡ 0 =
      omega (arith, waits_in-append front (call ∷ []), unnumbered-waits front (dials-unnumbered wire f.dials)) in
      in_visit past wire (front ++ call ∷ [])
      (record {
        wires = pending;
        session = s;
        front = front;
        call = call;
        own = [];
        run = g.run;
        at = at;
        goes = ap is_some (registers-next s wire key past f.dials f.opened
            (first-dials s wire past f.dials (opens f.opened) fresh f.dialled.through) (g.shows.free key free));
        failed = refl;
        removed = subst M (sym none) refl;
        whole = refl;
      })
      left-first
      (since-told start old new before r0 r1 (pieces.told past) (front ++ call ∷ []) g.gained
      (gained ∙ (ap (λ r. told r (call ∷ [])) f.dialled.gained ∙ told-told r0 front (call ∷ [])))
      (stands-ticker g) ticker waits)

  -- the arming or the removal failed, before a look at the clock
  unlooked-fails : (f : FirstVisitFails s wire ample r0 r1 old)
      (r : RegisteredFails s wire f.opened ample f.mid r1 old) →
      RegisteredVisitFails wire r.key ample (told f.mid (event.Add wire r.key true ∷ [])) r1 r.mid r.client →
      CallFails sessions rounds ample start before r1 new
  unlooked-fails f r x =
      let tail : List Event = tail_of wire r.key x.arms x.slot in
      let begin : List Event = opening wire r.key f.dials in
      let front : List Event = begin ++ x.calls in
      let own : AreCalls wire x.calls = x.visits.own r.talk [] r.stands in
      let V : Option (List Event) → Type 0 = λ m.
      RegisteredVisit wire r.key (told m (event.Add wire r.key true ∷ []))
      (told (told m (event.Add wire r.key true ∷ [])) (x.calls ++ tail)) r.mid x.would r.client x.slot x.held x.then_held
      x.calls x.arms in
      let comes = opened-comes s wire r.key past f.dials f.opened r0 _ old r.mid x.would r.talk r.client fresh g.shows
      f.dialled.through r.begins r.stands r.unwritten r.free r.core r.shows x.slot x.held x.then_held x.calls x.arms
      (subst V f.dialled.gained x.visits) in
      let keyed : key_through (key_of wire past) front ≡ Some r.key =
      opening-fold key_by (λ y w q a. refl) wire r.key f.dials x.calls (key_of wire past)
      ∙ calls-key wire x.calls (Some r.key) own in
      let cut-so : front ++ x.call ∷ x.own ≡ begin ++ (x.calls ++ x.call ∷ x.own) =
      append_assoc begin x.calls (x.call ∷ x.own) in
      let quiet : waits_in (x.calls ++ x.call ∷ x.own) ≡ 0 =
      end-waits ample wire r.key x.calls tail x.call x.own (unnumbered-waits (x.calls ++ tail) x.visits.unnumbered)
      x.fails in
      let none : waits_in (front ++ x.call ∷ x.own) ≡ 0 =
      ap waits_in cut-so ∙ (waits_in-append begin (x.calls ++ x.call ∷ x.own)
      ∙ omega (arith, quiet, opening-quiet wire r.key f.dials)) in
      in_visit past wire (front ++ x.call ∷ x.own)
      (fails-by sessions rounds ample past wire r.key pending s front tail x.call x.own comes.0 g.run at
      (subst (λ y. ComesTo s wire past y comes.0) (sym (append_assoc begin x.calls tail)) comes.1) x.fails keyed)
      left-first
      (since-told start old new before r0 r1 (pieces.told past) (front ++ x.call ∷ x.own) g.gained
      (x.gained
      ∙ (ap (λ m. told (told m (event.Add wire r.key true ∷ [])) (x.calls ++ x.call ∷ x.own)) f.dialled.gained
      ∙ (ap (λ y. told y (x.calls ++ x.call ∷ x.own))
      (told-told r0 (dials_of wire f.dials) (event.Add wire r.key true ∷ []))
      ∙ (told-told r0 begin (x.calls ++ x.call ∷ x.own) ∙ ap (told r0) (sym cut-so)))))
      (stands-ticker g) ticker none)
    where
      opening-quiet : (wire key : ℕ) (dials : _) → waits_in (opening wire key dials) ≡ 0
      opening-quiet wire key dials =
          waits_in-append (dials_of wire dials) (event.Add wire key true ∷ [])
          ∙ omega (arith, unnumbered-waits (dials_of wire dials) (dials-unnumbered wire dials))

  -- the visit up to its look at the clock
  first-waits : (f : FirstVisitFails s wire ample r0 r1 old) (r : RegisteredFails s wire f.opened ample f.mid r1 old)
      (there : Option (List Event)) (mid : Core) (c : Sleeper) →
      MakesRegisteredVisit wire r.key (told f.mid (event.Add wire r.key true ∷ [])) there r.mid mid r.client
      (slot.Asleep c) → (v : List Event) × WaitsInRecord s wire r.key past r0 there old mid c v
  first-waits f r there mid c x =
      let M : Option (List Event) → Type 0 = λ y.
      MakesRegisteredVisit wire r.key (told y (event.Add wire r.key true ∷ [])) there r.mid mid r.client
      (slot.Asleep c) in
      opened-waits s wire r.key past f.dials f.opened r0 there old r.mid mid r.talk r.client fresh g.shows
      f.dialled.through r.begins r.stands r.unwritten r.free r.core r.shows c (subst M f.dialled.gained x)

  new-one : {key : ℕ} {there : Option (List Event)} {mid : Core} {c : Sleeper} {v : List Event}
      (w : WaitsInRecord s wire key past r0 there old mid c v) → notified_through (notified wire past) v ≡ false
  new-one w = w.unnoticed ∙ (unvisited wire past fresh.unvisited).notified

  registered-fails : (f : FirstVisitFails s wire ample r0 r1 old)
      (r : RegisteredFails s wire f.opened ample f.mid r1 old) →
      VisitFails wire r.key (limit_of s.deadline) ample (told f.mid (event.Add wire r.key true ∷ [])) r1 r.mid
      r.client →
      CallFails sessions rounds ample start before r1 new
  registered-fails f r (unlooked x) = unlooked-fails f r x
  registered-fails f r (unnotified l c mid there m own limited x lt unmade removal-told gained) =
      let w = first-waits f r there mid c x in
      unnotified-fails sessions rounds wire r.key pending ample start before r0 there r1 old new mid slots past s c w.0
      l m at g left-first ticker w.1 (limit-first s.deadline l limited) lt (new-one w.1) own removal-told gained
  registered-fails f r (unremoved l c mid there m limited x le gained) =
      let w = first-waits f r there mid c x in
      unremoved-fails sessions rounds wire r.key pending ample start before r0 there r1 old new mid slots past s c w.0 l
      m at g left-first ticker w.1 (limit-first s.deadline l limited) le gained

  first-fails : FirstVisitFails s wire ample r0 r1 old → CallFails sessions rounds ample start before r1 new
  first-fails f = go f.comes where
    go : OpenedFails s wire f.opened ample f.mid r1 old → CallFails sessions rounds ample start before r1 new
    go (unregistered key free gained) = unregistered-fails f key free gained
    go (registered r) = registered-fails f r r.comes

  -- the number of its timer was not there
  first-runs-out : 2 ^ 64 ≤ start.made + length sessions → FirstVisitRunsOut s wire ample r0 r1 old →
      CallRunsOut sessions rounds ample start before r1 new
  first-runs-out needed f =
      let r = f.comes in
      let x = r.comes in
      let M : Option (List Event) → Type 0 = λ y.
      MakesRegisteredVisit wire r.key (told y (event.Add wire r.key true ∷ [])) x.there r.mid x.mid r.client
      (slot.Asleep x.sleeper) in
      let w = opened-waits s wire r.key past f.dials f.opened r0 x.there old r.mid x.mid r.talk r.client fresh g.shows
      f.dialled.through r.begins r.stands r.unwritten r.free r.core r.shows x.sleeper
      (subst M f.dialled.gained x.visits) in
      visit-runs-out sessions rounds wire r.key pending ample start before r0 x.there r1 old new x.mid slots past s
      x.sleeper w.0 x.of x.moment at g left-first ticker w.1 (limit-first s.deadline x.of x.limited) x.early
      (new-one w.1) x.own x.removal x.gained (sym (ap (λ k. k.made) r.core) ∙ x.last) needed

counting-next : (n i : ℕ) → i < n → counting (n - i) i ≡ i ∷ counting (n - (i + 1)) (i + 1)
counting-next n i lt = let e : n - i ≡ suc (n - (i + 1)) = omega (arith, lt) in ap (λ k. counting k i) e

pub going-first-fails : (sessions : List Session) (rounds wire : ℕ) (ample : Bool) (start : Core)
    (before r0 r1 : Option (List Event)) (old new : Core) (slots : List Slot) (s : Session) →
    wire ≡ length slots → wire < length sessions → slice_get sessions wire ≡ Some s → Owned slots (tags old.sources) →
    tags new.sources ≡ tags old.sources → new.ticker ≡ old.ticker → FirstVisitFails s wire ample r0 r1 old →
    CallStandsAfter sessions rounds (counting (length sessions - wire) wire) 0 start before r0 old slots →
    CallFails sessions rounds ample start before r1 new
going-first-fails sessions rounds wire ample start before r0 r1 old new slots s place within at owned same ticker f w =
    let W : List ℕ → Type 0 = λ ws. CallStandsAfter sessions rounds ws 0 start before r0 old slots in
    let w' = subst W (counting-next (length sessions) wire within) w in
    first-fails sessions rounds wire (counting (length sessions - (wire + 1)) (wire + 1)) ample start before r0 r1 old new
    slots w'.0 s at owned (omega (arith, place)) same ticker w'.2 f

-- its timer had no number; the visits before it made a timer each at most
pub going-first-runs-out : (sessions : List Session) (rounds wire : ℕ) (ample : Bool) (start : Core)
    (before r0 r1 : Option (List Event)) (old new : Core) (slots : List Slot) (s : Session) →
    wire ≡ length slots → wire < length sessions → slice_get sessions wire ≡ Some s → Owned slots (tags old.sources) →
    tags new.sources ≡ tags old.sources → new.ticker ≡ old.ticker → old.made ≤ start.made + wire →
    old.made ≡ 2 ^ 64 - 1 → FirstVisitRunsOut s wire ample r0 r1 old →
    CallStandsAfter sessions rounds (counting (length sessions - wire) wire) 0 start before r0 old slots →
    CallRunsOut sessions rounds ample start before r1 new
going-first-runs-out sessions rounds wire ample start before r0 r1 old new slots s place within at owned same ticker few last f w =
    let W : List ℕ → Type 0 = λ ws. CallStandsAfter sessions rounds ws 0 start before r0 old slots in
    let w' = subst W (counting-next (length sessions) wire within) w in
    first-runs-out sessions rounds wire (counting (length sessions - (wire + 1)) (wire + 1)) ample start before r0 r1
    old new slots w'.0 s at owned (omega (arith, place)) same ticker w'.2 (omega (arith, few, last, within)) f
