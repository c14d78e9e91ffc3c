-- A round of the call under way in which a call of the poller failed.
use Rattle.std.proofs.Common.{◌≡◌, ◌≢◌, ◌<◌, ◌+◌, ℕ, Bool, List, [], ◌++◌, length, map, refl, sym, ◌∙◌, ap}
use Rattle.std.proofs.Common.{Option, subst, arith}
use Rattle.std.specs.List.{list_any}
use Rattle.react_core.specs.declared.outside.Event.{Event}
use Rattle.react_core.specs.Core.{Core}
use Rattle.react_core.specs.Round.{reports_of}
use Rattle.react_core.specs.Told.{told, told-told}
use Rattle.bus_session.specs.declared.session.Session.{Session}
use Rattle.bus_record.specs.Pieces as pieces
use Rattle.bus_record.specs.Pieces.{Pieces, ◌▸◌, round}
use Rattle.bus_record.specs.Failing.{Made, is_failed}
use Rattle.bus_visit.specs.declared.visiting.Slot.{Slot}
use Rattle.bus_session.specs.Counts.{waits_in}
use Rattle.bus_visit.specs.Registry.{Held}
use Rattle.bus_visit.specs.Shown.{shown, tags}
use Rattle.bus_visit.specs.laws.Records.{waits_in-append}
use Rattle.bus_peers.specs.inside.Alarms.{Alarmed}
use Rattle.bus_peers.specs.inside.Failures.{RoundFailed, CallFails, in_round, VisitsFailCall, RoundFailsCall, RoundsFailCall}
use Rattle.bus_peers.specs.inside.RoundEvents as round_events
use Rattle.bus_peers.specs.inside.RoundEvents.{Round, round_told}
use Rattle.bus_peers.specs.inside.Rounds.{Rounded}
use Rattle.bus_peers.specs.inside.Slots.{Owned, CallStands}
use Rattle.bus_peers.proofs.CallRounds.{RoundsKeepCall, piece_of, told_by, one-wait, quiet-rearming, round-from, some-sleeper}
use Rattle.bus_peers.proofs.CallRounds.{waits-so}
use Rattle.bus_peers.proofs.FailingVisits.{stands-ticker}
use Rattle.bus_peers.proofs.LeftSources.{left-same}
use Rattle.bus_peers.proofs.MadeLemmas.{made-waits}
use Rattle.bus_peers.proofs.RoundRearms.{rearming-same}
use Rattle.bus_peers.proofs.Standing.{all-rest}

-- ---- a round

round-fails : (sessions : List Session) (rounds n now : ℕ) (ample : Bool) (start : Core) (before r0 r1 : Option (List Event))
    (old new : Core) (slots : List Slot) (r : Round) (rearmed : List Event) (past : Pieces) →
    length slots ≡ length sessions → Owned slots (tags old.sources) → Alarmed now old [] slots → tags new.sources ≡ tags old.sources → n < rounds →
    old.sources ≢ [] → pieces.rounds_in past ≡ n → CallStands sessions rounds [] start before r0 old slots past →
    RoundFailed ample r0 r1 old new r rearmed → CallFails sessions rounds ample start before r1 new
round-fails sessions rounds n now ample start before r0 r1 old new slots r rearmed past len owned alarmed same left some count g x =
    let held : List Held = map shown old.sources in
    let p : pieces.Round = piece_of r rearmed in
    let says : pieces.events_of (round p) ≡ round_told r ++ rearmed = told_by r rearmed r.second refl in
    let M : List Event → Type 0 = λ calls. Made ample calls rearmed in
    let none : waits_in rearmed ≡ 0 =
    made-waits ample (round_events.rearming held (reports_of r.answer)) rearmed
    (quiet-rearming held (reports_of r.answer)) x.made in
    let one : waits_in (pieces.events_of (round p)) ≡ 1 =
    ap waits_in says
    ∙ (waits_in-append (round_told r) rearmed ∙ omega (arith, one-wait r r.second refl, none)) in
    in_round past p
    (record {
      run = g.run;
      rest = all-rest sessions slots past held len g.shows g.stands;
      sleeper = some-sleeper sessions slots past old len owned g.shows g.stands some;
      left = omega (arith, count, left);
      waited = x.waited ∙ waits-so sessions slots past now old len g.shows g.stands alarmed r.first;
      read = x.read;
      rearmed = subst M (sym (rearming-same past held (reports_of r.answer) g.shows)) x.made;
      failed = ap (list_any is_failed) says ∙ x.failed;
    })
    (left-same past old new slots g.shows owned same)
    (record {
      gained = x.gained
          ∙ (ap (told r0) (sym says)
          ∙ (ap (λ y. told y (pieces.events_of (round p))) g.gained
          ∙ told-told before (pieces.told past) (pieces.events_of (round p))));
      ticker = omega (
        arith,
        x.ticker,
        stands-ticker g,
        one,
        waits_in-append (pieces.told past) (pieces.events_of (round p)),
      );
    })

pub going-round-fails : (ample : Bool) (r0 r1 : Option (List Event)) (now : ℕ) (old new : Core) (slots : List Slot) →
    Owned slots (tags old.sources) → Alarmed now old [] slots → tags new.sources ≡ tags old.sources →
    (r : Round) × (rearmed : List Event) × RoundFailed ample r0 r1 old new r rearmed →
    RoundFailsCall ample r0 r1 old new slots
going-round-fails ample r0 r1 now old new slots owned alarmed same (r, rearmed, x) =
    λ sessions rounds n start before len left some w.
    round-fails sessions rounds n now ample start before r0 r1 old new slots r rearmed w.0 len owned alarmed same left
    some w.1 w.2 x

-- a round, and then a visit that it makes due fails
pub round-then-fails : (ample : Bool) (r0 r1 r2 : Option (List Event)) (now now' : ℕ) (old mid new : Core)
    (slots : List Slot) (woken : List ℕ) → Owned slots (tags old.sources) → Alarmed now old [] slots →
    (r : Round) × Rounded r0 r1 now now' old mid woken r →
    VisitsFailCall ample woken r1 r2 mid new slots → RoundFailsCall ample r0 r2 old new slots
round-then-fails ample r0 r1 r2 now now' old mid new slots woken owned alarmed (r, x) fails =
    λ sessions rounds n start before len left some w.
    fails sessions rounds (n + 1) start before
    (round-from sessions rounds n now now' start before r0 r1 old mid slots woken r len owned alarmed left some x w)

-- ---- all rounds

pub rounds-then-fail : (ample : Bool) (rounds n : ℕ) (r0 r1 r2 : Option (List Event)) (old mid new : Core)
    (slots slots' : List Slot) → length slots' ≡ length slots → n < rounds → mid.sources ≢ [] →
    RoundsKeepCall rounds n r0 r1 old mid slots slots' → RoundFailsCall ample r1 r2 mid new slots' →
    RoundsFailCall ample rounds r0 r2 old new slots
rounds-then-fail ample rounds n r0 r1 r2 old mid new slots slots' same left some went fails = λ sessions start before len w.
    fails sessions rounds n start before (same ∙ len) left some (went sessions start before len w)
