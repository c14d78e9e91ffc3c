-- Where a direction waits, by places of the record.
use Rattle.std.proofs.Common.{◌≡◌, ℕ, Bool, true, false, not, ◌&&◌, if◌then◌else◌, List, [], ◌∷◌, refl, sym, ◌∙◌, ap}
use Rattle.std.proofs.lemmas.Bool.{and_parts}
use Rattle.std.specs.List.{list_any}
use Rattle.react_core.specs.declared.outside.Event.{Event}
use Rattle.react_core.specs.declared.reactor.Dir.{Dir}
use Rattle.bus_session.specs.declared.session.Session.{Session}
use Rattle.bus_record.specs.Pieces.{told}
use Rattle.bus_record.specs.Laws.{stops_on, call_first, wait_names, is_left_in, LeftAt, WaitsAtPlaces}
use Rattle.bus_record.proofs.Flat.{later-left, waits_in_record}
use Rattle.bus_record.proofs.Waiting.{false-not-true}

not-so : (b : Bool) → not b ≡ true → b ≡ false
not-so true e = absurd (false-not-true e)
not-so false e = refl

left_place : (x : Dir) (wire key : ℕ) (events : List Event) → is_left_in x wire key events ≡ true →
    LeftAt x wire key events
left_place x wire key [] h = absurd (false-not-true h)
left_place x wire key (e ∷ events) h =
    by_later (list_any (stops_on x wire) events) refl h (left_place x wire key events)
  where
    by_later : (b : Bool) → list_any (stops_on x wire) events ≡ b →
        (if b then is_left_in x wire key events
        else (stops_on x wire e && (not (call_first wire events) && not (list_any (wait_names x key) events)))) ≡ true →
        (is_left_in x wire key events ≡ true → LeftAt x wire key events) → LeftAt x wire key (e ∷ events)
    by_later true some h ih =
        let l = ih h in
        record {
          before = e ∷ l.before;
          stop = l.stop;
          behind = l.behind;
          place = ap (λ es. e ∷ es) l.place;
          not_ready = l.not_ready;
          last = l.last;
          not_followed = l.not_followed;
          unreported = l.unreported;
        }
    by_later false none h ih =
        let one =
        and_parts (stops_on x wire e) (not (call_first wire events) && not (list_any (wait_names x key) events)) h in
        let two = and_parts (not (call_first wire events)) (not (list_any (wait_names x key) events)) one.1 in
        record {
          before = [];
          stop = e;
          behind = events;
          place = refl;
          not_ready = one.0;
          last = none;
          not_followed = not-so (call_first wire events) two.0;
          unreported = not-so (list_any (wait_names x key) events) two.1;
        }

place_left : (x : Dir) (wire key : ℕ) (events : List Event) → LeftAt x wire key events →
    is_left_in x wire key events ≡ true
place_left x wire key events l =
    let some : list_any (stops_on x wire) (l.stop ∷ l.behind) ≡ true = rw l.not_ready refl in
    ap (is_left_in x wire key) l.place
    ∙ (later-left x wire key l.before (l.stop ∷ l.behind) some
    ∙ rw (l.last, l.not_ready, l.not_followed, l.unreported) refl)

pub waits_at_places : (sessions : List Session) → WaitsAtPlaces sessions
waits_at_places sessions n pieces wires x wire key run is =
    let same = waits_in_record sessions n pieces wires x wire key run is in
    (λ h. left_place x wire key (told pieces) (sym same ∙ h), λ l. same ∙ place_left x wire key (told pieces) l)
