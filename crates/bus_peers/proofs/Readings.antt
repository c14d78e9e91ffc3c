-- A visit that comes to read the clock: it ends the session, makes its timer, or leaves it asleep.
use Rattle.std.proofs.Common.{◌≡◌, ◌≤◌, ◌<◌, ℕ, Bool, true, false, ◌==◌, ◌&&◌, if◌then◌else◌, List, [], ◌∷◌, ◌++◌}
use Rattle.std.proofs.Common.{Option, Some, None, refl, ◌∙◌, ap}
use Rattle.std.proofs.lemmas.Bool.{eq-eqb, le-leb, lt-leb}
use Rattle.react_core.specs.declared.outside.Event.{Event}
use Rattle.react_core.specs.declared.outside.Event.TheVariants as event
use Rattle.bus_session.specs.declared.session.Session.{Session}
use Rattle.bus_session.specs.Alone.{Course, has_reached}
use Rattle.bus_record.specs.Pieces.{Pieces}
use Rattle.bus_record.specs.Places.{notified, notified_through}
use Rattle.bus_record.specs.Visits.{Here, here, here_by, reading, leaving, notifying, finished, goes_on, starts}
use Rattle.bus_record.specs.Visits.{after_reading}
use Rattle.bus_record.specs.Going.{here_through, goes_on-append}
use Rattle.bus_visit.specs.Calls.{AreCalls}
use Rattle.bus_peers.specs.inside.Laws.{ComesTo}

-- ---- whether the timer was notified

pub here-notified : (h : Here) (events : List Event) →
    (here_through h events).was_notified ≡ notified_through h.was_notified events
here-notified h [] = refl
here-notified h (e ∷ events) = here-notified (here_by h e) events

pub calls-notified : (wire : ℕ) (calls rest : List Event) (was : Bool) → AreCalls wire calls →
    notified_through was (calls ++ rest) ≡ notified_through was rest
calls-notified wire [] rest was own = refl
calls-notified wire (event.Recv on size answer ∷ calls) rest was (h, hs) = calls-notified wire calls rest was hs
calls-notified wire (event.Send on offered answer ∷ calls) rest was (h, hs) = calls-notified wire calls rest was hs
calls-notified wire (e ∷ calls) rest was (h, hs) = absurd h

-- ---- the reading

reached : (deadline : Option ℕ) (d m : ℕ) → deadline ≡ Some d → d ≤ m → has_reached deadline (Some m) ≡ true
reached deadline d m is le = ap (λ o. has_reached o (Some m)) is ∙ le-leb d m le

pub unreached : (deadline : Option ℕ) (d m : ℕ) → deadline ≡ Some d → m < d → has_reached deadline (Some m) ≡ false
unreached deadline d m is lt = ap (λ o. has_reached o (Some m)) is ∙ lt-leb d m lt

module _ (s : Session) (wire key : ℕ) (past : Pieces) (front : List Event) (c : Course) (d m : ℕ)
    (limited : s.deadline ≡ Some d) (comes : ComesTo s wire past front (reading key c)) where
  abbrev there : Here
  there = here_through (here wire past) front

  -- behind the reading
  behind : (rest : List Event) →
      goes_on s wire (here wire past) (starts s wire past) (front ++ event.Now m ∷ rest)
      ≡ goes_on s wire (here_by there (event.Now m)) (Some (after_reading s there key c m)) rest
  behind rest =
      goes_on-append s wire (here wire past) (starts s wire past) front (event.Now m ∷ rest)
      ∙ ap (λ stage. goes_on s wire there stage (event.Now m ∷ rest)) comes

  stage-so : (late was : Bool) → has_reached s.deadline (Some m) ≡ late → there.was_notified ≡ was →
      after_reading s there key c m ≡ (if late then leaving key c else if was then finished else notifying)
  stage-so late was l w =
      ap (λ b. if b then leaving key c else if there.was_notified then finished else notifying) l
      ∙ ap (λ b. if late then leaving key c else if b then finished else notifying) w

  -- a session whose deadline has come is taken out
  pub reads-late : d ≤ m →
      ComesTo s wire past (front ++ event.Now m ∷ event.Delete wire key true ∷ []) finished
  reads-late le =
      behind (event.Delete wire key true ∷ [])
      ∙ (ap (λ stage. goes_on s wire (here_by there (event.Now m)) (Some stage) (event.Delete wire key true ∷ []))
      (stage-so true there.was_notified (reached s.deadline d m limited le) refl)
      ∙ (ap (λ b. if b && (key == key) then Some finished else None) (eq-eqb wire wire refl)
      ∙ ap (λ b. if b then Some finished else None) (eq-eqb key key refl)))

  was-so : (was : Bool) → notified_through (notified wire past) front ≡ was → there.was_notified ≡ was
  was-so was is = here-notified (here wire past) front ∙ is

  -- one whose timer was made sleeps on
  pub reads-early : m < d → notified_through (notified wire past) front ≡ true →
      ComesTo s wire past (front ++ event.Now m ∷ []) finished
  reads-early lt was = behind [] ∙ ap Some (stage-so false true (unreached s.deadline d m limited lt) (was-so true was))

  -- the first reading before the deadline makes the timer
  pub reads-first : m < d → notified_through (notified wire past) front ≡ false →
      ComesTo s wire past (front ++ event.Now m ∷ []) notifying
  reads-first lt was =
      behind [] ∙ ap Some (stage-so false false (unreached s.deadline d m limited lt) (was-so false was))

  pub notices-first : m < d → notified_through (notified wire past) front ≡ false →
      ComesTo s wire past (front ++ event.Now m ∷ event.Notify true ∷ []) finished
  notices-first lt was =
      behind (event.Notify true ∷ [])
      ∙ ap (λ stage. goes_on s wire (here_by there (event.Now m)) (Some stage) (event.Notify true ∷ []))
      (stage-so false false (unreached s.deadline d m limited lt) (was-so false was))
