-- Which sessions sleep, by their slots, and what is told when their sources are taken out.
use Rattle.std.proofs.Common.{◌≡◌, ◌≢◌, ℕ, ◌+◌, zero, suc, Bool, true, false, ◌&&◌, List, [], ◌∷◌, ◌++◌, length, map, Option, Some, None, is_some, slice_get, refl, sym, ◌∙◌, ap}
use Rattle.std.specs.Prelude.{filter, flat_map}
use Rattle.std.proofs.lemmas.Option.{none-some}
use Rattle.react_core.specs.declared.outside.Event.{Event}
use Rattle.react_core.specs.declared.outside.Event.TheVariants as event
use Rattle.react_core.specs.declared.reactor.Dir.{Dir}
use Rattle.react_core.specs.Places.{Source}
use Rattle.bus_session.specs.declared.session.Session.{Session}
use Rattle.bus_session.specs.declared.ended.Ended.{Ended}
use Rattle.bus_record.specs.Pieces.{Pieces}
use Rattle.bus_record.specs.Places.{key_of, waits, paused, stays_armed, is_early, deadline_at, sleeps, sleeps_in}
use Rattle.bus_record.specs.Settled.{Numbered, numbered, removal}
use Rattle.bus_visit.specs.declared.visiting.Slot.{Slot}
use Rattle.bus_visit.specs.declared.visiting.Slot.TheVariants as slot
use Rattle.bus_peers.specs.inside.Closing.{closing}
use Rattle.bus_visit.specs.Registry.{Held}
use Rattle.bus_peers.specs.inside.Shows.{Shows}
use Rattle.bus_visit.specs.Shown.{shown, tags, Single}
use Rattle.bus_peers.specs.inside.Slots.{Stands, AllStand, AllOwn}
use Rattle.bus_peers.proofs.ClosingLemmas.{removals-none, removals-one}
use Rattle.bus_peers.proofs.Standing.{sleeps-now}

-- ---- who sleeps

and-off : (a b : Bool) → b ≡ false → (a && b) ≡ false
and-off true b e = e
and-off false b e = refl

-- a session whose source is gone doesn't
awake-by : (s : Session) (w : ℕ) (past : Pieces) (dir : Option Dir) → key_of w past ≡ None → sleeps_in s w past dir ≡ false
awake-by s w past None gone = refl
awake-by s w past (Some x) gone =
    and-off (waits x w past) _ (and-off (stays_armed x w past) _ (ap (λ k. is_some k && is_early (deadline_at s w past) w past) gone))

pub awake-now : (s : Session) (w : ℕ) (past : Pieces) (e : Ended) → Stands s w [] past (slot.Ended e) → sleeps s w past ≡ false
awake-now s w past e is = awake-by s w past (paused w past) is.gone

-- those of the sessions from this number on that sleep
abbrev pub sleepers_from : ℕ → List Session → Pieces → List Numbered
sleepers_from n sessions past = filter (λ m. sleeps m.session m.wire past) (numbered n sessions)

keep-first : {X : Type 0} (p : X → Bool) (x : X) (xs : List X) → p x ≡ true → filter p (x ∷ xs) ≡ x ∷ filter p xs
keep-first p x xs is = rw is refl

drop-first : {X : Type 0} (p : X → Bool) (x : X) (xs : List X) → p x ≡ false → filter p (x ∷ xs) ≡ filter p xs
drop-first p x xs is = rw is refl

pub first-sleeps : (n : ℕ) (s : Session) (sessions : List Session) (past : Pieces) → sleeps s n past ≡ true →
    sleepers_from n (s ∷ sessions) past ≡ record { wire = n; session = s } ∷ sleepers_from (n + 1) sessions past
first-sleeps n s sessions past is = keep-first (λ (m : Numbered). sleeps m.session m.wire past) (record { wire = n; session = s }) (numbered (n + 1) sessions) is

pub first-awake : (n : ℕ) (s : Session) (sessions : List Session) (past : Pieces) → sleeps s n past ≡ false → sleepers_from n (s ∷ sessions) past ≡ sleepers_from (n + 1) sessions past
first-awake n s sessions past is = drop-first (λ (m : Numbered). sleeps m.session m.wire past) (record { wire = n; session = s }) (numbered (n + 1) sessions) is

-- where no source is left nobody sleeps
pub sleepers-none : (n : ℕ) (sessions : List Session) (slots : List Slot) (past : Pieces) → Shows past [] → AllStand n [] sessions slots past → sleepers_from n sessions past ≡ []
sleepers-none n [] [] past shows all = refl
sleepers-none n (s ∷ sessions) (slot.Ended e ∷ slots) past shows all =
    first-awake n s sessions past (awake-now s n past e all.0) ∙ sleepers-none (n + 1) sessions slots past shows all.1
sleepers-none n (s ∷ sessions) (slot.Asleep c ∷ slots) past shows all =
    let there = shows.keyed n c.key all.0.paused.registered in absurd (none-some there.0 there.1)
sleepers-none n (s ∷ sessions) (slot.Refused ∷ slots) past shows all = absurd all.0
sleepers-none n [] (c ∷ slots) past shows all = absurd all
sleepers-none n (s ∷ sessions) [] past shows all = absurd all

not-nothing : {X : Type 0} (xs : List X) (x : X) (ys : List X) → xs ≡ x ∷ ys → xs ≢ []
not-nothing xs x ys is none = let wrong : x ∷ ys ≡ [] = sym is ∙ none in cc

-- a slot that sleeps is a session that does
pub sleepers-some : (n i : ℕ) (sessions : List Session) (slots : List Slot) (past : Pieces) (sources : List Held) (c : _) → Shows past sources → AllStand n [] sessions slots past →
    slice_get slots i ≡ Some (slot.Asleep c) → sleepers_from n sessions past ≢ []
sleepers-some n i [] [] past sources c shows all at = λ none. none-some (slot.Asleep c) at
sleepers-some n zero (s ∷ sessions) (slot.Ended e ∷ slots) past sources c shows all at = λ none. cc
sleepers-some n zero (s ∷ sessions) (slot.Asleep d ∷ slots) past sources c shows all at =
    not-nothing (sleepers_from n (s ∷ sessions) past) _ _ (first-sleeps n s sessions past (sleeps-now s n past sources d shows all.0))
sleepers-some n zero (s ∷ sessions) (slot.Refused ∷ slots) past sources c shows all at = absurd all.0
sleepers-some n (suc i) (s ∷ sessions) (d ∷ slots) past sources c shows all at =
    some-later n s sessions past (sleeps s n past) refl (sleepers-some (n + 1) i sessions slots past sources c shows all.1 at) where
      some-later : (n : ℕ) (s : Session) (sessions : List Session) (past : Pieces) (b : Bool) → sleeps s n past ≡ b →
          sleepers_from (n + 1) sessions past ≢ [] → sleepers_from n (s ∷ sessions) past ≢ []
      some-later n s sessions past true is later = not-nothing (sleepers_from n (s ∷ sessions) past) _ _ (first-sleeps n s sessions past is)
      some-later n s sessions past false is later = λ none. later (sym (first-awake n s sessions past is) ∙ none)
sleepers-some n i [] (d ∷ slots) past sources c shows all at = absurd all
sleepers-some n i (s ∷ sessions) [] past sources c shows all at = absurd all

-- ---- the removals

-- what is told of a sleeper
abbrev removed : Pieces → Numbered → List Event
removed past m = removal m.wire (key_of m.wire past)

-- the removals of the sources that the slots own are those of the sleepers
pub closing-so : (n : ℕ) (sessions : List Session) (slots : List Slot) (past : Pieces) (sources : List (ℕ × Source)) →
    Shows past (map shown sources) → AllStand n [] sessions slots past →
    AllOwn n slots (tags sources) → Single (tags sources) → closing (length sessions) n (map shown sources) ≡ flat_map (removed past) (sleepers_from n sessions past)
closing-so n [] [] past sources shows all own single = refl
closing-so n (s ∷ sessions) (slot.Ended e ∷ slots) past sources shows all own single =
    ap (λ x. x ++ closing (length sessions) (n + 1) (map shown sources)) (removals-none sources n own.0)
    ∙ (closing-so (n + 1) sessions slots past sources shows all.1 own.1 single
    ∙ ap (flat_map (removed past)) (sym (first-awake n s sessions past (awake-now s n past e all.0))))
closing-so n (s ∷ sessions) (slot.Asleep c ∷ slots) past sources shows all own single =
    let here : removed past (record { wire = n; session = s }) ≡ event.Delete n c.key true ∷ [] = ap (removal n) all.0.paused.registered in
    ap (λ x. x ++ closing (length sessions) (n + 1) (map shown sources)) (removals-one sources c.key n single own.0 ∙ sym here)
    ∙ (ap (λ x. removed past (record { wire = n; session = s }) ++ x) (closing-so (n + 1) sessions slots past sources shows all.1 own.1 single)
    ∙ ap (flat_map (removed past)) (sym (first-sleeps n s sessions past (sleeps-now s n past (map shown sources) c shows all.0))))
closing-so n (s ∷ sessions) (slot.Refused ∷ slots) past sources shows all own single = absurd all.0
closing-so n [] (c ∷ slots) past sources shows all own single = absurd all
closing-so n (s ∷ sessions) [] past sources shows all own single = absurd all
