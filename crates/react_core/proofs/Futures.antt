-- What a poll at a future's place does, by its direction.
use Rattle.std.proofs.Common.{◌≡◌, ◌+◌, ℕ, Bool, true, false, List, [], Option, Some, None, is_some, length, Ok, Err, refl, sym, ap, ◌∙◌}
use Rattle.std.specs.Prelude.{if◌then◌else◌}
use Rattle.futures.specs.declared.task.Poll.{Poll}
use Rattle.react_core.specs.declared.reactor.Dir.{Dir}
use Rattle.react_core.specs.declared.reactor.Dir.TheVariants.{Read, Write}
use Rattle.react_core.specs.declared.reactor.ReactError.{ReactError}
use Rattle.react_core.specs.declared.reactor.ReactError.TheVariants.{Poller, OutOfMemory, Exhausted}
use Rattle.react_core.specs.Asking.{arming_for, ask_told}
use Rattle.react_core.specs.Causes.{ReactCounted}
use Rattle.react_core.specs.Core.{Core}
use Rattle.react_core.specs.Futures.{is_fired, asks, polled_futures, with_future, after_future, future_answer, held_place, entry_given, direction_of, direction_at}
use Rattle.react_core.specs.Futures.{future_fresh, after_source_future, after_future_poll, future_told, IsFutureRefusal}
use Rattle.react_core.specs.Keyed.{at_key}
use Rattle.react_core.specs.Places.{Entry, Direction, Source}
use Rattle.react_core.specs.Readiness.{is_ready, armed}
use Rattle.react_core.specs.Reports.{Arming}
use Rattle.react_core.specs.Sources.{source_of, with_source, side, with_side}
use Rattle.react_core.proofs.Keyed.{length-with_at, length-with_new_at}
use Rattle.react_core.proofs.Totals.{with_at-same}

-- ---- the place

held-if : (b : Bool) (place p : ℕ) → (if b then Some place else None) ≡ Some p → (place ≡ p) × (b ≡ true)
held-if true place p is = (let same : place ≡ p = cc in same, refl)
held-if false place p is = absurd (cc)

-- a place that is held is the given one, and a future holds it
pub held-some : (futures : List (ℕ × Entry)) (place : Option ℕ) (p : ℕ) → held_place futures place ≡ Some p → (place ≡ Some p) × (is_some (at_key futures p) ≡ true)
held-some futures None p is = absurd (cc)
held-some futures (Some place) p is =
    let held = held-if (is_some (at_key futures place)) place p is in
    (ap Some held.0, ap (λ k. is_some (at_key futures k)) (sym held.0) ∙ held.1)

none-if : (o : Option Entry) (place : ℕ) → (if is_some o then Some place else None) ≡ None → o ≡ None
none-if None place is = refl
none-if (Some e) place is = absurd (cc)

-- where no given place is held, nothing stands there
pub held-none : (futures : List (ℕ × Entry)) (place : Option ℕ) → held_place futures place ≡ None → entry_given futures place ≡ None
held-none futures None is = refl
held-none futures (Some place) is = none-if (at_key futures place) place is

pub is_ready-answer : (b : Bool) → is_ready (future_answer b) ≡ b
is_ready-answer true = refl
is_ready-answer false = refl

-- ---- how many futures there are

length-held : (ticker task : ℕ) (futures : List (ℕ × Entry)) (place : ℕ) (o : Option Entry) → is_some o ≡ true → length (polled_futures ticker task futures place o) ≡ length futures
length-held ticker task futures place None held = absurd (cc)
length-held ticker task futures place (Some e) held = length-with_at futures place (record e { task = Some task })

length-if : (b : Bool) (ticker task : ℕ) (d : Direction) (place : ℕ) → is_some (at_key d.futures place) ≡ true → length (if b then d else with_future ticker task d place).futures ≡ length d.futures
length-if true ticker task d place held = refl
length-if false ticker task d place held = length-held ticker task d.futures place (at_key d.futures place) held

-- as many after a later poll
pub length-after_future : (ticker task : ℕ) (d : Direction) (place : ℕ) → is_some (at_key d.futures place) ≡ true → length (after_future ticker task d place).futures ≡ length d.futures
length-after_future ticker task d place held = length-if (is_fired d place) ticker task d place held

-- one more after a first poll
pub length-with_future : (ticker task : ℕ) (d : Direction) (place : ℕ) → at_key d.futures place ≡ None → length (with_future ticker task d place).futures ≡ length d.futures + 1
length-with_future ticker task d place free = rw free (length-with_new_at d.futures place (record { since = ticker; task = Some task }))

-- a first poll is not ready
pub after_future-first : (ticker task : ℕ) (d : Direction) (place : ℕ) → at_key d.futures place ≡ None → with_future ticker task d place ≡ after_future ticker task d place
after_future-first ticker task d place free = rw free refl

-- ---- refusals

pub refusal-asked : (T U : Type 0) (e : ReactError) (d : Direction) (entry : Option Entry) (before now : ℕ) → ReactCounted {T = T} (Err e) before now → asks d entry ≡ true →
    IsFutureRefusal {T = U} (Err e) d entry
refusal-asked T U Poller d entry before now counted asked = asked
refusal-asked T U OutOfMemory d None before now counted asked = tt
refusal-asked T U OutOfMemory d (Some e) before now counted asked = asked
refusal-asked T U (Exhausted counter value) d entry before now counted asked = absurd counted

pub refusal-first : (T U : Type 0) (e : ReactError) (d : Direction) (entry : Option Entry) → entry ≡ None → IsFutureRefusal {T = T} (Err e) d None → IsFutureRefusal {T = U} (Err e) d entry
refusal-first T U Poller d entry none refused = rw none refused
refusal-first T U OutOfMemory d entry none refused = rw none tt
refusal-first T U (Exhausted counter value) d entry none refused = absurd refused

-- ---- the poll of a key

with_side-same : (dir : Dir) (s : Source) → with_side dir s (side dir s) ≡ s
with_side-same Read s = refl
with_side-same Write s = refl

module _ (core : Core) (key : ℕ) (dir : Dir) (s : Source) (found : source_of core.sources key ≡ Some s) where
  pub direction-at : direction_at core key dir ≡ side dir s
  direction-at = ap (λ o. direction_of o dir) found

  pub future-fresh : (place : ℕ) → future_fresh core key dir place ≡ is_fired (side dir s) place
  future-fresh place = ap (λ d. is_fired d place) direction-at

  core-if : (b : Bool) (ticker task place : ℕ) →
      record core { sources = with_source core.sources key (with_side dir s (if b then side dir s else with_future ticker task (side dir s) place)) }
      ≡ (if b then core else record core { sources = with_source core.sources key (with_side dir s (with_future ticker task (side dir s) place)) })
  core-if true ticker task place = ap (λ ss. record core { sources = ss }) (ap (with_source core.sources key) (with_side-same dir s) ∙ with_at-same core.sources key s found)
  core-if false ticker task place = refl

  -- the core after it
  pub future-core : (sources : List (ℕ × Source)) (task place : ℕ) → sources ≡ with_source core.sources key (with_side dir s (after_future core.ticker task (side dir s) place)) →
      record core { sources = sources } ≡ after_future_poll core key dir place task
  future-core sources task place are =
      ap (λ ss. record core { sources = ss }) are ∙ core-if (is_fired (side dir s) place) core.ticker task place ∙ sym (ap (λ o. after_source_future core key o dir place task) found)

  module _ (d : Direction) (a : Arming) (at : d ≡ side dir s) (arming : a ≡ arming_for key dir s) where
    -- what is told of it
    pub told-future : (place : ℕ) (answer : Poll (Unit {0})) → ask_told {T = ℕ} (asks d (at_key d.futures place)) a (Ok 0) ≡ future_told core key dir (Ok (place, answer))
    told-future place answer =
        ap (λ x. ask_told {T = ℕ} (asks x (at_key x.futures place)) a (Ok 0)) at
        ∙ ap (λ x. ask_told {T = ℕ} (asks (side dir s) (at_key (side dir s).futures place)) x (Ok 0)) arming
        ∙ sym (ap (λ o. if asks (direction_of o dir) (at_key (direction_of o dir).futures place) then armed o key dir true else []) found)

    pub told-refused : (T : Type 0) (asked : Bool) (e : ReactError) → ask_told {T = T} asked a (Err e) ≡ future_told core key dir (Err e)
    told-refused T asked Poller = rw (arming, found) refl
    told-refused T asked OutOfMemory = refl
    told-refused T asked (Exhausted counter value) = refl
