-- What the answer of `open_all` over a new scene says of a script.
use Rattle.std.proofs.Common.{◌≡◌, ℕ, false, ◌<◌, ◌^◌, ◌-◌, ◌+◌, ◌⊎◌, inl, inr, Some, List, [], length, ◌++◌, refl, sym, ◌∙◌, ap, subst, arith}
use Rattle.std.proofs.lemmas.Option.{same_Some}
use Rattle.react_core.specs.declared.outside.Event.{Event}
use Rattle.react_core.specs.Core.{Core}
use Rattle.react_core.specs.Told.{Rose, told as with_told}
use Rattle.react_core.specs.declared.reactor.Counter.{Counter}
use Rattle.bus_session.specs.declared.ended.Ended.{Ended}
use Rattle.bus_session.specs.declared.session.Session.{Session}
use Rattle.bus_peers.specs.declared.open.OpenError.{OpenError}
use Rattle.bus_peers.specs.declared.open.OpenError.TheVariants as open_err
use Rattle.bus_scene.specs.Queues.{Queues}
use Rattle.bus_scene.specs.Plays.{Follows, counted, faults_of_poller}
use Rattle.bus_scene.specs.Faultless.{follows_faultless}
use Rattle.bus_scene.specs.Lent.{follows-each}
use Rattle.react_core.specs.Outer.{LentRoom}
use Rattle.react_core.specs.declared.outside.Rooms.{Rooms}
use Rattle.react_core.specs.declared.outside.Rooms.TheVariants as rooms
use Rattle.bus_record.specs.Failing.{PollerFailed}
use Rattle.bus_record.specs.Headline.{Headline}
use Rattle.bus_peers.specs.Headline.{Opened}
use Rattle.bus_peers.specs.Exhausted.{NoRoundLeft, NoTimerLeft, NoneLeft}
use Rattle.react_core.specs.declared.reactor.Counter.TheVariants as counter
use Rattle.bus_script.specs.Printed.{printed}
use Rattle.bus_printed.specs.Names.{Names}
use Rattle.bus_open.specs.Run.{most_reports, FollowsAnswers, ComesTo, PollerFails, RunsOut, status_of}

none_counted : (faults : ℕ) → counted faults ≡ 0 → faults ≡ 0
none_counted faults none = omega (arith, none)

-- a record that a new scene has told, its waits being lent one room
pub follows-answers : (answers left : Queues) (before after : Rooms) (room : ℕ) (told shown : List Event) → left ≡ answers → shown ≡ told →
    before ≡ rooms.Unwaited → room ≡ most_reports → LentRoom room (Some before) (Some after) → Follows after left told → FollowsAnswers answers shown
follows-answers answers left before after room told shown plays are unwaited most lent follows =
    let L : Rooms → Type 0 = λ r. LentRoom most_reports (Some r) (Some after) in
    let lent' : LentRoom most_reports (Some rooms.Unwaited) (Some after) = subst L unwaited (subst (λ (n : ℕ). LentRoom n (Some before) (Some after)) most lent) in
    let each : FollowsAnswers left told = follows-each most_reports after left told lent' follows in
    subst (λ (r : List Event). FollowsAnswers answers r) (sym are) (subst (λ (q : Queues). FollowsAnswers q told) plays each)

-- at Ok
pub comes : (answers : Queues) (sessions : List Session) (rounds : ℕ) (old new : Core) (endeds : List Ended) (start told shown : List Event) →
    start ≡ [] → shown ≡ told → FollowsAnswers answers shown → counted (faults_of_poller told) ≡ counted (faults_of_poller start) →
    ((r : List Event) × (Some told ≡ with_told (Some start) r) × Opened sessions rounds old new endeds r × Unit {0}) →
    Names (printed endeds shown) endeds shown → ComesTo answers sessions rounds endeds shown
comes answers sessions rounds old new endeds start told shown none are follows calm opens named = record {
  follows = follows;
  named = named;
  faultless = ap faults_of_poller are ∙ none_counted (faults_of_poller told) (calm ∙ ap (λ t. counted (faults_of_poller t)) none);
  pieces = opens.2.pieces;
  headline = subst (λ (r : List Event). Headline sessions rounds opens.2.pieces endeds r) (sym (are ∙ (same_Some told (start ++ opens.0) opens.1 ∙ ap (λ t. t ++ opens.0) none))) opens.2.headline;
}

-- the events that are shown are those that were told
shown-so : (start told shown r : List Event) → start ≡ [] → shown ≡ told → Some told ≡ with_told (Some start) r →
    shown ≡ r
shown-so start told shown r none are gained = are ∙ (same_Some told (start ++ r) gained ∙ ap (λ t. t ++ r) none)

-- where the poller failed
pub fails : (answers : Queues) (sessions : List Session) (rounds : ℕ) (start told shown : List Event) → start ≡ [] →
    shown ≡ told → FollowsAnswers answers shown →
    Rose (counted (faults_of_poller start)) (counted (faults_of_poller told)) →
    (r : List Event) × (Some told ≡ with_told (Some start) r) × PollerFailed sessions rounds false r →
    PollerFails answers sessions rounds
fails answers sessions rounds start told shown none are follows rose cut =
    let rose' : Rose 0 (counted (faults_of_poller shown)) = rw are (subst (λ (r : List Event). Rose (counted (faults_of_poller r)) (counted (faults_of_poller told))) none rose) in
    let some : 0 < faults_of_poller shown = omega (arith, rose') in
    record {
      events = shown;
      follows = follows;
      failed = some;
      cut = subst (PollerFailed sessions rounds false) (sym (shown-so start told shown cut.0 none are cut.1)) cut.2;
      faulty = λ calm. omega (arith, some, follows_faultless (rooms.Each most_reports) answers shown calm follows);
    }

-- which refusals these statuses are
pub poller-alone : (e : OpenError) → status_of e ≡ 6 → e ≡ open_err.Poller
poller-alone open_err.OutOfMemory six = absurd (cc)
poller-alone open_err.Poller six = refl
poller-alone (open_err.Exhausted c value) six = absurd (cc)

pub exhausted-alone : (e : OpenError) → status_of e ≡ 7 → (c : Counter) × (value : ℕ) × (e ≡ open_err.Exhausted c value)
exhausted-alone open_err.OutOfMemory seven = absurd (cc)
exhausted-alone open_err.Poller seven = absurd (cc)
exhausted-alone (open_err.Exhausted c value) seven = (c, value, refl)

-- where the numbers ran out
which-ran : (c : Counter) (sessions : List Session) (rounds tick timer : ℕ) (old : Core) (r : List Event) →
    old.ticker ≡ tick → old.made ≡ timer → NoneLeft c sessions rounds false old r →
    (NoRoundLeft sessions rounds false old r × (2 ^ 64 - 1 < tick + rounds))
    ⊎ (NoTimerLeft sessions rounds false old r × (2 ^ 64 - 1 < timer + length sessions))
which-ran counter.Round sessions rounds tick timer old r begins made out =
    let last = out.last in let left = out.left in inl (out, omega (arith, last, left, begins))
which-ran counter.Timer sessions rounds tick timer old r begins made out =
    let needed = out.needed in inr (out, omega (arith, needed, made))

pub runs-out : (c : Counter) (answers : Queues) (sessions : List Session) (rounds tick timer : ℕ) (old : Core)
    (start told shown : List Event) → start ≡ [] → shown ≡ told → FollowsAnswers answers shown → old.ticker ≡ tick →
    old.made ≡ timer →
    (r : List Event) × (Some told ≡ with_told (Some start) r) × NoneLeft c sessions rounds false old r →
    RunsOut answers sessions tick timer rounds
runs-out c answers sessions rounds tick timer old start told shown none are follows begins made out =
    let same = sym (shown-so start told shown out.0 none are out.1) in
    record {
      events = shown;
      follows = follows;
      start = old;
      begins = begins;
      made = made;
      exhausts = which-ran c sessions rounds tick timer old shown begins made
          (subst (NoneLeft c sessions rounds false old) same out.2);
    }

pub one-of : (e : OpenError) → (status_of e ≡ 0) ⊎ (status_of e ≡ 1) ⊎ (status_of e ≡ 4) ⊎ (status_of e ≡ 5) ⊎ (status_of e ≡ 6) ⊎ (status_of e ≡ 7)
one-of open_err.OutOfMemory = inr (inr (inr (inl refl)))
one-of open_err.Poller = inr (inr (inr (inr (inl refl))))
one-of (open_err.Exhausted c value) = inr (inr (inr (inr (inr refl))))
