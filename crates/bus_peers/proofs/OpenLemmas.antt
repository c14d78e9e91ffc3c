-- How a call ends: after its rounds and its removals, what it answers and what was told.
use Rattle.std.proofs.Common.{◌≡◌, ◌≤◌, ◌<◌, ◌^◌, ℕ, ◌+◌, Bool, true, List, [], ◌∷◌, ◌++◌, length, map, take, Option}
use Rattle.std.proofs.Common.{Result, Ok, Err, IsErrAnd, refl, sym, ◌∙◌, ap, subst, arith, append_assoc}
use Rattle.std.specs.Prelude.{IfOk, OnErr}
use Rattle.std.specs.List.{list_all}
use Rattle.std.proofs.lemmas.Bool.{and_from}
use Rattle.react_core.specs.declared.outside.Event.{Event}
use Rattle.react_core.specs.Core.{Core, ReactorState}
use Rattle.react_core.specs.Told.{told, told-told, told-nothing, Rose}
use Rattle.bus_session.specs.declared.ended.Ended.{Ended}
use Rattle.bus_session.specs.declared.session.Session.{Session}
use Rattle.bus_visit.specs.declared.visiting.Slot.{Slot}
use Rattle.bus_visit.specs.declared.visiting.Slot.TheVariants as slot
use Rattle.bus_peers.specs.declared.open.OpenError.{OpenError}
use Rattle.bus_peers.specs.declared.open.OpenError.TheVariants as open_err
use Rattle.bus_record.specs.Pieces as pieces
use Rattle.bus_record.specs.Pieces.{Pieces, ◌▸◌, round}
use Rattle.bus_record.specs.Settled as settled
use Rattle.bus_record.specs.Failing as failing
use Rattle.bus_record.specs.Failing.{Made}
use Rattle.bus_peers.specs.inside.Failures.{IfPoller, CallFails, in_visit, in_round, Removes, Halts, HaltsAt}
use Rattle.bus_peers.specs.inside.Failures.{CallRunsOut, OnTimerExhausted}
use Rattle.bus_peers.proofs.LeftSources.{closing-but, closing-all, closing-waits, closing-quiet}
use Rattle.bus_record.specs.Headline.{IsEnding, Each}
use Rattle.bus_session.specs.Counts.{waits_in}
use Rattle.bus_peers.specs.inside.Closing.{closing}
use Rattle.bus_visit.specs.Shown.{shown, tags}
use Rattle.bus_peers.specs.Headline.{Opened, RefusedWith, OpenCounted, Completes}
use Rattle.bus_peers.specs.inside.Rounds.{is_kept, EndsIn, AllEnd, cleared}
use Rattle.bus_peers.specs.inside.SlotFaults.{VisitsCounted}
use Rattle.bus_peers.specs.inside.Slots.{Owned, Stands, AllStand, CallStands, CallStandsAfter, CallSettled, RefusedAt}
use Rattle.bus_peers.specs.inside.Slots.{Stuck}
use Rattle.react_core.specs.declared.reactor.Counter.TheVariants as counter
use Rattle.bus_visit.specs.laws.Records.{waits_in-append, notices_in-append}
use Rattle.bus_peers.proofs.Standing.{whole}
use Rattle.bus_peers.proofs.Sleepers.{closing-so}

-- ---- the sessions' endings

one-kept : (s : Session) (w : ℕ) (past : Pieces) (c : Slot) → Stands s w [] past c → is_kept c ≡ true
one-kept s w past (slot.Ended e) is = refl
one-kept s w past (slot.Asleep c) is = refl
one-kept s w past slot.Refused is = absurd is

stand-kept : (n : ℕ) (sessions : List Session) (slots : List Slot) (past : Pieces) → AllStand n [] sessions slots past → list_all is_kept slots ≡ true
stand-kept n [] [] past all = refl
stand-kept n (s ∷ sessions) (c ∷ slots) past all = and_from (is_kept c) (list_all is_kept slots) (one-kept s n past c all.0) (stand-kept (n + 1) sessions slots past all.1)
stand-kept n [] (c ∷ slots) past all = absurd all
stand-kept n (s ∷ sessions) [] past all = absurd all

-- each session has a slot
pub rested-kept : (sessions : List Session) (rounds : ℕ) (old : Core) (r0 r1 : Option (List Event)) (core : Core) (slots : List Slot) →
    (past : Pieces) × CallSettled sessions rounds old r0 r1 core slots past → list_all is_kept slots ≡ true
rested-kept sessions rounds old r0 r1 core slots (past, x) = stand-kept 0 (take (length slots) sessions) slots past x.going.stands

-- a session's ending is what its own part comes to
ending-in : (s : Session) (w : ℕ) (past : Pieces) (c : Slot) (e : Ended) → Stands s w [] past c → EndsIn w c e → IsEnding s w past e
ending-in s w past (slot.Ended d) e is same = subst (IsEnding s w past) (sym same) is.comes
ending-in s w past (slot.Asleep c) e is same =
    subst (IsEnding s w past) (sym same) (record { on = refl; at = sym is.read; comes = is.comes })
ending-in s w past slot.Refused e is same = absurd is

each-ending : (n : ℕ) (sessions : List Session) (slots : List Slot) (endeds : List Ended) (past : Pieces) → AllStand n [] sessions slots past → AllEnd n slots endeds → Each n sessions endeds past
each-ending n [] [] [] past all ends = tt
each-ending n (s ∷ sessions) (c ∷ slots) (e ∷ endeds) past all ends = (ending-in s n past c e all.0 ends.0, each-ending (n + 1) sessions slots endeds past all.1 ends.1)
each-ending n [] (c ∷ slots) endeds past all ends = absurd all
each-ending n (s ∷ sessions) [] endeds past all ends = absurd all
each-ending n [] [] (e ∷ endeds) past all ends = absurd ends
each-ending n (s ∷ sessions) (c ∷ slots) [] past all ends = absurd ends

-- ---- what a call answers

-- what was told, with what the answer promises of it
abbrev pub Answers : {T : Type 0} → (T → List Ended) → Result T OpenError → List Session → ℕ → Bool →
    Option (List Event) → Option (List Event) → Core → Core → Type 0
Answers items result sessions rounds ample r0 r1 old new =
    (r : List Event) × (r1 ≡ told r0 r) × IfOk result (λ v. Opened sessions rounds old new (items v) r)
    × RefusedWith sessions rounds ample old new result r

after-gone : (r0 r1 r2 : Option (List Event)) (a b : List Event) → r1 ≡ told r0 a → r2 ≡ told r1 b → r2 ≡ told r0 (a ++ b)
after-gone r0 r1 r2 a b x y = y ∙ (ap (λ r. told r b) x ∙ told-told r0 a b)

-- no round is among the removals
ticker-gone : (old now new : ℕ) (a gone : List Event) → now ≡ old + waits_in a → new ≡ now → waits_in gone ≡ 0 →
    new ≡ old + waits_in (a ++ gone)
ticker-gone old now new a gone is same none = omega (arith, waits_in-append a gone, none, is, same)

-- the core without its sources and timers
abbrev pub emptied : ReactorState → ReactorState
emptied r = record r { core = cleared r.core }

-- each round that the record shows was begun
ticks : {sessions : List Session} {rounds : ℕ} {pending : List ℕ} {begin : Core} {r0 r1 : Option (List Event)} {core : Core} {slots : List Slot} {past : Pieces} →
    CallStands sessions rounds pending begin r0 r1 core slots past → core.ticker ≡ begin.ticker + waits_in (pieces.told past)
ticks {begin = begin} g = g.ticker ∙ ap (λ n. begin.ticker + n) (sym g.counted)

-- the removals of the slots are those of the sleepers
closing-rest : (sessions : List Session) (slots : List Slot) (past : Pieces) (rounds : ℕ) (r0 r1 : Option (List Event))
    (old core : Core) → length slots ≡ length sessions → Owned slots (tags core.sources) →
    CallStands sessions rounds [] old r0 r1 core slots past →
    closing (length slots) 0 (map shown core.sources) ≡ settled.closing sessions past
closing-rest sessions slots past rounds r0 r1 old core len owned g =
    let S : List Session → Type 0 = λ y. AllStand 0 [] y slots past in
    ap (λ n. closing n 0 (map shown core.sources)) len
    ∙ closing-so 0 sessions slots past core.sources g.shows (subst S (whole sessions slots len) g.stands) owned.each
    owned.single

module _ {T : Type 0} (items : T → List Ended) (sessions : List Session) (rounds : ℕ) (ample : Bool)
    (r0 r1 r2 : Option (List Event)) (old : Core) (mid new : ReactorState) (slots : List Slot)
    (same : new ≡ emptied mid) where
  abbrev gone_calls : List Event
  gone_calls = closing (length slots) 0 (map shown mid.core.sources)

  answers-err : (result : Result T OpenError) (e : OpenError) (r : List Event) → IsErrAnd result (λ x. x ≡ e) →
      r2 ≡ told r0 r → RefusedWith {T = T} sessions rounds ample old new.core (Err e) r →
      Answers items result sessions rounds ample r0 r2 old new.core
  answers-err (Ok v) e r is gained refused = absurd is
  answers-err (Err x) e r is gained refused =
      let R : OpenError → Type 0 = λ y. RefusedWith {T = T} sessions rounds ample old new.core (Err y) r in
      (r, gained, tt, subst R (sym is) refused)

  gone-ticker : (a gone : List Event) → mid.core.ticker ≡ old.ticker + waits_in a → waits_in gone ≡ 0 →
      new.core.ticker ≡ old.ticker + waits_in (a ++ gone)
  gone-ticker a gone is none =
      ticker-gone old.ticker mid.core.ticker new.core.ticker a gone is (ap (λ y. y.core.ticker) same) none

  -- a call of the poller failed in a visit or a round
  refused-fails : (gone : List Event) → Owned slots (tags mid.core.sources) → length slots ≤ length sessions →
      CallFails sessions rounds ample old r0 r1 mid.core → r2 ≡ told r1 gone → Made ample gone_calls gone →
      (r : List Event) × (r2 ≡ told r0 r) × RefusedWith {T = T} sessions rounds ample old new.core (Err open_err.Poller) r
  refused-fails gone owned within (in_visit past wire cut fails left since) gained made =
      let M : List Event → Type 0 = λ calls. Made ample calls gone in
      let none : waits_in gone ≡ 0 = closing-waits ample (length slots) (map shown mid.core.sources) gone made in
      let whole_so : (pieces.told past ++ cut) ++ gone ≡ pieces.told past ++ (cut ++ gone) =
      append_assoc (pieces.told past) cut gone in (
        (pieces.told past ++ cut) ++ gone,
        after-gone r0 r1 r2 (pieces.told past ++ cut) gone since.gained gained,
        (
          gone-ticker (pieces.told past ++ cut) gone since.ticker none,
          failing.in_visit past wire cut gone fails
              (subst M (closing-but sessions slots wire past mid.core owned within left) made) whole_so,
        ),
      )
  refused-fails gone owned within (in_round past r fails left since) gained made =
      let M : List Event → Type 0 = λ calls. Made ample calls gone in
      let none : waits_in gone ≡ 0 = closing-waits ample (length slots) (map shown mid.core.sources) gone made in (
        pieces.told (past ▸ round r) ++ gone,
        after-gone r0 r1 r2 (pieces.told (past ▸ round r)) gone since.gained gained,
        (
          gone-ticker (pieces.told (past ▸ round r)) gone since.ticker none,
          failing.in_round past r gone fails
              (subst M (closing-all sessions slots past mid.core owned within left) made) refl,
        ),
      )

  -- the first visits or the rounds were refused
  pub answers-refused : (result : Result T OpenError) (e : OpenError) (removed : Result (Unit {0}) OpenError) →
      IsErrAnd result (λ x. x ≡ e) → Owned slots (tags mid.core.sources) →
      length slots ≤ length sessions → Halts {T = Unit {0}} (Err e) sessions rounds ample old r0 r1 mid.core slots →
      RefusedAt e r0 r1 old mid.core → IfPoller e (CallFails sessions rounds ample old r0 r1 mid.core) →
      Removes ample gone_calls removed r1 r2 → Answers items result sessions rounds ample r0 r2 old new.core
  answers-refused result open_err.OutOfMemory removed is owned within halts (closed, (more, grown)) fails (gone, gained, made, failed) =
      answers-err result open_err.OutOfMemory (more ++ gone) is (after-gone r0 r1 r2 more gone grown gained) tt
  answers-refused result open_err.Poller removed is owned within halts refused fails (gone, gained, made, failed) =
      let f = refused-fails gone owned within fails gained made in
      answers-err result open_err.Poller f.0 is f.1 f.2
  answers-refused result (open_err.Exhausted counter.Round value) removed is owned within (past, x) (at, last, told_so) fails (gone, gained, made, failed) =
      let g : CallStands sessions rounds [] old r0 r1 mid.core slots past = x.going in
      let none : waits_in gone ≡ 0 = closing-waits ample (length slots) (map shown mid.core.sources) gone made in
      let M : List Event → Type 0 = λ calls. Made ample calls gone in
      answers-err result (open_err.Exhausted counter.Round value) (pieces.told past ++ gone) is
      (after-gone r0 r1 r2 (pieces.told past) gone g.gained gained) (
        at,
        gone-ticker (pieces.told past) gone (ticks g) none,
        record {
          pieces = past;
          removals = gone;
          run = g.run;
          rest = x.rest;
          sleeper = x.sleeper;
          left = x.left;
          last = sym g.ticker ∙ last;
          made = subst M (closing-rest sessions slots past rounds r0 r1 old mid.core x.len owned g) made;
          whole = refl;
        },
      )
  answers-refused result (open_err.Exhausted counter.Timer value) removed is owned within x (at, last, told_so) fails (gone, gained, made, failed) =
      let told_cut : List Event = pieces.told x.past ++ x.cut in
      let none : waits_in gone ≡ 0 = closing-waits ample (length slots) (map shown mid.core.sources) gone made in
      let M : List Event → Type 0 = λ calls. Made ample calls gone in
      answers-err result (open_err.Exhausted counter.Timer value) (told_cut ++ gone) is
      (after-gone r0 r1 r2 told_cut gone x.since.gained gained) (
        at,
        gone-ticker told_cut gone x.since.ticker none,
        record {
          pieces = x.past;
          wire = x.wire;
          cut = x.cut;
          removals = gone;
          visit = x.visit;
          last = x.last;
          needed = x.needed;
          made = subst M (closing-but sessions slots x.wire x.past mid.core owned within x.left) made;
          whole = append_assoc (pieces.told x.past) x.cut gone;
        },
      )

  -- a removal was refused
  pub answers-unremoved : (result : Result T OpenError) (e : OpenError) (n0 n1 : ℕ) → IsErrAnd result (λ x. x ≡ e) →
      length slots ≡ length sessions → Owned slots (tags mid.core.sources) →
      (past : Pieces) × CallSettled sessions rounds old r0 r1 mid.core slots past →
      VisitsCounted {T = Unit {0}} (Err e) n0 n1 → Removes {T = Unit {0}} ample gone_calls (Err e) r1 r2 →
      Answers items result sessions rounds ample r0 r2 old new.core
  answers-unremoved result open_err.OutOfMemory n0 n1 is len owned (past, x) counted (gone, gained, made, failed) =
      answers-err result open_err.OutOfMemory (pieces.told past ++ gone) is
      (after-gone r0 r1 r2 (pieces.told past) gone x.going.gained gained) tt
  answers-unremoved result open_err.Poller n0 n1 is len owned (past, x) counted (gone, gained, made, failed) =
      let none : waits_in gone ≡ 0 = closing-waits ample (length slots) (map shown mid.core.sources) gone made in
      let M : List Event → Type 0 = λ calls. Made ample calls gone in
      answers-err result open_err.Poller (pieces.told past ++ gone) is
      (after-gone r0 r1 r2 (pieces.told past) gone x.going.gained gained) (
        gone-ticker (pieces.told past) gone (ticks x.going) none,
        failing.at_end past gone (record {
          run = x.going.run;
          rest = x.rest;
          spent = x.spent;
          made = subst M (closing-rest sessions slots past rounds r0 r1 old mid.core len owned x.going) made;
          failed = failed;
        }) refl,
      )
  answers-unremoved result (open_err.Exhausted c value) n0 n1 is len owned rested counted removals = absurd counted

  opened-all : (endeds : List Ended) (past : Pieces) → length slots ≡ length sessions →
      Owned slots (tags mid.core.sources) → CallSettled sessions rounds old r0 r1 mid.core slots past →
      AllEnd 0 slots endeds → Opened sessions rounds old new.core endeds (pieces.told past ++ gone_calls)
  opened-all endeds past len owned x ends =
      let g : CallStands sessions rounds [] old r0 r1 mid.core slots past = x.going in
      let S : List Session → Type 0 = λ y. AllStand 0 [] y slots past in
      let stands : AllStand 0 [] sessions slots past = subst S (whole sessions slots len) g.stands in
      record {
        pieces = past;
        headline = record {
          each = each-ending 0 sessions slots endeds past stands ends;
          settled = record {
            run = g.run;
            rest = x.rest;
            spent = x.spent;
            whole = ap (λ gone. pieces.told past ++ gone)
                (closing-rest sessions slots past rounds r0 r1 old mid.core len owned g);
          };
        };
        interests = ap (λ y. y.core.begun) same ∙ g.begun;
        rounds_begun = ap (λ y. y.core.ticker) same ∙ g.ticker;
        timers_made = omega (
          arith,
          ap (λ y. y.core.made) same,
          g.made,
          notices_in-append (pieces.told past) gone_calls,
          closing-quiet (length slots) 0 (map shown mid.core.sources),
        );
      }

  -- all was done, unless there was no room for the endings
  pub answers-opened : (result : Result T OpenError) → length slots ≡ length sessions →
      Owned slots (tags mid.core.sources) →
      (past : Pieces) × CallSettled sessions rounds old r0 r1 mid.core slots past → r2 ≡ told r1 gone_calls →
      IfOk result (λ v. AllEnd 0 slots (items v)) → OnErr result (result ≡ Err open_err.OutOfMemory) →
      Answers items result sessions rounds ample r0 r2 old new.core
  answers-opened (Ok v) len owned (past, x) gained ends err = (
    pieces.told past ++ gone_calls,
    after-gone r0 r1 r2 (pieces.told past) gone_calls x.going.gained gained,
    opened-all (items v) past len owned x ends,
    tt,
  )
  answers-opened (Err e) len owned (past, x) gained ends err =
      let R : Result T OpenError → Type 0 =
      λ y. RefusedWith sessions rounds ample old new.core y (pieces.told past ++ gone_calls) in (
        pieces.told past ++ gone_calls,
        after-gone r0 r1 r2 (pieces.told past) gone_calls x.going.gained gained,
        tt,
        subst R (sym err) tt,
      )

-- there was no room for the slots
pub answers-none : {T : Type 0} (items : T → List Ended) (result : Result T OpenError) (sessions : List Session)
    (rounds : ℕ) (ample : Bool) (r : Option (List Event)) (old : Core) →
    IsErrAnd result (λ x. x ≡ open_err.OutOfMemory) → Answers items result sessions rounds ample r r old old
answers-none items (Ok v) sessions rounds ample r old is = absurd is
answers-none {T} items (Err x) sessions rounds ample r old is =
    let R : OpenError → Type 0 = λ y. RefusedWith {T = T} sessions rounds ample old old (Err y) [] in
    ([], told-nothing r, tt, subst R (sym is) tt)

-- ---- what is not refused

pub completes : {T : Type 0} (r : Result T OpenError) (sessions : List Session) (rounds : ℕ) (ample : Bool) (old new : Core) (events : List Event) (before now : ℕ) → OpenCounted r before now →
    RefusedWith sessions rounds ample old new r events → ¬ Rose before now → old.ticker + rounds < 2 ^ 64 →
    old.made + length sessions < 2 ^ 64 → Completes r
completes (Ok v) sessions rounds ample old new events before now cause refused calm low few = tt
completes (Err open_err.OutOfMemory) sessions rounds ample old new events before now cause refused calm low few = tt
completes (Err open_err.Poller) sessions rounds ample old new events before now cause refused calm low few = absurd (calm cause)
completes (Err (open_err.Exhausted counter.Round value)) sessions rounds ample old new events before now cause refused calm low few =
    let last = refused.2.last in
    let left = refused.2.left in
    absurd (omega (arith, last, left, low))
completes (Err (open_err.Exhausted counter.Timer value)) sessions rounds ample old new events before now cause refused calm low few =
    absurd (omega (arith, refused.2.needed, few))

-- ---- where a number ran out

pub halts-first : {T : Type 0} (result : Result T OpenError) (e : OpenError) (sessions : List Session) (rounds : ℕ)
    (ample : Bool) (start : Core) (r0 r1 : Option (List Event)) (core : Core) (slots : List Slot) →
    IsErrAnd result (λ x. x ≡ e) → OnTimerExhausted {T = Unit {0}} (Err e)
    ((rounds : ℕ) → CallRunsOut sessions rounds ample start r0 r1 core) →
    Halts result sessions rounds ample start r0 r1 core slots
halts-first (Ok v) e sessions rounds ample start r0 r1 core slots is x = absurd is
halts-first (Err y) e sessions rounds ample start r0 r1 core slots is x =
    let H : OpenError → Type 0 = λ z. Halts {T = Unit {0}} (Err z) sessions rounds ample start r0 r1 core slots in
    subst H (sym is) (go e x)
  where
    go : (e : OpenError) → OnTimerExhausted {T = Unit {0}} (Err e)
        ((rounds : ℕ) → CallRunsOut sessions rounds ample start r0 r1 core) →
        Halts {T = Unit {0}} (Err e) sessions rounds ample start r0 r1 core slots
    go open_err.OutOfMemory x = tt
    go open_err.Poller x = tt
    go (open_err.Exhausted c value) x =
        subst (λ k. HaltsAt k sessions rounds ample start r0 r1 core slots) (sym x.0) (x.1 rounds)

pub halts-rounds : {T : Type 0} (result : Result T OpenError) (sessions : List Session) (rounds : ℕ) (ample : Bool)
    (start : Core) (r0 r1 r2 : Option (List Event)) (mid core : Core) (slots slots' : List Slot) →
    length slots ≡ length sessions → CallStandsAfter sessions rounds [] 0 start r0 r1 mid slots →
    Stuck result rounds r1 r2 mid core slots slots' → Halts result sessions rounds ample start r0 r2 core slots'
halts-rounds (Ok v) sessions rounds ample start r0 r1 r2 mid core slots slots' len went stuck = tt
halts-rounds (Err open_err.OutOfMemory) sessions rounds ample start r0 r1 r2 mid core slots slots' len went stuck = tt
halts-rounds (Err open_err.Poller) sessions rounds ample start r0 r1 r2 mid core slots slots' len went stuck = tt
halts-rounds (Err (open_err.Exhausted c value)) sessions rounds ample start r0 r1 r2 mid core slots slots' len went stuck =
    subst (λ k. HaltsAt k sessions rounds ample start r0 r2 core slots') (sym stuck.0)
    (stuck.1 sessions start r0 len went)
