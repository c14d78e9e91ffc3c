-- A direction's table of futures, as places are stored at, added and taken out.
use Rattle.std.proofs.Common.{◌≡◌, ◌+◌, ◌-◌, ◌<◌, ◌≤◌, ℕ, Bool, true, false, List, [], ◌∷◌, Option, Some, None, is_some, length, refl, sym, ap, ◌∙◌, subst, arith}
use Rattle.std.specs.Option.{option_to_list}
use Rattle.std.proofs.lemmas.Bool.Decides.{nat_tests}
use Rattle.slab.specs.Slab.{Slab, entries, get, with_value, Updates, slab_len}
use Rattle.slab.proofs.SlabLemmas.{Updates-with_value, length-entries}
use Rattle.react_core.specs.declared.interest.Waiting.{Waiting}
use Rattle.react_core.specs.Keyed.{at_key, with_at, with_new_at, without_at, Each, sum_at}
use Rattle.react_core.specs.Places.{Entry, last_round, round_number, same_number}
use Rattle.react_core.specs.Readiness.{stored_task}
use Rattle.react_core.specs.Reports.{future_tasks}
use Rattle.react_core.specs.Sources.{some_task, has_task}
use Rattle.react_core.specs.Ticks.{entry_of, place_of, futures_of, IsTied}
use Rattle.react_core.proofs.Entries.{tasks_of_entry, length-future_tasks, length-futures_of, at_key-futures_of, some_task-counted}
use Rattle.react_core.proofs.Entries.{futures_of-with_at, futures_of-with_new_at, futures_of-without_at}
use Rattle.react_core.proofs.Keyed.{length-with_at, length-with_new_at}
use Rattle.react_core.proofs.Tables.{at_key-entries, entries-inserted, entries-written, entries-removed}
use Rattle.react_core.proofs.Totals.{length-without_held, sum_at-with_at, sum_at-with_new_at, sum_at-without_at}
use Rattle.react_core.proofs.Totals.{Each-at_key, Each-with_at, Each-with_new_at, Each-without_at}

-- the futures in a table
abbrev pub futures_in : Slab Waiting → List (ℕ × Entry)
futures_in table = futures_of (entries table)

-- so many of the futures in a table have no task
abbrev pub IsCounted : ℕ → Slab Waiting → Type 0
IsCounted taken table = taken + length (future_tasks (futures_in table)) ≡ length (entries table)

pub at_key-futures_in : (table : Slab Waiting) (place : ℕ) → at_key (futures_in table) place ≡ place_of (get table place)
at_key-futures_in table place = at_key-futures_of (entries table) place ∙ ap place_of (at_key-entries table place)

pub is_some-place_of : (w : Option Waiting) → is_some (place_of w) ≡ is_some w
is_some-place_of None = refl
is_some-place_of (Some w) = refl

-- a test that is false, and that each holder passes, shows that there is none
pub not_held : (held test : Bool) → (held ≡ true → test ≡ true) → test ≡ false → held ≡ false
not_held true test passes fails = absurd (let passed = passes refl in cc)
not_held false test passes fails = refl

-- ---- counts

no-task : (t : Option ℕ) → is_some t ≡ false → length (option_to_list t) ≡ 0
no-task None none = refl
no-task (Some t) none = absurd (cc)

one-task : (t : Option ℕ) → is_some t ≡ true → length (option_to_list t) ≡ 1
one-task None some = absurd (cc)
one-task (Some t) some = refl

one_task-most : (t : Option ℕ) → length (option_to_list t) ≤ 1
one_task-most None = omega arith
one_task-most (Some t) = omega arith

tasks-bound : (futures : List (ℕ × Entry)) → sum_at tasks_of_entry futures ≤ length futures
tasks-bound [] = omega arith
tasks-bound (f ∷ futures) = omega (arith, one_task-most f.1.task, tasks-bound futures)

-- a future without a task goes
pub gone-taken : (futures : List (ℕ × Entry)) (place taken : ℕ) (e : Entry) → taken + length (future_tasks futures) ≡ length futures → at_key futures place ≡ Some e → is_some e.task ≡ false →
    (1 ≤ taken) × (taken - 1 + length (future_tasks (without_at futures place)) ≡ length (without_at futures place))
gone-taken futures place taken e counted found none =
    let tasks = sum_at-without_at tasks_of_entry futures place e found in
    let places = length-without_held futures place e found in
    let bound = tasks-bound (without_at futures place) in
    let zero = no-task e.task none in
    let before = length-future_tasks futures in
    let after = length-future_tasks (without_at futures place) in
    (omega arith, omega arith)

-- a future with a task goes
pub gone-waiting : (futures : List (ℕ × Entry)) (place taken : ℕ) (e : Entry) → taken + length (future_tasks futures) ≡ length futures → at_key futures place ≡ Some e → is_some e.task ≡ true →
    taken + length (future_tasks (without_at futures place)) ≡ length (without_at futures place)
gone-waiting futures place taken e counted found some =
    let tasks = sum_at-without_at tasks_of_entry futures place e found in
    let places = length-without_held futures place e found in
    let one = one-task e.task some in
    let before = length-future_tasks futures in
    let after = length-future_tasks (without_at futures place) in
    omega arith

-- a future without a task has one again
pub stored-taken : (futures : List (ℕ × Entry)) (place taken task : ℕ) (e : Entry) → taken + length (future_tasks futures) ≡ length futures → at_key futures place ≡ Some e → is_some e.task ≡ false →
    (1 ≤ taken) × (taken - 1 + length (future_tasks (with_at futures place (record e { task = Some task }))) ≡ length (with_at futures place (record e { task = Some task })))
stored-taken futures place taken task e counted found none =
    let new : Entry = record e { task = Some task } in
    let tasks = sum_at-with_at tasks_of_entry futures place e new found in
    let places = length-with_at futures place new in
    let bound = tasks-bound (with_at futures place new) in
    let zero = no-task e.task none in
    let before = length-future_tasks futures in
    let after = length-future_tasks (with_at futures place new) in
    (omega arith, omega arith)

-- a future with a task has another
pub stored-waiting : (futures : List (ℕ × Entry)) (place taken task : ℕ) (e : Entry) → taken + length (future_tasks futures) ≡ length futures → at_key futures place ≡ Some e → is_some e.task ≡ true →
    taken + length (future_tasks (with_at futures place (record e { task = Some task }))) ≡ length (with_at futures place (record e { task = Some task }))
stored-waiting futures place taken task e counted found some =
    let new : Entry = record e { task = Some task } in
    let tasks = sum_at-with_at tasks_of_entry futures place e new found in
    let places = length-with_at futures place new in
    let one = one-task e.task some in
    let before = length-future_tasks futures in
    let after = length-future_tasks (with_at futures place new) in
    omega arith

-- a future comes, with its task
pub come-waiting : (futures : List (ℕ × Entry)) (place taken task since : ℕ) → taken + length (future_tasks futures) ≡ length futures →
    taken + length (future_tasks (with_new_at futures place (record { since = since; task = Some task }))) ≡ length (with_new_at futures place (record { since = since; task = Some task }))
come-waiting futures place taken task since counted =
    let new : Entry = record { since = since; task = Some task } in
    let tasks = sum_at-with_new_at tasks_of_entry futures place new in
    let places = length-with_new_at futures place new in
    let before = length-future_tasks futures in
    let after = length-future_tasks (with_new_at futures place new) in
    omega arith

-- ---- whether a task waits

pub has_task-stored : (o : Option Entry) → has_task o ≡ is_some (stored_task o)
has_task-stored None = refl
has_task-stored (Some e) = refl

module _ (taken : ℕ) (table : Slab Waiting) (counted : IsCounted taken table) where
  pub some_task-left : taken < slab_len table → some_task (futures_in table) ≡ true
  some_task-left less =
      let some : 0 < length (future_tasks (futures_in table)) = omega (arith, length-entries table) in
      some_task-counted (futures_in table) ∙ grind (arith, nat_tests, some)

  pub some_task-none : slab_len table ≤ taken → some_task (futures_in table) ≡ false
  some_task-none all =
      let none : length (future_tasks (futures_in table)) ≡ 0 = omega (arith, length-entries table) in
      some_task-counted (futures_in table) ∙ rw none refl

-- ---- tables

module _ (old new : Slab Waiting) (place : ℕ) where
  -- the place was taken out
  pub entries-gone : Updates old new place None → futures_in new ≡ without_at (futures_in old) place
  entries-gone updates = ap futures_of (entries-removed old new place updates) ∙ futures_of-without_at (entries old) place

  -- a future came there
  pub entries-come : (w : Waiting) → get old place ≡ None → Updates old new place (Some w) → futures_in new ≡ with_new_at (futures_in old) place (entry_of w)
  entries-come w free updates = ap futures_of (entries-inserted old new place w free updates) ∙ futures_of-with_new_at (entries old) place w

pub entries-stored : (table : Slab Waiting) (place : ℕ) (w : Waiting) → is_some (get table place) ≡ true → futures_in (with_value table place w) ≡ with_at (futures_in table) place (entry_of w)
entries-stored table place w held =
    ap futures_of (entries-written table (with_value table place w) place w held (Updates-with_value table place w held)) ∙ futures_of-with_at (entries table) place w

-- what stands at a place, as contracts see it
pub held-entry : (table : Slab Waiting) (place : ℕ) (w : Waiting) → get table place ≡ Some w → at_key (futures_in table) place ≡ Some (entry_of w)
held-entry table place w found = at_key-futures_in table place ∙ ap place_of found

counted-as : (taken : ℕ) (table : Slab Waiting) (futures : List (ℕ × Entry)) → futures_in table ≡ futures → taken + length (future_tasks futures) ≡ length futures → IsCounted taken table
counted-as taken table futures is counted =
    let lengths = length-futures_of (entries table) in
    let tasks = ap (λ fs. length (future_tasks fs)) is in
    let places = ap length is in
    omega arith

counted-in : (taken : ℕ) (table : Slab Waiting) → IsCounted taken table → taken + length (future_tasks (futures_in table)) ≡ length (futures_in table)
counted-in taken table counted = let lengths = length-futures_of (entries table) in omega arith

module _ (old new : Slab Waiting) (place taken : ℕ) (w : Waiting) (counted : IsCounted taken old) (found : get old place ≡ Some w) (updates : Updates old new place None) where
  pub counts-gone_taken : is_some w.task ≡ false → (1 ≤ taken) × IsCounted (taken - 1) new
  counts-gone_taken none =
      let gone = gone-taken (futures_in old) place taken (entry_of w) (counted-in taken old counted) (held-entry old place w found) none in
      (gone.0, counted-as (taken - 1) new _ (entries-gone old new place updates) gone.1)

  pub counts-gone_waiting : is_some w.task ≡ true → IsCounted taken new
  counts-gone_waiting some =
      counted-as taken new _ (entries-gone old new place updates) (gone-waiting (futures_in old) place taken (entry_of w) (counted-in taken old counted) (held-entry old place w found) some)

module _ (table : Slab Waiting) (place taken task : ℕ) (w : Waiting) (counted : IsCounted taken table) (found : get table place ≡ Some w) where
  stored : futures_in (with_value table place (record w { task = Some task })) ≡ with_at (futures_in table) place (record { since = w.since; task = Some task })
  stored = entries-stored table place (record w { task = Some task }) (ap is_some found)

  pub counts-stored_taken : is_some w.task ≡ false → (1 ≤ taken) × IsCounted (taken - 1) (with_value table place (record w { task = Some task }))
  counts-stored_taken none =
      let kept = stored-taken (futures_in table) place taken task (entry_of w) (counted-in taken table counted) (held-entry table place w found) none in
      (kept.0, counted-as (taken - 1) (with_value table place (record w { task = Some task })) _ stored kept.1)

  pub counts-stored_waiting : is_some w.task ≡ true → IsCounted taken (with_value table place (record w { task = Some task }))
  counts-stored_waiting some =
      counted-as taken (with_value table place (record w { task = Some task })) _ stored (stored-waiting (futures_in table) place taken task (entry_of w) (counted-in taken table counted)
      (held-entry table place w found) some)

pub counts-come : (old new : Slab Waiting) (place taken task : ℕ) (w : Waiting) → IsCounted taken old → get old place ≡ None → Updates old new place (Some w) → w.task ≡ Some task → IsCounted taken new
counts-come old new place taken task w counted free updates is =
    let come = come-waiting (futures_in old) place taken task w.since (counted-in taken old counted) in
    let entry : entry_of w ≡ record { since = w.since; task = Some task } = ap (λ t. record { since = w.since; task = t }) is in
    counted-as taken new _ (entries-come old new place w free updates ∙ ap (with_new_at (futures_in old) place) entry) come

-- ---- ties

module _ (tick : ℕ) where
  pub tied-gone : (old new : Slab Waiting) (place : ℕ) → Each (IsTied tick) (entries old) → Updates old new place None → Each (IsTied tick) (entries new)
  tied-gone old new place tied updates = rw (entries-removed old new place updates) (Each-without_at (IsTied tick) (entries old) place tied)

  pub tied-come : (old new : Slab Waiting) (place : ℕ) (w : Waiting) → Each (IsTied tick) (entries old) → get old place ≡ None → Updates old new place (Some w) → IsTied tick w →
      Each (IsTied tick) (entries new)
  tied-come old new place w tied free updates one = rw (entries-inserted old new place w free updates) (Each-with_new_at (IsTied tick) (entries old) place w tied one)

  pub tied-at : (table : Slab Waiting) (place : ℕ) (w : Waiting) → Each (IsTied tick) (entries table) → get table place ≡ Some w → IsTied tick w
  tied-at table place w tied found = Each-at_key (IsTied tick) (entries table) place w tied (at_key-entries table place ∙ found)

  pub tied-stored : (table : Slab Waiting) (place task : ℕ) (w : Waiting) → Each (IsTied tick) (entries table) → get table place ≡ Some w →
      Each (IsTied tick) (entries (with_value table place (record w { task = Some task })))
  tied-stored table place task w tied found =
      let new : Waiting = record w { task = Some task } in
      rw (entries-written table (with_value table place new) place new (ap is_some found) (Updates-with_value table place new (ap is_some found)))
      (Each-with_at (IsTied tick) (entries table) place new tied (tied-at table place w tied found))

-- a table with more room
module _ (old new : Slab Waiting) (more : entries new ≡ entries old) where
  pub counts-roomy : (taken : ℕ) → IsCounted taken old → IsCounted taken new
  counts-roomy taken counted = let P : List (ℕ × Waiting) → Type 0 = λ ws. taken + length (future_tasks (futures_of ws)) ≡ length ws in subst P (sym more) counted

  pub tied-roomy : (tick : ℕ) → Each (IsTied tick) (entries old) → Each (IsTied tick) (entries new)
  tied-roomy tick tied = let P : List (ℕ × Waiting) → Type 0 = λ ws. Each (IsTied tick) ws in subst P (sym more) tied

-- an interest that begins now
pub tied-new : (tick ticker : ℕ) (reported : Option ℕ) → last_round tick ≡ reported → round_number reported ≤ ticker → tick ≤ ticker
tied-new tick ticker reported is le = let same = ap round_number is in let number = same_number tick in omega arith
