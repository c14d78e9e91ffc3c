-- The machine's steps as steps of the world.
use Rattle.std.proofs.Common.{◌≡◌, ℕ, Bool, true, false, List, [], ◌∷◌, Option, Some, None, is_some, get_or, set, refl, sym, ap, ◌∙◌}
use Rattle.std.specs.Prelude.{◌==◌, if◌then◌else◌}
use Rattle.std.proofs.lemmas.Bool.{eq-eqb}
use Rattle.std.specs.Option.{option_to_list}
use Rattle.react_core.specs.declared.reactor.Dir.{Dir}
use Rattle.react_core.specs.Asking.{after_direction, first_task}
use Rattle.react_core.specs.Futures.{asks, is_fired, after_future, after_future_poll, direction_of, direction_at, future_fresh, without_future, cancelled, after_source_cancel}
use Rattle.react_core.specs.Futures as futures
use Rattle.react_core.specs.Keyed.{at_key, with_at, with_new_at, without_at, KeysRiseFrom}
use Rattle.react_core.specs.Places.{Source}
use Rattle.react_core.specs.Readiness.{direction_outcome, poll_outcome, poll_answer, woken_by, arms}
use Rattle.react_core.specs.Reports.{Arming, arming_of}
use Rattle.react_core.specs.Sources.{source_of, with_source, side, with_side}
use Rattle.react_core.specs.Step as core
use Rattle.react_core.proofs.Askings.{outcome-at, polled-core, few-woken}
use Rattle.react_core.proofs.Futures.{direction-at, future-core}
use Rattle.react_core.proofs.Keyed.{at_key-with_at, at_key-with_new_at, at_key-without_at}
use Rattle.react_steps.specs.declared.armed.Armed.{Armed}
use Rattle.react_steps.specs.declared.kind.Answer.{Answer}
use Rattle.react_steps.specs.declared.kind.Answer.TheVariants.{Done}
use Rattle.react_steps.specs.declared.kind.Kind.TheVariants.{Poll, PollFuture, Cancel}
use Rattle.react_steps.specs.declared.machine.Machine.{Machine}
use Rattle.react_steps.specs.Machine.{core_of, world_of, begun_after}
use Rattle.react_steps.specs.Rows.{StandsAt}
use Rattle.react_steps.specs.World.{World, Step, Polled, PollStep, CancelStep, polled, with_armings, armings_of}
use Rattle.react_steps.proofs.Rows.{keys-with_at}

-- ---- the row that was found

module _ {T : Type 0} (key : ℕ) (rows : List (ℕ × T)) (at : ℕ) (row : ℕ × T) (stands : StandsAt key rows at) (is : row ≡ get_or rows at row) where
  pub row-found : at_key rows key ≡ Some row.1
  row-found = stands.value row ∙ ap (λ (x : ℕ × T). Some x.1) (sym is)

  pub row-written : (new : T) → set rows at (row.0, new) ≡ with_at rows key new
  row-written new = stands.written (row.0, new) (ap (λ (x : ℕ × T). x.0) is ∙ stands.keyed row)

-- ---- sound machines

-- the same keys
abbrev pub SameKeys : {S T : Type 0} → List (ℕ × S) → List (ℕ × T) → Type 0
SameKeys xs ys = (key : ℕ) → is_some (at_key xs key) ≡ is_some (at_key ys key)

pub keys-armings : (armed : List (ℕ × Armed)) (armings : List Arming) (k : ℕ) → is_some (at_key (with_armings armed armings) k) ≡ is_some (at_key armed k)
keys-armings armed [] k = refl
keys-armings armed (a ∷ armings) k =
    keys-armings (with_at armed a.key (record { read = a.read; write = a.write })) armings k ∙ keys-with_at armed a.key (record { read = a.read; write = a.write }) k

keys-if : (b : Bool) (armed : List (ℕ × Armed)) (armings : List Arming) (k : ℕ) → is_some (at_key (if b then with_armings armed armings else armed) k) ≡ is_some (at_key armed k)
keys-if true armed armings k = keys-armings armed armings k
keys-if false armed armings k = refl

-- a source is written back, and its key may be armed
pub sound-keys : (sources sources' : List (ℕ × Source)) (armed armed' : List (ℕ × Armed)) (key : ℕ) (s : Source) (b : Bool) (armings : List Arming) →
    SameKeys armed sources → sources' ≡ with_source sources key s → armed' ≡ (if b then with_armings armed armings else armed) → SameKeys armed' sources'
sound-keys sources sources' armed armed' key s b armings same is armed_is k =
    ap (λ (l : List (ℕ × Armed)). is_some (at_key l k)) armed_is ∙ keys-if b armed armings k ∙ same k ∙ sym (keys-with_at sources key s k)
    ∙ sym (ap (λ (l : List (ℕ × Source)). is_some (at_key l k)) is)

-- ---- polls

pub unrefused : (fault arms : Bool) (old : World) (kind : core.Kind) (key : ℕ) (answer : Answer) (woken : List ℕ) (new : World) → (fault ≡ true → arms ≡ false) →
    Polled arms old kind key answer woken new → PollStep fault arms old kind key answer woken new
unrefused true true old kind key answer woken new free made = absurd (let e = free refl in cc)
unrefused true false old kind key answer woken new free made = made
unrefused false arms old kind key answer woken new free made = made

module _ (m : Machine) (key : ℕ) (dir : Dir) (s : Source) (found : source_of m.sources.items key ≡ Some s) where
  known : is_some (source_of m.sources.items key) ≡ true
  known = ap is_some found

  same-key : (key == key) ≡ true
  same-key = eq-eqb key key refl

  -- what is armed after the source was written back
  armed-after : (b : Bool) (sources : List (ℕ × Source)) (s' : Source) (armed : List (ℕ × Armed)) → sources ≡ with_source m.sources.items key s' →
      armed ≡ (if b then with_armings m.armed.items (arming_of key s') else m.armed.items) →
      armed ≡ (if b then with_armings m.armed.items (armings_of key (source_of sources key)) else m.armed.items)
  armed-after b sources s' armed are is =
      let here : source_of sources key ≡ Some s' =
      ap (λ ss. source_of ss key) are ∙ at_key-with_at m.sources.items key key s' known ∙ ap (λ b. if b then Some s' else source_of m.sources.items key) same-key in
      is ∙ sym (ap (λ o. if b then with_armings m.armed.items (armings_of key o) else m.armed.items) here)

  abbrev after : List (ℕ × Source) → ℕ → List (ℕ × Armed) → World
  after sources begun armed =
      record { core = record (core_of m) { sources = sources; begun = begun }; armed = armed; notice = m.notice; returned = m.returned }

  pub poll-made : (task : ℕ) (fault : Bool) (sources : List (ℕ × Source)) (begun : ℕ) (armed : List (ℕ × Armed)) (answer : Answer) (woken : List ℕ) →
      sources ≡ with_source m.sources.items key (with_side dir s (after_direction m.ticker task (side dir s))) →
      begun ≡ begun_after m.begun (direction_outcome task (side dir s)) →
      armed ≡ (if arms (direction_outcome task (side dir s)) then with_armings m.armed.items (arming_of key (with_side dir s (after_direction m.ticker task (side dir s)))) else m.armed.items) →
      (fault ≡ true → arms (direction_outcome task (side dir s)) ≡ false) →
      answer ≡ polled (poll_answer (direction_outcome task (side dir s))) →
      woken ≡ option_to_list (first_task (woken_by (direction_outcome task (side dir s)))) →
      Step (world_of m) (Poll key dir task fault) answer woken (after sources begun armed)
  poll-made task fault sources begun armed answer woken are begun_is armed_is free answer_is woken_is =
      let o = direction_outcome task (side dir s) in
      let s' = with_side dir s (after_direction m.ticker task (side dir s)) in
      let at : poll_outcome (core_of m) key dir task ≡ o = outcome-at (core_of m) key dir task s found in
      record {
        known = known;
        step = unrefused fault (arms (poll_outcome (core_of m) key dir task)) (world_of m) (core.PolledPoll key dir task) key answer woken (after sources begun armed)
            (λ f. ap arms at ∙ free f)
            (record {
              made = poll_answer o;
              step = record {
                known = known;
                answered = sym (ap poll_answer at);
                wakes = woken_is ∙ sym (few-woken task (side dir s)) ∙ sym (ap woken_by at);
                core = polled-core (core_of m) key dir task s found sources begun are begun_is;
              };
              answered = answer_is;
              world = ap (after sources begun)
                  (armed-after (arms o) sources s' armed are armed_is
                  ∙ sym (ap (λ b. if b then with_armings m.armed.items (armings_of key (source_of sources key)) else m.armed.items) (ap arms at)));
            });
      }

  pub future-made : (place task : ℕ) (fault : Bool) (sources : List (ℕ × Source)) (armed : List (ℕ × Armed)) (answer : Answer) (woken : List ℕ) →
      sources ≡ with_source m.sources.items key (with_side dir s (after_future m.ticker task (side dir s) place)) →
      armed ≡ (if asks (side dir s) (at_key (side dir s).futures place) then with_armings m.armed.items (arming_of key (with_side dir s (after_future m.ticker task (side dir s) place)))
      else m.armed.items) →
      (fault ≡ true → asks (side dir s) (at_key (side dir s).futures place) ≡ false) →
      answer ≡ polled (futures.future_answer (is_fired (side dir s) place)) → woken ≡ [] →
      Step (world_of m) (PollFuture key dir place task fault) answer woken (after sources m.begun armed)
  future-made place task fault sources armed answer woken are armed_is free answer_is woken_is =
      let s' = with_side dir s (after_future m.ticker task (side dir s) place) in
      let at : direction_at (core_of m) key dir ≡ side dir s = direction-at (core_of m) key dir s found in
      let same : asks (direction_at (core_of m) key dir) (at_key (direction_at (core_of m) key dir).futures place) ≡ asks (side dir s) (at_key (side dir s).futures place) =
      ap (λ d. asks d (at_key d.futures place)) at in
      record {
        known = known;
        step = unrefused fault (asks (direction_at (core_of m) key dir) (at_key (direction_at (core_of m) key dir).futures place)) (world_of m)
            (core.FuturePoll key dir place task) key answer woken (after sources m.begun armed)
            (λ f. same ∙ free f)
            (record {
              made = futures.future_answer (is_fired (side dir s) place);
              step = record {
                known = known;
                answered = sym (ap (λ d. futures.future_answer (is_fired d place)) at);
                wakes = woken_is;
                core = future-core (core_of m) key dir s found sources task place are;
              };
              answered = answer_is;
              world = ap (after sources m.begun)
                  (armed-after (asks (side dir s) (at_key (side dir s).futures place)) sources s' armed are armed_is
                  ∙ sym (ap (λ b. if b then with_armings m.armed.items (armings_of key (source_of sources key)) else m.armed.items) same));
            });
      }

-- ---- a cancel

module _ (m : Machine) (key : ℕ) (dir : Dir) where
  pub cancel-made : (s : Source) → source_of m.sources.items key ≡ Some s → (place : ℕ) (sources : List (ℕ × Source)) (answer : Answer) (woken : List ℕ) →
      sources ≡ with_source m.sources.items key (with_side dir s (without_future (side dir s) place)) → answer ≡ Done → woken ≡ [] →
      Step (world_of m) (Cancel key dir place) answer woken (record (world_of m) { core = record (core_of m) { sources = sources } })
  cancel-made s found place sources answer woken are answer_is woken_is = record {
    answered = answer_is;
    step = at (source_of m.sources.items key) found;
  }
    where
      new : World
      new = record (world_of m) { core = record (core_of m) { sources = sources } }

      at : (o : Option Source) → o ≡ Some s → CancelStep o (world_of m) key (core.Cancel key dir place) woken new
      at None is = absurd (cc)
      at (Some t) is = (
        record {
          known = ap is_some found;
          wakes = woken_is;
          core = ap (λ ss. record (core_of m) { sources = ss }) are ∙ sym (ap (λ o. after_source_cancel (core_of m) key o dir place) found);
        },
        refl,
      )

  pub cancel-nothing : (place : ℕ) (answer : Answer) (woken : List ℕ) → source_of m.sources.items key ≡ None → answer ≡ Done → woken ≡ [] →
      Step (world_of m) (Cancel key dir place) answer woken (world_of m)
  cancel-nothing place answer woken none answer_is woken_is = record { answered = answer_is; step = at (source_of m.sources.items key) none }
    where
      at : (o : Option Source) → o ≡ None → CancelStep o (world_of m) key (core.Cancel key dir place) woken (world_of m)
      at None is = (woken_is, refl)
      at (Some t) is = absurd (cc)

-- ---- an insertion and a removal

pub no-value : {T : Type 0} (o : Option T) → is_some o ≡ false → o ≡ None
no-value None none = refl
no-value (Some x) none = absurd (cc)

abbrev no_row : (T : Type 0) → Option T
no_row T = None

module _ {S T : Type 0} (xs : List (ℕ × S)) (ys : List (ℕ × T)) (same : SameKeys xs ys) (key : ℕ) where
  pub free-too : at_key ys key ≡ None → at_key xs key ≡ None
  free-too free = no-value (at_key xs key) (same key ∙ ap is_some free)

  pub keys-inserted : (x : S) (y : T) → at_key ys key ≡ None → SameKeys (with_new_at xs key x) (with_new_at ys key y)
  keys-inserted x y free k = ap is_some (at_key-with_new_at xs key k x (free-too free)) ∙ either (key == k) ∙ sym (ap is_some (at_key-with_new_at ys key k y free))
    where
      either : (b : Bool) → is_some (if b then Some x else at_key xs k) ≡ is_some (if b then Some y else at_key ys k)
      either true = refl
      either false = same k

  pub keys-removed : KeysRiseFrom 0 xs → KeysRiseFrom 0 ys → SameKeys (without_at xs key) (without_at ys key)
  keys-removed rx ry k = ap is_some (at_key-without_at 0 xs key k rx) ∙ either (key == k) ∙ sym (ap is_some (at_key-without_at 0 ys key k ry))
    where
      either : (b : Bool) → is_some (if b then no_row S else at_key xs k) ≡ is_some (if b then no_row T else at_key ys k)
      either true = refl
      either false = same k
