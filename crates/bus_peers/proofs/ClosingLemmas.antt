-- The sources at the end: each session's is taken out in turn, and what that tells is the closing.
use Rattle.std.proofs.Common.{◌≡◌, ◌≢◌, ◌≤◌, ◌<◌, ℕ, ◌+◌, zero, suc, Bool, true, false, nat_lt, ◌==◌, List, [], ◌∷◌}
use Rattle.std.proofs.Common.{◌++◌, length, map, Option, Some, None, inr, refl, sym, ◌∙◌, ap, subst, arith, append_assoc}
use Rattle.std.proofs.Common.{slice_index_or}
use Rattle.std.specs.Prelude.{Result, Ok, Err, OnOk}
use Rattle.std.specs.Result.{result_and}
use Rattle.std.specs.List.{list_all, list_any}
use Rattle.std.proofs.lemmas.List.{append-nil}
use Rattle.std.proofs.lemmas.Bool.{and_parts, eq-eqb, ne_eqb, eqb-true, both_ways, ltb-true, ltb-false}
use Rattle.std.proofs.lemmas.Option.{same_Some, slice_get_read}
use Rattle.react_core.specs.declared.outside.Event.{Event}
use Rattle.react_core.specs.declared.outside.Event.TheVariants as event
use Rattle.react_core.specs.Places.{Source}
use Rattle.react_core.specs.Core.{Core, ReactorState}
use Rattle.react_core.specs.Sources.{source_of}
use Rattle.react_core.specs.declared.reactor.ReactError.{ReactError}
use Rattle.react_core.specs.declared.reactor.ReactError.TheVariants as react_err
use Rattle.react_core.specs.Causes.{RemoveTold, OnReactLack}
use Rattle.react_core.specs.Told.{told, told-told, told-nothing}
use Rattle.bus_session.specs.declared.ended.Ended.{Ended}
use Rattle.bus_visit.specs.declared.visiting.Slot.{Slot}
use Rattle.bus_visit.specs.declared.visiting.Slot.TheVariants as slot
use Rattle.bus_peers.specs.declared.open.OpenError.{OpenError}
use Rattle.bus_peers.specs.declared.open.OpenError.TheVariants as open_err
use Rattle.bus_visit.specs.Registry.{Held}
use Rattle.bus_peers.specs.inside.Closing.{removals_of, closing}
use Rattle.bus_visit.specs.Shown.{shown, Tags, tags, tag_at, without_tag, has_wire, Single, are_below}
use Rattle.bus_peers.specs.inside.SlotFaults.{VisitsCounted}
use Rattle.bus_peers.specs.inside.Slots.{Owns, AllOwn, Owned}
use Rattle.bus_peers.specs.inside.Rounds.{IsHeld, without_slot, removal_of, removal_told, is_kept, EndsIn, AllEnd}
use Rattle.bus_peers.specs.Headline.{open_error}
use Rattle.bus_peers.specs.inside.Failures.{IfPoller, OnPoller, Removes}
use Rattle.bus_record.specs.Failing.{Made, is_failed}
use Rattle.bus_peers.proofs.MadeLemmas.{made-append, made-one, failed-before, failed-after}
use Rattle.bus_visit.specs.laws.Tags.{tags-without, tag-has_source, tag-source, tag-has_wire, has_wire-without, no_wire-without, tag_at-without, single-without, below-without, below-none, tags-none}
use Rattle.bus_peers.proofs.SlotLemmas.{owns-at, below-from, no_wire-above}

-- ---- what is told

pub closing-more : (i from : ℕ) (held : List Held) → closing (suc i) from held ≡ closing i from held ++ removals_of held (from + i)
closing-more zero from held =
    let same : from ≡ from + 0 = omega arith in
    append-nil (removals_of held from) ∙ ap (removals_of held) same
closing-more (suc i) from held =
    let place : (from + 1) + i ≡ from + suc i = omega arith in
    let F : List Event → List Event = λ x. removals_of held from ++ x in
    ap F (closing-more i (from + 1) held) ∙ (ap (λ k. F (closing i (from + 1) held ++ removals_of held k)) place
    ∙ sym (append_assoc (removals_of held from) (closing i (from + 1) held) (removals_of held (from + suc i))))

-- one more, where the count is written as a sum
pub closing-next : (i : ℕ) (held : List Held) → closing (i + 1) 0 held ≡ closing i 0 held ++ removals_of held i
closing-next i held =
    let more : i + 1 ≡ suc i = omega arith in
    let place : 0 + i ≡ i = omega arith in
    ap (λ k. closing k 0 held) more ∙ (closing-more i 0 held ∙ ap (λ k. closing i 0 held ++ removals_of held k) place)

no_go : (x : ℕ × Source) (sources : List (ℕ × Source)) (wire : ℕ) (b : Bool) → (x.1.wire == wire) ≡ b →
    has_wire wire (tags (x ∷ sources)) ≡ false →
    (has_wire wire (tags sources) ≡ false → removals_of (map shown sources) wire ≡ []) →
    removals_of (map shown (x ∷ sources)) wire ≡ []
no_go x sources wire true e none ih = let wrong : true ≡ false = rw e at none in cc
no_go x sources wire false e none ih = rw e (ih (rw e at none))

-- nothing is taken out of a wire without a key
pub removals-none : (sources : List (ℕ × Source)) (wire : ℕ) → has_wire wire (tags sources) ≡ false → removals_of (map shown sources) wire ≡ []
removals-none [] wire none = refl
removals-none (x ∷ sources) wire none = no_go x sources wire (x.1.wire == wire) refl none (removals-none sources wire)

one_go : (x : ℕ × Source) (sources : List (ℕ × Source)) (key wire : ℕ) (b : Bool) → (x.0 == key) ≡ b → has_wire x.1.wire (tags sources) ≡ false → tag_at (tags (x ∷ sources)) key ≡ Some wire →
    (tag_at (tags sources) key ≡ Some wire → removals_of (map shown sources) wire ≡ event.Delete wire key true ∷ []) → removals_of (map shown (x ∷ sources)) wire ≡ event.Delete wire key true ∷ []
one_go x sources key wire true e alone at ih =
    let here : Some x.1.wire ≡ Some wire = rw e at at in
    let w : x.1.wire ≡ wire = same_Some x.1.wire wire here in
    let k : x.0 ≡ key = eqb-true x.0 key e in
    let F : ℕ → ℕ → List Event = λ u v. event.Delete u v true ∷ [] in
    rw (eq-eqb x.1.wire wire w) (ap (λ u. F u x.0) w ∙ ap (λ v. F wire v) k)
one_go x sources key wire false e alone at ih =
    let there : tag_at (tags sources) key ≡ Some wire = rw e at at in
    let P : ℕ → Type 0 = λ u. has_wire u (tags sources) ≡ false in
    let other : x.1.wire ≢ wire = λ w. both_ways (has_wire wire (tags sources)) (subst P w alone) (tag-has_wire (tags sources) key wire there) in
    rw (ne_eqb x.1.wire wire other) (ih there)

-- the one key of a wire is taken out
pub removals-one : (sources : List (ℕ × Source)) (key wire : ℕ) → Single (tags sources) → tag_at (tags sources) key ≡ Some wire → removals_of (map shown sources) wire ≡ event.Delete wire key true ∷ []
removals-one [] key wire single at = cc
removals-one (x ∷ sources) key wire single at = one_go x sources key wire (x.0 == key) refl single.0 at (removals-one sources key wire single.1)

-- ---- what is left

-- The wires below the first number are gone. The others stand as they stood.
pub record Left (i n : ℕ) (old now : Tags) : Type 0 where
  pub kept : (k w : ℕ) → i ≤ w → tag_at old k ≡ Some w → tag_at now k ≡ Some w
  pub gone : (w : ℕ) → w < i → has_wire w now ≡ false
  pub free : (w : ℕ) → has_wire w old ≡ false → has_wire w now ≡ false
  pub below : are_below n now ≡ true
  pub single : Single now

pub left-none : (n : ℕ) (ts : Tags) → are_below n ts ≡ true → Single ts → Left 0 n ts ts
left-none n ts below single = record {
  kept = λ k w le at. at;
  gone = λ w lt. absurd (omega (arith, lt));
  free = λ w none. none;
  below = below;
  single = single;
}

now_or_before : (i w : ℕ) (ts : Tags) → w < i + 1 → has_wire i ts ≡ false → ((v : ℕ) → v < i → has_wire v ts ≡ false) → (b : Bool) → (w == i) ≡ b → has_wire w ts ≡ false
now_or_before i w ts lt here before true e = ap (λ v. has_wire v ts) (eqb-true w i e) ∙ here
now_or_before i w ts lt here before false e = before w (let other : w ≢ i = λ f. both_ways (w == i) e (eq-eqb w i f) in omega (arith, lt, other))

-- the next wire had no key
pub left-free : (i n : ℕ) (old now : Tags) → has_wire i old ≡ false → Left i n old now → Left (i + 1) n old now
left-free i n old now none l = record {
  kept = λ k w le at. l.kept k w (omega (arith, le)) at;
  gone = λ w lt. now_or_before i w now lt (l.free i none) l.gone (w == i) refl;
  free = l.free;
  below = l.below;
  single = l.single;
}

-- the next wire's key is taken out
pub left-removed : (i n key : ℕ) (old now : Tags) → tag_at old key ≡ Some i → Left i n old now → Left (i + 1) n old (without_tag now key)
left-removed i n key old now at l =
    let here : tag_at now key ≡ Some i = l.kept key i (omega arith) at in record {
      kept = λ k w le at'. let other : k ≢ key = λ e. let same : w ≡ i = same_Some w i (sym at' ∙ (ap (tag_at old) e ∙ at)) in omega (arith, le, same) in
          tag_at-without now key k other ∙ l.kept k w (omega (arith, le)) at';
      gone = λ w lt. now_or_before i w (without_tag now key) lt (has_wire-without now key i l.single here) (λ v lt'. no_wire-without now key v (l.gone v lt')) (w == i) refl;
      free = λ w none. no_wire-without now key w (l.free w none);
      below = below-without n now key l.below;
      single = single-without now key l.single;
    }

low_or_high : (w n : ℕ) (ts : Tags) → are_below n ts ≡ true → ((v : ℕ) → v < n → has_wire v ts ≡ false) → (b : Bool) → nat_lt w n ≡ b → has_wire w ts ≡ false
low_or_high w n ts below gone true e = gone w (ltb-true w n e)
low_or_high w n ts below gone false e = no_wire-above n w ts below (ltb-false w n e)

-- where the wires below are gone, no source is left
pub left-all : (i n : ℕ) (old : Tags) (sources : List (ℕ × Source)) → n ≤ i → Left i n old (tags sources) → sources ≡ []
left-all i n old sources le l =
    tags-none sources (below-none (tags sources) (below-from 0 (tags sources)
    (λ w low. low_or_high w n (tags sources) l.below (λ v lt. l.gone v (omega (arith, lt, le))) (nat_lt w n) refl)))

-- ---- one slot

-- the sources after a slot's is taken out
pub left-slot : (i n : ℕ) (old now : Core) (c : Slot) → Owns i c (tags old.sources) →
    Left i n (tags old.sources) (tags now.sources) →
    Left (i + 1) n (tags old.sources) (tags (without_slot c now).sources)
left-slot i n old now (slot.Ended e) owns l = left-free i n (tags old.sources) (tags now.sources) owns l
left-slot i n old now (slot.Asleep s) owns l =
    let L : Tags → Type 0 = λ ts. Left (i + 1) n (tags old.sources) ts in
    subst L (sym (tags-without now.sources s.key)) (left-removed i n s.key (tags old.sources) (tags now.sources) owns l)
left-slot i n old now slot.Refused owns l = left-free i n (tags old.sources) (tags now.sources) owns l

pub left-held : (i n : ℕ) (old now : Core) (c : Slot) → Owns i c (tags old.sources) → Left i n (tags old.sources) (tags now.sources) → IsHeld c now
left-held i n old now (slot.Ended e) owns l = tt
left-held i n old now (slot.Asleep s) owns l = tag-has_source now.sources s.key i (l.kept s.key i (omega arith) owns)
left-held i n old now slot.Refused owns l = tt

removal-found : (i key : ℕ) (o : Option Source) → (s : Source) × (o ≡ Some s) × (s.wire ≡ i) → removal_of o key ≡ event.Delete i key true ∷ []
removal-found i key o (s, at, own) = ap (λ x. removal_of x key) at ∙ ap (λ w. event.Delete w key true ∷ []) own

-- it tells what the closing has for its wire
pub removal-slot : (i n : ℕ) (old now : Core) (c : Slot) → Single (tags old.sources) → Owns i c (tags old.sources) →
    Left i n (tags old.sources) (tags now.sources) → removal_told c now ≡ removals_of (map shown old.sources) i
removal-slot i n old now (slot.Ended e) single owns l = sym (removals-none old.sources i owns)
removal-slot i n old now (slot.Asleep s) single owns l =
    removal-found i s.key (source_of now.sources s.key) (tag-source now.sources s.key i (l.kept s.key i (omega arith) owns)) ∙ sym (removals-one old.sources s.key i single owns)
removal-slot i n old now slot.Refused single owns l = sym (removals-none old.sources i owns)

-- ---- the answer

told_slot : {T : Type 0} (answer removed' : Result T OpenError) (i : ℕ) (r0 r1 r2 : Option (List Event)) (held : List Held) (gone : List Event) → gone ≡ removals_of held i →
    OnOk answer (r1 ≡ told r0 (closing i 0 held)) → OnOk removed' (r2 ≡ told r1 gone) → OnOk (result_and answer removed') (r2 ≡ told r0 (closing (i + 1) 0 held))
told_slot (Ok v) (Ok u) i r0 r1 r2 held gone is before after =
    let F : List Event → Option (List Event) = λ x. told r1 x in
    let G : Option (List Event) → Option (List Event) = λ r. told r (removals_of held i) in
    after ∙ (ap F is ∙ (ap G before ∙ (told-told r0 (closing i 0 held) (removals_of held i) ∙ ap (told r0) (sym (closing-next i held)))))
told_slot (Ok v) (Err e) i r0 r1 r2 held gone is before after = tt
told_slot (Err e) removed' i r0 r1 r2 held gone is before after = tt

-- told so far, unless a removal was refused
pub told-slot : {T : Type 0} (answer removed' both : Result T OpenError) (i : ℕ) (r0 r1 r2 : Option (List Event))
    (held : List Held) (gone : List Event) → both ≡ result_and answer removed' → gone ≡ removals_of held i →
    OnOk answer (r1 ≡ told r0 (closing i 0 held)) → OnOk removed' (r2 ≡ told r1 gone) → OnOk both (r2 ≡ told r0 (closing (i + 1) 0 held))
told-slot {T} answer removed' both i r0 r1 r2 held gone is same before after =
    let P : Result T OpenError → Type 0 = λ r. OnOk r (r2 ≡ told r0 (closing (i + 1) 0 held)) in
    subst P (sym is) (told_slot answer removed' i r0 r1 r2 held gone same before after)

-- the answer of a call behind a `?`
abbrev pub AnswersAs : {T : Type 0} → Result T ReactError → Result (Unit {0}) OpenError → Type 0
AnswersAs (Ok v) answer = answer ≡ Ok tt
AnswersAs (Err e) answer = answer ≡ Err (open_error e)

-- removals so far, and one more
pub removes-more : (ample ample' : Bool) (answer removed' both : Result (Unit {0}) OpenError) (i : ℕ)
    (r0 r1 r2 : Option (List Event)) (held : List Held) (gone : List Event) → ample' ≡ ample →
    both ≡ result_and answer removed' → gone ≡ removals_of held i → Removes ample (closing i 0 held) answer r0 r1 →
    Removes ample' gone removed' r1 r2 → Removes ample (closing (i + 1) 0 held) both r0 r2
removes-more ample ample' answer removed' both i r0 r1 r2 held gone known is same (a, first, made, failed) (b, second, made', failed') =
    let M : List Event → Type 0 = λ calls. Made ample calls (a ++ b) in
    let B : Bool → Type 0 = λ x. Made x gone b in
    let N : List Event → Type 0 = λ calls. Made ample calls b in (
      a ++ b,
      second ∙ (ap (λ r. told r b) first ∙ told-told r0 a b),
      subst M (sym (closing-next i held))
          (made-append ample (closing i 0 held) (removals_of held i) a b made (subst N same (subst B known made'))),
      subst (λ r. OnPoller r (list_any is_failed (a ++ b) ≡ true)) (sym is) (either answer removed' failed failed'),
    )
  where
    keep : (e : OpenError) → IfPoller e (list_any is_failed a ≡ true) → IfPoller e (list_any is_failed (a ++ b) ≡ true)
    keep open_err.Poller f = failed-before a b f
    keep open_err.OutOfMemory f = tt
    keep (open_err.Exhausted c value) f = tt

    either : (answer removed' : Result (Unit {0}) OpenError) → OnPoller answer (list_any is_failed a ≡ true) →
        OnPoller removed' (list_any is_failed b ≡ true) →
        OnPoller (result_and answer removed') (list_any is_failed (a ++ b) ≡ true)
    either (Ok u) (Ok v) f f' = tt
    either (Ok u) (Err open_err.Poller) f f' = failed-after a b f'
    either (Ok u) (Err open_err.OutOfMemory) f f' = tt
    either (Ok u) (Err (open_err.Exhausted c value)) f f' = tt
    either (Err e) removed' f f' = keep e f

pub removes-end : (ample : Bool) (answer : Result (Unit {0}) OpenError) (i : ℕ) (items slots : List Slot)
    (r0 r1 : Option (List Event)) (held : List Held) → items ≡ slots → i ≤ length items → length items ≤ i →
    Removes ample (closing i 0 held) answer r0 r1 → Removes ample (closing (length slots) 0 held) answer r0 r1
removes-end ample answer i items slots r0 r1 held same within le so =
    let place : i ≡ length slots = omega (arith, within, le, ap length same) in
    let P : ℕ → Type 0 = λ k. Removes ample (closing k 0 held) answer r0 r1 in
    subst P place so

-- what the removal of a slot's source told
pub removes-slot : {T : Type 0} (ample : Bool) (key : ℕ) (found : Option Source) (r : Result T ReactError)
    (before after : Option (List Event)) → OnReactLack r (ample ≡ false) → RemoveTold found key r before after →
    (answer : Result (Unit {0}) OpenError) → AnswersAs r answer → Removes ample (removal_of found key) answer before after
removes-slot ample key None r before after lack gone answer so = absurd gone
removes-slot ample key (Some s) (Ok v) before after lack gone answer so =
    let O : Result (Unit {0}) OpenError → Type 0 = λ x. OnPoller x (false ≡ true) in
    (event.Delete s.wire key true ∷ [], gone, made-one ample _ _ refl, subst O (sym so) tt)
removes-slot ample key (Some s) (Err react_err.Poller) before after lack gone answer so =
    let O : Result (Unit {0}) OpenError → Type 0 = λ x. OnPoller x (true ≡ true) in
    (event.Delete s.wire key false ∷ [], gone, made-one ample _ _ refl, subst O (sym so) refl)
removes-slot ample key (Some s) (Err react_err.OutOfMemory) before after lack gone answer so =
    let O : Result (Unit {0}) OpenError → Type 0 = λ x. OnPoller x (false ≡ true) in
    ([], gone ∙ told-nothing before, inr (lack, refl), subst O (sym so) tt)
removes-slot ample key (Some s) (Err (react_err.Exhausted c value)) before after lack gone answer so = absurd gone

-- counts don't fall
no_less : {T : Type 0} (answer : Result T OpenError) (before now : ℕ) → VisitsCounted answer before now → before ≤ now
no_less (Ok v) before now counted = omega (arith, counted)
no_less (Err open_err.Poller) before now counted = omega (arith, counted)
no_less (Err open_err.OutOfMemory) before now counted = counted
no_less (Err (open_err.Exhausted c value)) before now counted = absurd counted

counted_both : {T : Type 0} (answer removed' : Result T OpenError) (n0 n1 n2 : ℕ) → VisitsCounted answer n0 n1 → VisitsCounted removed' n1 n2 → VisitsCounted (result_and answer removed') n0 n2
counted_both {T} (Ok v) removed' n0 n1 n2 first second = let V : ℕ → Type 0 = λ n. VisitsCounted removed' n n2 in subst V first second
counted_both (Err open_err.Poller) removed' n0 n1 n2 first second = let up : n1 ≤ n2 = no_less removed' n1 n2 second in omega (arith, first, up)
counted_both (Err open_err.OutOfMemory) removed' n0 n1 n2 first second = let up : n1 ≤ n2 = no_less removed' n1 n2 second in omega (arith, first, up)
counted_both (Err (open_err.Exhausted c value)) removed' n0 n1 n2 first second = first

pub counted-both : {T : Type 0} (answer removed' both : Result T OpenError) (n0 n1 n2 : ℕ) →
    both ≡ result_and answer removed' → VisitsCounted answer n0 n1 → VisitsCounted removed' n1 n2 →
    VisitsCounted both n0 n2
counted-both {T} answer removed' both n0 n1 n2 is first second =
    let P : Result T OpenError → Type 0 = λ r. VisitsCounted r n0 n2 in
    subst P (sym is) (counted_both answer removed' n0 n1 n2 first second)

-- ---- the loop over the slots

pub owns-slot : (i : ℕ) (items slots : List Slot) (ts : Tags) (c : Slot) → items ≡ slots → i < length items → c ≡ slice_index_or items i c → Owned slots ts → Owns i c ts
owns-slot i items slots ts c same lt is owned =
    let O : List Slot → Type 0 = λ xs. AllOwn 0 xs ts in
    owns-at 0 i i items ts c (omega arith) (slice_get_read items (length items) i c refl lt is) (subst O (sym same) owned.each)

-- the reactor with these sources
abbrev pub with_sources : ReactorState → List (ℕ × Source) → ReactorState
with_sources r sources = record r { core = record r.core { sources = sources } }

reactor-go : (old : ReactorState) (sources : List (ℕ × Source)) (c : Slot) →
    (record (with_sources old sources) { core = without_slot c (with_sources old sources).core }) ≡ with_sources old (without_slot c (with_sources old sources).core).sources
reactor-go old sources (slot.Ended e) = refl
reactor-go old sources (slot.Asleep s) = refl
reactor-go old sources slot.Refused = refl

-- nothing but the sources changes
pub reactor-slot : (old now new : ReactorState) (c : Slot) → now ≡ with_sources old now.core.sources → new ≡ record now { core = without_slot c now.core } → new ≡ with_sources old new.core.sources
reactor-slot old now new c so is =
    let Q : ReactorState → Type 0 = λ r. (record r { core = without_slot c r.core }) ≡ with_sources old (without_slot c r.core).sources in
    is ∙ (subst Q (sym so) (reactor-go old now.core.sources c) ∙ ap (λ r. with_sources old r.core.sources) (sym is))

pub left-next : (i n : ℕ) (old now new : ReactorState) (c : Slot) → Owns i c (tags old.core.sources) → new ≡ record now { core = without_slot c now.core } →
    Left i n (tags old.core.sources) (tags now.core.sources) → Left (i + 1) n (tags old.core.sources) (tags new.core.sources)
left-next i n old now new c owns is l =
    let L : ReactorState → Type 0 = λ r. Left (i + 1) n (tags old.core.sources) (tags r.core.sources) in
    subst L (sym is) (left-slot i n old.core now.core c owns l)

-- after the last slot
pub reactor-end : (i : ℕ) (items slots : List Slot) (old now : ReactorState) → items ≡ slots → length items ≤ i → now ≡ with_sources old now.core.sources →
    Left i (length slots) (tags old.core.sources) (tags now.core.sources) → now ≡ with_sources old []
reactor-end i items slots old now same le so l =
    so ∙ ap (with_sources old) (left-all i (length slots) (tags old.core.sources) now.core.sources (omega (arith, le, ap length same)) l)

pub told-end : {T : Type 0} (answer : Result T OpenError) (i : ℕ) (items slots : List Slot) (r0 r1 : Option (List Event)) (held : List Held) → items ≡ slots → i ≤ length items → length items ≤ i →
    OnOk answer (r1 ≡ told r0 (closing i 0 held)) → OnOk answer (r1 ≡ told r0 (closing (length slots) 0 held))
told-end answer i items slots r0 r1 held same within le so =
    let place : i ≡ length slots = omega (arith, within, le, ap length same) in
    let P : ℕ → Type 0 = λ k. OnOk answer (r1 ≡ told r0 (closing k 0 held)) in
    subst P place so

-- ---- the endings

-- The endings of the slots that are left come after those that there are.
pub record EndsSo (slots left : List Slot) (endeds : List Ended) (wire : ℕ) : Type 0 where
  pub rest : (more : List Ended) → AllEnd wire left more → AllEnd 0 slots (endeds ++ more)
  pub kept : list_all is_kept left ≡ true
  pub count : wire + length left ≡ length slots

pub ends-none : (slots left : List Slot) (endeds : List Ended) → left ≡ slots → endeds ≡ [] → list_all is_kept slots ≡ true → EndsSo slots left endeds 0
ends-none slots left endeds same none kept =
    let E : List Ended → Type 0 = λ es. EndsSo slots slots es 0 in
    let F : List Slot → Type 0 = λ xs. EndsSo slots xs endeds 0 in
    subst F (sym same) (subst E (sym none) (record { rest = λ more ends. ends; kept = kept; count = omega arith }))

ends_next : (slots left : List Slot) (c : Slot) (endeds : List Ended) (e : Ended) (wire : ℕ) → EndsIn wire c e → EndsSo slots (c ∷ left) endeds wire → EndsSo slots left (endeds ++ e ∷ []) (wire + 1)
ends_next slots left c endeds e wire ends so = record {
  rest = λ more last. let A : List Ended → Type 0 = λ xs. AllEnd 0 slots xs in subst A (sym (append_assoc endeds (e ∷ []) more)) (so.rest (e ∷ more) (ends, last));
  kept = (and_parts (is_kept c) (list_all is_kept left) so.kept).1;
  count = omega (arith, so.count);
}

pub ends-next : (slots before left : List Slot) (c : Slot) (endeds now : List Ended) (e : Ended) (wire : ℕ) →
    before ≡ c ∷ left → now ≡ endeds ++ e ∷ [] → EndsIn wire c e → EndsSo slots before endeds wire →
    EndsSo slots left now (wire + 1)
ends-next slots before left c endeds now e wire is grown ends so =
    let P : List Slot → Type 0 = λ xs. EndsSo slots xs endeds wire in
    let Q : List Ended → Type 0 = λ es. EndsSo slots left es (wire + 1) in
    subst Q (sym grown) (ends_next slots left c endeds e wire ends (subst P is so))

pub ends-kept : (slots before left : List Slot) (c : Slot) (endeds : List Ended) (wire : ℕ) → before ≡ c ∷ left → EndsSo slots before endeds wire → is_kept c ≡ true
ends-kept slots before left c endeds wire is so = (and_parts (is_kept c) (list_all is_kept left) (sym (ap (list_all is_kept) is) ∙ so.kept)).0

pub ends-within : (slots before left : List Slot) (c : Slot) (endeds : List Ended) (wire : ℕ) → before ≡ c ∷ left → EndsSo slots before endeds wire → wire + 1 ≤ length slots
ends-within slots before left c endeds wire is so = omega (arith, so.count, ap length is)

pub none-left : {X : Type 0} (xs : List X) (n : ℕ) → n ≡ length xs → n ≡ 0 → xs ≡ []
none-left [] n counts none = refl
none-left (x ∷ xs) n counts none = absurd (omega (arith, counts, none))

pub ends-all : (slots left : List Slot) (endeds : List Ended) (wire : ℕ) → left ≡ [] → EndsSo slots left endeds wire → AllEnd 0 slots endeds
ends-all slots left endeds wire none so =
    let P : List Slot → Type 0 = λ xs. AllEnd wire xs [] in
    let A : List Ended → Type 0 = λ es. AllEnd 0 slots es in
    let last : AllEnd wire [] [] = tt in
    subst A (append-nil endeds) (so.rest [] (subst P (sym none) last))
