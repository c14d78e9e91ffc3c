use Rattle.std.proofs.Common.{◌≡◌, ◌<◌, ℕ, List, length, true, not, Some, ◌∷◌, slice_get, slice_index_or, refl, sym, ◌∙◌, ap, subst, arith}
use Rattle.std.specs.List.{list_all}
use Rattle.std.proofs.lemmas.Bool.{not-true}
use Rattle.std.proofs.lemmas.Option.{same_Some, slice_get_read}
use Rattle.bus_visit.specs.declared.visiting.Slot.{Slot}
use Rattle.bus_visit.specs.declared.visiting.Slot.TheVariants as slot
use Rattle.bus_visit.specs.declared.visiting.Sleeper.{Sleeper}
use Rattle.bus_visit.specs.Shown.{Tags, tag_at, tags, has_wire}
use Rattle.bus_peers.specs.inside.Slots.{Owned, AllOpen, is_open_slot, VisitsKeepCall}
use Rattle.bus_visit.specs.laws.Tags.{has_wire-below, tag-held, other_wire-without}
use Rattle.bus_peers.proofs.SlotLemmas.{test-at, test-set, set-set, owns-at, asleep-at, owned-refused, owned-stays, others-stay}
use Rattle.bus_peers.proofs.VisitTells.{visit-does, visit-told}
use Rattle.bus_peers.proofs.AlarmLemmas.{alarmed-again}
use Rattle.bus_peers.specs.inside.Alarms.{Alarmed}
use Rattle.bus_visit.specs.Timed.{limit_after}
use Rattle.react_core.specs.Outer.{visit-in-all}
use Rattle.bus_peers.specs.inside.SlotFaults.{CountsOn}
use Rattle.bus_peers.proofs.FrameLemmas.{counts-set, visit-made}
use Rattle.bus_peers.proofs.CallVisits.{going-again}
use Rattle.bus_peers.proofs.FailingVisits.{going-again-fails}
use Rattle.bus_peers.proofs.MadeLemmas.{on-poller, from-visit}
use Rattle.bus_peers.proofs.rounds.visit_slot.Goals as goal

within : (w : ℕ) (slots : List Slot) (ts : Tags) → Owned slots ts → has_wire w ts ≡ true → w < length slots
within w slots ts owned has = has_wire-below (length slots) w ts has owned.below

read : (w : ℕ) (slots : List Slot) (ts : Tags) (c d : Slot) → Owned slots ts → has_wire w ts ≡ true → c ≡ d → d ≡ slice_index_or slots w d → slice_get slots w ≡ Some c
read w slots ts c d owned has same is = slice_get_read slots (length slots) w d refl (within w slots ts owned has) is ∙ ap Some (sym same)

tagged : (w : ℕ) (slots : List Slot) (ts : Tags) (sl : Sleeper) → Owned slots ts → slice_get slots w ≡ Some (slot.Asleep sl) → tag_at ts sl.key ≡ Some w
tagged w slots ts sl owned at = owns-at 0 w w slots ts (slot.Asleep sl) (omega arith) at owned.each

sleeper-of : (w : ℕ) (slots : List Slot) (ts : Tags) (d : Slot) → slice_get slots w ≡ Some d → (sl : Sleeper) ×
    (slice_get slots w ≡ Some (slot.Asleep sl)) × (tag_at ts sl.key ≡ Some w) → (sl : Sleeper) × (d ≡ slot.Asleep sl)
sleeper-of w slots ts d at (sl, there, tag) = (sl, same_Some d (slot.Asleep sl) (sym at ∙ there))

open-at : (w : ℕ) (slots : List Slot) (sl : Sleeper) → AllOpen slots → slice_get slots w ≡ Some (slot.Asleep sl) → not sl.client.ended ≡ true
open-at w slots sl all at = test-at is_open_slot slots w (slot.Asleep sl) all at

pub index_mut-requires : goal.index_mut-requires
index_mut-requires g c = omega (arith, within c.args.wire c.args.slots.now.items (tags c.args.reactor.now.core.sources) c.requires.owned c.requires.registered)

pub unreachable-requires : goal.unreachable-requires
unreachable-requires g c =
    let at : slice_get c.args.slots.now.items c.args.wire ≡ Some c.index_mut.result.now =
    read c.args.wire c.args.slots.now.items (tags c.args.reactor.now.core.sources)
    c.index_mut.result.now c.index_mut.result.now c.requires.owned c.requires.registered refl
    c.index_mut.ensures.value in
    let s : (sl : Sleeper) × (c.index_mut.result.now ≡ slot.Asleep sl) = sleeper-of c.args.wire c.args.slots.now.items (tags c.args.reactor.now.core.sources) c.index_mut.result.now at
    (asleep-at c.args.wire c.args.slots.now.items (tags c.args.reactor.now.core.sources) c.requires.owned c.requires.registered) in
    c.in_default.not-Asleep s.0 (c.replace-slot.ensures.value ∙ s.1)

pub visit-requires-clause-holds : goal.visit-requires-clause-holds
visit-requires-clause-holds g c =
    tag-held c.args.reactor.now.core.sources c.in-Asleep.sleeper.key c.args.wire (tagged c.args.wire c.args.slots.now.items (tags c.args.reactor.now.core.sources) c.in-Asleep.sleeper c.requires.owned
    (read c.args.wire c.args.slots.now.items (tags c.args.reactor.now.core.sources) (slot.Asleep c.in-Asleep.sleeper)
    c.index_mut.result.now c.requires.owned c.requires.registered c.in-Asleep.ensures.value
    c.index_mut.ensures.value))

pub visit-requires-clause-open : goal.visit-requires-clause-open
visit-requires-clause-open g c =
    not-true c.in-Asleep.sleeper.client.ended (open-at c.args.wire c.args.slots.now.items c.in-Asleep.sleeper c.requires.stands
    (read c.args.wire c.args.slots.now.items (tags c.args.reactor.now.core.sources) (slot.Asleep c.in-Asleep.sleeper)
    c.index_mut.result.now c.requires.owned c.requires.registered c.in-Asleep.ensures.value
    c.index_mut.ensures.value))

pub returns-in_err-slots-clause-owned : goal.returns-in_err-slots-clause-owned
returns-in_err-slots-clause-owned g c =
    let at : slice_get c.args.slots.now.items c.args.wire ≡ Some (slot.Asleep c.in-Asleep.sleeper) =
    read c.args.wire c.args.slots.now.items (tags c.args.reactor.now.core.sources) (slot.Asleep c.in-Asleep.sleeper)
    c.index_mut.result.now c.requires.owned c.requires.registered c.in-Asleep.ensures.value
    c.index_mut.ensures.value in
    owned-refused c.args.wire c.in-Asleep.sleeper.key c.args.slots.now.items (tags c.args.reactor.now.core.sources) (tags c.visit.new.reactor.core.sources) c.replace-slot.new.dest c.requires.owned
    (tagged c.args.wire c.args.slots.now.items (tags c.args.reactor.now.core.sources) c.in-Asleep.sleeper c.requires.owned at) c.replace-slot.ensures.after c.in_err-slots.ensures.refused.1.tags

pub returns-in_err-slots-clause-others : goal.returns-in_err-slots-clause-others
returns-in_err-slots-clause-others g c = λ w ne.
    let at : slice_get c.args.slots.now.items c.args.wire ≡ Some (slot.Asleep c.in-Asleep.sleeper) =
    read c.args.wire c.args.slots.now.items (tags c.args.reactor.now.core.sources) (slot.Asleep c.in-Asleep.sleeper)
    c.index_mut.result.now c.requires.owned c.requires.registered c.in-Asleep.ensures.value
    c.index_mut.ensures.value in
    ap (has_wire w) c.in_err-slots.ensures.refused.1.tags ∙ other_wire-without (tags c.args.reactor.now.core.sources) c.in-Asleep.sleeper.key c.args.wire w
    (tagged c.args.wire c.args.slots.now.items (tags c.args.reactor.now.core.sources) c.in-Asleep.sleeper c.requires.owned at) ne

pub index_mut-requires-2 : goal.index_mut-requires-2
index_mut-requires-2 g c = omega (arith, within c.args.wire c.args.slots.now.items (tags c.args.reactor.now.core.sources) c.requires.owned c.requires.registered)

pub returns-clause-went : goal.returns-clause-went
returns-clause-went g c = λ pending.
    let at : slice_get c.args.slots.now.items c.args.wire ≡ Some (slot.Asleep c.in-Asleep.sleeper) =
    read c.args.wire c.args.slots.now.items (tags c.args.reactor.now.core.sources) (slot.Asleep c.in-Asleep.sleeper)
    c.index_mut.result.now c.requires.owned c.requires.registered c.in-Asleep.ensures.value
    c.index_mut.ensures.value in
    let G : List Slot → Type 0 =
    λ x. VisitsKeepCall (c.args.wire ∷ pending) pending ((g.O.Tells.outer c.args.outside.now).events)
    ((g.O.Tells.outer c.visit.new.outside).events)
    c.args.reactor.now.core c.visit.new.reactor.core c.args.slots.now.items x in
    subst G (sym (set-set c.args.slots.now.items c.args.wire c.replace-slot.new.dest c.in_ok-slots.field-0))
    (going-again c.args.wire pending ((g.O.Tells.outer c.args.outside.now).events)
    ((g.O.Tells.outer c.visit.new.outside).events)
    c.args.reactor.now.core c.visit.new.reactor.core c.args.slots.now.items c.in-Asleep.sleeper c.in_ok-slots.field-0
    at c.in_ok-slots.ensures.visited)

pub returns-clause-stands : goal.returns-clause-stands
returns-clause-stands g c =
    let up : is_open_slot c.in_ok-slots.field-0 ≡ true =
    (visit-does c.args.wire c.in-Asleep.sleeper.key (limit_after c.in-Asleep.sleeper.alarm) _ _ c.args.reactor.now.core
    c.visit.new.reactor.core c.in-Asleep.sleeper.client c.in_ok-slots.field-0 c.in_ok-slots.ensures.visited).open_ in
    ap (list_all is_open_slot)
    (set-set c.args.slots.now.items c.args.wire c.replace-slot.new.dest c.in_ok-slots.field-0) ∙
    test-set is_open_slot c.args.slots.now.items c.args.wire c.in_ok-slots.field-0 c.requires.stands up

pub returns-clause-owned : goal.returns-clause-owned
returns-clause-owned g c =
    let at : slice_get c.args.slots.now.items c.args.wire ≡ Some (slot.Asleep c.in-Asleep.sleeper) =
    read c.args.wire c.args.slots.now.items (tags c.args.reactor.now.core.sources) (slot.Asleep c.in-Asleep.sleeper)
    c.index_mut.result.now c.requires.owned c.requires.registered c.in-Asleep.ensures.value
    c.index_mut.ensures.value in
    let P : List Slot → Type 0 = λ x. Owned x (tags c.visit.new.reactor.core.sources) in
    subst P (sym (set-set c.args.slots.now.items c.args.wire c.replace-slot.new.dest c.in_ok-slots.field-0))
    (owned-stays c.args.wire c.in-Asleep.sleeper.key ((g.O.Tells.outer c.args.outside.now).events)
    ((g.O.Tells.outer c.visit.new.outside).events)
    c.args.reactor.now.core c.visit.new.reactor.core c.args.slots.now.items
    c.in_ok-slots.field-0 c.requires.owned (tagged c.args.wire c.args.slots.now.items (tags c.args.reactor.now.core.sources) c.in-Asleep.sleeper c.requires.owned at)
    (visit-does c.args.wire c.in-Asleep.sleeper.key (limit_after c.in-Asleep.sleeper.alarm) _ _ c.args.reactor.now.core
    c.visit.new.reactor.core c.in-Asleep.sleeper.client c.in_ok-slots.field-0 c.in_ok-slots.ensures.visited))

pub returns-clause-others : goal.returns-clause-others
returns-clause-others g c =
    let at : slice_get c.args.slots.now.items c.args.wire ≡ Some (slot.Asleep c.in-Asleep.sleeper) =
    read c.args.wire c.args.slots.now.items (tags c.args.reactor.now.core.sources) (slot.Asleep c.in-Asleep.sleeper)
    c.index_mut.result.now c.requires.owned c.requires.registered c.in-Asleep.ensures.value
    c.index_mut.ensures.value in
    others-stay c.args.wire c.in-Asleep.sleeper.key ((g.O.Tells.outer c.args.outside.now).events)
    ((g.O.Tells.outer c.visit.new.outside).events)
    c.args.reactor.now.core c.visit.new.reactor.core c.in_ok-slots.field-0
    (tagged c.args.wire c.args.slots.now.items (tags c.args.reactor.now.core.sources) c.in-Asleep.sleeper c.requires.owned at)
    (visit-does c.args.wire c.in-Asleep.sleeper.key (limit_after c.in-Asleep.sleeper.alarm) _ _ c.args.reactor.now.core
    c.visit.new.reactor.core c.in-Asleep.sleeper.client c.in_ok-slots.field-0 c.in_ok-slots.ensures.visited)

pub returns-clause-told : goal.returns-clause-told
returns-clause-told g c =
    visit-told c.args.wire c.in-Asleep.sleeper.key (limit_after c.in-Asleep.sleeper.alarm) _ _ c.args.reactor.now.core
    c.visit.new.reactor.core c.in-Asleep.sleeper.client c.in_ok-slots.field-0 c.in_ok-slots.ensures.visited

pub returns-clause-alarmed : goal.returns-clause-alarmed
returns-clause-alarmed g c = λ pending alarmed.
    let at : slice_get c.args.slots.now.items c.args.wire ≡ Some (slot.Asleep c.in-Asleep.sleeper) =
    read c.args.wire c.args.slots.now.items (tags c.args.reactor.now.core.sources) (slot.Asleep c.in-Asleep.sleeper)
    c.index_mut.result.now c.requires.owned c.requires.registered c.in-Asleep.ensures.value
    c.index_mut.ensures.value in
    let A : List Slot → Type 0 = λ x. Alarmed (g.O.Tells.outer c.visit.new.outside).moment c.visit.new.reactor.core pending x in
    subst A (sym (set-set c.args.slots.now.items c.args.wire c.replace-slot.new.dest c.in_ok-slots.field-0))
    (alarmed-again c.args.wire c.in-Asleep.sleeper.key pending _ _ _ _ c.args.reactor.now.core
    c.visit.new.reactor.core c.args.slots.now.items c.in-Asleep.sleeper c.in_ok-slots.field-0 at
    c.in_ok-slots.ensures.visited c.in_ok-slots.ensures.forward alarmed)

pub returns-in_err-slots-clause-timers : goal.returns-in_err-slots-clause-timers
returns-in_err-slots-clause-timers g c = visit-made c.visit.result _ _ _ _ _ _ _ _ _ c.visit.ensures.visited c.visit.ensures.refused

pub returns-in_err-slots-clause-keeps : goal.returns-in_err-slots-clause-keeps
returns-in_err-slots-clause-keeps g c = λ room. visit-in-all c.args.wire room _ _ c.visit.ensures.keeps

pub returns-clause-timers : goal.returns-clause-timers
returns-clause-timers g c = visit-made c.visit.result _ _ _ _ _ _ _ _ _ c.visit.ensures.visited c.visit.ensures.refused

pub returns-clause-keeps : goal.returns-clause-keeps
returns-clause-keeps g c = λ room. visit-in-all c.args.wire room _ _ c.visit.ensures.keeps

pub returns-clause-counted : goal.returns-clause-counted
returns-clause-counted g c =
    let C : List Slot → Type 0 = λ x. CountsOn c.args.slots.now.items x (g.O.Tells.outer c.args.outside.now) (g.O.Tells.outer c.visit.new.outside) in
    subst C (sym (set-set c.args.slots.now.items c.args.wire c.replace-slot.new.dest c.in_ok-slots.field-0))
    (counts-set c.args.wire c.args.slots.now.items c.in_ok-slots.field-0 _ _ c.visit.ensures.keeps c.in_ok-slots.ensures.counted)

pub returns-in_err-slots-clause-failed : goal.returns-in_err-slots-clause-failed
returns-in_err-slots-clause-failed g c =
    let at : slice_get c.args.slots.now.items c.args.wire ≡ Some (slot.Asleep c.in-Asleep.sleeper) =
    read c.args.wire c.args.slots.now.items (tags c.args.reactor.now.core.sources) (slot.Asleep c.in-Asleep.sleeper)
    c.index_mut.result.now c.requires.owned c.requires.registered c.in-Asleep.ensures.value
    c.index_mut.ensures.value in
    on-poller _ c.from_residual.result _ c.from_residual.ensures.1
    (from-visit _ _ c.in_err-slots.field-0.0 (λ f pending.
    going-again-fails c.args.wire pending _ _ _ c.args.reactor.now.core c.visit.new.reactor.core c.args.slots.now.items
    c.in-Asleep.sleeper at c.requires.owned c.in_err-slots.ensures.refused.1.tags
    c.in_err-slots.ensures.refused.1.ticker f) c.in_err-slots.ensures.failed)

pub returns-clause-rests : goal.returns-clause-rests
returns-clause-rests g c =
    (visit-does c.args.wire c.in-Asleep.sleeper.key (limit_after c.in-Asleep.sleeper.alarm) _ _ c.args.reactor.now.core
    c.visit.new.reactor.core c.in-Asleep.sleeper.client c.in_ok-slots.field-0 c.in_ok-slots.ensures.visited).rests
