-- The sources that a refused call leaves, and their removals.
use Rattle.std.proofs.Common.{◌≡◌, ◌≢◌, ◌≤◌, ◌+◌, ℕ, zero, suc, Bool, true, false, ◌==◌, if◌then◌else◌, List, []}
use Rattle.std.proofs.Common.{◌∷◌, ◌++◌, length, map, Option, Some, None, Result, refl, sym, ◌∙◌, ap, subst, arith}
use Rattle.std.specs.Prelude.{flat_map}
use Rattle.std.specs.List.{list_all}
use Rattle.std.proofs.lemmas.Bool.{both_ways, eq-eqb, eqb-true, and_from}
use Rattle.std.proofs.lemmas.List.Folds.{list_all-append}
use Rattle.std.proofs.lemmas.Option.{none-some, same_Some}
use Rattle.react_core.specs.declared.outside.Event.{Event}
use Rattle.react_core.specs.declared.outside.Event.TheVariants as event
use Rattle.react_core.specs.Core.{Core}
use Rattle.bus_session.specs.declared.session.Session.{Session}
use Rattle.bus_record.specs.Pieces.{Pieces}
use Rattle.bus_record.specs.Places.{key_of}
use Rattle.bus_record.specs.Settled.{numbered, removal}
use Rattle.bus_record.specs.Failing.{Made, removals, other_removals}
use Rattle.bus_visit.specs.declared.visiting.Slot.{Slot}
use Rattle.bus_session.specs.Counts.{waits_in, notices_in}
use Rattle.bus_peers.specs.Headline.{MadeTold}
use Rattle.bus_peers.specs.declared.open.OpenError.{OpenError}
use Rattle.bus_peers.proofs.FrameLemmas.{made-quiet}
use Rattle.bus_visit.specs.Registry.{Held}
use Rattle.bus_visit.specs.Shown.{shown, tags, tag_at, without_tag, has_wire, Single}
use Rattle.bus_visit.specs.laws.Tags.{held-tag, tag-held, has_wire-without, no_wire-without, tag_at-without, single-without}
use Rattle.bus_peers.specs.inside.Closing.{removals_of, closing}
use Rattle.bus_peers.specs.inside.Failures.{LeftAll, LeftBut, Removes}
use Rattle.bus_peers.specs.inside.Shows.{Shows}
use Rattle.bus_peers.specs.inside.Slots.{Owned}
use Rattle.bus_peers.proofs.ClosingLemmas.{removals-none, removals-one}
use Rattle.bus_peers.proofs.MadeLemmas.{is_quiet_call, made-waits, is_unnoticed, unnoticed, made-notices}
use Rattle.bus_peers.proofs.SlotLemmas.{asleep-at, no_wire-above}

-- ---- what is left

module _ (past : Pieces) (old new : Core) (slots : List Slot) (shows : Shows past (map shown old.sources))
    (owned : Owned slots (tags old.sources)) where
  -- a wire whose key the pieces don't show has none
  keyless : (w : ℕ) → key_of w past ≡ None → has_wire w (tags old.sources) ≡ false
  keyless w none = go (has_wire w (tags old.sources)) refl where
    go : (b : Bool) → has_wire w (tags old.sources) ≡ b → b ≡ false
    go false is = refl
    go true is =
        let a = asleep-at w slots (tags old.sources) owned is in
        let h = tag-held old.sources a.0.key w a.2 in
        let at = shows.each a.0.key h.0 h.1 in
        absurd (none-some h.0.key (sym none ∙ (ap (λ v. key_of v past) (sym h.2) ∙ at.1.keyed)))

  keyed : (w k : ℕ) → key_of w past ≡ Some k → tag_at (tags old.sources) k ≡ Some w
  keyed w k is =
      let there = shows.keyed w k is in
      held-tag old.sources k there.0 there.1 ∙ ap Some there.2

  -- no source went or came
  pub left-same : tags new.sources ≡ tags old.sources → LeftAll past new
  left-same same w = go (key_of w past) refl where
    go : (o : Option ℕ) → key_of w past ≡ o → removals_of (map shown new.sources) w ≡ removal w o
    go None is = removals-none new.sources w (ap (has_wire w) same ∙ keyless w is)
    go (Some k) is =
        removals-one new.sources k w (subst Single (sym same) owned.single)
        (ap (λ ts. tag_at ts k) same ∙ keyed w k is)

  -- nor that of a wire without one
  pub left-new : (wire : ℕ) → tags new.sources ≡ tags old.sources → has_wire wire (tags old.sources) ≡ false →
      LeftBut wire past new
  left-new wire same none w = go (w == wire) refl where
    go : (b : Bool) → (w == wire) ≡ b →
        removals_of (map shown new.sources) w ≡ (if b then [] else removal w (key_of w past))
    go true is =
        removals-none new.sources w
        (ap (has_wire w) same ∙ (ap (λ v. has_wire v (tags old.sources)) (eqb-true w wire is) ∙ none))
    go false is = left-same same w

  -- the wire's source was taken out
  pub left-without : (wire key : ℕ) → tag_at (tags old.sources) key ≡ Some wire →
      tags new.sources ≡ without_tag (tags old.sources) key → LeftBut wire past new
  left-without wire key at same w = go (w == wire) refl where
    other : (w == wire) ≡ false → (k : ℕ) → tag_at (tags old.sources) k ≡ Some w → k ≢ key
    other is k there e =
        let w-so : Some w ≡ Some wire = sym there ∙ (ap (tag_at (tags old.sources)) e ∙ at) in
        both_ways (w == wire) is (eq-eqb w wire (same_Some w wire w-so))

    left : (w == wire) ≡ false → (o : Option ℕ) → key_of w past ≡ o →
        removals_of (map shown new.sources) w ≡ removal w o
    left is None none =
        removals-none new.sources w
        (ap (has_wire w) same ∙ no_wire-without (tags old.sources) key w (keyless w none))
    left is (Some k) some =
        let there = keyed w k some in
        removals-one new.sources k w (subst Single (sym same) (single-without (tags old.sources) key owned.single))
        (ap (λ ts. tag_at ts k) same ∙ (tag_at-without (tags old.sources) key k (other is k there) ∙ there))

    go : (b : Bool) → (w == wire) ≡ b →
        removals_of (map shown new.sources) w ≡ (if b then [] else removal w (key_of w past))
    go true is =
        removals-none new.sources w
        (ap (has_wire w) same
        ∙ (ap (λ v. has_wire v (without_tag (tags old.sources) key)) (eqb-true w wire is)
        ∙ has_wire-without (tags old.sources) key wire owned.single at))
    go false is = left is (key_of w past) refl

-- ---- the removals of what is left

flat-none : (from : ℕ) (sessions : List Session) (left : ℕ → List Event) →
    ((w : ℕ) → from ≤ w → left w ≡ []) → flat_map (λ m. left m.wire) (numbered from sessions) ≡ []
flat-none from [] left none = refl
flat-none from (s ∷ sessions) left none =
    ap (λ x. x ++ flat_map (λ m. left m.wire) (numbered (from + 1) sessions)) (none from (omega arith))
    ∙ flat-none (from + 1) sessions left (λ w le. none w (omega (arith, le)))

closing-flat : (n from : ℕ) (sessions : List Session) (left : ℕ → List Event) (held : List Held) →
    n ≤ length sessions → ((w : ℕ) → removals_of held w ≡ left w) → ((w : ℕ) → from + n ≤ w → left w ≡ []) →
    closing n from held ≡ flat_map (λ m. left m.wire) (numbered from sessions)
closing-flat zero from sessions left held le each none =
    sym (flat-none from sessions left (λ w le. none w (omega (arith, le))))
closing-flat (suc n) from [] left held le each none = absurd (omega (arith, le))
closing-flat (suc n) from (s ∷ sessions) left held le each none =
    ap (λ x. x ++ closing n (from + 1) held) (each from)
    ∙ ap (λ x. left from ++ x)
    (closing-flat n (from + 1) sessions left held (omega (arith, le)) each (λ w le. none w (omega (arith, le))))

-- a wire without a slot has no source
beyond : (slots : List Slot) (core : Core) (left : ℕ → List Event) → Owned slots (tags core.sources) →
    ((w : ℕ) → removals_of (map shown core.sources) w ≡ left w) → (w : ℕ) → 0 + length slots ≤ w → left w ≡ []
beyond slots core left owned each w le =
    sym (each w)
    ∙ removals-none core.sources w (no_wire-above (length slots) w (tags core.sources) owned.below (omega (arith, le)))

pub closing-all : (sessions : List Session) (slots : List Slot) (past : Pieces) (core : Core) →
    Owned slots (tags core.sources) → length slots ≤ length sessions → LeftAll past core →
    closing (length slots) 0 (map shown core.sources) ≡ removals sessions past
closing-all sessions slots past core owned within left =
    let each : ℕ → List Event = λ w. removal w (key_of w past) in
    closing-flat (length slots) 0 sessions each (map shown core.sources) within left (beyond slots core each owned left)

pub closing-but : (sessions : List Session) (slots : List Slot) (wire : ℕ) (past : Pieces) (core : Core) →
    Owned slots (tags core.sources) → length slots ≤ length sessions → LeftBut wire past core →
    closing (length slots) 0 (map shown core.sources) ≡ other_removals wire sessions past
closing-but sessions slots wire past core owned within left =
    let each : ℕ → List Event = λ w. if w == wire then [] else removal w (key_of w past) in
    closing-flat (length slots) 0 sessions each (map shown core.sources) within left (beyond slots core each owned left)

-- ---- no wait is among them

quiet-removals : (held : List Held) (w : ℕ) → list_all is_quiet_call (removals_of held w) ≡ true
quiet-removals [] w = refl
quiet-removals (h ∷ held) w = go (h.wire == w) (quiet-removals held w) where
  go : (b : Bool) → list_all is_quiet_call (removals_of held w) ≡ true →
      list_all is_quiet_call (if b then event.Delete h.wire h.key true ∷ [] else removals_of held w) ≡ true
  go true ih = refl
  go false ih = ih

quiet-closing : (n from : ℕ) (held : List Held) → list_all is_quiet_call (closing n from held) ≡ true
quiet-closing zero from held = refl
quiet-closing (suc n) from held =
    list_all-append is_quiet_call (removals_of held from) (closing n (from + 1) held)
    ∙ and_from _ _ (quiet-removals held from) (quiet-closing n (from + 1) held)

pub closing-waits : (ample : Bool) (n : ℕ) (held : List Held) (gone : List Event) → Made ample (closing n 0 held) gone →
    waits_in gone ≡ 0
closing-waits ample n held gone made = made-waits ample (closing n 0 held) gone (quiet-closing n 0 held) made

-- nor a notice
unnoticed-removals : (held : List Held) (w : ℕ) → list_all is_unnoticed (removals_of held w) ≡ true
unnoticed-removals [] w = refl
unnoticed-removals (h ∷ held) w = go (h.wire == w) (unnoticed-removals held w) where
  go : (b : Bool) → list_all is_unnoticed (removals_of held w) ≡ true →
      list_all is_unnoticed (if b then event.Delete h.wire h.key true ∷ [] else removals_of held w) ≡ true
  go true ih = refl
  go false ih = ih

unnoticed-closing : (n from : ℕ) (held : List Held) → list_all is_unnoticed (closing n from held) ≡ true
unnoticed-closing zero from held = refl
unnoticed-closing (suc n) from held =
    list_all-append is_unnoticed (removals_of held from) (closing n (from + 1) held)
    ∙ and_from _ _ (unnoticed-removals held from) (unnoticed-closing n (from + 1) held)

pub closing-notices : (ample : Bool) (n : ℕ) (held : List Held) (gone : List Event) →
    Made ample (closing n 0 held) gone → notices_in gone ≡ 0
closing-notices ample n held gone made = made-notices ample (closing n 0 held) gone (unnoticed-closing n 0 held) made

pub closing-quiet : (n from : ℕ) (held : List Held) → notices_in (closing n from held) ≡ 0
closing-quiet n from held = unnoticed (closing n from held) (unnoticed-closing n from held)

-- removals make no timer
pub closing-made : {T : Type 0} (ample : Bool) (n : ℕ) (held : List Held) (removed : Result T OpenError)
    (r0 r1 : Option (List Event)) (old new : Core) → new.made ≡ old.made →
    Removes ample (closing n 0 held) removed r0 r1 → MadeTold old new r0 r1
closing-made ample n held removed r0 r1 old new same (gone, gained, made, failed) =
    made-quiet r0 r1 old new gone gained same (closing-notices ample n held gone made)
