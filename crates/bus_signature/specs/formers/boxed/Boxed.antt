-- How `Boxed` holds its value, so that a type may hold itself through it: seen, it is the value; within, the value lies
-- in the block of a `Box`.
use mathlib.Core.Former.{Former, this, const, pair, via}
use mathlib.Core.Path.{refl}
use base.Fml.{ftrue}
use base.Stored.{gnil}
use denote.Hole.Fix.{over}
use denote.HoleLaws.{Alike}
use denote.HolePlaces.{Recodes, laid, one_value, struct_places}
use denote.Memory.{part_of}
use denote.Model.Placed.{view_places}
use denote.Param.Weighed.{Weighed}
use denote.RattleType.{RattleType}
use denote.RawPtr.{Ptr}
use denote.Sharing.{nothing}
use Rattle.std.specs.contracts.alloc.Global as global
use Rattle.std.specs.contracts.boxed.Box as block
use Rattle.std.specs.contracts.impls.GlobalAllocator.TheImpl.{ghosts}
use Rattle.std.specs.declared.alloc.Global.{Global}
use Rattle.std.specs.declared.boxed.Box.{Box}
use Rattle.bus_signature.specs.contracts.boxed.Boxed as owner
use Rattle.bus_signature.specs.contracts.boxed.Boxed.TheInside as inside
use Rattle.bus_signature.specs.declared.boxed.Boxed.TheInside.{Inside}
use Rattle.bus_signature.specs.declared.boxed.Boxed.TheView.{view, invariant}

-- as it is seen
abbrev pub the_former : Former {0} → Former {0}
the_former each = each

abbrev pub the_weighed : {each : Former {0}} → Weighed each → Weighed (the_former each)
the_weighed weighed = weighed

-- as it lies within: where the block is and who gave it, and then the value
abbrev place : {X : Type 0} → Box X Global → Ptr × Global
place block = (block.ptr, block.alloc)

abbrev block_at : {X : Type 0} → Ptr × Global → X → Box X Global
block_at at value = record { ptr = at.0; alloc = at.1; value = value }

abbrev within : Former {0}
within =
    via (pair (const (Ptr × Global)) this) Inside (λ X it. (place it.value, it.value.value))
    (λ X parts. record { value = block_at parts.0 parts.1 }) (λ X it. refl) (λ X parts. refl)

abbrev block_of : RattleType → RattleType
block_of R = block.the_row R global.the_row ghosts

module _ (A B : RattleType) (h : A.Denot → B.Denot) where
  abbrev refilled : Box A.Denot Global → Box B.Denot Global
  refilled block = block_at (place block) (h block.value)

  -- a block owns and lends what its value does
  blocks : Alike A B h → Alike (block_of A) (block_of B) refilled
  unfolding part_of
  blocks same = record {
    mir_same = λ i. (block_of (one_value A (same.mir_same i) (λ _. ftrue) (λ _ _. nothing) gnil)).mir;
    own_same = λ it i.
        (block_of (one_value A (same.mir_same i) (same.own_same it.value i) (same.shr_same it.value i) gnil)).own_val
        (block_at (place it) tt);
    shr_same = λ it i.
        (block_of (one_value A (same.mir_same i) (same.own_same it.value i) (same.shr_same it.value i) gnil)).shr_at
        (block_at (place it) tt);
  }

  pub the_codes_placed : Recodes A B h
      → Recodes (owner.the_row A) (owner.the_row B) ((the_former this).map A.Denot B.Denot h)
  the_codes_placed same = same

  pub the_places : Alike A B h → Alike (owner.the_row A) (owner.the_row B) ((the_former this).map A.Denot B.Denot h)
  the_places same =
      let fields =
      struct_places (inside.the_type A) (inside.the_type B) (refilled, tt) _ (λ it. refl) refl
      (laid _ _ _ (blocks same), tt) in
      view_places within this view (λ X Y k it. refl) (λ X it. refl) A.Denot B.Denot h (owner.the_row A).coded
      (owner.the_row B).coded
      (invariant A.Denot) (invariant B.Denot) (λ it p q. refl) (λ it p q. refl) (λ it ok. tt) (λ it ok. tt)
      (over (inside.the_row A)) (over (inside.the_row B)) fields
