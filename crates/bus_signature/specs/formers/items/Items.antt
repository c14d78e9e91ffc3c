-- How `Items` holds its values, so that a type may hold itself through it: seen, it is the list of them; within, they
-- lie in a `Vec`.
use mathlib.Core.Former.{Former, this, list, via, children}
use mathlib.Core.List.{List, []}
use mathlib.Core.Path.{◌≡◌, refl, sym}
use base.Stored.{code_map}
use denote.Hole.Carrier.{listed, list-listed}
use denote.Hole.Fix.{over}
use denote.HoleLaws.{Alike}
use denote.HolePlaces.{Recodes, laid, struct_places}
use denote.Model.Placed.{view_places}
use denote.Param.Weighed.{Weighed, w_list}
use denote.RattleType.{RattleType}
use Rattle.std.specs.contracts.alloc.Global as global
use Rattle.std.specs.contracts.impls.GlobalAllocator.TheImpl.{ghosts}
use Rattle.std.specs.declared.alloc.Global.{Global}
use Rattle.std.specs.formers.vec.Vec as vec
use Rattle.bus_signature.specs.contracts.items.Items as owner
use Rattle.bus_signature.specs.contracts.items.Items.TheInside as inside
use Rattle.bus_signature.specs.declared.items.Items.TheInside.{Inside}
use Rattle.bus_signature.specs.declared.items.Items.TheView.{view, invariant}

-- as it is seen
abbrev pub the_former : Former {0} → Former {0}
the_former each = list each

abbrev pub the_weighed : {each : Former {0}} → Weighed each → Weighed (the_former each)
the_weighed = w_list

pub the_empty : List ⊥
the_empty = []

abbrev pub the_items : (X : Type 0) → List X → List X
the_items X values = values

pub the_items_listed : (X : Type 0) (values : List X)
    → listed _ (children (the_former this) X values) ≡ the_items X values
the_items_listed = list-listed

-- as it lies within
abbrev within : Former {0}
within =
    via (vec.the_former this Global) Inside (λ X it. it.values) (λ X values. record { values = values }) (λ X it. refl)
    (λ X values. refl)

module _ (A B : RattleType) (h : A.Denot → B.Denot) where
  abbrev moved : List A.Denot → List B.Denot
  moved = (the_former this).map A.Denot B.Denot h

  pub the_codes_placed : Recodes A B h → Recodes (owner.the_row A) (owner.the_row B) moved
  the_codes_placed same values = sym (code_map A.coded.code B.coded.code h (λ x. sym (same x)) values)

  pub the_places : Alike A B h → Alike (owner.the_row A) (owner.the_row B) moved
  the_places same =
      let values = laid _ _ _ (vec.the_places global.the_row ghosts A B h same) in
      let fields =
      struct_places (inside.the_type A) (inside.the_type B) (vec.mapped h, tt) _ (λ it. refl) refl (values, tt) in
      view_places within (the_former this) view (λ X Y k it. refl) (λ X it. refl) A.Denot B.Denot h
      (owner.the_row A).coded (owner.the_row B).coded
      (invariant A.Denot) (invariant B.Denot) (λ it p q. refl) (λ it p q. refl) (λ it ok. tt) (λ it ok. tt)
      (over (inside.the_row A)) (over (inside.the_row B)) fields
