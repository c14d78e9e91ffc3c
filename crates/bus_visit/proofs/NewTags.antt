-- The tags behind a new key.
use Rattle.std.proofs.Common.{◌≡◌, ◌≢◌, ℕ, Bool, true, false, ◌||◌, nat_lt, ◌==◌, if◌then◌else◌, List, [], ◌∷◌, Some, None, refl, sym, ◌∙◌, ap, arith}
use Rattle.std.proofs.lemmas.Bool.{eq-eqb, eqb-false, ne_eqb, or_parts}
use Rattle.std.proofs.lemmas.Grind.{common_steps}
use Rattle.std.specs.Option.{option_map}
use Rattle.react_core.specs.Places.{Source}
use Rattle.react_core.specs.Sources.{source_of, with_new}
use Rattle.bus_visit.specs.Shown.{Tags, tags, tag_at, without_tag, has_wire, Single}
use Rattle.bus_visit.specs.laws.Tags.{tag_at-source}

-- a new tag stands before the first with a larger key
abbrev pub with_tag : Tags → ℕ → ℕ → Tags
with_tag [] key wire = (key, wire) ∷ []
with_tag (t ∷ ts) key wire = if nat_lt key t.0 then (key, wire) ∷ t ∷ ts else t ∷ with_tag ts key wire

pub tags-with_new : (sources : List (ℕ × Source)) (key : ℕ) (new : Source) → tags (with_new sources key new) ≡ with_tag (tags sources) key new.wire
tags-with_new [] key new = refl
tags-with_new (x ∷ sources) key new = grind (arith, common_steps, tags-with_new sources key new)

pub source-no_tag : (sources : List (ℕ × Source)) (key : ℕ) → source_of sources key ≡ None → tag_at (tags sources) key ≡ None
source-no_tag sources key at = tag_at-source sources key ∙ ap (option_map (λ x. x.wire)) at

at_go : (t : ℕ × ℕ) (ts : Tags) (key wire : ℕ) (b c : Bool) → (t.0 == key) ≡ b → nat_lt key t.0 ≡ c → tag_at (t ∷ ts) key ≡ None →
    (tag_at ts key ≡ None → tag_at (with_tag ts key wire) key ≡ Some wire) → tag_at (with_tag (t ∷ ts) key wire) key ≡ Some wire
at_go t ts key wire true c e f free ih = let no_way : Some t.1 ≡ None = rw e at free in cc
at_go t ts key wire false true e f free ih = rw (f, eq-eqb key key refl) refl
at_go t ts key wire false false e f free ih = rw (f, e) (ih (rw e at free))

pub tag_at-with : (ts : Tags) (key wire : ℕ) → tag_at ts key ≡ None → tag_at (with_tag ts key wire) key ≡ Some wire
tag_at-with [] key wire free = rw (eq-eqb key key refl) refl
tag_at-with (t ∷ ts) key wire free = at_go t ts key wire (t.0 == key) (nat_lt key t.0) refl refl free (tag_at-with ts key wire)

others_go : (t : ℕ × ℕ) (ts : Tags) (key wire k : ℕ) (b c : Bool) → (t.0 == k) ≡ b → nat_lt key t.0 ≡ c → k ≢ key →
    tag_at (with_tag ts key wire) k ≡ tag_at ts k → tag_at (with_tag (t ∷ ts) key wire) k ≡ tag_at (t ∷ ts) k
others_go t ts key wire k b true e f other ih = rw (f, ne_eqb key k (λ g. other (sym g))) refl
others_go t ts key wire k true false e f other ih = rw (f, e) refl
others_go t ts key wire k false false e f other ih = rw (f, e) ih

-- the other keys stay
pub other_tag-with : (ts : Tags) (key wire k : ℕ) → k ≢ key → tag_at (with_tag ts key wire) k ≡ tag_at ts k
other_tag-with [] key wire k other = rw (ne_eqb key k (λ g. other (sym g))) refl
other_tag-with (t ∷ ts) key wire k other = others_go t ts key wire k (t.0 == k) (nat_lt key t.0) refl refl other (other_tag-with ts key wire k other)

swap : (a b c : Bool) → (a || (b || c)) ≡ (b || (a || c))
swap true true c = refl
swap true false c = refl
swap false true c = refl
swap false false c = refl

wire_go : (t : ℕ × ℕ) (ts : Tags) (key wire w : ℕ) (b : Bool) → nat_lt key t.0 ≡ b →
    has_wire w (with_tag ts key wire) ≡ ((wire == w) || has_wire w ts) →
    has_wire w (with_tag (t ∷ ts) key wire) ≡ ((wire == w) || has_wire w (t ∷ ts))
wire_go t ts key wire w true e ih = rw e refl
wire_go t ts key wire w false e ih = rw (e, ih) (swap (t.1 == w) (wire == w) (has_wire w ts))

pub has_wire-with : (ts : Tags) (key wire w : ℕ) → has_wire w (with_tag ts key wire) ≡ ((wire == w) || has_wire w ts)
has_wire-with [] key wire w = refl
has_wire-with (t ∷ ts) key wire w = wire_go t ts key wire w (nat_lt key t.0) refl (has_wire-with ts key wire w)

-- the other wires stay
pub other_wire-with : (ts : Tags) (key wire w : ℕ) → w ≢ wire → has_wire w (with_tag ts key wire) ≡ has_wire w ts
other_wire-with ts key wire w other = has_wire-with ts key wire w ∙ ap (λ b. b || has_wire w ts) (ne_eqb wire w (λ g. other (sym g)))

single_with : (t : ℕ × ℕ) (ts : Tags) (key wire : ℕ) (b : Bool) → nat_lt key t.0 ≡ b →
    has_wire wire (t ∷ ts) ≡ false → Single (t ∷ ts) → Single (with_tag ts key wire) →
    Single (with_tag (t ∷ ts) key wire)
single_with t ts key wire true e none single ih = rw e (none, single)
single_with t ts key wire false e none single ih =
    let p = or_parts (t.1 == wire) (has_wire wire ts) none in
    rw e (other_wire-with ts key wire t.1 (eqb-false t.1 wire p.0) ∙ single.0, ih)

pub single-with : (ts : Tags) (key wire : ℕ) → has_wire wire ts ≡ false → Single ts → Single (with_tag ts key wire)
single-with [] key wire none single = (refl, tt)
single-with (t ∷ ts) key wire none single =
    let p = or_parts (t.1 == wire) (has_wire wire ts) none in
    single_with t ts key wire (nat_lt key t.0) refl none single (single-with ts key wire p.1 single.1)

back_go : (t : ℕ × ℕ) (ts : Tags) (key wire : ℕ) (b c : Bool) → (t.0 == key) ≡ b → nat_lt key t.0 ≡ c → tag_at (t ∷ ts) key ≡ None →
    (tag_at ts key ≡ None → without_tag (with_tag ts key wire) key ≡ ts) → without_tag (with_tag (t ∷ ts) key wire) key ≡ t ∷ ts
back_go t ts key wire true c e f free ih = let no_way : Some t.1 ≡ None = rw e at free in cc
back_go t ts key wire false true e f free ih = rw (f, eq-eqb key key refl) refl
back_go t ts key wire false false e f free ih = rw (f, e, ih (rw e at free)) refl

-- a new key that is taken out again
pub without-with : (ts : Tags) (key wire : ℕ) → tag_at ts key ≡ None → without_tag (with_tag ts key wire) key ≡ ts
without-with [] key wire free = rw (eq-eqb key key refl) refl
without-with (t ∷ ts) key wire free = back_go t ts key wire (t.0 == key) (nat_lt key t.0) refl refl free (without-with ts key wire)
