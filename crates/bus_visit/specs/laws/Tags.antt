-- Which wire is registered under which key: in the reactor's sources, and as the record shows it.
use Rattle.std.proofs.Common.{◌≡◌, ◌≢◌, ◌<◌, ◌≤◌, ℕ, Bool, true, false, ◌||◌, nat_lt, ◌==◌, List, [], ◌∷◌, map}
use Rattle.std.proofs.Common.{Option, Some, None, IsSome, refl, sym, ◌∙◌, ap, arith}
use Rattle.std.proofs.lemmas.Bool.{and_parts, eq-eqb, eqb-false, eqb-true, lt-ltb, ltb-true, ne_eqb, or_parts, or_right}
use Rattle.std.proofs.lemmas.Grind.{common_steps}
use Rattle.std.specs.Option.{option_map}
use Rattle.react_core.specs.declared.outside.Report.{Report}
use Rattle.react_core.specs.Places.{Source}
use Rattle.react_core.specs.Sources.{source_of, with_source, without}
use Rattle.react_core.specs.Reports.{after_report, after_report_of, after_reports, reported}
use Rattle.bus_visit.specs.Registry.{Held, held_at, Apart, Distinct}
use Rattle.bus_visit.specs.Shown.{shown, Tags, tags, tag_at, without_tag, has_wire, Single, are_below}

below_go : (n wire w : ℕ) (more b : Bool) → (w == wire) ≡ b → ((w == wire) || more) ≡ true → nat_lt w n ≡ true →
    (more ≡ true → wire < n) → wire < n
below_go n wire w more true e is low ih = let f : w ≡ wire = eqb-true w wire e in let g : w < n =
    ltb-true w n low in omega arith
below_go n wire w more false e is low ih = ih (rw e at is)

-- ---- a source under its key, and the tag of the key

with_go : (x : ℕ × Source) (sources : List (ℕ × Source)) (key : ℕ) (s new : Source) (b : Bool) → (x.0 == key) ≡ b →
    source_of (x ∷ sources) key ≡ Some s → new.wire ≡ s.wire →
    (source_of sources key ≡ Some s → tags (with_source sources key new) ≡ tags sources) →
    tags (with_source (x ∷ sources) key new) ≡ tags (x ∷ sources)
with_go x sources key s new true e at same ih =
    let here : Some x.1 ≡ Some s = rw e at at in
    let f : x.1 ≡ s = cc in
    let k : x.0 ≡ key = eqb-true x.0 key e in
    let w : new.wire ≡ x.1.wire = same ∙ ap (λ y. y.wire) (sym f) in
    rw (e, w, k) refl
with_go x sources key s new false e at same ih = rw (e, ih (rw e at at)) refl

-- the same wire again under its key
pub tags-with_source : (sources : List (ℕ × Source)) (key : ℕ) (s new : Source) → source_of sources key ≡ Some s →
    new.wire ≡ s.wire → tags (with_source sources key new) ≡ tags sources
tags-with_source [] key s new at same = refl
tags-with_source (x ∷ sources) key s new at same =
    with_go x sources key s new (x.0 == key) refl at same (λ there. tags-with_source sources key s new there same)

report_go : (ticker : ℕ) (sources : List (ℕ × Source)) (r : Report) (o : Option Source) →
    source_of sources r.key ≡ o → tags (after_report_of ticker sources r o) ≡ tags sources
report_go ticker sources r None at = refl
report_go ticker sources r (Some s) at = tags-with_source sources r.key s (reported ticker r s) at refl

pub tags-after_report : (ticker : ℕ) (sources : List (ℕ × Source)) (r : Report) →
    tags (after_report ticker sources r) ≡ tags sources
tags-after_report ticker sources r = report_go ticker sources r (source_of sources r.key) refl

-- reports change no tag
pub tags-after_reports : (ticker : ℕ) (sources : List (ℕ × Source)) (reports : List Report) →
    tags (after_reports ticker sources reports) ≡ tags sources
tags-after_reports ticker sources [] = refl
tags-after_reports ticker sources (r ∷ reports) =
    tags-after_reports ticker (after_report ticker sources r) reports ∙ tags-after_report ticker sources r

pub tags-without : (sources : List (ℕ × Source)) (key : ℕ) → tags (without sources key) ≡ without_tag (tags sources) key
tags-without [] key = refl
tags-without (x ∷ sources) key = grind (arith, common_steps, tags-without sources key)

pub tag_at-source : (sources : List (ℕ × Source)) (key : ℕ) →
    tag_at (tags sources) key ≡ option_map (λ s. s.wire) (source_of sources key)
tag_at-source [] key = refl
tag_at-source (x ∷ sources) key = grind (arith, common_steps, tag_at-source sources key)

pub tag_at-held : (sources : List (ℕ × Source)) (key : ℕ) →
    tag_at (tags sources) key ≡ option_map (λ h. h.wire) (held_at (map shown sources) key)
tag_at-held [] key = refl
tag_at-held (x ∷ sources) key = grind (arith, common_steps, tag_at-held sources key)

source_by : (o : Option Source) (wire : ℕ) → option_map (λ s. s.wire) o ≡ Some wire → (s : Source) × (o ≡ Some s) ×
    (s.wire ≡ wire)
source_by None wire e = cc
source_by (Some s) wire e = (s, refl, cc)

pub tag-source : (sources : List (ℕ × Source)) (key wire : ℕ) → tag_at (tags sources) key ≡ Some wire →
    (s : Source) × (source_of sources key ≡ Some s) × (s.wire ≡ wire)
tag-source sources key wire at = source_by (source_of sources key) wire (sym (tag_at-source sources key) ∙ at)

some_by : {A : Type 0} (o : Option A) (a : A) → o ≡ Some a → IsSome o
some_by None a e = cc
some_by (Some x) a e = refl

pub tag-has_source : (sources : List (ℕ × Source)) (key wire : ℕ) → tag_at (tags sources) key ≡ Some wire →
    IsSome (source_of sources key)
tag-has_source sources key wire at = let found =
    tag-source sources key wire at in some_by (source_of sources key) found.0 found.1

pub held-tag : (sources : List (ℕ × Source)) (key : ℕ) (h : Held) → held_at (map shown sources) key ≡ Some h →
    tag_at (tags sources) key ≡ Some h.wire
held-tag sources key h at = tag_at-held sources key ∙ ap (option_map (λ x. x.wire)) at

held_by : (o : Option Held) (wire : ℕ) → option_map (λ h. h.wire) o ≡ Some wire → (h : Held) × (o ≡ Some h) ×
    (h.wire ≡ wire)
held_by None wire e = cc
held_by (Some h) wire e = (h, refl, cc)

pub tag-held : (sources : List (ℕ × Source)) (key wire : ℕ) → tag_at (tags sources) key ≡ Some wire → (h : Held) ×
    (held_at (map shown sources) key ≡ Some h) × (h.wire ≡ wire)
tag-held sources key wire at = held_by (held_at (map shown sources) key) wire (sym (tag_at-held sources key) ∙ at)

-- ---- the wires

pub has_wire-apart : (wire : ℕ) (sources : List (ℕ × Source)) → has_wire wire (tags sources) ≡ false →
    Apart wire (map shown sources)
has_wire-apart wire [] e = tt
has_wire-apart wire (x ∷ sources) e = let p =
    or_parts (x.1.wire == wire) (has_wire wire (tags sources)) e in
    (eqb-false x.1.wire wire p.0, has_wire-apart wire sources p.1)

pub apart-has_wire : (wire : ℕ) (sources : List (ℕ × Source)) → Apart wire (map shown sources) →
    has_wire wire (tags sources) ≡ false
apart-has_wire wire [] apart = refl
apart-has_wire wire (x ∷ sources) apart = rw (ne_eqb x.1.wire wire apart.0) (apart-has_wire wire sources apart.1)

pub distinct-single : (sources : List (ℕ × Source)) → Distinct (map shown sources) → Single (tags sources)
distinct-single [] distinct = tt
distinct-single (x ∷ sources) distinct =
    (apart-has_wire x.1.wire sources distinct.0, distinct-single sources distinct.1)

pub single-distinct : (sources : List (ℕ × Source)) → Single (tags sources) → Distinct (map shown sources)
single-distinct [] single = tt
single-distinct (x ∷ sources) single = (has_wire-apart x.1.wire sources single.0, single-distinct sources single.1)

-- the wire of a key is there
has_go : (t : ℕ × ℕ) (ts : Tags) (key wire : ℕ) (b : Bool) → (t.0 == key) ≡ b → tag_at (t ∷ ts) key ≡ Some wire →
    (tag_at ts key ≡ Some wire → has_wire wire ts ≡ true) → has_wire wire (t ∷ ts) ≡ true
has_go t ts key wire true e at ih = let here : Some t.1 ≡ Some wire = rw e at at in let f : t.1 ≡ wire =
    cc in rw (eq-eqb t.1 wire f) refl
has_go t ts key wire false e at ih = let there : has_wire wire ts ≡ true =
    ih (rw e at at) in or_right (t.1 == wire) (has_wire wire ts) there

pub tag-has_wire : (ts : Tags) (key wire : ℕ) → tag_at ts key ≡ Some wire → has_wire wire ts ≡ true
tag-has_wire [] key wire at = cc
tag-has_wire (t ∷ ts) key wire at = has_go t ts key wire (t.0 == key) refl at (tag-has_wire ts key wire)

-- a wire that is there is below
pub has_wire-below : (n wire : ℕ) (ts : Tags) → has_wire wire ts ≡ true → are_below n ts ≡ true → wire < n
has_wire-below n wire [] e below = cc
has_wire-below n wire (t ∷ ts) e below =
    let p = and_parts (nat_lt t.1 n) (are_below n ts) below in
    below_go n wire t.1 (has_wire wire ts) (t.1 == wire) refl e p.0 (λ there. has_wire-below n wire ts there p.1)

true_false : true ≡ false → ⊥
true_false e = cc

-- ---- a key is taken out

-- what is not there is not there without a key
gone_go : (t : ℕ × ℕ) (ts : Tags) (key w : ℕ) (b : Bool) → (t.0 == key) ≡ b → has_wire w (t ∷ ts) ≡ false →
    (has_wire w ts ≡ false → has_wire w (without_tag ts key) ≡ false) →
    has_wire w (without_tag (t ∷ ts) key) ≡ false
gone_go t ts key w true e none ih = rw e ((or_parts (t.1 == w) (has_wire w ts) none).1)
gone_go t ts key w false e none ih = let p = or_parts (t.1 == w) (has_wire w ts) none in rw (e, p.0) (ih p.1)

pub no_wire-without : (ts : Tags) (key w : ℕ) → has_wire w ts ≡ false → has_wire w (without_tag ts key) ≡ false
no_wire-without [] key w none = refl
no_wire-without (t ∷ ts) key w none = gone_go t ts key w (t.0 == key) refl none (no_wire-without ts key w)

without_go : (t : ℕ × ℕ) (ts : Tags) (key wire : ℕ) (b : Bool) → (t.0 == key) ≡ b → has_wire t.1 ts ≡ false →
    tag_at (t ∷ ts) key ≡ Some wire →
    (tag_at ts key ≡ Some wire → has_wire wire (without_tag ts key) ≡ false) →
    has_wire wire (without_tag (t ∷ ts) key) ≡ false
without_go t ts key wire true e alone at ih =
    let here : Some t.1 ≡ Some wire = rw e at at in
    let w : t.1 ≡ wire = cc in
    rw e (ap (λ x. has_wire x ts) (sym w) ∙ alone)
without_go t ts key wire false e alone at ih =
    let there : tag_at ts key ≡ Some wire = rw e at at in
    let other : t.1 ≢ wire =
    λ f. true_false (sym (tag-has_wire ts key wire there) ∙ (ap (λ x. has_wire x ts) (sym f) ∙ alone)) in
    rw (e, ne_eqb t.1 wire other) (ih there)

-- the wire of the key is gone
pub has_wire-without : (ts : Tags) (key wire : ℕ) → Single ts → tag_at ts key ≡ Some wire →
    has_wire wire (without_tag ts key) ≡ false
has_wire-without [] key wire single at = refl
has_wire-without (t ∷ ts) key wire single at =
    without_go t ts key wire (t.0 == key) refl single.0 at (has_wire-without ts key wire single.1)

stay_go : (t : ℕ × ℕ) (ts : Tags) (key wire w : ℕ) (b : Bool) → (t.0 == key) ≡ b → tag_at (t ∷ ts) key ≡ Some wire →
    w ≢ wire →
    (tag_at ts key ≡ Some wire → has_wire w (without_tag ts key) ≡ has_wire w ts) →
    has_wire w (without_tag (t ∷ ts) key) ≡ has_wire w (t ∷ ts)
stay_go t ts key wire w true e at other ih =
    let here : Some t.1 ≡ Some wire = rw e at at in
    let f : t.1 ≡ wire = cc in
    let off : (t.1 == w) ≡ false = ne_eqb t.1 w (λ g. other (sym g ∙ f)) in
    rw (e, off) refl
stay_go t ts key wire w false e at other ih = rw (e, ih (rw e at at)) refl

-- the other wires stay
pub other_wire-without : (ts : Tags) (key wire w : ℕ) → tag_at ts key ≡ Some wire → w ≢ wire →
    has_wire w (without_tag ts key) ≡ has_wire w ts
other_wire-without [] key wire w at other = refl
other_wire-without (t ∷ ts) key wire w at other =
    stay_go t ts key wire w (t.0 == key) refl at other (λ there. other_wire-without ts key wire w there other)

tag_go : (t : ℕ × ℕ) (ts : Tags) (key k : ℕ) (b c : Bool) → (t.0 == key) ≡ b → (t.0 == k) ≡ c → k ≢ key →
    tag_at (without_tag ts key) k ≡ tag_at ts k → tag_at (without_tag (t ∷ ts) key) k ≡ tag_at (t ∷ ts) k
tag_go t ts key k true true e f other ih = absurd (other (sym (eqb-true t.0 k f) ∙ eqb-true t.0 key e))
tag_go t ts key k true false e f other ih = rw (e, f) refl
tag_go t ts key k false true e f other ih = rw (e, f) refl
tag_go t ts key k false false e f other ih = rw (e, f) ih

-- the other keys stay
pub tag_at-without : (ts : Tags) (key k : ℕ) → k ≢ key → tag_at (without_tag ts key) k ≡ tag_at ts k
tag_at-without [] key k other = refl
tag_at-without (t ∷ ts) key k other =
    tag_go t ts key k (t.0 == key) (t.0 == k) refl refl other (tag_at-without ts key k other)

single_go : (t : ℕ × ℕ) (ts : Tags) (key : ℕ) (b : Bool) → (t.0 == key) ≡ b → has_wire t.1 ts ≡ false → Single ts →
    Single (without_tag ts key) → Single (without_tag (t ∷ ts) key)
single_go t ts key true e alone single ih = rw e single
single_go t ts key false e alone single ih = rw e (no_wire-without ts key t.1 alone, ih)

pub single-without : (ts : Tags) (key : ℕ) → Single ts → Single (without_tag ts key)
single-without [] key single = tt
single-without (t ∷ ts) key single =
    single_go t ts key (t.0 == key) refl single.0 single.1 (single-without ts key single.1)

less_go : (n : ℕ) (t : ℕ × ℕ) (ts : Tags) (key : ℕ) (b : Bool) → (t.0 == key) ≡ b → nat_lt t.1 n ≡ true →
    are_below n ts ≡ true → are_below n (without_tag ts key) ≡ true → are_below n (without_tag (t ∷ ts) key) ≡ true
less_go n t ts key true e low below ih = rw e below
less_go n t ts key false e low below ih = rw (e, low) ih

pub below-without : (n : ℕ) (ts : Tags) (key : ℕ) → are_below n ts ≡ true → are_below n (without_tag ts key) ≡ true
below-without n [] key below = refl
below-without n (t ∷ ts) key below = let p =
    and_parts (nat_lt t.1 n) (are_below n ts) below in
    less_go n t ts key (t.0 == key) refl p.0 p.1 (below-without n ts key p.1)

-- ---- more room, and no room

pub below-weaker : (n m : ℕ) (ts : Tags) → n ≤ m → are_below n ts ≡ true → are_below m ts ≡ true
below-weaker n m [] le below = refl
below-weaker n m (t ∷ ts) le below =
    let p = and_parts (nat_lt t.1 n) (are_below n ts) below in
    let low : t.1 < n = ltb-true t.1 n p.0 in
    rw (lt-ltb t.1 m (omega arith)) (below-weaker n m ts le p.1)

pub below-none : (ts : Tags) → are_below 0 ts ≡ true → ts ≡ []
below-none [] below = refl
below-none (t ∷ ts) below = let p = and_parts (nat_lt t.1 0) (are_below 0 ts) below in let low : t.1 < 0 =
    ltb-true t.1 0 p.0 in absurd (omega arith)

pub tags-none : (sources : List (ℕ × Source)) → tags sources ≡ [] → sources ≡ []
tags-none [] none = refl
tags-none (x ∷ sources) none = cc
