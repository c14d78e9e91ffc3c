-- Lists of sources, looked up by their keys.
use Rattle.std.proofs.Common.{◌≡◌, ◌≢◌, ◌<◌, ◌≤◌, ◌+◌, ℕ, Bool, true, false, nat_lt, ◌==◌, if◌then◌else◌, List, [], ◌∷◌}
use Rattle.std.proofs.Common.{◌++◌}
use Rattle.std.proofs.Common.{Some, None, refl, sym, ◌∙◌, ap, arith}
use Rattle.std.proofs.lemmas.Bool.{both_ways, ne_eqb, eq-eqb, eqb-true, ltb-true, ltb-false}
use Rattle.std.proofs.lemmas.Option.{none-some}
use Rattle.std.specs.Option.{option_map}
use Rattle.react_core.specs.declared.outside.Event.{Event}
use Rattle.react_core.specs.declared.outside.Report.{Report}
use Rattle.react_core.specs.declared.reactor.Dir.{Dir}
use Rattle.bus_visit.specs.Registry.{Held, held_at, with_held, without_held, stopped_held, noted, held_after, registry}
use Rattle.bus_visit.specs.Registry.{reported_held, after_report_held}
use Rattle.bus_peers.specs.inside.Shows.{KeysRise}
use Rattle.bus_peers.proofs.Sides.{stopped-key}

pub registry-append : (held : List Held) (one two : List Event) →
    registry held (one ++ two) ≡ registry (registry held one) two
registry-append held [] two = refl
registry-append held (e ∷ one) two = registry-append (held_after held e) one two

-- one source or another
pub if-else : {A : Type 0} (b : Bool) (x y : A) → b ≡ false → (if b then x else y) ≡ y
if-else true x y e = absurd (cc)
if-else false x y e = refl

pub if-then : {A : Type 0} (b : Bool) (x y : A) → b ≡ true → (if b then x else y) ≡ x
if-then true x y e = refl
if-then false x y e = absurd (cc)

-- ---- rising keys

pub rise-weaker : (low lower : ℕ) (held : List Held) → lower ≤ low → KeysRise low held → KeysRise lower held
rise-weaker low lower [] le up = tt
rise-weaker low lower (h ∷ held) le up = (omega (arith, le, up.0), up.1)

-- no source has a lower key
pub rise-none : (low : ℕ) (held : List Held) (k : ℕ) → KeysRise low held → k < low → held_at held k ≡ None
rise-none low [] k up lt = refl
rise-none low (h ∷ held) k up lt =
    let le : low ≤ h.key = up.0 in
    let other : h.key ≢ k = omega (arith, le, lt) in
    if-else (h.key == k) (Some h) (held_at held k) (ne_eqb h.key k other)
    ∙ rise-none (h.key + 1) held k up.1 (omega (arith, le, lt))

-- ---- a NotReady

-- a source after a NotReady of the wire
abbrev pub noted_one : ℕ → Dir → Held → Held
noted_one wire x h = if h.wire == wire then stopped_held x h else h

noted_key_go : (b : Bool) (x : Dir) (h : Held) → (if b then stopped_held x h else h).key ≡ h.key
noted_key_go true x h = stopped-key x h
noted_key_go false x h = refl

noted-key : (wire : ℕ) (x : Dir) (h : Held) → (noted_one wire x h).key ≡ h.key
noted-key wire x h = noted_key_go (h.wire == wire) x h

noted_go : (wire : ℕ) (x : Dir) (h : Held) (held : List Held) (k : ℕ) (b : Bool) →
    held_at (noted wire x held) k ≡ option_map (noted_one wire x) (held_at held k) →
    (if b then Some (noted_one wire x h) else held_at (noted wire x held) k)
    ≡ option_map (noted_one wire x) (if b then Some h else held_at held k)
noted_go wire x h held k true ih = refl
noted_go wire x h held k false ih = ih

pub noted-at : (wire : ℕ) (x : Dir) (held : List Held) (k : ℕ) →
    held_at (noted wire x held) k ≡ option_map (noted_one wire x) (held_at held k)
noted-at wire x [] k = refl
noted-at wire x (h ∷ held) k =
    ap (λ key. if key == k then Some (noted_one wire x h) else held_at (noted wire x held) k) (noted-key wire x h)
    ∙ noted_go wire x h held k (h.key == k) (noted-at wire x held k)

pub noted-rise : (wire : ℕ) (x : Dir) (low : ℕ) (held : List Held) → KeysRise low held →
    KeysRise low (noted wire x held)
noted-rise wire x low [] up = tt
noted-rise wire x low (h ∷ held) up =
    let same : (noted_one wire x h).key ≡ h.key = noted-key wire x h in
    let le : low ≤ h.key = up.0 in
    let rest : KeysRise (h.key + 1) (noted wire x held) = noted-rise wire x (h.key + 1) held up.1 in (
      omega (arith, le, same),
      rise-weaker (h.key + 1) ((noted_one wire x h).key + 1) (noted wire x held)
          (omega (arith, same)) rest,
    )

-- ---- a source that is added

with_rise_go : (low : ℕ) (h : Held) (held : List Held) (new : Held) (b : Bool) → nat_lt new.key h.key ≡ b →
    low ≤ new.key → new.key ≢ h.key → KeysRise low (h ∷ held) →
    (h.key + 1 ≤ new.key → KeysRise (h.key + 1) (with_held held new)) →
    KeysRise low (if b then new ∷ h ∷ held else h ∷ with_held held new)
with_rise_go low h held new true is le other up ih =
    let lt : new.key < h.key = ltb-true new.key h.key is in (le, (omega (arith, lt), up.1))
with_rise_go low h held new false is le other up ih =
    let ge : h.key ≤ new.key = ltb-false new.key h.key is in (up.0, ih (omega (arith, ge, other)))

other_first : (h : Held) (held : List Held) (k : ℕ) (b : Bool) → (h.key == k) ≡ b →
    (if b then Some h else held_at held k) ≡ None → (k ≢ h.key) × (held_at held k ≡ None)
other_first h held k true is none = absurd (none-some h (sym none))
other_first h held k false is none = (λ e. both_ways (h.key == k) is (eq-eqb h.key k (sym e)), none)

pub with-rise : (low : ℕ) (held : List Held) (new : Held) → low ≤ new.key → held_at held new.key ≡ None →
    KeysRise low held → KeysRise low (with_held held new)
with-rise low [] new le free up = (le, tt)
with-rise low (h ∷ held) new le free up =
    let other = other_first h held new.key (h.key == new.key) refl free in
    with_rise_go low h held new (nat_lt new.key h.key) refl le other.0 up
    (λ more. with-rise (h.key + 1) held new more other.1 up.1)

with_at_go : (h : Held) (held : List Held) (new : Held) (b : Bool) → held_at (h ∷ held) new.key ≡ None →
    held_at (with_held held new) new.key ≡ Some new →
    held_at (if b then new ∷ h ∷ held else h ∷ with_held held new) new.key ≡ Some new
with_at_go h held new true free ih = if-then (new.key == new.key) (Some new) (held_at (h ∷ held) new.key)
    (eq-eqb new.key new.key refl)
with_at_go h held new false free ih =
    let other = other_first h held new.key (h.key == new.key) refl free in
    if-else (h.key == new.key) (Some h) (held_at (with_held held new) new.key)
    (ne_eqb h.key new.key (λ e. other.0 (sym e)))
    ∙ ih

-- it stands under its key
pub with-at : (held : List Held) (new : Held) → held_at held new.key ≡ None →
    held_at (with_held held new) new.key ≡ Some new
with-at [] new free = if-then (new.key == new.key) (Some new) None (eq-eqb new.key new.key refl)
with-at (h ∷ held) new free =
    let other = other_first h held new.key (h.key == new.key) refl free in
    with_at_go h held new (nat_lt new.key h.key) free (with-at held new other.1)

with_others_go : (h : Held) (held : List Held) (new : Held) (k : ℕ) (b : Bool) → k ≢ new.key →
    held_at (with_held held new) k ≡ held_at held k →
    held_at (if b then new ∷ h ∷ held else h ∷ with_held held new) k ≡ held_at (h ∷ held) k
with_others_go h held new k true other ih =
    if-else (new.key == k) (Some new) (held_at (h ∷ held) k) (ne_eqb new.key k (λ e. other (sym e)))
with_others_go h held new k false other ih = ap (λ o. if h.key == k then Some h else o) ih

-- the other keys stand as they stood
pub with-others : (held : List Held) (new : Held) (k : ℕ) → k ≢ new.key →
    held_at (with_held held new) k ≡ held_at held k
with-others [] new k other = if-else (new.key == k) (Some new) None (ne_eqb new.key k (λ e. other (sym e)))
with-others (h ∷ held) new k other =
    with_others_go h held new k (nat_lt new.key h.key) other (with-others held new k other)

-- ---- a source that is taken out

without_rise_go : (low : ℕ) (h : Held) (held : List Held) (key : ℕ) (b : Bool) → KeysRise low (h ∷ held) →
    KeysRise (h.key + 1) (without_held held key) → KeysRise low (if b then held else h ∷ without_held held key)
without_rise_go low h held key true up ih =
    let le : low ≤ h.key = up.0 in rise-weaker (h.key + 1) low held (omega (arith, le)) up.1
without_rise_go low h held key false up ih = (up.0, ih)

pub without-rise : (low : ℕ) (held : List Held) (key : ℕ) → KeysRise low held → KeysRise low (without_held held key)
without-rise low [] key up = tt
without-rise low (h ∷ held) key up =
    without_rise_go low h held key (h.key == key) up (without-rise (h.key + 1) held key up.1)

without_at_go : (h : Held) (held : List Held) (key : ℕ) (b : Bool) → (h.key == key) ≡ b → KeysRise (h.key + 1) held →
    held_at (without_held held key) key ≡ None → held_at (if b then held else h ∷ without_held held key) key ≡ None
without_at_go h held key true is up ih =
    let same : h.key ≡ key = eqb-true h.key key is in rise-none (h.key + 1) held key up (omega (arith, same))
without_at_go h held key false is up ih = if-else (h.key == key) (Some h) (held_at (without_held held key) key) is ∙ ih

-- nothing stands under its key
pub without-at : (low : ℕ) (held : List Held) (key : ℕ) → KeysRise low held → held_at (without_held held key) key ≡ None
without-at low [] key up = refl
without-at low (h ∷ held) key up =
    without_at_go h held key (h.key == key) refl up.1 (without-at (h.key + 1) held key up.1)

without_others_go : (h : Held) (held : List Held) (key k : ℕ) (b : Bool) → (h.key == key) ≡ b → k ≢ key →
    held_at (without_held held key) k ≡ held_at held k →
    held_at (if b then held else h ∷ without_held held key) k ≡ held_at (h ∷ held) k
without_others_go h held key k true is other ih =
    let off : h.key ≢ k = λ e. other (sym e ∙ eqb-true h.key key is) in
    sym (if-else (h.key == k) (Some h) (held_at held k) (ne_eqb h.key k off))
without_others_go h held key k false is other ih = ap (λ o. if h.key == k then Some h else o) ih

pub without-others : (held : List Held) (key k : ℕ) → k ≢ key → held_at (without_held held key) k ≡ held_at held k
without-others [] key k other = refl
without-others (h ∷ held) key k other =
    without_others_go h held key k (h.key == key) refl other (without-others held key k other)

-- ---- a report

report_rise_go : (low : ℕ) (h : Held) (held : List Held) (r : Report) (b : Bool) → KeysRise low (h ∷ held) →
    KeysRise (h.key + 1) (after_report_held held r) →
    KeysRise low (if b then reported_held h r ∷ held else h ∷ after_report_held held r)
report_rise_go low h held r true up ih = up
report_rise_go low h held r false up ih = (up.0, ih)

pub report-rise : (low : ℕ) (held : List Held) (r : Report) → KeysRise low held →
    KeysRise low (after_report_held held r)
report-rise low [] r up = tt
report-rise low (h ∷ held) r up =
    report_rise_go low h held r (h.key == r.key) up (report-rise (h.key + 1) held r up.1)

-- a source after a report of a key
abbrev pub reported_one : Report → Held → Held
reported_one r h = if h.key == r.key then reported_held h r else h

other_key_go : (x : Held) (held : List Held) (r : Report) (k : ℕ) (b : Bool) → (x.key == k) ≡ b → k ≢ r.key →
    held_at held k ≡ option_map (reported_one r) (held_at held k) →
    (if b then Some x else held_at held k) ≡ option_map (reported_one r) (if b then Some x else held_at held k)
other_key_go x held r k true is other ih =
    let off : x.key ≢ r.key = λ e. other (sym (eqb-true x.key k is) ∙ e) in
    ap Some (sym (if-else (x.key == r.key) (reported_held x r) x (ne_eqb x.key r.key off)))
other_key_go x held r k false is other ih = ih

-- a report of another key changes no source
report-other : (held : List Held) (r : Report) (k : ℕ) → k ≢ r.key →
    held_at held k ≡ option_map (reported_one r) (held_at held k)
report-other [] r k other = refl
report-other (x ∷ held) r k other = other_key_go x held r k (x.key == k) refl other (report-other held r k other)

report_at_go : (h : Held) (held : List Held) (r : Report) (k : ℕ) (b c : Bool) → (h.key == r.key) ≡ b →
    (h.key == k) ≡ c → held_at (after_report_held held r) k ≡ option_map (reported_one r) (held_at held k) →
    held_at (if b then reported_held h r ∷ held else h ∷ after_report_held held r) k
    ≡ option_map (reported_one r) (if c then Some h else held_at held k)
report_at_go h held r k true true is at ih =
    if-then (h.key == k) (Some (reported_held h r)) (held_at held k) at
    ∙ ap Some (sym (if-then (h.key == r.key) (reported_held h r) h is))
report_at_go h held r k true false is at ih =
    let off : k ≢ r.key = λ e. both_ways (h.key == k) at (eq-eqb h.key k (eqb-true h.key r.key is ∙ sym e)) in
    if-else (h.key == k) (Some (reported_held h r)) (held_at held k) at ∙ report-other held r k off
report_at_go h held r k false true is at ih =
    if-then (h.key == k) (Some h) (held_at (after_report_held held r) k) at
    ∙ ap Some (sym (if-else (h.key == r.key) (reported_held h r) h is))
report_at_go h held r k false false is at ih =
    if-else (h.key == k) (Some h) (held_at (after_report_held held r) k) at ∙ ih

-- each source after a report, by its key
pub report-at : (held : List Held) (r : Report) (k : ℕ) →
    held_at (after_report_held held r) k ≡ option_map (reported_one r) (held_at held k)
report-at [] r k = refl
report-at (h ∷ held) r k =
    report_at_go h held r k (h.key == r.key) (h.key == k) refl refl (report-at held r k)
