-- How a source stands behind reports.
use Rattle.std.proofs.Common.{◌≡◌, ℕ, Bool, true, false, not, ◌&&◌, ◌||◌, ◌==◌, if◌then◌else◌, List, [], ◌∷◌}
use Rattle.std.proofs.Common.{Option, Some, None, refl, sym, ◌∙◌, ap, subst}
use Rattle.std.specs.Option.{option_map}
use Rattle.react_core.specs.declared.outside.Report.{Report}
use Rattle.react_core.specs.declared.reactor.Dir.{Dir}
use Rattle.bus_record.specs.Places.{named}
use Rattle.bus_visit.specs.Registry.{Side, Idle, Waits, Reported, Held, told_of, held_at, side_held, reported_held}
use Rattle.bus_visit.specs.Registry.{after_report_held, after_reports_held}
use Rattle.bus_peers.specs.inside.Shows.{IsSide, KeysRise}
use Rattle.bus_peers.proofs.HeldLists.{reported_one, report-at, report-rise}
use Rattle.bus_peers.proofs.RoundRearms.{flag, reported-side, eqb-flip, one-key, one-wire}
use Rattle.bus_peers.proofs.Sides.{side-same, and_true}

-- a source after reports
abbrev pub reports_one : List Report → Held → Held
reports_one [] h = h
reports_one (r ∷ rs) h = reports_one rs (reported_one r h)

map-same : (o : Option Held) → option_map (λ h. h) o ≡ o
map-same None = refl
map-same (Some h) = refl

map-map : (f g : Held → Held) (o : Option Held) → option_map g (option_map f o) ≡ option_map (λ h. g (f h)) o
map-map f g None = refl
map-map f g (Some h) = refl

pub reports-at : (held : List Held) (rs : List Report) (k : ℕ) →
    held_at (after_reports_held held rs) k ≡ option_map (reports_one rs) (held_at held k)
reports-at held [] k = sym (map-same (held_at held k))
reports-at held (r ∷ rs) k =
    reports-at (after_report_held held r) rs k
    ∙ (ap (option_map (reports_one rs)) (report-at held r k)
    ∙ map-map (reported_one r) (reports_one rs) (held_at held k))

pub reports-rise : (low : ℕ) (held : List Held) (rs : List Report) → KeysRise low held →
    KeysRise low (after_reports_held held rs)
reports-rise low held [] up = up
reports-rise low held (r ∷ rs) up = reports-rise low (after_report_held held r) rs (report-rise low held r up)

pub reports-key : (rs : List Report) (h : Held) → (reports_one rs h).key ≡ h.key
reports-key [] h = refl
reports-key (r ∷ rs) h = reports-key rs (reported_one r h) ∙ one-key r h

pub reports-wire : (rs : List Report) (h : Held) → (reports_one rs h).wire ≡ h.wire
reports-wire [] h = refl
reports-wire (r ∷ rs) h = reports-wire rs (reported_one r h) ∙ one-wire r h

-- a side after a report that names it, or not
told-side : (b w rep : Bool) (side : Side) → IsSide w rep side → IsSide (w && not b) (rep || (w && b)) (told_of b side)
told-side b w rep Idle is =
    subst (λ z. IsSide (z && not b) (rep || (z && b)) (told_of b Idle)) (sym is.0)
    (subst (λ z. IsSide false (z || false) (told_of b Idle)) (sym is.1) (idle-told b))
  where
    idle-told : (b : Bool) → IsSide false false (told_of b Idle)
    idle-told true = (refl, refl)
    idle-told false = (refl, refl)
told-side b w rep Waits is =
    subst (λ z. IsSide (z && not b) (rep || (z && b)) (told_of b Waits)) (sym is.0)
    (subst (λ z. IsSide (not b) (z || b) (told_of b Waits)) (sym is.1) (waits-told b))
  where
    waits-told : (b : Bool) → IsSide (not b) b (told_of b Waits)
    waits-told true = (refl, refl)
    waits-told false = (refl, refl)
told-side b w rep Reported is =
    subst (λ z. IsSide (z && not b) (rep || (z && b)) (told_of b Reported)) (sym is.0)
    (subst (λ z. IsSide false (z || false) (told_of b Reported)) (sym is.1) (reported-told b))
  where
    reported-told : (b : Bool) → IsSide false true (told_of b Reported)
    reported-told true = (refl, refl)
    reported-told false = (refl, refl)

-- no report names it
unnamed : (rep w : Bool) → (rep || (w && false)) ≡ rep
unnamed true w = refl
unnamed false true = refl
unnamed false false = refl

one_side_go : (x : Dir) (h : Held) (r : Report) (w rep b : Bool) → (h.key == r.key) ≡ b →
    IsSide w rep (side_held x h) →
    IsSide (w && not (b && flag x r)) (rep || (w && (b && flag x r))) (side_held x (if b then reported_held h r else h))
one_side_go x h r w rep true at is =
    subst (IsSide (w && not (flag x r)) (rep || (w && flag x r))) (sym (reported-side x h r))
    (told-side (flag x r) w rep (side_held x h) is)
one_side_go x h r w rep false at is =
    side-same w (w && true) rep (rep || (w && false)) (side_held x h) (and_true w) (unnamed rep w) is

one-side : (x : Dir) (h : Held) (r : Report) (w rep : Bool) → IsSide w rep (side_held x h) →
    IsSide (w && not ((r.key == h.key) && flag x r)) (rep || (w && ((r.key == h.key) && flag x r)))
    (side_held x (reported_one r h))
one-side x h r w rep is =
    subst (λ b. IsSide (w && not (b && flag x r)) (rep || (w && (b && flag x r))) (side_held x (reported_one r h)))
    (sym (eqb-flip h.key r.key (h.key == r.key) refl))
    (one_side_go x h r w rep (h.key == r.key) refl is)

not-or : (w a b : Bool) → (w && not (a || b)) ≡ ((w && not a) && not b)
not-or false a b = refl
not-or true true b = refl
not-or true false b = refl

or-more : (rep w a b : Bool) → (rep || (w && (a || b))) ≡ ((rep || (w && a)) || ((w && not a) && b))
or-more true w a b = refl
or-more false false a b = refl
or-more false true true b = refl
or-more false true false b = refl

-- a side behind reports
pub reports-side : (x : Dir) (rs : List Report) (h : Held) (w rep : Bool) → IsSide w rep (side_held x h) →
    IsSide (w && not (named x h.key rs)) (rep || (w && named x h.key rs)) (side_held x (reports_one rs h))
reports-side x [] h w rep is =
    side-same w (w && true) rep (rep || (w && false)) (side_held x h) (and_true w) (unnamed rep w) is
reports-side x (r ∷ rs) h w rep is =
    let f : Bool = (r.key == h.key) && flag x r in
    let one : Held = reported_one r h in
    let Behind : Bool → Type 0 =
    λ n. IsSide ((w && not f) && not n) ((rep || (w && f)) || ((w && not f) && n)) (side_held x (reports_one rs one)) in
    let later : Behind (named x one.key rs) =
    reports-side x rs one (w && not f) (rep || (w && f)) (one-side x h r w rep is) in
    let keyed : Behind (named x h.key rs) = subst (λ k. Behind (named x k rs)) (one-key r h) later in
    let n : Bool = named x h.key rs in
    side-same ((w && not f) && not n) (w && not (f || n)) ((rep || (w && f)) || ((w && not f) && n))
    (rep || (w && (f || n))) (side_held x (reports_one rs one)) (not-or w f n) (or-more rep w f n) keyed
