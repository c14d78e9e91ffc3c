-- The wires that a round makes due, by the sources and by the pieces.
use Rattle.std.proofs.Common.{◌≡◌, ◌≢◌, ◌≤◌, ◌+◌, ℕ, Bool, true, false, nat_lt, ◌&&◌, ◌||◌, ◌==◌}
use Rattle.std.proofs.Common.{if◌then◌else◌}
use Rattle.std.proofs.Common.{List, [], ◌∷◌, Option, Some, None, refl, sym, ◌∙◌, ap, arith}
use Rattle.std.proofs.lemmas.Bool.{both_ways, ne_eqb, eq-eqb, eqb-true, ltb-true, ltb-false}
use Rattle.std.proofs.lemmas.Option.{none-some, same_Some}
use Rattle.std.specs.List.{list_any}
use Rattle.react_core.specs.declared.outside.Report.{Report}
use Rattle.react_core.specs.declared.reactor.Dir.{Dir}
use Rattle.react_core.specs.declared.reactor.Dir.TheVariants.{Read, Write}
use Rattle.react_core.specs.Round.{reports_of}
use Rattle.bus_record.specs.Pieces.{Round, Pieces}
use Rattle.bus_record.specs.Places.{key_of, named, named_of, waits}
use Rattle.bus_record.specs.Visits.{here}
use Rattle.bus_record.specs.Settled.{is_woken}
use Rattle.bus_visit.specs.Registry.{Held, held_at, side_held}
use Rattle.bus_visit.specs.Registry as registry
use Rattle.bus_peers.specs.inside.Due.{is_due, due_at}
use Rattle.bus_peers.specs.inside.Shows.{KeysRise, Shows}
use Rattle.bus_peers.proofs.HeldLists.{if-else, if-then, rise-none}
use Rattle.bus_peers.proofs.Sides.{side-at, side-waits}

-- ---- one source of a list

-- what stands later in the list has another key than the first
later_key_go : (low k : ℕ) (held : List Held) (h : Held) (b : Bool) → nat_lt k low ≡ b → KeysRise low held →
    held_at held k ≡ Some h → low ≤ k
later_key_go low k held h true is up at = absurd (none-some h (sym (rise-none low held k up (ltb-true k low is)) ∙ at))
later_key_go low k held h false is up at = ltb-false k low is

later-key : (low : ℕ) (held : List Held) (k : ℕ) (h : Held) → KeysRise low held → held_at held k ≡ Some h → low ≤ k
later-key low held k h up at = later_key_go low k held h (nat_lt k low) refl up at

later-at : (low : ℕ) (x : Held) (held : List Held) (k : ℕ) (h : Held) → KeysRise low (x ∷ held) →
    held_at held k ≡ Some h → held_at (x ∷ held) k ≡ Some h
later-at low x held k h up at =
    let le : x.key + 1 ≤ k = later-key (x.key + 1) held k h up.1 at in
    let other : x.key ≢ k = omega (arith, le) in
    if-else (x.key == k) (Some x) (held_at held k) (ne_eqb x.key k other) ∙ at

first-at : (x : Held) (held : List Held) → held_at (x ∷ held) x.key ≡ Some x
first-at x held = if-then (x.key == x.key) (Some x) (held_at held x.key) (eq-eqb x.key x.key refl)

or-none : (a b : Bool) → a ≡ false → b ≡ false → (a || b) ≡ false
or-none a b e f = ap (λ z. z || b) e ∙ f

-- no source passes the test
any-none : (f : Held → Bool) (low : ℕ) (held : List Held) → KeysRise low held →
    ((k : ℕ) (h : Held) → held_at held k ≡ Some h → f h ≡ false) → list_any f held ≡ false
any-none f low [] up none = refl
any-none f low (x ∷ held) up none =
    or-none (f x) (list_any f held) (none x.key x (first-at x held))
    (any-none f (x.key + 1) held up.1 (λ k h at. none k h (later-at low x held k h up at)))

or-false : (b : Bool) → (b || false) ≡ b
or-false true = refl
or-false false = refl

-- only the source of one key passes it
one_go : (f : Held → Bool) (low : ℕ) (x : Held) (held : List Held) (key : ℕ) (h : Held) (b : Bool) →
    (x.key == key) ≡ b → KeysRise low (x ∷ held) → (if b then Some x else held_at held key) ≡ Some h →
    ((k : ℕ) (g : Held) → k ≢ key → held_at (x ∷ held) k ≡ Some g → f g ≡ false) →
    (held_at held key ≡ Some h → list_any f held ≡ f h) → list_any f (x ∷ held) ≡ f h
one_go f low x held key h true is up at others ih =
    let same : x.key ≡ key = eqb-true x.key key is in
    let none : list_any f held ≡ false = any-none f (x.key + 1) held up.1 (λ k g there.
    let le : x.key + 1 ≤ k = later-key (x.key + 1) held k g up.1 there in
    others k g (omega (arith, le, same)) (later-at low x held k g up there)) in
    ap (λ b. f x || b) none ∙ (or-false (f x) ∙ ap f (same_Some x h at))
one_go f low x held key h false is up at others ih =
    let off : x.key ≢ key = λ e. both_ways (x.key == key) is (eq-eqb x.key key e) in
    ap (λ b. b || list_any f held) (others x.key x off (first-at x held)) ∙ ih at

any-one : (f : Held → Bool) (low : ℕ) (held : List Held) (key : ℕ) (h : Held) → KeysRise low held →
    held_at held key ≡ Some h → ((k : ℕ) (g : Held) → k ≢ key → held_at held k ≡ Some g → f g ≡ false) →
    list_any f held ≡ f h
any-one f low [] key h up at others = absurd (none-some h at)
any-one f low (x ∷ held) key h up at others =
    one_go f low x held key h (x.key == key) refl up at others (λ there. any-one f (x.key + 1) held key h up.1 there
    (λ k g other later. others k g other (later-at low x held k g up later)))

-- ---- a wire that is due

-- the reports that name one of two directions
due-bools : (k a b p q m n : Bool) →
    ((k && ((a && p) || (b && q))) || ((p && m) || (q && n))) ≡ ((p && ((k && a) || m)) || (q && ((k && b) || n)))
due-bools false a b p q m n = refl
due-bools true true b true q m n = refl
due-bools true false true true true true n = refl
due-bools true false true true true false n = refl
due-bools true false true true false m n = refl
due-bools true false false true true m n = refl
due-bools true false false true false m n = refl
due-bools true true true false true m n = refl
due-bools true true false false true m n = refl
due-bools true false true false true m n = refl
due-bools true false false false true m n = refl
due-bools true true true false false m n = refl
due-bools true true false false false m n = refl
due-bools true false true false false m n = refl
due-bools true false false false false m n = refl

or-both-false : (p q : Bool) → false ≡ ((p && false) || (q && false))
or-both-false true true = refl
or-both-false true false = refl
or-both-false false true = refl
or-both-false false false = refl

due-named : (h : Held) (rs : List Report) →
    is_due rs h ≡ ((registry.waits h.read && named Read h.key rs) || (registry.waits h.write && named Write h.key rs))
due-named h [] = or-both-false (registry.waits h.read) (registry.waits h.write)
due-named h (r ∷ rs) =
    ap (λ b. ((r.key == h.key) && ((r.read && registry.waits h.read) || (r.write && registry.waits h.write))) || b)
    (due-named h rs)
    ∙ due-bools (r.key == h.key) r.read r.write (registry.waits h.read) (registry.waits h.write) (named Read h.key rs)
    (named Write h.key rs)

module _ (past : Pieces) (sources : List Held) (r : Round) (wire : ℕ) (shows : Shows past sources) where
  abbrev rs : List Report
  rs = reports_of r.answer

  -- another source is another wire's
  off-wire : (k : ℕ) (h : Held) → held_at sources k ≡ Some h → key_of wire past ≢ Some k →
      ((h.wire == wire) && is_due rs h) ≡ false
  off-wire k h at other =
      let was = shows.each k h at in
      let off : h.wire ≢ wire = λ e.
      other (ap (λ w. key_of w past) (sym e) ∙ (was.1.keyed ∙ ap Some was.0)) in
      ap (λ b. b && is_due rs h) (ne_eqb h.wire wire off)

  woken_go : (o : Option ℕ) → key_of wire past ≡ o → is_woken past r wire ≡ due_at sources rs wire
  woken_go None keyless =
      ap (λ k. (waits Read wire past && named_of Read k rs) || (waits Write wire past && named_of Write k rs)) keyless
      ∙ (sym (or-both-false (waits Read wire past) (waits Write wire past))
      ∙ sym (any-none (λ h. (h.wire == wire) && is_due rs h) 0 sources shows.rise
      (λ k h at. off-wire k h at (λ e. none-some k (sym keyless ∙ e)))))
  woken_go (Some key) keyed =
      let found = shows.keyed wire key keyed in
      let h : Held = found.0 in
      let was = shows.each key h found.1 in
      let side : (x : Dir) → registry.waits (side_held x h) ≡ waits x wire past =
      λ x. sym (side-waits (waits x h.wire past) ((here h.wire past).was_reported x) (side_held x h)
      (side-at (here h.wire past) h x was.1.stands)) ∙ ap (λ w. waits x w past) found.2 in
      let one : due_at sources rs wire ≡ ((h.wire == wire) && is_due rs h) =
      any-one (λ h. (h.wire == wire) && is_due rs h) 0 sources key h shows.rise found.1
      (λ k g other at. off-wire k g at (λ e. other (same_Some k key (sym e ∙ keyed)))) in
      ap (λ k. (waits Read wire past && named_of Read k rs) || (waits Write wire past && named_of Write k rs)) keyed
      ∙ sym (one ∙ (ap (λ b. b && is_due rs h) (eq-eqb h.wire wire found.2) ∙ (due-named h rs
      ∙ (ap (λ b. (b && named Read h.key rs) || (registry.waits h.write && named Write h.key rs)) (side Read)
      ∙ (ap (λ b. (waits Read wire past && named Read h.key rs) || (b && named Write h.key rs)) (side Write)
      ∙ ap (λ k. (waits Read wire past && named Read k rs) || (waits Write wire past && named Write k rs)) was.0)))))

  -- a round wakes exactly the wires that are due by the sources
  pub woken-due : is_woken past r wire ≡ due_at sources rs wire
  woken-due = woken_go (key_of wire past) refl
