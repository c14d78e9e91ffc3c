-- What one session's visit leaves to the others.
use Rattle.std.proofs.Common.{◌≡◌, ◌≢◌, ℕ, Bool, true, false, ◌==◌, List, [], ◌∷◌, Some, refl, sym, ◌∙◌, ap}
use Rattle.std.proofs.lemmas.Bool.{ne_eqb, eqb-true}
use Rattle.react_core.specs.declared.reactor.Dir.{Dir}
use Rattle.bus_visit.specs.Registry.{Held, held_at, noted, without_held}
use Rattle.bus_visit.proofs.NotReadyNotes.{note-key}

noted_go : (wire : ℕ) (dir : Dir) (x : Held) (held : List Held) (k : ℕ) (h : Held) (b : Bool) → (x.key == k) ≡ b → held_at (x ∷ held) k ≡ Some h → h.wire ≢ wire →
    (held_at held k ≡ Some h → held_at (noted wire dir held) k ≡ Some h) → held_at (noted wire dir (x ∷ held)) k ≡ Some h
noted_go wire dir x held k h true e is other ih =
    let here : Some x ≡ Some h = rw e at is in
    let f : x ≡ h = cc in
    let off : (x.wire == wire) ≡ false = ne_eqb x.wire wire (λ g. other (ap (λ y. y.wire) (sym f) ∙ g)) in
    rw (off, e) here
noted_go wire dir x held k h false e is other ih = rw (note-key dir x (x.wire == wire), e) (ih (rw e at is))

pub noted-keeps : (wire : ℕ) (dir : Dir) (held : List Held) (k : ℕ) (h : Held) → held_at held k ≡ Some h → h.wire ≢ wire → held_at (noted wire dir held) k ≡ Some h
noted-keeps wire dir [] k h is other = is
noted-keeps wire dir (x ∷ held) k h is other = noted_go wire dir x held k h (x.key == k) refl is other (λ there. noted-keeps wire dir held k h there other)

without_go : (x : Held) (held : List Held) (key k : ℕ) (h : Held) (b c : Bool) → (x.key == key) ≡ b → (x.key == k) ≡ c → held_at (x ∷ held) k ≡ Some h → k ≢ key →
    (held_at held k ≡ Some h → held_at (without_held held key) k ≡ Some h) → held_at (without_held (x ∷ held) key) k ≡ Some h
without_go x held key k h true true e f is other ih = absurd (other (sym (eqb-true x.key k f) ∙ eqb-true x.key key e))
without_go x held key k h true false e f is other ih = rw e (rw f at is)
without_go x held key k h false true e f is other ih = rw (e, f) (rw f at is)
without_go x held key k h false false e f is other ih = rw (e, f) (ih (rw f at is))

pub without-keeps : (held : List Held) (key k : ℕ) (h : Held) → held_at held k ≡ Some h → k ≢ key → held_at (without_held held key) k ≡ Some h
without-keeps [] key k h is other = is
without-keeps (x ∷ held) key k h is other = without_go x held key k h (x.key == key) (x.key == k) refl refl is other (λ there. without-keeps held key k h there other)

pub two-keys : (held : List Held) (key k : ℕ) (h h' : Held) (wire : ℕ) → held_at held key ≡ Some h' → h'.wire ≡ wire → held_at held k ≡ Some h → h.wire ≢ wire → k ≢ key
two-keys held key k h h' wire at own is other = λ e.
    let there : held_at held key ≡ Some h = ap (held_at held) (sym e) ∙ is in
    let f : Some h' ≡ Some h = sym at ∙ there in
    let g : h' ≡ h = cc in
    other (ap (λ y. y.wire) (sym g) ∙ own)
