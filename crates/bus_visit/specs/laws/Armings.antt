-- An arming changes no source, is of no session, and is no wait.
use Rattle.std.proofs.Common.{◌≡◌, ℕ, Bool, true, false, ◌||◌, if◌then◌else◌, List, [], ◌∷◌, refl}
use Rattle.react_core.specs.declared.outside.Event.TheVariants as event
use Rattle.bus_session.specs.Parts.{part}
use Rattle.bus_visit.specs.Counts.{numbered_in}
use Rattle.bus_visit.specs.Registry.{Held, waits, registry, arming}

quiet_one : (c : Bool) (wire key : ℕ) (read write : Bool) (held : List Held) →
    registry held (if c then event.Modify wire key read write true ∷ [] else []) ≡ held
quiet_one true wire key read write held = refl
quiet_one false wire key read write held = refl

-- it moves no side
pub arming-quiet : (h : Held) (held : List Held) → registry held (arming h) ≡ held
arming-quiet h held = quiet_one (waits h.read || waits h.write) h.wire h.key (waits h.read) (waits h.write) held

apart_one : (c : Bool) (wire key : ℕ) (read write : Bool) (w : ℕ) →
    part w (if c then event.Modify wire key read write true ∷ [] else []) ≡ []
apart_one true wire key read write w = refl
apart_one false wire key read write w = refl

-- it is of no session's own part
pub arming-apart : (h : Held) (w : ℕ) → part w (arming h) ≡ []
arming-apart h w = apart_one (waits h.read || waits h.write) h.wire h.key (waits h.read) (waits h.write) w

unnumbered_one : (c : Bool) (wire key : ℕ) (read write : Bool) →
    numbered_in (if c then event.Modify wire key read write true ∷ [] else []) ≡ 0
unnumbered_one true wire key read write = refl
unnumbered_one false wire key read write = refl

-- it is no Wait
pub arming-unnumbered : (h : Held) → numbered_in (arming h) ≡ 0
arming-unnumbered h = unnumbered_one (waits h.read || waits h.write) h.wire h.key (waits h.read) (waits h.write)
