-- A first visit: the dialling, and the visit over the wire that it opened.
use Rattle.std.specs.Prelude.{◌≡◌, ◌≢◌, ℕ, true, List, [], ◌∷◌, map, Option, Some, None}
use Rattle.react_core.specs.declared.outside.Event.{Event}
use Rattle.react_core.specs.declared.outside.Event.TheVariants as event
use Rattle.react_core.specs.Core.{Core, inserted}
use Rattle.react_core.specs.Told.{told}
use Rattle.bus_opening.specs.Talk.{Said}
use Rattle.bus_opening.specs.Openings.{Opening, StandsIn}
use Rattle.bus_session.specs.declared.ended.Ending.{Ending}
use Rattle.bus_session.specs.declared.ended.Ended.{Ended}
use Rattle.bus_session.specs.declared.session.Session.{Session}
use Rattle.bus_session.specs.Dialling.{Opened, fails, opens, conversation, begins as begins_dialling}
use Rattle.bus_visit.specs.declared.visiting.Slot.{Slot}
use Rattle.bus_visit.specs.declared.visiting.Slot.TheVariants as slot
use Rattle.bus_visit.specs.Registry.{Idle, held_at, with_held}
use Rattle.bus_visit.specs.Dialled.{Answered, DialsTo}
use Rattle.bus_visit.specs.Shown.{shown, Tags, tag_at, has_wire, Single}
use Rattle.bus_visit.specs.Conversed.{is_awake}
use Rattle.bus_visit.specs.Timed.{limit_of, MakesVisit}

-- a wire was opened: its source was registered, and the conversation begun
pub record Registered (s : Session) (wire : ℕ) (opened : Opened) (before after : Option (List Event)) (old new : Core)
    (c : Slot) (talk : List (List ℕ) → Said) (client : Opening) (key : ℕ) (mid : Core) : Type 0 where
  pub begins : conversation s.party opened ≡ talk
  pub stands : StandsIn talk [] client
  pub unwritten : client.written ≡ []
  pub free : held_at (map shown old.sources) key ≡ None
  pub core : mid ≡ inserted old key wire
  pub shows : with_held (map shown old.sources) (record { key = key; wire = wire; read = Idle; write = Idle }) ≡
      map shown mid.sources
  pub visits : MakesVisit wire key (limit_of s.deadline) (told before (event.Add wire key true ∷ [])) after mid new client c

abbrev pub Registers : Session → ℕ → Opened → Option (List Event) → Option (List Event) → Core → Core → Slot → Type 0
Registers s wire opened before after old new c =
    (talk : List (List ℕ) → Said) × (client : Opening) × (key : ℕ) × (mid : Core) ×
    Registered s wire opened before after old new c talk client key mid

-- a new session that sleeps has a new key
abbrev pub FirstTags : ℕ → Tags → Tags → Slot → Type 0
FirstTags wire old new (slot.Ended e) = new ≡ old
FirstTags wire old new (slot.Asleep s) =
    (tag_at old s.key ≡ None) × (tag_at new s.key ≡ Some wire) ×
    ((key : ℕ) → key ≢ s.key → tag_at new key ≡ tag_at old key) ×
    ((w : ℕ) → w ≢ wire → has_wire w new ≡ has_wire w old) × (Single old → Single new)
FirstTags wire old new slot.Refused = ⊥

pub data FirstVisits (s : Session) (wire : ℕ) (before after : Option (List Event)) (old new : Core)
    (c : Slot) : Type 0 where
  -- the dialling failed
  undialled : (dials : List Answered) (failure : Ending) (e : Ended) →
      DialsTo wire (begins_dialling s.party) (fails failure) before after dials → is_awake failure ≡ true → new ≡ old →
      c ≡ slot.Ended e →
      e ≡ record { ending = failure; written = []; leftover = []; wire = wire; moment = None } →
      FirstVisits s wire before after old new c
  dialled : (dials : List Answered) (opened : Opened) (mid : Option (List Event)) →
      DialsTo wire (begins_dialling s.party) (opens opened) before mid dials →
      Registers s wire opened mid after old new c → FirstVisits s wire before after old new c
