-- The sources behind a visit are those that the pieces show.
use Rattle.std.proofs.Common.{◌≡◌, ◌≢◌, ℕ, Bool, true, false, ◌==◌, List, Option, Some}
use Rattle.std.proofs.Common.{None}
use Rattle.std.proofs.Common.{refl, sym, ◌∙◌, ap, subst}
use Rattle.std.proofs.lemmas.Bool.{both_ways, ne_eqb, eq-eqb, eqb-true}
use Rattle.std.proofs.lemmas.Option.{none-some, same_Some}
use Rattle.std.specs.Option.{option_map}
use Rattle.react_core.specs.declared.outside.Event.{Event}
use Rattle.react_core.specs.declared.reactor.Dir.{Dir}
use Rattle.react_core.specs.declared.reactor.Dir.TheVariants.{Read, Write}
use Rattle.bus_record.specs.Pieces.{visit, Pieces, ◌▸◌}
use Rattle.bus_record.specs.Places.{key_of, holder, holder_through, waits, stays_armed}
use Rattle.bus_record.specs.Visits.{Here, here}
use Rattle.bus_visit.specs.Registry.{Held, held_at}
use Rattle.bus_peers.specs.inside.Shows.{StandsAt, ShowsSource, KeysRise, Shows, StandsStill}
use Rattle.bus_peers.proofs.OtherWires.{others-still}
use Rattle.bus_peers.proofs.Sides.{side-same}

-- ---- another's source

-- a place with the same tests
pub stands-same : (h g : Here) (held : Held) → ((x : Dir) → g.is_waiting x ≡ h.is_waiting x) →
    ((x : Dir) → g.was_reported x ≡ h.was_reported x) → StandsAt h held → StandsAt g held
stands-same h g held w r at = record {
  read = side-same (h.is_waiting Read) (g.is_waiting Read) (h.was_reported Read) (g.was_reported Read) held.read
      (w Read) (r Read) at.read;
  write = side-same (h.is_waiting Write) (g.is_waiting Write) (h.was_reported Write) (g.was_reported Write) held.write
      (w Write) (r Write) at.write;
}

-- a source whose wire stands as it stood, and whose key has its holder
pub source-still : (before after : Pieces) (h : Held) → StandsStill h.wire before after →
    holder h.key after ≡ holder h.key before → ShowsSource before h → ShowsSource after h
source-still before after h still holds shows = record {
  keyed = still.key ∙ shows.keyed;
  holds = holds ∙ shows.holds;
  stands = stands-same (here h.wire before) (here h.wire after) h still.waits still.reported shows.stands;
  armed = λ d up. still.armed d ∙ shows.armed d (sym (still.waits d) ∙ up);
}

-- where a wire has no other key, another key's source is another wire's
pub other-wire : (past : Pieces) (sources : List Held) (wire key : ℕ) → Shows past sources →
    ((k : ℕ) → key_of wire past ≡ Some k → k ≡ key) → (k : ℕ) (h : Held) → k ≢ key → held_at sources k ≡ Some h →
    h.wire ≢ wire
other-wire past sources wire key shows single k h other at = λ same.
    let was = shows.each k h at in
    let keyed : key_of wire past ≡ Some h.key = subst (λ w. key_of w past ≡ Some h.key) same was.1.keyed in
    other (sym was.0 ∙ single h.key keyed)

-- ---- a visit that leaves its wire's source

-- the visit's own source
pub record Own (after : Pieces) (wire key : ℕ) (h : Held) : Type 0 where
  pub key_so : h.key ≡ key
  pub wire_so : h.wire ≡ wire
  pub stands : StandsAt (here wire after) h
  pub armed : (d : Dir) → waits d wire after ≡ true → stays_armed d wire after ≡ true

-- A visit of the wire leaves this under its key, and the other keys as they were.
pub record Renewed (past : Pieces) (wire key : ℕ) (events : List Event) (sources sources' : List Held)
    (after : Option Held) : Type 0 where
  pub rise : KeysRise 0 sources'
  pub at : held_at sources' key ≡ after
  pub others : (k : ℕ) → k ≢ key → held_at sources' k ≡ held_at sources k
  pub holds : holder_through key (holder key past) events ≡ option_map (λ h. wire) after
  pub holders : (k : ℕ) → k ≢ key → holder_through k (holder k past) events ≡ holder k past
  pub keyed : key_of wire (past ▸ visit wire events) ≡ option_map (λ h. key) after
  pub own : (h : Held) → after ≡ Some h → Own (past ▸ visit wire events) wire key h
  -- the wire had no other key, and the key no other wire
  pub single : (k : ℕ) → key_of wire past ≡ Some k → k ≡ key
  pub free : (h : Held) → held_at sources key ≡ Some h → h.wire ≡ wire

module _ (past : Pieces) (wire key : ℕ) (events : List Event) (sources sources' : List Held) (after : Option Held)
    (renewed : Renewed past wire key events sources sources' after) (shows : Shows past sources) where
  own-shows : (h : Held) → after ≡ Some h → ShowsSource (past ▸ visit wire events) h
  own-shows h is =
      let own = renewed.own h is in
      record {
        keyed = ap (λ w. key_of w (past ▸ visit wire events)) own.wire_so
            ∙ (renewed.keyed ∙ (ap (option_map (λ h. key)) is ∙ ap Some (sym own.key_so)));
        holds = ap (λ k. holder k (past ▸ visit wire events)) own.key_so
            ∙ (renewed.holds ∙ (ap (option_map (λ h. wire)) is ∙ ap Some (sym own.wire_so)));
        stands = subst (λ w. StandsAt (here w (past ▸ visit wire events)) h) (sym own.wire_so) own.stands;
        armed = λ d up. ap (λ w. stays_armed d w (past ▸ visit wire events)) own.wire_so
            ∙ own.armed d (sym (ap (λ w. waits d w (past ▸ visit wire events)) own.wire_so) ∙ up);
      }

  other-shows : (k : ℕ) (h : Held) → k ≢ key → held_at sources k ≡ Some h →
      (h.key ≡ k) × ShowsSource (past ▸ visit wire events) h
  other-shows k h other at =
      let was = shows.each k h at in
      let off : wire ≢ h.wire = λ e. other-wire past sources wire key shows renewed.single k h other at (sym e) in (
        was.0,
        source-still past (past ▸ visit wire events) h
            (others-still wire h.wire past events (ne_eqb wire h.wire off))
            (renewed.holders h.key (λ e. other (sym was.0 ∙ e))) was.1,
      )

  each_go : (k : ℕ) (h : Held) (b : Bool) → (k == key) ≡ b → held_at sources' k ≡ Some h →
      (h.key ≡ k) × ShowsSource (past ▸ visit wire events) h
  each_go k h true is at =
      let same : k ≡ key = eqb-true k key is in
      let here_so : after ≡ Some h = sym renewed.at ∙ (ap (held_at sources') (sym same) ∙ at) in
      ((renewed.own h here_so).key_so ∙ sym same, own-shows h here_so)
  each_go k h false is at =
      let other : k ≢ key = λ e. both_ways (k == key) is (eq-eqb k key e) in
      other-shows k h other (sym (renewed.others k other) ∙ at)

  free_go : (k : ℕ) (b : Bool) → (k == key) ≡ b → held_at sources' k ≡ None →
      holder k (past ▸ visit wire events) ≡ None
  free_go k true is none =
      let same : k ≡ key = eqb-true k key is in
      let gone : after ≡ None = sym renewed.at ∙ (ap (held_at sources') (sym same) ∙ none) in
      ap (λ k. holder k (past ▸ visit wire events)) same ∙ (renewed.holds ∙ ap (option_map (λ h. wire)) gone)
  free_go k false is none =
      let other : k ≢ key = λ e. both_ways (k == key) is (eq-eqb k key e) in
      renewed.holders k other ∙ shows.free k (sym (renewed.others k other) ∙ none)

  own_keyed : (k : ℕ) (o : Option Held) → after ≡ o → option_map (λ h. key) o ≡ Some k →
      (h : Held) × (held_at sources' k ≡ Some h) × (h.wire ≡ wire)
  own_keyed k None is e = absurd (none-some k e)
  own_keyed k (Some h) is e =
      let same : key ≡ k = same_Some key k e in
      (h, ap (held_at sources') (sym same) ∙ (renewed.at ∙ is), (renewed.own h is).wire_so)

  keyed_go : (w k : ℕ) (b : Bool) → (wire == w) ≡ b → key_of w (past ▸ visit wire events) ≡ Some k →
      (h : Held) × (held_at sources' k ≡ Some h) × (h.wire ≡ w)
  keyed_go w k true is keyed =
      let same : wire ≡ w = eqb-true wire w is in
      let there : option_map (λ h. key) after ≡ Some k =
      sym renewed.keyed ∙ (ap (λ w. key_of w (past ▸ visit wire events)) same ∙ keyed) in
      let found = own_keyed k after refl there in
      (found.0, found.1, found.2 ∙ same)
  keyed_go w k false is keyed =
      let still = others-still wire w past events is in
      let found = shows.keyed w k (sym still.key ∙ keyed) in
      let other : k ≢ key = λ e. both_ways (wire == w) is
      (eq-eqb wire w (sym (renewed.free found.0 (ap (held_at sources) (sym e) ∙ found.1)) ∙ found.2)) in
      (found.0, renewed.others k other ∙ found.1, found.2)

  pub renewed-shows : Shows (past ▸ visit wire events) sources'
  renewed-shows = record {
    rise = renewed.rise;
    each = λ k h at. each_go k h (k == key) refl at;
    free = λ k none. free_go k (k == key) refl none;
    keyed = λ w k keyed. keyed_go w k (wire == w) refl keyed;
  }

-- ---- a visit that moves no source

-- a visit of a wire without a source, by events that move nothing
module _ (past : Pieces) (wire : ℕ) (events : List Event) (sources : List Held) (shows : Shows past sources)
    (keyless : key_of wire past ≡ None) (still_keyless : key_of wire (past ▸ visit wire events) ≡ None)
    (holders : (k : ℕ) (h : Option ℕ) → holder_through k h events ≡ h) where
  keyless-other : (k : ℕ) (h : Held) → held_at sources k ≡ Some h → wire ≢ h.wire
  keyless-other k h at same =
      none-some h.key (sym keyless ∙ (ap (λ w. key_of w past) same ∙ (shows.each k h at).1.keyed))

  keyless_go : (w k : ℕ) (b : Bool) → (wire == w) ≡ b → key_of w (past ▸ visit wire events) ≡ Some k →
      (h : Held) × (held_at sources k ≡ Some h) × (h.wire ≡ w)
  keyless_go w k true is keyed =
      let same : wire ≡ w = eqb-true wire w is in
      absurd (none-some k (sym still_keyless ∙ (ap (λ w. key_of w (past ▸ visit wire events)) same ∙ keyed)))
  keyless_go w k false is keyed = shows.keyed w k (sym (others-still wire w past events is).key ∙ keyed)

  pub keyless-shows : Shows (past ▸ visit wire events) sources
  keyless-shows = record {
    rise = shows.rise;
    each = λ k h at.
        let was = shows.each k h at in (
          was.0,
          source-still past (past ▸ visit wire events) h
              (others-still wire h.wire past events (ne_eqb wire h.wire (keyless-other k h at)))
              (holders h.key (holder h.key past)) was.1,
        );
    free = λ k none. holders k (holder k past) ∙ shows.free k none;
    keyed = λ w k keyed. keyless_go w k (wire == w) refl keyed;
  }
