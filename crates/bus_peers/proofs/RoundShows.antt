-- The sources behind a round are those that the pieces show.
use Rattle.std.proofs.Common.{◌≡◌, ℕ, Bool, true, false, not, ◌&&◌, ◌||◌, List, Option, Some, None, refl, sym, ◌∙◌, ap}
use Rattle.std.proofs.Common.{[], subst}
use Rattle.std.proofs.lemmas.Bool.{and_parts, and_from}
use Rattle.std.proofs.lemmas.Option.{none-some, same_Some}
use Rattle.std.specs.Option.{option_map}
use Rattle.std.specs.List.{list_all}
use Rattle.react_core.specs.declared.outside.Report.{Report}
use Rattle.react_core.specs.declared.reactor.Dir.{Dir}
use Rattle.react_core.specs.Round.{reports_of}
use Rattle.bus_record.specs.Pieces.{Round, round, Pieces, ◌▸◌}
use Rattle.bus_record.specs.Places.{key_of, holder, named, named_of, waits, reported, keeps_armed, stays_armed}
use Rattle.bus_record.specs.Visits.{here}
use Rattle.bus_record.specs.Settled.{rearming}
use Rattle.bus_visit.specs.Registry.{Held, held_at, side_held, after_reports_held}
use Rattle.bus_peers.specs.inside.Shows.{IsSide, StandsAt, ShowsSource, Shows}
use Rattle.bus_peers.proofs.CallSources.{MovesNothing}
use Rattle.bus_peers.proofs.Progresses.{map-some}
use Rattle.bus_peers.proofs.RearmingMoves.{rearming-moves, rearming-armed, round-holder}
use Rattle.bus_peers.proofs.ReportSides.{reports_one, reports-at, reports-rise, reports-key, reports-wire, reports-side}
use Rattle.bus_peers.proofs.RoundRearms.{mapped-none}
use Rattle.bus_peers.proofs.Sides.{side-at, stands-by}

single_go : (past : Pieces) (sources : List Held) (h : Held) (k : ℕ) (o : Option Held) → Shows past sources →
    key_of h.wire past ≡ Some h.key → held_at sources k ≡ o → holder k past ≡ Some h.wire → k ≡ h.key
single_go past sources h k None shows keyed at holds = absurd (none-some h.wire (sym (shows.free k at) ∙ holds))
single_go past sources h k (Some g) shows keyed at holds =
    let was = shows.each k g at in
    let same : g.wire ≡ h.wire =
    same_Some g.wire h.wire (sym was.1.holds ∙ (ap (λ k. holder k past) was.0 ∙ holds)) in
    sym was.0 ∙ same_Some g.key h.key (sym was.1.keyed ∙ (ap (λ w. key_of w past) same ∙ keyed))

-- a wire holds no other key than its own
pub holds-single : (past : Pieces) (sources : List Held) (h : Held) → Shows past sources →
    key_of h.wire past ≡ Some h.key → (k : ℕ) → holder k past ≡ Some h.wire → k ≡ h.key
holds-single past sources h shows keyed k holds =
    single_go past sources h k (held_at sources k) shows keyed refl holds

not-true : (b : Bool) → not b ≡ true → b ≡ false
not-true true e = sym e
not-true false e = refl

module _ (past : Pieces) (sources : List Held) (r : Round) (shows : Shows past sources)
    (rearmed : r.rearmed ≡ rearming past [] (reports_of r.answer)) where
  abbrev rs : List Report
  rs = reports_of r.answer

  abbrev after : Pieces
  after = past ▸ round r

  pub round-moves : MovesNothing r.rearmed
  round-moves = subst MovesNothing (sym rearmed) (rearming-moves past [] rs)

  -- the directions of a source's wire behind the round
  wire-stands : (h : Held) → ShowsSource past h → StandsAt (here h.wire after) (reports_one rs h)
  wire-stands h was = stands-by (here h.wire after) (reports_one rs h) (λ x.
      subst (λ k. IsSide (waits x h.wire past && not (named_of x k rs))
      (reported x h.wire past || (waits x h.wire past && named_of x k rs)) (side_held x (reports_one rs h)))
      (sym was.keyed)
      (reports-side x rs h (waits x h.wire past) (reported x h.wire past) (side-at (here h.wire past) h x was.stands)))

  -- what still waits is armed
  wire-armed : (h : Held) (d : Dir) → ShowsSource past h → waits d h.wire after ≡ true →
      stays_armed d h.wire after ≡ true
  wire-armed h d was up =
      let both = and_parts (waits d h.wire past) (not (named_of d (key_of h.wire past) rs)) up in
      let none : named d h.key rs ≡ false =
      sym (ap (λ k. named_of d k rs) was.keyed) ∙ not-true (named_of d (key_of h.wire past) rs) both.1 in
      and_from (stays_armed d h.wire past) (list_all (keeps_armed d h.wire) r.rearmed) (was.armed d both.0)
      (ap (list_all (keeps_armed d h.wire)) rearmed
      ∙ rearming-armed past h.wire h.key d both.0 (holds-single past sources h shows was.keyed) [] rs refl none)

  source-after : (h : Held) → ShowsSource past h → ShowsSource after (reports_one rs h)
  source-after h was =
      let wire : (reports_one rs h).wire ≡ h.wire = reports-wire rs h in
      let key : (reports_one rs h).key ≡ h.key = reports-key rs h in
      record {
        keyed = ap (λ w. key_of w past) wire ∙ (was.keyed ∙ ap Some (sym key));
        holds = round-holder (reports_one rs h).key past r round-moves
            ∙ (ap (λ k. holder k past) key ∙ (was.holds ∙ ap Some (sym wire)));
        stands = subst (λ w. StandsAt (here w after) (reports_one rs h)) (sym wire) (wire-stands h was);
        armed = λ d. subst (λ w. waits d w after ≡ true → stays_armed d w after ≡ true) (sym wire)
            (λ up. wire-armed h d was up);
      }

  each-after : (k : ℕ) (g : Held) → held_at (after_reports_held sources rs) k ≡ Some g →
      (g.key ≡ k) × ShowsSource after g
  each-after k g at =
      let m = map-some (reports_one rs) (held_at sources k) g (sym (reports-at sources rs k) ∙ at) in
      let was = shows.each k m.0 m.1 in
      subst (λ g. (g.key ≡ k) × ShowsSource after g) m.2 (reports-key rs m.0 ∙ was.0, source-after m.0 was.1)

  keyed-after : (w k : ℕ) → key_of w past ≡ Some k →
      (g : Held) × (held_at (after_reports_held sources rs) k ≡ Some g) × (g.wire ≡ w)
  keyed-after w k keyed =
      let found = shows.keyed w k keyed in (
        reports_one rs found.0,
        reports-at sources rs k ∙ ap (option_map (reports_one rs)) found.1,
        reports-wire rs found.0 ∙ found.2,
      )

  pub round-shows : Shows after (after_reports_held sources rs)
  round-shows = record {
    rise = reports-rise 0 sources rs shows.rise;
    each = each-after;
    free = λ k none. round-holder k past r round-moves
        ∙ shows.free k (mapped-none (reports_one rs) (held_at sources k) (sym (reports-at sources rs k) ∙ none));
    keyed = keyed-after;
  }
