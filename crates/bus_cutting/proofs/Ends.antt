-- How a conversation ends, by what is asked.
use Rattle.std.proofs.Common.{◌≡◌, ℕ, ◌-◌, ◌<◌, ◌≤◌, true, false, eqb, List, [], ◌++◌, length, take}
use Rattle.std.proofs.Common.{Option, Some, sym, ap, subst, ◌∙◌, arith}
use Rattle.std.specs.Prelude.{sum_by}
use Rattle.std.specs.List.{concat}
use Rattle.std.proofs.lemmas.Bool.{ltb-true, lt-ltb, ne_eqb, eq-eqb}
use Rattle.std.proofs.lemmas.List.{append-nil}
use Rattle.std.proofs.Math.Seq.{take-append_seam}
use Rattle.bus_opening.specs.Limits.{command_limit}
use Rattle.bus_opening.specs.Lines.{lines, long, has_feed, following}
use Rattle.bus_opening.specs.Talk.{Said, more as goes_on, Ask}
use Rattle.bus_session.specs.declared.ended.Ending.{Ending}
use Rattle.bus_session.specs.declared.ended.Ending.TheVariants as ending
use Rattle.bus_cutting.specs.Converse.{Final, Conversed, Place, place, overflows, front, is_more, is_last}
use Rattle.bus_cutting.specs.Converse.{ending_by, ending_at_final, conversed_at, conversed}
use Rattle.bus_cutting.proofs.LineLemmas.{total, feed_later}
use Rattle.bus_cutting.proofs.Growing.{IsFront}
use Rattle.bus_cutting.proofs.Asked.{AskedAt}
use Rattle.bus_cutting.proofs.Places.{of_said, place-more, sent_is, passed_by, at_last, over_by, told_by, many_by, long_by}
use Rattle.bus_cutting.proofs.Places.{unfed_by, sent_at, full_at, many_ends, long_ends, final_ends}

module _ (talk : List (List ℕ) → Said) (b x : List ℕ) (fin : Final) (room : Option ℕ) (written : List ℕ)
    (fits : overflows room written ≡ false) (a : Ask) (at : AskedAt talk b (length written) a)
    (begun : IsFront written (concat (talk (take at.count (lines b).whole)).pieces)) where
  abbrev said : Said
  said = talk (take at.count (lines b).whole)

  abbrev here : Place
  here = of_said at.count (talk (take at.count (lines b).whole)) (following at.count b ++ x)

  abbrev Comes : Conversed → Type 0
  Comes c = conversed talk (b ++ x) fin room ≡ Some c

  before : (i : ℕ) → i < at.count → is_last room (place talk (b ++ x) i) ≡ false
  before i lt =
      subst (λ (p : Place). is_last room p ≡ false) (sym (place-more talk b x i (omega (arith, lt, at.came))))
      (passed_by room (talk (take i (lines b).whole)) written i (following i b) x (omega (arith, lt, at.few)) fits
      (at.passed i lt))

  comes : (c : Conversed) → is_last room here ≡ true → conversed_at fin room here ≡ Some c → Comes c
  comes c last e =
      let same = place-more talk b x at.count at.came in
      at_last talk (b ++ x) fin room at.count at.few before
      (subst (λ (p : Place). is_last room p ≡ true) (sym same) last)
      ∙ ap (conversed_at fin room) same
      ∙ e

  -- all is sent
  sent : sum_by length said.pieces ≤ length written → here.sent ≡ written
  sent le = sent_is written here.sent begun (omega (arith, le, total said.pieces))

  ends_so : (e : Ending) → sum_by length said.pieces ≤ length written →
      (overflows room here.sent ≡ false → is_last room here ≡ true) → ending_by here.status here fin ≡ Some e →
      Comes (record { ending = e; written = written })
  ends_so e le last ends =
      let all = sent le in
      let within : overflows room here.sent ≡ false = rw all fits in
      comes (record { ending = e; written = written }) (last within) (sent_at fin room here e written within all ends)

  few : 0 < command_limit - at.count → eqb at.count command_limit ≡ false
  few lt = ne_eqb at.count command_limit (λ e. absurd (omega (arith, e, lt)))

  pub told : (e : Ending) → sum_by length said.pieces ≤ length written → is_more here.status ≡ false →
      ending_by here.status here fin ≡ Some e → Comes (record { ending = e; written = written })
  told e le over ends = ends_so e le (λ within. told_by room here within over) ends

  pub too_many : sum_by length said.pieces ≤ length written → said.status ≡ goes_on → command_limit - at.count ≡ 0 →
      Comes (record { ending = ending.TooManyCommands; written = written })
  too_many le goes none =
      let many : eqb at.count command_limit ≡ true = eq-eqb at.count command_limit (omega (arith, none, at.few)) in
      ends_so ending.TooManyCommands le (λ within. many_by room here within goes many) (many_ends here fin goes many)

  pub too_long : sum_by length said.pieces ≤ length written → said.status ≡ goes_on → 0 < command_limit - at.count →
      long (following at.count b) ≡ true → Comes (record { ending = ending.LineTooLong; written = written })
  too_long le goes lt far =
      let still : long here.rest ≡ true =
      lt-ltb _ _ (omega (arith, ltb-true _ _ far, feed_later (following at.count b) x)) in
      ends_so ending.LineTooLong le (λ within. long_by room here within goes (few lt) still)
      (long_ends here fin goes (few lt) still)

  -- nothing more came
  pub at_end : (e : Ending) → x ≡ [] → ending_at_final fin ≡ Some e → sum_by length said.pieces ≤ length written →
      said.status ≡ goes_on → 0 < command_limit - at.count → long (following at.count b) ≡ false →
      has_feed (following at.count b) ≡ false → Comes (record { ending = e; written = written })
  at_end e none ends le goes lt short unfed =
      let rest : here.rest ≡ following at.count b =
      ap (λ (y : List ℕ). following at.count b ++ y) none ∙ append-nil (following at.count b) in
      let short' : long here.rest ≡ false = rw rest short in
      let unfed' : has_feed here.rest ≡ false = rw rest unfed in
      ends_so e le (λ within. unfed_by room here within goes (few lt) short' unfed')
      (final_ends here fin goes (few lt) short' ∙ ends)

  -- the wire took all that it has room for
  pub at_full : room ≡ Some (length written) → length written < sum_by length said.pieces →
      Comes (record { ending = ending.Io; written = written })
  at_full full more =
      let over : overflows room here.sent ≡ true =
      rw full (lt-ltb _ _ (omega (arith, more, total said.pieces))) in
      let taken : front room here.sent ≡ written =
      rw (full, begun.1) (take-append_seam written begun.0) in
      comes (record { ending = ending.Io; written = written }) (over_by room here over)
      (full_at fin room here written over taken)
