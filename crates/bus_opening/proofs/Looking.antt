-- An opening that looked at a line, or ended.
use Rattle.std.proofs.Common.{◌≡◌, ℕ, ◌+◌, ◌<◌, Bool, List, [], ◌∷◌, length, take, drop, Option, Some, None, refl, sym, ap, subst, ◌∙◌, arith, length-drop, inl}
use Rattle.std.specs.Prelude.{IsSome}
use Rattle.std.proofs.lemmas.Bool.{le-ltb, lt-ltb}
use Rattle.std.proofs.lemmas.List.{append-nil}
use Rattle.bus_opening.specs.Limits.{line_limit}
use Rattle.bus_opening.specs.Lines.{feed_at}
use Rattle.bus_opening.specs.Talk.{Said, Turn, goes, Side}
use Rattle.bus_opening.specs.Parts.{Place, step_at, turn_of, place_of, LineAnswered}
use Rattle.bus_opening.specs.declared.part.Part.{Part}
use Rattle.bus_opening.specs.declared.exchange.Stage.{Stage}
use Rattle.bus_opening.specs.declared.exchange.Stage.TheVariants as stage
use Rattle.bus_opening.specs.declared.exchange.Next.TheVariants as next
use Rattle.react_core.specs.Told.{told-nothing}
use Rattle.react_core.specs.Outer.{Outer, keeps-same}
use Rattle.react_core.specs.Outer as part
use Rattle.bus_opening.specs.declared.verdict.Step.TheVariants as steps
use Rattle.bus_opening.specs.declared.verdict.Verdict.{Verdict}
use Rattle.bus_opening.specs.declared.verdict.Verdict.TheVariants as verdict
use Rattle.bus_opening.specs.Standing.{rests, cut, Stands}
use Rattle.bus_opening.specs.Client.{piece}
use Rattle.bus_opening.specs.Outboxes.{Sending}
use Rattle.bus_opening.specs.OpeningFields.{opening_of}
use Rattle.bus_opening.specs.declared.exchange.Exchange.TheInside.{Inside}
use Rattle.bus_opening.specs.Nexts.{NextIs, MayLook}
use Rattle.bus_opening.specs.Openings.{Opening, standing, StandsIn, MovesOpening, RunsOpening, PollsOpening, written_of, left_over, Looked, Looks}
use Rattle.bus_opening.proofs.StandLemmas.{stands_looked}
use Rattle.bus_opening.proofs.OpeningMoves.{asked_in, alone, turn_cut, leaves_by, leaves_looked}
use Rattle.bus_opening.proofs.Moving.{moves_nothing}
use Rattle.bus_opening.proofs.OutboxLemmas.{rests-piece}

module _ (Origin : Type 0) (wire : ℕ) where
  pub ends_so : (o p : Opening) (u : Outer Origin) (v : Verdict) → p ≡ o → NextIs o (next.Ends v) → PollsOpening Origin wire o p u u (steps.Done v)
  ends_so o p u v e n = subst (λ (q : Opening). PollsOpening Origin wire o q u u (steps.Done v)) (sym e) (by_verdict v n)
    where
      nothing : MovesOpening wire o o u.events u.events []
      nothing = moves_nothing Opening StandsIn written_of wire o u.events

      by_verdict : (v : Verdict) → NextIs o (next.Ends v) → PollsOpening Origin wire o o u u (steps.Done v)
      by_verdict (verdict.Authenticated settled) n = alone Origin wire o o u u [] _ nothing (refl, λ talks b st. asked_in talks b o _ st n) (leaves_by o _ n) refl (keeps-same (part.Wire wire) u)
      by_verdict verdict.Handshake n = alone Origin wire o o u u [] _ nothing (inl (refl, λ talks b st. asked_in talks b o _ st n)) (leaves_by o _ n) refl (keeps-same (part.Wire wire) u)
      by_verdict verdict.Io n = absurd n
      by_verdict verdict.LineTooLong n = alone Origin wire o o u u [] _ nothing (refl, λ talks b st. asked_in talks b o _ st n) (leaves_by o _ n) refl (keeps-same (part.Wire wire) u)
      by_verdict verdict.TooManyCommands n = alone Origin wire o o u u [] _ nothing (refl, λ talks b st. asked_in talks b o _ st n) (leaves_by o _ n) refl (keeps-same (part.Wire wire) u)

  pub no_memory : (o q p : Opening) (u : Outer Origin) → q ≡ o → p ≡ q → PollsOpening Origin wire o p u u steps.OutOfMemory
  no_memory o q p u e f = subst (λ (x : Opening). PollsOpening Origin wire o x u u steps.OutOfMemory) (sym (f ∙ e))
      (alone Origin wire o o u u [] _ (moves_nothing Opening StandsIn written_of wire o u.events) refl (leaves_looked o) refl (keeps-same (part.Wire wire) u))

turn_quiet : (s : Stage) (ws : List (List ℕ)) (place : Place) → place_of s ≡ Some place → length ws ≡ 0 → turn_of s ws ≡ goes [] place
turn_quiet (stage.Client c) [] place e h = ap (λ (q : Place). goes [] q) (cc)
turn_quiet (stage.Server c) [] place e h = ap (λ (q : Place). goes [] q) (cc)
turn_quiet (stage.Done g f) [] place e h = absurd cc
turn_quiet stage.Refused [] place e h = absurd cc
turn_quiet s (p ∷ ps) place e h = absurd (omega (arith, h))

pub same_standing : (side : Side Place) (b : List ℕ) (t u : Turn Place) (i j : ℕ) (x y z w : List ℕ) → t ≡ u → i ≡ j
    → x ≡ y → z ≡ w → Stands Place side b (record { turn = t; count = i; rest = x; written = z })
    → Stands Place side b (record { turn = u; count = j; rest = y; written = w })
same_standing side b t u i j x y z w e f g h s = rw (sym e, sym f, sym g, sym h) s

stands_line : (o p : Opening) (feed : ℕ) (place : Place) (talks : List (List ℕ) → Said) (b : List ℕ) → MayLook o feed
    → place_of o.stage ≡ Some place → Looked place o p → StandsIn talks b o → StandsIn talks b p
stands_line o p feed place talks b m e l st =
    let s = stands_looked st.side b (standing o) place (turn_quiet o.stage o.waiting place e m.quiet) m.few
    (le-ltb line_limit (feed_at o.rest) (omega (arith, m.at_feed, m.short))) (lt-ltb (feed_at o.rest) (length o.rest) (omega (arith, m.at_feed, m.whole))) st.stands in
    record {
      side = st.side;
      talks_so = st.talks_so;
      steps_so = st.steps_so ∙ ap (λ (t : Part). step_at t) (sym l.part);
      stands =
          same_standing st.side b _ _ _ _ _ _ _ _
          (ap (λ (f : Place → List ℕ → Turn Place). cut 0 (f place (take (feed_at o.rest + 1) o.rest))) st.steps_so
          ∙ sym l.turn)
          (sym l.count) (sym l.rest) (sym l.written) s;
    }

pub looks_on : (Origin : Type 0) (wire : ℕ) (o q p : Opening) (feed : ℕ) (u : Outer Origin) → q ≡ o → MayLook o feed → Looks q p → RunsOpening Origin wire o p u u × (left_over p < left_over o)
looks_on Origin wire o q p feed u e m looks =
    let l = subst (λ (x : Opening). Looks x p) e looks in (
      record {
        runs = record {
          events = [];
          moved = tt;
          moves = record {
            gained = told-nothing u.events;
            asked = λ talks b st. tt;
            stays = λ talks b st. subst (λ (x : List ℕ). StandsIn talks x p) (sym (append-nil b)) (stands_line o p feed l.0 talks b m l.1 l.2 st);
            taken = l.2.written ∙ sym (append-nil o.written);
          };
        };
        count_stays = refl;
        keeps = keeps-same (part.Wire wire) u;
      },
      rw (l.2.count, l.2.rest) (omega (arith, m.few, length-drop (feed_at o.rest + 1) o.rest)),
    )

whole_piece : (bytes : List ℕ) → rests 0 (piece bytes) ≡ piece bytes
whole_piece bytes = rests-piece bytes 0 (omega arith)

abbrev pub after_line : Opening → Stage → List ℕ → ℕ → Opening
after_line o s bytes feed = record { part = o.part; stage = s; waiting = piece bytes; count = o.count + 1; rest = drop (feed + 1) o.rest; written = o.written; ended = o.ended }

looked_so : (o p : Opening) (feed : ℕ) (s : Stage) (bytes line : List ℕ) → MayLook o feed
    → line ≡ take (feed + 1) o.rest → LineAnswered o.part o.stage line s bytes → p ≡ after_line o s bytes feed
    → Looks o p
looked_so o p feed s bytes line m cutting a e = subst (λ (q : Opening). Looks o q) (sym e) (by_place (place_of o.stage) refl m.open_yet)
  where
    by_place : (x : Option Place) → place_of o.stage ≡ x → IsSome x → Looks o (after_line o s bytes feed)
    by_place None f some = absurd cc
    by_place (Some place) f some =
        let now : turn_of s (piece bytes) ≡ step_at o.part place line = (rw f at a) in (
          place,
          f,
          record {
            turn = ap (turn_of s) (sym (whole_piece bytes)) ∙ turn_cut s (piece bytes) 0 ∙ ap (cut 0) (now ∙ ap (step_at o.part place) (cutting ∙ ap (λ (i : ℕ). take (i + 1) o.rest) m.at_feed));
            part = refl;
            count = refl;
            rest = ap (λ (i : ℕ). drop (i + 1) o.rest) m.at_feed;
            written = refl;
          },
        )

same_opening : (p : Part) (s : Stage) (w x : List (List ℕ)) (n : ℕ) (y z u v : List ℕ) (d : Bool) → w ≡ x → y ≡ z
    → u ≡ v
    → Path Opening (record { part = p; stage = s; waiting = w; count = n; rest = y; written = u; ended = d })
    (record { part = p; stage = s; waiting = x; count = n; rest = z; written = v; ended = d })
same_opening p s w x n y z u v d e f g = rw (e, f, g) refl

pub look_ok : (a : Inside) (o : Opening) (feed : ℕ) (line : List ℕ) (s : Stage) (bs items y : List ℕ) (z : Sending) → opening_of a ≡ o → MayLook o feed → line ≡ take (feed + 1) a.inbox
    → LineAnswered a.part a.stage line s items → bs ≡ items → z ≡ record a.outbox { waiting = piece bs } → y ≡ drop (feed + 1) a.inbox
    → Looks o (record { part = a.part; stage = s; waiting = z.waiting; count = a.commands + 1; rest = y; written = z.written; ended = a.ended })
look_ok a o feed line s bs items y z e m cutting ans f k l =
    let here : MayLook (opening_of a) feed = subst (λ (u : Opening). MayLook u feed) (sym e) m in
    let w : z.waiting ≡ piece items = ap (λ (x : Sending). x.waiting) k ∙ ap piece f in
    let v : z.written ≡ a.outbox.written = ap (λ (x : Sending). x.written) k in
    subst (λ (u : Opening). Looks u (record { part = a.part; stage = s; waiting = z.waiting; count = a.commands + 1; rest = y; written = z.written; ended = a.ended })) e
    (looked_so (opening_of a) _ feed s items line here cutting ans (same_opening a.part s _ _ (a.commands + 1) _ _ _ _ a.ended w l v))
