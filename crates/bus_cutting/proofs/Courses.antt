-- What a course comes to.
use Rattle.std.proofs.Common.{◌≡◌, ℕ, ◌+◌, ◌-◌, ◌≤◌, Bool, true, false, cond, eqb, ltb, List, [], ◌∷◌, ◌++◌}
use Rattle.std.proofs.Common.{length, take, drop, Option, Some, None, refl, sym, ap, subst, ◌∙◌, arith, append_assoc}
use Rattle.std.specs.Prelude.{◌≢◌, nat_le, ◌&&◌}
use Rattle.std.specs.List.{concat, flat_map}
use Rattle.std.specs.Option.{option_map, option_and_then}
use Rattle.std.specs.Str.{bytes_eq}
use Rattle.std.proofs.lemmas.Bool.{ltb-true, ltb-false}
use Rattle.std.proofs.lemmas.List.{append-nil, length-append, take-take, take-append-drop, drop-append-le}
use Rattle.std.proofs.lemmas.List.Concat.{flat_map-append}
use Rattle.std.proofs.lemmas.Slice.Eq.{bytes_eq-Decides}
use Rattle.std.proofs.Math.Seq.{drop-append-add, drop-append_seam}
use Rattle.react_core.specs.declared.outside.Event.{Event}
use Rattle.react_core.specs.declared.outside.Event.TheVariants as event
use Rattle.react_core.specs.declared.outside.RecvAnswer.{RecvAnswer}
use Rattle.react_core.specs.declared.outside.RecvAnswer.TheVariants as recv_answer
use Rattle.react_core.specs.declared.outside.SendAnswer.{SendAnswer}
use Rattle.react_core.specs.declared.outside.SendAnswer.TheVariants as send_answer
use Rattle.react_core.specs.declared.reactor.Dir.{Dir}
use Rattle.bus_opening.specs.Lines.{lines}
use Rattle.bus_opening.specs.Polling.{bytes_got, bytes_taken}
use Rattle.bus_opening.specs.Talk.{Said, piece_rest, Ask, send, recv, opens, handshake, too_many_commands, line_too_long}
use Rattle.bus_session.specs.declared.ended.Ending.{Ending}
use Rattle.bus_session.specs.declared.ended.Ending.TheVariants as ending
use Rattle.bus_session.specs.declared.session.Party.{Party}
use Rattle.bus_session.specs.Outcomes.{Outcome}
use Rattle.bus_session.specs.Alone.{Talked, silence, Progress, converses, over, Course, asked_next, after_asked}
use Rattle.bus_session.specs.Alone.{after_recv, after_send, goes_through, concluded, pause_ends, rests, outcome_of}
use Rattle.bus_cutting.specs.Converse.{Final, Conversed, overflows, ending_at_final, conversed}
use Rattle.bus_cutting.specs.Draws.{DrawsFrom}
use Rattle.bus_cutting.specs.Laws.{conversed_of}
use Rattle.bus_cutting.proofs.Growing.{Begins, Grows, IsFront, front-grows}
use Rattle.bus_cutting.proofs.LineLemmas.{more_lines, lines_first}
use Rattle.bus_cutting.proofs.Asked.{Passed, AskedAt, asked_at, not_earlier, passed-later, passed-more}
use Rattle.bus_cutting.proofs.Places.{fits-less}
use Rattle.bus_cutting.proofs.Ends.{told, too_many, too_long, at_end, at_full}

-- ---- lists

-- the rest of a piece is the front of what is left of all pieces
rest_by : (c : Bool) (w : ℕ) (p : List ℕ) (ps : List (List ℕ)) → ltb w (length p) ≡ c →
    IsFront (piece_rest (w - length p) ps) (drop (w - length p) (concat ps)) →
    IsFront (piece_rest w (p ∷ ps)) (drop w (concat (p ∷ ps)))
rest_by true w p ps e others = rw e (concat ps, drop-append-le w p (concat ps) (omega (arith, ltb-true w (length p) e)))
rest_by false w p ps e others =
    let n : w ≡ length p + (w - length p) = omega (arith, ltb-false w (length p) e) in
    rw e (others.0, ap (λ (m : ℕ). drop m (p ++ concat ps)) n ∙ drop-append-add p (concat ps) (w - length p) ∙ others.1)

rest_is_front : (ps : List (List ℕ)) (w : ℕ) → IsFront (piece_rest w ps) (drop w (concat ps))
rest_is_front [] w = (drop w [], refl)
rest_is_front (p ∷ ps) w = rest_by (ltb w (length p)) w p ps refl (rest_is_front ps (w - length p))

-- more is the front of the same
front_more : (written whole piece : List ℕ) (n : ℕ) → IsFront written whole →
    IsFront piece (drop (length written) whole) → IsFront (written ++ take n piece) whole
front_more written whole piece n f g =
    let rest : f.0 ≡ piece ++ g.0 =
    sym (drop-append_seam written f.0) ∙ ap (drop (length written)) (sym f.1) ∙ g.1 in
    let cut : piece ≡ take n piece ++ drop n piece = sym (take-append-drop n piece) in (
      drop n piece ++ g.0,
      f.1
          ∙ ap (λ (x : List ℕ). written ++ x) (rest ∙ ap (λ (x : List ℕ). x ++ g.0) cut
          ∙ append_assoc (take n piece) (drop n piece) g.0)
          ∙ sym (append_assoc written (take n piece) (drop n piece ++ g.0)),
    )

-- the first lines of more lines
lines_split : (i j : ℕ) (ls : List (List ℕ)) → i ≤ j → take j ls ≡ take i ls ++ drop i (take j ls)
lines_split i j ls le = sym (take-append-drop i (take j ls)) ∙ ap (λ (x : List (List ℕ)). x ++ drop i (take j ls)) (take-take i j ls le)

-- ---- where nothing more comes

pub after_none : (events : List Event) (c : Course) → goes_through None events ≡ Some c → ⊥
after_none [] c e = cc
after_none (first ∷ events) c e = after_none events c e

-- ---- a conversation that was begun

module _ (p : Party) (talk : List (List ℕ) → Said) (grows : Grows talk) (inbound : List ℕ) (fin : Final)
    (room : Option ℕ) (all : List Event) (draws : DrawsFrom inbound fin room all) (late : Bool) (end : Course)
    (came : Outcome) (comes : outcome_of late end ≡ Some came) (in_time : came.ending ≢ ending.TimedOut)
    (waits : came.ending ≢ ending.Waiting) where
  -- how far it has come by the events before
  record Keeps (t : Talked) (before : List Event) : Type 0 where
    pub got : t.got ≡ flat_map bytes_got before
    pub taken : t.written ≡ flat_map bytes_taken before
    pub count : ℕ
    pub within : count ≤ length (lines t.got).whole
    pub passed : Passed talk t.got (length t.written) count
    pub begun : IsFront t.written (concat (talk (take count (lines t.got).whole)).pieces)

  abbrev Goal : Type 0
  Goal = conversed talk inbound fin room ≡ Some (conversed_of came)

  abbrev in_course : Progress → Course
  in_course progress = record { party = p; progress = progress }

  -- what is left of the inbound bytes
  left_over : (before events : List Event) → all ≡ before ++ events →
      inbound ≡ flat_map bytes_got before ++ (flat_map bytes_got events ++ draws.left)
  left_over before events e =
      draws.came
      ∙ ap (λ (es : List Event). flat_map bytes_got es ++ draws.left) e
      ∙ ap (λ (x : List ℕ). x ++ draws.left) (flat_map-append bytes_got before events)
      ∙ append_assoc (flat_map bytes_got before) (flat_map bytes_got events) draws.left

  fits_so : (before events : List Event) → all ≡ before ++ events → overflows room (flat_map bytes_taken before) ≡ false
  fits_so before events e =
      fits-less room (flat_map bytes_taken before) (flat_map bytes_taken all)
      (omega (
        arith,
        ap (λ (es : List Event). length (flat_map bytes_taken es)) e,
        ap length (flat_map-append bytes_taken before events),
        length-append (flat_map bytes_taken before) (flat_map bytes_taken events),
      ))
      draws.taken

  -- the place that asks
  module _ (t : Talked) (before events : List Event) (whole : all ≡ before ++ events) (keeps : Keeps t before) where
    fits : overflows room t.written ≡ false
    fits = rw keeps.taken (fits_so before events whole)

    place_of : (a : Ask) → asked_next talk t ≡ a → AskedAt talk t.got (length t.written) a
    place_of a e = subst (AskedAt talk t.got (length t.written)) e (asked_at talk t.got (length t.written))

    begun_at : (a : Ask) (at : AskedAt talk t.got (length t.written) a) →
        IsFront t.written (concat (talk (take at.count (lines t.got).whole)).pieces)
    begun_at a at =
        let ls = (lines t.got).whole in
        let le = not_earlier talk t.got (length t.written) keeps.count a at keeps.passed in
        let more = drop keeps.count (take at.count ls) in
        front-grows (talk (take keeps.count ls)).pieces (talk (take at.count ls)).pieces t.written
        (subst (λ (ms : List (List ℕ)). Begins (talk (take keeps.count ls)).pieces (talk ms).pieces)
        (sym (lines_split keeps.count at.count ls le)) (grows (take keeps.count ls) more))
        keeps.begun

    rest : List ℕ
    rest = flat_map bytes_got events ++ draws.left

    inbound_is : inbound ≡ t.got ++ rest
    unfolding rest
    inbound_is = left_over before events whole
        ∙ ap (λ (x : List ℕ). x ++ (flat_map bytes_got events ++ draws.left)) (sym keeps.got)

    abbrev Comes : Conversed → Type 0
    Comes c = conversed talk inbound fin room ≡ Some c

    by_rest : (c : Conversed) → conversed talk (t.got ++ rest) fin room ≡ Some c → Comes c
    by_rest c e = ap (λ (x : List ℕ). conversed talk x fin room) inbound_is ∙ e

    -- how it ends where nothing more is asked
    ends_open : (guid : List ℕ) (flag : Bool) → asked_next talk t ≡ opens guid flag →
        Comes (record { ending = ending.Open guid flag; written = t.written })
    ends_open guid flag e =
        let at = place_of (opens guid flag) e in
        let status = at.because.1 in
        by_rest _ (told talk t.got rest fin room t.written fits (opens guid flag) at (begun_at (opens guid flag) at)
        (ending.Open guid flag) at.because.0 (rw status refl) (rw status refl))

    ends_refused : asked_next talk t ≡ handshake → Comes (record { ending = ending.Handshake; written = t.written })
    ends_refused e =
        let at = place_of handshake e in
        let status = at.because.1 in
        by_rest _ (told talk t.got rest fin room t.written fits handshake at (begun_at handshake at)
        ending.Handshake at.because.0 (rw status refl) (rw status refl))

    ends_many : asked_next talk t ≡ too_many_commands →
        Comes (record { ending = ending.TooManyCommands; written = t.written })
    ends_many e =
        let at = place_of too_many_commands e in
        by_rest _ (too_many talk t.got rest fin room t.written fits too_many_commands at (begun_at too_many_commands at)
        at.because.0 at.because.1 at.because.2)

    ends_long : asked_next talk t ≡ line_too_long → Comes (record { ending = ending.LineTooLong; written = t.written })
    ends_long e =
        let at = place_of line_too_long e in
        by_rest _ (too_long talk t.got rest fin room t.written fits line_too_long at (begun_at line_too_long at)
        at.because.0 at.because.1 at.because.2 at.because.3)

    -- how it ends where a read or a send ends it
    ends_read : (e : Ending) → asked_next talk t ≡ recv → flat_map bytes_got before ≡ inbound →
        ending_at_final fin ≡ Some e → Comes (record { ending = e; written = t.written })
    ends_read e is none ends =
        let at = place_of recv is in
        let all_came : inbound ≡ t.got ++ [] = sym none ∙ sym keeps.got ∙ sym (append-nil t.got) in
        ap (λ (x : List ℕ). conversed talk x fin room) all_came
        ∙ at_end talk t.got [] fin room t.written fits recv at (begun_at recv at) e refl ends at.because.0
        at.because.1 at.because.2 at.because.3 at.because.4

    ends_send : (piece : List ℕ) → asked_next talk t ≡ send piece →
        room ≡ Some (length (flat_map bytes_taken before)) →
        Comes (record { ending = ending.Io; written = t.written })
    ends_send piece is full =
        let at = place_of (send piece) is in
        by_rest _ (at_full talk t.got rest fin room t.written fits (send piece) at (begun_at (send piece) at)
        (full ∙ ap (λ (x : List ℕ). Some (length x)) (sym keeps.taken)) at.because.0)

  -- ---- one event more

  gained : (f : Event → List ℕ) (before : List Event) (e : Event) (bytes : List ℕ) → f e ≡ bytes →
      flat_map f before ++ bytes ≡ flat_map f (before ++ (e ∷ []))
  gained f before e bytes is =
      ap (λ (x : List ℕ). flat_map f before ++ x) (sym is ∙ sym (append-nil (f e)))
      ∙ sym (flat_map-append f before (e ∷ []))

  unmoved : (f : Event → List ℕ) (before : List Event) (e : Event) → f e ≡ [] →
      flat_map f before ≡ flat_map f (before ++ (e ∷ []))
  unmoved f before e is = sym (append-nil (flat_map f before)) ∙ gained f before e [] is

  -- a pause moves no bytes
  keeps_paused : (t : Talked) (before : List Event) (e : Event) (d : Option Dir) → bytes_got e ≡ [] →
      bytes_taken e ≡ [] → Keeps t before → Keeps (record t { paused = d }) (before ++ (e ∷ []))
  keeps_paused t before e d none nothing keeps = record {
    got = keeps.got ∙ unmoved bytes_got before e none;
    taken = keeps.taken ∙ unmoved bytes_taken before e nothing;
    count = keeps.count;
    within = keeps.within;
    passed = keeps.passed;
    begun = keeps.begun;
  }

  keeps_got : (t : Talked) (before : List Event) (wire size : ℕ) (bytes : List ℕ) → Keeps t before →
      Keeps (record t { got = t.got ++ bytes; paused = None })
      (before ++ (event.Recv wire size (recv_answer.Got bytes) ∷ []))
  keeps_got t before wire size bytes keeps =
      let e = event.Recv wire size (recv_answer.Got bytes) in
      record {
        got = ap (λ (x : List ℕ). x ++ bytes) keeps.got ∙ gained bytes_got before e bytes refl;
        taken = keeps.taken ∙ unmoved bytes_taken before e refl;
        count = keeps.count;
        within = omega (arith, keeps.within, more_lines t.got bytes);
        passed = passed-more talk t.got bytes (length t.written) keeps.count keeps.within keeps.passed;
        begun = subst (λ (ls : List (List ℕ)). IsFront t.written (concat (talk ls).pieces))
            (sym (lines_first keeps.count t.got bytes keeps.within)) keeps.begun;
      }

  keeps_sent : (t : Talked) (before events : List Event) → all ≡ before ++ events → (keeps : Keeps t before) →
      (wire n : ℕ) (piece offered : List ℕ) → asked_next talk t ≡ send piece → offered ≡ piece →
      Keeps (record t { written = t.written ++ take n piece; paused = None })
      (before ++ (event.Send wire offered (send_answer.Took n) ∷ []))
  keeps_sent t before events whole keeps wire n piece offered is same =
      let e = event.Send wire offered (send_answer.Took n) in
      let at = place_of t before events whole keeps (send piece) is in
      let pieces = (talk (take at.count (lines t.got).whole)).pieces in
      record {
        got = keeps.got ∙ unmoved bytes_got before e refl;
        taken = ap (λ (x : List ℕ). x ++ take n piece) keeps.taken
            ∙ gained bytes_taken before e (take n piece) (ap (take n) same);
        count = at.count;
        within = at.came;
        passed = passed-later talk t.got (length t.written) (length (t.written ++ take n piece)) at.count
            (omega (arith, length-append t.written (take n piece))) at.passed;
        begun = front_more t.written (concat pieces) piece n
            (begun_at t before events whole keeps (send piece) at)
            (subst (λ (x : List ℕ). IsFront x (drop (length t.written) (concat pieces))) (sym at.because.1)
            (rest_is_front pieces (length t.written)));
      }

  -- ---- the end

  over_so : (o : Outcome) (events : List Event) → goes_through (Some (in_course (over o))) events ≡ Some end →
      Some o ≡ Some came
  over_so o [] e = ap (option_and_then (outcome_of late)) e ∙ comes
  over_so o (first ∷ events) e = absurd (after_none events end e)

  no_pause : (l : Bool) → pause_ends l ≡ came.ending → ⊥
  no_pause true e = in_time (sym e)
  no_pause false e = waits (sym e)

  pauses : (t : Talked) (d : Option Dir) →
      option_map (λ dir. concluded talk t (pause_ends late)) d ≡ Some came → ⊥
  pauses t None e = cc
  pauses t (Some dir) e =
      let same : concluded talk t (pause_ends late) ≡ came = cc in
      no_pause late (ap (λ (o : Outcome). o.ending) same)

  rests_so : (t : Talked) (before : List Event) → all ≡ before ++ [] → Keeps t before → (a : Ask) →
      asked_next talk t ≡ a → rests late talk t a ≡ Some came → Goal
  rests_so t before whole keeps (opens guid flag) is e =
      ends_open t before [] whole keeps guid flag is ∙ ap (option_map conversed_of) e
  rests_so t before whole keeps handshake is e = ends_refused t before [] whole keeps is ∙ ap (option_map conversed_of) e
  rests_so t before whole keeps too_many_commands is e =
      ends_many t before [] whole keeps is ∙ ap (option_map conversed_of) e
  rests_so t before whole keeps line_too_long is e =
      ends_long t before [] whole keeps is ∙ ap (option_map conversed_of) e
  rests_so t before whole keeps recv is e = absurd (pauses t t.paused e)
  rests_so t before whole keeps (send piece) is e = absurd (pauses t t.paused e)

  -- ---- the events, one after the other

  abbrev Next : List Event → Type 0
  Next events = (before : List Event) (t : Talked) → all ≡ before ++ events → Keeps t before →
      goes_through (Some (in_course (converses talk t))) events ≡ Some end → Goal

  one_more : (before : List Event) (e : Event) (events : List Event) → all ≡ before ++ (e ∷ events) →
      all ≡ (before ++ (e ∷ [])) ++ events
  one_more before e events whole = whole ∙ sym (append_assoc before (e ∷ []) events)

  abbrev Then : Option Progress → List Event → Type 0
  Then progress events = goes_through (option_map (λ q. in_course q) progress) events ≡ Some end

  module _ (t : Talked) (before events : List Event) (others : Next events) (keeps : Keeps t before) where
    recv_so : (wire size : ℕ) (answer : RecvAnswer) → all ≡ before ++ (event.Recv wire size answer ∷ events) →
        asked_next talk t ≡ recv → Then (after_recv talk t answer) events → Goal
    recv_so wire size (recv_answer.Got bytes) whole is e = got (nat_le 1 (length bytes) && nat_le (length bytes) 1024) e
      where
        got : (b : Bool) → Then (cond b (Some (converses talk (record t { got = t.got ++ bytes; paused = None }))) None)
            events → Goal
        got true e = others _ _ (one_more before _ events whole) (keeps_got t before wire size bytes keeps) e
        got false e = absurd (after_none events end e)
    recv_so wire size recv_answer.End whole is e =
        let ends = draws.ends before events wire size whole in
        ends_read t before _ whole keeps ending.Handshake is ends.0 (rw ends.1 refl)
        ∙ ap (option_map conversed_of) (over_so _ events e)
    recv_so wire size recv_answer.NotReady whole is e =
        others _ _ (one_more before _ events whole) (keeps_paused t before _ _ refl refl keeps) e
    recv_so wire size recv_answer.Failed whole is e =
        let fails = draws.fails before events wire size whole in
        ends_read t before _ whole keeps ending.Io is fails.0 (rw fails.1 refl)
        ∙ ap (option_map conversed_of) (over_so _ events e)

    send_so : (wire : ℕ) (piece offered : List ℕ) (answer : SendAnswer) →
        all ≡ before ++ (event.Send wire offered answer ∷ events) → asked_next talk t ≡ send piece → offered ≡ piece →
        Then (after_send talk t piece answer) events → Goal
    send_so wire piece offered (send_answer.Took n) whole is same e =
        took (nat_le 1 n && nat_le n (length piece)) e
      where
        took : (b : Bool) → Then (cond b (Some (converses talk (record t {
          written = t.written ++ take n piece;
          paused = None;
        }))) None) events → Goal
        took true e =
            others _ _ (one_more before _ events whole) (keeps_sent t before _ whole keeps wire n piece offered is same) e
        took false e = absurd (after_none events end e)
    send_so wire piece offered send_answer.NotReady whole is same e =
        others _ _ (one_more before _ events whole) (keeps_paused t before _ _ refl refl keeps) e
    send_so wire piece offered send_answer.Failed whole is same e =
        ends_send t before _ whole keeps piece is (draws.full before events wire offered whole)
        ∙ ap (option_map conversed_of) (over_so _ events e)

    sized : (b : Bool) (wire size : ℕ) (answer : RecvAnswer) → all ≡ before ++ (event.Recv wire size answer ∷ events) →
        asked_next talk t ≡ recv → Then (cond b (after_recv talk t answer) None) events → Goal
    sized true wire size answer whole is e = recv_so wire size answer whole is e
    sized false wire size answer whole is e = absurd (after_none events end e)

    offers : (b : Bool) (wire : ℕ) (piece offered : List ℕ) (answer : SendAnswer) → bytes_eq offered piece ≡ b →
        all ≡ before ++ (event.Send wire offered answer ∷ events) → asked_next talk t ≡ send piece →
        Then (cond b (after_send talk t piece answer) None) events → Goal
    offers true wire piece offered answer same whole is e =
        send_so wire piece offered answer whole is ((bytes_eq-Decides offered piece).0 same) e
    offers false wire piece offered answer same whole is e = absurd (after_none events end e)

    event_so : (a : Ask) (e : Event) → all ≡ before ++ (e ∷ events) → asked_next talk t ≡ a →
        Then (after_asked talk t a e) events → Goal
    event_so recv (event.Recv wire size answer) whole is e = sized (eqb size 1024) wire size answer whole is e
    event_so (send piece) (event.Send wire offered answer) whole is e =
        offers (bytes_eq offered piece) wire piece offered answer refl whole is e
    event_so a first whole is e = absurd (after_none events end e)

  converses_so : (events : List Event) → Next events
  converses_so [] before t whole keeps e =
      rests_so t before whole keeps (asked_next talk t) refl (ap (option_and_then (outcome_of late)) e ∙ comes)
  converses_so (first ∷ events) before t whole keeps e =
      event_so t before events (converses_so events) keeps (asked_next talk t) first whole refl e

  -- the same from its beginning, behind events that moved no bytes
  pub begins_so : (before events : List Event) → all ≡ before ++ events → flat_map bytes_got before ≡ [] →
      flat_map bytes_taken before ≡ [] → goes_through (Some (in_course (converses talk silence))) events ≡ Some end →
      Goal
  begins_so before events whole none nothing e =
      converses_so events before silence whole
      (record {
        got = sym none;
        taken = sym nothing;
        count = 0;
        within = omega arith;
        passed = λ i lt. absurd (omega (arith, lt));
        begun = (concat (talk []).pieces, refl);
      })
      e
