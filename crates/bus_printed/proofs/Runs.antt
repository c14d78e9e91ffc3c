-- The text of a run names its endings and its record.
use Rattle.std.proofs.Common.{◌≡◌, ℕ, ◌<◌, ◌≤◌, true, not, List, [], ◌∷◌, ◌++◌, map, length, Option, Some, None, refl}
use Rattle.std.proofs.Common.{sym, ◌∙◌, ap, arith, append_assoc, nat_lt, ◌==◌}
use Rattle.std.specs.List.{list_all, All, flat_map, filter_map}
use Rattle.std.specs.Result.{result_ok}
use Rattle.std.proofs.lemmas.Bool.{and_parts}
use Rattle.std.proofs.lemmas.List.{append-nil}
use Rattle.std.proofs.lemmas.List.Elements.{All-head, All-tail, filter_map-append}
use Rattle.react_core.specs.declared.outside.Event.{Event}
use Rattle.react_core.specs.declared.outside.Event.TheVariants as told
use Rattle.bus_session.specs.declared.ended.Ended.{Ended}
use Rattle.bus_script.specs.Words.{words_of}
use Rattle.bus_script.specs.Script.{lines_in}
use Rattle.bus_script.specs.Printed.{words_text, line_text, event_words, ended_words, event_lines, printed}
use Rattle.bus_printed.specs.Names.{Names}
use Rattle.bus_printed.specs.Fits.{FitsEvent, FitsEnded, Fits}
use Rattle.bus_printed.proofs.Cuts.{lacks, weaker, all_both, parts_front, parts_joined}
use Rattle.bus_printed.proofs.Rereads.{graphic}
use Rattle.bus_printed.proofs.Readers.{event_with, event_of, ended_of}
use Rattle.bus_printed.proofs.EventLines.{event_read, graphic_event}
use Rattle.bus_printed.proofs.SessionLines.{ended_read, graphic_ended}

-- ---- lines, cut into words

above : (c x : ℕ) → c ≤ 32 → nat_lt 32 x ≡ true → not (x == c) ≡ true
above c x low h = grind arith

graphic_lacks : (c : ℕ) (word : List ℕ) → c ≤ 32 → graphic word ≡ true → lacks c word ≡ true
graphic_lacks c word low h = weaker (λ x. nat_lt 32 x) (λ x. not (x == c)) (λ x. above c x low) word h

all_lack : (c : ℕ) (ws : List (List ℕ)) → c ≤ 32 → list_all graphic ws ≡ true → list_all (lacks c) ws ≡ true
all_lack c ws low h = weaker graphic (lacks c) (λ w. graphic_lacks c w low) ws h

no_feed : (ws : List (List ℕ)) → list_all graphic ws ≡ true → lacks 10 (words_text ws) ≡ true
no_feed [] h = refl
no_feed (w ∷ []) h = graphic_lacks 10 w (omega arith) (and_parts (graphic w) true h).0
no_feed (w ∷ v ∷ ws) h =
    let p = and_parts (graphic w) (list_all graphic (v ∷ ws)) h in
    all_both (λ x. not (x == 10)) w (32 ∷ words_text (v ∷ ws)) (graphic_lacks 10 w (omega arith) p.0)
    (no_feed (v ∷ ws) p.1)

cut_words : (ws : List (List ℕ)) → 0 < length ws → list_all graphic ws ≡ true → words_of (words_text ws) ≡ ws
cut_words [] some h = absurd (omega arith)
cut_words (w ∷ ws) some h =
    let p = and_parts (graphic w) (list_all graphic ws) h in
    parts_joined 32 w ws (graphic_lacks 32 w (omega arith) p.0) (all_lack 32 ws (omega arith) p.1)

-- the words of each line of a text
abbrev words_in : List ℕ → List (List (List ℕ))
words_in text = map words_of (lines_in text)

cut_line : (ws : List (List ℕ)) (rest : List ℕ) → 0 < length ws → list_all graphic ws ≡ true →
    words_in (words_text ws ++ 10 ∷ rest) ≡ ws ∷ words_in rest
cut_line ws rest some h =
    ap (λ lines. map words_of lines) (parts_front 10 (words_text ws) rest (no_feed ws h))
    ∙ ap (λ line. line ∷ words_in rest) (cut_words ws some h)

regroup : (a b rest : List ℕ) → ((a ++ 10 ∷ []) ++ b) ++ rest ≡ a ++ 10 ∷ (b ++ rest)
regroup a b rest = append_assoc (a ++ 10 ∷ []) b rest ∙ append_assoc a (10 ∷ []) (b ++ rest)

-- the lines of values that fit
module _ {A : Type 0} (P : A → Type 0) (f : A → List (List ℕ)) (some : (x : A) → 0 < length (f x)) (plain : (x : A) →
    P x → list_all graphic (f x) ≡ true) where
  cut_lines : (xs : List A) (rest : List ℕ) → All P xs →
      words_in (flat_map (λ x. line_text (f x)) xs ++ rest) ≡ map f xs ++ words_in rest
  cut_lines [] rest h = refl
  cut_lines (x ∷ xs) rest h =
      ap words_in (regroup (words_text (f x)) (flat_map (λ y. line_text (f y)) xs) rest)
      ∙ cut_line (f x) (flat_map (λ y. line_text (f y)) xs ++ rest) (some x) (plain x (All-head P x xs h))
      ∙ ap (λ lines. f x ∷ lines) (cut_lines xs rest (All-tail P x xs h))

some_event : (e : Event) → 0 < length (event_words e)
unfolding event_words
some_event (told.Dial wire question answer) = omega arith
some_event (told.Recv wire asked answer) = omega arith
some_event (told.Send wire offered answer) = omega arith
some_event (told.Close wire) = omega arith
some_event (told.Now moment) = omega arith
some_event (told.Add wire key ok) = omega arith
some_event (told.Modify wire key read write ok) = omega arith
some_event (told.Delete wire key ok) = omega arith
some_event (told.Notify ok) = omega arith
some_event (told.Wait timeout answer) = omega arith

some_ended : (e : Ended) → 0 < length (ended_words e)
some_ended e = omega arith

printed_words : (endeds : List Ended) (events : List Event) → Fits endeds events →
    words_in (printed endeds events) ≡ map ended_words endeds ++ (map event_words events ++ ([] ∷ []) ∷ [])
printed_words endeds events h =
    cut_lines FitsEnded ended_words some_ended graphic_ended endeds (event_lines events) h.each_ending
    ∙ ap (λ lines. map ended_words endeds ++ lines) (ap words_in (sym (append-nil (event_lines events)))
    ∙ cut_lines FitsEvent event_words some_event graphic_event events [] h.each_event)

-- ---- what the lines say

abbrev ended_in : List (List ℕ) → Option Ended
ended_in words = result_ok (ended_of words)

abbrev event_in : List (List ℕ) → Option Event
event_in words = result_ok (event_of words)

all_kept : {A : Type 0} (P : A → Type 0) (f : A → List (List ℕ)) (read : List (List ℕ) → Option A) →
    ((x : A) → P x → read (f x) ≡ Some x) → (xs : List A) → All P xs → filter_map read (map f xs) ≡ xs
all_kept P f read each [] h = refl
all_kept P f read each (x ∷ xs) h =
    rw (each x (All-head P x xs h)) (ap (λ ys. x ∷ ys) (all_kept P f read each xs (All-tail P x xs h)))

none_kept : {A B : Type 0} (f : A → List (List ℕ)) (read : List (List ℕ) → Option B) →
    ((x : A) → read (f x) ≡ None) → (xs : List A) → filter_map read (map f xs) ≡ []
none_kept f read each [] = refl
none_kept f read each (x ∷ xs) = rw (each x) (none_kept f read each xs)

no_session : (e : Event) → ended_in (event_words e) ≡ None
unfolding event_words ended_of
no_session (told.Dial wire question answer) = refl
no_session (told.Recv wire asked answer) = refl
no_session (told.Send wire offered answer) = refl
no_session (told.Close wire) = refl
no_session (told.Now moment) = refl
no_session (told.Add wire key ok) = refl
no_session (told.Modify wire key read write ok) = refl
no_session (told.Delete wire key ok) = refl
no_session (told.Notify ok) = refl
no_session (told.Wait timeout answer) = refl

no_event : (e : Ended) → event_in (ended_words e) ≡ None
unfolding event_of event_with
no_event e = refl

last_session : filter_map ended_in (([] ∷ []) ∷ []) ≡ []
unfolding ended_of
last_session = refl

last_event : filter_map event_in (([] ∷ []) ∷ []) ≡ []
unfolding event_of event_with
last_event = refl

-- the endings and the record that a text tells
abbrev endings_in : List ℕ → List Ended
endings_in text = filter_map ended_in (words_in text)

abbrev record_in : List ℕ → List Event
record_in text = filter_map event_in (words_in text)

endings_back : (endeds : List Ended) (events : List Event) → Fits endeds events →
    endings_in (printed endeds events) ≡ endeds
endings_back endeds events h =
    ap (λ lines. filter_map ended_in lines) (printed_words endeds events h)
    ∙ filter_map-append ended_in (map ended_words endeds) (map event_words events ++ ([] ∷ []) ∷ [])
    ∙ rw (
      all_kept FitsEnded ended_words ended_in (λ e k. ap result_ok (ended_read e k)) endeds h.each_ending,
      filter_map-append ended_in (map event_words events) (([] ∷ []) ∷ []),
      none_kept event_words ended_in no_session events,
      last_session,
    ) (append-nil endeds)

record_back : (endeds : List Ended) (events : List Event) → Fits endeds events →
    record_in (printed endeds events) ≡ events
record_back endeds events h =
    ap (λ lines. filter_map event_in lines) (printed_words endeds events h)
    ∙ filter_map-append event_in (map ended_words endeds) (map event_words events ++ ([] ∷ []) ∷ [])
    ∙ rw (
      none_kept ended_words event_in no_event endeds,
      filter_map-append event_in (map event_words events) (([] ∷ []) ∷ []),
      all_kept FitsEvent event_words event_in (λ e k. ap result_ok (event_read e k)) events h.each_event,
      last_event,
    ) (append-nil events)

pub one_run : (endeds endeds' : List Ended) (events events' : List Event) → Fits endeds events → Fits endeds' events' →
    printed endeds events ≡ printed endeds' events' → (endeds ≡ endeds') × (events ≡ events')
one_run endeds endeds' events events' h h' same = (
  sym (endings_back endeds events h) ∙ ap endings_in same ∙ endings_back endeds' events' h',
  sym (record_back endeds events h) ∙ ap record_in same ∙ record_back endeds' events' h',
)

-- what fits is named by its text alone
pub named : (endeds : List Ended) (events : List Event) → Fits endeds events → Names (printed endeds events) endeds events
named endeds events fit =
    record { fits = fit; alone = λ endeds' events' fit' same. one_run endeds' endeds events' events fit' fit same }
