-- The script of a bulk run: so many sessions, of which the kinds take turns, one round, and the answers of the outside.
use Rattle.std.specs.Prelude.{ℕ, List, [], ◌∷◌, ◌++◌, map, Some, None, codes}
use Rattle.std.specs.List.{flat_map, range_with_len}
use Rattle.std.specs.Fmt.{decimal}
use Rattle.bus_script.specs.Script.{Script}
use Rattle.bus_script.specs.Printed.{line_text}
use Rattle.bus_script.specs.declared.line.Answer.TheVariants as answers
use Rattle.bus_bulk.specs.declared.kind.Kind.{Kind}
use Rattle.bus_bulk.specs.declared.kind.Kind.TheVariants as kinds
use Rattle.bus_bulk.specs.Kinds.{kind_of, session_of, session_words}
use Rattle.bus_bulk.specs.Replies.{replies_to, answer_of, reply_words}

-- the numbers of so many sessions
abbrev pub numbers : ℕ → List ℕ
numbers n = range_with_len 0 n

-- the clock is read once by a session that has a deadline, before it sleeps
abbrev pub readings_by : Kind → List ℕ
readings_by kinds.Unanswered = 0 ∷ []
readings_by _ = []

-- those of so many sessions
unfoldable pub session_readings : ℕ → List ℕ
session_readings n = flat_map (λ i. readings_by (kind_of i)) (numbers n)

-- the clock's readings, in nanoseconds: those of the sessions, one before the wait, and one behind it, by which every
-- deadline is reached
unfoldable pub readings : ℕ → List ℕ
readings n = session_readings n ++ 0 ∷ 100 ∷ []

-- the script of so many sessions
unfoldable pub bulk : ℕ → Script
bulk n = record {
  rounds = Some 1;
  start = None;
  sessions = map (λ i. session_of (kind_of i)) (numbers n);
  answers = flat_map (λ i. map (answer_of i) (replies_to (kind_of i))) (numbers n) ++ map answers.Now (readings n);
}

-- a line for each session, by its words
unfoldable pub session_lines : ℕ → List (List (List ℕ))
session_lines n = map (λ i. session_words (kind_of i)) (numbers n)

-- a line for each reply, session by session
unfoldable pub reply_lines : ℕ → List (List (List ℕ))
reply_lines n = flat_map (λ i. map (reply_words i) (replies_to (kind_of i))) (numbers n)

-- the line of a reading
abbrev pub reading_words : ℕ → List (List ℕ)
reading_words moment = codes "now" ∷ decimal moment ∷ []

-- a line for each reading
unfoldable pub reading_lines : ℕ → List (List (List ℕ))
reading_lines n = map reading_words (readings n)

-- all lines of the script
unfoldable pub bulk_lines : ℕ → List (List (List ℕ))
bulk_lines n = (codes "rounds" ∷ codes "1" ∷ []) ∷ (session_lines n ++ reply_lines n ++ reading_lines n)

-- the text of the script
unfoldable pub bulk_text : ℕ → List ℕ
bulk_text n = flat_map line_text (bulk_lines n)
