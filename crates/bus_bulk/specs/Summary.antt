-- The line that sums a bulk run up.
use Rattle.std.specs.Prelude.{ℕ, Bool, true, false, List, [], ◌∷◌, length, count_by, sum_by, codes}
use Rattle.std.specs.Fmt.{decimal}
use Rattle.bus_session.specs.declared.ended.Ending.{Ending}
use Rattle.bus_session.specs.declared.ended.Ending.TheVariants as endings
use Rattle.bus_session.specs.declared.ended.Ended.{Ended}
use Rattle.bus_script.specs.Printed.{line_text}

abbrev pub is_open : Ending → Bool
is_open (endings.Open guid passes) = true
is_open _ = false

abbrev pub is_connection : Ending → Bool
is_connection endings.Connection = true
is_connection _ = false

abbrev pub is_handshake : Ending → Bool
is_handshake endings.Handshake = true
is_handshake _ = false

abbrev pub is_timed_out : Ending → Bool
is_timed_out endings.TimedOut = true
is_timed_out _ = false

-- so many sessions ended so
abbrev pub ended_so : (Ending → Bool) → List Ended → ℕ
ended_so is endeds = count_by (λ e. is e.ending) endeds

-- so many bytes were written in all
abbrev pub written_by : List Ended → ℕ
written_by endeds = sum_by (λ e. length e.written) endeds

-- the count of the sessions, then that of each ending, then the bytes
unfoldable pub summary_words : ℕ → List Ended → List (List ℕ)
summary_words n endeds =
    codes "bulk" ∷ decimal n ∷ codes "open" ∷ decimal (ended_so is_open endeds) ∷ codes "connection"
    ∷ decimal (ended_so is_connection endeds) ∷ codes "handshake" ∷ decimal (ended_so is_handshake endeds)
    ∷ codes "timed-out" ∷ decimal (ended_so is_timed_out endeds) ∷ codes "written" ∷ decimal (written_by endeds) ∷ []

-- the line
abbrev pub summary_text : ℕ → List Ended → List ℕ
summary_text n endeds = line_text (summary_words n endeds)
