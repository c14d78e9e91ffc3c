-- How long the text of a bulk run is.
use Rattle.std.proofs.Common.{◌≡◌, ℕ, zero, suc, ◌+◌, ◌*◌, ◌<◌, ◌≤◌, List, [], ◌∷◌, ◌++◌, map, length, sym}
use Rattle.std.proofs.Common.{ap, arith, codes, length-append}
use Rattle.std.specs.List.{flat_map}
use Rattle.std.specs.Fmt.{decimal}
use Rattle.std.proofs.Math.Numerals.{add-one}
use Rattle.std.proofs.lemmas.Fmt.{length-decimal-le}
use Rattle.std.proofs.lemmas.Grind.{flat_map-append}
use Rattle.hex.specs.Hex.{encode_lower, lower_digits}
use Rattle.hex.proofs.HexLemmas.{length-encode_with}
use Rattle.bus_script.specs.Printed.{line_text}
use Rattle.bus_bulk.specs.declared.kind.Kind.{Kind}
use Rattle.bus_bulk.specs.declared.kind.Kind.TheVariants as kinds
use Rattle.bus_bulk.specs.Kinds.{kind_of, session_words}
use Rattle.bus_bulk.specs.Replies.{Reply, opens, refuses, gives, ends, acceptance, client_lines, replies_to}
use Rattle.bus_bulk.specs.Replies.{reply_words}
use Rattle.bus_bulk.specs.Bulk.{readings_by, session_readings, session_lines, reply_lines, reading_words, reading_lines}
use Rattle.bus_bulk.specs.Bulk.{bulk_lines}
use Rattle.bus_bulk.proofs.Growing.{unanswered_line, first_reading, last_readings, readings_whole, session_more}
use Rattle.bus_bulk.proofs.Growing.{replies_more, readings_more, sessions_begin, replies_begin, readings_begin}

-- ---- single lines

session_size : (kind : Kind) → length (line_text (session_words kind)) ≤ 60
unfolding session_words
session_size kinds.Accepted = omega arith
session_size kinds.AcceptedByBytes = omega arith
session_size kinds.Serving = omega arith
session_size kinds.Refused = omega arith
session_size kinds.CutOff = omega arith
session_size kinds.Unanswered = omega (arith, ap length (sym unanswered_line))

-- so many bytes are given
abbrev given : Reply → ℕ
given (gives bytes) = length bytes
given _ = 0

-- a word in the middle, another at the end, and the line feed
ended : (word rest : List ℕ) → length ((word ++ rest) ++ 10 ∷ []) ≡ length word + length rest + 1
ended word rest = omega (arith, length-append (word ++ rest) (10 ∷ []), length-append word rest)

reply_size : (i : ℕ) → i < 10000 → (r : Reply) → length (line_text (reply_words i r)) ≤ 17 + 2 * given r
unfolding reply_words
reply_size i small opens =
    let digits : length (decimal i) ≤ 4 = length-decimal-le 4 i (omega arith) (omega arith) (omega arith) in
    omega (arith, ended (decimal i) (codes " open n"))
reply_size i small refuses =
    let digits : length (decimal i) ≤ 4 = length-decimal-le 4 i (omega arith) (omega arith) (omega arith) in
    omega (arith, ended (decimal i) (codes " fault"))
reply_size i small (gives bytes) =
    let digits : length (decimal i) ≤ 4 = length-decimal-le 4 i (omega arith) (omega arith) (omega arith) in
    let pairs : length (encode_lower bytes) ≡ 2 * length bytes = length-encode_with lower_digits bytes in
    omega (arith, ended (decimal i) (codes " bytes " ++ encode_lower bytes))
reply_size i small ends =
    let digits : length (decimal i) ≤ 4 = length-decimal-le 4 i (omega arith) (omega arith) (omega arith) in
    omega (arith, ended (decimal i) (codes " end"))

abbrev room : List Reply → ℕ
room [] = 0
room (r ∷ rs) = 17 + 2 * given r + room rs

replies_size : (i : ℕ) → i < 10000 → (rs : List Reply) →
    length (flat_map line_text (map (reply_words i) rs)) ≤ room rs
replies_size i small [] = omega arith
replies_size i small (r ∷ rs) =
    omega (
      arith,
      length-append (line_text (reply_words i r)) (flat_map line_text (map (reply_words i) rs)),
      reply_size i small r,
      replies_size i small rs,
    )

kind_room : (kind : Kind) → room (replies_to kind) ≤ 720
unfolding replies_to acceptance client_lines
kind_room kinds.Accepted = omega arith
kind_room kinds.AcceptedByBytes = omega arith
kind_room kinds.Serving = omega arith
kind_room kinds.Refused = omega arith
kind_room kinds.CutOff = omega arith
kind_room kinds.Unanswered = omega arith

readings_size : (kind : Kind) → length (flat_map line_text (map reading_words (readings_by kind))) ≤ 6
readings_size kinds.Accepted = omega arith
readings_size kinds.AcceptedByBytes = omega arith
readings_size kinds.Serving = omega arith
readings_size kinds.Refused = omega arith
readings_size kinds.CutOff = omega arith
readings_size kinds.Unanswered = omega (arith, ap length first_reading)

-- ---- all of them

-- a text that grows by a piece with each session
grown : (text piece : ℕ → List ℕ) (most : ℕ) → text 0 ≡ [] → ((n : ℕ) → text (n + 1) ≡ text n ++ piece n) →
    ((i : ℕ) → i < 10000 → length (piece i) ≤ most) → (n : ℕ) → n ≤ 10000 → length (text n) ≤ n * most
grown text piece most begin step small zero h = omega (arith, ap length begin)
grown text piece most begin step small (suc n) h =
    omega (
      arith,
      ap (λ v. length (text v)) (sym (add-one n)),
      ap length (step n),
      length-append (text n) (piece n),
      small n (omega arith),
      grown text piece most begin step small n (omega arith),
    )

sessions_size : (n : ℕ) → n ≤ 10000 → length (flat_map line_text (session_lines n)) ≤ n * 60
sessions_size n h =
    grown (λ k. flat_map line_text (session_lines k)) (λ k. line_text (session_words (kind_of k))) 60
    (sym (sessions_begin [])) session_more (λ i small. session_size (kind_of i)) n h

all_replies_size : (n : ℕ) → n ≤ 10000 → length (flat_map line_text (reply_lines n)) ≤ n * 720
all_replies_size n h =
    grown (λ k. flat_map line_text (reply_lines k))
    (λ k. flat_map line_text (map (reply_words k) (replies_to (kind_of k)))) 720 (sym (replies_begin [])) replies_more
    (λ i small. omega (arith, replies_size i small (replies_to (kind_of i)), kind_room (kind_of i))) n h

all_readings_size : (n : ℕ) → n ≤ 10000 →
    length (flat_map line_text (map reading_words (session_readings n))) ≤ n * 6
all_readings_size n h =
    grown (λ k. flat_map line_text (map reading_words (session_readings k)))
    (λ k. flat_map line_text (map reading_words (readings_by (kind_of k)))) 6 (sym (readings_begin [])) readings_more
    (λ i small. readings_size (kind_of i)) n h

pub text_size : (n : ℕ) → n ≤ 10000 → length (flat_map line_text (bulk_lines n)) ≤ 16777216
unfolding bulk_lines
text_size n h =
    omega (
      arith,
      ap length (flat_map-append line_text (session_lines n ++ reply_lines n) (reading_lines n)),
      ap length (flat_map-append line_text (session_lines n) (reply_lines n)),
      length-append (flat_map line_text (session_lines n ++ reply_lines n)) (flat_map line_text (reading_lines n)),
      length-append (flat_map line_text (session_lines n)) (flat_map line_text (reply_lines n)),
      sessions_size n h,
      all_replies_size n h,
      all_readings_size n h,
      ap length (readings_whole n),
      length-append (flat_map line_text (map reading_words (session_readings n)))
          (flat_map line_text (map reading_words (0 ∷ 100 ∷ []))),
      ap length last_readings,
    )
