-- What the words of each line of a bulk run say.
use Rattle.std.proofs.Common.{◌≡◌, ℕ, ◌^◌, ◌<◌, Bool, true, false, List, [], ◌∷◌, ◌++◌, map}
use Rattle.std.proofs.Common.{Ok, refl, sym, subst, arith, nat_lt, codes}
use Rattle.std.specs.List.{list_all, flat_map}
use Rattle.std.specs.Char.{is_ascii_digit}
use Rattle.std.specs.Fmt.{decimal}
use Rattle.std.proofs.lemmas.Bool.{and_parts}
use Rattle.std.proofs.lemmas.List.{map-append}
use Rattle.hex.specs.Hex.{IsBytes, encode_lower}
use Rattle.react_core.specs.declared.outside.RecvAnswer.TheVariants as recvs
use Rattle.bus_address.specs.Guid.{is_lower_hexdigit}
use Rattle.bus_script.specs.Forms.{line_with, rounds_line, client_line, server_line, dial_line, dial_answer, dial_words}
use Rattle.bus_script.specs.Forms.{recv_line, recv_answer, now_line}
use Rattle.bus_script.specs.declared.line.Answer.TheVariants as answers
use Rattle.bus_script.specs.declared.line.Line.TheVariants as lines
use Rattle.bus_printed.proofs.Cuts.{weaker, all_both}
use Rattle.bus_printed.proofs.Rereads.{decimal_passes, hex_digits, number_read, bytes_read, not_one}
use Rattle.bus_bulk.specs.declared.kind.Kind.{Kind}
use Rattle.bus_bulk.specs.declared.kind.Kind.TheVariants as kinds
use Rattle.bus_bulk.specs.Kinds.{kind_of, session_of, session_words}
use Rattle.bus_bulk.specs.Replies.{Reply, opens, refuses, gives, ends, acceptance, client_lines, replies_to, answer_of}
use Rattle.bus_bulk.specs.Replies.{reply_words}
use Rattle.bus_bulk.specs.Bulk.{numbers, readings_by, session_readings, readings, bulk, session_lines, reply_lines}
use Rattle.bus_bulk.specs.Bulk.{reading_words, reading_lines}
use Rattle.bus_bulk.proofs.Growing.{one_text, hundred_text, thousand_text}
use Rattle.bus_bulk.proofs.Spelled.{is_plain, plain_word, SpellsLine, Spells, spells_both, spells_each, spells_numbers}
use Rattle.bus_bulk.proofs.Spelled.{below_limit}
use Rattle.bus_bulk.proofs.Added.{all_numbers}

-- ---- words

digit_plain : (c : ℕ) → is_ascii_digit c ≡ true → is_plain c ≡ true
digit_plain c h = grind arith

hex_plain : (c : ℕ) → is_lower_hexdigit c ≡ true → is_plain c ≡ true
hex_plain c h = grind arith

plain_decimal : (n : ℕ) → n < 2 ^ 64 → plain_word (decimal n) ≡ true
plain_decimal n small = decimal_passes is_plain digit_plain n small

plain_hex : (bs : List ℕ) → IsBytes bs → plain_word (encode_lower bs) ≡ true
plain_hex bs h = weaker is_lower_hexdigit is_plain hex_plain (encode_lower bs) (hex_digits bs h)

-- ---- the rounds, and the sessions

pub rounds_spelled : SpellsLine (codes "rounds" ∷ codes "1" ∷ []) (lines.Rounds 1)
unfolding line_with rounds_line
rounds_spelled = record { plain = refl; begun = refl; says = rw one_text refl }

session_says : (kind : Kind) → SpellsLine (session_words kind) (lines.Session (session_of kind))
unfolding session_words session_of line_with client_line server_line
session_says kinds.Accepted = record { plain = refl; begun = refl; says = rw thousand_text refl }
session_says kinds.AcceptedByBytes = record { plain = refl; begun = refl; says = rw thousand_text refl }
session_says kinds.Serving = record { plain = refl; begun = refl; says = rw thousand_text refl }
session_says kinds.Refused = record { plain = refl; begun = refl; says = rw thousand_text refl }
session_says kinds.CutOff = record { plain = refl; begun = refl; says = rw thousand_text refl }
session_says kinds.Unanswered =
    record { plain = rw hundred_text refl; begun = refl; says = rw (hundred_text, thousand_text, hundred_text) refl }

pub sessions_spelled : (n : ℕ) → Spells (session_lines n) (map lines.Session (bulk n).sessions)
unfolding session_lines bulk
sessions_spelled n =
    spells_each (λ i. session_words (kind_of i)) (λ i. session_of (kind_of i)) lines.Session
    (λ i. session_says (kind_of i)) (numbers n)

-- ---- the replies

-- some bytes, each of them a byte
abbrev fits : Reply → Bool
fits (gives []) = false
fits (gives (b ∷ bs)) = list_all (λ x. nat_lt x 256) (b ∷ bs)
fits _ = true

got_read : (b : ℕ) (bs : List ℕ) → IsBytes (b ∷ bs) →
    recv_answer (codes "bytes" ∷ encode_lower (b ∷ bs) ∷ []) ≡ Ok (recvs.Got (b ∷ bs))
unfolding recv_answer
got_read b bs h = rw (bytes_read (b ∷ bs) h, not_one b 46 bs) refl

end_read : recv_answer (codes "end" ∷ []) ≡ Ok recvs.End
unfolding recv_answer
end_read = refl

reply_says : (i : ℕ) → i < 2 ^ 32 → (r : Reply) → fits r ≡ true →
    SpellsLine (reply_words i r) (lines.Answer (answer_of i r))
unfolding reply_words answer_of line_with dial_line dial_answer dial_words recv_line
reply_says i small opens h = record {
  plain = rw (plain_decimal i (omega arith)) refl;
  begun = refl;
  says = rw (number_read (2 ^ 32) i small (omega arith)) refl;
}
reply_says i small refuses h = record {
  plain = rw (plain_decimal i (omega arith)) refl;
  begun = refl;
  says = rw (number_read (2 ^ 32) i small (omega arith)) refl;
}
reply_says i small (gives []) h = absurd (cc)
reply_says i small (gives (b ∷ bs)) h =
    let bytes : IsBytes (b ∷ bs) = below_limit 256 (omega arith) (b ∷ bs) h in record {
      plain = rw (plain_decimal i (omega arith), plain_hex (b ∷ bs) bytes) refl;
      begun = refl;
      says = rw (number_read (2 ^ 32) i small (omega arith), got_read b bs bytes) refl;
    }
reply_says i small ends h = record {
  plain = rw (plain_decimal i (omega arith)) refl;
  begun = refl;
  says = rw (number_read (2 ^ 32) i small (omega arith), end_read) refl;
}

replies_say : (i : ℕ) → i < 2 ^ 32 → (rs : List Reply) → list_all fits rs ≡ true →
    Spells (map (reply_words i) rs) (map lines.Answer (map (answer_of i) rs))
replies_say i small [] h = tt
replies_say i small (r ∷ rs) h =
    let parts = and_parts (fits r) (list_all fits rs) h in
    (reply_says i small r parts.0, replies_say i small rs parts.1)

all_fit : (kind : Kind) → list_all fits (replies_to kind) ≡ true
unfolding replies_to acceptance client_lines
all_fit kinds.Accepted = refl
all_fit kinds.AcceptedByBytes = refl
all_fit kinds.Serving = refl
all_fit kinds.Refused = refl
all_fit kinds.CutOff = refl
all_fit kinds.Unanswered = refl

replies_spelled : (n : ℕ) → n < 2 ^ 32 → Spells (reply_lines n)
    (map lines.Answer (flat_map (λ i. map (answer_of i) (replies_to (kind_of i))) (numbers n)))
unfolding reply_lines
replies_spelled n small =
    spells_numbers (λ i. map (reply_words i) (replies_to (kind_of i)))
    (λ i. map (answer_of i) (replies_to (kind_of i))) lines.Answer n
    (λ i h. replies_say i (omega arith) (replies_to (kind_of i)) (all_fit (kind_of i)))

-- ---- the readings

reading_says : (t : ℕ) → t < 2 ^ 64 → SpellsLine (reading_words t) (lines.Answer (answers.Now t))
unfolding line_with now_line
reading_says t small = record {
  plain = rw (plain_decimal t small) refl;
  begun = refl;
  says = rw (number_read (2 ^ 64) t small (omega arith)) refl;
}

below_wide : (t : ℕ) → nat_lt t 101 ≡ true → t < 2 ^ 64
below_wide t h = grind arith

readings_say : (ts : List ℕ) → list_all (λ t. nat_lt t 101) ts ≡ true →
    Spells (map reading_words ts) (map lines.Answer (map answers.Now ts))
readings_say [] h = tt
readings_say (t ∷ ts) h =
    let parts = and_parts (nat_lt t 101) (list_all (λ t. nat_lt t 101) ts) h in
    (reading_says t (below_wide t parts.0), readings_say ts parts.1)

few : (kind : Kind) → list_all (λ t. nat_lt t 101) (readings_by kind) ≡ true
few kinds.Accepted = refl
few kinds.AcceptedByBytes = refl
few kinds.Serving = refl
few kinds.Refused = refl
few kinds.CutOff = refl
few kinds.Unanswered = refl

readings_spelled : (n : ℕ) → Spells (reading_lines n) (map lines.Answer (map answers.Now (readings n)))
unfolding reading_lines readings session_readings
readings_spelled n =
    readings_say (readings n) (all_both (λ t. nat_lt t 101) (session_readings n) (0 ∷ 100 ∷ [])
    (all_numbers (λ t. nat_lt t 101) (λ i. readings_by (kind_of i)) n (λ i h. few (kind_of i))) refl)

-- ---- all lines

-- the answers: those of the wires, then the readings
pub answers_spelled : (n : ℕ) → n < 2 ^ 32 →
    Spells (reply_lines n ++ reading_lines n) (map lines.Answer (bulk n).answers)
unfolding bulk
answers_spelled n small =
    let wires = flat_map (λ i. map (answer_of i) (replies_to (kind_of i))) (numbers n) in
    let clock = map answers.Now (readings n) in
    subst (Spells (reply_lines n ++ reading_lines n)) (sym (map-append lines.Answer wires clock))
    (spells_both (reply_lines n) (reading_lines n) (map lines.Answer wires) (map lines.Answer clock)
    (replies_spelled n small) (readings_spelled n))
