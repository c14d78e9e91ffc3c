-- The text of one session more.
use Rattle.std.proofs.Common.{◌≡◌, ℕ, ◌+◌, List, [], ◌∷◌, ◌++◌, map, refl, sym, ◌∙◌, ap, arith, append_assoc, codes}
use Rattle.std.specs.List.{flat_map}
use Rattle.std.specs.Fmt.{decimal, digits}
use Rattle.std.proofs.lemmas.Grind.{flat_map-append}
use Rattle.std.proofs.lemmas.List.{append-nil, map-append}
use Rattle.std.proofs.lemmas.List.FromFn.{map-range_with_len_more}
use Rattle.bus_script.specs.Printed.{line_text}
use Rattle.bus_bulk.specs.declared.kind.Kind.TheVariants as kinds
use Rattle.bus_bulk.specs.Kinds.{kind_of, session_words}
use Rattle.bus_bulk.specs.Replies.{Reply, gives, replies_to, reply_words}
use Rattle.bus_bulk.specs.Bulk.{numbers, readings_by, session_readings, readings, session_lines, reply_lines}
use Rattle.bus_bulk.specs.Bulk.{reading_words, reading_lines, bulk_lines, bulk_text}

-- ---- numbers as they are written

pub zero_text : decimal 0 ≡ codes "0"
unfolding digits
zero_text = refl

pub one_text : decimal 1 ≡ codes "1"
unfolding digits
one_text = refl

pub hundred_text : decimal 100 ≡ codes "100"
unfolding digits
hundred_text = refl

pub thousand_text : decimal 1000 ≡ codes "1000"
unfolding digits
thousand_text = refl

pub unanswered_line : codes "client EXTERNAL 1000 - n 100 unix:path=/run/a\n"
    ≡ line_text (session_words kinds.Unanswered)
unfolding session_words
unanswered_line = rw hundred_text refl

-- ---- one number more

same_list : (n : ℕ) → map (λ i. i) (numbers n) ≡ numbers n
same_list n = all (numbers n)
  where
    all : (xs : List ℕ) → map (λ i. i) xs ≡ xs
    all [] = refl
    all (x ∷ xs) = ap (λ v. x ∷ v) (all xs)

pub numbers_more : (n : ℕ) → numbers (n + 1) ≡ numbers n ++ n ∷ []
numbers_more n =
    sym (same_list (n + 1)) ∙ (map-range_with_len_more (λ i. i) 0 n n (omega arith)
    ∙ ap (λ v. v ++ n ∷ []) (same_list n))

pub flat_map_numbers : {A : Type 0} (f : ℕ → List A) (n : ℕ) →
    flat_map f (numbers (n + 1)) ≡ flat_map f (numbers n) ++ f n
flat_map_numbers f n =
    ap (flat_map f) (numbers_more n) ∙ (flat_map-append f (numbers n) (n ∷ [])
    ∙ ap (λ v. flat_map f (numbers n) ++ v) (append-nil (f n)))

more : {A B : Type 0} (f : A → List B) (xs ys zs : List A) → xs ≡ ys ++ zs →
    flat_map f xs ≡ flat_map f ys ++ flat_map f zs
more f xs ys zs e = ap (flat_map f) e ∙ flat_map-append f ys zs

-- ---- the lines of one session more

-- a text that gained one piece more
step : (base text new piece before after : List ℕ) → text ≡ base ++ before → new ≡ text ++ piece →
    after ≡ before ++ piece → new ≡ base ++ after
step base text new piece before after was gained more =
    gained ∙ (ap (λ v. v ++ piece) was ∙ (append_assoc base before piece ∙ ap (λ v. base ++ v) (sym more)))

pub sessions_begin : (base : List ℕ) → base ≡ base ++ flat_map line_text (session_lines 0)
unfolding session_lines
sessions_begin base = sym (append-nil base)

pub session_more : (n : ℕ) → flat_map line_text (session_lines (n + 1)) ≡ flat_map line_text (session_lines n)
    ++ line_text (session_words (kind_of n))
unfolding session_lines
session_more n =
    more line_text (session_lines (n + 1)) (session_lines n) (session_words (kind_of n) ∷ [])
    (map-range_with_len_more (λ i. session_words (kind_of i)) 0 n n (omega arith))
    ∙ ap (λ v. flat_map line_text (session_lines n) ++ v) (append-nil (line_text (session_words (kind_of n))))

pub sessions_on : (base text new : List ℕ) (n : ℕ) → text ≡ base ++ flat_map line_text (session_lines n) →
    new ≡ text ++ line_text (session_words (kind_of n)) → new ≡ base ++ flat_map line_text (session_lines (n + 1))
sessions_on base text new n was gained = step base text new (line_text (session_words (kind_of n)))
    (flat_map line_text (session_lines n)) (flat_map line_text (session_lines (n + 1))) was gained (session_more n)

pub replies_begin : (base : List ℕ) → base ≡ base ++ flat_map line_text (reply_lines 0)
unfolding reply_lines
replies_begin base = sym (append-nil base)

pub replies_more : (n : ℕ) → flat_map line_text (reply_lines (n + 1)) ≡ flat_map line_text (reply_lines n)
    ++ flat_map line_text (map (reply_words n) (replies_to (kind_of n)))
unfolding reply_lines
replies_more n =
    more line_text (reply_lines (n + 1)) (reply_lines n) (map (reply_words n) (replies_to (kind_of n)))
    (flat_map_numbers (λ i. map (reply_words i) (replies_to (kind_of i))) n)

pub replies_on : (base text new : List ℕ) (n : ℕ) → text ≡ base ++ flat_map line_text (reply_lines n) →
    new ≡ text ++ flat_map line_text (map (reply_words n) (replies_to (kind_of n))) →
    new ≡ base ++ flat_map line_text (reply_lines (n + 1))
replies_on base text new n was gained =
    step base text new (flat_map line_text (map (reply_words n) (replies_to (kind_of n))))
    (flat_map line_text (reply_lines n)) (flat_map line_text (reply_lines (n + 1))) was gained (replies_more n)

pub readings_begin : (base : List ℕ) → base ≡ base ++ flat_map line_text (map reading_words (session_readings 0))
unfolding session_readings
readings_begin base = sym (append-nil base)

pub readings_more : (n : ℕ) → flat_map line_text (map reading_words (session_readings (n + 1)))
    ≡ flat_map line_text (map reading_words (session_readings n))
    ++ flat_map line_text (map reading_words (readings_by (kind_of n)))
unfolding session_readings
readings_more n =
    more line_text (map reading_words (session_readings (n + 1))) (map reading_words (session_readings n))
    (map reading_words (readings_by (kind_of n)))
    (ap (map reading_words) (flat_map_numbers (λ i. readings_by (kind_of i)) n)
    ∙ map-append reading_words (session_readings n) (readings_by (kind_of n)))

pub readings_on : (base text new : List ℕ) (n : ℕ) →
    text ≡ base ++ flat_map line_text (map reading_words (session_readings n)) →
    new ≡ text ++ flat_map line_text (map reading_words (readings_by (kind_of n))) →
    new ≡ base ++ flat_map line_text (map reading_words (session_readings (n + 1)))
readings_on base text new n was gained =
    step base text new (flat_map line_text (map reading_words (readings_by (kind_of n))))
    (flat_map line_text (map reading_words (session_readings n)))
    (flat_map line_text (map reading_words (session_readings (n + 1)))) was gained (readings_more n)

pub first_reading : flat_map line_text (map reading_words (readings_by kinds.Unanswered)) ≡ codes "now 0\n"
first_reading = rw zero_text refl

pub last_readings : flat_map line_text (map reading_words (0 ∷ 100 ∷ [])) ≡ codes "now 0\nnow 100\n"
last_readings = rw (zero_text, hundred_text) refl

pub readings_whole : (n : ℕ) → flat_map line_text (reading_lines n)
    ≡ flat_map line_text (map reading_words (session_readings n)) ++ flat_map line_text
    (map reading_words (0 ∷ 100 ∷ []))
unfolding reading_lines readings
readings_whole n =
    more line_text (reading_lines n) (map reading_words (session_readings n)) (map reading_words (0 ∷ 100 ∷ []))
    (map-append reading_words (session_readings n) (0 ∷ 100 ∷ []))

pub all_readings : (base text new : List ℕ) (n : ℕ) →
    text ≡ base ++ flat_map line_text (map reading_words (session_readings n)) →
    new ≡ text ++ flat_map line_text (map reading_words (0 ∷ 100 ∷ [])) →
    new ≡ base ++ flat_map line_text (reading_lines n)
all_readings base text new n was gained =
    step base text new (flat_map line_text (map reading_words (0 ∷ 100 ∷ [])))
    (flat_map line_text (map reading_words (session_readings n))) (flat_map line_text (reading_lines n)) was gained
    (readings_whole n)

-- ---- the lines of what is done to one session

pub one_reply : (base new : List ℕ) (i : ℕ) (r : Reply) → new ≡ base ++ line_text (reply_words i r) →
    new ≡ base ++ flat_map line_text (map (reply_words i) (r ∷ []))
one_reply base new i r gained = gained ∙ ap (λ v. base ++ v) (sym (append-nil (line_text (reply_words i r))))

pub two_replies : (base mid new : List ℕ) (i : ℕ) (r s : Reply) → mid ≡ base ++ line_text (reply_words i r) →
    new ≡ mid ++ line_text (reply_words i s) → new ≡ base ++ flat_map line_text (map (reply_words i) (r ∷ s ∷ []))
two_replies base mid new i r s first second =
    step base mid new (line_text (reply_words i s)) (line_text (reply_words i r))
    (flat_map line_text (map (reply_words i) (r ∷ s ∷ []))) first second
    (ap (λ v. line_text (reply_words i r) ++ v) (append-nil (line_text (reply_words i s))))

pub three_replies : (base one two new : List ℕ) (i : ℕ) (r s t : Reply) → one ≡ base ++ line_text (reply_words i r) →
    two ≡ one ++ line_text (reply_words i s) → new ≡ two ++ line_text (reply_words i t) →
    new ≡ base ++ flat_map line_text (map (reply_words i) (r ∷ s ∷ t ∷ []))
three_replies base one two new i r s t first second third =
    step base one new (line_text (reply_words i s) ++ line_text (reply_words i t)) (line_text (reply_words i r))
    (flat_map line_text (map (reply_words i) (r ∷ s ∷ t ∷ []))) first
    (third ∙ (ap (λ v. v ++ line_text (reply_words i t)) second
    ∙ append_assoc one (line_text (reply_words i s)) (line_text (reply_words i t))))
    (ap (λ v. line_text (reply_words i r) ++ (line_text (reply_words i s) ++ v))
    (append-nil (line_text (reply_words i t))))

each_byte : (i : ℕ) (bytes : List ℕ) → map (reply_words i) (map (λ byte. gives (byte ∷ [])) bytes)
    ≡ map (λ byte. reply_words i (gives (byte ∷ []))) bytes
each_byte i [] = refl
each_byte i (b ∷ bytes) = ap (λ v. reply_words i (gives (b ∷ [])) ∷ v) (each_byte i bytes)

pub byte_replies : (base mid new : List ℕ) (i : ℕ) (r : Reply) (bytes : List ℕ) →
    mid ≡ base ++ line_text (reply_words i r) →
    new ≡ mid ++ flat_map line_text (map (λ byte. reply_words i (gives (byte ∷ []))) bytes) →
    new ≡ base ++ flat_map line_text (map (reply_words i) (r ∷ map (λ byte. gives (byte ∷ [])) bytes))
byte_replies base mid new i r bytes first rest =
    step base mid new (flat_map line_text (map (λ byte. reply_words i (gives (byte ∷ []))) bytes))
    (line_text (reply_words i r)) (flat_map line_text (map (reply_words i) (r ∷ map (λ byte. gives (byte ∷ [])) bytes)))
    first rest (ap (λ v. line_text (reply_words i r) ++ flat_map line_text v) (each_byte i bytes))

-- the lines of a kind, by their number
pub ruleset reply_counts = (one_reply, two_replies, three_replies, byte_replies)

-- ---- the whole text

pub whole_text : (head sessions replies all : List ℕ) (n : ℕ) → head ≡ codes "rounds 1\n" →
    sessions ≡ head ++ flat_map line_text (session_lines n) →
    replies ≡ sessions ++ flat_map line_text (reply_lines n) →
    all ≡ replies ++ flat_map line_text (reading_lines n) → all ≡ bulk_text n
unfolding bulk_text bulk_lines
whole_text head sessions replies all n begins first second third =
    let parts = flat_map-append line_text (session_lines n ++ reply_lines n) (reading_lines n) in
    let front = flat_map-append line_text (session_lines n) (reply_lines n) in
    third ∙ (ap (λ v. v ++ flat_map line_text (reading_lines n)) (second
    ∙ (ap (λ v. v ++ flat_map line_text (reply_lines n))
    (first ∙ ap (λ v. v ++ flat_map line_text (session_lines n)) begins)
    ∙ append_assoc (codes "rounds 1\n") (flat_map line_text (session_lines n)) (flat_map line_text (reply_lines n))))
    ∙ (append_assoc (codes "rounds 1\n") (flat_map line_text (session_lines n) ++ flat_map line_text (reply_lines n))
    (flat_map line_text (reading_lines n)) ∙ ap (λ v. codes "rounds 1\n" ++ v)
    (ap (λ v. v ++ flat_map line_text (reading_lines n)) (sym front) ∙ sym parts)))
