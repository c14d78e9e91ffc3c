-- A text made of lines of words, and what it says as a script.
use Rattle.std.proofs.Common.{◌≡◌, ℕ, zero, suc, ◌+◌, ◌<◌, ◌≤◌, Bool, true, false, not, List, [], ◌∷◌, ◌++◌, map}
use Rattle.std.proofs.Common.{Result, Ok, refl, sym, ◌∙◌, subst, ap, arith, append_assoc, nat_lt, ◌==◌, ◌&&◌}
use Rattle.std.proofs.Common.{length, slice_index}
use Rattle.std.specs.List.{list_all, flat_map}
use Rattle.std.specs.Option.{is_none}
use Rattle.std.specs.Str.{IsUtf8}
use Rattle.std.proofs.Math.Numerals.{add-one}
use Rattle.std.proofs.lemmas.Bool.{and_parts, and_from, ltb-true}
use Rattle.std.proofs.lemmas.List.{map-append}
use Rattle.std.proofs.lemmas.Str.{IsUtf8-from_ascii}
use Rattle.bus_script.specs.Words.{◌>>=◌, words_of}
use Rattle.bus_script.specs.Forms.{line_of}
use Rattle.bus_script.specs.Printed.{words_text, line_text}
use Rattle.bus_script.specs.Script.{Script, add, empty, is_allowed, is_skipped, read_line, read_lines, at_line}
use Rattle.bus_script.specs.Script.{lines_in, script, whole}
use Rattle.bus_script.specs.declared.line.Line.{Line}
use Rattle.bus_script.specs.declared.line.Reason.{Reason}
use Rattle.bus_script.specs.declared.reading.ScriptForm.TheVariants as forms
use Rattle.bus_script.proofs.Lines.{step_ok, script_ok}
use Rattle.bus_script.proofs.Shape.{bind_ok}
use Rattle.bus_printed.proofs.Cuts.{lacks, weaker, all_both, parts_front, parts_joined}
use Rattle.bus_bulk.specs.Bulk.{numbers}
use Rattle.bus_bulk.proofs.Growing.{flat_map_numbers}

-- ---- lines of words

-- a byte of ASCII that is neither a space nor a line feed
abbrev pub is_plain : ℕ → Bool
is_plain c = nat_lt 32 c && nat_lt c 128

abbrev pub plain_word : List ℕ → Bool
plain_word word = list_all is_plain word

-- the line has words, and is no remark
abbrev pub begins : List (List ℕ) → Bool
begins [] = false
begins ([] ∷ words) = false
begins ((c ∷ cs) ∷ words) = not (c == 35)

-- the words say this line, also after they were joined and cut
pub record SpellsLine (words : List (List ℕ)) (line : Line) : Type 0 where
  pub plain : list_all plain_word words ≡ true
  pub begun : begins words ≡ true
  pub says : line_of words ≡ Ok line

-- line by line
abbrev pub Spells : List (List (List ℕ)) → List Line → Type 0
Spells [] [] = Unit {0}
Spells [] (line ∷ said) = ⊥
Spells (words ∷ texts) [] = ⊥
Spells (words ∷ texts) (line ∷ said) = SpellsLine words line × Spells texts said

pub spells_both : (texts more : List (List (List ℕ))) (said rest : List Line) → Spells texts said → Spells more rest →
    Spells (texts ++ more) (said ++ rest)
spells_both [] more [] rest h k = k
spells_both [] more (line ∷ said) rest h k = absurd h
spells_both (words ∷ texts) more [] rest h k = absurd h
spells_both (words ∷ texts) more (line ∷ said) rest h k = (h.0, spells_both texts more said rest h.1 k)

pub spells_each : {X Y : Type 0} (f : X → List (List ℕ)) (g : X → Y) (line : Y → Line) →
    ((x : X) → SpellsLine (f x) (line (g x))) → (xs : List X) → Spells (map f xs) (map line (map g xs))
spells_each f g line each [] = tt
spells_each f g line each (x ∷ xs) = (each x, spells_each f g line each xs)

spells_same : (texts texts' : List (List (List ℕ))) (said said' : List Line) → texts' ≡ texts → said' ≡ said →
    Spells texts said → Spells texts' said'
spells_same texts texts' said said' e e' h =
    subst (λ v. Spells v said') (sym e) (subst (λ v. Spells texts v) (sym e') h)

pub one_more : {A : Type 0} (f : ℕ → List A) (n : ℕ) → flat_map f (numbers (suc n)) ≡ flat_map f (numbers n) ++ f n
one_more f n = ap (λ v. flat_map f (numbers v)) (sym (add-one n)) ∙ flat_map_numbers f n

pub spells_numbers : {Y : Type 0} (f : ℕ → List (List (List ℕ))) (g : ℕ → List Y) (line : Y → Line) (n : ℕ) →
    ((i : ℕ) → i < n → Spells (f i) (map line (g i))) →
    Spells (flat_map f (numbers n)) (map line (flat_map g (numbers n)))
spells_numbers f g line zero each = tt
spells_numbers f g line (suc n) each =
    spells_same (flat_map f (numbers n) ++ f n) (flat_map f (numbers (suc n)))
    (map line (flat_map g (numbers n)) ++ map line (g n)) (map line (flat_map g (numbers (suc n)))) (one_more f n)
    (ap (map line) (one_more g n) ∙ map-append line (flat_map g (numbers n)) (g n))
    (spells_both (flat_map f (numbers n)) (f n) (map line (flat_map g (numbers n))) (map line (g n))
    (spells_numbers f g line n (λ i h. each i (omega arith))) (each n (omega arith)))

-- ---- the bytes of a text

words_pass : (p : ℕ → Bool) → p 32 ≡ true → (ws : List (List ℕ)) → list_all (list_all p) ws ≡ true →
    list_all p (words_text ws) ≡ true
words_pass p space [] h = refl
words_pass p space (w ∷ []) h = (and_parts (list_all p w) true h).0
words_pass p space (w ∷ v ∷ ws) h =
    let parts = and_parts (list_all p w) (list_all (list_all p) (v ∷ ws)) h in
    all_both p w (32 ∷ words_text (v ∷ ws)) parts.0
    (and_from (p 32) (list_all p (words_text (v ∷ ws))) space (words_pass p space (v ∷ ws) parts.1))

each_word : (p : ℕ → Bool) → ((c : ℕ) → is_plain c ≡ true → p c ≡ true) → (ws : List (List ℕ)) →
    list_all plain_word ws ≡ true → list_all (list_all p) ws ≡ true
each_word p f ws h = weaker plain_word (list_all p) (λ w. weaker is_plain p f w) ws h

above : (c x : ℕ) → c ≤ 32 → nat_lt 32 x ≡ true → not (x == c) ≡ true
above c x low h = grind arith

plain_above : (c : ℕ) → c ≤ 32 → (x : ℕ) → is_plain x ≡ true → not (x == c) ≡ true
plain_above c low x h = above c x low (and_parts (nat_lt 32 x) (nat_lt x 128) h).0

plain_below : (x : ℕ) → is_plain x ≡ true → nat_lt x 128 ≡ true
plain_below x h = (and_parts (nat_lt 32 x) (nat_lt x 128) h).1

no_feed : (ws : List (List ℕ)) → list_all plain_word ws ≡ true → lacks 10 (words_text ws) ≡ true
no_feed ws h =
    words_pass (λ x. not (x == 10)) refl ws (each_word (λ x. not (x == 10)) (plain_above 10 (omega arith)) ws h)

cut_words : (ws : List (List ℕ)) → begins ws ≡ true → list_all plain_word ws ≡ true → words_of (words_text ws) ≡ ws
cut_words [] b h = absurd (cc)
cut_words (w ∷ ws) b h =
    let apart = each_word (λ x. not (x == 32)) (plain_above 32 (omega arith)) (w ∷ ws) h in
    let parts = and_parts (lacks 32 w) (list_all (lacks 32) ws) apart in
    parts_joined 32 w ws parts.0 parts.1

seven_bits : (ws : List (List ℕ)) → list_all plain_word ws ≡ true → list_all (λ c. nat_lt c 128) (line_text ws) ≡ true
seven_bits ws h =
    all_both (λ c. nat_lt c 128) (words_text ws) (10 ∷ [])
    (words_pass (λ c. nat_lt c 128) refl ws (each_word (λ c. nat_lt c 128) plain_below ws h)) refl

all_seven_bits : (texts : List (List (List ℕ))) (said : List Line) → Spells texts said →
    list_all (λ c. nat_lt c 128) (flat_map line_text texts) ≡ true
all_seven_bits [] said h = refl
all_seven_bits (words ∷ texts) [] h = absurd h
all_seven_bits (words ∷ texts) (line ∷ said) h =
    all_both (λ c. nat_lt c 128) (line_text words) (flat_map line_text texts) (seven_bits words h.0.plain)
    (all_seven_bits texts said h.1)

-- what is below the limit everywhere is so at each index, beyond the end too
pub below_limit : (limit : ℕ) → 0 < limit → (xs : List ℕ) → list_all (λ x. nat_lt x limit) xs ≡ true → (i : ℕ) →
    slice_index xs i < limit
below_limit limit some [] h i = omega arith
below_limit limit some (x ∷ xs) h zero =
    ltb-true x limit (and_parts (nat_lt x limit) (list_all (λ y. nat_lt y limit) xs) h).0
below_limit limit some (x ∷ xs) h (suc i) =
    below_limit limit some xs (and_parts (nat_lt x limit) (list_all (λ y. nat_lt y limit) xs) h).1 i

is_text : (texts : List (List (List ℕ))) (said : List Line) → Spells texts said → IsUtf8 (flat_map line_text texts)
is_text texts said h =
    let bytes = flat_map line_text texts in
    IsUtf8-from_ascii bytes (below_limit 128 (omega arith) bytes (all_seven_bits texts said h))

-- ---- a text, cut into its lines

text_lines : (texts : List (List (List ℕ))) (said : List Line) → Spells texts said →
    lines_in (flat_map line_text texts) ≡ map words_text texts ++ ([] ∷ [])
text_lines [] said h = refl
text_lines (words ∷ texts) [] h = absurd h
text_lines (words ∷ texts) (line ∷ said) h =
    let rest = flat_map line_text texts in
    ap lines_in (append_assoc (words_text words) (10 ∷ []) rest)
    ∙ (parts_front 10 (words_text words) rest (no_feed words h.0.plain)
    ∙ ap (λ v. words_text words ∷ v) (text_lines texts said h.1))

-- ---- what the lines say

some_left : (n : ℕ) → (suc n == 0) ≡ false
some_left n = grind arith

other_byte : (c : ℕ) → not (c == 35) ≡ true → (35 == c) ≡ false
other_byte c h = grind arith

stands : (c : ℕ) (rest : List ℕ) → not (c == 35) ≡ true → is_skipped (c ∷ rest) ≡ false
stands c rest h = rw (some_left (length rest), other_byte c h) refl

not_skipped : (ws : List (List ℕ)) → begins ws ≡ true → is_skipped (words_text ws) ≡ false
not_skipped [] h = absurd (cc)
not_skipped ([] ∷ ws) h = absurd (cc)
not_skipped ((c ∷ cs) ∷ []) h = stands c cs h
not_skipped ((c ∷ cs) ∷ w ∷ ws) h = stands c (cs ++ 32 ∷ words_text (w ∷ ws)) h

read_one : (s : Script) (words : List (List ℕ)) (line : Line) → SpellsLine words line →
    read_line forms.Play s (words_text words) ≡ add s line
unfolding read_line is_allowed
read_one s words line h = rw (not_skipped words h.begun, cut_words words h.begun h.plain, h.says) refl

-- the script with these lines behind it
abbrev pub added : Script → List Line → Result Script Reason
added s [] = Ok s
added s (line ∷ said) = add s line >>= λ s'. added s' said

all_read : (n : ℕ) (s s' : Script) (texts : List (List (List ℕ))) (said : List Line) → Spells texts said →
    added s said ≡ Ok s' → read_lines forms.Play n s (map words_text texts ++ ([] ∷ [])) ≡ Ok s'
unfolding read_lines read_line
all_read n s s' [] [] h k = let same : s ≡ s' = cc in ap (λ v. Ok v) same
all_read n s s' [] (line ∷ said) h k = absurd h
all_read n s s' (words ∷ texts) [] h k = absurd h
all_read n s s' (words ∷ texts) (line ∷ said) h k =
    let first = bind_ok (add s line) (λ v. added v said) s' k in
    let read = read_one s words line h.0 ∙ first.1 in
    step_ok forms.Play n s first.0 (words_text words) (map words_text texts ++ ([] ∷ []))
    (words_text words ∷ (map words_text texts ++ ([] ∷ []))) refl (ap (at_line n) read)
    ∙ all_read (n + 1) first.0 s' texts said h.1 first.2

-- ---- the script

kept : (s : Script) → is_none s.rounds ≡ false → whole s ≡ Ok s
kept s rounds = rw rounds refl

-- a text that is short enough says the script that its lines make
pub text_says : (texts : List (List (List ℕ))) (said : List Line) (s : Script) → Spells texts said →
    added empty said ≡ Ok s → length (flat_map line_text texts) ≤ 16777216 → is_none s.rounds ≡ false →
    script forms.Play (flat_map line_text texts) ≡ Ok s
text_says texts said s h k short rounds =
    script_ok forms.Play (flat_map line_text texts) s short (is_text texts said h)
    (ap (read_lines forms.Play 1 empty) (text_lines texts said h) ∙ all_read 1 empty s texts said h k)
    ∙ kept s rounds
