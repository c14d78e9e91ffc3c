-- A printed text is read back: its name, its keys and their values.
use Rattle.std.proofs.Common.{◌≡◌, ℕ, suc, ◌+◌, ◌<◌, Bool, true, false, cond, ◌&&◌, not, List, [], ◌∷◌, ◌++◌, length, map, take, drop, Some, refl, ap, ◌∙◌, arith}
use Rattle.std.specs.Prelude.{nat_lt, is_some, ◌==◌}
use Rattle.std.specs.List.{list_all, filter_map, slice_split, position_or_len, before_first, after_first, cons_option, onto_first}
use Rattle.std.specs.Char.{is_ascii_alphanumeric}
use Rattle.std.proofs.lemmas.Bool.Decides.{nat_tests}
use Rattle.bus_address.proofs.EntryLemmas.{parts_some}
use Rattle.bus_address.specs.Entries.{Entry, entry, entry_text, entries_text, entries, entries_of, is_key, transport_and_rest}
use Rattle.bus_address.proofs.Choices.{both, together, chosen}

-- the byte c is not in the text
abbrev pub lacks : ℕ → List ℕ → Bool
lacks c text = list_all (λ b. not (b == c)) text

eqb-same : (c : ℕ) → (c == c) ≡ true
eqb-same c = grind (arith, nat_tests)

cond_true : (b : Bool) (x y : ℕ) → b ≡ true → cond b x y ≡ x
cond_true true x y e = refl
cond_true false x y e = absurd cc

cond_false : (b : Bool) (x y : ℕ) → b ≡ false → cond b x y ≡ y
cond_false true x y e = absurd cc
cond_false false x y e = refl

position_first : (c : ℕ) (xs ys : List ℕ) → lacks c xs ≡ true → position_or_len (λ b. b == c) (xs ++ c ∷ ys) ≡ length xs
position_first c [] ys none = cond_false (not (c == c)) _ _ (ap not (eqb-same c))
position_first c (x ∷ xs) ys none =
    let parts = both (not (x == c)) (lacks c xs) none in
    cond_true (not (x == c)) _ _ parts.0 ∙ ap (λ n. 1 + n) (position_first c xs ys parts.1) ∙ omega arith

take_front : (xs ys : List ℕ) → take (length xs) (xs ++ ys) ≡ xs
take_front [] ys = refl
take_front (x ∷ xs) ys = ap (λ v. x ∷ v) (take_front xs ys)

drop_front : (xs : List ℕ) (c : ℕ) (ys : List ℕ) → drop (length xs + 1) (xs ++ c ∷ ys) ≡ ys
drop_front [] c ys = refl
drop_front (x ∷ xs) c ys =
    let e : length (x ∷ xs) + 1 ≡ suc (length xs + 1) = omega arith in
    ap (λ n. drop n (x ∷ (xs ++ c ∷ ys))) e ∙ drop_front xs c ys

before-cut : (c : ℕ) (xs ys : List ℕ) → lacks c xs ≡ true → before_first (λ b. b == c) (xs ++ c ∷ ys) ≡ xs
before-cut c xs ys none = ap (λ n. take n (xs ++ c ∷ ys)) (position_first c xs ys none) ∙ take_front xs (c ∷ ys)

after-cut : (c : ℕ) (xs ys : List ℕ) → lacks c xs ≡ true → after_first (λ b. b == c) (xs ++ c ∷ ys) ≡ ys
after-cut c xs ys none = ap (λ n. drop (n + 1) (xs ++ c ∷ ys)) (position_first c xs ys none) ∙ drop_front xs c ys

length_longer : (xs : List ℕ) (c : ℕ) (ys : List ℕ) → length xs < length (xs ++ c ∷ ys)
length_longer [] c ys = omega arith
length_longer (x ∷ xs) c ys = let h = length_longer xs c ys in omega arith

pub lt_true : (m n : ℕ) → m < n → nat_lt m n ≡ true
lt_true m n h = grind (arith, nat_tests)

-- the name of a text and what follows it
pub transport_and_rest-text : (name rest : List ℕ) → lacks 58 name ≡ true → 0 < length name → transport_and_rest (name ++ 58 ∷ rest) ≡ Some (name, rest)
transport_and_rest-text name rest none some =
    let at : position_or_len (λ b. b == 58) (name ++ 58 ∷ rest) < length (name ++ 58 ∷ rest) = rw (position_first 58 name rest none) (length_longer name 58 rest) in
    let long : 0 < length (before_first (λ b. b == 58) (name ++ 58 ∷ rest)) = rw (before-cut 58 name rest none) some in
    chosen _ _ _ (together _ _ (lt_true _ _ at) (lt_true _ _ long))
    ∙ (λ i. Some (before-cut 58 name rest none i, after-cut 58 name rest none i))

key_byte : (b : ℕ) → is_ascii_alphanumeric b ≡ true → not (b == 61) ≡ true
key_byte b h = grind (arith, nat_tests)

key_byte' : (b : ℕ) → is_ascii_alphanumeric b ≡ true → not (b == 44) ≡ true
key_byte' b h = grind (arith, nat_tests)

key_lacks : (key : List ℕ) → list_all is_ascii_alphanumeric key ≡ true → (lacks 61 key ≡ true) × (lacks 44 key ≡ true)
key_lacks [] h = (refl, refl)
key_lacks (b ∷ bs) h =
    let parts = both (is_ascii_alphanumeric b) (list_all is_ascii_alphanumeric bs) h in
    let rest = key_lacks bs parts.1 in
    (together _ _ (key_byte b parts.0) rest.0, together _ _ (key_byte' b parts.0) rest.1)

-- a key with a value that can be read
abbrev pub is_whole : Entry → Bool
is_whole e = is_key e.0 && (nat_lt 0 (length e.1) && lacks 44 e.1)

entry-text : (e : Entry) → is_whole e ≡ true → entry (entry_text e) ≡ Some e
entry-text e h =
    let parts = both (is_key e.0) _ h in
    let value = both (nat_lt 0 (length e.1)) _ parts.1 in
    let none = (key_lacks e.0 (both (nat_lt 0 (length e.0)) _ parts.0).1).0 in
    let key : is_key (before_first (λ b. b == 61) (entry_text e)) ≡ true = rw (before-cut 61 e.0 e.1 none) parts.0 in
    let some : nat_lt 0 (length (after_first (λ b. b == 61) (entry_text e))) ≡ true = rw (after-cut 61 e.0 e.1 none) value.0 in
    chosen _ _ _ (together _ _ key some)
    ∙ (λ i. Some (before-cut 61 e.0 e.1 none i, after-cut 61 e.0 e.1 none i))

pub lacks-append : (c : ℕ) (xs ys : List ℕ) → lacks c xs ≡ true → lacks c ys ≡ true → lacks c (xs ++ ys) ≡ true
lacks-append c [] ys none others = others
lacks-append c (x ∷ xs) ys none others =
    let parts = both (not (x == c)) (lacks c xs) none in
    together _ _ parts.0 (lacks-append c xs ys parts.1 others)

pub nonempty-append : (xs ys : List ℕ) → 0 < length xs → 0 < length (xs ++ ys)
nonempty-append [] ys some = absurd (omega arith)
nonempty-append (x ∷ xs) ys some = omega arith

not_true : (b : Bool) → not b ≡ true → b ≡ false
not_true true h = absurd cc
not_true false h = refl

cond_list : {X : Type 0} (b : Bool) (x y : X) → b ≡ false → cond b x y ≡ y
cond_list true x y e = absurd cc
cond_list false x y e = refl

cond_first : {X : Type 0} (b : Bool) (x y : X) → b ≡ true → cond b x y ≡ x
cond_first true x y e = refl
cond_first false x y e = absurd cc

split_none : (c : ℕ) (xs : List ℕ) → lacks c xs ≡ true → slice_split (λ b. b == c) xs ≡ xs ∷ []
split_none c [] none = refl
split_none c (x ∷ xs) none =
    let parts = both (not (x == c)) (lacks c xs) none in
    cond_list (x == c) _ _ (not_true (x == c) parts.0) ∙ ap (onto_first x) (split_none c xs parts.1)

split_cut : (c : ℕ) (xs ys : List ℕ) → lacks c xs ≡ true → slice_split (λ b. b == c) (xs ++ c ∷ ys) ≡ xs ∷ slice_split (λ b. b == c) ys
split_cut c [] ys none = cond_first (c == c) _ _ (eqb-same c)
split_cut c (x ∷ xs) ys none =
    let parts = both (not (x == c)) (lacks c xs) none in
    cond_list (x == c) _ _ (not_true (x == c) parts.0) ∙ ap (onto_first x) (split_cut c xs ys parts.1)

entry_lacks : (e : Entry) → is_whole e ≡ true → lacks 44 (entry_text e) ≡ true
entry_lacks e h =
    let parts = both (is_key e.0) _ h in
    let value = both (nat_lt 0 (length e.1)) _ parts.1 in
    lacks-append 44 e.0 (61 ∷ e.1) (key_lacks e.0 (both (nat_lt 0 (length e.0)) _ parts.0).1).1 value.1

split_entries : (e : Entry) (es : List Entry) → list_all is_whole (e ∷ es) ≡ true → slice_split (λ b. b == 44) (entries_text (e ∷ es)) ≡ map entry_text (e ∷ es)
split_entries e [] h = split_none 44 (entry_text e) (entry_lacks e (both (is_whole e) true h).0)
split_entries e (f ∷ es) h =
    let parts = both (is_whole e) (list_all is_whole (f ∷ es)) h in
    split_cut 44 (entry_text e) (entries_text (f ∷ es)) (entry_lacks e parts.0) ∙ ap (λ ts. entry_text e ∷ ts) (split_entries f es parts.1)

from_lt : (n : ℕ) → nat_lt 0 n ≡ true → 0 < n
from_lt n h = grind (arith, nat_tests)

pub entry_nonempty : (e : Entry) → is_whole e ≡ true → 0 < length (entry_text e)
entry_nonempty e h = nonempty-append e.0 (61 ∷ e.1) (from_lt _ (both (nat_lt 0 (length e.0)) _ (both (is_key e.0) _ h).0).0)

entries_nonempty : (e : Entry) (es : List Entry) → is_whole e ≡ true → 0 < length (entries_text (e ∷ es))
entries_nonempty e [] h = entry_nonempty e h
entries_nonempty e (f ∷ es) h = nonempty-append (entry_text e) (44 ∷ entries_text (f ∷ es)) (entry_nonempty e h)

all_read : (es : List Entry) → list_all is_whole es ≡ true → (list_all (λ text. is_some (entry text)) (map entry_text es) ≡ true) × (filter_map entry (map entry_text es) ≡ es)
all_read [] h = (refl, refl)
all_read (e ∷ es) h =
    let parts = both (is_whole e) (list_all is_whole es) h in
    let rest = all_read es parts.1 in
    let first = entry-text e parts.0 in
    (together _ _ (ap is_some first) rest.0, (λ i. cons_option (first i) (rest.1 i)))

-- keys with their values are read back from their text
pub entries-text : (es : List Entry) → list_all is_whole es ≡ true → entries (entries_text es) ≡ Some es
entries-text [] h = refl
entries-text (e ∷ es) h =
    let read = all_read (e ∷ es) h in
    ap entries_of (parts_some (entries_text (e ∷ es)) (entries_nonempty e es (both (is_whole e) (list_all is_whole es) h).0) ∙ split_entries e es h)
    ∙ chosen _ _ _ read.0 ∙ ap Some read.1
