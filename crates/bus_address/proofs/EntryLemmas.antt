-- Keys and values that are read part by part.
use Rattle.std.proofs.Common.{◌≡◌, ℕ, zero, suc, ◌+◌, ◌<◌, ◌≤◌, Bool, true, false, cond, ◌&&◌}
use Rattle.std.proofs.Common.{List, [], ◌∷◌, ◌++◌, length, map, take, get_or, take_all}
use Rattle.std.proofs.Common.{add-one, Option, Some, None, Err, Bor, refl, sym, ap, ◌∙◌, arith}
use Rattle.std.specs.Prelude.{if◌then◌else◌, is_some, ◌==◌, ok_or, IsSomeAnd}
use Rattle.std.specs.Option.{option_copied, option_or}
use Rattle.std.specs.List.{list_all, filter_map, slice_split, cons_option}
use Rattle.std.specs.Str.{bytes_eq}
use Rattle.bus_address.specs.declared.error.AddressKind.TheVariants as kinds
use Rattle.bus_address.specs.Entries.{Entry, entry, parts, entries, entries_of, value_of}

pub parts_none : (text : List ℕ) → length text ≡ 0 → parts text ≡ []
parts_none [] none = refl
parts_none (b ∷ bs) none = absurd (omega arith)

pub parts_some : (text : List ℕ) → 0 < length text → parts text ≡ slice_split (λ b. b == 44) text
parts_some [] some = absurd (omega arith)
parts_some (b ∷ bs) some = refl

-- a look-up after one more key was set
pub copied_if : (b : Bool) (v : Bor (List ℕ)) (o : Option (Bor (List ℕ))) → option_copied (cond b (Some v) o) ≡ (if b then Some v.now else option_copied o)
copied_if true v o = refl
copied_if false v o = refl

or_chosen : (b : Bool) (v : List ℕ) (o d : Option (List ℕ)) → option_or (if b then Some v else o) d ≡ (if b then Some v else option_or o d)
or_chosen true v o d = refl
or_chosen false v o d = refl

-- the last of equal keys counts
pub value_of-push : (es : List Entry) (e : Entry) (key : List ℕ) → value_of (es ++ e ∷ []) key ≡ (if bytes_eq e.0 key then Some e.1 else value_of es key)
value_of-push [] e key = refl
value_of-push (d ∷ es) e key =
    ap (λ o. option_or o (if bytes_eq d.0 key then Some d.1 else None)) (value_of-push es e key)
    ∙ or_chosen (bytes_eq e.0 key) e.1 (value_of es key) (if bytes_eq d.0 key then Some d.1 else None)

-- texts that references lead to
abbrev pub texts : List (Bor (List ℕ)) → List (List ℕ)
texts refs = map (λ x. x.now) refs

abbrev pub is_entry : List ℕ → Bool
is_entry text = is_some (entry text)

and_more : (a b c : Bool) → (a && b) ≡ true → (b ≡ true → c ≡ true) → (a && c) ≡ true
and_more true b c h f = f h
and_more false b c h f = absurd cc

and_false : (a b : Bool) → b ≡ false → (a && b) ≡ false
and_false true b h = h
and_false false b h = refl

cons_option-push : (o : Option Entry) (es : List Entry) (e : Entry) → cons_option o (es ++ e ∷ []) ≡ cons_option o es ++ e ∷ []
cons_option-push None es e = refl
cons_option-push (Some x) es e = refl

pub formed_more : (refs : List (Bor (List ℕ))) (i : ℕ) (d : Bor (List ℕ)) (e : Entry) → i < length refs
    → entry (get_or refs i d).now ≡ Some e → list_all is_entry (texts (take i refs)) ≡ true
    → list_all is_entry (texts (take (suc i) refs)) ≡ true
formed_more [] i d e inside has formed = absurd (omega arith)
formed_more (r ∷ rs) zero d e inside has formed = ap (λ o. is_some o && true) has
formed_more (r ∷ rs) (suc i) d e inside has formed = and_more (is_entry r.now) _ _ formed (λ h. formed_more rs i d e (omega arith) has h)

pub entries_more : (refs : List (Bor (List ℕ))) (i : ℕ) (d : Bor (List ℕ)) (e : Entry) → i < length refs
    → entry (get_or refs i d).now ≡ Some e
    → filter_map entry (texts (take (suc i) refs)) ≡ filter_map entry (texts (take i refs)) ++ e ∷ []
entries_more [] i d e inside has = absurd (omega arith)
entries_more (r ∷ rs) zero d e inside has = ap (λ o. cons_option o []) has
entries_more (r ∷ rs) (suc i) d e inside has = ap (λ es. cons_option (entry r.now) es) (entries_more rs i d e (omega arith) has) ∙ cons_option-push (entry r.now) _ _

pub formed_not : (refs : List (Bor (List ℕ))) (i : ℕ) (d : Bor (List ℕ)) → i < length refs → entry (get_or refs i d).now ≡ None → list_all is_entry (texts refs) ≡ false
formed_not [] i d inside has = absurd (omega arith)
formed_not (r ∷ rs) zero d inside has = ap (λ o. is_some o && list_all is_entry (texts rs)) has
formed_not (r ∷ rs) (suc i) d inside has = and_false (is_entry r.now) _ (formed_not rs i d (omega arith) has)

pub no_entries : (parts : List (List ℕ)) → list_all is_entry parts ≡ false → ok_or (entries_of parts) kinds.Form ≡ Err kinds.Form
no_entries parts not_formed = rw not_formed refl

pub all_entries : (parts : List (List ℕ)) (value : List ℕ → Option (List ℕ)) → list_all is_entry parts ≡ true
    → ((key : List ℕ) → value key ≡ value_of (filter_map entry parts) key)
    → IsSomeAnd (entries_of parts) (λ es. (key : List ℕ) → value key ≡ value_of es key)
all_entries parts value formed same = rw formed same

pub formed_next : (refs : List (Bor (List ℕ))) (i : ℕ) (d : Bor (List ℕ)) (e : Entry) → i < length refs
    → Some e ≡ entry (get_or refs i d).now → list_all is_entry (texts (take i refs)) ≡ true
    → list_all is_entry (texts (take (i + 1) refs)) ≡ true
formed_next refs i d e inside has formed = ap (λ n. list_all is_entry (texts (take n refs))) (add-one i) ∙ formed_more refs i d e inside (sym has) formed

pub kept_next : (refs : List (Bor (List ℕ))) (i : ℕ) (d : Bor (List ℕ)) (e : Entry) (old new : List ℕ → Option (List ℕ))
    → i < length refs → Some e ≡ entry (get_or refs i d).now
    → ((key : List ℕ) → old key ≡ value_of (filter_map entry (texts (take i refs))) key)
    → ((asked : List ℕ) → new asked ≡ (if bytes_eq e.0 asked then Some e.1 else old asked)) → (key : List ℕ)
    → new key ≡ value_of (filter_map entry (texts (take (i + 1) refs))) key
kept_next refs i d e old new inside has kept set key =
    set key
    ∙ ap (λ o. if bytes_eq e.0 key then Some e.1 else o) (kept key)
    ∙ sym (value_of-push (filter_map entry (texts (take i refs))) e key)
    ∙ sym (ap (λ es. value_of es key) (entries_more refs i d e inside (sym has)))
    ∙ sym (ap (λ n. value_of (filter_map entry (texts (take n refs))) key) (add-one i))

pub no_entries_at : (refs : List (Bor (List ℕ))) (i : ℕ) (d : Bor (List ℕ)) (text : List ℕ) → i < length refs
    → None ≡ entry (get_or refs i d).now → texts refs ≡ parts text → ok_or (entries text) kinds.Form ≡ Err kinds.Form
no_entries_at refs i d text inside none parts_are =
    sym (ap (λ ps. ok_or (entries_of ps) kinds.Form) parts_are) ∙ no_entries (texts refs) (formed_not refs i d inside (sym none))

pub all_entries_at : (refs : List (Bor (List ℕ))) (i : ℕ) (text : List ℕ) (value : List ℕ → Option (List ℕ))
    → length refs ≤ i → texts refs ≡ parts text → list_all is_entry (texts (take i refs)) ≡ true
    → ((key : List ℕ) → value key ≡ value_of (filter_map entry (texts (take i refs))) key)
    → IsSomeAnd (entries text) (λ es. (key : List ℕ) → value key ≡ value_of es key)
all_entries_at refs i text value past parts_are formed kept =
    let same : texts (take i refs) ≡ parts text = ap texts (take_all i refs past) ∙ parts_are in
    all_entries (parts text) value (sym (ap (list_all is_entry) same) ∙ formed) (λ key. kept key ∙ ap (λ ps. value_of (filter_map entry ps) key) same)
