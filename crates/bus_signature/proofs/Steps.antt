-- What each step of a reader comes to.
use Rattle.std.proofs.Common.{◌≡◌, ℕ, ◌==◌, ◌-◌, ◌<◌, zero, suc, Bool, true, false, List, [], ◌∷◌, ◌++◌, length, Option, Some, None, Result, Ok, Err, refl, sym, ap, ◌∙◌, subst, inl, inr}
use Rattle.std.proofs.Common.{append_assoc, arith, if◌then◌else◌}
use Rattle.std.specs.Prelude.{⊤, is_some}
use Rattle.std.specs.Borrow.{Bor}
use Rattle.std.proofs.lemmas.Bool.{false≢true, true≢false, eqb-true, and_from}
use Rattle.std.proofs.lemmas.Option.{none-some, same_Some}
use Rattle.std.specs.Result.{IsErrAnd}
use Rattle.std.proofs.lemmas.Result.{err_from_is_err_and}
use Rattle.std.proofs.lemmas.List.{append-nil, length-append}
use Rattle.bus_signature.specs.declared.signature.Signature.{Signature}
use Rattle.bus_signature.specs.declared.signature.Signature.TheVariants.{Array, Dict, Structure}
use Rattle.bus_signature.specs.declared.error.Error.{Error}
use Rattle.bus_signature.specs.declared.error.Error.TheVariants as error
use Rattle.bus_signature.specs.Texts.{text, texts}
use Rattle.bus_signature.specs.Grammar.{complete, AreComplete, whole, Spells, SpellsNone, Read, ReadAs, IsReadable}
use Rattle.bus_signature.specs.Taking.{letter, letters, find_letter, Takes, TakesNone, Took, Stops, TakesAll, TookAll, Skipped}
use Rattle.bus_signature.proofs.Cases.{Simple, text_unit, complete_array, complete_dict, complete_structure, simple_U8, simple_Bool, simple_I16, simple_U16, simple_I32, simple_U32, simple_I64}
use Rattle.bus_signature.proofs.Cases.{simple_U64, simple_F64, simple_Str, simple_Signature, simple_ObjectPath, simple_Variant, simple_Fd}
use Rattle.bus_signature.proofs.Fronts.{Front, simple, array, dict, structure, front, simple_text, array_text, dict_text, structure_text, heads, tails, first_opens, not_empty, all_complete}
use Rattle.bus_signature.proofs.Fronts.{complete_one_more}
use Rattle.bus_signature.proofs.Unique.{only, only_types, no_letter, no_stop}

-- what an early return gives
pub returns_err : {X : Type 0} (P : Result X Error → Type 0) (x : Error) (Q : Error → Type 0) (r : Result X Error) → IsErrAnd r Q → ((y : Error) → Q y → y ≡ x) → P (Err x) → P r
returns_err P x Q r is same there = let it = err_from_is_err_and r is in subst P (sym (it.1 ∙ ap Err (same it.0 it.2))) there

pub nil : (xs : List ℕ) → length xs ≡ 0 → xs ≡ []
nil [] e = refl
nil (x ∷ xs) e = absurd (omega (arith, e))

-- letters
abbrev AreSimple : List (ℕ × Signature) → Type 0
AreSimple [] = ⊤
AreSimple (e ∷ es) = Simple e.0 e.1 × AreSimple es

found : (es : List (ℕ × Signature)) → AreSimple es → (c : ℕ) (s : Signature) → find_letter c es ≡ Some s → Simple c s
found [] all c s is = absurd (none-some s is)
found (e ∷ es) all c s is = by_test (c == e.0) refl is (found es all.1 c s) where
  by_test : (b : Bool) → (c == e.0) ≡ b → (if b then Some e.1 else find_letter c es) ≡ Some s → (find_letter c es ≡ Some s → Simple c s) → Simple c s
  by_test true same here more = subst (λ (d : ℕ). Simple d s) (sym (eqb-true c e.0 same)) (subst (λ (x : Signature). Simple e.0 x) (same_Some e.1 s here) all.0)
  by_test false same here more = more here

pub letter_simple : (c : ℕ) (s : Signature) → letter c ≡ Some s → Simple c s
letter_simple c s is =
    found letters (
      simple_U8,
      (
        simple_Bool,
        (
          simple_I16,
          (
            simple_U16,
            (
              simple_I32,
              (
                simple_U32,
                (
                  simple_I64,
                  (simple_U64, (simple_F64, (simple_Str, (simple_Signature, (simple_ObjectPath, (simple_Variant, (simple_Fd, tt))))))),
                ),
              ),
            ),
          ),
        ),
      ),
    ) c s is

pub none_empty : (a p : ℕ) (bytes : List ℕ) → bytes ≡ [] → TakesNone a p bytes
none_empty a p bytes is = record { none = λ s rest t. not_empty s a p t.complete rest (sym t.taken ∙ is) }

pub some_letter : (a p c : ℕ) (s : Signature) (bytes rest : List ℕ) → bytes ≡ c ∷ rest → letter c ≡ Some s → Takes a p bytes s rest
some_letter a p c s bytes rest is found = let it = letter_simple c s found in record { complete = it.complete a p; taken = is ∙ sym (simple_text c s it rest) }

pub none_letter : (a p c : ℕ) (bytes more : List ℕ) → bytes ≡ c ∷ more → letter c ≡ None → (c ≡ 97 → ⊥) → (c ≡ 40 → ⊥) → TakesNone a p bytes
none_letter a p c bytes more is none not_a not_paren = record { none = λ s rest t. by_front s rest t (front s a p t.complete) } where
  by_front : (s : Signature) (rest : List ℕ) → Takes a p bytes s rest → Front s a p → ⊥
  by_front s rest t (simple d it) = no_letter d c s it (sym (heads (sym is ∙ t.taken ∙ simple_text d s it rest))) none
  by_front s rest t (array b u _ it _) = not_a (heads (sym is ∙ t.taken ∙ array_text s u it rest))
  by_front s rest t (dict b k v _ it _ _) = not_a (heads (sym is ∙ t.taken ∙ dict_text s k v it rest))
  by_front s rest t (structure q f fs _ it _) = not_paren (heads (sym is ∙ t.taken ∙ structure_text s (f ∷ fs) it rest))

-- what can stand behind an `a`
pub data BehindA (a p : ℕ) (bytes : List ℕ) (rest : List ℕ) : Type 0 where
  one : (b : ℕ) (t : Signature) → a ≡ suc b → Takes b p bytes t rest → BehindA a p bytes rest
  two : (b : ℕ) (k v : Signature) → a ≡ suc b → complete k b p ≡ true → complete v b p ≡ true → bytes ≡ 123 ∷ text k ++ (text v ++ (125 ∷ rest)) → BehindA a p bytes rest

behind_a : (a p : ℕ) (bytes : List ℕ) (s : Signature) (rest : List ℕ) → Takes a p (97 ∷ bytes) s rest → BehindA a p bytes rest
behind_a a p bytes s rest t = by_front (front s a p t.complete) where
  by_front : Front s a p → BehindA a p bytes rest
  by_front (simple d it) = absurd (no_letter d 97 s it (sym (heads (t.taken ∙ simple_text d s it rest))) refl)
  by_front (array b u is it cu) = one b u is (record { complete = cu; taken = tails (t.taken ∙ array_text s u it rest) })
  by_front (dict b k v is it ck cv) = two b k v is ck cv (tails (t.taken ∙ dict_text s k v it rest))
  by_front (structure q f fs _ it _) = absurd (true≢false (ap (λ (n : ℕ). n == 97) (heads (t.taken ∙ structure_text s (f ∷ fs) it rest))))

not_suc : (b : ℕ) → 0 ≡ suc b → ⊥
not_suc b e = omega (arith, e)

pub none_array_0 : (a p : ℕ) (bytes : List ℕ) → a ≡ 0 → TakesNone a p (97 ∷ bytes)
none_array_0 a p bytes zero_a = record { none = λ s rest t. by (behind_a a p bytes s rest t) } where
  by : {rest : List ℕ} → BehindA a p bytes rest → ⊥
  by (one b u is _) = not_suc b (sym zero_a ∙ is)
  by (two b k v is _ _ _) = not_suc b (sym zero_a ∙ is)

abbrev is_nil : {A : Type 0} → List A → Bool
is_nil [] = true
is_nil (x ∷ xs) = false

pub no_cons : {A : Type 0} {c : A} {x : List A} → [] ≡ c ∷ x → ⊥
no_cons e = true≢false (ap is_nil e)

pub less_one : (a b : ℕ) → a ≡ suc b → a - 1 ≡ b
less_one a b is = omega (arith, is)

pub none_array_end : (a p : ℕ) (bytes : List ℕ) → bytes ≡ [] → TakesNone a p (97 ∷ bytes)
none_array_end a p bytes end = record { none = λ s rest t. by (behind_a a p bytes s rest t) } where
  by : {rest : List ℕ} → BehindA a p bytes rest → ⊥
  by {rest} (one b u _ t) = (none_empty b p bytes end).none u rest t
  by (two b k v _ _ _ is) = no_cons (sym end ∙ is)

pub some_array : (a p : ℕ) (bytes : List ℕ) (s : Signature) (rest : List ℕ) → (a ≡ 0 → ⊥) → Takes (a - 1) p bytes s rest → Takes a p (97 ∷ bytes) (Array s) rest
some_array zero p bytes s rest ne t = absurd (ne refl)
some_array (suc a) p bytes s rest ne t =
    record {
      complete = complete_array s a p ∙ subst (λ (n : ℕ). complete s n p ≡ true) (less_one (suc a) a refl) t.complete;
      taken = ap (λ (x : List ℕ). 97 ∷ x) t.taken ∙ sym
          (array_text (Array s) s refl rest);
    }

pub none_array : (a p c : ℕ) (bytes more : List ℕ) → bytes ≡ c ∷ more → (c ≡ 123 → ⊥) → TakesNone (a - 1) p bytes → TakesNone a p (97 ∷ bytes)
none_array a p c bytes more first not_brace none = record { none = λ s rest t. by (behind_a a p bytes s rest t) } where
  by : {rest : List ℕ} → BehindA a p bytes rest → ⊥
  by {rest} (one b u is t) = none.none u rest (subst (λ (n : ℕ). Takes n p bytes u rest) (sym (less_one a b is)) t)
  by (two b k v _ _ _ is) = not_brace (heads (sym first ∙ is))

pub pass_array : (a p c : ℕ) (bytes more : List ℕ) → bytes ≡ c ∷ more → (c ≡ 123 → ⊥) → (e : Error) → Took (a - 1) p bytes (Err e) → Took a p (97 ∷ bytes) (Err e)
pass_array a p c bytes more first not_brace error.InvalidSignature none = none_array a p c bytes more first not_brace none
pass_array a p c bytes more first not_brace error.OutOfMemory none = tt

-- what stands behind `a{`
pub record BehindBrace (a p : ℕ) (bytes : List ℕ) (rest : List ℕ) : Type 0 where
  pub key : Signature
  pub value : Signature
  pub keyed : Takes (a - 1) p bytes key (text value ++ (125 ∷ rest))
  pub valued : Takes (a - 1) p (text value ++ (125 ∷ rest)) value (125 ∷ rest)

behind_brace : (a p : ℕ) (bytes : List ℕ) (s : Signature) (rest : List ℕ) → Takes a p (97 ∷ 123 ∷ bytes) s rest → BehindBrace a p bytes rest
behind_brace a p bytes s rest t = by (behind_a a p (123 ∷ bytes) s rest t) where
  by : BehindA a p (123 ∷ bytes) rest → BehindBrace a p bytes rest
  by (one b u is t) = absurd (false≢true (first_opens u b p t.complete rest 123 bytes (sym t.taken)))
  by (two b k v is ck cv e) = record {
    key = k;
    value = v;
    keyed = record { complete = subst (λ (n : ℕ). complete k n p ≡ true) (sym (less_one a b is)) ck; taken = tails e };
    valued = record { complete = subst (λ (n : ℕ). complete v n p ≡ true) (sym (less_one a b is)) cv; taken = refl };
  }

pub one_only : (a p b q : ℕ) (bytes : List ℕ) (s t : Signature) (r w : List ℕ) → Takes a p bytes s r → Takes b q bytes t w → (s ≡ t) × (r ≡ w)
one_only a p b q bytes s t r w x y = only s a p t b q r w x.complete y.complete (sym x.taken ∙ y.taken)

pub pass_key : (a p : ℕ) (bytes : List ℕ) (e : Error) → Took (a - 1) p bytes (Err e) → Took a p (97 ∷ 123 ∷ bytes) (Err e)
pass_key a p bytes error.InvalidSignature none = record { none = λ s rest t. let it = behind_brace a p bytes s rest t in none.none it.key (text it.value ++ (125 ∷ rest)) it.keyed }
pass_key a p bytes error.OutOfMemory none = tt

pub pass_value : (a p : ℕ) (bytes : List ℕ) (k : Signature) (r : List ℕ) → Takes (a - 1) p bytes k r → (e : Error) → Took (a - 1) p r (Err e) → Took a p (97 ∷ 123 ∷ bytes) (Err e)
pass_value a p bytes k r taken error.InvalidSignature none = record {
  none = λ s rest t.
      let it = behind_brace a p bytes s rest t in
      let same = one_only (a - 1) p (a - 1) p bytes k it.key r (text it.value ++ (125 ∷ rest)) taken it.keyed in
      none.none it.value (125 ∷ rest) (subst (λ (x : List ℕ). Takes (a - 1) p x it.value (125 ∷ rest)) (sym same.1) it.valued);
}
pass_value a p bytes k r taken error.OutOfMemory none = tt

pub none_brace : (a p : ℕ) (bytes : List ℕ) (k : Signature) (r : List ℕ) (v : Signature) (w : List ℕ) → Takes (a - 1) p bytes k r → Takes (a - 1) p r v w → ((x : List ℕ) → w ≡ 125 ∷ x → ⊥)
    → TakesNone a p (97 ∷ 123 ∷ bytes)
none_brace a p bytes k r v w keyed valued no_end = record {
  none = λ s rest t.
      let it = behind_brace a p bytes s rest t in
      let same = one_only (a - 1) p (a - 1) p bytes k it.key r (text it.value ++ (125 ∷ rest)) keyed it.keyed in
      let other = one_only (a - 1) p (a - 1) p r v it.value w (125 ∷ rest) valued (subst (λ (x : List ℕ). Takes (a - 1) p x it.value (125 ∷ rest)) (sym same.1) it.valued) in
      no_end rest other.1;
}

pub some_dict : (a p : ℕ) (bytes : List ℕ) (k : Signature) (r : List ℕ) (v : Signature) (w rest : List ℕ) → 0 < a → Takes (a - 1) p bytes k r → Takes (a - 1) p r v w → w ≡ 125 ∷ rest
    → Takes a p (97 ∷ 123 ∷ bytes) (Dict k v) rest
some_dict zero p bytes k r v w rest lt keyed valued end = absurd (omega (arith, lt))
some_dict (suc a) p bytes k r v w rest lt keyed valued end = record {
  complete =
      complete_dict k v a p ∙ and_from (complete k a p) (complete v a p) (subst (λ (n : ℕ). complete k n p ≡ true) (less_one (suc a) a refl) keyed.complete)
      (subst (λ (n : ℕ). complete v n p ≡ true) (less_one (suc a) a refl) valued.complete);
  taken = ap (λ (x : List ℕ). 97 ∷ 123 ∷ x) (keyed.taken ∙ ap (λ (x : List ℕ). text k ++ x) (valued.taken ∙ ap (λ (x : List ℕ). text v ++ x) end)) ∙ sym (dict_text (Dict k v) k v refl rest);
}

-- what stands behind a parenthesis
pub record BehindParen (a p : ℕ) (bytes : List ℕ) (rest : List ℕ) : Type 0 where
  pub depth : ℕ
  pub deeper : p ≡ suc depth
  pub field : Signature
  pub fields : List Signature
  pub taken : TakesAll a depth bytes (field ∷ fields) (41 ∷ rest)

behind_paren : (a p : ℕ) (bytes : List ℕ) (s : Signature) (rest : List ℕ) → Takes a p (40 ∷ bytes) s rest → BehindParen a p bytes rest
behind_paren a p bytes s rest t = by_front (front s a p t.complete) where
  by_front : Front s a p → BehindParen a p bytes rest
  by_front (simple d it) = absurd (no_letter d 40 s it (sym (heads (t.taken ∙ simple_text d s it rest))) refl)
  by_front (array b u is it cu) = absurd (true≢false (ap (λ (n : ℕ). n == 40) (heads (t.taken ∙ array_text s u it rest))))
  by_front (dict b k v is it ck cv) = absurd (true≢false (ap (λ (n : ℕ). n == 40) (heads (t.taken ∙ dict_text s k v it rest))))
  by_front (structure q f fs is it cf) =
      record { depth = q; deeper = is; field = f; fields = fs; taken = record { complete = cf; taken = tails (t.taken ∙ structure_text s (f ∷ fs) it rest); stops = refl } }

pub all_only : (a p b q : ℕ) (bytes : List ℕ) (fs gs : List Signature) (r w : List ℕ) → TakesAll a p bytes fs r → TakesAll b q bytes gs w → (fs ≡ gs) × (r ≡ w)
all_only a p b q bytes fs gs r w x y = only_types fs a p b q gs r w x.complete y.complete x.stops y.stops (sym x.taken ∙ y.taken)

-- where no type was read before
pub behind_none : (P : List ℕ → Type 0) (types : List Signature) (bytes : List ℕ) → types ≡ [] → P (texts types ++ bytes) → P bytes
behind_none P types bytes none = subst (λ (ts : List Signature). P (texts ts ++ bytes)) none

pub behind_none_taken : {types fs : List Signature} {a p : ℕ} {bytes r : List ℕ} → types ≡ [] → TakesAll a p (texts types ++ bytes) fs r → TakesAll a p bytes fs r
behind_none_taken {types} {fs} {a} {p} {bytes} {r} none = behind_none (λ (x : List ℕ). TakesAll a p x fs r) types bytes none

pub none_structure_0 : (a p : ℕ) (bytes : List ℕ) → p ≡ 0 → TakesNone a p (40 ∷ bytes)
none_structure_0 a p bytes zero_p = record { none = λ s rest t. let it = behind_paren a p bytes s rest t in not_suc it.depth (sym zero_p ∙ it.deeper) }

pub pass_structure : (a p : ℕ) (bytes : List ℕ) (e : Error) → TookAll a (p - 1) bytes (Err e) → Took a p (40 ∷ bytes) (Err e)
pass_structure a p bytes error.InvalidSignature none = record {
  none = λ s rest t.
      let it = behind_paren a p bytes s rest t in
      none.none (it.field ∷ it.fields) (41 ∷ rest) (subst (λ (n : ℕ). TakesAll a n bytes (it.field ∷ it.fields) (41 ∷ rest)) (sym (less_one p it.depth it.deeper)) it.taken);
}
pass_structure a p bytes error.OutOfMemory none = tt

pub none_unclosed : (a p : ℕ) (bytes : List ℕ) (fs : List Signature) (r : List ℕ) → TakesAll a (p - 1) bytes fs r → r ≡ [] → TakesNone a p (40 ∷ bytes)
none_unclosed a p bytes fs r taken end = record {
  none = λ s rest t.
      let it = behind_paren a p bytes s rest t in
      no_cons (sym end ∙ (all_only a (p - 1) a it.depth bytes fs (it.field ∷ it.fields) r (41 ∷ rest) taken it.taken).1);
}

pub none_fields : (a p : ℕ) (bytes : List ℕ) (fs : List Signature) (r : List ℕ) → TakesAll a (p - 1) bytes fs r → fs ≡ [] → TakesNone a p (40 ∷ bytes)
none_fields a p bytes fs r taken end = record {
  none = λ s rest t.
      let it = behind_paren a p bytes s rest t in
      no_cons (sym end ∙ (all_only a (p - 1) a it.depth bytes fs (it.field ∷ it.fields) r (41 ∷ rest) taken it.taken).0);
}

pub some_structure : (a p : ℕ) (bytes : List ℕ) (fs : List Signature) (c : ℕ) (r rest : List ℕ) → (p ≡ 0 → ⊥) → TakesAll a (p - 1) bytes fs r → r ≡ c ∷ rest → (fs ≡ [] → ⊥)
    → Takes a p (40 ∷ bytes) (Structure fs) rest
some_structure a zero bytes fs c r rest ne taken first some = absurd (ne refl)
some_structure a (suc p) bytes [] c r rest ne taken first some = absurd (some refl)
some_structure a (suc p) bytes (f ∷ fs) c r rest ne taken first some = record {
  complete = complete_structure f fs a p ∙ all_complete (f ∷ fs) a p (subst (λ (n : ℕ). AreComplete a n (f ∷ fs)) (less_one (suc p) p refl) taken.complete);
  taken =
      ap (λ (x : List ℕ). 40 ∷ x) (taken.taken ∙ ap (λ (x : List ℕ). texts (f ∷ fs) ++ x) (first ∙ ap (λ (n : ℕ). n ∷ rest) (subst Stops first taken.stops))) ∙ sym
      (structure_text (Structure (f ∷ fs)) (f ∷ fs) refl rest);
}

-- a list of types that goes on behind those that were taken
pub record GoesOn (a p : ℕ) (r w : List ℕ) : Type 0 where
  pub one : Signature
  pub behind : List ℕ
  pub taken : Takes a p r one behind

goes_on : (fs gs : List Signature) (a p b q : ℕ) (r w : List ℕ) → AreComplete a p fs → AreComplete b q gs → Stops w → (Stops r → ⊥) → texts fs ++ r ≡ texts gs ++ w → GoesOn b q r w
goes_on [] [] a p b q r w cf cg sw nr e = absurd (nr (subst Stops (sym e) sw))
goes_on [] (g ∷ gs) a p b q r w cf cg sw nr e = record { one = g; behind = texts gs ++ w; taken = record { complete = cg.0; taken = e ∙ append_assoc (text g) (texts gs) w } }
goes_on (f ∷ fs) [] a p b q r w cf cg sw nr e = absurd (no_stop f a p cf.0 (texts fs ++ r) w sw (sym (append_assoc (text f) (texts fs) r) ∙ e))
goes_on (f ∷ fs) (g ∷ gs) a p b q r w cf cg sw nr e =
    goes_on fs gs a p b q r w cf.1 cg.1 sw nr (only f a p g b q (texts fs ++ r) (texts gs ++ w) cf.0 cg.0 (sym (append_assoc (text f) (texts fs) r) ∙ e ∙ append_assoc (text g) (texts gs) w)).1

pub pass_types : (a p : ℕ) (bytes : List ℕ) (fs : List Signature) (r : List ℕ) → AreComplete a p fs → bytes ≡ texts fs ++ r → (Stops r → ⊥) → (e : Error) → Took a p r (Err e)
    → TookAll a p bytes (Err e)
pass_types a p bytes fs r cf is nr error.InvalidSignature none = record {
  none = λ gs w t.
      let on = goes_on fs gs a p a p r w cf t.complete t.stops nr (sym is ∙ t.taken) in none.none on.one on.behind on.taken;
}
pass_types a p bytes fs r cf is nr error.OutOfMemory none = tt

more_texts : (fs : List Signature) (s : Signature) (r : List ℕ) → texts fs ++ (text s ++ r) ≡ texts (fs ++ s ∷ []) ++ r
more_texts [] s r = ap (λ (x : List ℕ). x ++ r) (sym (append-nil (text s)))
more_texts (f ∷ fs) s r = append_assoc (text f) (texts fs) (text s ++ r) ∙ ap (λ (x : List ℕ). text f ++ x) (more_texts fs s r) ∙ sym (append_assoc (text f) (texts (fs ++ s ∷ [])) r)

pub one_more : (a p : ℕ) (bytes : List ℕ) (fs : List Signature) (r : List ℕ) (s : Signature) (w : List ℕ) → AreComplete a p fs → bytes ≡ texts fs ++ r → Takes a p r s w
    → AreComplete a p (fs ++ s ∷ []) × (bytes ≡ texts (fs ++ s ∷ []) ++ w)
one_more a p bytes fs r s w cf is t = (complete_one_more fs a p s cf t.complete, is ∙ ap (λ (x : List ℕ). texts fs ++ x) t.taken ∙ more_texts fs s w)

-- a reader comes forward
behind_some : (x rest bytes : List ℕ) → bytes ≡ x ++ rest → (x ≡ [] → ⊥) → length rest < length bytes
behind_some [] rest bytes is some = absurd (some refl)
behind_some (c ∷ x) rest bytes is some = rw is (omega (arith, length-append x rest))

pub shorter : (a p : ℕ) (bytes : List ℕ) (s : Signature) (rest : List ℕ) → Takes a p bytes s rest → length rest < length bytes
shorter a p bytes s rest t = behind_some (text s) rest bytes t.taken (λ e. not_empty s a p t.complete [] (append-nil (text s) ∙ e))

-- the top
pub read_none : (bytes : List ℕ) (e : Error) → TookAll 32 32 bytes (Err e) → Read bytes (Err e)
read_none bytes error.InvalidSignature none = record { none = λ s t. none.none t.types [] (record { complete = t.complete; taken = t.spelled ∙ sym (append-nil (texts t.types)); stops = tt }) }
read_none bytes error.OutOfMemory none = tt

pub read_more : (bytes : List ℕ) (fs : List Signature) (r : List ℕ) → TakesAll 32 32 bytes fs r → (r ≡ [] → ⊥) → SpellsNone bytes
read_more bytes fs r taken some =
    record { none = λ s t. some (all_only 32 32 32 32 bytes fs t.types r [] taken (record { complete = t.complete; taken = t.spelled ∙ sym (append-nil (texts t.types)); stops = tt })).1 }

pub read_all : (bytes : List ℕ) (fs : List Signature) (r : List ℕ) → TakesAll 32 32 bytes fs r → r ≡ [] → Spells bytes (whole fs)
read_all bytes fs r taken end = record { types = fs; complete = taken.complete; is = refl; spelled = taken.taken ∙ ap (λ (x : List ℕ). texts fs ++ x) end ∙ append-nil (texts fs) }

-- the top, by its first type: nothing, that one alone, or others behind it
pub top_none : (bytes : List ℕ) → (bytes ≡ [] → ⊥) → (e : Error) → Took 32 32 bytes (Err e) → Read bytes (Err e)
top_none bytes some error.InvalidSignature none = record { none = λ s t. by t.types t.complete t.spelled } where
  by : (types : List Signature) → AreComplete 32 32 types → bytes ≡ texts types → ⊥
  by [] all spelled = some spelled
  by (s ∷ more) all spelled = none.none s (texts more) (record { complete = all.0; taken = spelled })
top_none bytes some error.OutOfMemory none = tt

pub top_one : (bytes : List ℕ) (s : Signature) (r : List ℕ) → Takes 32 32 bytes s r → r ≡ [] → Spells bytes s
top_one bytes s r t end = record { types = s ∷ []; complete = (t.complete, tt); is = refl; spelled = t.taken ∙ ap (λ (x : List ℕ). text s ++ x) end }

pub the_first : (types before : List Signature) (s : Signature) → before ≡ [] → types ≡ before ++ s ∷ [] → types ≡ s ∷ []
the_first types before s empty is = is ∙ ap (λ (ts : List Signature). ts ++ s ∷ []) empty

top_front : (bytes : List ℕ) (s : Signature) (r : List ℕ) (types : List Signature) → types ≡ s ∷ [] → Takes 32 32 bytes s r → texts types ++ r ≡ bytes
top_front bytes s r types is t = ap (λ (ts : List Signature). texts ts ++ r) is ∙ ap (λ (x : List ℕ). x ++ r) (append-nil (text s)) ∙ sym t.taken

pub others_none : (bytes : List ℕ) (s : Signature) (r : List ℕ) (types : List Signature) → types ≡ s ∷ [] → Takes 32 32 bytes s r → (e : Error) → TookAll 32 32 (texts types ++ r) (Err e)
    → Read bytes (Err e)
others_none bytes s r types is t e none = read_none bytes e (subst (λ (x : List ℕ). TookAll 32 32 x (Err e)) (top_front bytes s r types is t) none)

pub others_taken : (bytes : List ℕ) (s : Signature) (r : List ℕ) (types : List Signature) → types ≡ s ∷ [] → Takes 32 32 bytes s r → (fs : List Signature) (w : List ℕ)
    → TakesAll 32 32 (texts types ++ r) fs w → TakesAll 32 32 bytes fs w
others_taken bytes s r types is t fs w all = subst (λ (x : List ℕ). TakesAll 32 32 x fs w) (top_front bytes s r types is t) all

whole_two : (fs : List Signature) (s : Signature) (r bytes : List ℕ) → Takes 32 32 bytes s r → AreComplete 32 32 fs → bytes ≡ texts fs → (r ≡ [] → ⊥) → whole fs ≡ Structure fs
whole_two [] s r bytes t all spelled some = absurd (not_empty s 32 32 t.complete r (sym t.taken ∙ spelled))
whole_two (f ∷ []) s r bytes t all spelled some = absurd (some (only s 32 32 f 32 32 r [] t.complete all.0 (sym t.taken ∙ spelled)).1)
whole_two (f ∷ g ∷ more) s r bytes t all spelled some = refl

pub others_all : (bytes : List ℕ) (s : Signature) (r : List ℕ) (fs : List Signature) (w : List ℕ) → Takes 32 32 bytes s r → TakesAll 32 32 bytes fs w → w ≡ [] → (r ≡ [] → ⊥)
    → Spells bytes (Structure fs)
others_all bytes s r fs w t all end some =
    let spelled : bytes ≡ texts fs = all.taken ∙ ap (λ (x : List ℕ). texts fs ++ x) end ∙ append-nil (texts fs) in
    record { types = fs; complete = all.complete; is = sym (whole_two fs s r bytes t all.complete spelled some); spelled = spelled }

-- a text spells one signature at most
pub spells_one : (bytes : List ℕ) (s t : Signature) → Spells bytes s → Spells bytes t → s ≡ t
spells_one bytes s t x y = x.is ∙ ap whole (only_types x.types 32 32 32 32 y.types [] [] x.complete y.complete tt tt (ap (λ (z : List ℕ). z ++ []) (sym x.spelled ∙ y.spelled))).0 ∙ sym y.is

spells_itself : (s : Signature) (bytes : List ℕ) → complete s 32 32 ≡ true → bytes ≡ text s → Spells bytes s
spells_itself s bytes cs is = record { types = s ∷ []; complete = (cs, tt); is = refl; spelled = is ∙ sym (append-nil (text s)) }

-- what the bytes spell is read
pub reads_only : (s : Signature) (bytes : List ℕ) → Spells bytes s → (r : Result Signature Error) → Read bytes r → ReadAs s r
reads_only s bytes it (Ok t) read = spells_one bytes t s read it
reads_only s bytes it (Err error.InvalidSignature) none = none.none s it
reads_only s bytes it (Err error.OutOfMemory) none = tt

spells_readable : (s : Signature) (bytes : List ℕ) → IsReadable s → bytes ≡ text s → Spells bytes s
spells_readable s bytes (inl unit) is = record { types = []; complete = tt; is = unit; spelled = is ∙ ap text unit ∙ text_unit }
spells_readable s bytes (inr cs) is = spells_itself s bytes cs is

pub reads_back : (s : Signature) (bytes : List ℕ) → IsReadable s → bytes ≡ text s → (r : Result Signature Error) → Read bytes r → ReadAs s r
reads_back s bytes readable is r read = reads_only s bytes (spells_readable s bytes readable is) r read

-- no type stands between parentheses that close at once
pub none_closed : (a p : ℕ) (bytes : List ℕ) → Stops bytes → TakesNone a p (40 ∷ bytes)
none_closed a p bytes stops = record {
  none = λ s rest t.
      let it = behind_paren a p bytes s rest t in
      no_stop it.field a it.depth it.taken.complete.0 (texts it.fields ++ (41 ∷ rest)) bytes stops (sym (append_assoc (text it.field) (texts it.fields) (41 ∷ rest)) ∙ sym it.taken.taken);
}

pub some_fields : (a p : ℕ) (bytes : List ℕ) (fs : List Signature) (r : List ℕ) → (Stops bytes → ⊥) → TakesAll a p bytes fs r → fs ≡ [] → ⊥
some_fields a p bytes [] r more taken e = more (subst Stops (sym taken.taken) taken.stops)
some_fields a p bytes (f ∷ fs) r more taken e = no_cons (sym e)

pub nil_length : (xs : List ℕ) → (length xs == 0) ≡ false → xs ≡ [] → ⊥
nil_length xs e is = true≢false (ap (λ (x : List ℕ). length x == 0) (sym is) ∙ e)

-- where a reader gives only what follows
pub skip_child : (a p c : ℕ) (bytes more : List ℕ) → (a ≡ 0 → ⊥) → bytes ≡ c ∷ more → (c ≡ 123 → ⊥) → (o : Option (Bor (List ℕ))) → Skipped (a - 1) p bytes o → Skipped a p (97 ∷ bytes) o
skip_child a p c bytes more some first not_brace (Some rest) taken = (Array taken.0, some_array a p bytes taken.0 rest.now some taken.1)
skip_child a p c bytes more some first not_brace None none = none_array a p c bytes more first not_brace none

pub the_found : (c : ℕ) → is_some (letter c) ≡ true → (s : Signature) × (letter c ≡ Some s)
the_found c e = by (letter c) e where
  by : (o : Option Signature) → is_some o ≡ true → (s : Signature) × (o ≡ Some s)
  by (Some s) e = (s, refl)
  by None e = absurd (false≢true e)

pub not_found : (c : ℕ) → is_some (letter c) ≡ false → letter c ≡ None
not_found c e = by (letter c) e where
  by : (o : Option Signature) → is_some o ≡ false → o ≡ None
  by (Some s) e = absurd (true≢false e)
  by None e = refl

pub nil_by_test : (xs : List ℕ) → (length xs == 0) ≡ true → xs ≡ []
nil_by_test xs e = nil xs (eqb-true (length xs) 0 e)
