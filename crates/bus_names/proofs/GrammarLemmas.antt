-- How the test of a dotted text goes on after its first element, for the loop that reads it.
use Rattle.std.proofs.Common.{◌≡◌, ℕ, suc, ◌+◌, ◌∙◌, ◌≤◌, Bool, true, false, ◌&&◌, ◌||◌, ◌==◌, nat_le, ltb, cond, if◌then◌else◌, Some, None, unwrap_or, List, [], ◌∷◌, length, drop, refl, ap, arith}
use Rattle.std.specs.List.{list_all, onto_first}
use Rattle.std.proofs.Math.Bool.{or-true}
use Rattle.std.proofs.lemmas.Bool.{le-leb}
use Rattle.std.proofs.lemmas.List.Splits.{length-slice_split, slice_split-cons_yes, slice_split-cons_no}
use Rattle.std.proofs.lemmas.Bool.Decides.{nat_tests}
use Rattle.bus_names.specs.declared.grammar.Form.{Form}
use Rattle.bus_names.specs.Classes.{element_len, run_len}
use Rattle.bus_names.specs.Decides.{goes_on-dot, starts-dot}
use Rattle.bus_names.specs.Grammar.{starts, goes_on, is_element, elements}

-- the rest of an element that has a byte already, or has none
abbrev pub rest_of_element : Form → Bool → List ℕ → Bool
rest_of_element form true cs = list_all (goes_on form) cs
rest_of_element form false cs = is_element form cs

-- the rest of an element, and whole elements after it
abbrev pub rest_of_elements : Form → Bool → List (List ℕ) → Bool
rest_of_elements form inside [] = false
rest_of_elements form inside (e ∷ es) = rest_of_element form inside e && list_all (is_element form) es

-- the rest of a dotted text, where a dot came before it or none did
abbrev pub rest_is_dotted : Form → Bool → Bool → List ℕ → Bool
rest_is_dotted form dot inside cs = (dot || nat_le 2 (length (elements cs))) && rest_of_elements form inside (elements cs)

-- the first byte's test goes to the front
swap-and : (a f l r : Bool) → (a && ((f && l) && r)) ≡ (f && (a && (l && r)))
swap-and true true l r = refl
swap-and true false l r = refl
swap-and false true l r = refl
swap-and false false l r = refl

-- a byte before the rest of an element
element-step : (form : Form) (inside : Bool) (c : ℕ) (cs : List ℕ)
    → rest_of_element form inside (c ∷ cs) ≡ ((if inside then goes_on form c else starts form c) && list_all (goes_on form) cs)
element-step form true c cs = refl
element-step form false c cs = refl

-- nothing left of an element
element-end : (form : Form) (inside : Bool) → rest_of_element form inside [] ≡ inside
element-end form true = refl
element-end form false = refl

-- a byte before the first element
elements-step : (form : Form) (dot inside : Bool) (c : ℕ) (es : List (List ℕ)) → 1 ≤ length es
    → ((dot || nat_le 2 (length (onto_first c es))) && rest_of_elements form inside (onto_first c es))
    ≡ ((if inside then goes_on form c else starts form c)
    && ((dot || nat_le 2 (length es)) && rest_of_elements form true es))
elements-step form dot inside c [] h = absurd (omega arith)
elements-step form dot inside c (e ∷ es) h =
    rw (element-step form inside c e) (swap-and (dot || nat_le 2 (length (e ∷ es))) (if inside then goes_on form c else starts form c) (list_all (goes_on form) e) (list_all (is_element form) es))

-- a dot before the first element
elements-dot : (form : Form) (dot inside : Bool) (es : List (List ℕ)) → 1 ≤ length es
    → ((dot || nat_le 2 (length ([] ∷ es))) && rest_of_elements form inside ([] ∷ es)) ≡ (inside && rest_of_elements form false es)
elements-dot form dot inside [] h = absurd (omega arith)
elements-dot form dot inside (e ∷ es) h =
    let two : 2 ≤ length ([] ∷ e ∷ es) = omega arith in
    rw (le-leb 2 (length ([] ∷ e ∷ es)) two, or-true dot, element-end form inside) refl

-- a text has at least one element, which may be empty
some_elements : (cs : List ℕ) → 1 ≤ length (elements cs)
some_elements cs = omega (arith, length-slice_split (λ c. c == 46) cs)

-- a byte of an element
pub rest-byte : (form : Form) (dot inside : Bool) (c : ℕ) (cs : List ℕ) → (c == 46) ≡ false
    → rest_is_dotted form dot inside (c ∷ cs) ≡ ((if inside then goes_on form c else starts form c) && rest_is_dotted form dot true cs)
rest-byte form dot inside c cs e =
    rw (slice_split-cons_no (λ b. b == 46) c cs e) (elements-step form dot inside c (elements cs) (some_elements cs))

-- a dot
pub rest-dot : (form : Form) (dot inside : Bool) (c : ℕ) (cs : List ℕ) → (c == 46) ≡ true → rest_is_dotted form dot inside (c ∷ cs) ≡ (inside && rest_is_dotted form true false cs)
rest-dot form dot inside c cs e =
    rw (slice_split-cons_yes (λ b. b == 46) c cs e) (elements-dot form dot inside (elements cs) (some_elements cs))

-- what is left of a dotted text after the bytes of an element
abbrev pub rest_after : Form → Bool → List ℕ → Bool
rest_after form dot [] = dot
rest_after form dot (c ∷ cs) = c == 46 && rest_is_dotted form true false cs

end-run : (form : Form) (dot : Bool) → rest_is_dotted form dot true [] ≡ dot
end-run form true = refl
end-run form false = refl

end-none : (form : Form) (dot : Bool) → rest_is_dotted form dot false [] ≡ false
end-none form true = refl
end-none form false = refl

-- a byte that ends an element
stop-run : (form : Form) (dot : Bool) (c : ℕ) (cs : List ℕ) (is_dot : Bool) → goes_on form c ≡ false → (c == 46) ≡ is_dot
    → rest_is_dotted form dot true (c ∷ cs) ≡ rest_after form dot (c ∷ cs)
stop-run form dot c cs true e d = rest-dot form dot true c cs d ∙ rw d refl
stop-run form dot c cs false e d = rest-byte form dot true c cs d ∙ rw (e, d) refl

one-more : (n : ℕ) → 1 + n ≡ suc n
one-more n = omega arith

drop-more : (n c : ℕ) (cs : List ℕ) → drop (1 + n) (c ∷ cs) ≡ drop n cs
drop-more n c cs = ap (λ k. drop k (c ∷ cs)) (one-more n)

more-eq : (n : ℕ) → (1 + n == 0) ≡ false
more-eq n = grind (arith, nat_tests)

run-case : (form : Form) (dot : Bool) (c : ℕ) (cs : List ℕ) (b : Bool) → goes_on form c ≡ b
    → rest_is_dotted form dot true cs ≡ rest_after form dot (drop (run_len form cs) cs)
    → rest_is_dotted form dot true (c ∷ cs) ≡ rest_after form dot (drop (run_len form (c ∷ cs)) (c ∷ cs))
run-case form dot c cs true e rest =
    rest-byte form dot true c cs (goes_on-dot form c e) ∙ rw (e, drop-more (run_len form cs) c cs) rest
run-case form dot c cs false e rest = rw e (stop-run form dot c cs (c == 46) e refl)

-- an element that has begun goes on as far as it can
pub rest-run : (form : Form) (dot : Bool) (cs : List ℕ) → rest_is_dotted form dot true cs ≡ rest_after form dot (drop (run_len form cs) cs)
rest-run form dot [] = end-run form dot
rest-run form dot (c ∷ cs) = run-case form dot c cs (goes_on form c) refl (rest-run form dot cs)

-- the first element, or none
abbrev pub rest_by_len : Form → Bool → List ℕ → Bool
rest_by_len form dot cs = if element_len form cs == 0 then false else rest_after form dot (drop (element_len form cs) cs)

no-element : (form : Form) (dot : Bool) (c : ℕ) (cs : List ℕ) (is_dot : Bool) → starts form c ≡ false → (c == 46) ≡ is_dot → rest_is_dotted form dot false (c ∷ cs) ≡ false
no-element form dot c cs true e d = rest-dot form dot false c cs d
no-element form dot c cs false e d = rw (rest-byte form dot false c cs d, e) refl

element-case : (form : Form) (dot : Bool) (c : ℕ) (cs : List ℕ) (b : Bool) → starts form c ≡ b → rest_is_dotted form dot false (c ∷ cs) ≡ rest_by_len form dot (c ∷ cs)
element-case form dot c cs true e =
    rest-byte form dot false c cs (starts-dot form c e) ∙ rw (e, more-eq (run_len form cs), drop-more (run_len form cs) c cs) (rest-run form dot cs)
element-case form dot c cs false e = rw e (no-element form dot c cs (c == 46) e refl)

pub rest-element : (form : Form) (dot : Bool) (cs : List ℕ) → rest_is_dotted form dot false cs ≡ rest_by_len form dot cs
rest-element form dot [] = end-none form dot
rest-element form dot (c ∷ cs) = element-case form dot c cs (starts form c) refl

-- the same at each length
pub rest-end : (form : Form) (dot : Bool) (cs : List ℕ) → (element_len form cs == 0) ≡ false → drop (element_len form cs) cs ≡ [] → rest_is_dotted form dot false cs ≡ dot
rest-end form dot cs e d = rw (rest-element form dot cs, e, d) refl

pub rest-more : (form : Form) (dot : Bool) (cs : List ℕ) (c : ℕ) (after : List ℕ) → (element_len form cs == 0) ≡ false
    → drop (element_len form cs) cs ≡ c ∷ after → rest_is_dotted form dot false cs ≡ (c == 46 && rest_is_dotted form true false after)
rest-more form dot cs c after e d = rw (rest-element form dot cs, e, d) refl

-- a text is one element where its element is all of it
suc-eq : (n m : ℕ) → (1 + n == suc m) ≡ (n == m)
suc-eq n m = grind (arith, nat_tests)

zero-eq : (m : ℕ) → (0 == suc m) ≡ false
zero-eq m = grind (arith, nat_tests)

run-all-case : (form : Form) (c : ℕ) (cs : List ℕ) (b : Bool) → goes_on form c ≡ b
    → (run_len form cs == length cs) ≡ list_all (goes_on form) cs
    → (run_len form (c ∷ cs) == length (c ∷ cs)) ≡ list_all (goes_on form) (c ∷ cs)
run-all-case form c cs true e rest = rw e (rw (suc-eq (run_len form cs) (length cs)) rest)
run-all-case form c cs false e rest = rw e (zero-eq (length cs))

run-all : (form : Form) (cs : List ℕ) → (run_len form cs == length cs) ≡ list_all (goes_on form) cs
run-all form [] = refl
run-all form (c ∷ cs) = run-all-case form c cs (goes_on form c) refl (run-all form cs)

element-all : (form : Form) (c : ℕ) (cs : List ℕ) (b : Bool) → starts form c ≡ b → (element_len form (c ∷ cs) == length (c ∷ cs)) ≡ is_element form (c ∷ cs)
element-all form c cs true e = rw e (rw (suc-eq (run_len form cs) (length cs)) (run-all form cs))
element-all form c cs false e = rw e (zero-eq (length cs))

pub element-whole : (form : Form) (text : List ℕ) → (length text == 0) ≡ false → (element_len form text == length text) ≡ is_element form text
element-whole form [] e = cc
element-whole form (c ∷ cs) e = element-all form c cs (starts form c) refl

pub run-within : (form : Form) (cs : List ℕ) → run_len form cs ≤ length cs
run-within form [] = omega arith
run-within form (c ∷ cs) = grind (arith, nat_tests, run-within form cs)

pub run-found : (n m : ℕ) → n ≤ m → unwrap_or (cond (ltb n m) (Some n) None) m ≡ n
run-found n m h = grind (arith, nat_tests)
