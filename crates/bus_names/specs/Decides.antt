-- Each test of a grammar decides the relation, as the laws of the kinds say.
use Rattle.std.proofs.Common.{◌≡◌, ℕ, ◌≤◌, true, false, not, ◌&&◌, ◌||◌, ◌==◌, nat_le, List, []}
use Rattle.std.proofs.Common.{◌∷◌, length, slice_index_or, refl, sym, ◌∙◌, ap, rules, arith}
use Rattle.std.specs.Bool.{Decides}
use Rattle.std.specs.Char.{is_ascii_alphanumeric}
use Rattle.std.specs.Cmp.{first_so, second_so}
use Rattle.std.specs.Cmp.Lexicographic.{pointwise, bytes_decides}
use Rattle.std.specs.List.{All, list_all, join_with_byte}
use Rattle.std.specs.Prelude.{nat_eq}
use Rattle.std.proofs.lemmas.Bool.{leb-true, le-leb, not-true}
use Rattle.std.proofs.lemmas.Bool.Decides.{nat_tests, Decides-and, Decides-by_and, Decides-eqb, Decides-not, Decides-or}
use Rattle.std.proofs.lemmas.List.Elements.{All-cons, All-head, All-tail}
use Rattle.std.proofs.lemmas.List.Splits.{slice_split_none, slice_split_at, join_with_byte-slice_split}
use Rattle.std.proofs.lemmas.List.Sums.{AllPass-from_list_all}
use Rattle.bus_names.specs.declared.grammar.Form.{Form}
use Rattle.bus_names.specs.declared.grammar.Form.TheVariants.{Plain, Dashed, Numbered}
use Rattle.bus_names.specs.Grammar.{starts, goes_on, is_element, elements, is_dotted, is_connection, is_short}
use Rattle.bus_names.specs.Grammar.{is_interface_name, is_error_name, is_member_name, is_property_name}
use Rattle.bus_names.specs.Grammar.{is_well_known_name, is_unique_name, is_bus_name, the_bus}
use Rattle.bus_names.specs.ValidNames.{IsDigit, IsInterfaceByte, IsBusByte, IsInterfaceElement, IsWellKnownElement}
use Rattle.bus_names.specs.ValidNames.{IsUniqueElement, IsDotted, IsConnection, IsInterfaceName, IsErrorName}
use Rattle.bus_names.specs.ValidNames.{IsMemberName, IsPropertyName, IsWellKnownName, IsUniqueName, IsBusName}

Decides-nat_le : (a b : ℕ) → Decides (nat_le a b) (a ≤ b)
Decides-nat_le a b = (leb-true a b, le-leb a b)

-- what a byte of an element is
abbrev IsByte : Form → ℕ → Type 0
IsByte Plain c = IsInterfaceByte c
IsByte Dashed c = IsBusByte c
IsByte Numbered c = IsBusByte c

-- what the first byte is beside that
abbrev IsFirst : Form → ℕ → Type 0
IsFirst Plain c = ¬ IsDigit c
IsFirst Dashed c = ¬ IsDigit c
IsFirst Numbered c = Unit {0}

-- what an element is
abbrev IsPart : Form → List ℕ → Type 0
IsPart Plain text = IsInterfaceElement text
IsPart Dashed text = IsWellKnownElement text
IsPart Numbered text = IsUniqueElement text

interface-byte-to : (c : ℕ) → (is_ascii_alphanumeric c || c == 95) ≡ true → IsInterfaceByte c
interface-byte-to c e = grind (arith, nat_tests)

interface-byte-from : (c : ℕ) → IsInterfaceByte c → (is_ascii_alphanumeric c || c == 95) ≡ true
interface-byte-from c h = grind (arith, nat_tests)

Decides-interface_byte : (c : ℕ) → Decides (is_ascii_alphanumeric c || c == 95) (IsInterfaceByte c)
Decides-interface_byte c = (interface-byte-to c, interface-byte-from c)

Decides-goes_on : (form : Form) (c : ℕ) → Decides (goes_on form c) (IsByte form c)
Decides-goes_on Plain c = Decides-interface_byte c
Decides-goes_on Dashed c =
    Decides-or (is_ascii_alphanumeric c || c == 95) (c == 45) (Decides-interface_byte c) (Decides-eqb c 45)
Decides-goes_on Numbered c =
    Decides-or (is_ascii_alphanumeric c || c == 95) (c == 45) (Decides-interface_byte c) (Decides-eqb c 45)

-- a first byte is a later one that is no digit, but in the names of connections
starts-goes_on : (form : Form) (c : ℕ) → starts form c ≡ true → goes_on form c ≡ true
starts-goes_on Plain c e = grind (arith, nat_tests)
starts-goes_on Dashed c e = grind (arith, nat_tests)
starts-goes_on Numbered c e = e

starts-first : (form : Form) (c : ℕ) → starts form c ≡ true → IsFirst form c
starts-first Plain c e = λ d. grind (arith, nat_tests)
starts-first Dashed c e = λ d. grind (arith, nat_tests)
starts-first Numbered c e = tt

digit-not : (c : ℕ) → ¬ IsDigit c → (nat_le 48 c && nat_le c 57) ≡ false
digit-not c h =
    not-true (nat_le 48 c && nat_le c 57)
    ((Decides-not (nat_le 48 c && nat_le c 57)
    (Decides-and (nat_le 48 c) (nat_le c 57) (Decides-nat_le 48 c) (Decides-nat_le c 57))).1
    h)

first-starts : (form : Form) (c : ℕ) → goes_on form c ≡ true → IsFirst form c → starts form c ≡ true
first-starts Plain c e h = let d = digit-not c h in grind (arith, nat_tests)
first-starts Dashed c e h = let d = digit-not c h in grind (arith, nat_tests)
first-starts Numbered c e h = e

Decides-all_bytes : (form : Form) (cs : List ℕ) → Decides (list_all (goes_on form) cs) (All (IsByte form) cs)
Decides-all_bytes form cs =
    Decides-by_and (goes_on form) (IsByte form) (list_all (goes_on form)) (Decides-goes_on form) refl (λ _ _. refl) cs

-- an element, by its first byte and the others
part-to : (form : Form) (c : ℕ) (cs : List ℕ) → All (IsByte form) (c ∷ cs) → IsFirst form c → IsPart form (c ∷ cs)
part-to Plain c cs all first = ((omega arith, all), first)
part-to Dashed c cs all first = ((omega arith, all), first)
part-to Numbered c cs all first = (omega arith, all)

part-all : (form : Form) (text : List ℕ) → IsPart form text → (1 ≤ length text) × All (IsByte form) text
part-all Plain text h = h.0
part-all Dashed text h = h.0
part-all Numbered text h = h

part-first : (form : Form) (c : ℕ) (cs : List ℕ) → IsPart form (c ∷ cs) → IsFirst form c
part-first Plain c cs h = h.1
part-first Dashed c cs h = h.1
part-first Numbered c cs h = tt

element-to : (form : Form) (text : List ℕ) → is_element form text ≡ true → IsPart form text
element-to form [] e = search rules
element-to form (c ∷ cs) e =
    let first = first_so (starts form c) (list_all (goes_on form) cs) e in
    let byte = (Decides-goes_on form c).0 (starts-goes_on form c first) in
    let later = (Decides-all_bytes form cs).0 (second_so (starts form c) (list_all (goes_on form) cs) e) in
    part-to form c cs (All-cons (IsByte form) c cs byte later) (starts-first form c first)

element-from : (form : Form) (text : List ℕ) → IsPart form text → is_element form text ≡ true
element-from form [] h = let some = (part-all form [] h).0 in absurd (omega arith)
element-from form (c ∷ cs) h =
    let all = (part-all form (c ∷ cs) h).1 in
    let byte = (Decides-goes_on form c).1 (All-head (IsByte form) c cs all) in
    let later = (Decides-all_bytes form cs).1 (All-tail (IsByte form) c cs all) in
    rw (first-starts form c byte (part-first form c cs h), later) refl

Decides-is_element : (form : Form) (text : List ℕ) → Decides (is_element form text) (IsPart form text)
Decides-is_element form text = (element-to form text, element-from form text)

Decides-list_all : (form : Form) (es : List (List ℕ)) → Decides (list_all (is_element form) es) (All (IsPart form) es)
Decides-list_all form es =
    Decides-by_and (is_element form) (IsPart form) (list_all (is_element form)) (Decides-is_element form) refl
    (λ _ _. refl) es

-- no byte of an element is a dot
pub goes_on-dot : (form : Form) (c : ℕ) → goes_on form c ≡ true → (c == 46) ≡ false
goes_on-dot Plain c e = grind (arith, nat_tests)
goes_on-dot Dashed c e = grind (arith, nat_tests)
goes_on-dot Numbered c e = grind (arith, nat_tests)

pub starts-dot : (form : Form) (c : ℕ) → starts form c ≡ true → (c == 46) ≡ false
starts-dot Plain c e = grind (arith, nat_tests)
starts-dot Dashed c e = grind (arith, nat_tests)
starts-dot Numbered c e = grind (arith, nat_tests)

rest-dotless : (form : Form) (cs : List ℕ) → list_all (goes_on form) cs ≡ true → list_all (λ c. not (c == 46)) cs ≡ true
rest-dotless form [] e = refl
rest-dotless form (c ∷ cs) e =
    rw (
      goes_on-dot form c (first_so (goes_on form c) (list_all (goes_on form) cs) e),
      rest-dotless form cs (second_so (goes_on form c) (list_all (goes_on form) cs) e),
    )
    refl

dotless : (form : Form) (text : List ℕ) → is_element form text ≡ true → list_all (λ c. not (c == 46)) text ≡ true
dotless form [] e = refl
dotless form (c ∷ cs) e =
    rw (
      starts-dot form c (first_so (starts form c) (list_all (goes_on form) cs) e),
      rest-dotless form cs (second_so (starts form c) (list_all (goes_on form) cs) e),
    )
    refl

All-dotless : (form : Form) (text : List ℕ) → is_element form text ≡ true → All (λ c. (c == 46) ≡ false) text
All-dotless form text e k d h =
    not-true (slice_index_or text k d == 46)
    (AllPass-from_list_all (λ c. not (c == 46)) text (dotless form text e) k d h)

-- elements that are joined are found again
elements-join : (form : Form) (e : List ℕ) (es : List (List ℕ)) → list_all (is_element form) (e ∷ es) ≡ true
    → elements (join_with_byte 46 (e ∷ es)) ≡ e ∷ es
elements-join form e [] h =
    slice_split_none (λ c. c == 46) e (All-dotless form e (first_so (is_element form e) true h))
elements-join form e (f ∷ fs) h =
    slice_split_at (λ c. c == 46) e 46 (join_with_byte 46 (f ∷ fs))
    (All-dotless form e (first_so (is_element form e) (list_all (is_element form) (f ∷ fs)) h)) refl
    ∙ ap (λ r. e ∷ r)
    (elements-join form f fs (second_so (is_element form e) (list_all (is_element form) (f ∷ fs)) h))

dotted-to : (form : Form) (text : List ℕ) → is_dotted form text ≡ true → IsDotted (IsPart form) text
dotted-to form text e =
    let long = Decides-nat_le 2 (length (elements text)) in
    let all = Decides-list_all form (elements text) in
    let h =
    (Decides-and (nat_le 2 (length (elements text))) (list_all (is_element form) (elements text)) long all).0 e in
    (elements text, h.0, h.1, sym (join_with_byte-slice_split 46 text))

dotted-from : (form : Form) (es : List (List ℕ)) → 2 ≤ length es → All (IsPart form) es
    → is_dotted form (join_with_byte 46 es) ≡ true
dotted-from form [] two all = search rules
dotted-from form (e ∷ es) two all =
    let passes = (Decides-list_all form (e ∷ es)).1 all in
    rw (elements-join form e es passes, le-leb 2 (length (e ∷ es)) two, passes) refl

Decides-is_dotted : (form : Form) (text : List ℕ) → Decides (is_dotted form text) (IsDotted (IsPart form) text)
Decides-is_dotted form text = (dotted-to form text, (λ h. rw h.3 (dotted-from form h.0 h.1 h.2)))

connection-to : (text : List ℕ) → is_connection text ≡ true → IsConnection text
connection-to [] e = search rules
connection-to (c ∷ cs) e =
    let h = (Decides-and (c == 58) (is_dotted Numbered cs) (Decides-eqb c 58) (Decides-is_dotted Numbered cs)).0 e in
    (cs, ap (λ x. x ∷ cs) h.0, h.1)

Decides-is_connection : (text : List ℕ) → Decides (is_connection text) (IsConnection text)
Decides-is_connection text = (connection-to text, (λ h. rw h.1 ((Decides-is_dotted Numbered h.0).1 h.2)))

Decides-is_short : (text : List ℕ) → Decides (is_short text) (length text ≤ 255)
Decides-is_short text = Decides-nat_le (length text) 255

pub Decides-is_interface_name : (text : List ℕ) → Decides (is_interface_name text) (IsInterfaceName text)
Decides-is_interface_name text =
    Decides-and (is_short text) (is_dotted Plain text) (Decides-is_short text) (Decides-is_dotted Plain text)

pub Decides-is_error_name : (text : List ℕ) → Decides (is_error_name text) (IsErrorName text)
Decides-is_error_name text =
    Decides-and (is_short text) (is_dotted Plain text) (Decides-is_short text) (Decides-is_dotted Plain text)

pub Decides-is_member_name : (text : List ℕ) → Decides (is_member_name text) (IsMemberName text)
Decides-is_member_name text =
    Decides-and (is_short text) (is_element Plain text) (Decides-is_short text) (Decides-is_element Plain text)

pub Decides-is_property_name : (text : List ℕ) → Decides (is_property_name text) (IsPropertyName text)
Decides-is_property_name text =
    Decides-and (nat_le 1 (length text)) (is_short text) (Decides-nat_le 1 (length text)) (Decides-is_short text)

pub Decides-is_well_known_name : (text : List ℕ) → Decides (is_well_known_name text) (IsWellKnownName text)
Decides-is_well_known_name text =
    Decides-and (is_short text) (is_dotted Dashed text) (Decides-is_short text) (Decides-is_dotted Dashed text)

pub Decides-is_unique_name : (text : List ℕ) → Decides (is_unique_name text) (IsUniqueName text)
Decides-is_unique_name text =
    let same = bytes_decides text the_bus in
    let either = Decides-or (pointwise nat_eq text the_bus) (is_connection text) same (Decides-is_connection text) in
    Decides-and (is_short text) (pointwise nat_eq text the_bus || is_connection text) (Decides-is_short text) either

pub Decides-is_bus_name : (text : List ℕ) → Decides (is_bus_name text) (IsBusName text)
Decides-is_bus_name text =
    Decides-or (is_unique_name text) (is_well_known_name text) (Decides-is_unique_name text)
    (Decides-is_well_known_name text)
