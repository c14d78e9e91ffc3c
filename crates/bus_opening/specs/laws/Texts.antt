-- The text of a line, and of bytes.
use Rattle.std.proofs.Common.{◌≡◌, ℕ, ◌+◌, ◌<◌, Bool, true, false, cond, eqb, List, [], ◌∷◌, length, take, Option}
use Rattle.std.proofs.Common.{Some, None, refl, sym, ap, ◌∙◌, ◌&&◌, arith}
use Rattle.std.specs.Prelude.{slice_index}
use Rattle.std.specs.Str.{is_utf8, IsUtf8}
use Rattle.std.proofs.lemmas.Str.{IsUtf8-from_is_utf8, is_utf8-from_IsUtf8}
use Rattle.bus_opening.specs.Client.{text_of_line}

-- what stands before this place, where CR stands there
abbrev text_before : List ℕ → ℕ → Option (List ℕ)
text_before line end = cond (eqb (slice_index line end) 13 && is_utf8 (take end line)) (Some (take end line)) None

before_end : (line : List ℕ) (end : ℕ) → length line ≡ end + 2 → text_of_line line ≡ text_before line end
before_end [] end e = absurd (omega (arith, e))
before_end (c ∷ []) end e = absurd (omega (arith, e))
before_end (c ∷ d ∷ more) end e =
    let m : length more ≡ end = omega (arith, e) in
    rw m refl

pub line_short : (line : List ℕ) → length line < 2 → None ≡ text_of_line line
line_short [] h = refl
line_short (c ∷ []) h = refl
line_short (c ∷ d ∷ more) h = absurd (omega (arith, h))

no_text : (a b : Bool) (text : List ℕ) → b ≡ false → cond (a && b) (Some text) None ≡ None
no_text true b text e = rw e refl
no_text false b text e = refl

not_utf8 : (b : Bool) (text : List ℕ) → is_utf8 text ≡ b → (IsUtf8 text → ⊥) → b ≡ false
not_utf8 true text e n = absurd (n (IsUtf8-from_is_utf8 text e))
not_utf8 false text e n = refl

pub line_none : (line : List ℕ) (end : ℕ) → length line ≡ end + 2 → (IsUtf8 (take end line) → ⊥) →
    None ≡ text_of_line line
line_none line end e n = sym (before_end line end e
    ∙ no_text _ (is_utf8 (take end line)) (take end line) (not_utf8 _ (take end line) refl n))

pub line_some : (line text : List ℕ) (end : ℕ) → length line ≡ end + 2 → slice_index line end ≡ 13 →
    text ≡ take end line → IsUtf8 (take end line) → Some text ≡ text_of_line line
line_some line text end e f g u =
    let whole : is_utf8 (take end line) ≡ true = is_utf8-from_IsUtf8 _ u in
    sym (before_end line end e ∙ rw (f, whole) (ap (λ (t : List ℕ). Some t) (sym g)))

-- whether bytes are text
pub text_is : (bytes : List ℕ) → IsUtf8 bytes → true ≡ is_utf8 bytes
text_is bytes u = sym (is_utf8-from_IsUtf8 bytes u)

pub text_not : (bytes : List ℕ) → (IsUtf8 bytes → ⊥) → false ≡ is_utf8 bytes
text_not bytes n = sym (not_utf8 (is_utf8 bytes) bytes refl n)

-- bytes as a text, where they are one
pub text_some : (bytes text : List ℕ) → text ≡ bytes → IsUtf8 bytes → Some text ≡ cond (is_utf8 bytes) (Some bytes) None
text_some bytes text e u = rw (e, ← text_is bytes u) refl

pub text_none : (bytes : List ℕ) → (IsUtf8 bytes → ⊥) → None ≡ cond (is_utf8 bytes) (Some bytes) None
text_none bytes n = rw (← text_not bytes n) refl
