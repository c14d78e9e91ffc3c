-- The text of a signature that was read is at most two bytes longer than what was read.
use Rattle.std.proofs.Common.{◌≡◌, ◌+◌, ◌≤◌, ◌<◌, ◌^◌, ℕ, List, [], ◌∷◌, ◌++◌, length, sym, ap, ◌∙◌, arith, Result, Ok, Err}
use Rattle.std.specs.Prelude.{codes, IfOk}
use Rattle.std.proofs.lemmas.List.{append-nil, length-append}
use Rattle.bus_signature.specs.declared.signature.Signature.{Signature}
use Rattle.bus_signature.specs.declared.error.Error.{Error}
use Rattle.bus_signature.specs.Texts.{text, texts}
use Rattle.bus_signature.specs.Grammar.{whole, Read}
use Rattle.bus_signature.specs.Measures.{Fits}
use Rattle.bus_signature.proofs.Cases.{text_unit}
use Rattle.bus_signature.proofs.TextLemmas.{text_structure}

whole_length : (types : List Signature) (s : Signature) (bytes : List ℕ) → s ≡ whole types → bytes ≡ texts types → length (text s) ≤ length bytes + 2
whole_length [] s bytes is spelled = let e : length (text s) ≡ 0 = ap (λ (t : Signature). length (text t)) is ∙ ap length text_unit in omega (arith, e)
whole_length (one ∷ []) s bytes is spelled =
    let e : length (text s) ≡ length bytes = ap (λ (t : Signature). length (text t)) is ∙ ap length (sym (append-nil (text one)) ∙ sym spelled) in
    omega (arith, e)
whole_length (one ∷ two ∷ more) s bytes is spelled =
    let types : List Signature = one ∷ two ∷ more in
    let e : length (text s) ≡ length (codes "(" ++ texts types ++ codes ")") = ap (λ (t : Signature). length (text t)) is ∙ ap length (text_structure types) in
    let f : length (codes "(" ++ texts types ++ codes ")") ≡ length (codes "(" ++ texts types) + 1 = length-append (codes "(" ++ texts types) (codes ")") in
    let g : length (codes "(" ++ texts types) ≡ 1 + length (texts types) = length-append (codes "(") (texts types) in
    let h : length bytes ≡ length (texts types) = ap length spelled in
    omega (arith, e, f, g, h)

pub read_fits : (bytes : List ℕ) → length bytes < 2 ^ 63 → (r : Result Signature Error) → Read bytes r → IfOk r (λ s. Fits s)
read_fits bytes short (Ok s) it = let e = whole_length it.types s bytes it.is it.spelled in omega (arith, e, short)
read_fits bytes short (Err e) it = tt
