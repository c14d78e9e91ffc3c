-- Armings of which none was refused.
use Rattle.std.specs.Prelude.{◌≡◌, List, [], ◌∷◌, ◌++◌, map, Result, Ok, Err}
use Rattle.std.proofs.Common.{refl, ap, ◌∙◌}
use Rattle.react_core.specs.declared.outside.Fault.{Fault}
use Rattle.react_core.specs.declared.outside.Fault.TheVariants as fault
use Rattle.react_core.specs.declared.reactor.ReactError.{ReactError}
use Rattle.react_core.specs.declared.reactor.ReactError.TheVariants.{Poller, OutOfMemory, Exhausted}
use Rattle.react_core.specs.Reports.{Arming, Try, tries_told, armed_told, worse, worst, try_answer}
use Rattle.react_core.specs.Told.{modify_told}

worse-both : (a b : Result (Unit {0}) ReactError) → worse a b ≡ Ok tt → (a ≡ Ok tt) × (b ≡ Ok tt)
worse-both (Ok u) b is = (refl, is)
worse-both (Err Poller) b is = absurd (cc)
worse-both (Err OutOfMemory) (Ok u) is = absurd (cc)
worse-both (Err OutOfMemory) (Err Poller) is = absurd (cc)
worse-both (Err OutOfMemory) (Err OutOfMemory) is = absurd (cc)
worse-both (Err OutOfMemory) (Err (Exhausted c v)) is = absurd (cc)
worse-both (Err (Exhausted c v)) (Ok u) is = absurd (cc)
worse-both (Err (Exhausted c v)) (Err Poller) is = absurd (cc)
worse-both (Err (Exhausted c v)) (Err OutOfMemory) is = absurd (cc)
worse-both (Err (Exhausted c v)) (Err (Exhausted k w)) is = absurd (cc)

told-ok : (a : Arming) (f : Result (Unit {0}) Fault) → try_answer f ≡ Ok tt →
    modify_told a.wire a.key a.read a.write f ≡ armed_told a ∷ []
told-ok a (Ok u) is = refl
told-ok a (Err fault.Failed) is = absurd (cc)
told-ok a (Err fault.OutOfMemory) is = absurd (cc)

pub tries_told-ok : (tries : List Try) → worst tries ≡ Ok tt → tries_told tries ≡ map armed_told (map (λ t. t.0) tries)
tries_told-ok [] is = refl
tries_told-ok (t ∷ tries) is =
    let both = worse-both (try_answer t.1) (worst tries) is in
    ap (λ es. modify_told t.0.wire t.0.key t.0.read t.0.write t.1 ++ es) (tries_told-ok tries both.1)
    ∙ ap (λ es. es ++ map armed_told (map (λ u. u.0) tries)) (told-ok t.0 t.1 both.0)

pub tries-ok : (armings : List Arming) (tries : List Try) → map (λ t. t.0) tries ≡ armings → worst tries ≡ Ok tt →
    tries_told tries ≡ map armed_told armings
tries-ok armings tries each is = tries_told-ok tries is ∙ ap (map armed_told) each
