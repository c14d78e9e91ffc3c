-- The answer Poller, and what was told with it.
use Rattle.std.proofs.Common.{◌≡◌, List, [], ◌∷◌, ◌++◌, Option, Some, None, Result, Ok, Err, IsErrAnd, refl, sym, ◌∙◌, ap, subst}
use Rattle.std.proofs.lemmas.List.{append_assoc, append_cancel_right}
use Rattle.std.proofs.lemmas.Option.{none-some, same_Some}
use Rattle.react_core.specs.declared.outside.Event.{Event}
use Rattle.react_core.specs.declared.reactor.ReactError.{ReactError}
use Rattle.react_core.specs.declared.reactor.ReactError.TheVariants as react_error
use Rattle.react_core.specs.Told.{told}
use Rattle.bus_visit.specs.Failing.{IfPoller, OnPoller}

-- behind a `?` the answer is the inner refusal
pub on-poller : {T : Type 0} (P : Type 0) (result : Result T ReactError) (e : ReactError) →
    IsErrAnd result (λ y. y ≡ e) → IfPoller e P → OnPoller result P
on-poller P (Ok v) e is p = absurd is
on-poller P (Err y) e is p = let Q : ReactError → Type 0 = λ x. IfPoller x P in subst Q (sym is) p

-- what is owed of this refusal, where it is Poller
pub at-poller : (P : Type 0) (e : ReactError) → (e ≡ react_error.Poller → P) → IfPoller e P
at-poller P react_error.Poller f = f refl
at-poller P react_error.OutOfMemory f = tt
at-poller P (react_error.Exhausted c value) f = tt

-- where one thing holds at Poller, so does what follows from it
pub if-poller-by : (P Q : Type 0) (e : ReactError) → (P → Q) → IfPoller e P → IfPoller e Q
if-poller-by P Q react_error.Poller f p = f p
if-poller-by P Q react_error.OutOfMemory f p = tt
if-poller-by P Q (react_error.Exhausted c value) f p = tt

pub on-poller-by : {T : Type 0} (P Q : Type 0) (r : Result T ReactError) → (P → Q) → OnPoller r P → OnPoller r Q
on-poller-by P Q (Ok v) f p = tt
on-poller-by P Q (Err e) f p = if-poller-by P Q e f p

-- where an event was told behind these, other events may stand in its place
pub told-instead : (r1 r0 : Option (List Event)) (a : List Event) (m : Event) → told r1 (m ∷ []) ≡ told r0 (a ++ m ∷ []) →
    (b : List Event) → told r1 b ≡ told r0 (a ++ b)
told-instead None None a m e b = refl
told-instead None (Some y) a m e b = absurd (none-some _ e)
told-instead (Some x) None a m e b = absurd (none-some _ (sym e))
told-instead (Some x) (Some y) a m e b =
    let same : x ++ m ∷ [] ≡ (y ++ a) ++ m ∷ [] = same_Some _ _ e ∙ sym (append_assoc y a (m ∷ [])) in
    ap (λ z. Some (z ++ b)) (append_cancel_right x (y ++ a) (m ∷ []) same) ∙ ap Some (append_assoc y a b)
