-- Lists of steps, and why a list of kinds was refused.
use Rattle.std.proofs.Common.{◌≡◌, suc, List, [], ◌∷◌, ◌++◌, Some, take, length, refl, sym, ap, ◌∙◌}
use Rattle.std.specs.Prelude.{slice_get}
use Rattle.react_steps.specs.declared.kind.Kind.{Kind}
use Rattle.react_steps.specs.declared.kind.StepError.{StepError}
use Rattle.react_steps.specs.declared.kind.StepError.TheVariants.{Disabled, OutOfMemory}
use Rattle.react_steps.specs.declared.kind.Taken.{Taken}
use Rattle.react_steps.specs.History.{Past, kinds_of, IsRefused, IsRefusedNext}

module _ {T : Type 0} where
  taken : (xs ys : List T) → take (length xs) (xs ++ ys) ≡ xs
  taken [] ys = refl
  taken (x ∷ xs) ys = ap (λ (l : List T). x ∷ l) (taken xs ys)

  there : (xs ys : List T) (y : T) → slice_get (xs ++ y ∷ ys) (length xs) ≡ Some y
  there [] ys y = refl
  there (x ∷ xs) ys y = there xs ys y

as-long : (history : List Taken) → length (kinds_of history) ≡ length history
as-long [] = refl
as-long (t ∷ history) = ap suc (as-long history)

pub refused-next : (kinds rest : List Kind) (past : Past) (kind : Kind) (e : StepError) → kinds_of past.history ++ kind ∷ rest ≡ kinds → IsRefusedNext past kind e → IsRefused kinds e
refused-next kinds rest past kind OutOfMemory all next = tt
refused-next kinds rest past kind (Disabled index) all next =
    let at : index ≡ length (kinds_of past.history) = next.index ∙ sym (as-long past.history) in
    record {
      world = past.world;
      kind = kind;
      before = (past.history, sym (ap (λ ks. take index ks) (sym all) ∙ ap (λ n. take n (kinds_of past.history ++ kind ∷ rest)) at ∙ taken (kinds_of past.history) (kind ∷ rest)), next.before);
      there = ap (λ ks. slice_get ks index) (sym all) ∙ ap (slice_get (kinds_of past.history ++ kind ∷ rest)) at ∙ there (kinds_of past.history) rest kind;
      disabled = next.disabled;
    }
