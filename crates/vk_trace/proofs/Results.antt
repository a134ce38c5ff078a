-- What a result says, carried over to what a caller says.
use Rattle.std.proofs.Common.{Result, Ok, Err, cond, refl, ◌≡◌, Bool, true, false, List, [], ◌∷◌, ◌++◌}
use Rattle.std.specs.Prelude.{OnOk, IsOk, MatchResult}
use Rattle.vk_trace.specs.declared.trace_end.Stop.{Stop}
use Rattle.vk_trace.specs.declared.trace_end.Stop.TheVariants.{Bad, NoMemory}
use Rattle.vk_trace.specs.Reading.{WhenBad}

pub on_ok : {T E : Type 0} (r : Result T E) (P Q : Type 0) → (P → Q) → OnOk r P → OnOk r Q
on_ok (Ok x) P Q f p = f p
on_ok (Err e) P Q f p = tt

pub when_bad : (e : Stop) (P Q : Type 0) → (P → Q) → WhenBad e P → WhenBad e Q
when_bad Bad P Q f p = f p
when_bad NoMemory P Q f p = tt

pub not_err : {T E : Type 0} (r : Result T E) (U : Type 0) (P : T → Type 0) (Q : E → Type 0) → MatchResult r P (λ e. (U → ⊥) × Q e) → U → IsOk r
not_err (Ok x) U P Q h u = refl
not_err (Err e) U P Q h u = absurd (h.0 u)

pub pushed : {A : Type 0} (r : Bool) (got new : List A) (x : A) → new ≡ cond r (got ++ x ∷ []) got → r ≡ true → new ≡ got ++ x ∷ []
pushed true got new x e t = e
pushed false got new x e t = absurd (cc t)
