-- What a result says, carried over to what a caller says.
use Rattle.std.proofs.Common.{Result, Ok, Err, cond, refl, ◌≡◌, ℕ, List}
use Rattle.std.specs.Result.{is_ok}
use Rattle.std.specs.Prelude.{OnOk, IfErr, IsOk, MatchResult}
use Rattle.log_text.specs.declared.text_end.Stop.{Stop}
use Rattle.log_text.specs.declared.text_end.Stop.TheVariants.{Bad, NoMemory}
use Rattle.log_text.specs.Reading.{WhenBad}

pub on_ok : {T E : Type 0} (r : Result T E) (P Q : Type 0) → (P → Q) → OnOk r P → OnOk r Q
on_ok (Ok x) P Q f p = f p
on_ok (Err e) P Q f p = tt

pub when_bad : (e : Stop) (P Q : Type 0) → (P → Q) → WhenBad e P → WhenBad e Q
when_bad Bad P Q f p = f p
when_bad NoMemory P Q f p = tt

pub if_bad : {T : Type 0} (r : Result T Stop) (P Q : Type 0) → (P → Q) → IfErr r (λ e. WhenBad e P) → IfErr r (λ e. WhenBad e Q)
if_bad (Ok x) P Q f p = tt
if_bad (Err e) P Q f p = when_bad e P Q f p

pub not_err : {T E : Type 0} (r : Result T E) (U : Type 0) (P : T → Type 0) (Q : E → Type 0) → MatchResult r P (λ e. (U → ⊥) × Q e) → U → IsOk r
not_err (Ok x) U P Q h u = refl
not_err (Err e) U P Q h u = absurd (h.0 u)

pub on_ok_text : {T E : Type 0} (r : Result T E) (new more old : List ℕ) → new ≡ cond (is_ok r) more old → OnOk r (new ≡ more)
on_ok_text (Ok x) new more old e = e
on_ok_text (Err x) new more old e = tt
