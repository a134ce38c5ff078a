-- A body fits its kind where it has the fields of the kind's layout.
use Rattle.std.proofs.Common.{◌≡◌, ℕ, true, Option, Some, None, List, refl, sym, ap, ◌∙◌}
use Rattle.std.specs.Option.{option_map}
use Rattle.call_log.specs.Body.{fits, fits_known, fits_layout}
use Rattle.call_log.specs.Kinds.{Kind, kind_numbered}

known : (o : Option Kind) (body : List ℕ) → fits_known (option_map (λ k. k.layout) o) body ≡ true → (k : Kind) × (o ≡ Some k) × (fits_layout k.layout body ≡ true)
known None body e = absurd cc
known (Some k) body e = (k, refl, e)

-- the kind that a body fits
pub kind_of_fit : (number : ℕ) (body : List ℕ) → fits number body ≡ true → (k : Kind) × (kind_numbered number ≡ Some k) × (fits_layout k.layout body ≡ true)
kind_of_fit number body e = known (kind_numbered number) body e

pub fit_of_kind : (number : ℕ) (body : List ℕ) (k : Kind) → kind_numbered number ≡ Some k → fits_layout k.layout body ≡ true → fits number body ≡ true
fit_of_kind number body k e is = ap (λ (o : Option Kind). fits_known (option_map (λ j. j.layout) o) body) e ∙ is

pub kind_fits : (number : ℕ) (body : List ℕ) (k : Kind) → kind_numbered number ≡ Some k → fits number body ≡ true → fits_layout k.layout body ≡ true
kind_fits number body k e is = sym (ap (λ (o : Option Kind). fits_known (option_map (λ j. j.layout) o) body) e) ∙ is

pub none_some : (k : Kind) → None ≡ Some k → ⊥
none_some k e = cc
