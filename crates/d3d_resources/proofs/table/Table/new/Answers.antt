use Rattle.std.proofs.Common.{List, ℕ, sym, ap, subst, ◌∙◌, ◌∷◌, []}
use Rattle.dx_types.specs.declared.shape.Shape.{Shape}
use Rattle.base_lemmas.specs.CodeMap.{map_of}
use Rattle.d3d_model.specs.Resource.{Buffers}
use Rattle.base_lemmas.proofs.CodeMaps.{map_of-nil}
use Rattle.d3d_resources.specs.Totals.{Kept}
use Rattle.d3d_resources.proofs.KeptTotals.{kept-empty}
use Rattle.d3d_resources.proofs.table.Table.new.Goals as goal

pub invariant_of-result : goal.invariant_of-result
invariant_of-result c =
    subst (λ (b : Buffers). Kept b 0 (0 ∷ 0 ∷ 0 ∷ 0 ∷ 0 ∷ 0 ∷ 0 ∷ 0 ∷ []))
    (sym (ap (λ (es : List (ℕ × Shape)). map_of (λ s. s) es) c.new.ensures.empty ∙ map_of-nil (λ (s : Shape). s))) kept-empty

pub returns : goal.returns
returns c = ap (λ (es : List (ℕ × Shape)). map_of (λ s. s) es) c.new.ensures.empty ∙ map_of-nil (λ (s : Shape). s)
