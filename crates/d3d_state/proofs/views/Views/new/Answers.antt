use Rattle.std.proofs.Common.{List, ℕ, ap, ◌∙◌}
use Rattle.dx_types.specs.declared.shape.ViewShape.{ViewShape}
use Rattle.base_lemmas.specs.CodeMap.{map_of}
use Rattle.base_lemmas.proofs.CodeMaps.{map_of-nil}
use Rattle.d3d_state.proofs.Counts.{counted-empty}
use Rattle.d3d_state.proofs.views.Views.new.Goals as goal

pub invariant_of-result : goal.invariant_of-result
invariant_of-result c = rw (c.new.ensures.empty, c.new-2.ensures.empty, map_of-nil (λ (s : ViewShape). s)) counted-empty

pub returns : goal.returns
returns c = ap (λ (es : List (ℕ × ViewShape)). map_of (λ s. s) es) c.new.ensures.empty ∙ map_of-nil (λ (s : ViewShape). s)
