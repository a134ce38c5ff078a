use Rattle.std.proofs.Common.{List, ℕ, ap, ◌∙◌}
use Rattle.base_lemmas.specs.CodeMap.{map_of}
use Rattle.d3d_model.specs.D3dState.{Shader}
use Rattle.base_lemmas.proofs.CodeMaps.{map_of-nil}
use Rattle.d3d_state.proofs.shaders.Shaders.new.Goals as goal

pub returns : goal.returns
returns c = ap (λ (es : List (ℕ × Shader)). map_of (λ s. s) es) c.new.ensures.empty ∙ map_of-nil (λ (s : Shader). s)
