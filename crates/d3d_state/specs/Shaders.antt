-- Live shaders: what their token bytes spell, and how they are stored.
use Rattle.std.specs.Prelude.{refl, ℕ, List, Option, None, Some, if◌then◌else◌}
use Rattle.std.specs.Coded.{Coded, code_by, coded×, coded_ℕ, coded_list}
use Rattle.shader_model.specs.Shader.{Program, shader_of}
use Rattle.base_lemmas.specs.IdMap as ids
use Rattle.base_lemmas.specs.IdMap.{IdMap}
use Rattle.d3d_model.specs.D3dState as model
use Rattle.d3d_model.specs.Shader.{decodes}

-- the live shaders
abbrev pub Shaders : Type 0
Shaders = IdMap model.Shader

abbrev pub shader_code : Coded model.Shader
shader_code = code_by (ℕ × List ℕ) (coded× coded_ℕ (coded_list coded_ℕ)) (λ s. (s.call, s.words)) (λ p. record { call = p.0; words = p.1 }) (λ s. refl)

abbrev pub shaders_code : Coded Shaders
shaders_code = ids.code shader_code

-- the program that token bytes spell, if they spell one
unfoldable pub program_by : List ℕ → Option Program
program_by words = shader_of words

-- the shader that a call creates of these token bytes; none where they spell none
abbrev pub shader_from : ℕ → List ℕ → Option model.Shader
shader_from call words = if decodes words then Some (record { call = call; words = words }) else None
