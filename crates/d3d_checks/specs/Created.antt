-- The shader that a call creates.
use Rattle.std.specs.Prelude.{ℕ, Bool, false, List, Option, None, Some}
use Rattle.std.specs.Option.{option_and_then, option_map_or}
use Rattle.call_log.specs.Call as calls
use Rattle.call_log.specs.Call.{Call}
use Rattle.d3d_model.specs.D3dState.{Shader}
use Rattle.d3d_model.specs.Shader.{decodes}
use Rattle.d3d_state.specs.Shaders.{shader_from}

-- the token bytes of a call that creates a shader
abbrev pub token_words : Call → Option (List ℕ)
token_words (calls.CreateShader id words) = Some words
token_words _ = None

-- the call creates a shader, and its token bytes spell one
abbrev pub spells_shader : Call → Bool
spells_shader c = option_map_or decodes (token_words c) false

-- the shader that call n creates; none where its token bytes spell none
abbrev pub shader_made : ℕ → Call → Option Shader
shader_made n c = option_and_then (shader_from n) (token_words c)
