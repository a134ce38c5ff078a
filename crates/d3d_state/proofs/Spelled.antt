-- What token bytes spell, by what decoding them finds.
use Rattle.std.proofs.Common.{◌≡◌, ℕ, Bool, true, false, List, [], Option, Some, None, refl, sym, ap, ◌∙◌}
use Rattle.std.specs.Prelude.{is_some, if◌then◌else◌}
use Rattle.shader_model.specs.Shader.{Program, program_unless, shader_of, spelled_by}
use Rattle.shader_model.specs.declared.fault.ShaderFault.{ShaderFault}
use Rattle.shader_model.specs.Faults.{first_bad_of_bytes}
use Rattle.base_lemmas.specs.ByteWords.{words_of}
use Rattle.d3d_model.specs.D3dState as model
use Rattle.d3d_model.specs.Shader.{decodes, declared_by, declared_if, group_if, group_of, ran_dispatch, ran_if}
use Rattle.d3d_state.specs.Shaders.{program_by, shader_from}
use Rattle.shader_model.specs.Invocation.{Slots}

-- no bytes spell nothing
pub none_spelled : program_by [] ≡ None
unfolding program_by
none_spelled = refl

-- where no shader is, none is spelled
pub none_set : (o : Option model.Shader) → None ≡ o → None ≡ program_by (model.words_if o)
none_set o e = sym none_spelled ∙ ap (λ (x : Option model.Shader). program_by (model.words_if x)) e

pub decodes_by : (words : List ℕ) → decodes words ≡ is_some (program_by words)
unfolding decodes program_by
decodes_by words = refl

pub group_spelled : (words : List ℕ) → group_of words ≡ group_if (program_by words)
unfolding group_of program_by
group_spelled words = refl

pub declared_spelled : (words : List ℕ) → declared_by words ≡ declared_if (program_by words)
unfolding declared_by program_by
declared_spelled words = refl

pub ran_spelled : (words groups : List ℕ) (slots : Slots) → ran_dispatch words groups slots ≡ ran_if (program_by words) groups slots
unfolding ran_dispatch program_by
ran_spelled words groups slots = refl

-- bytes that decoding finds a program in
pub good_words : (words : List ℕ) (p : Program) → shader_of words ≡ Some p → program_by words ≡ Some p
unfolding program_by
good_words words p e = e

made : (b : Bool) (s : model.Shader) → b ≡ true → Some s ≡ (if b then Some s else None)
made b s e = rw e refl

pub shader_made : (call : ℕ) (words : List ℕ) (p : Program) → program_by words ≡ Some p → Some (record { call = call; words = words }) ≡ shader_from call words
shader_made call words p e = made (decodes words) (record { call = call; words = words }) (decodes_by words ∙ ap is_some e)

not_made : (b : Bool) (s : model.Shader) → b ≡ false → None ≡ (if b then Some s else None)
not_made b s e = rw e refl

-- bytes that decoding finds a bad word in
pub none_made : (call : ℕ) (words : List ℕ) (f : ShaderFault) → first_bad_of_bytes words ≡ Some f → None ≡ shader_from call words
unfolding program_by
none_made call words f e =
    not_made (decodes words) (record { call = call; words = words }) (decodes_by words ∙ ap is_some (ap (λ (o : Option ShaderFault). program_unless o (spelled_by (words_of words))) e))
