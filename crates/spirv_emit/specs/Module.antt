-- The whole module of a shader: the preamble, the numbers and variables, the code, and the end.
use Rattle.std.specs.Prelude.{ℕ, zero, suc, ◌+◌, ◌-◌, ◌*◌, List, [], ◌∷◌, ◌++◌, map, replicate, flat_map, slice_index}
use Rattle.shader_model.specs.Shader.{Program}
use Rattle.spirv_model.specs.declared.built_ins.TheConstants as built_ins
use Rattle.spirv_model.specs.Op.{Op}
use Rattle.spirv_model.specs.Op as op
use Rattle.spirv_model.specs.Words.{module_words}
use Rattle.spirv_model.specs.declared.settings.TheConstants as setting
use Rattle.spirv_model.specs.declared.decorations.TheConstants as decoration
use Rattle.spirv_model.specs.declared.storage_classes.TheConstants as class
use Rattle.spirv_emit.specs.Layout as id
use Rattle.spirv_emit.specs.Layout.{Layout, buffer_at, bindings, first_number, first_code}
use Rattle.spirv_emit.specs.Numbers.{from_on, most_turns, numbers_of, layout_of}
use Rattle.spirv_emit.specs.Code.{body_ops, body_end}

-- ## The preamble

abbrev pub buffers : List ℕ
buffers = from_on (buffer_at 0) bindings

abbrev pub interface : List ℕ
interface = id.group_id ∷ id.thread_id ∷ id.global_id ∷ id.thread_index ∷ id.lengths ∷ buffers

abbrev pub settings : (group : List ℕ) → List Op
settings group =
    op.Capability setting.SHADER
    ∷ op.MemoryModel setting.LOGICAL setting.GLSL_450
    ∷ op.EntryPoint setting.GL_COMPUTE id.main setting.NAME_MAIN setting.NAME_END interface
    ∷ op.ExecutionMode id.main setting.LOCAL_SIZE (slice_index group 0) (slice_index group 1) (slice_index group 2)
    ∷ []

-- a member of the block of lengths stands at four times its number
abbrev pub offset_of : ℕ → Op
offset_of b = op.MemberDecorate id.lengths_block b decoration.OFFSET (setting.WORD_BYTES * b ∷ [])

-- the descriptor set and the binding of a buffer
abbrev pub place_of : ℕ → List Op
place_of b = op.Decorate (buffer_at b) decoration.DESCRIPTOR_SET (setting.ONLY_SET ∷ []) ∷ op.Decorate (buffer_at b) decoration.BINDING (b ∷ []) ∷ []

abbrev pub built_in : (variable number : ℕ) → Op
built_in r n = op.Decorate r decoration.BUILT_IN (n ∷ [])

-- of the types of blocks, the offsets within the block of lengths left out
abbrev pub decorations_of_blocks : List Op
decorations_of_blocks =
    op.Decorate id.array_type decoration.ARRAY_STRIDE (setting.WORD_BYTES ∷ [])
    ∷ op.Decorate id.buffer_block decoration.BLOCK []
    ∷ op.MemberDecorate id.buffer_block 0 decoration.OFFSET (0 ∷ [])
    ∷ op.Decorate id.lengths_block decoration.BLOCK []
    ∷ []

abbrev pub decorations_of_inputs : List Op
decorations_of_inputs =
    built_in id.group_id built_ins.WORKGROUP_ID
    ∷ built_in id.thread_id built_ins.LOCAL_INVOCATION_ID
    ∷ built_in id.global_id built_ins.GLOBAL_INVOCATION_ID
    ∷ built_in id.thread_index built_ins.LOCAL_INVOCATION_INDEX
    ∷ []

abbrev pub decorations : List Op
decorations = decorations_of_blocks ++ (decorations_of_inputs ++ (map offset_of (from_on 0 bindings) ++ flat_map place_of (from_on 0 bindings)))

abbrev pub types_of_words : List Op
types_of_words =
    op.TypeVoid id.void_type
    ∷ op.TypeFunction id.main_type id.void_type
    ∷ op.TypeInt id.word_type setting.WORD_WIDTH setting.UNSIGNED
    ∷ op.TypeBool id.truth_type
    ∷ op.TypeVector id.vector_type id.word_type 3
    ∷ []

abbrev pub types_of_blocks : List Op
types_of_blocks =
    op.TypeStruct id.pair_type (id.word_type ∷ id.word_type ∷ [])
    ∷ op.TypeRuntimeArray id.array_type id.word_type
    ∷ op.TypeStruct id.buffer_block (id.array_type ∷ [])
    ∷ op.TypeStruct id.lengths_block (replicate bindings id.word_type)
    ∷ []

abbrev pub types_of_pointers : List Op
types_of_pointers =
    op.TypePointer id.to_input_vector class.INPUT id.vector_type
    ∷ op.TypePointer id.to_input_word class.INPUT id.word_type
    ∷ op.TypePointer id.to_variable class.FUNCTION id.word_type
    ∷ op.TypePointer id.to_lengths class.PUSH_CONSTANT id.lengths_block
    ∷ []

abbrev pub types_of_buffers : List Op
types_of_buffers =
    op.TypePointer id.to_length class.PUSH_CONSTANT id.word_type
    ∷ op.TypePointer id.to_buffer class.STORAGE_BUFFER id.buffer_block
    ∷ op.TypePointer id.to_word class.STORAGE_BUFFER id.word_type
    ∷ []

-- the types alone
abbrev pub type_declarations : List Op
type_declarations = types_of_words ++ (types_of_blocks ++ (types_of_pointers ++ types_of_buffers))

-- the variables outside of the function: the inputs with the lengths, and the buffers
abbrev pub inputs : List Op
inputs =
    op.Variable id.to_input_vector id.group_id class.INPUT []
    ∷ op.Variable id.to_input_vector id.thread_id class.INPUT []
    ∷ op.Variable id.to_input_vector id.global_id class.INPUT []
    ∷ op.Variable id.to_input_word id.thread_index class.INPUT []
    ∷ op.Variable id.to_lengths id.lengths class.PUSH_CONSTANT []
    ∷ []

abbrev pub buffer_variable : ℕ → Op
buffer_variable r = op.Variable id.to_buffer r class.STORAGE_BUFFER []

abbrev pub types : List Op
types = type_declarations ++ (inputs ++ map buffer_variable buffers)

-- all that stands before the module's own numbers
abbrev pub preamble : (group : List ℕ) → List Op
preamble group = settings group ++ (decorations ++ types)

-- ## Numbers and variables

abbrev pub constants : (first : ℕ) → (numbers : List ℕ) → List Op
constants r [] = []
constants r (v ∷ vs) = op.Constant id.word_type r v ∷ constants (r + 1) vs

-- a variable of the function that begins with a number
abbrev pub local : Layout → (r first_value : ℕ) → Op
local at r v = op.Variable id.to_variable r class.FUNCTION (at.number v ∷ [])

abbrev pub zero_variables : Layout → (r count : ℕ) → List Op
zero_variables at r zero = []
zero_variables at r (suc k) = local at r 0 ∷ zero_variables at (r + 1) k

-- the turns first, then variables that begin as 0
abbrev pub variables : Layout → List Op
variables at = local at at.first_variable most_turns ∷ zero_variables at (at.first_variable + 1) (at.variables - 1)

-- ## The module

-- the labels of the first block and of the last
abbrev pub first_label : Layout → ℕ
first_label at = first_code at

abbrev pub last_label : Layout → ℕ
last_label at = first_code at + 1

abbrev pub body_start : Layout → ℕ
body_start at = first_code at + 2

abbrev pub function_ops : Program → List Op
function_ops p =
    let at = layout_of p in
    op.Function id.void_type id.main setting.NO_CONTROL id.main_type
    ∷ op.Label (first_label at)
    ∷ (variables at
    ++ (body_ops p.declared at p.body (body_start at) (last_label at) (last_label at) (last_label at)
    ++ (op.Label (last_label at) ∷ op.Return ∷ op.FunctionEnd ∷ [])))

unfoldable pub module_ops : Program → List Op
module_ops p = preamble p.group ++ (constants first_number (numbers_of p) ++ function_ops p)

abbrev pub module_bound : Program → ℕ
module_bound p = body_end p.declared p.body (body_start (layout_of p))

-- the words of a shader's module
unfoldable pub module_of : Program → List ℕ
module_of p = module_words (module_bound p) (module_ops p)
