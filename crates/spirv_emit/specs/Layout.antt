-- The ids that each emitted module has.
use Rattle.std.specs.Prelude.{ℕ, ◌+◌}
use Rattle.dx_types.specs.declared.limits.TheConstants.{MODULE_BINDINGS}
use Rattle.spirv_emit.specs.declared.piece.Vector.{Vector}
use Rattle.spirv_emit.specs.declared.piece.Vector.TheVariants.{Group, Thread, Global}

-- ## Types

abbrev pub void_type : ℕ
void_type = 1

abbrev pub main_type : ℕ
main_type = 2

abbrev pub word_type : ℕ
word_type = 3

abbrev pub truth_type : ℕ
truth_type = 4

abbrev pub vector_type : ℕ
vector_type = 5

-- the two halves of a product
abbrev pub pair_type : ℕ
pair_type = 6

abbrev pub array_type : ℕ
array_type = 7

-- the block of a buffer, and that of the push constants
abbrev pub buffer_block : ℕ
buffer_block = 8

abbrev pub lengths_block : ℕ
lengths_block = 9

-- ## Pointers

abbrev pub to_input_vector : ℕ
to_input_vector = 10

abbrev pub to_input_word : ℕ
to_input_word = 11

abbrev pub to_variable : ℕ
to_variable = 12

abbrev pub to_lengths : ℕ
to_lengths = 13

abbrev pub to_length : ℕ
to_length = 14

abbrev pub to_buffer : ℕ
to_buffer = 15

abbrev pub to_word : ℕ
to_word = 16

-- ## Variables of the module

abbrev pub group_id : ℕ
group_id = 17

abbrev pub thread_id : ℕ
thread_id = 18

abbrev pub global_id : ℕ
global_id = 19

abbrev pub thread_index : ℕ
thread_index = 20

abbrev pub vector_id : Vector → ℕ
vector_id Group = group_id
vector_id Thread = thread_id
vector_id Global = global_id

-- the push constants: the length of each slot
abbrev pub lengths : ℕ
lengths = 21

-- the buffer of each binding
abbrev pub buffer_at : (binding : ℕ) → ℕ
buffer_at b = 22 + b

abbrev pub bindings : ℕ
bindings = MODULE_BINDINGS

abbrev pub main : ℕ
main = 60

-- the first of the module's numbers
abbrev pub first_number : ℕ
first_number = 61

-- ## Numbers, variables and code

-- where the id of each number is, the ids of the function's variables, and how many there are
pub record Layout : Type 0 where
  pub number : ℕ → ℕ
  pub first_variable : ℕ
  pub variables : ℕ

abbrev pub variable : Layout → ℕ → ℕ
variable at x = at.first_variable + x

-- the first id of the code
abbrev pub first_code : Layout → ℕ
first_code at = at.first_variable + at.variables
