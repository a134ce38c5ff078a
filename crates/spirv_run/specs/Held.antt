-- What the program's values show, and the memory that a frame and slots stand for.
use Rattle.std.specs.Prelude.{List, Option, None, option_map, slice_index_or}
use Rattle.shader_model.specs.Invocation.{Slots}
use Rattle.spirv_model.specs.Meaning.Values.{Pointer, ToVariable, ToBuffer, ToWord, ToLengths, ToLength, ToInput, Value, Nothing, Word, Truth, Vector, Halves, At}
use Rattle.spirv_model.specs.Meaning.Memory.{Table, Memory}
use Rattle.spirv_run.specs.declared.value.Pointer.{Pointer as Held}
use Rattle.spirv_run.specs.declared.value.Pointer.TheVariants as pointer
use Rattle.spirv_run.specs.declared.value.Value.{Value as HeldValue}
use Rattle.spirv_run.specs.declared.value.Value.TheVariants as value
use Rattle.spirv_run.specs.Frames.{Frame}

abbrev pub pointer_of : Held → Pointer
pointer_of (pointer.Variable x) = ToVariable x
pointer_of (pointer.Buffer b) = ToBuffer b
pointer_of (pointer.Word b i) = ToWord b i
pointer_of pointer.Lengths = ToLengths
pointer_of (pointer.Length b) = ToLength b
pointer_of (pointer.Input n) = ToInput n

abbrev pub shown : HeldValue → Value
shown value.Nothing = Nothing
shown (value.Word n) = Word n
shown (value.Truth b) = Truth b
shown (value.Vector x y z) = Vector x y z
shown (value.Halves l h) = Halves l h
shown (value.At p) = At (pointer_of p)

-- values by id; there is none behind the end
abbrev pub table_of : List (Option HeldValue) → Table
table_of xs = λ x. option_map shown (slice_index_or xs x None)

abbrev pub memory_of : Frame → Slots → Memory
memory_of f slots = record { results = table_of f.results; variables = table_of f.variables; slots = slots }
