-- What an invocation of a module has at a moment, and its loads and stores.
use Rattle.std.specs.Prelude.{ℕ, zero, ◌==◌, if◌then◌else◌, nat_lt, List, [], ◌∷◌, length, slice_index, Option, Some, None}
use Rattle.shader_model.specs.declared.ids.Ids.{Ids}
use Rattle.shader_model.specs.Invocation.{Slots, flattened, global}
use Rattle.spirv_model.specs.declared.built_ins.TheConstants as built_ins
use Rattle.spirv_model.specs.Op.{Op}
use Rattle.spirv_model.specs.Op as op
use Rattle.spirv_model.specs.declared.storage_classes.TheConstants as class
use Rattle.spirv_model.specs.declared.decorations.TheConstants as decoration
use Rattle.spirv_model.specs.Meaning.Values.{Pointer, ToVariable, ToBuffer, ToWord, ToLengths, ToLength, ToInput, Value, Nothing, Word, Vector, At}
use Rattle.spirv_model.specs.Meaning.Bindings.{end_of_bindings, words_at, is_writable, with_word}

-- values by id
abbrev pub Table : Type 0
Table = ℕ → Option Value

abbrev pub empty : Table
empty x = None

abbrev pub with_value : (id : ℕ) → Value → Table → Table
with_value r v t = λ x. if x == r then Some v else t x

-- the results so far, what the function's variables have, and the slots
pub record Memory : Type 0 where
  pub results : Table
  pub variables : Table
  pub slots : Slots

abbrev pub with_result : ℕ → Value → Memory → Memory
with_result r v m = record m { results = with_value r v m.results }

abbrev pub with_variable : ℕ → Value → Memory → Memory
with_variable x v m = record m { variables = with_value x v m.variables }

-- the values of some ids
abbrev pub values_of : Table → List ℕ → List (Option Value)
values_of t [] = []
values_of t (x ∷ xs) = t x ∷ values_of t xs

-- ## Pointers

-- the value of the first decoration of this kind that an id has
abbrev pub decorated : (kind id : ℕ) → List Op → Option ℕ
decorated d x [] = None
decorated d x (op.Decorate y e (v ∷ vs) ∷ os) = if y == x then (if e == d then Some v else decorated d x os) else decorated d x os
decorated d x (o ∷ os) = decorated d x os

abbrev pub pointer_by : (ℕ → Pointer) → Option ℕ → Option Value
pointer_by f None = None
pointer_by f (Some n) = Some (At (f n))

-- what a variable outside of the function is, by its storage class: a built-in, the push constants, or a buffer
abbrev pub outer_variable : (class id : ℕ) → List Op → Option Value
outer_variable c r all =
    if c == class.INPUT then pointer_by ToInput (decorated decoration.BUILT_IN r all)
    else if c == class.PUSH_CONSTANT then Some (At ToLengths)
    else if c == class.STORAGE_BUFFER then pointer_by ToBuffer (decorated decoration.BINDING r all)
    else None

-- a pointer to a word: of a buffer by its member 0 and a place inside of it, of the push constants by the member
abbrev pub chained : Slots → (base : Option Value) → (indexes : List (Option Value)) → Option Value
chained slots (Some (At (ToBuffer b))) (Some (Word zero) ∷ Some (Word i) ∷ []) = if nat_lt i (length (words_at slots b)) then Some (At (ToWord b i)) else None
chained slots (Some (At ToLengths)) (Some (Word b) ∷ []) = if nat_lt b end_of_bindings then Some (At (ToLength b)) else None
chained slots _ _ = None

-- ## Loads and stores

-- the values of the built-ins WorkgroupId, LocalInvocationId, GlobalInvocationId and LocalInvocationIndex
abbrev pub built_in : Ids → (number : ℕ) → Option Value
built_in ids n =
    if n == built_ins.WORKGROUP_ID then Some (Vector (slice_index ids.group 0) (slice_index ids.group 1) (slice_index ids.group 2))
    else if n == built_ins.LOCAL_INVOCATION_ID then Some (Vector (slice_index ids.thread 0) (slice_index ids.thread 1) (slice_index ids.thread 2))
    else if n == built_ins.GLOBAL_INVOCATION_ID then Some (Vector (global ids 0) (global ids 1) (global ids 2))
    else if n == built_ins.LOCAL_INVOCATION_INDEX then Some (Word (flattened ids))
    else None

-- what a variable has, if it was given something
abbrev pub given : Option Value → Option Value
given (Some Nothing) = None
given v = v

-- what a pointer points to. A push constant is the length of its binding's slot in words.
abbrev pub loaded : Ids → Memory → (pointer : Option Value) → Option Value
loaded ids m (Some (At (ToVariable x))) = given (m.variables x)
loaded ids m (Some (At (ToWord b i))) = Some (Word (slice_index (words_at m.slots b) i))
loaded ids m (Some (At (ToLength b))) = Some (Word (length (words_at m.slots b)))
loaded ids m (Some (At (ToInput n))) = built_in ids n
loaded ids m _ = None

-- the memory with a word in the slot of a binding, None where that can't be written
abbrev pub with_slot_word : (binding place v : ℕ) → Memory → Option Memory
with_slot_word b i v m = if is_writable b then Some (record m { slots = with_word b i v m.slots }) else None

-- a variable that there is takes another value
abbrev pub with_existing : (old : Option Value) → (x : ℕ) → Value → Memory → Option Memory
with_existing None x v m = None
with_existing (Some old) x v m = Some (with_variable x v m)

-- the memory after a store, to a word of a buffer or to a variable
abbrev pub stored : (pointer value : Option Value) → Memory → Option Memory
stored (Some (At (ToWord b i))) (Some (Word v)) m = with_slot_word b i v m
stored (Some (At (ToVariable x))) (Some v) m = with_existing (m.variables x) x v m
stored _ _ m = None

-- the memory after an atomic instruction that makes this new word: its result is the old one
abbrev pub exchanged : (r binding place old : ℕ) → (new : Option ℕ) → Memory → Option Memory
exchanged r b i old None m = None
exchanged r b i old (Some v) m = with_slot_word b i v (with_result r (Word old) m)

-- the memory after an atomic instruction whose new word is a function of the old one
abbrev pub changed : (r : ℕ) → (pointer : Option Value) → (ℕ → Option ℕ) → Memory → Option Memory
changed r (Some (At (ToWord b i))) f m = let old = slice_index (words_at m.slots b) i in exchanged r b i old (f old) m
changed r _ f m = None
