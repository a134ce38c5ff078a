-- What an instruction makes, where it makes a type, and which types the profile has (SPIR-V 1.6, section 2.8):
-- h is what stands before.
use Rattle.std.specs.Prelude.{ℕ, ◌==◌, if◌then◌else◌, Bool, true, false, ◌&&◌, ◌||◌, List, [], ◌∷◌, Option, Some, None}
use Rattle.spirv_model.specs.Op.{Op}
use Rattle.spirv_model.specs.Op as op
use Rattle.spirv_model.specs.declared.storage_classes.TheConstants as class
use Rattle.spirv_model.specs.History.{maker}

abbrev pub is_void : Op → Bool
is_void (op.TypeVoid r) = true
is_void _ = false

-- a number of 32 bits
abbrev pub is_word : Op → Bool
is_word (op.TypeInt r w s) = true
is_word _ = false

abbrev pub is_truth : Op → Bool
is_truth (op.TypeBool r) = true
is_truth _ = false

abbrev pub is_function_type : Op → Bool
is_function_type (op.TypeFunction r t) = true
is_function_type _ = false

abbrev pub is_vector : Op → Bool
is_vector (op.TypeVector r t n) = true
is_vector _ = false

abbrev pub is_array : Op → Bool
is_array (op.TypeRuntimeArray r t) = true
is_array _ = false

-- there is an instruction, and this holds of it
abbrev pub made_as : (Op → Bool) → Option Op → Bool
made_as p None = false
made_as p (Some o) = p o

-- a block of a buffer: its one member is a runtime array
abbrev pub is_buffer_block : List Op → Op → Bool
is_buffer_block h (op.TypeStruct r (m ∷ [])) = made_as is_array (maker m h)
is_buffer_block h _ = false

abbrev pub all_words : List Op → List ℕ → Bool
all_words h [] = true
all_words h (m ∷ ms) = made_as is_word (maker m h) && all_words h ms

-- a block of push constants: each member is a word
abbrev pub is_word_block : List Op → Op → Bool
is_word_block h (op.TypeStruct r ms) = all_words h ms
is_word_block h _ = false

-- the two halves of a product
abbrev pub is_pair : List Op → Op → Bool
is_pair h (op.TypeStruct r (a ∷ b ∷ [])) = made_as is_word (maker a h) && made_as is_word (maker b h)
is_pair h _ = false

-- what a pointer of a class may point to
abbrev pub may_point : List Op → ℕ → Op → Bool
may_point h c o =
    if c == class.INPUT then is_word o || is_vector o
    else if c == class.FUNCTION then is_word o
    else if c == class.PUSH_CONSTANT then is_word o || is_word_block h o
    else is_word o || is_buffer_block h o

-- what a variable of a class holds: a buffer or the push constants a whole block
abbrev pub may_hold : List Op → ℕ → Op → Bool
may_hold h c o =
    if c == class.PUSH_CONSTANT then is_word_block h o
    else if c == class.STORAGE_BUFFER then is_buffer_block h o
    else may_point h c o

-- a pointer of this class, to a type of which this holds
abbrev pub is_pointer : List Op → (class : ℕ) → (Op → Bool) → Op → Bool
is_pointer h c p (op.TypePointer r c' t) = (c' == c) && made_as p (maker t h)
is_pointer h c p _ = false

-- the same type: one that is no aggregate and no pointer is declared once
abbrev pub same_type : Op → Op → Bool
same_type (op.TypeVoid r) (op.TypeVoid r') = true
same_type (op.TypeBool r) (op.TypeBool r') = true
same_type (op.TypeInt r w s) (op.TypeInt r' w' s') = (w == w') && (s == s')
same_type (op.TypeVector r t n) (op.TypeVector r' t' n') = (t == t') && (n == n')
same_type (op.TypeFunction r t) (op.TypeFunction r' t') = t == t'
same_type _ _ = false

abbrev pub is_declared : Op → List Op → Bool
is_declared o [] = false
is_declared o (o' ∷ h) = same_type o o' || is_declared o h
