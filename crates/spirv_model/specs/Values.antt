-- What values and their types are made of: h is what stands before.
use Rattle.std.specs.Prelude.{ℕ, ◌==◌, if◌then◌else◌, Bool, false, not, ◌&&◌, List, [], ◌∷◌, length, Option, Some, None}
use Rattle.spirv_model.specs.Op.{Op}
use Rattle.spirv_model.specs.Op as op
use Rattle.spirv_model.specs.declared.storage_classes.TheConstants as class
use Rattle.spirv_model.specs.History.{value_type, maker, in_function}
use Rattle.spirv_model.specs.Types.{is_array, made_as, may_hold}

-- ## Types of values

-- the instruction of a type, if one is named
abbrev pub type_named : List Op → Option ℕ → Option Op
type_named h None = None
type_named h (Some t) = maker t h

-- the type of the value that an instruction gives
abbrev pub type_given : List Op → Option Op → Option Op
type_given h None = None
type_given h (Some o) = type_named h (value_type o)

-- an instruction gives a value whose type this holds of
abbrev pub gives : List Op → (Op → Bool) → Op → Bool
gives h p o = made_as p (type_given h (Some o))

abbrev pub is_type : Option ℕ → Option ℕ → Bool
is_type (Some t) (Some u) = t == u
is_type _ _ = false

abbrev pub is_constant : (ℕ → Bool) → Op → Bool
is_constant p (op.Constant t r v) = p v
is_constant p _ = false

-- ## Pointers and variables

-- what a pointer's type points to
abbrev pub pointee : Option Op → Option ℕ
pointee (Some (op.TypePointer r c t)) = Some t
pointee _ = None

-- what the value of an instruction points to
abbrev pub value_pointee : List Op → Option Op → Option ℕ
value_pointee h o = pointee (type_given h o)

abbrev pub class_is : ℕ → Op → Bool
class_is c (op.TypePointer r c' t) = c' == c
class_is c _ = false

-- the class of a variable is the one of its type: that of functions inside of the function, another one outside
abbrev pub variable_class : List Op → ℕ → Option Op → Bool
variable_class h c None = false
variable_class h c (Some o) = class_is c o && (if in_function h then c == class.FUNCTION else not (c == class.FUNCTION))

abbrev pub is_variable_type : List Op → Op → Bool
is_variable_type h (op.TypePointer r c t) = made_as (may_hold h c) (maker t h)
is_variable_type h _ = false

-- ## Blocks and their members

-- how many indexes take a block apart to a word: of a buffer the member 0 and the word's place, of the push
-- constants the member
abbrev pub depth : List Op → Option Op → ℕ
depth h (Some (op.TypeStruct r (m ∷ []))) = if made_as is_array (maker m h) then 2 else 1
depth h (Some (op.TypeStruct r ms)) = 1
depth h _ = 0

abbrev pub type_pointed : List Op → Option Op → Option Op
type_pointed h (Some (op.TypePointer r c t)) = maker t h
type_pointed h _ = None

-- the block that a variable holds
abbrev pub block_of : List Op → Option Op → Option Op
block_of h (Some (op.Variable t r c vs)) = type_pointed h (maker t h)
block_of h _ = None

-- a variable in the class of this pointer's type
abbrev pub same_class : List Op → ℕ → Op → Bool
same_class h t (op.Variable t' r c vs) = made_as (class_is c) (maker t h)
same_class h t _ = false

abbrev pub member_count : Option Op → ℕ
member_count (Some (op.TypeStruct r ms)) = length ms
member_count _ = 0

-- ## Components: of a vector, or the halves of a product

-- the type of each
abbrev pub component : Option Op → Option ℕ
component (Some (op.TypeVector r t n)) = Some t
component (Some (op.TypeStruct r (a ∷ b ∷ []))) = Some a
component _ = None

abbrev pub component_count : Option Op → ℕ
component_count (Some (op.TypeVector r t n)) = n
component_count (Some (op.TypeStruct r (a ∷ b ∷ []))) = 2
component_count _ = 0
