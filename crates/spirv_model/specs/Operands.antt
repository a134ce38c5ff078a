-- The operands of an instruction: one rule a word, which gives the kind of what is wrong there.
use Rattle.std.specs.Prelude.{ℕ, ◌==◌, if◌then◌else◌, Bool, true, not, ◌&&◌, ◌||◌, nat_lt, nat_le, List, [], ◌∷◌, map, length, Option, Some, None}
use Rattle.spirv_model.specs.declared.fault.ModuleKind.{ModuleKind}
use Rattle.spirv_model.specs.declared.fault.ModuleKind.TheVariants as kind
use Rattle.spirv_model.specs.declared.code.UnaryCode.{UnaryCode}
use Rattle.spirv_model.specs.declared.code.UnaryCode.TheVariants as unary
use Rattle.spirv_model.specs.declared.code.BinaryCode.{BinaryCode}
use Rattle.spirv_model.specs.declared.code.BinaryCode.TheVariants as binary
use Rattle.spirv_model.specs.Op.{Op}
use Rattle.spirv_model.specs.Op as op
use Rattle.spirv_model.specs.declared.storage_classes.TheConstants as class
use Rattle.spirv_model.specs.StorageClass.{is_class}
use Rattle.spirv_model.specs.declared.decorations.TheConstants as decoration
use Rattle.spirv_model.specs.Decoration.{is_decoration, takes_value, is_offset_of}
use Rattle.spirv_model.specs.declared.settings.TheConstants as setting
use Rattle.spirv_model.specs.History.{value_type, maker, is_branched_to, is_entry}
use Rattle.spirv_model.specs.Types.{is_void, is_word, is_truth, is_function_type, is_vector, is_array, is_pair, may_point, is_pointer, is_declared}
use Rattle.spirv_model.specs.Values.{type_given, gives, is_type, is_constant, pointee, value_pointee, variable_class, is_variable_type, depth, block_of, same_class, member_count, component, component_count}

-- what is wrong with a word, None where it is right
abbrev pub Verdict : Type 0
Verdict = Option ModuleKind

-- the first of two that is wrong
abbrev pub or_else : {T : Type 0} → Option T → Option T → Option T
or_else (Some f) g = Some f
or_else None g = g

abbrev pub unless : Bool → ModuleKind → Verdict
unless ok k = if ok then None else Some k

-- The ids of the module are below the bound, and h is what stands before the instruction, the latest first.
module _ (bound : ℕ) (h : List Op) where
  -- ## Literals and ids

  -- a literal of which this holds
  abbrev pub literal : Bool → Verdict
  literal ok = unless ok kind.Shape

  -- a literal that may be any
  abbrev pub free : Verdict
  free = None

  abbrev pub below : ℕ → Verdict → Verdict
  below x next = if nat_lt x bound then next else Some kind.Ident

  abbrev pub not_made : Option Op → Verdict
  not_made None = None
  not_made (Some o) = Some kind.Ident

  -- a result: an id that wasn't made before
  abbrev pub result : ℕ → Verdict
  result r = below r (not_made (maker r h))

  abbrev pub suits : (Op → Bool) → Option Op → Verdict
  suits p None = Some kind.Ident
  suits p (Some o) = unless (p o) kind.Shape

  -- an id that was made before, by an instruction of which this holds
  abbrev pub made : (Op → Bool) → ℕ → Verdict
  made p x = below x (suits p (maker x h))

  -- an id that may be made later
  abbrev pub later : ℕ → Verdict
  later x = below x None

  -- the id of a type that isn't declared yet
  abbrev pub new_type : Op → ℕ → Verdict
  new_type o r = or_else (result r) (unless (not (is_declared o h)) kind.Shape)

  -- ## Values

  -- a value of this type
  abbrev pub value : Option ℕ → ℕ → Verdict
  value t x = made (λ o. is_type (value_type o) t) x

  abbrev pub word : ℕ → Verdict
  word x = made (gives h is_word) x

  abbrev pub truth : ℕ → Verdict
  truth x = made (gives h is_truth) x

  -- a constant of which this holds
  abbrev pub constant : (ℕ → Bool) → ℕ → Verdict
  constant p x = made (is_constant p) x

  abbrev pub any_constant : ℕ → Verdict
  any_constant x = constant (λ v. true) x

  -- a pointer to this type
  abbrev pub pointer_to : ℕ → ℕ → Verdict
  pointer_to t x = made (λ o. is_type (value_pointee h (Some o)) (Some t)) x

  -- a pointer into a variable of the function or into a buffer, to a word
  abbrev pub target : ℕ → Verdict
  target x = made (gives h (λ o. is_pointer h class.FUNCTION is_word o || is_pointer h class.STORAGE_BUFFER is_word o)) x

  -- a pointer into a buffer, to a word of this type
  abbrev pub shared_word : ℕ → ℕ → Verdict
  shared_word t x = made (λ o. is_type (value_pointee h (Some o)) (Some t) && gives h (is_pointer h class.STORAGE_BUFFER is_word) o) x

  -- a whole block in the class of the result, which so many indexes take apart to a word
  abbrev pub base : (t count : ℕ) → ℕ → Verdict
  base t count x = made (λ o. same_class h t o && (depth h (block_of h (Some o)) == count)) x

  -- the indexes into a block: a member of it, and then the place of a word
  abbrev pub indexes : (x : ℕ) → List ℕ → List Verdict
  indexes x [] = []
  indexes x (i ∷ is) = constant (λ v. nat_lt v (member_count (block_of h (maker x h)))) i ∷ map word is

  -- a value that has components of this type
  abbrev pub composite : ℕ → ℕ → Verdict
  composite t x = made (λ o. is_type (component (type_given h (Some o))) (Some t)) x

  -- ## Labels

  -- A label may be made later. One that was made before was branched to before it was made: then its
  -- block comes after the one that branches to it first.
  abbrev pub label_at : ℕ → Option Op → Verdict
  label_at l None = None
  label_at l (Some (op.Label r)) = unless (is_branched_to l h) kind.Flow
  label_at l (Some o) = Some kind.Flow

  abbrev pub label : ℕ → Verdict
  label l = below l (label_at l (maker l h))

  abbrev pub not_yet : Option Op → Verdict
  not_yet None = None
  not_yet (Some o) = Some kind.Flow

  -- the label of a block that comes later
  abbrev pub later_label : ℕ → Verdict
  later_label l = below l (not_yet (maker l h))

  -- ## Lists of operands

  abbrev pub decoration_values : (decoration : ℕ) → List ℕ → List Verdict
  decoration_values d vs = map (λ v. literal (takes_value d v)) vs

  abbrev pub member_values : (member : ℕ) → List ℕ → List Verdict
  member_values m vs = map (λ v. literal (is_offset_of m v)) vs

  -- the members of a structure: one runtime array, or words
  abbrev pub members : List ℕ → List Verdict
  members [] = []
  members (m ∷ []) = made (λ o. is_word o || is_array o) m ∷ []
  members ms = map (made is_word) ms

  -- a first value is a constant, of a variable of the function
  abbrev pub first_values : (t class : ℕ) → List ℕ → List Verdict
  first_values t c vs = map (made (λ o. (c == class.FUNCTION) && is_constant (λ v. true) o && is_type (value_type o) (pointee (maker t h)))) vs

  -- ## The table

  abbrev pub unary_operands : UnaryCode → (t r a : ℕ) → List Verdict
  unary_operands unary.LogicalNot t r a = made is_truth t ∷ result r ∷ truth a ∷ []
  unary_operands o t r a = made is_word t ∷ result r ∷ word a ∷ []

  abbrev pub compared : (t r a b : ℕ) → List Verdict
  compared t r a b = made is_truth t ∷ result r ∷ word a ∷ word b ∷ []

  abbrev pub multiplied : (t r a b : ℕ) → List Verdict
  multiplied t r a b = made (is_pair h) t ∷ result r ∷ word a ∷ word b ∷ []

  abbrev pub binary_operands : BinaryCode → (t r a b : ℕ) → List Verdict
  binary_operands binary.Equal t r a b = compared t r a b
  binary_operands binary.NotEqual t r a b = compared t r a b
  binary_operands binary.GreaterEqual t r a b = compared t r a b
  binary_operands binary.SignedGreaterEqual t r a b = compared t r a b
  binary_operands binary.Less t r a b = compared t r a b
  binary_operands binary.SignedLess t r a b = compared t r a b
  binary_operands binary.WideMultiply t r a b = multiplied t r a b
  binary_operands binary.SignedWideMultiply t r a b = multiplied t r a b
  binary_operands binary.LogicalAnd t r a b = made is_truth t ∷ result r ∷ truth a ∷ truth b ∷ []
  binary_operands o t r a b = made is_word t ∷ result r ∷ word a ∷ word b ∷ []

  -- the rule of each operand of an instruction, in order
  abbrev pub operands : Op → List Verdict
  operands (op.Capability c) = literal (c == setting.SHADER) ∷ []
  operands (op.MemoryModel a m) = literal (a == setting.LOGICAL) ∷ literal (m == setting.GLSL_450) ∷ []
  operands (op.EntryPoint m f n n' is) = literal (m == setting.GL_COMPUTE) ∷ later f ∷ literal (n == setting.NAME_MAIN) ∷ literal (n' == setting.NAME_END) ∷ map later is
  operands (op.ExecutionMode f m x y z) = or_else (later f) (unless (is_entry f h) kind.Shape) ∷ literal (m == setting.LOCAL_SIZE) ∷ free ∷ free ∷ free ∷ []
  operands (op.Decorate x d vs) = later x ∷ literal (is_decoration d) ∷ decoration_values d vs
  operands (op.MemberDecorate x m d vs) = later x ∷ free ∷ literal (d == decoration.OFFSET) ∷ member_values m vs
  operands (op.TypeVoid r) = new_type (op.TypeVoid r) r ∷ []
  operands (op.TypeBool r) = new_type (op.TypeBool r) r ∷ []
  operands (op.TypeInt r w s) = new_type (op.TypeInt r w s) r ∷ literal (w == setting.WORD_WIDTH) ∷ literal (s == setting.UNSIGNED) ∷ []
  operands (op.TypeVector r t n) = new_type (op.TypeVector r t n) r ∷ made is_word t ∷ literal (nat_le 2 n && nat_le n 4) ∷ []
  operands (op.TypeRuntimeArray r t) = result r ∷ made is_word t ∷ []
  operands (op.TypeStruct r ms) = result r ∷ members ms
  operands (op.TypePointer r c t) = result r ∷ literal (is_class c) ∷ made (may_point h c) t ∷ []
  operands (op.TypeFunction r t) = new_type (op.TypeFunction r t) r ∷ made is_void t ∷ []
  operands (op.Constant t r v) = made is_word t ∷ result r ∷ free ∷ []
  operands (op.Variable t r c vs) = made (is_variable_type h) t ∷ result r ∷ literal (variable_class h c (maker t h)) ∷ first_values t c vs
  operands (op.Function t r c f) = made is_void t ∷ or_else (result r) (unless (is_entry r h) kind.Shape) ∷ literal (c == setting.NO_CONTROL) ∷ made is_function_type f ∷ []
  operands op.FunctionEnd = []
  operands (op.Load t r p) = made (λ o. is_word o || is_vector o) t ∷ result r ∷ pointer_to t p ∷ []
  operands (op.Store p v) = target p ∷ value (value_pointee h (maker p h)) v ∷ []
  operands (op.AccessChain t r x is) = made (λ o. is_pointer h class.PUSH_CONSTANT is_word o || is_pointer h class.STORAGE_BUFFER is_word o) t ∷ result r ∷ base t (length is) x ∷ indexes x is
  operands (op.CompositeExtract t r v i) = made is_word t ∷ result r ∷ composite t v ∷ literal (nat_lt i (component_count (type_given h (maker v h)))) ∷ []
  operands (op.Unary o t r a) = unary_operands o t r a
  operands (op.Binary o t r a b) = binary_operands o t r a b
  operands (op.Select t r c a b) = made (λ o. is_word o || is_truth o) t ∷ result r ∷ truth c ∷ value (Some t) a ∷ value (Some t) b ∷ []
  operands (op.Atomic o t r p s m v) = made is_word t ∷ result r ∷ shared_word t p ∷ any_constant s ∷ any_constant m ∷ value (Some t) v ∷ []
  operands (op.AtomicCompareExchange t r p s e u v c) = made is_word t ∷ result r ∷ shared_word t p ∷ any_constant s ∷ any_constant e ∷ any_constant u ∷ value (Some t) v ∷ value (Some t) c ∷ []
  operands (op.LoopMerge m n c) = later_label m ∷ later_label n ∷ literal (c == setting.NO_CONTROL) ∷ []
  operands (op.SelectionMerge m c) = later_label m ∷ literal (c == setting.NO_CONTROL) ∷ []
  operands (op.Label r) = result r ∷ []
  operands (op.Branch l) = label l ∷ []
  operands (op.BranchConditional c a b) = truth c ∷ label a ∷ label b ∷ []
  operands op.Return = []
