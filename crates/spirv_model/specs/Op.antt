-- The instructions of the profile, each with its operands in their order (SPIR-V 1.6, section 3.49). In their
-- names r is the result, t the id of the result's type, f a function or its type, p a pointer, v a value.
use Rattle.std.specs.Prelude.{ℕ, List}
use Rattle.spirv_model.specs.declared.code.UnaryCode.{UnaryCode}
use Rattle.spirv_model.specs.declared.code.BinaryCode.{BinaryCode}
use Rattle.spirv_model.specs.declared.code.AtomicCode.{AtomicCode}

pub data Op : Type 0 where
  Capability : (c : ℕ) → Op
  MemoryModel : (addressing model : ℕ) → Op
  -- an entry point's name is two words, the text `main` and its end
  EntryPoint : (model f name name' : ℕ) (interface : List ℕ) → Op
  ExecutionMode : (f mode x y z : ℕ) → Op
  Decorate : (target decoration : ℕ) (values : List ℕ) → Op
  MemberDecorate : (target member decoration : ℕ) (values : List ℕ) → Op
  TypeVoid : (r : ℕ) → Op
  TypeBool : (r : ℕ) → Op
  TypeInt : (r width sign : ℕ) → Op
  TypeVector : (r t count : ℕ) → Op
  TypeRuntimeArray : (r t : ℕ) → Op
  TypeStruct : (r : ℕ) (members : List ℕ) → Op
  TypePointer : (r class t : ℕ) → Op
  TypeFunction : (r t : ℕ) → Op
  Constant : (t r v : ℕ) → Op
  -- with at most one first value
  Variable : (t r class : ℕ) (first_value : List ℕ) → Op
  Function : (t r control f : ℕ) → Op
  FunctionEnd : Op
  Load : (t r p : ℕ) → Op
  Store : (p v : ℕ) → Op
  -- with one index or two
  AccessChain : (t r base : ℕ) (indexes : List ℕ) → Op
  CompositeExtract : (t r v i : ℕ) → Op
  Unary : (o : UnaryCode) (t r a : ℕ) → Op
  Binary : (o : BinaryCode) (t r a b : ℕ) → Op
  Select : (t r c a b : ℕ) → Op
  Atomic : (o : AtomicCode) (t r p scope order v : ℕ) → Op
  AtomicCompareExchange : (t r p scope equal unequal v c : ℕ) → Op
  LoopMerge : (merge next control : ℕ) → Op
  SelectionMerge : (merge control : ℕ) → Op
  Label : (r : ℕ) → Op
  Branch : (l : ℕ) → Op
  BranchConditional : (c a b : ℕ) → Op
  Return : Op
