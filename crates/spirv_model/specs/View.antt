-- The instruction that a view of it shows.
use Rattle.spirv_model.specs.declared.op.Op.{Op as View}
use Rattle.spirv_model.specs.declared.op.Op.TheVariants as view
use Rattle.spirv_model.specs.Op.{Op}
use Rattle.spirv_model.specs.Op as op

abbrev pub shown : View → Op
shown (view.Capability a) = op.Capability a
shown (view.MemoryModel a b) = op.MemoryModel a b
shown (view.EntryPoint a b c d e) = op.EntryPoint a b c d e.now
shown (view.ExecutionMode a b c d e) = op.ExecutionMode a b c d e
shown (view.Decorate a b c) = op.Decorate a b c.now
shown (view.MemberDecorate a b c d) = op.MemberDecorate a b c d.now
shown (view.TypeVoid a) = op.TypeVoid a
shown (view.TypeBool a) = op.TypeBool a
shown (view.TypeInt a b c) = op.TypeInt a b c
shown (view.TypeVector a b c) = op.TypeVector a b c
shown (view.TypeRuntimeArray a b) = op.TypeRuntimeArray a b
shown (view.TypeStruct a b) = op.TypeStruct a b.now
shown (view.TypePointer a b c) = op.TypePointer a b c
shown (view.TypeFunction a b) = op.TypeFunction a b
shown (view.Constant a b c) = op.Constant a b c
shown (view.Variable a b c d) = op.Variable a b c d.now
shown (view.Function a b c d) = op.Function a b c d
shown view.FunctionEnd = op.FunctionEnd
shown (view.Load a b c) = op.Load a b c
shown (view.Store a b) = op.Store a b
shown (view.AccessChain a b c d) = op.AccessChain a b c d.now
shown (view.CompositeExtract a b c d) = op.CompositeExtract a b c d
shown (view.Unary a b c d) = op.Unary a b c d
shown (view.Binary a b c d e) = op.Binary a b c d e
shown (view.Select a b c d e) = op.Select a b c d e
shown (view.Atomic a b c d e f g) = op.Atomic a b c d e f g
shown (view.AtomicCompareExchange a b c d e f g h) = op.AtomicCompareExchange a b c d e f g h
shown (view.LoopMerge a b c) = op.LoopMerge a b c
shown (view.SelectionMerge a b) = op.SelectionMerge a b
shown (view.Label a) = op.Label a
shown (view.Branch a) = op.Branch a
shown (view.BranchConditional a b c) = op.BranchConditional a b c
shown view.Return = op.Return
