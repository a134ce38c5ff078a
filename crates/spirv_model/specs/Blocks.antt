-- The blocks of a function (SPIR-V 1.6, section 2.11).
use Rattle.std.specs.Prelude.{if◌then◌else◌, Bool, true, false, not, ◌&&◌, ◌||◌, List, ◌∷◌}
use Rattle.spirv_model.specs.declared.merge.Merge.{Merge}
use Rattle.spirv_model.specs.declared.merge.Merge.TheVariants.{NoMerge, OfSelection, OfLoop}
use Rattle.spirv_model.specs.Op.{Op}
use Rattle.spirv_model.specs.Op as op
use Rattle.spirv_model.specs.History.{in_function, block_is_open}
use Rattle.spirv_model.specs.Sections.{section, is_body}

-- whether the function has a block
abbrev pub has_block : List Op → Bool
has_block (op.Function t r c f ∷ h) = false
has_block _ = true

-- the merge that waits for its branch
abbrev pub pending : List Op → Merge
pending (op.SelectionMerge m c ∷ h) = OfSelection
pending (op.LoopMerge m n c ∷ h) = OfLoop
pending _ = NoMerge

abbrev pub is_conditional : Op → Bool
is_conditional (op.BranchConditional c a b) = true
is_conditional _ = false

abbrev pub is_branch : Op → Bool
is_branch (op.Branch l) = true
is_branch _ = false

-- A merge stands directly before its branch, and each conditional branch has one.
abbrev pub takes : Merge → Op → Bool
takes NoMerge o = not (is_conditional o)
takes OfSelection o = is_conditional o
takes OfLoop o = is_conditional o || is_branch o

-- A label begins a block where none is open, the function ends where none is open and it has one, and each
-- other instruction of the function stands in one.
abbrev pub in_block : List Op → Op → Bool
in_block h (op.Function t r c f) = true
in_block h op.FunctionEnd = not (block_is_open h) && has_block h
in_block h (op.Label l) = not (block_is_open h)
in_block h o = (if is_body (section (in_function h) o) then block_is_open h else true) && takes (pending h) o
