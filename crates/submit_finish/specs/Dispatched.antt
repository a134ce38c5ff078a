-- Which shaders the dispatches among some operations run.
use Rattle.std.specs.Prelude.{ℕ, List, [], ◌∷◌, Option, Some, None}
use Rattle.std.specs.List.{filter_map}
use Rattle.vk_types.specs.declared.command.Work.{Work}
use Rattle.vk_types.specs.declared.command.Work.TheVariants as work
use Rattle.vk_types.specs.declared.command.Command as c
use Rattle.vk_types.specs.declared.op.VkOp.{VkOp}
use Rattle.vk_types.specs.declared.op.VkOp.TheVariants as op

-- the shader that a command's work runs, if it is a dispatch
abbrev pub shader_of_work : Work → Option ℕ
shader_of_work (work.Copy source target) = None
shader_of_work (work.Fill target word) = None
shader_of_work (work.Clear target words unit) = None
shader_of_work (work.Dispatch shader counts slots) = Some shader

-- the same of an operation
abbrev pub shader_of_op : VkOp → Option ℕ
shader_of_op (op.HostWrite r call) = None
shader_of_op (op.Pipeline shader) = None
shader_of_op (op.Barrier barrier) = None
shader_of_op (op.Command command) = shader_of_work command.work
shader_of_op (op.Submit k) = None
shader_of_op (op.Fence k) = None
shader_of_op (op.HostRead r call) = None

-- the shaders of the dispatches, in order, each as often as it is dispatched
abbrev pub dispatched : List VkOp → List ℕ
dispatched ops = filter_map shader_of_op ops

-- the commands among operations
abbrev pub commands_among : List VkOp → List c.Command
commands_among [] = []
commands_among (op.HostWrite r call ∷ ops) = commands_among ops
commands_among (op.Pipeline shader ∷ ops) = commands_among ops
commands_among (op.Barrier barrier ∷ ops) = commands_among ops
commands_among (op.Command command ∷ ops) = command ∷ commands_among ops
commands_among (op.Submit k ∷ ops) = commands_among ops
commands_among (op.Fence k ∷ ops) = commands_among ops
commands_among (op.HostRead r call ∷ ops) = commands_among ops
