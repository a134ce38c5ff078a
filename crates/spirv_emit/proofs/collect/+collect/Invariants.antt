use Rattle.std.proofs.Common.{◌≡◌, drop}
use Rattle.shader_model.specs.Body.{body_of}
use Rattle.spirv_emit.specs.Numbers.{with_numbers, body_numbers}
use Rattle.spirv_emit.proofs.collect.+collect.Given as goal

abbrev pub invariant-add_nodes-loop-node : goal.invariant-add_nodes-loop-node
invariant-add_nodes-loop-node l = with_numbers l.initial.numbers (body_numbers (body_of l.nodes)) ≡ with_numbers l.numbers (body_numbers (body_of (drop l.node-index l.nodes)))
