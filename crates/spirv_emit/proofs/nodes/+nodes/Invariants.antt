use Rattle.std.proofs.Common.{◌≡◌, ◌++◌, drop}
use Rattle.shader_model.specs.Body.{body_of}
use Rattle.spirv_emit.specs.Code.{body_ops, body_end}
use Rattle.spirv_emit.specs.Emits.{layout_of, written, BodyIsSmall}
use Rattle.spirv_emit.proofs.nodes.+nodes.Given as goal

abbrev pub invariant-emit_nodes-loop-node : goal.invariant-emit_nodes-loop-node
invariant-emit_nodes-loop-node l =
    let at = layout_of l.plan in
    (l.initial.code.words ++ written (body_ops l.declared at (body_of l.nodes) l.initial.code.next l.exits.end l.exits.brk l.exits.cont) ≡ l.code.words ++ written (body_ops l.declared at (body_of (drop l.node-index l.nodes)) l.code.next l.exits.end l.exits.brk l.exits.cont))
    × (body_end l.declared (body_of l.nodes) l.initial.code.next ≡ body_end l.declared (body_of (drop l.node-index l.nodes)) l.code.next)
    × BodyIsSmall l.declared (body_of (drop l.node-index l.nodes))
