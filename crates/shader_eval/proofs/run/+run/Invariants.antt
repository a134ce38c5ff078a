use Rattle.std.proofs.Common.{◌≡◌, drop}
use Rattle.shader_model.specs.Body.{body_of}
use Rattle.shader_model.specs.Invocation.{looped, meaning}
use Rattle.shader_eval.specs.Frames.{seen}
use Rattle.shader_eval.proofs.run.+run.Given as goal

abbrev pub invariant-run_node-turns : goal.invariant-run_node-turns
invariant-run_node-turns l =
    let inner = meaning l.declared l.thread (body_of l.body) in record {
      left : looped l.initial.frame.turns inner (seen l.initial.frame l.initial.slots.words) ≡ looped l.frame.turns inner (seen l.frame l.slots.words);
      around : l.slots.around ≡ l.initial.slots.around;
    }

abbrev pub decreases-run_node-turns : goal.decreases-run_node-turns
decreases-run_node-turns l = l.frame.turns

abbrev pub invariant-run_nodes-loop-node : goal.invariant-run_nodes-loop-node
invariant-run_nodes-loop-node l = record {
  rest : meaning l.declared l.thread (body_of l.nodes) (seen l.initial.frame l.initial.slots.words) ≡ meaning l.declared l.thread (body_of (drop l.node-index l.nodes)) (seen l.frame l.slots.words);
  around : l.slots.around ≡ l.initial.slots.around;
}
