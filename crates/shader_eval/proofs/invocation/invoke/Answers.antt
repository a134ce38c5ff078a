use Rattle.shader_model.specs.Body.{body_of}
use Rattle.shader_model.specs.Invocation.{meaning}
use Rattle.shader_eval.specs.Frames.{seen}
use Rattle.shader_eval.proofs.Ending.{still_for}
use Rattle.shader_eval.proofs.Limits.{is_thread}
use Rattle.shader_eval.proofs.Turns.{keeps}
use Rattle.shader_eval.proofs.invocation.invoke.Goals as goal

pub new-thread-requires : goal.new-thread-requires
new-thread-requires c =
    is_thread c.args.ids.now c.args.shader.now.group c.body-nodes.ensures.good.group c.requires.size c.requires.thread c.requires.group

pub returns-clause-made : goal.returns-clause-made
returns-clause-made c =
    let ds = c.declared.result.now in
    let ids = c.new-thread.result in
    let b = body_of c.body-nodes.result.now in
    let s = seen c.begin.new.self c.args.slots.now.words in
    still_for c.run_nodes.result c.args.shader.now c.args.frame.now.temps c.run_nodes.new.frame c.run_nodes.new.slots.words (meaning ds ids b s) s c.requires.made c.begin.ensures.temps (keeps ds ids b s) c.run_nodes.ensures.flow
