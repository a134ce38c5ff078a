use Rattle.shader_model.specs.Invocation.{named}
use Rattle.shader_eval.specs.Frames.{seen}
use Rattle.shader_eval.proofs.Components.{swizzled_of}
use Rattle.shader_eval.proofs.frame.Frame.value.Goals as goal

pub returns : goal.returns
returns c = swizzled_of (named c.args.thread.now (seen c.args.self.now c.args.slots.now.words) c.args.of.now) c.args.of.now.swizzle c.named.result c.swizzled.result c.swizzled.ensures c.named.ensures
