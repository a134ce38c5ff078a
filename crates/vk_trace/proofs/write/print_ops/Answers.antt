use Rattle.std.proofs.Common.{refl}
use Rattle.vk_trace.specs.ListText.{IsListed, line, text_of}
use Rattle.vk_trace.proofs.Written.{written_more, all_at}
use Rattle.vk_trace.proofs.write.print_ops.Goals as goal

pub push_line-requires : goal.push_line-requires
push_line-requires c = (all_at IsListed c.args.ops.now c.lines.op-index _ c.op-item.result c.lines.invariant.1 c.lines-test.true c.op-item.is).0

pub lines-preserved : goal.lines-preserved
lines-preserved c = (
  written_more line text_of refl (λ o os. refl) c.args.ops.now c.lines.op-index _ c.op-item.result _ _ _ c.lines-test.true c.op-item.is c.lines.invariant.0 c.in_ok-push_line.ensures,
  (all_at IsListed c.args.ops.now c.lines.op-index _ c.op-item.result c.lines.invariant.1 c.lines-test.true c.op-item.is).1,
)
