use Rattle.std.proofs.Common.{◌++◌, sym, ap, ◌∙◌}
use Rattle.std.specs.String.{string_bytes}
use Rattle.vk_types.specs.declared.op.VkOp.{VkOp}
use Rattle.vk_trace.specs.ListText.{line}
use Rattle.vk_trace.proofs.Results.{on_ok}
use Rattle.vk_trace.proofs.write.push_line.Goals as goal

pub returns-in-HostWrite : goal.returns-in-HostWrite
unfolding line
returns-in-HostWrite c = on_ok c.push_host.result _ _ (λ e. e ∙ ap (λ (o : VkOp). string_bytes c.args.text.now ++ line o) (sym c.in-HostWrite.is)) c.push_host.ensures
