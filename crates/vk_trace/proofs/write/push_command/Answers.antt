use Rattle.std.proofs.Common.{◌++◌, ◌∷◌, List, ℕ, ap, ◌∙◌}
use Rattle.std.specs.Fmt.{decimal}
use Rattle.std.specs.String.{string_bytes}
use Rattle.vk_trace.proofs.Results.{on_ok}
use Rattle.vk_trace.proofs.Written.{command_written}
use Rattle.vk_trace.proofs.write.push_command.Goals as goal

pub returns : goal.returns
returns c =
    let head = c.in_ok-push_head.ensures ∙ ap (λ (w : List ℕ). string_bytes c.args.text.now ++ (w ++ 32 ∷ decimal c.args.command.now.number)) c.work_name.ensures in
    on_ok c.push_call.result _ _ (λ e. command_written c.args.command.now _ _ _ _ _ head c.in_ok-push_work.ensures c.in_ok-push_cond.ensures e) c.push_call.ensures
