use Rattle.std.proofs.Common.{◌++◌, ◌+◌, ℕ, List, take, sym, ap, ◌∙◌, append_assoc, arith}
use Rattle.std.specs.List.{flat_map}
use Rattle.log_text.specs.LogText.{first_line, line}
use Rattle.log_text.specs.Reading.{call_text}
use Rattle.log_text.proofs.Written.{calls_more}
use Rattle.log_text.proofs.write.list.Goals as goal

pub calls-preserved : goal.calls-preserved
calls-preserved c =
    c.in_ok-push_call.ensures ∙ ap (λ (l : List ℕ). l ++ call_text c.args.log.now.frames (c.calls.i + 1)) c.calls.invariant
    ∙ append_assoc first_line (flat_map line (take c.calls.i c.args.log.now.frames)) (call_text c.args.log.now.frames (c.calls.i + 1))
    ∙ ap (λ (l : List ℕ). first_line ++ l) (sym (calls_more c.args.log.now.frames c.calls.i (omega arith)))
