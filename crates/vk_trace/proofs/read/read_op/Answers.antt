use Rattle.std.proofs.Common.{sym, ◌∙◌}
use Rattle.std.proofs.lemmas.Result.{err_from_is_err_and}
use Rattle.vk_trace.proofs.Results.{when_bad}
use Rattle.vk_trace.proofs.Splits.{split_some}
use Rattle.vk_trace.proofs.Ops.{command_line, no_command_line, no_line, line_words, line_read}
use Rattle.vk_trace.proofs.read.read_op.Goals as goal

pub returns-in_default-clause-bad : goal.returns-in_default-clause-bad
returns-in_default-clause-bad c = λ o g e. split_some 32 c.args.text.now (sym c.new-words.ensures ∙ c.in_default.ensures)

pub returns-in_err-command-clause-bad : goal.returns-in_err-command-clause-bad
returns-in_err-command-clause-bad c =
    let e = err_from_is_err_and c.from_residual.result c.from_residual.ensures.1 in
    rw (e.1, e.2) (
    when_bad c.in_err-command.field-0.0 _ _
    (λ none. no_command_line c.in-Some-work_kind.kind c.args.text.now _ _ _ c.new-words.ensures c.in-Some.ensures c.in-Some-work_kind.ensures (λ d r. none d r.work r.cond r.fits r.named r.spelled))
    c.in_err-command.ensures.bad)

pub returns-in-Some-work_kind-clause-found : goal.returns-in-Some-work_kind-clause-found
returns-in-Some-work_kind-clause-found c =
    command_line _ c.in-Some-work_kind.kind c.args.text.now _ _ _ c.new-words.ensures c.in-Some.ensures c.in-Some-work_kind.ensures c.in_ok-command.ensures.found

pub returns-in_default-line_kind-clause-bad : goal.returns-in_default-line_kind-clause-bad
returns-in_default-line_kind-clause-bad c = no_line c.args.text.now _ _ _ c.new-words.ensures c.in-Some.ensures c.in_default-work_kind.ensures c.in_default-line_kind.ensures

pub returns-in_default-operation-clause-bad : goal.returns-in_default-operation-clause-bad
returns-in_default-operation-clause-bad c =
    λ o g e.
    let p = line_words o c.args.text.now _ _ _ g e c.new-words.ensures c.in-Some.ensures in
    c.in_default-operation.ensures o (record { good = g; named = p.0 ∙ c.in-Some-line_kind.ensures }) (sym p.1)

pub returns-clause-found : goal.returns-clause-found
returns-clause-found c = record {
  good = c.in-Some-operation.ensures.0.good;
  spelled = line_read c.in-Some-operation.op c.args.text.now _ _ _ c.new-words.ensures c.in-Some.ensures (c.in-Some-operation.ensures.0.named ∙ sym c.in-Some-line_kind.ensures) c.in-Some-operation.ensures.1;
}
