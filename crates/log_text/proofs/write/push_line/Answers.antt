use Rattle.std.proofs.Common.{sym, ◌∙◌}
use Rattle.call_log.specs.Kinds.{kind_view}
use Rattle.log_text.proofs.CallKinds.{kind_of_fit, kind_fits, none_some}
use Rattle.log_text.proofs.Results.{on_ok, on_ok_text}
use Rattle.log_text.proofs.Written.{line_written}
use Rattle.log_text.proofs.write.push_line.Goals as goal

pub unreachable-requires : goal.unreachable-requires
unreachable-requires c =
    let known = kind_of_fit c.args.item.kind c.args.item.body.now c.args.item.whole in
    none_some known.0 (c.in_default.ensures ∙ known.1)

pub push_fields-requires : goal.push_fields-requires
push_fields-requires c = kind_fits c.args.item.kind c.args.item.body.now _ (sym c.in-Some.ensures) c.args.item.whole

pub returns : goal.returns
returns c =
    let e = on_ok_text c.push_str.result _ _ _ c.push_str.ensures.bytes in
    on_ok c.push_str.result _ _ (line_written c.args.item.kind c.args.item.context c.args.item.body.now (kind_view c.in-Some.kind) _ _ _ _ c.in-Some.ensures c.in_ok-write.ensures.bytes c.in_ok-push_fields.ensures) e
