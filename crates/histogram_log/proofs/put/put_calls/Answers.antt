use Rattle.std.proofs.Common.{arith}
use Rattle.histogram_log.proofs.Spelled.{put_none, put_next, each_puttable}
use Rattle.histogram_log.proofs.put.put_calls.Goals as goal

pub calls-init : goal.calls-init
calls-init c = put_none c.args.log.now.items

pub put_call-requires : goal.put_call-requires
put_call-requires c = each_puttable c.args.calls.now c.calls.call-index _ c.requires (omega arith)

pub calls-preserved : goal.calls-preserved
calls-preserved c =
    put_next c.args.calls.now c.calls.call-index _ c.args.log.now.items c.calls.log.items c.put_call.new.buf.items
    (omega arith)
    c.calls.invariant c.in_ok-put_call.ensures.appended
