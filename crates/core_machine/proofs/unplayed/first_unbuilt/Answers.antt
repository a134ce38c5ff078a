use Rattle.std.proofs.Common.{◌+◌, sym, arith}
use Rattle.call_log.specs.View.{frame_view}
use Rattle.core_machine.specs.Unplayed.{is_unplayed_record}
use Rattle.core_machine.proofs.Records.{none_next, none_left}
use Rattle.core_machine.proofs.unplayed.first_unbuilt.Goals as goal

pub calls-preserved : goal.calls-preserved
calls-preserved c =
    none_next is_unplayed_record c.args.log.now.frames (c.calls.i + 1) (frame_view c.in-Some.item) c.calls.invariant c.in-Some.ensures.record (sym c.if-is_unplayed.ensures)

pub returns : goal.returns
returns c = none_left is_unplayed_record c.args.log.now.frames c.calls.i c.calls.invariant (omega (arith, c.count-i-end.ensures.count, c.calls-test.false))
