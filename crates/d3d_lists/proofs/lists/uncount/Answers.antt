use Rattle.std.proofs.Common.{[], get_or, arith}
use Rattle.call_log.specs.View.{call_view}
use Rattle.call_log.specs.declared.call.Call.TheVariants as codes
use Rattle.d3d_model.specs.Stream.{names}
use Rattle.d3d_lists.specs.declared.numbered.Numbered as code
use Rattle.d3d_lists.proofs.Times.{times_named, times_none, times_taken}
use Rattle.d3d_lists.proofs.lists.uncount.Goals as goal

pub calls-init : goal.calls-init
calls-init c = λ k. omega (arith, times_none k)

pub calls-preserved : goal.calls-preserved
calls-preserved c = λ k.
    let cs = c.args.calls.now in
    let i = c.calls.c-index in
    let none : code.Numbered = record { number = 0; call = codes.Buffer 0 0 0 0 0 0 (record { ref_ptr = (0, 0); now = [] }) } in
    omega (
      arith,
      c.calls.invariant k,
      c.lower.ensures k,
      c.lower-in-calls.ensures k,
      times_taken k cs i none c.calls-test.true,
      times_named k c.names_of-one.result.0 c.names_of-one.result.1 (names (call_view (get_or cs i none).call)) c.names_of-one.ensures,
    )
