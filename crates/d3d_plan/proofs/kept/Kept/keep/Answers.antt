use Rattle.std.proofs.Common.{◌≡◌, ap, subst, sym}
use Rattle.call_log.specs.Call as calls
use Rattle.call_log.specs.Call.{Call}
use Rattle.call_log.specs.View.{call_view}
use Rattle.d3d_checks.specs.Accepted.{Accepted}
use Rattle.d3d_state.specs.Meaning.{objects_of}
use Rattle.d3d_plan.specs.Keeping.{KeepsCall}
use Rattle.std.specs.Prelude.{IfOk}
use Rattle.d3d_plan.proofs.Moves.{all_contexts}
use Rattle.d3d_plan.proofs.kept.Kept.keep.Goals as goal

pub returns-in-FinishList : goal.returns-in-FinishList
returns-in-FinishList c =
    let o = objects_of c.args.objects.now in
    let is : call_view c.args.call.now ≡ calls.FinishList c.in-FinishList.list = ap call_view c.in-FinishList.is in
    subst (λ (k : Call). IfOk c.finish.result (KeepsCall c.args.n o c.args.context k c.args.self.now c.finish.new.self)) (sym is)
    (c.finish.ensures c.args.n o c.requires.reached (all_contexts c.args.objects.now) (subst (λ (k : Call). Accepted o c.args.context k) is c.requires.accepted))
