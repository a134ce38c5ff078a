use Rattle.std.proofs.Common.{refl, sym, ap, ◌∙◌}
use Rattle.std.specs.Prelude.{slice_index_or, slice_set}
use Rattle.d3d_effects.specs.declared.listed.ListUses.{ListUses}
use Rattle.call_log.specs.Call as calls
use Rattle.d3d_plan.proofs.Keeping.{keeps_finished}
use Rattle.d3d_plan.proofs.Moves.{within}
use Rattle.d3d_plan.proofs.kept.Kept.finish.Goals as goal

pub returns : goal.returns
returns c = λ n o reached wide accepted.
    keeps_finished n o c.args.context c.args.list c.args.self.now _ c.replace-kept.result c.new.result c.in_ok-piece.piece reached wide accepted
    (within o c.args.context (calls.FinishList c.args.list) accepted)
    (let w = c.replace-kept.ensures.value in
    w ∙ c.index_mut.ensures.value ∙ ap (λ (d : ListUses). slice_index_or c.args.self.now.opened.items c.args.context d) (sym w)) c.new.ensures (let a = c.replace-kept.ensures.after in ap (λ (l : ListUses). slice_set c.args.self.now.opened.items c.args.context l) a) refl c.in_ok-piece.ensures.ranges c.in_ok-piece.ensures.calls c.in_ok-piece.ensures.ends c.in_ok-piece.ensures.piece c.in_ok-insert.ensures.updates.0
