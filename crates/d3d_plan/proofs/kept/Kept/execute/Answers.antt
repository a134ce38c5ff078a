use Rattle.std.proofs.Common.{◌∙◌, List, refl, sym, ap}
use Rattle.dx_types.specs.declared.range.ResRange.{ResRange}
use Rattle.d3d_state.specs.Meaning.{objects_of}
use Rattle.d3d_effects.specs.Listed.{cut_at}
use Rattle.d3d_plan.specs.Shown.{bound_in}
use Rattle.d3d_plan.proofs.Keeping.{keeps_executed}
use Rattle.d3d_plan.proofs.kept.Kept.execute.Goals as goal

pub returns : goal.returns
returns c = λ flag accepted.
    keeps_executed c.args.n (objects_of c.args.objects.now) c.args.list flag c.args.self.now _ c.in-Some.piece.now c.requires.reached accepted
    (λ h. c.in_ok-keep_list.ensures
    (ap (λ (rs : List ResRange). cut_at 0 rs c.ends_of.result.now) c.ranges_of.ensures ∙ ap (cut_at 0 (bound_in c.args.self.now.tables c.in-Some.piece.now)) c.ends_of.ensures ∙ h))
    refl refl refl (sym c.in-Some.ensures.value)
