use Rattle.std.proofs.Common.{◌≡◌, [], Option, sym, ap, ◌∙◌, subst}
use Rattle.std.proofs.lemmas.Result.{on_ok_weaker}
use Rattle.dx_types.specs.declared.shape.ViewShape.{ViewShape}
use Rattle.core_model.specs.Batching.{make_play}
use Rattle.core_model.specs.Renaming.{work_on}
use Rattle.d3d_model.specs.Binding.{BoundView}
use Rattle.log_script.specs.Plays.{clear, clears}
use Rattle.item_make.specs.Making.{Makes}
use Rattle.item_make.proofs.commands.clear_view.Goals as goal

pub returns-in_default : goal.returns-in_default
returns-in_default c = λ part script past p m names h.
    subst (λ (b : Option BoundView). Makes part (make_play script c.args.call (clears past c.args.set.now.predicate b c.args.v0 c.args.v1 c.args.v2 c.args.v3) [] p m) c.args.stream.now c.args.parts.now)
    (sym c.in_default.is ∙ c.bound_view.ensures.value) h

pub returns : goal.returns
returns c =
    on_ok_weaker c.predicated.result
    (λ made. λ part script past p m names h.
    let is : c.clear-work.result ≡ work_on m.blocks (clear past c.in-Some.bound.shape c.args.v0 c.args.v1 c.args.v2 c.args.v3) =
    c.clear-work.ensures past m.blocks names
    ∙ ap (λ (s : ViewShape). work_on m.blocks (clear past s c.args.v0 c.args.v1 c.args.v2 c.args.v3)) (ap (λ (v : BoundView). v.shape) c.bound.view_is) in
    subst (λ (b : Option BoundView). Makes part (make_play script c.args.call (clears past c.args.set.now.predicate b c.args.v0 c.args.v1 c.args.v2 c.args.v3) [] p m) c.predicated.new.stream c.predicated.new.parts)
    (sym c.in-Some.is ∙ c.bound_view.ensures.value)
    (made part script past p m (clear past c.in-Some.bound.shape c.args.v0 c.args.v1 c.args.v2 c.args.v3) names is h))
    c.predicated.ensures
