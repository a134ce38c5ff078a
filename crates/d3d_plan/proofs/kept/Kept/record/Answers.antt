use Rattle.std.proofs.Common.{refl, subst, sym, ◌∙◌}
use Rattle.call_log.specs.View.{call_view}
use Rattle.d3d_effects.specs.Listed.{KeepsList}
use Rattle.d3d_effects.specs.declared.listed.ListUses.{ListUses}
use Rattle.d3d_state.specs.Meaning.{objects_of}
use Rattle.d3d_plan.proofs.Keeping.{any_default, keeps_recorded}
use Rattle.d3d_plan.proofs.Moves.{all_contexts, within}
use Rattle.d3d_plan.proofs.kept.Kept.record.Goals as goal

pub returns : goal.returns
returns c =
    let o = objects_of c.args.objects.now in
    let call = call_view c.args.call.now in
    keeps_recorded c.args.n o c.args.context call c.args.self.now _ _ c.record.new.self c.requires.reached c.requires.accepted c.requires.deferred c.requires.unlisted
    (all_contexts c.args.objects.now) (within o c.args.context call c.requires.accepted)
    (λ d cs keeps set. c.in_ok-record.ensures cs
    (subst (λ (l : ListUses). KeepsList o cs l)
    (any_default c.args.self.now.opened.items c.args.context d c.index_mut.result.now c.requires.opened ∙ sym c.index_mut.ensures.value) keeps) set)
    refl refl refl refl refl
