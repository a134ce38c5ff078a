use Rattle.std.proofs.Common.{ap, ◌∙◌}
use Rattle.d3d_model.specs.Binding.{Bindings, footprint}
use Rattle.d3d_views.specs.Meaning.{meaning}
use Rattle.d3d_views.proofs.Pushed.{all_parts}
use Rattle.d3d_views.proofs.bindings.Bindings.footprint.Goals as goal

pub returns : goal.returns
returns c =
    let b = c.self.inside in
    all_parts (record { shader = b.shader; constants = b.constants; srvs = b.srvs; uavs = b.uavs; predicate = meaning b.predicate })
    c.new-ranges.result.items c.push_constants.new.ranges.items c.push_views.new.ranges.items c.push_views-2.new.ranges.items c.push_word.new.ranges.items
    c.new-ranges.ensures.items c.in_ok-push_constants.ensures c.in_ok-push_views.ensures c.in_ok-push_views-2.ensures c.in_ok-push_word.ensures
    ∙ ap (λ (b : Bindings). footprint b) c.self.view_is
