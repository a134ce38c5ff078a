use Rattle.d3d_memory.proofs.Parts as parts
use Rattle.std.proofs.Common.{◌∙◌, ap, Option, Some, sym}
use Rattle.d3d_model.specs.Binding.{BoundView}
use Rattle.d3d_model.specs.Memory.{cleared}
use Rattle.d3d_memory.proofs.memory.Memory.clear.Goals as goal

pub returns-in-Some : goal.returns-in-Some
returns-in-Some c =
    let shown : BoundView = record { view = c.v.inside.view; shape = c.v.inside.shape } in
    parts.cleared _ c.args.self.now c.clear.new.self c.self.view_is shown c.args.values.now c.clear.ensures
    ∙ ap (λ (v : BoundView). cleared c.args.self.now (Some v) c.args.values.now) c.v.view_is
    ∙ ap (λ (v : Option BoundView). cleared c.args.self.now v c.args.values.now) (sym c.in-Some.is)
