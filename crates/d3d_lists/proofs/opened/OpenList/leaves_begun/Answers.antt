use Rattle.std.proofs.Common.{false, ◌∙◌}
use Rattle.d3d_model.specs.Stream.{begun_after}
use Rattle.d3d_lists.specs.Calls.{calls_in}
use Rattle.d3d_lists.proofs.Begun.{any_begun}
use Rattle.d3d_lists.proofs.opened.OpenList.leaves_begun.Goals as goal

pub returns : goal.returns
returns c =
    let cs = c.args.self.now.calls.items in
    c.any_begun.ensures ∙ any_begun (λ q. begun_after q false (calls_in cs)) cs
