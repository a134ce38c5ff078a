use Rattle.std.proofs.Common.{ap, ◌∙◌}
use Rattle.d3d_model.specs.D3dState.{bytes_if}
use Rattle.d3d_memory.proofs.Kept.{at_id}
use Rattle.d3d_memory.proofs.contents.Contents.bytes.Goals as goal

pub returns-in-Some : goal.returns-in-Some
returns-in-Some c = c.as_slice.ensures.value ∙ ap bytes_if (at_id c.self.inside.buffers.entries c.args.self.now c.args.id _ c.self.view_is c.in-Some.ensures.value)

pub returns-in-None : goal.returns-in-None
returns-in-None c = ap bytes_if (at_id c.self.inside.buffers.entries c.args.self.now c.args.id _ c.self.view_is c.in-None.ensures.value)
