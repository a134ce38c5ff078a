use Rattle.std.proofs.Common.{sym, ap, ◌∙◌}
use Rattle.shader_model.specs.Shader.{program_of}
use Rattle.d3d_state.specs.Shaders.{program_by}
use Rattle.pipe_cache.specs.Modules.{module_for}
use Rattle.pipe_cache.proofs.Emitting.{emitted_for}
use Rattle.pipe_cache.specs.declared.source.Source.{Source}
use Rattle.pipe_cache.proofs.made.Made.emit.Goals as goal

pub invariant_of-result : goal.invariant_of-result
invariant_of-result c = record {
  made =
      ap (λ (s : Source). module_for s.words.items) c.in_ok-source.ensures
      ∙ emitted_for _ (program_of c.tree.result.now) _ (ap (λ (s : Source). program_by s.words.items) (sym c.deref.ensures) ∙ c.tree.ensures) c.in_ok-emitted.ensures.words;
}
