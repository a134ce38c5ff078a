use Rattle.std.proofs.Common.{List, ℕ, ap, ◌∙◌}
use Rattle.base_lemmas.specs.CodeMap.{map_of}
use Rattle.base_lemmas.proofs.CodeMaps.{map_of-nil}
use Rattle.immediate_ctx.specs.declared.buffers.Buffer.{Buffer}
use Rattle.immediate_ctx.proofs.buffers.Buffers.new.Goals as goal

pub returns : goal.returns
returns c = ap (λ (es : List (ℕ × Buffer)). map_of (λ b. b) es) c.new.ensures.empty ∙ map_of-nil (λ (b : Buffer). b)
