use Rattle.std.proofs.Common.{List, ℕ, ap, ◌∙◌}
use Rattle.base_lemmas.specs.CodeMap.{map_of}
use Rattle.base_lemmas.proofs.CodeMaps.{map_of-nil}
use Rattle.immediate_ctx.proofs.copies.Copies.new.Goals as goal

pub returns : goal.returns
returns c = ap (λ (es : List (ℕ × (List ℕ))). map_of (λ n. n) es) c.new.ensures.empty
    ∙ map_of-nil (λ (n : (List ℕ)). n)
