use Rattle.std.proofs.Common.{◌≡◌, List, [], ℕ, ap, ◌∙◌}
use Rattle.base_lemmas.specs.IdMap.{IdMap, empty}
use Rattle.d3d_model.specs.D3dState.{Memory}
use Rattle.base_lemmas.specs.CodeMap.{map_of}
use Rattle.base_lemmas.proofs.CodeMaps.{map_of-nil}
use Rattle.d3d_memory.specs.Contents.{Contents}
use Rattle.d3d_memory.proofs.memory.Memory.new.Goals as goal

-- the memory of these parts, of which none ran
none_ran : Contents → IdMap ℕ → IdMap ℕ → Memory
none_ran bytes begun counts = record { bytes = bytes; ran = 0; begun_at = begun; counts = counts }

empty_map : (es : List (ℕ × ℕ)) → es ≡ [] → map_of (λ n. n) es ≡ empty
empty_map es e = ap (map_of (λ n. n)) e ∙ map_of-nil (λ n. n)

pub returns : goal.returns
unfolding none_ran
returns c =
    ap (λ (b : Contents). none_ran b (map_of (λ n. n) c.new-2.result.entries) (map_of (λ n. n) c.new-3.result.entries)) c.new.ensures
    ∙ ap (λ (b : IdMap ℕ). none_ran empty b (map_of (λ n. n) c.new-3.result.entries)) (empty_map _ c.new-2.ensures.empty)
    ∙ ap (λ (b : IdMap ℕ). none_ran empty empty b) (empty_map _ c.new-3.ensures.empty)
