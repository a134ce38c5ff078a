use Rattle.std.proofs.Common.{List, ℕ, ap, ◌∙◌}
use Rattle.std.specs.Global.{Vec}
use Rattle.base_lemmas.specs.CodeMap.{map_of}
use Rattle.base_lemmas.proofs.CodeMaps.{map_of-nil}
use Rattle.d3d_memory.proofs.Kept.{items_of}
use Rattle.d3d_memory.proofs.contents.Contents.new.Goals as goal

pub returns : goal.returns
returns c = ap (λ (es : List (ℕ × Vec ℕ)). map_of items_of es) c.new.ensures.empty ∙ map_of-nil items_of
