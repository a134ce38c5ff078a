-- Counts by classes, before the first call.
use Rattle.std.proofs.Common.{◌≡◌, ap, ◌∙◌}
use Rattle.base_lemmas.specs.IdMap.{empty}
use Rattle.d3d_lists.specs.declared.name.Name.{Name}
use Rattle.d3d_lists.specs.declared.name.Name.TheVariants.{Buffer, View, Shader, Query}
use Rattle.d3d_lists.specs.Counts.{Counts, count_at}
use Rattle.d3d_lists.specs.Named.{count_of}
use Rattle.d3d_lists.proofs.Numbers.{count-empty}

none_at : (m : Counts) (id : _) → m ≡ empty → count_at m id ≡ 0
none_at m id e = ap (λ (c : Counts). count_at c id) e ∙ count-empty id

-- nothing is named
pub none_named : (buffers views shaders queries : Counts) → buffers ≡ empty → views ≡ empty → shaders ≡ empty → queries ≡ empty
    → (k : Name) → count_of (record { buffers = buffers; views = views; shaders = shaders; queries = queries }) k ≡ 0
none_named buffers views shaders queries b v s q (Buffer id) = none_at buffers id b
none_named buffers views shaders queries b v s q (View id) = none_at views id v
none_named buffers views shaders queries b v s q (Shader id) = none_at shaders id s
none_named buffers views shaders queries b v s q (Query id) = none_at queries id q
