use Rattle.std.proofs.Common.{List, ℕ, ap, ◌∙◌}
use Rattle.d3d_model.specs.Regions.{put, filled}
use Rattle.d3d_memory.proofs.Puts.{all_written}
use Rattle.d3d_memory.proofs.contents.filled_bytes.Goals as goal

pub returns : goal.returns
unfolding filled
returns c =
    all_written c.in_ok-bytes.bytes c.put.new.bytes (c.put.auto.bytes ∙ c.deref_mut.ensures.len)
    ∙ c.put.ensures
    ∙ ap (λ (b : List ℕ). put b 0 c.args.first.now) (c.deref_mut.ensures.value ∙ c.in_ok-bytes.ensures.items_if_clones_equal (λ y h. h))
