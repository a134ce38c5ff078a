use Rattle.std.proofs.Common.{◌+◌, List, ℕ, ap, ◌∙◌, arith}
use Rattle.std.proofs.lemmas.List.{with_items_is}
use Rattle.d3d_model.specs.Regions.{slice}
use Rattle.d3d_memory.specs.Contents.{changed}
use Rattle.d3d_memory.proofs.Kept.{copied_back}
use Rattle.d3d_memory.proofs.contents.Contents.copy.Goals as goal

pub returns : goal.returns
returns c =
    copied_back c.args.self.now c.take-bytes.new.self c.restore.new.self c.args.to.now.res c.args.from.now.res c.args.to.now.at c.args.from.now.at c.args.len c.deref_mut.result.now c.within.result.now c.put.new.bytes
    (λ e. omega (arith, e))
    c.take-bytes.ensures.rest
    (c.deref_mut.ensures.value ∙ c.take-bytes.ensures.value)
    (c.within.ensures ∙ ap (λ (b : List ℕ). slice b c.args.from.now.at (c.args.from.now.at + c.args.len)) c.bytes.ensures)
    c.put.ensures
    (c.restore.ensures ∙ ap (λ (b : List ℕ). changed (λ old. b) c.take-bytes.new.self c.args.to.now.res) (with_items_is c.take-bytes.result c.put.new.bytes (c.put.auto.bytes ∙ c.deref_mut.ensures.len)))
