use Rattle.std.proofs.Common.{[], ◌∷◌, ◌++◌, Option, ℕ, ap, ◌∙◌}
use Rattle.chunk_parts.specs.Chunks.{placed_of}
use Rattle.chunk_parts.proofs.Taking.{places_more, blocks_more, marks_more}
use Rattle.chunk_parts.proofs.handed.Handed.take.Goals as goal

pub returns : goal.returns
returns c = λ entries h.
    let e = c.args.e in
    let old = c.args.self.now.placed.items in
    let pushed =
    c.in_ok-push.ensures.items
    ∙ ap (λ (b : Option ℕ). old ++ record { call = e.call; item = e.item; block = b; mark = e.mark; staged = e.staged } ∷ []) c.number_of.ensures in
    record {
      placed = places_more entries e _ _ h.placed pushed;
      blocks = blocks_more entries e _ _ h.blocks c.in_ok-push_block.ensures;
      marks = marks_more old _ (placed_of e) _ _ h.marks pushed c.in_ok-push_mark.ensures;
    }
