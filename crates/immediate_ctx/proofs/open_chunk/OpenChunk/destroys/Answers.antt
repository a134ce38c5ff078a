use Rattle.std.proofs.Common.{◌≡◌, ℕ, List, not, ◌==◌, ap, ◌∙◌, rules, tests}
use Rattle.std.proofs.lemmas.Fn.{filter_same}
use Rattle.cs_chunk.specs.Chunk.{entries_of, pages_of}
use Rattle.immediate_ctx.specs.OpenChunk.{Filled, without}
use Rattle.immediate_ctx.proofs.open_chunk.OpenChunk.destroys.Goals as goal

pub returns : goal.returns
returns c =
    let kept : c.retain.new.self.items ≡ without c.args.block c.self.inside.named.items =
    filter_same _ (λ (m : ℕ). not (m == c.args.block)) _ (λ x b f' k. search (rules, tests)) _ _
    c.retain.ensures.filtered in
    ap (λ (ns : List ℕ). record {
      entries = entries_of c.self.inside.chunk;
      pages = pages_of c.self.inside.chunk;
      counts = c.self.inside.counts;
      placed = c.self.inside.placed.items;
      used = c.self.inside.used.items;
      named = ns;
    }) kept
    ∙ ap (λ (f : Filled). record f { named = without c.args.block f.named }) c.self.view_is
