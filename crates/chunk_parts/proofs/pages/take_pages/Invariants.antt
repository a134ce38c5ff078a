use Rattle.std.proofs.Common.{◌≡◌, [], ◌++◌, map, length}
use Rattle.cs_chunk.specs.Chunk.{pages_of, with_pages}
use Rattle.staging_pages.specs.PageState.{PageState}
use Rattle.chunk_parts.proofs.pages.take_pages.Given as goal

abbrev pub invariant-pages : goal.invariant-pages
invariant-pages l = record {
  taken : l.pages.items ++ map (λ (p : PageState). p.block) (pages_of l.chunk) ≡ map (λ (p : PageState). p.block) (pages_of l.initial.chunk);
  rest : with_pages l.chunk [] ≡ with_pages l.initial.chunk [];
}

abbrev pub decreases-pages : goal.decreases-pages
decreases-pages l = length (pages_of l.chunk)
