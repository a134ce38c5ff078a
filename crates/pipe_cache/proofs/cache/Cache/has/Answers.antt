use Rattle.std.proofs.Common.{ℕ, Bool, List, sym, subst}
use Rattle.std.specs.Prelude.{◌↔◌, IsTrue}
use Rattle.std.specs.List.Sorted.{IsBinarySearchResult}
use Rattle.std.specs.Ordering.{nat_cmp}
use Rattle.pipe_cache.specs.Cells.{Cell, HasShader}
use Rattle.pipe_cache.proofs.Places.{search_tells}
use Rattle.pipe_cache.proofs.cache.Cache.has.Goals as goal

pub returns : goal.returns
returns c =
    subst (λ (cells : List Cell). IsTrue c.is_ok.result ↔ HasShader cells c.args.shader) c.self.view_is
    (subst (λ (found : Bool). IsTrue found ↔ HasShader c.self.inside.cells.items c.args.shader) (sym c.is_ok.ensures.value)
    (search_tells c.self.inside.cells.items c.self.inside.calls.items c.args.shader c.binary_search.result c.self.invariant.0 c.self.invariant.1
    (subst (λ (calls : List ℕ). IsBinarySearchResult (λ y. nat_cmp y c.args.shader) calls c.binary_search.result) c.deref.ensures.value c.binary_search.ensures.position)))
