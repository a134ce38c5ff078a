use Rattle.std.proofs.Common.{◌≡◌, ℕ, List, Ok, Err, sym, subst}
use Rattle.std.specs.List.Sorted.{IsBinarySearchResult}
use Rattle.std.specs.Ordering.{nat_cmp}
use Rattle.pipe_cache.specs.Cells.{Cell, HasShader, place_in}
use Rattle.pipe_cache.proofs.Places.{search_finds, search_found}
use Rattle.pipe_cache.proofs.cache.Cache.place.Goals as goal

pub unreachable-requires : goal.unreachable-requires
unreachable-requires c =
    search_finds c.self.inside.cells.items c.self.inside.calls.items c.args.shader c.in-Err.field-0 c.self.invariant.0 c.self.invariant.1
    (subst (λ (cells : List Cell). HasShader cells c.args.shader) (sym c.self.view_is) c.requires)
    (subst (λ (calls : List ℕ). IsBinarySearchResult (λ y. nat_cmp y c.args.shader) calls (Err c.in-Err.field-0)) c.deref.ensures.value c.in-Err.ensures.position)

pub returns : goal.returns
returns c =
    subst (λ (cells : List Cell). c.in-Ok.place ≡ place_in cells c.args.shader) c.self.view_is
    (search_found c.self.inside.cells.items c.self.inside.calls.items c.args.shader c.in-Ok.place c.self.invariant.0 c.self.invariant.1
    (subst (λ (calls : List ℕ). IsBinarySearchResult (λ y. nat_cmp y c.args.shader) calls (Ok c.in-Ok.place)) c.deref.ensures.value c.in-Ok.ensures.position))
